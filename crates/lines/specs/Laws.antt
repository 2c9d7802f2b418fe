-- Lines taken off a text one by one: a law for each way out of the loop to a line's end, and the closing line by the first line and the rest.
use Rattle.std.specs.Prelude.{◌≡◌, refl, Bool, true, false, ◌&&◌, cond, List, [], ◌∷◌, ◌++◌, ◌⊎◌, ℕ, ◌+◌, ◌-◌, ◌≤◌, ◌<◌, length, get_or, take, drop, leb, Some, None}
use Rattle.std.proofs.Math.Path.{sym}
use Rattle.std.proofs.Common.{ap, ◌∙◌, append_assoc, append-nil, inl, inr, add-zero, eq-or-lt_of_le, arith, length-append, length-take, length-drop, drop_at, drop-drop}
use Rattle.std.proofs.lemmas.List.{get_or-take, get_or-drop}
use Rattle.std.proofs.Math.Option.{Option, none, some, map}
use borrow.Author.Tests.{le-leb, lt-leb, leb-true, eq-eqb, ne_eqb}
use Rattle.rules.specs.Text.{ascii, equal, fits}
use Rattle.rules.specs.Lines.{Line, TakenLine, lead, take_line, lines, before, last_is_closing, in_lines, is_closing_line, has_first_line, framed}
use Rattle.laws.specs.Parts.{cut, from, cut_done, cut_snoc, from_step, from_done, from_length}
use Rattle.laws.specs.Reading.{fits_length}
use Rattle.laws.specs.Slices.{rest_whole}
use Rattle.laws.specs.Equal.{equal_true, rest_differs, rest_alike}
use Rattle.laws.specs.Tests.{not_holds, never, and_left, and_right, none_some}
use Rattle.rule_laws.specs.Lines.{FirstLine, first_line_lem, line_taken, Lined, Lined.end, Lined.next, lines_cases, lines_before}
use Rattle.lines.specs.Answers.{taken, LineAt, LineEnd, NoLine, Plain}

-- ---- bytes before a line

lead_none : (p : List ℕ) → lead p none ≡ none
unfolding lead
lead_none p = refl

lead_nil : (o : Option TakenLine) → lead [] o ≡ o
unfolding lead
lead_nil none = refl
lead_nil (some t) = refl

lead_more : (p : List ℕ) (c : ℕ) (o : Option TakenLine) → lead (p ++ (c ∷ [])) o ≡ lead p (lead (c ∷ []) o)
unfolding lead
lead_more p c none = refl
lead_more p c (some t) = ap {B = Option TakenLine} (λ (l : List ℕ). some record { line = l; others = t.others }) (append_assoc p (c ∷ []) t.line)

lead_ended : (p cs : List ℕ) → lead p (some record { line = []; others = cs }) ≡ some record { line = p; others = cs }
unfolding lead
lead_ended p cs = ap {B = Option TakenLine} (λ (l : List ℕ). some record { line = l; others = cs }) (append-nil p)

-- ---- the first two bytes of a text

module _ (c d : ℕ) (cs : List ℕ) where
  byte_on : (c ≡ 13 → ⊥) → (c ≡ 10 → ⊥) → take_line (c ∷ d ∷ cs) ≡ lead (c ∷ []) (take_line (d ∷ cs))
  unfolding take_line
  byte_on h k = rw (ne_eqb _ _ h, ne_eqb _ _ k)

  byte_ends : c ≡ 13 → d ≡ 10 → take_line (c ∷ d ∷ cs) ≡ some record { line = []; others = cs }
  unfolding take_line
  byte_ends h k = rw (eq-eqb _ _ h, eq-eqb _ _ k)

  byte_cr : c ≡ 13 → (d ≡ 10 → ⊥) → take_line (c ∷ d ∷ cs) ≡ none
  unfolding take_line
  byte_cr h k = rw (eq-eqb _ _ h, ne_eqb _ _ k)

  byte_lf : (c ≡ 13 → ⊥) → c ≡ 10 → take_line (c ∷ d ∷ cs) ≡ none
  unfolding take_line
  byte_lf h k = rw (ne_eqb _ _ h, eq-eqb _ _ k)

-- fewer than two bytes hold no line
few : (s : List ℕ) (i : ℕ) → length s ≤ i + 1 → take_line (from s i) ≡ none
unfolding take_line
few s i h = go (from s i) (from_length s i)
  where
    go : (cs : List ℕ) → length cs ≡ length s - i → take_line cs ≡ none
    go [] e = refl
    go (c ∷ []) e = refl
    go (c ∷ d ∷ cs) e = absurd (omega arith)

-- ---- the loop to the line's end: the bytes from `at` to `i` stand before what is left

pub line_starts : (s : List ℕ) (at : ℕ) → lead (cut s at at) (take_line (from s at)) ≡ take_line (from s at)
line_starts s at = rw (cut_done s at at (omega arith) (omega arith)) (lead_nil _)

module _ (s : List ℕ) (at i : ℕ) (x : Option TakenLine) (inv : lead (cut s at i) (take_line (from s i)) ≡ x) where
  pub line_out : length s ≤ i + 1 → x ≡ none
  line_out h = sym (rw (few s i h, lead_none) at inv)

  module _ (h : i + 1 < length s) where
    two : lead (cut s at i) (take_line (get_or s i 0 ∷ get_or s (i + 1) 0 ∷ from s (i + 1 + 1))) ≡ x
    two = rw (← from_step s (i + 1) h, ← from_step s i (omega arith)) inv

    pub line_ends : get_or s i 0 ≡ 13 → get_or s (i + 1) 0 ≡ 10 → x ≡ some (taken s at i)
    line_ends c d = let e : i + 2 ≡ i + 1 + 1 = omega arith in rw e (sym (rw (byte_ends _ _ _ c d, lead_ended) at two))

    pub line_cr : get_or s i 0 ≡ 13 → (get_or s (i + 1) 0 ≡ 10 → ⊥) → x ≡ none
    line_cr c d = sym (rw (byte_cr _ _ _ c d, lead_none) at two)

    module _ (c : get_or s i 0 ≡ 13 → ⊥) where
      pub line_lf : get_or s i 0 ≡ 10 → x ≡ none
      line_lf d = sym (rw (byte_lf _ _ _ c d, lead_none) at two)

      pub line_on_lem : (get_or s i 0 ≡ 10 → ⊥) → at ≤ i → lead (cut s at (i + 1)) (take_line (from s (i + 1))) ≡ x
      line_on_lem d k = rw (cut_snoc s at i k (omega arith), lead_more, from_step s (i + 1) h, ← byte_on _ _ (from s (i + 1 + 1)) c d) two

module _ (s : List ℕ) (at n k : ℕ) (inv : lead (cut s at (at + k)) (take_line (from s (at + k))) ≡ take_line (from s at)) where
  module _ (h : k < n) (l : at + n ≤ length s) where
    pub plain_on : (get_or s (at + k) 0 ≡ 13 → ⊥) → (get_or s (at + k) 0 ≡ 10 → ⊥) → lead (cut s at (at + (k + 1))) (take_line (from s (at + (k + 1)))) ≡ take_line (from s at)
    plain_on c d = let e : at + (k + 1) ≡ at + k + 1 = omega arith in rw e (go (eq-or-lt_of_le (omega arith)))
      where
        go : (at + k + 1 ≡ length s) ⊎ (at + k + 1 < length s) → lead (cut s at (at + k + 1)) (take_line (from s (at + k + 1))) ≡ take_line (from s at)
        go (inl q) = rw (few s (at + k + 1) (omega arith), lead_none) (sym (line_out s at (at + k) _ inv (omega arith)))
        go (inr q) = line_on_lem s at (at + k) _ inv q c d (omega arith)

    pub plain_far : 14 ≤ get_or s (at + k) 0 → lead (cut s at (at + (k + 1))) (take_line (from s (at + (k + 1)))) ≡ take_line (from s at)
    plain_far c = plain_on (λ d. omega arith) (λ d. omega arith)

    pub plain_cr : get_or s (at + k) 0 ≡ 13 → Plain s at n k
    plain_cr c = record { few = omega arith; same = inv; stop = λ h d. absurd (d c) }

    pub plain_lf : get_or s (at + k) 0 ≡ 10 → Plain s at n k
    plain_lf c = record { few = omega arith; same = inv; stop = λ h d. c }

  pub plain_end : k ≤ n → n ≤ k → Plain s at n k
  plain_end h l = record { few = h; same = inv; stop = λ j d. absurd (omega arith) }

-- no CR at the first of them: LF
pub plain_bad : (s : List ℕ) (at n k : ℕ) → Plain s at n k → at + k + 1 < length s → at + n ≡ length s → (get_or s (at + k) 0 ≡ 13 → ⊥) → take_line (from s at) ≡ none
plain_bad s at n k p h e c = line_lf s at (at + k) _ p.same h c (p.stop (omega arith) c)

-- ---- the same over what is left from `at` on, as a slice: k bytes of it are passed

abbrev rest : List ℕ → ℕ → List ℕ
rest s at = take (length s - at) (drop at s)

pub line_starts_at : (s : List ℕ) (at : ℕ) → lead (cut s at (at + 0)) (take_line (from s (at + 0))) ≡ take_line (from s at)
line_starts_at s at = rw add-zero (line_starts s at)

module _ (s : List ℕ) (at k : ℕ) (inv : lead (cut s at (at + k)) (take_line (from s (at + k))) ≡ take_line (from s at)) where
  -- behind the last of them there is no line
  pub none_behind : length (rest s at) ≤ k → at ≤ length s → LineAt s at None
  none_behind h a = record { told = record { same = line_out s at (at + k) _ inv (omega (arith, h, length-drop at s, length-take (length s - at) (drop at s))) } }

  module _ (h : k < length (rest s at)) where
    inside : at + k < length s
    inside = omega (arith, h, length-drop at s, length-take (length s - at) (drop at s))

    byte : get_or (rest s at) k 0 ≡ get_or s (at + k) 0
    byte = get_or-take (length s - at) (drop at s) k 0 (omega (arith, inside)) ∙ get_or-drop at s k 0

    pub found : get_or (rest s at) k 0 ≡ 13 → at + k + 1 < length s → get_or s (at + k + 1) 0 ≡ 10 → LineAt s at (Some (at + k))
    found c l d = record { told = record { start = omega arith; room = omega arith; same = sym (line_ends_lem) } }
      where
        line_ends_lem : some (taken s at (at + k)) ≡ take_line (from s at)
        line_ends_lem = sym (line_ends s at (at + k) _ inv l (sym byte ∙ c) d)

    pub cr_alone : get_or (rest s at) k 0 ≡ 13 → (at + k + 1 < length s → get_or s (at + k + 1) 0 ≡ 10 → ⊥) → LineAt s at None
    cr_alone c d = record { told = record { same = go (eq-or-lt_of_le (omega (arith, inside))) } }
      where
        go : (at + k + 1 ≡ length s) ⊎ (at + k + 1 < length s) → take_line (from s at) ≡ none
        go (inl q) = line_out s at (at + k) _ inv (omega arith)
        go (inr q) = line_cr s at (at + k) _ inv q (sym byte ∙ c) (d q)

    pub lf_alone : (get_or (rest s at) k 0 ≡ 13 → ⊥) → get_or (rest s at) k 0 ≡ 10 → LineAt s at None
    lf_alone c d = record { told = record { same = go (eq-or-lt_of_le (omega (arith, inside))) } }
      where
        go : (at + k + 1 ≡ length s) ⊎ (at + k + 1 < length s) → take_line (from s at) ≡ none
        go (inl q) = line_out s at (at + k) _ inv (omega arith)
        go (inr q) = line_lf s at (at + k) _ inv q (λ x. c (byte ∙ x)) (sym byte ∙ d)

    pub passed : (get_or (rest s at) k 0 ≡ 13 → ⊥) → (get_or (rest s at) k 0 ≡ 10 → ⊥) → lead (cut s at (at + (k + 1))) (take_line (from s (at + (k + 1)))) ≡ take_line (from s at)
    passed c d = let e : at + (k + 1) ≡ at + k + 1 = omega arith in rw e (go (eq-or-lt_of_le (omega (arith, inside))))
      where
        go : (at + k + 1 ≡ length s) ⊎ (at + k + 1 < length s) → lead (cut s at (at + k + 1)) (take_line (from s (at + k + 1))) ≡ take_line (from s at)
        go (inl q) = rw (few s (at + k + 1) (omega arith), lead_none) (sym (line_out s at (at + k) _ inv (omega arith)))
        go (inr q) = line_on_lem s at (at + k) _ inv q (λ x. c (byte ∙ x)) (λ x. d (byte ∙ x)) (omega arith)

-- ---- the closing line

closed : in_lines (lines (ascii "-\r\n")) ≡ true
unfolding lines last_is_closing equal
closed = refl

-- a text that is more than its closing line closes as what stands behind its first line does
closes_behind : (l cs : List ℕ) → is_closing_line (l ++ 13 ∷ 10 ∷ cs) ≡ false → in_lines (lines cs) ≡ in_lines (map (before l) (lines cs))
unfolding is_closing_line equal last_is_closing
closes_behind l cs h = lines_cases (λ (o : Option (List Line)). in_lines o ≡ in_lines (map (before l) o)) cs refl (λ ls r. same r h)
  where
    same : {cs : List ℕ} {ls : List Line} → Lined cs ls → is_closing_line (l ++ 13 ∷ 10 ∷ cs) ≡ false → last_is_closing ls ≡ last_is_closing (l ∷ ls)
    same end h = not_holds _ (λ e. let z : ◌≡◌ {A = ℕ} 1 0 = (rw (equal_true l (ascii "-") e) at (ap (λ (b : Bool). cond {A = ℕ} b 1 0) h)) in omega arith)
    same (next p r) h = refl

-- nothing stands behind the closing line
closing_last : (cs : List ℕ) (t : TakenLine) → take_line cs ≡ some t → is_closing_line cs ≡ true → t.others ≡ []
unfolding is_closing_line take_line lead
closing_last cs t e h =
    let f : take_line (ascii "-\r\n") ≡ some t = ap (λ (x : List ℕ). take_line x) (sym (equal_true cs (ascii "-\r\n") h)) ∙ e in
    let u : record { line = 45 ∷ []; others = [] } ≡ t = cc in
    rw (← u)

-- so a line with others behind it is not the closing line
pub closing_later : (s : List ℕ) (at e : ℕ) → LineEnd s at e → e + 2 < length s → is_closing_line (from s at) ≡ false
closing_later s at e l h = sym (not_holds _ (λ c. let z : length (from s (e + 2)) ≡ 0 = ap (λ (x : List ℕ). length x) (closing_last (from s at) _ l.same c) in omega (arith, from_length s (e + 2))))

-- a text with a first line, and one without
lines_taken : (cs : List ℕ) (t : TakenLine) → take_line cs ≡ some t → lines cs ≡ map (before t.line) (lines t.others)
lines_taken cs t e = let f : FirstLine cs t = first_line_lem cs t e in ap lines f.text ∙ lines_before t.line t.others f.plain

none_closes : (cs : List ℕ) → take_line cs ≡ none → in_lines (lines cs) ≡ false
unfolding last_is_closing
none_closes cs e = lines_cases (λ (o : Option (List Line)). in_lines o ≡ false) cs refl (λ ls r. lineless r e)
  where
    lineless : {cs : List ℕ} {ls : List Line} → Lined cs ls → take_line cs ≡ none → last_is_closing ls ≡ false
    lineless end e = refl
    lineless (next {cs = cs} {l = l} p r) e = none_some (sym e ∙ line_taken l cs p)

-- the loop from line to line: what is left closes as the whole does
module _ (s : List ℕ) (at : ℕ) (x : Bool) (inv : in_lines (lines (from s at)) ≡ x) where
  pub closes_never : length s ≤ at → false ≡ x
  unfolding lines last_is_closing
  closes_never h = rw (from_done s at h) at inv

  module _ (b : Bool) (u : b ≡ is_closing_line (from s at)) where
    pub closes_now : b ≡ true → true ≡ x
    unfolding is_closing_line
    closes_now h = sym closed ∙ (rw (equal_true (from s at) (ascii "-\r\n") (sym u ∙ h)) at inv)

    pub closes_bad : NoLine s at → false ≡ x
    closes_bad n = sym (none_closes (from s at) n.same) ∙ inv

    pub closes_on : b ≡ false → (e : ℕ) → LineEnd s at e → in_lines (lines (from s (e + 2))) ≡ x
    closes_on h e l = closes_behind (cut s at e) (from s (e + 2)) (rw (← (first_line_lem (from s at) _ l.same).text) (sym u ∙ h)) ∙ sym (rw (lines_taken (from s at) _ l.same)) ∙ inv

-- where fewer or more than three bytes are left they are no closing line
pub closing_long : (s : List ℕ) (at : ℕ) → (length s - at ≡ 3 → ⊥) → false ≡ is_closing_line (from s at)
unfolding is_closing_line
closing_long s at = rest_differs s (ascii "-\r\n") at

-- all that is left, as a part of three bytes
module _ (s : List ℕ) (at : ℕ) where
  pub closing_part : at ≤ length s → length s - at ≡ 3 → (r : Bool) → r ≡ equal (cut s at (at + 3)) (cut (ascii "-\r\n") 0 3) → r ≡ is_closing_line (from s at)
  unfolding is_closing_line
  closing_part = rest_alike s (ascii "-\r\n") at

-- what is left, as a slice
pub closing_rest : (s : List ℕ) (at : ℕ) {b : Bool} → b ≡ is_closing_line (take (length s - at) (drop at s)) → b ≡ is_closing_line (from s at)
unfolding from
closing_rest s at e = rw (rest_whole s at) at e

-- ---- the frame

-- the last three bytes of a text that has others before them
last_three : (p cs : List ℕ) → 3 ≤ length cs → from (p ++ cs) (length (p ++ cs) - 3) ≡ from cs (length cs - 3)
unfolding from
last_three p cs h =
    let e : length (p ++ cs) - 3 ≡ length p + (length cs - 3) = omega (arith, length-append p cs) in
    rw e (sym (drop-drop (length cs - 3) (length p) (p ++ cs)) ∙ ap (drop (length cs - 3)) (drop_at p cs (length p) refl))

closing_size : (cs : List ℕ) → is_closing_line cs ≡ true → length cs ≡ 3
unfolding is_closing_line
closing_size cs h = ap (λ (l : List ℕ). length l) (equal_true cs (ascii "-\r\n") h)

-- a text ends in the closing line where what stands behind its first line does
ends_behind : (l cs : List ℕ) → is_closing_line (from cs (length cs - 3)) ≡ true → is_closing_line (from (l ++ 13 ∷ 10 ∷ cs) (length (l ++ 13 ∷ 10 ∷ cs) - 3)) ≡ true
ends_behind l cs h =
    let z : 3 ≤ length cs = omega (arith, closing_size _ h, from_length cs (length cs - 3)) in
    rw (← append_assoc l (13 ∷ 10 ∷ []) cs, last_three (l ++ 13 ∷ 10 ∷ []) cs z) h

-- so does a text in lines whose last one closes it
lined_ends : {cs : List ℕ} {ls : List Line} → Lined cs ls → last_is_closing ls ≡ true → is_closing_line (from cs (length cs - 3)) ≡ true
unfolding last_is_closing is_closing_line equal from
lined_ends end h = never h
lined_ends (next {l = l} p end) h = rw (equal_true l (ascii "-") h)
lined_ends (next {cs = cs} {l = l} p (next q r)) h = ends_behind l cs (lined_ends (next q r) h)

ends : (s : List ℕ) → in_lines (lines s) ≡ true → is_closing_line (from s (length s - 3)) ≡ true
ends s = lines_cases (λ (o : Option (List Line)). in_lines o ≡ true → is_closing_line (from s (length s - 3)) ≡ true) s never (λ ls r. lined_ends r)

module _ (s : List ℕ) where
  pub framed_long : 4096 < length s → false ≡ framed s
  unfolding framed
  framed_long h = rw (lt-leb _ _ h)

  pub framed_open : (b : Bool) → b ≡ is_closing_line (from s (length s - 3)) → b ≡ false → false ≡ framed s
  unfolding framed
  framed_open b u k = not_holds _ (λ x. never (sym k ∙ u ∙ ends s (and_right (leb (length s) 4096) (in_lines (lines s)) (and_left (leb (length s) 4096 && in_lines (lines s)) (has_first_line s) x))))

  module _ (h : length s ≤ 4096) (b : Bool) (u : b ≡ in_lines (lines s)) where
    pub framed_not : b ≡ false → false ≡ framed s
    unfolding framed
    framed_not k = rw (le-leb _ _ h, ← u, k)

    pub framed_opens : b ≡ true → (r : Bool) → r ≡ fits (ascii "nnn,aaaaaacc,aaaaaacc\r\n") (take 23 s) → r ≡ framed s
    unfolding framed has_first_line
    framed_opens k r e = rw (le-leb _ _ h, ← u, k) e

  -- what a message in its frame has
  module _ (b : Bool) (u : b ≡ framed s) (h : b ≡ true) where
    is_framed : framed s ≡ true
    is_framed = sym u ∙ h

    pub framed_high : length s ≤ 4096
    unfolding framed
    framed_high = leb-true (length s) 4096 (and_left _ _ (and_left _ _ is_framed))

    pub framed_low : 23 ≤ length s
    unfolding framed has_first_line
    framed_low =
        let f : length (ascii "nnn,aaaaaacc,aaaaaacc\r\n") ≡ length (take 23 s) = fits_length (ascii "nnn,aaaaaacc,aaaaaacc\r\n") (take 23 s) (and_right (leb (length s) 4096 && in_lines (lines s)) _ is_framed) in
        omega (arith, length-take 23 s)

pub ruleset framing = (closing_long, closing_rest, framed_long, framed_open, framed_not, framed_opens, framed_high, framed_low)

pub ruleset lining = (line_starts_at, found, cr_alone, lf_alone, passed, none_behind)
