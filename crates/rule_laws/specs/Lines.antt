-- The lines of a text, taken apart: a text in lines is its lines, each with its CR LF, and a line holds no CR or LF. The first line alone, `take_line`, and all of them, `lines`.
use Rattle.std.specs.Prelude.{◌≡◌, refl, Bool, true, false, ◌&&◌, not, List, [], ◌∷◌, ◌++◌, ℕ, ◌+◌, ◌<◌, eqb, length}
use Rattle.std.proofs.Common.{sym, ap, ◌∙◌, append_assoc, arith, lit<, length-append, eqb-true}
use Rattle.std.proofs.Math.Option.{Option, none, some, map}
use Rattle.std.proofs.lemmas.Bool.{not-true}
use Rattle.rules.specs.Text.{is_alnum, every}
use Rattle.rules.specs.Lines.{Line, TakenLine, lead, take_line, before, begun, lines, body}
use Rattle.laws.specs.Parts.{from}
use Rattle.laws.specs.Every.{every_wider}
use Rattle.laws.specs.Tests.{and_left, and_right, cond_left, cond_right, none_some}
use Rattle.rule_laws.specs.Options.{some_is, Mapped, mapped}
use Rattle.rule_laws.specs.Signs.{alnum_other}

-- a byte of a line: "CR and LF stand nowhere else"
unfoldable pub in_line : ℕ → Bool
in_line c = not (eqb c 13) && not (eqb c 10)

-- letters and digits are such bytes
pub plain_alnum : (cs : List ℕ) → every is_alnum cs ≡ true → every in_line cs ≡ true
unfolding in_line
plain_alnum = every_wider is_alnum in_line (λ c h. rw (alnum_other 13 c (lit< tt) h, alnum_other 10 c (lit< tt) h))

-- ---- the first two bytes of a text

-- a line ends, goes on, or is none
pub data Begins : ℕ → ℕ → Type 0 where
  ends : Begins 13 10
  goes : {c d : ℕ} → in_line c ≡ true → Begins c d
  breaks : {c d : ℕ} → ((cs : List ℕ) → take_line (c ∷ d ∷ cs) ≡ none) → ((cs : List ℕ) → lines (c ∷ d ∷ cs) ≡ none) → Begins c d

pub begins : (c d : ℕ) → Begins c d
unfolding take_line lines in_line
begins c d = go (eqb c 13) refl (eqb d 10) refl (eqb c 10) refl
  where
    go : (x : Bool) → eqb c 13 ≡ x → (y : Bool) → eqb d 10 ≡ y → (z : Bool) → eqb c 10 ≡ z → Begins c d
    go true e true f z g = rw (eqb-true c 13 e, eqb-true d 10 f) ends
    go true e false f z g = breaks {c = c} {d = d} (λ cs. rw (e, f)) (λ cs. rw (e, f))
    go false e y f true g = breaks {c = c} {d = d} (λ cs. rw (e, g)) (λ cs. rw (e, g))
    go false e y f false g = goes {c = c} (rw (e, g))

-- a byte of a line before others
pub line_goes : (c : ℕ) (cs : List ℕ) → in_line c ≡ true → take_line (c ∷ cs) ≡ lead (c ∷ []) (take_line cs)
unfolding take_line lead in_line
line_goes c [] h = refl
line_goes c (d ∷ cs) h = rw (not-true (eqb c 13) (and_left _ _ h), not-true (eqb c 10) (and_right (not (eqb c 13)) _ h))

lines_go : (c d : ℕ) (cs : List ℕ) → in_line c ≡ true → lines (c ∷ d ∷ cs) ≡ map (begun c) (lines (d ∷ cs))
unfolding lines in_line
lines_go c d cs h = rw (not-true (eqb c 13) (and_left _ _ h), not-true (eqb c 10) (and_right (not (eqb c 13)) _ h))

-- ---- the first line

-- a line taken off a text
pub record FirstLine (cs : List ℕ) (t : TakenLine) : Type 0 where
  pub text : cs ≡ t.line ++ 13 ∷ 10 ∷ t.others
  pub plain : every in_line t.line ≡ true

first_byte : (c : ℕ) (cs : List ℕ) (o : Option TakenLine) (t : TakenLine) → in_line c ≡ true → ((u : TakenLine) → o ≡ some u → FirstLine cs u) → lead (c ∷ []) o ≡ some t → FirstLine (c ∷ cs) t
unfolding lead every
first_byte c cs none t h f e = none_some e
first_byte c cs (some u) t h f e =
    let r : FirstLine cs u = f u refl in
    rw (← some_is e) record { text = ap (λ (l : List ℕ). c ∷ l) r.text; plain = rw h r.plain }

pub first_line_lem : (cs : List ℕ) (t : TakenLine) → take_line cs ≡ some t → FirstLine cs t
unfolding take_line every
first_line_lem [] t h = none_some h
first_line_lem (c ∷ []) t h = none_some h
first_line_lem (c ∷ d ∷ cs) t h = go (begins c d) (first_line_lem (d ∷ cs)) h
  where
    go : {c d : ℕ} → Begins c d → ((u : TakenLine) → take_line (d ∷ cs) ≡ some u → FirstLine (d ∷ cs) u) → take_line (c ∷ d ∷ cs) ≡ some t → FirstLine (c ∷ d ∷ cs) t
    go ends f k = rw (← some_is k) record { text = refl; plain = refl }
    go {c} {d} (goes e) f k = first_byte c (d ∷ cs) (take_line (d ∷ cs)) t e f (rw (line_goes c (d ∷ cs) e) at k)
    go (breaks e _) f k = none_some (sym (e cs) ∙ k)

pub first_length : (cs : List ℕ) (t : TakenLine) → take_line cs ≡ some t → length cs ≡ length t.line + 2 + length t.others
first_length cs t h = ap length (first_line_lem cs t h).text ∙ length-append t.line (13 ∷ 10 ∷ t.others) ∙ omega arith

-- and back: a line with its CR LF before others is taken off
pub line_taken : (l cs : List ℕ) → every in_line l ≡ true → take_line (l ++ 13 ∷ 10 ∷ cs) ≡ some record { line = l; others = cs }
unfolding take_line lead every
line_taken [] cs h = refl
line_taken (c ∷ l) cs h = line_goes c (l ++ 13 ∷ 10 ∷ cs) (cond_left _ _ h) ∙ rw (line_taken l cs (cond_right (in_line c) _ h))

-- ---- all lines

-- a byte before a line that is before others
begun_before : (c : ℕ) (l : Line) (o : Option (List Line)) → map (begun c) (map (before l) o) ≡ map (before (c ∷ l)) o
begun_before c l none = refl
begun_before c l (some ls) = refl

-- a text in lines
pub data Lined : List ℕ → List Line → Type 0 where
  end : Lined [] []
  next : {cs : List ℕ} {l : Line} {ls : List Line} → every in_line l ≡ true → Lined cs ls → Lined (l ++ 13 ∷ 10 ∷ cs) (l ∷ ls)

-- a byte before the first line
lined_byte : (c : ℕ) {cs : List ℕ} {ls : List Line} → in_line c ≡ true → 0 < length cs → Lined cs ls → Lined (c ∷ cs) (begun c ls)
unfolding every
lined_byte c h n end = absurd (omega arith)
lined_byte c h n (next {l = l} p r) = next {l = c ∷ l} (rw h p) r

pub lines_lined : (cs : List ℕ) (ls : List Line) → lines cs ≡ some ls → Lined cs ls
unfolding lines every
lines_lined [] ls h = rw (← some_is h) end
lines_lined (c ∷ []) ls h = none_some h
lines_lined (c ∷ d ∷ cs) ls h = go (begins c d) (lines_lined cs) (lines_lined (d ∷ cs)) h
  where
    go : {c d : ℕ} → Begins c d → ((ms : List Line) → lines cs ≡ some ms → Lined cs ms) → ((ms : List Line) → lines (d ∷ cs) ≡ some ms → Lined (d ∷ cs) ms) → lines (c ∷ d ∷ cs) ≡ some ls → Lined (c ∷ d ∷ cs) ls
    go ends f g k = let m : Mapped (before []) (lines cs) ls = mapped _ _ k in rw (← m.gives) (next {l = []} refl (f m.value m.is))
    go {c} {d} (goes e) f g k =
        let m : Mapped (begun c) (lines (d ∷ cs)) ls = mapped _ _ (rw (lines_go c d cs e) at k) in
        rw (← m.gives) (lined_byte c e (omega arith) (g m.value m.is))
    go (breaks _ e) f g k = none_some (sym (e cs) ∙ k)

-- any text: it is not in lines, or it is
pub lines_cases : (P : Option (List Line) → Type 0) (cs : List ℕ) → P none → ((ls : List Line) → Lined cs ls → P (some ls)) → P (lines cs)
lines_cases P cs n f = go (lines cs) (lines_lined cs)
  where
    go : (o : Option (List Line)) → ((ls : List Line) → o ≡ some ls → Lined cs ls) → P o
    go none g = n
    go (some ls) g = f ls (g ls refl)

-- and back: a line before a text
pub lines_before : (l cs : List ℕ) → every in_line l ≡ true → lines (l ++ 13 ∷ 10 ∷ cs) ≡ map (before l) (lines cs)
unfolding lines every
lines_before [] cs h = refl
lines_before (c ∷ []) cs h = lines_go c 13 (10 ∷ cs) (cond_left _ _ h) ∙ begun_before c [] (lines cs)
lines_before (c ∷ d ∷ l) cs h =
    lines_go c d (l ++ 13 ∷ 10 ∷ cs) (cond_left _ _ h) ∙ rw (lines_before (d ∷ l) cs (cond_right (in_line c) _ h)) (begun_before c (d ∷ l) (lines cs))

pub lined_lines : {cs : List ℕ} {ls : List Line} → Lined cs ls → lines cs ≡ some ls
unfolding lines
lined_lines end = refl
lined_lines (next {cs = cs} {l = l} p r) = rw (lines_before l cs p, lined_lines r)

-- one text behind the other
pub lined_join : {a b : List ℕ} {ls ms : List Line} → Lined a ls → Lined b ms → Lined (a ++ b) (ls ++ ms)
lined_join end t = t
lined_join {b = b} (next {cs = cs} {l = l} p s) t = rw (append_assoc l (13 ∷ 10 ∷ cs) b) (next p (lined_join s t))

-- what stands behind the first line
pub body_from : (s : List ℕ) → from s 23 ≡ body s
unfolding from body
body_from s = refl
