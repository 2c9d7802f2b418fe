-- The input read in pieces: a command in the bytes read so far is the input's whatever follows, and behind the longest command's bytes without one none follows.
use Rattle.std.specs.Prelude.{◌≡◌, Bool, cond, take}
use Rattle.std.proofs.Math.Path.{refl, ap}
use Rattle.std.proofs.Common.{sym, ◌∙◌, length-drop, take-append-drop, take_at, drop_at}
use Rattle.std.proofs.Math.Bool.{true, false}
use mathlib.Core.List.{List, [], ◌∷◌, ◌++◌, append_assoc, append-nil}
use Rattle.std.proofs.Math.Option.{Option, none, some}
use Prim.Native.Nat.{ℕ, suc, ◌+◌, ◌-◌, ◌*◌, ◌≤◌, ◌<◌}
use native.Mathlib.Omega.{arith}
use Rattle.std.proofs.Math.Dec.{leb}
use Rattle.std.proofs.Math.ListN.{length, drop, length-append}
use Rattle.std.proofs.lemmas.List.{take-append-le}
use Rattle.std.proofs.Math.Seq.{drop-append-le, drop-drop}
use borrow.Author.Tests.{le-leb, leb-true, leb-false}
use Rattle.rules.specs.Text.{ascii, is_digit, digits_from, every, then, given, added_up}
use Rattle.rules.specs.Lines.{TakenLine, take_line}
use Rattle.rules.specs.Replay.{turns, Commanded, length_of, parted_lengths, texts_in, with_texts, texts_behind, command_of, command}
use Rattle.laws.specs.Values.{digits_each}
use Rattle.laws.specs.Tests.{never, and_left, none_some}
use Rattle.rule_laws.specs.Lines.{FirstLine, first_line_lem, first_length, line_taken}
use Rattle.rule_laws.specs.Options.{Came, came, Gave, gave}
use Rattle.rule_laws.specs.Commas.{PartsRead, PartsRead.one, PartsRead.next}
use Rattle.commands.specs.Numbers.{limited, limited_large, LengthsRead, lengths_read}
use Rattle.commands.specs.Leads.{Starts, Earlier, Earlier.nothing, Earlier.lengths, NoIdle, Bears, starts_bears, ReadAs, ReadAs.none_read, ReadAs.turn_read, ReadAs.texts_read, read_as}

-- ---- a line

pub line_more : (w r : List ℕ) (t : TakenLine) → take_line w ≡ some t → take_line (w ++ r) ≡ some record { line = t.line; others = t.others ++ r }
line_more w r t e =
    let f : FirstLine w t = first_line_lem w t e in
    ap (λ (x : List ℕ). take_line (x ++ r)) f.text ∙ ap take_line (append_assoc t.line (13 ∷ 10 ∷ t.others) r) ∙ line_taken t.line (t.others ++ r) f.plain

-- a line that ends behind the bytes read
pub line_late : (w r : List ℕ) (t : TakenLine) → take_line w ≡ none → take_line (w ++ r) ≡ some t → length w < length t.line + 2
line_late w r t h e = go (leb (length t.line + 2) (length w)) refl
  where
    f : FirstLine (w ++ r) t
    f = first_line_lem (w ++ r) t e

    -- as many bytes read as it has are the line
    whole : length t.line + 2 ≤ length w → w ≡ t.line ++ 13 ∷ 10 ∷ drop (length t.line + 2) w
    whole k =
        let l : List ℕ = t.line ++ 13 ∷ 10 ∷ [] in
        let n : length l ≡ length t.line + 2 = length-append t.line (13 ∷ 10 ∷ []) in
        let a : take (length t.line + 2) w ≡ l =
        sym (take-append-le _ w r k) ∙ ap (take (length t.line + 2)) (f.text ∙ sym (append_assoc t.line (13 ∷ 10 ∷ []) t.others)) ∙ take_at l t.others _ n in
        sym (take-append-drop (length t.line + 2) w) ∙ rw a (append_assoc t.line (13 ∷ 10 ∷ []) _)

    go : (b : Bool) → leb (length t.line + 2) (length w) ≡ b → length w < length t.line + 2
    go true k = none_some (sym h ∙ ap take_line (whole (leb-true _ _ k)) ∙ line_taken t.line _ f.plain)
    go false k = leb-false _ _ k

-- ---- the command of a line

-- a command, and more input behind it
abbrev pub followed : Commanded → List ℕ → Commanded
followed c r = record { command = c.command; others = c.others ++ r }

-- x is what is read with cs behind the line, y with r behind those too
record Follows (cs r : List ℕ) (x y : Option Commanded) : Type 0 where
  found : (c : Commanded) → x ≡ some c → y ≡ some (followed c r)
  missed : 16384 ≤ length cs → x ≡ none → y ≡ none

-- texts that are all there
texts_more : (ns cs r : List ℕ) → added_up ns ≤ length cs → texts_in ns (cs ++ r) ≡ texts_in ns cs
unfolding added_up texts_in
texts_more [] cs r h = refl
texts_more (n ∷ ns) cs r h = rw (take-append-le n cs r (omega arith), drop-append-le n cs r (omega arith), texts_more ns (drop n cs) r (omega (arith, length-drop n cs)))

module _ (cs r : List ℕ) where
  follows_none : Follows cs r none none
  follows_none = record { found = λ c e. none_some e; missed = λ _ _. refl }

  follows_some : (c : Rattle.rules.specs.Replay.Command) → Follows cs r (some record { command = c; others = cs }) (some record { command = c; others = cs ++ r })
  follows_some k = record { found = λ c e. (let u : record { command = k; others = cs } ≡ c = cc in rw (← u)); missed = λ _ e. none_some (sym e) }

  follows_with : (f : List (List ℕ) → Rattle.rules.specs.Replay.Command) (ns : List ℕ) → added_up ns ≤ 16384 → Follows cs r (with_texts f ns cs) (with_texts f ns (cs ++ r))
  unfolding with_texts
  follows_with f ns h = go (leb (added_up ns) (length cs)) refl
    where
      go : (t : Bool) → leb (added_up ns) (length cs) ≡ t
          → Follows cs r (given t record { command = f (texts_in ns cs); others = drop (added_up ns) cs }) (given (leb (added_up ns) (length (cs ++ r))) record { command = f (texts_in ns (cs ++ r)); others = drop (added_up ns) (cs ++ r) })
      go true e =
          let l : added_up ns ≤ length cs = leb-true _ _ e in
          let m : added_up ns ≤ length (cs ++ r) = omega (arith, length-append cs r) in
          rw (le-leb _ _ m, texts_more ns cs r l, drop-append-le (added_up ns) cs r l)
          record { found = λ c g. (let u : record { command = f (texts_in ns cs); others = drop (added_up ns) cs } ≡ c = cc in rw (← u)); missed = λ _ g. none_some (sym g) }
      go false e = record { found = λ c g. none_some g; missed = λ k g. (let l : added_up ns ≤ length cs = omega arith in never (sym e ∙ le-leb _ _ l)) }

  follows_texts : (f : List (List ℕ) → Rattle.rules.specs.Replay.Command) (k : ℕ) (u : List ℕ) → 8192 * k ≤ 16384 → Follows cs r (texts_behind f k u cs) (texts_behind f k u (cs ++ r))
  unfolding texts_behind
  follows_texts f k u h = go (parted_lengths k u) refl
    where
      go : (o : Option (List ℕ)) → parted_lengths k u ≡ o → Follows cs r (then o (λ ns. with_texts f ns cs)) (then o (λ ns. with_texts f ns (cs ++ r)))
      go none e = follows_none
      go (some ns) e = follows_with f ns (omega (arith, (lengths_read k u ns e).limit))

  follows_line : (l : List ℕ) → Follows cs r (command_of l cs) (command_of l (cs ++ r))
  follows_line l = go (read_as l)
    where
      go : ReadAs l → Follows cs r (command_of l cs) (command_of l (cs ++ r))
      go (none_read e) = rw (e cs, e (cs ++ r)) follows_none
      go (turn_read d _ e) = rw (e cs, e (cs ++ r)) (follows_some (turns d))
      go (texts_read q u s e) = let b : Bears q = starts_bears s in rw (e, b.line u cs, b.line u (cs ++ r)) (follows_texts b.made b.many u b.text_room)

-- a command that stands in the bytes read is the input's
pub command_more : (w r : List ℕ) (c : Commanded) → command w ≡ some c → command (w ++ r) ≡ some (followed c r)
unfolding command
command_more w r c e =
    let t : Came (take_line w) (λ t. command_of t.line t.others) c = came _ _ e in
    rw (line_more w r t.value t.is) ((follows_line t.value.others r t.value.line).found c t.gives)

-- what stands behind a command is the input from a place on
record Rest (cs others : List ℕ) : Type 0 where
  far : ℕ
  within : far ≤ length cs
  is : others ≡ drop far cs

texts_rest : (f : List (List ℕ) → Rattle.rules.specs.Replay.Command) (k : ℕ) (u cs : List ℕ) (c : Commanded) → texts_behind f k u cs ≡ some c → Rest cs c.others
unfolding texts_behind with_texts
texts_rest f k u cs c e =
    let t : Came (parted_lengths k u) (λ ns. with_texts f ns cs) c = came _ _ e in
    let n : ℕ = added_up t.value in
    let g : Gave (leb n (length cs)) record { command = f (texts_in t.value cs); others = drop n cs } c = gave _ _ t.gives in
    record { far = n; within = leb-true _ _ g.test; is = ap (λ (x : Commanded). x.others) (sym g.is) }

line_rest : (l cs : List ℕ) (c : Commanded) → command_of l cs ≡ some c → Rest cs c.others
line_rest l cs c h = go (read_as l)
  where
    go : ReadAs l → Rest cs c.others
    go (none_read e) = none_some (sym (e cs) ∙ h)
    go (turn_read d _ e) = let u : some record { command = turns d; others = cs } ≡ some c = sym (e cs) ∙ h in let v : c.others ≡ cs = cc in record { far = 0; within = omega arith; is = v }
    go (texts_read q u s e) = let b : Bears q = starts_bears s in texts_rest b.made b.many u cs c (sym (b.line u cs) ∙ ap (λ (x : List ℕ). command_of x cs) (sym e) ∙ h)

command_far : (w : List ℕ) (c : Commanded) → command w ≡ some c → (r : Rest w c.others) × (0 < r.far)
unfolding command
command_far w c e =
    let t : Came (take_line w) (λ t. command_of t.line t.others) c = came _ _ e in
    let f : FirstLine w t.value = first_line_lem w t.value t.is in
    let r : Rest t.value.others c.others = line_rest t.value.line t.value.others c t.gives in
    let l : List ℕ = t.value.line ++ 13 ∷ 10 ∷ [] in
    let n : length l ≡ length t.value.line + 2 = length-append t.value.line (13 ∷ 10 ∷ []) in
    let x : w ≡ l ++ t.value.others = f.text ∙ sym (append_assoc t.value.line (13 ∷ 10 ∷ []) t.value.others) in
    let y : drop (length t.value.line + 2) w ≡ t.value.others = ap (drop (length t.value.line + 2)) x ∙ drop_at l t.value.others _ n in
    let k : length w ≡ length l + length t.value.others = ap length x ∙ length-append l t.value.others in
    (record { far = length t.value.line + 2 + r.far; within = omega (arith, r.within); is = r.is ∙ ap (drop r.far) (sym y) ∙ drop-drop r.far (length t.value.line + 2) w }, omega arith)

-- less input stands behind a command than before it
pub command_behind : (w : List ℕ) (c : Commanded) → command w ≡ some c → length c.others < length w
command_behind w c e = let r = command_far w c e in rw (r.0.is, length-drop r.0.far w) (omega (arith, r.0.within, r.1))

-- and it is the input's end
pub command_rest : (w : List ℕ) (c : Commanded) → command w ≡ some c → drop (length w - length c.others) w ≡ c.others
command_rest w c e =
    let r = command_far w c e in
    let k : length c.others ≡ length w - r.0.far = ap length r.0.is ∙ length-drop r.0.far w in
    let m : length w - length c.others ≡ r.0.far = omega (arith, r.0.within) in
    rw m (sym r.0.is)

-- ---- the longest command

-- a digit of a length
limited_step : (v c n : ℕ) (cs : List ℕ) → limited v (c ∷ cs) ≡ some n → (48 ≤ c) × (limited (v * 10 + (c - 48)) cs ≡ some n)
unfolding limited digits_from is_digit
limited_step v c n cs e = go (is_digit c) refl e
  where
    go : (t : Bool) → is_digit c ≡ t → then (cond t (digits_from (v * 10 + (c - 48)) cs) none) (λ m. given (leb m 8192) m) ≡ some n → (48 ≤ c) × (limited (v * 10 + (c - 48)) cs ≡ some n)
    go true h k = (leb-true 48 c (and_left (leb 48 c) (leb c 57) h), k)
    go false h k = none_some k

limited_under : (v n : ℕ) (cs : List ℕ) → limited v cs ≡ some n → v ≤ 8192
limited_under v n cs e = go (leb v 8192) refl
  where
    go : (t : Bool) → leb v 8192 ≡ t → v ≤ 8192
    go true h = leb-true _ _ h
    go false h = none_some (limited_large v cs (leb-false _ _ h) ∙ e)

-- six digits of a length begin with two zeros
long_zeros : (cs : List ℕ) (n : ℕ) → length_of cs ≡ some n → 6 ≤ length cs → take 2 cs ≡ ascii "00"
unfolding length_of limited
long_zeros [] n e h = absurd (omega arith)
long_zeros (a ∷ []) n e h = absurd (omega arith)
long_zeros (a ∷ b ∷ []) n e h = absurd (omega arith)
long_zeros (a ∷ b ∷ c ∷ []) n e h = absurd (omega arith)
long_zeros (a ∷ b ∷ c ∷ d ∷ []) n e h = absurd (omega arith)
long_zeros (a ∷ b ∷ c ∷ d ∷ f ∷ []) n e h = absurd (omega arith)
long_zeros (a ∷ b ∷ c ∷ d ∷ f ∷ g ∷ cs) n e h =
    let s1 : (48 ≤ a) × (limited (0 * 10 + (a - 48)) (b ∷ c ∷ d ∷ f ∷ g ∷ cs) ≡ some n) = limited_step 0 a n _ e in
    let s2 = limited_step _ b n _ s1.1 in
    let s3 = limited_step _ c n _ s2.1 in
    let s4 = limited_step _ d n _ s3.1 in
    let s5 = limited_step _ f n _ s4.1 in
    let s6 = limited_step _ g n _ s5.1 in
    let u = limited_under _ n cs s6.1 in
    let x : a ≡ 48 = omega (arith, u, s1.0) in
    let y : b ≡ 48 = omega (arith, u, s2.0) in
    rw (x, y)

-- the digits of a length
length_digits : (cs : List ℕ) (n : ℕ) → length_of cs ≡ some n → every is_digit cs ≡ true
unfolding length_of every
length_digits [] n e = refl
length_digits (c ∷ cs) n e = digits_each (c ∷ cs) 0 (came (digits_from 0 (c ∷ cs)) (λ m. given (leb m 8192) m) e).value (came (digits_from 0 (c ∷ cs)) (λ m. given (leb m 8192) m) e).is

-- k lengths of five digits at most, or one that begins with two zeros
data Sized (k : ℕ) (u : List ℕ) : Type 0 where
  short : length u < 6 * k → Sized k u
  idle : (ps v : List ℕ) → Earlier ps → u ≡ ps ++ (48 ∷ 48 ∷ v) → length ps + 6 ≤ 6 * k → Sized k u

module _ (k n : ℕ) (d x : List ℕ) (e : length_of d ≡ some n) where
  sized_first : 6 ≤ length d → Sized (suc k) (d ++ x)
  sized_first h =
      let z : d ≡ 48 ∷ 48 ∷ drop 2 d = sym (take-append-drop 2 d) ∙ rw (long_zeros d n e h) in
      idle [] (drop 2 d ++ x) nothing (ap (λ (y : List ℕ). y ++ x) z) (omega arith)

  sized_next : length d < 6 → Sized k x → Sized (suc k) (d ++ 44 ∷ x)
  sized_next h (short s) = short (rw length-append (omega arith))
  sized_next h (idle ps v l f s) = idle (d ++ 44 ∷ ps) v (lengths d (length_digits d n e) l) (rw (f, append_assoc)) (rw length-append (omega arith))

parts_sized : {u ns : List ℕ} → PartsRead length_of u ns → Sized (length ns) u
parts_sized (one d {v = n} e) = go (leb 6 (length d)) refl
  where
    go : (t : Bool) → leb 6 (length d) ≡ t → Sized 1 d
    go true h = rw append-nil at (sized_first 0 n d [] e (leb-true _ _ h))
    go false h = short (leb-false 6 (length d) h)
parts_sized (next d x {v = n} {vs = ns} e r) = go (parts_sized r) (leb 6 (length d)) refl
  where
    go : Sized (length ns) x → (t : Bool) → leb 6 (length d) ≡ t → Sized (suc (length ns)) (d ++ 44 ∷ x)
    go s true h = sized_first (length ns) n d (44 ∷ x) e (leb-true _ _ h)
    go s false h = sized_next (length ns) n d x e (leb-false 6 (length d) h) s

sized : (k : ℕ) (u ns : List ℕ) → parted_lengths k u ≡ some ns → Sized k u
sized k u ns e = let r : LengthsRead k u ns = lengths_read k u ns e in rw r.many at (parts_sized r.parts)

-- the longest command: twenty bytes and CR LF, and two texts of 8,192 bytes
abbrev pub longest : ℕ
longest = 16406

-- where as many bytes are read, and no command stands there, none follows
module _ (w r : List ℕ) (h : longest ≤ length w) (d : NoIdle w) where
  -- what stands in front of the input stands in front of what is read
  front : (x y : List ℕ) → length x ≤ length w → w ++ r ≡ x ++ y → w ≡ x ++ drop (length x) w
  front x y k e =
      let a : take (length x) w ≡ x = sym (take-append-le (length x) w r k) ∙ ap (take (length x)) e ∙ take_at x y (length x) refl in
      sym (take-append-drop (length x) w) ∙ rw a

  line_none : (l cs : List ℕ) → 21 ≤ length l → w ++ r ≡ l ++ (13 ∷ 10 ∷ cs) → command_of l cs ≡ none
  unfolding texts_behind
  line_none l cs k e = go (read_as l)
    where
      long : (q u : List ℕ) (b : Bears q) → Starts q → l ≡ q ++ u → Sized b.many u → ⊥
      long q u b s f (short m) = omega (arith, ap length f ∙ length-append q u, b.line_room)
      long q u b s f (idle ps v p g m) =
          let x : List ℕ = q ++ (ps ++ (48 ∷ 48 ∷ [])) in
          let n : length x ≡ length q + (length ps + 2) = rw (length-append, length-append) in
          let y : w ++ r ≡ x ++ (v ++ (13 ∷ 10 ∷ cs)) = e ∙ rw (f, g) (simp append_assoc) in
          let z : w ≡ q ++ (ps ++ (48 ∷ 48 ∷ drop (length x) w)) = front x (v ++ (13 ∷ 10 ∷ cs)) (omega (arith, b.line_room)) y ∙ simp append_assoc in
          (d.none q (ps ++ (48 ∷ 48 ∷ drop (length x) w)) s z).none ps (drop (length x) w) p refl

      texts : (q u : List ℕ) (b : Bears q) → Starts q → l ≡ q ++ u → (o : Option (List ℕ)) → parted_lengths b.many u ≡ o → then o (λ ns. with_texts b.made ns cs) ≡ none
      texts q u b s f none g = refl
      texts q u b s f (some ns) g = absurd (long q u b s f (sized b.many u ns g))

      go : ReadAs l → command_of l cs ≡ none
      go (none_read f) = f cs
      go (turn_read _ n f) = absurd (omega arith)
      go (texts_read q u s f) =
          let b : Bears q = starts_bears s in
          ap (λ (x : List ℕ). command_of x cs) f ∙ b.line u cs ∙ texts q u b s f (parted_lengths b.many u) refl

  pub none_follows : command w ≡ none → command (w ++ r) ≡ none
  unfolding command
  none_follows e = go (take_line w) refl e
    where
      late : (o : Option TakenLine) → take_line w ≡ none → take_line (w ++ r) ≡ o → then o (λ t. command_of t.line t.others) ≡ none
      late none m k = refl
      late (some t) m k = line_none t.line t.others (omega (arith, line_late w r t m k)) (first_line_lem (w ++ r) t k).text

      soon : (t : TakenLine) → take_line w ≡ some t → command_of t.line t.others ≡ none → (b : Bool) → leb 16384 (length t.others) ≡ b → command_of t.line (t.others ++ r) ≡ none
      soon t m k true f = (follows_line t.others r t.line).missed (leb-true _ _ f) k
      soon t m k false f =
          line_none t.line (t.others ++ r) (omega (arith, first_length w t m, leb-false 16384 (length t.others) f)) (first_line_lem (w ++ r) _ (line_more w r t m)).text

      go : (o : Option TakenLine) → take_line w ≡ o → then o (λ t. command_of t.line t.others) ≡ none → then (take_line (w ++ r)) (λ t. command_of t.line t.others) ≡ none
      go none m k = late (take_line (w ++ r)) m refl
      go (some t) m k = rw (line_more w r t m) (soon t m k (leb 16384 (length t.others)) refl)
