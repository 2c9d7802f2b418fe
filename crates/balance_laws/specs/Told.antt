-- What a text tells a reader of posting lines, the sum of a kind over its lines: nothing where its lines are short, and of two texts the sum of both.
use Rattle.std.specs.Prelude.{◌≡◌, Bool, false, ◌||◌, cond, ℕ, suc, ◌+◌, ◌≤◌, leb, length, get_or, take, drop}
use Rattle.std.proofs.Math.Path.{refl}
use Rattle.std.proofs.Common.{◌∙◌, length-append, length-take, leb-true, eqb-true, le-leb}
use Rattle.std.proofs.Math.Bool.{true}
use mathlib.Core.List.{List, [], ◌∷◌, ◌++◌}
use Rattle.std.proofs.Math.Option
use Rattle.std.proofs.Math.Option.{none}
use native.Mathlib.Omega.{arith}
use Rattle.rules.specs.Text.{ascii, every, fits, given}
use Rattle.rules.specs.Accounts.{is_bic, iban_shape}
use Rattle.rules.specs.Lines.{Line, lines, parted}
use Rattle.rules.specs.Ledger.{is_party, is_number, is_posting, posted, Kind, Request, amount_if, sum_of_lines}
use Rattle.laws.specs.Reading.{fits_length}
use Rattle.laws.specs.Tests.{and_left, and_right, cond_right, cond_left, cond_both}
use Rattle.laws.specs.Every.{every_join, every_take, every_drop}
use Rattle.rule_laws.specs.Commas.{parts_length, parted_length, parts_next}
use Rattle.rule_laws.specs.Lines.{in_line, Lined, Lined.end, Lined.next, lined_lines, lined_join}

-- ---- a posting line is long

party_length : (cs : List ℕ) → is_party cs ≡ true → 8 ≤ length cs
unfolding is_party is_bic iban_shape
party_length cs h = go (fits (ascii "aaaaaacc") cs) refl h
  where
    go : (t : Bool) → fits (ascii "aaaaaacc") cs ≡ t → (t || fits (ascii "BGnnaaaannnnnncccccccc") cs) ≡ true → 8 ≤ length cs
    go true e k = omega (arith, fits_length _ cs e)
    go false e k = omega (arith, fits_length _ cs k)

number_length : (cs : List ℕ) → is_number cs ≡ true → 1 ≤ length cs
unfolding is_number
number_length cs h = leb-true 1 _ (and_left _ _ h)

given_none : {A : Type 0} (t : Bool) (a : A) → (t ≡ true → ⊥) → given t a ≡ none
given_none true a h = absurd (h refl)
given_none false a h = refl

pub posted_long : (l : Line) → length l ≤ 41 → posted l ≡ none
unfolding posted is_posting is_bic
posted_long l h =
    given_none (is_posting (parted l)) _ (λ t.
    let ps : List (List ℕ) = parted l in
    let six : length ps ≡ 6 = eqb-true _ _ (search (and_left, and_right) depth 8) in
    let day : 6 ≡ length (get_or ps 0 []) = fits_length (ascii "nnnnnn") (get_or ps 0 []) (search (and_left, and_right) depth 8) in
    let debit : 8 ≤ length (get_or ps 1 []) = party_length (get_or ps 1 []) (search (and_left, and_right) depth 8) in
    let credit : 8 ≤ length (get_or ps 2 []) = party_length (get_or ps 2 []) (search (and_left, and_right) depth 8) in
    let amount : 1 ≤ length (get_or ps 3 []) = number_length (get_or ps 3 []) (search (and_left, and_right) depth 8) in
    let bank : 8 ≡ length (get_or ps 4 []) = fits_length (ascii "aaaaaacc") (get_or ps 4 []) (search (and_left, and_right) depth 8) in
    let date : 6 ≡ length (get_or ps 5 []) = fits_length (ascii "nnnnnn") (get_or ps 5 []) (search (and_left, and_right) depth 8) in
    let all : parts_length ps ≡ suc (length l) = parted_length l in
    omega (arith, parts_next ps 0 (omega arith), parts_next ps 1 (omega arith), parts_next ps 2 (omega arith), parts_next ps 3 (omega arith), parts_next ps 4 (omega arith), parts_next ps 5 (omega arith)))

-- ---- short parts

-- at most n bytes of a line
pub record Short (n : ℕ) (cs : List ℕ) : Type 0 where
  pub plain : every in_line cs ≡ true
  pub size : length cs ≤ n

pub short_join : {m n : ℕ} {a b : List ℕ} → Short m a → Short n b → Short (m + n) (a ++ b)
short_join {a = a} {b} s t = record { plain = every_join in_line a b s.plain t.plain; size = rw length-append (omega arith) }

-- a part as it is printed
pub short_text : (cs : List ℕ) → every in_line cs ≡ true → Short (length cs) cs
short_text cs h = record { plain = h; size = omega arith }

-- a part of a line
pub short_part : (n i : ℕ) (cs : List ℕ) → every in_line cs ≡ true → Short n (take n (drop i cs))
short_part n i cs h = record { plain = every_take in_line n _ (every_drop in_line i cs h); size = rw length-take (omega arith) }

-- ---- texts of short lines

unfoldable pub short_lines : List Line → Bool
short_lines [] = true
short_lines (l ∷ ls) = let r = short_lines ls in cond (leb (length l) 41) r false

pub record Mute (text : List ℕ) : Type 0 where
  pub all : List Line
  pub reading : Lined text all
  pub short : short_lines all ≡ true

pub mute_none : Mute []
unfolding short_lines
mute_none = record { all = []; reading = end; short = refl }

pub mute_line : {n : ℕ} {cs : List ℕ} → Short n cs → leb n 41 ≡ true → Mute (cs ++ ascii "\r\n")
unfolding short_lines
mute_line {n} {cs} s h = record { all = cs ∷ []; reading = next s.plain end; short = rw (le-leb (length cs) 41 (omega (arith, leb-true n 41 h))) }

pub mute_join : {a b : List ℕ} → Mute a → Mute b → Mute (a ++ b)
unfolding short_lines
mute_join {a} {b} s t = record {
  all = s.all ++ t.all;
  reading = lined_join s.reading t.reading;
  short = short_append s.all t.all s.short t.short;
}
  where
    short_append : (ls ms : List Line) → short_lines ls ≡ true → short_lines ms ≡ true → short_lines (ls ++ ms) ≡ true
    short_append [] ms h k = k
    short_append (l ∷ ls) ms h k =
        cond_both (leb (length l) 41) (short_lines (ls ++ ms)) (cond_left _ _ h) (short_append ls ms (cond_right (leb (length l) 41) _ h) k)

-- ---- what a text tells

-- the lines of a kind in a text, and their sum
pub record Tells (kind : Kind) (f : Request) (text : List ℕ) (v : ℕ) : Type 0 where
  pub all : List Line
  pub reading : Lined text all
  pub sum : sum_of_lines kind f all ≡ v

module _ {kind : Kind} {f : Request} where
  pub tells_none : Tells kind f [] 0
  unfolding sum_of_lines
  tells_none = record { all = []; reading = end; sum = refl }

  pub tells_join : {a b : List ℕ} {v w : ℕ} → Tells kind f a v → Tells kind f b w → Tells kind f (a ++ b) (v + w)
  unfolding sum_of_lines
  tells_join {a} {b} {v} {w} s t = record {
    all = s.all ++ t.all;
    reading = lined_join s.reading t.reading;
    sum = sum_append s.all t.all ∙ rw (s.sum, t.sum);
  }
    where
      sum_append : (ls ms : List Line) → sum_of_lines kind f (ls ++ ms) ≡ sum_of_lines kind f ls + sum_of_lines kind f ms
      sum_append [] ms = omega arith
      sum_append (l ∷ ls) ms = rw (sum_append ls ms) (omega arith)

  pub tells_same : {text : List ℕ} {v w : ℕ} → Tells kind f text v → v ≡ w → Tells kind f text w
  tells_same s e = record { all = s.all; reading = s.reading; sum = s.sum ∙ e }

  -- short lines tell nothing
  pub tells_mute : {text : List ℕ} → Mute text → Tells kind f text 0
  unfolding short_lines sum_of_lines amount_if
  tells_mute s = record { all = s.all; reading = s.reading; sum = nothing s.all s.short }
    where
      nothing : (ls : List Line) → short_lines ls ≡ true → sum_of_lines kind f ls ≡ 0
      nothing [] h = refl
      nothing (l ∷ ls) h =
          rw (posted_long l (leb-true _ 41 (cond_left _ _ h)), nothing ls (cond_right (leb (length l) 41) _ h))

  -- one line
  pub tells_line : (cs : List ℕ) → every in_line cs ≡ true → Tells kind f (cs ++ ascii "\r\n") (amount_if kind f (posted cs))
  unfolding sum_of_lines
  tells_line cs h = record { all = cs ∷ []; reading = next h end; sum = omega arith }

  -- as demand 3 counts it
  pub told : {text : List ℕ} {v : ℕ} → Tells kind f text v → sum_of_lines kind f (Option.get_or (lines text) []) ≡ v
  told s = rw (lined_lines s.reading) s.sum
