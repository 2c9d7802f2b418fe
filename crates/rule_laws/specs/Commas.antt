-- A line parted at its commas, part by part; its parts with a comma each are the line with one more.
use Rattle.std.specs.Prelude.{◌≡◌, refl, Bool, true, false, not, cond, List, [], ◌∷◌, ◌++◌, ℕ, suc, ◌+◌, ◌<◌, eqb, length, get_or, drop}
use Rattle.std.proofs.Math.Option.{Option, some}
use Rattle.std.proofs.Common.{arith, lit<, drop-cons, eqb-true}
use Rattle.std.proofs.lemmas.Bool.{not-true}
use Rattle.rules.specs.Text.{is_digit, is_alnum, every, read_each}
use Rattle.rules.specs.Lines.{Line, begun, parted}
use Rattle.laws.specs.Tests.{cond_left, cond_right}
use Rattle.laws.specs.Every.{every_wider}
use Rattle.rule_laws.specs.Options.{Reads, Reads.empty, Reads.more, reads}
use Rattle.rule_laws.specs.Signs.{alnum_other, digit_alnum}

-- the bytes of some parts, each with a comma
unfoldable pub parts_length : List (List ℕ) → ℕ
parts_length [] = 0
parts_length (p ∷ ps) = suc (length p) + parts_length ps

pub parted_length : (l : Line) → parts_length (parted l) ≡ suc (length l)
unfolding parted parts_length
parted_length [] = refl
parted_length (c ∷ l) = go (eqb c 44) (parted l) (parted_length l)
  where
    go : (t : Bool) (ps : List (List ℕ)) → parts_length ps ≡ suc (length l) → parts_length (cond t ([] ∷ ps) (begun c ps)) ≡ suc (suc (length l))
    go true ps h = omega arith
    go false [] h = omega arith
    go false (p ∷ ps) h = omega arith

pub parts_next : (ps : List (List ℕ)) (i : ℕ) → i < length ps → parts_length (drop i ps) ≡ suc (length (get_or ps i [])) + parts_length (drop (suc i) ps)
unfolding parts_length
parts_next ps i h = rw (drop-cons ps i [] h)

-- a byte of a part
unfoldable pub in_part : ℕ → Bool
in_part c = not (eqb c 44)

-- letters and digits are such bytes
pub part_alnum : (cs : List ℕ) → every is_alnum cs ≡ true → every in_part cs ≡ true
unfolding in_part
part_alnum = every_wider is_alnum in_part (λ c h. rw (alnum_other 44 c (lit< tt) h))

pub part_digits : (cs : List ℕ) → every is_digit cs ≡ true → every in_part cs ≡ true
part_digits cs h = part_alnum cs (every_wider is_digit is_alnum digit_alnum cs h)

-- no comma follows
pub parted_last : (a : List ℕ) → every in_part a ≡ true → parted a ≡ a ∷ []
unfolding every parted in_part
parted_last [] h = refl
parted_last (c ∷ a) h = rw (not-true (eqb c 44) (cond_left _ _ h), parted_last a (cond_right (not (eqb c 44)) _ h))

-- one does
pub parted_next : (a rest : List ℕ) → every in_part a ≡ true → parted (a ++ 44 ∷ rest) ≡ a ∷ parted rest
unfolding every parted in_part
parted_next [] rest h = refl
parted_next (c ∷ a) rest h = rw (not-true (eqb c 44) (cond_left _ _ h), parted_next a rest (cond_right (not (eqb c 44)) _ h))

-- ---- a text at its commas

-- there is none, or one before others
pub data AtCommas : List ℕ → Type 0 where
  alone : (p : List ℕ) → every in_part p ≡ true → AtCommas p
  comma : (p rest : List ℕ) → every in_part p ≡ true → AtCommas rest → AtCommas (p ++ 44 ∷ rest)

pub at_commas : (cs : List ℕ) → AtCommas cs
unfolding every in_part
at_commas [] = alone [] refl
at_commas (c ∷ cs) = go cs (eqb c 44) refl (at_commas cs)
  where
    go : (cs : List ℕ) (t : Bool) → eqb c 44 ≡ t → AtCommas cs → AtCommas (c ∷ cs)
    go cs true e v = rw (eqb-true c 44 e) (comma [] cs refl v)
    go _ false e (alone p h) = alone (c ∷ p) (rw e h)
    go _ false e (comma p rest h v) = comma (c ∷ p) rest (rw e h) v

-- ---- a text each of whose parts is read

-- one, or one before others
pub data PartsRead (f : List ℕ → Option ℕ) : List ℕ → List ℕ → Type 0 where
  one : (p : List ℕ) {v : ℕ} → f p ≡ some v → PartsRead f p (v ∷ [])
  next : (p rest : List ℕ) {v : ℕ} {vs : List ℕ} → f p ≡ some v → PartsRead f rest vs → PartsRead f (p ++ 44 ∷ rest) (v ∷ vs)

module _ (f : List ℕ → Option ℕ) where
  first_read : (p : List ℕ) {vs : List ℕ} → Reads f (p ∷ []) vs → PartsRead f p vs
  first_read p (more h empty) = one p h

  next_read : (p rest : List ℕ) {vs : List ℕ} → ((vs : List ℕ) → Reads f (parted rest) vs → PartsRead f rest vs) → Reads f (p ∷ parted rest) vs → PartsRead f (p ++ 44 ∷ rest) vs
  next_read p rest g (more {ys = vs} h r) = next p rest h (g vs r)

  by_commas : {cs : List ℕ} → AtCommas cs → (vs : List ℕ) → Reads f (parted cs) vs → PartsRead f cs vs
  by_commas (alone p e) vs r = first_read p (rw (parted_last p e) at r)
  by_commas (comma p rest e v) vs r = next_read p rest (λ ws q. by_commas v ws q) (rw (parted_next p rest e) at r)

  pub parts_read : (cs vs : List ℕ) → read_each f (parted cs) ≡ some vs → PartsRead f cs vs
  parts_read cs vs h = by_commas (at_commas cs) vs (reads f (parted cs) vs h)
