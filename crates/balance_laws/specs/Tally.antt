-- Sums over positions, one for each measure: lists whose sums agree for every measure have the same entries, order aside.
use Rattle.std.specs.Prelude.{◌≡◌, refl, Bool, true, false, not, cond, List, [], ◌∷◌, ℕ, ◌+◌, eqb}
use Rattle.std.proofs.Common.{sym, ◌∙◌, arith}
use Rattle.rules.specs.Text.{times, Rearranged}
use Rattle.rules.specs.Engine.{Position, alike, has_details, kept}
use Rattle.rules.specs.Ledger.{transferred_of, detailed_of, same_entry}

-- a number taken from a position, and a test of one
abbrev pub Measure : Type 0
Measure = Position → ℕ

abbrev pub Test : Type 0
Test = Position → Bool

-- the sum of a measure
unfoldable pub tally : Measure → List Position → ℕ
tally g [] = 0
tally g (p ∷ ps) = g p + tally g ps

-- the same entries, order aside
pub record SameEntries (ps qs : List Position) : Type 0 where
  pub sums : (g : Measure) → tally g ps ≡ tally g qs

-- ---- measures and tests

abbrev pub one : Measure
one p = 1

abbrev pub transfers : Measure
transfers p = p.transferred

abbrev pub details : Measure
details p = p.detailed

-- of the positions that pass a test
unfoldable pub only : Test → Measure → Measure
only t g p = cond (t p) (g p) 0

-- of one bank's
unfoldable pub of_bank : ℕ → Test
of_bank bank p = eqb p.key.bank bank

-- of those of q's bank and date
unfoldable pub like : Position → Test
like q p = alike p q

-- of those without details
unfoldable pub bare : Test
bare p = not (has_details p)

-- of those that are the entry q
unfoldable pub equal_to : Position → Test
equal_to q p = same_entry p q

-- the same either way
pub either_way : {A : Type 0} (t : Bool) (x : A) → cond t x x ≡ x
either_way true x = refl
either_way false x = refl

pub nought : (t : Bool) → cond {A = ℕ} t 0 0 ≡ 0
nought t = either_way t 0

-- ---- the ledger's sums as tallies

-- a sum that adds v where a test holds
step : (t : Bool) (v : ℕ) {a b : ℕ} → a ≡ b → cond t (v + a) a ≡ cond t v 0 + b
step true v e = omega arith
step false v e = omega arith

pub transferred_tally : (bank : ℕ) (ps : List Position) → transferred_of bank ps ≡ tally (only (of_bank bank) transfers) ps
unfolding transferred_of tally only of_bank
transferred_tally bank [] = refl
transferred_tally bank (p ∷ ps) = step (eqb p.key.bank bank) p.transferred (transferred_tally bank ps)

pub detailed_tally : (bank : ℕ) (ps : List Position) → detailed_of bank ps ≡ tally (only (of_bank bank) details) ps
unfolding detailed_of tally only of_bank
detailed_tally bank [] = refl
detailed_tally bank (p ∷ ps) = step (eqb p.key.bank bank) p.detailed (detailed_tally bank ps)

pub times_tally : (q : Position) (ps : List Position) → times same_entry q ps ≡ tally (only (equal_to q) one) ps
unfolding times tally only equal_to
times_tally q [] = refl
times_tally q (p ∷ ps) = step (same_entry p q) 1 (times_tally q ps)

pub kept_tally : (g : Measure) (ps : List Position) → tally g (kept ps) ≡ tally (only bare g) ps
unfolding kept tally only bare
kept_tally g [] = refl
kept_tally g (p ∷ ps) = go (has_details p) (kept_tally g ps)
  where
    go : (t : Bool) → tally g (kept ps) ≡ tally (only bare g) ps → tally g (cond t (kept ps) (p ∷ kept ps)) ≡ cond (not t) (g p) 0 + tally (only bare g) ps
    go true e = omega arith
    go false e = omega arith

-- measures that agree at each position, that are nothing at each, and the sum of two
pub tally_each : (f g : Measure) → ((p : Position) → f p ≡ g p) → (ps : List Position) → tally f ps ≡ tally g ps
unfolding tally
tally_each f g e [] = refl
tally_each f g e (p ∷ ps) = omega (arith, e p, tally_each f g e ps)

pub tally_none : (g : Measure) → ((p : Position) → g p ≡ 0) → (ps : List Position) → tally g ps ≡ 0
unfolding tally
tally_none g e [] = refl
tally_none g e (p ∷ ps) = omega (arith, e p, tally_none g e ps)

pub tally_add : (f g : Measure) (ps : List Position) → tally f ps + tally g ps ≡ tally (λ (p : Position). f p + g p) ps
unfolding tally
tally_add f g [] = refl
tally_add f g (p ∷ ps) = omega (arith, tally_add f g ps)

-- what a turn keeps has no details
pub kept_bare : (g : Measure) (ledger : List Position) → tally g (kept ledger) ≡ tally (only bare g) (kept ledger)
unfolding only
kept_bare g ledger = kept_tally g ledger ∙ tally_each (only bare g) (only bare (only bare g)) (λ p. again (bare p) (g p)) ledger ∙ sym (kept_tally (only bare g) ledger)
  where
    again : (t : Bool) (v : ℕ) → cond t v 0 ≡ cond t (cond t v 0) 0
    again true v = refl
    again false v = refl

-- ---- the same entries

pub same_refl : (ps : List Position) → SameEntries ps ps
same_refl ps = record { sums = λ g. refl }

pub same_kept : (ps qs : List Position) → SameEntries ps qs → SameEntries (kept ps) (kept qs)
same_kept ps qs s = record { sums = λ g. kept_tally g ps ∙ s.sums (only bare g) ∙ sym (kept_tally g qs) }

-- "order aside": each entry stands in both as often
pub same_times : (ps qs : List Position) → SameEntries ps qs → Rearranged same_entry ps qs
same_times ps qs s q = times_tally q ps ∙ s.sums (only (equal_to q) one) ∙ sym (times_tally q qs)
