-- What the lines of an accepted turn tell: in comes what is collected, out goes what is refunded, position by position.
use Rattle.std.specs.Prelude.{◌≡◌, Bool, ◌&&◌, cond}
use Rattle.std.proofs.Math.Path.{refl}
use Rattle.std.proofs.Math.Bool.{true, false, not}
use mathlib.Core.List.{List, ◌++◌}
use Prim.Native.Nat.{ℕ, ◌+◌, ◌-◌, ◌^◌, ◌<◌}
use Rattle.std.proofs.Common.{arith}
use Rattle.std.proofs.Math.Dec.{leb, eqb}
use borrow.Author.Tests.{leb-true, leb-false, eqb-true}
use Rattle.rules.specs.Accounts.{iban_shape}
use Rattle.rules.specs.Register.{register_of}
use Rattle.rules.specs.Engine.{Position, Engine, bic, last_bank, is_bank, has_details, kept}
use Rattle.rules.specs.Written.{Book, from_bank, to_bank, corrected, is_refunded, correction_posting, correction, correction_postings, corrections, mt204, mt205}
use Rattle.rules.specs.Calls.{turn_text}
use Rattle.rules.specs.Ledger.{Kind, Request, transferred_of, detailed_of}
use Rattle.laws.specs.Tests.{and_right}
use Rattle.laws.specs.All.{All, All.none, All.more}
use Rattle.engine_laws.specs.Limits.{Limits, bank_small}
use Rattle.engine_laws.specs.Positions.{Good, all_good}
use Rattle.balance_laws.specs.Told.{Tells, tells_none, tells_join, tells_same, tells_mute}
use Rattle.balance_laws.specs.Corrections.{Correcting, ◌▹◌, on_none, on_204, on_205}
use Rattle.balance_laws.specs.Accounts.{temporary_shape}
use Rattle.balance_laws.specs.Kinds.{comes_in, goes_out, Readable, mine, mine_none, bank_party, in_from, out_from, in_paid, out_paid}
use Rattle.balance_laws.specs.Tally.{Measure, tally, only, of_bank, bare, transfers, details, transferred_tally, detailed_tally, kept_tally, tally_each, tally_add}

-- what a turn counts for a position that it removes: up what it refunds and down what it collects, each by the bank
unfoldable pub closed : (ℕ → ℕ → ℕ) → (ℕ → ℕ → ℕ) → Measure
closed up down p = cond (has_details p) (up p.key.bank (p.transferred - p.detailed) + down p.key.bank (p.detailed - p.transferred)) 0

-- counted as nothing
abbrev pub nothing : ℕ → ℕ → ℕ
nothing x v = 0

-- the book of a correction
abbrev pub book_of : ℕ → List ℕ → Position → Book
book_of day temporary p = record { day = day; temporary = temporary; bank = p.key.bank; date = p.key.date }

module _ (day : ℕ) (temporary : List ℕ) (a : iban_shape temporary ≡ true) {old : ℕ} where
  pub readable : {p : Position} → Good old p → Readable (book_of day temporary p)
  unfolding is_bank
  readable {p} g = record { known = and_right (leb p.key.bank last_bank) _ g.bank; small = omega (arith, bank_small p.key.bank g.bank); account = a }

  -- ---- messages

  on_correction : {p : Position} (n : ℕ) → Good old p → Correcting day (correction day temporary n p)
  unfolding correction
  on_correction {p} n g = go (is_refunded p)
    where
      go : (t : Bool) → Correcting day (cond t (mt205 day n p (p.transferred - p.detailed)) (mt204 day temporary n p (p.detailed - p.transferred)))
      go true = on_205 day n p (p.transferred - p.detailed) (readable g).known g.detailed
      go false = on_204 day temporary n p (p.detailed - p.transferred) (readable g).known a g.detailed

  pub on_corrections : {ps : List Position} (n : ℕ) → All (Good old) ps → Correcting day (corrections day temporary n ps)
  unfolding corrections
  on_corrections n none = on_none
  on_corrections n (more {x = p} {xs = ps} g s) = go (corrected p) (on_corrections (n + 1) s) (on_corrections n s)
    where
      go : (t : Bool) → Correcting day (corrections day temporary (n + 1) ps) → Correcting day (corrections day temporary n ps)
          → Correcting day (cond t (correction day temporary (n + 1) p ++ corrections day temporary (n + 1) ps) (corrections day temporary n ps))
      go true u v = on_correction (n + 1) g ▹ u
      go false u v = v

  -- ---- posting lines, by a kind that counts refunds by up and collections by down

  module _ (kind : Kind) (f : Request) (up down : ℕ → ℕ → ℕ) (no-up : (x : ℕ) → up x 0 ≡ 0) (no-down : (x : ℕ) → down x 0 ≡ 0)
      (refunds : (p : Position) (v : ℕ) → Readable (book_of day temporary p) → v < 10 ^ 20 → Tells kind f (to_bank (book_of day temporary p) v) (up p.key.bank v))
      (collects : (p : Position) (v : ℕ) → Readable (book_of day temporary p) → v < 10 ^ 20 → Tells kind f (from_bank (book_of day temporary p) v) (down p.key.bank v)) where
    tells_correction : (p : Position) → Good old p
        → Tells kind f (correction_posting day temporary p) (up p.key.bank (p.transferred - p.detailed) + down p.key.bank (p.detailed - p.transferred))
    unfolding correction_posting is_refunded
    tells_correction p g = go (leb p.detailed p.transferred) refl
      where
        go : (t : Bool) → leb p.detailed p.transferred ≡ t
            → Tells kind f (cond t (to_bank (book_of day temporary p) (p.transferred - p.detailed)) (from_bank (book_of day temporary p) (p.detailed - p.transferred)))
            (up p.key.bank (p.transferred - p.detailed) + down p.key.bank (p.detailed - p.transferred))
        go true e =
            let z : p.detailed - p.transferred ≡ 0 = omega (arith, leb-true p.detailed p.transferred e) in
            tells_same (refunds p (p.transferred - p.detailed) (readable g) (omega (arith, g.transferred))) (rw (z, no-down) (omega arith))
        go false e =
            let z : p.transferred - p.detailed ≡ 0 = omega (arith, leb-false p.detailed p.transferred e) in
            tells_same (collects p (p.detailed - p.transferred) (readable g) (omega (arith, g.detailed))) (rw (z, no-up) (omega arith))

    -- a position with equal totals writes nothing
    tells_postings : {ps : List Position} → All (Good old) ps → Tells kind f (correction_postings day temporary ps) (tally (closed up down) ps)
    unfolding correction_postings tally closed corrected
    tells_postings none = tells_none
    tells_postings (more {x = p} {xs = ps} g s) = go (has_details p) (eqb p.transferred p.detailed) refl (tells_postings s)
      where
        go : (t u : Bool) → eqb p.transferred p.detailed ≡ u → Tells kind f (correction_postings day temporary ps) (tally (closed up down) ps)
            → Tells kind f (cond (t && not u) (correction_posting day temporary p ++ correction_postings day temporary ps) (correction_postings day temporary ps))
            (cond t (up p.key.bank (p.transferred - p.detailed) + down p.key.bank (p.detailed - p.transferred)) 0 + tally (closed up down) ps)
        go true false e r = tells_join (tells_correction p g) r
        go true true e r =
            let x : p.transferred - p.detailed ≡ 0 = omega (arith, eqb-true p.transferred p.detailed e) in
            let y : p.detailed - p.transferred ≡ 0 = omega (arith, eqb-true p.transferred p.detailed e) in
            tells_same r (rw (x, y, no-up, no-down) (omega arith))
        go false u e r = tells_same r (omega arith)

    -- the corrections that follow tell nothing
    tells_turn : {ps : List Position} → All (Good old) ps → Tells kind f (correction_postings day temporary ps ++ corrections day temporary 0 ps) (tally (closed up down) ps)
    tells_turn g = tells_same (tells_join (tells_postings g) (tells_mute (on_corrections 0 g).mute)) (omega arith)

-- ---- the two sums

module _ (e : Engine) (l : Limits e) (day bank : ℕ) (f : Request) (s : bank < 2 ^ 64) where
  pub turn_in : Tells (comes_in bank) f (turn_text e day) (tally (closed nothing (mine bank)) e.positions)
  unfolding turn_text
  turn_in =
      let t : List ℕ = (register_of e.register).temporary in
      tells_turn day t (temporary_shape e.register l.register) (comes_in bank) f nothing (mine bank) (λ x. refl) (mine_none bank)
      (λ p v k h. in_paid (book_of day t p) bank v k s h (bic p.key.bank) (bank_party (book_of day t p) k)) (λ p v k h. in_from (book_of day t p) bank v k s h)
      (all_good e.day e.positions l.good)

  pub turn_out : Tells (goes_out (register_of e.register).temporary bank) f (turn_text e day) (tally (closed (mine bank) nothing) e.positions)
  unfolding turn_text
  turn_out =
      let t : List ℕ = (register_of e.register).temporary in
      tells_turn day t (temporary_shape e.register l.register) (goes_out t bank) f (mine bank) nothing (mine_none bank) (λ x. refl)
      (λ p v k h. out_paid (book_of day t p) bank v k s h (bic p.key.bank) (bank_party (book_of day t p) k)) (λ p v k h. out_from (book_of day t p) bank v k s h)
      (all_good e.day e.positions l.good)

-- a bank's collected and transferred against its refunded and detailed, over what is there and what a turn keeps
pub turn_settles : (bank : ℕ) (ps : List Position)
    → tally (closed nothing (mine bank)) ps + transferred_of bank ps + detailed_of bank (kept ps) ≡ tally (closed (mine bank) nothing) ps + detailed_of bank ps + transferred_of bank (kept ps)
unfolding closed mine only of_bank bare has_details
turn_settles bank ps =
    let t : Measure = only (of_bank bank) transfers in
    let d : Measure = only (of_bank bank) details in
    let c : Measure = closed nothing (mine bank) in
    let r : Measure = closed (mine bank) nothing in
    omega (
      arith,
      transferred_tally bank ps,
      detailed_tally bank ps,
      transferred_tally bank (kept ps),
      detailed_tally bank (kept ps),
      kept_tally t ps,
      kept_tally d ps,
      tally_add c t ps,
      tally_add (λ p. c p + t p) (only bare d) ps,
      tally_add r d ps,
      tally_add (λ p. r p + d p) (only bare t) ps,
      tally_each (λ p. c p + t p + only bare d p) (λ p. r p + d p + only bare t p) each ps,
    )
  where
    go : (p : Position) (u v : Bool) → leb 1 p.detailed ≡ u
        → cond u (0 + cond v (p.detailed - p.transferred) 0) 0 + cond v p.transferred 0 + cond (not u) (cond v p.detailed 0) 0
        ≡ cond u (cond v (p.transferred - p.detailed) 0 + 0) 0 + cond v p.detailed 0 + cond (not u) (cond v p.transferred 0) 0
    go p true true h = omega arith
    go p true false h = refl
    go p false true h = omega (arith, leb-false 1 p.detailed h)
    go p false false h = refl

    each : (p : Position) → closed nothing (mine bank) p + only (of_bank bank) transfers p + only bare (only (of_bank bank) details) p ≡ closed (mine bank) nothing p + only (of_bank bank) details p + only bare (only (of_bank bank) transfers) p
    each p = go p (leb 1 p.detailed) (eqb p.key.bank bank) refl
