-- What a turn refunds and collects, summed position by position.
use Rattle.std.specs.Prelude.{◌≡◌, Bool, ℕ, ◌+◌, ◌-◌, ◌*◌, ◌^◌, ◌≤◌, ◌<◌}
use Rattle.std.proofs.Common.{◌∙◌, le-leb, subst, sym}
use Rattle.std.proofs.Math.Path.{ap}
use Rattle.std.proofs.Math.Bool.{true, false, cond}
use mathlib.Core.List.{List, [], ◌∷◌}
use native.Mathlib.Omega.{arith}
use Rattle.rules.specs.Engine.{Position, has_details}
use Rattle.rules.specs.Calls.{refunded, collected}
use Rattle.rules.specs.Text.{is_some}
use Rattle.rules.specs.Area.{decode, positions_place, record_size, holds}
use Rattle.engine_laws.specs.Decoded.{decoded_room}
use Rattle.position.specs.Values.{position_value}
use Rattle.position.specs.declared.Position as P
use Rattle.turn_text.specs.declared.sums.Sums.{Sums}
use Rattle.engine.specs.Header.{HeaderOf}
use Rattle.engine.specs.declared.header.Header.{Header}
use Rattle.engine.specs.Lookup.{positions_are}
use Rattle.engine.specs.Positions.{positions_from, positions_next, positions_none, PositionAt}

-- what a position with details has of one total above the other
unfoldable pub above : Position → ℕ → ℕ → ℕ
above p a b = cond (has_details p) (a - b) 0

-- what a position adds
abbrev pub refund_of : Position → ℕ
refund_of p = above p p.transferred p.detailed

abbrev pub collection_of : Position → ℕ
collection_of p = above p p.detailed p.transferred

-- r is s with what the position adds
pub record Adds (p : Position) (s r : Sums) : Type 0 where
  pub refunded : r.refunded ≡ s.refunded + refund_of p
  pub collected : r.collected ≡ s.collected + collection_of p

-- the sums of some positions, 32 of them at most
pub record SumsOf (ps : List Position) (r : Sums) : Type 0 where
  pub refunded : r.refunded ≡ refunded ps
  pub collected : r.collected ≡ collected ps
  pub refunded_small : r.refunded ≤ 2 ^ 53
  pub collected_small : r.collected ≤ 2 ^ 53

-- ---- one position

module _ (p : Position) (a b : ℕ) where
  above_none : p.detailed ≡ 0 → above p a b ≡ 0
  unfolding above has_details
  above_none e = rw e

  above_some : (p.detailed ≡ 0 → ⊥) → above p a b ≡ a - b
  unfolding above has_details
  above_some h = rw (le-leb 1 p.detailed (omega (arith, h)))

  -- it is no more than the one total
  above_small : above p a b ≤ a
  unfolding above
  above_small = go (has_details p)
    where
      go : (t : Bool) → cond t (a - b) 0 ≤ a
      go true = omega arith
      go false = omega arith

  -- it is added to what others add
  above_first : (n : ℕ) → cond (has_details p) ((a - b) + n) n ≡ above p a b + n
  unfolding above
  above_first n = go (has_details p)
    where
      go : (t : Bool) → cond t ((a - b) + n) n ≡ cond t (a - b) 0 + n
      go true = omega arith
      go false = omega arith

module _ (p : Position) (s : Sums) where
  pub adds_nothing : p.detailed ≡ 0 → Adds p s s
  adds_nothing e = record { refunded = omega (arith, above_none p p.transferred p.detailed e); collected = omega (arith, above_none p p.detailed p.transferred e) }

  pub adds_some : (p.detailed ≡ 0 → ⊥) → {a b : ℕ} → a ≡ p.transferred - p.detailed → b ≡ p.detailed - p.transferred → Adds p s (record { refunded = s.refunded + a; collected = s.collected + b })
  adds_some h u v = record { refunded = omega (arith, above_some p p.transferred p.detailed h); collected = omega (arith, above_some p p.detailed p.transferred h) }

-- ---- position by position

-- what is left of the n positions, k from the i-th on, completes the sums; each may still add 2 ^ 48
pub record SumsLeft (area : List ℕ) (i k n : ℕ) (s : Sums) : Type 0 where
  pub place : i + k ≡ n
  pub refunded : s.refunded + refunded (positions_from area i k) ≡ refunded (positions_from area 0 n)
  pub collected : s.collected + collected (positions_from area i k) ≡ collected (positions_from area 0 n)
  pub refunded_small : s.refunded + 2 ^ 48 * k ≤ 2 ^ 48 * n
  pub collected_small : s.collected + 2 ^ 48 * k ≤ 2 ^ 48 * n

module _ (p : Position) (ps : List Position) where
  refunded_first : refunded (p ∷ ps) ≡ refund_of p + refunded ps
  unfolding refunded
  refunded_first = above_first p p.transferred p.detailed (refunded ps)

  collected_first : collected (p ∷ ps) ≡ collection_of p + collected ps
  unfolding collected
  collected_first = above_first p p.detailed p.transferred (collected ps)

pub sums_all : (area : List ℕ) (n : ℕ) → SumsLeft area 0 n n (record { refunded = 0; collected = 0 })
sums_all area n = record { place = omega arith; refunded = omega arith; collected = omega arith; refunded_small = omega arith; collected_small = omega arith }

pub sums_start : (area : List ℕ) (n : ℕ) → SumsLeft area 0 (n - 0) n (record { refunded = 0; collected = 0 })
sums_start area n = let e : n - 0 ≡ n = omega arith in rw e (sums_all area n)

module _ (area : List ℕ) (i k n : ℕ) (s : Sums) (l : SumsLeft area i k n s) where
  pub sums_more : 0 < k → {q : P.Position} → PositionAt area (positions_place + record_size * i) q → {r : Sums} → Adds (position_value q) s r → SumsLeft area (i + 1) (k - 1) n r
  sums_more h {q} a {r} d =
      let x : Position = position_value q in
      let xs : List Position = positions_from area (i + 1) (k - 1) in
      let e : positions_from area i k ≡ x ∷ xs = positions_next area i k h ∙ rw a.value in
      record {
        place = omega (arith, l.place);
        refunded = omega (arith, l.refunded, ap refunded e, refunded_first x xs, d.refunded);
        collected = omega (arith, l.collected, ap collected e, collected_first x xs, d.collected);
        refunded_small = omega (arith, l.refunded_small, d.refunded, above_small x x.transferred x.detailed, a.transferred);
        collected_small = omega (arith, l.collected_small, d.collected, above_small x x.detailed x.transferred, a.detailed);
      }

  pub sums_from : k ≤ 0 → n ≤ 32 → SumsOf (positions_from area 0 n) s
  unfolding refunded collected
  sums_from h m =
      let e : positions_from area i k ≡ [] = positions_none area i k h in
      record {
        refunded = omega (arith, l.refunded, ap refunded e);
        collected = omega (arith, l.collected, ap collected e);
        refunded_small = omega (arith, l.refunded_small);
        collected_small = omega (arith, l.collected_small);
      }

  pub sums_end : (decode area).positions ≡ positions_from area 0 n → k ≤ 0 → n ≤ 32 → SumsOf (decode area).positions s
  sums_end f h m = rw f (sums_from h m)

-- the positions of the engine that the area holds
pub sums_decoded : (area : List ℕ) (x : Header) (s : Sums) → is_some (holds area) ≡ true → HeaderOf area x → SumsOf (positions_from area 0 x.positions) s → SumsOf (decode area).positions s
sums_decoded area x s h n t = subst (λ (ps : List Position). SumsOf ps s) (sym (positions_are area h x n)) t

-- one position more of those that a loop counts up
pub sums_turn : (area : List ℕ) (i n : ℕ) (s : Sums) → SumsLeft area i (n - i) n s → i < n → {q : P.Position} → PositionAt area (positions_place + record_size * i) q → {r : Sums} → Adds (position_value q) s r
    → SumsLeft area (i + 1) (n - (i + 1)) n r
sums_turn area i n s l h a d = let e : n - i - 1 ≡ n - (i + 1) = omega arith in rw e at (sums_more area i (n - i) n s l (omega arith) a d)

pub ruleset summing = (adds_nothing, adds_some, sums_start, sums_turn, decoded_room)
