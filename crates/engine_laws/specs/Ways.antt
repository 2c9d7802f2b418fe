-- The ways on and out of the tests of an area: a law for each, with the facts as branches and calls hand them out.
use Rattle.std.specs.Prelude.{◌≡◌, Bool, false, ◌&&◌, not, List, ℕ, suc, ◌+◌, ◌≤◌, ◌<◌, leb, take, drop}
use Rattle.std.proofs.Math.Path.{sym}
use Rattle.std.proofs.Common.{ap, ◌∙◌, arith, lit≤, take-take}
use Rattle.std.proofs.Math.Bool.{true}
use borrow.Author.Tests.{le-leb, lt-leb, leb-true, eq-eqb, ne_eqb, not-true, not-false}
use Rattle.rules.specs.Text.{every, text_before, big_endian}
use Rattle.rules.specs.Accounts.{is_bic}
use Rattle.rules.specs.Area.{block_offset, transferred_offset, length_at, text_at, count_place, many_positions_place, many_references_place, currency_place, record_size}
use Rattle.laws.specs.Parts.{cut}
use Rattle.laws.specs.Reading.{reading}
use Rattle.laws.specs.Tests.{and_left, and_right, tests}
use Rattle.engine_laws.specs.Walk.{walking}
use Rattle.engine_laws.specs.Records.{cut_is, in_record}
use Rattle.engine_laws.specs.Tests.{counts_test, header_test, precedes_by, filed_test, is_zero, text_test}
use Rattle.engine_laws.specs.Several.{TextRoom, first_room, next_room}

-- ---- a limit, and the tests behind it

pub limit_holds : (a b : ℕ) (r x : Bool) → a ≤ b → r ≡ x → r ≡ (leb a b && x)
limit_holds a b r x h e = rw (le-leb a b h) e

pub limit_failed : (a b : ℕ) (x : Bool) → b < a → false ≡ (leb a b && x)
limit_failed a b x h = rw (lt-leb a b h)

-- ---- a call that answered t, and the tests behind it

module _ (a b t : Bool) (u : t ≡ a) where
  pub call_failed : not t ≡ true → false ≡ (a && b)
  call_failed h = rw (← u, not-true t h)

  pub call_passed : not t ≡ false → (r : Bool) → r ≡ b → r ≡ (a && b)
  call_passed h r e = rw (← u, not-false t h) e

  pub call_out : t ≡ false → false ≡ (a && b)
  call_out h = rw (← u, h)

  -- what must not hold
  pub bar_met : t ≡ true → false ≡ (not a && b)
  bar_met h = rw (← u, h)

  pub bar_passed : t ≡ false → (r : Bool) → r ≡ b → r ≡ (not a && b)
  bar_passed h r e = rw (← u, h) e

-- ---- the parts of a record, as they stand in the area

pub bank_part : (a : List ℕ) (p : ℕ) (t : Bool) → t ≡ is_bic (cut a p (p + 8)) → t ≡ is_bic (take 8 (take record_size (drop p a)))
bank_part a p t h = rw (cut_is a p 8, ← take-take 8 record_size (drop p a) (lit≤ tt)) at h

pub block_part : (a : List ℕ) (p : ℕ) (t : Bool) → t ≡ every is_zero (cut a (p + block_offset) (p + transferred_offset)) → t ≡ every is_zero (take 1 (drop block_offset (take record_size (drop p a))))
block_part a p t h =
    h ∙ ap (every is_zero) (sym (in_record a p block_offset transferred_offset (lit≤ tt)) ∙ cut_is (cut a p (p + record_size)) block_offset 1 ∙ ap (λ (r : List ℕ). take 1 (drop block_offset r)) (cut_is a p record_size))

-- ---- senders and texts compared

module _ (a : List ℕ) (p x y : ℕ) (e : x ≡ big_endian (cut a p (p + 8))) (f : y ≡ big_endian (cut a (p + record_size) (p + record_size + 8))) where
  pub lower_sender : x < y → true ≡ filed_test a p
  unfolding filed_test precedes_by
  lower_sender h = rw (← e, ← f, lt-leb y x h)

  pub higher_sender : y < x → false ≡ filed_test a p
  unfolding filed_test precedes_by
  higher_sender h = rw (← e, ← f, le-leb y x (omega arith), ne_eqb x y (λ (z : x ≡ y). omega arith))

  pub same_sender : y ≤ x → x ≤ y → {r : Bool} → r ≡ text_before (cut a (p + 8) (p + 8 + 16)) (cut a (p + record_size + 8) (p + record_size + 8 + 16)) → r ≡ filed_test a p
  unfolding filed_test precedes_by
  same_sender h k g = rw (← e, ← f, le-leb y x h, eq-eqb x y (omega arith)) g

-- ---- the numbers of a header that passed

module _ (a : List ℕ) (t : Bool) (u : t ≡ header_test a) (h : not t ≡ false) where
  counts : counts_test (big_endian (cut a count_place many_positions_place)) (big_endian (cut a many_positions_place many_references_place)) (big_endian (cut a many_references_place currency_place)) ≡ true
  unfolding header_test
  counts = let k : header_test a ≡ true = sym u ∙ not-false t h in search (and_left, and_right)

  pub few_references : big_endian (cut a many_references_place currency_place) ≤ 64
  unfolding counts_test
  few_references = leb-true _ 64 (and_left _ _ counts)

  pub few_positions : big_endian (cut a many_positions_place many_references_place) ≤ 32
  unfolding counts_test
  few_positions = leb-true _ 32 (and_left _ _ (and_right (leb (big_endian (cut a many_references_place currency_place)) 64) _ counts))

-- ---- texts

-- a text of at most m bytes stands where there is room for m
pub text_stands : (a : List ℕ) (k m n : ℕ) → TextRoom a k m → n ≡ length_at a k → n ≤ m → TextRoom a k (length_at a k)
text_stands a k m n r e h = record { long = r.long; fits = omega (arith, r.fits) }

-- the test of text k, n being its length
module _ (m : ℕ) (passes : List ℕ → Bool) (a : List ℕ) (k n : ℕ) (e : n ≡ length_at a k) where
  pub text_long : m < n → false ≡ text_test m passes a k
  unfolding text_test
  text_long h = rw (← e, lt-leb n m h)

  pub text_short : n ≤ m → {t : List ℕ} → t ≡ text_at a k → (r : Bool) → r ≡ passes t → r ≡ text_test m passes a k
  unfolding text_test
  text_short h f r g = rw (← e, le-leb n m h, ← f) g

-- behind a text that passed the next one has the room that is left
pub text_behind : (m : ℕ) (passes : List ℕ → Bool) (a : List ℕ) (k n : ℕ) (t : Bool) → TextRoom a k (m + n) → t ≡ text_test m passes a k → not t ≡ false → TextRoom a (suc k) n
unfolding text_test
text_behind m passes a k n t r u h = next_room a k m n r (leb-true _ _ (and_left _ _ (sym u ∙ not-false t h)))

pub ruleset filing = (lower_sender, higher_sender, same_sender)

pub ruleset calling = (call_failed, call_passed, bar_met, bar_passed)

pub ruleset lettering = (first_room, text_stands, text_long, text_short)

pub ruleset limiting = (limit_holds, limit_failed, call_failed, call_out, tests, walking, reading)
