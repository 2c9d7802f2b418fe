-- The written texts, as the code's branches and tables lead to them.
use Rattle.std.specs.Prelude.{◌≡◌, List, [], ℕ, ◌+◌, ◌-◌, ◌≤◌, ◌<◌, length}
use Rattle.std.proofs.Common.{arith}
use Rattle.rules.specs.Amounts.{with_comma}
use Rattle.rules.specs.Text.{ascii}
use Rattle.rules.specs.Written.{posting, field, reference, linked, size}
use Rattle.laws.specs.Writing.{furthest, Wrote}
use Rattle.put.specs.declared.parts.Writer.{Writer}
use Rattle.put.specs.Writes.{Writes, writes_nothing, writes_within, writes_beyond}

-- a posting line shows nothing of the temporary account but as a party
pub posting_parties : {debit debit' credit credit' : List ℕ} (t t' : List ℕ) (day bank date v : ℕ) {w₀ w₁ : Writer}
    → Writes (posting (record { day = day; temporary = t; bank = bank; date = date }) debit credit v) w₀ w₁ → debit ≡ debit' → credit ≡ credit'
    → Writes (posting (record { day = day; temporary = t'; bank = bank; date = date }) debit' credit' v) w₀ w₁
unfolding posting
posting_parties t t' day bank date v w e f = rw (← e, ← f) w

-- the size of the difference, by which total is larger
module _ {a b at r : ℕ} {out out' : List ℕ} where
  pub size_below : a < b → Wrote (field [] (with_comma (b - a))) at out r out' → Wrote (field [] (with_comma (size a b))) at out r out'
  size_below h w = let e : size a b ≡ b - a = omega arith in rw e w

  pub size_above : b ≤ a → Wrote (field [] (with_comma (a - b))) at out r out' → Wrote (field [] (with_comma (size a b))) at out r out'
  size_above h w = let e : size a b ≡ a - b = omega arith in rw e w

-- part 1 has no field 21
pub linked_first : (day n part : ℕ) {w : Writer} → part < 2 → length w.out.now ≤ furthest → Writes (linked day n part) w w
unfolding linked
linked_first day n part h k = writes_beyond (field (ascii ":21:") (reference day (n + 1))) [] 2 part h (writes_nothing k)

-- every other part has part 1's reference in it
pub linked_later : (day first part : ℕ) {w₀ w₁ : Writer} → 0 < first → 2 ≤ part → Writes (field (ascii ":21:") (reference day first)) w₀ w₁ → Writes (linked day (first - 1) part) w₀ w₁
unfolding linked
linked_later day first part f h w =
    let e : first - 1 + 1 ≡ first = omega arith in writes_within (field (ascii ":21:") (reference day (first - 1 + 1))) [] 2 part h (rw e w)
