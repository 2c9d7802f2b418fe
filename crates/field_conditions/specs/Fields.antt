-- The conditions of single fields, as the code tells them.
use Rattle.std.specs.Prelude.{◌≡◌, refl, Bool, true, false, ◌||◌, not, List, ℕ, ◌+◌, ◌-◌, ◌≤◌, ◌<◌, min, length, take, drop}
use Rattle.std.proofs.Common.{arith, eq-eqb, ne_eqb, take-take, sym, ◌∙◌, length-take}
use Rattle.std.proofs.Math.Path.{ap}
use Rattle.rules.specs.Text.{ascii, equal, fits}
use Rattle.rules.specs.Accounts.{passes, iban_shape}
use Rattle.rules.specs.Lines.{sender}
use Rattle.rules.specs.Engine.{slashed}
use Rattle.rules.specs.Calls.{bad_sum}
use Rattle.laws.specs.Parts.{cut, cut_length, cut_take, cut_drop, cut_all, from, from_take}
use Rattle.laws.specs.Tests.{not_holds}
use Rattle.laws.specs.Reading.{fits_length}
use Rattle.laws.specs.Equal.{equal_true}
use Rattle.forms.specs.Spans.{span_of, SpanIn}
use Rattle.forms.specs.Fields.{Behind, behind_bytes}
use Rattle.forms.specs.declared.rows.Span.{Span}

-- 7 of 50H's line: "a 50H account that doesn't pass or whose characters 5 to 8 aren't the sender's first four"
unfoldable pub foreign : List ℕ → List ℕ → Bool
foreign bank l = not (passes (take 22 (drop 6 l))) || not (equal (take 4 (drop 4 (take 22 (drop 6 l)))) (take 4 bank))

-- ---- 5

module _ (s : List ℕ) (p : Span) (k : ℕ) (r : Span) (w : SpanIn s p) (b : Behind p k r) where
  pub slashed_there : (t : Bool) → t ≡ slashed (span_of s r) → t ≡ slashed (drop k (span_of s p))
  slashed_there t e = e ∙ ap slashed (behind_bytes s p k w r b)

  pub same_there : (u : List ℕ) (t : Bool) → t ≡ equal (span_of s r) (cut u 0 (length u)) → t ≡ equal (drop k (span_of s p)) u
  same_there u t e = e ∙ (rw (cut_all u, behind_bytes s p k w r b))

-- ---- 6

or_true : (b : Bool) → true ≡ (b || true)
or_true true = refl
or_true false = refl

or_false : (b : Bool) → b ≡ (b || false)
or_false true = refl
or_false false = refl

pub sum_zero : (c : List ℕ) (v : ℕ) → v ≡ 0 → true ≡ bad_sum c v
unfolding bad_sum
sum_zero c v h = rw (eq-eqb v 0 h) (or_true (not (equal c (ascii "BGN"))))

pub sum_told : (c : List ℕ) (v : ℕ) → (v ≡ 0 → ⊥) → (t : Bool) → t ≡ equal c (ascii "BGN") → not t ≡ bad_sum c v
unfolding bad_sum
sum_told c v n t u = rw (ne_eqb v 0 n, u) (or_false (not (equal c (ascii "BGN"))))

-- of a field between two places
module _ (s : List ℕ) (p : Span) (k v : ℕ) (w : SpanIn s p) where
  pub sum_short : p.end < p.start + k + 3 → true ≡ bad_sum (take 3 (drop k (span_of s p))) v
  unfolding bad_sum
  sum_short h =
      let l : length (take 3 (drop k (span_of s p))) ≡ min 3 (p.end - (p.start + k)) = rw (length-take, cut_drop, cut_length s (p.start + k) p.end w.room) in
      let e : false ≡ equal (take 3 (drop k (span_of s p))) (ascii "BGN") = not_holds _ (λ q. omega (arith, ap (λ (x : List ℕ). length x) (equal_true _ _ q))) in
      rw (← e)

  module _ (h : p.start + k + 3 ≤ p.end) (t : Bool) (u : t ≡ equal (cut s (p.start + k) (p.start + k + 3)) (cut (ascii "BGN") 0 3)) where
    currency : equal (take 3 (drop k (span_of s p))) (ascii "BGN") ≡ t
    currency = rw (cut_drop, cut_take s (p.start + k) p.end 3 h) (sym (u ∙ ap (equal (cut s (p.start + k) (p.start + k + 3))) (cut_all (ascii "BGN"))))

    pub sum_other : t ≡ false → true ≡ bad_sum (take 3 (drop k (span_of s p))) v
    unfolding bad_sum
    sum_other d = rw (currency, d)

    pub sum_good : t ≡ true → (v ≡ 0 → ⊥) → false ≡ bad_sum (take 3 (drop k (span_of s p))) v
    unfolding bad_sum
    sum_good d z = rw (currency, d, ne_eqb v 0 z)

pub ruleset sums = (sum_zero, sum_told)

-- ---- 7

sender_part : (s : List ℕ) → take 4 (sender s) ≡ take 4 (drop 4 s)
unfolding sender
sender_part s = take-take 4 8 (drop 4 s) (omega arith)

module _ (s l : List ℕ) (t : Bool) (u : t ≡ passes (take 22 (drop 6 l))) where
  pub payer_not : not t ≡ true → true ≡ foreign (sender s) l
  unfolding foreign
  payer_not d = rw (← u, d)

  pub payer_passes : t ≡ true → (q : Bool) → q ≡ equal (take 4 (drop 4 (take 22 (drop 6 l)))) (take 4 (drop 4 s)) → not q ≡ foreign (sender s) l
  unfolding foreign
  payer_passes d q v = rw (← u, d, sender_part, ← v)

-- of a field between two places
sender_cut : (s : List ℕ) → take 4 (sender s) ≡ cut s 4 8
unfolding sender from
sender_cut s = take-take 4 8 (drop 4 s) (omega arith) ∙ from_take s 4 4

module _ (s : List ℕ) (p : Span) (w : SpanIn s p) where
  pub payer_short : p.end < p.start + 6 + 22 → true ≡ foreign (sender s) (span_of s p)
  unfolding foreign passes iban_shape
  payer_short h =
      let l : length (take 22 (drop 6 (span_of s p))) ≡ min 22 (p.end - (p.start + 6)) = rw (length-take, cut_drop, cut_length s (p.start + 6) p.end w.room) in
      let e : false ≡ fits (ascii "BGnnaaaannnnnncccccccc") (take 22 (drop 6 (span_of s p))) = not_holds _ (λ q. omega (arith, fits_length _ _ q)) in
      rw (← e)

  module _ (h : p.start + 6 + 22 ≤ p.end) (t : Bool) (u : t ≡ passes (cut s (p.start + 6) (p.start + 6 + 22))) where
    account : take 22 (drop 6 (span_of s p)) ≡ cut s (p.start + 6) (p.start + 6 + 22)
    account = rw (cut_drop, cut_take s (p.start + 6) p.end 22 h)

    module _ (d : t ≡ true) (q : Bool) (v : q ≡ equal (cut s (p.start + 6 + 4) (p.start + 6 + 4 + 4)) (cut s 4 8)) where
      pub payer_own : q ≡ true → false ≡ foreign (sender s) (span_of s p)
      unfolding foreign
      payer_own g = rw (account, ← u, d, cut_drop, cut_take s (p.start + 6 + 4) (p.start + 6 + 22) 4 (omega arith), sender_cut, ← v, g)

      pub payer_other : q ≡ false → true ≡ foreign (sender s) (span_of s p)
      unfolding foreign
      payer_other g = rw (account, ← u, d, cut_drop, cut_take s (p.start + 6 + 4) (p.start + 6 + 22) 4 (omega arith), sender_cut, ← v, g)

pub ruleset payers = (payer_not, payer_passes)
