-- A date and an amount in a field of a message, behind some bytes of its line, by the places of the line.
use Rattle.std.specs.Prelude.{◌≡◌, refl, List, [], ◌∷◌, ℕ, ◌+◌, ◌-◌, ◌≤◌, ◌<◌, min, eqb, length, take, drop}
use Rattle.std.proofs.Common.{arith, length-take, ne_eqb}
use Rattle.std.proofs.Math.Option.{Option, none}
use Rattle.rules.specs.Text.{is_digit}
use Rattle.rules.specs.Dates.{date}
use Rattle.rules.specs.Amounts.{amount}
use Rattle.laws.specs.Parts.{cut, cut_size, cut_length, cut_take, cut_drop}
use Rattle.forms.specs.Spans.{span_of, SpanIn}
use Rattle.forms.specs.declared.rows.Span.{Span}

-- a part that ends where it begins, or before, has no bytes
past : (s : List ℕ) (a e : ℕ) → e ≤ a → cut s a e ≡ []
past s a e h = go (cut s a e) (cut_size s a e)
  where
    go : (l : List ℕ) → length l ≡ min e (length s) - a → l ≡ []
    go [] z = refl
    go (x ∷ l) z = absurd (omega arith)

module _ (s : List ℕ) (p : Span) (k : ℕ) (w : SpanIn s p) where
  pub date_short : p.end < p.start + k + 6 → none ≡ date (take 6 (drop k (span_of s p)))
  unfolding date
  date_short h =
      let l : length (take 6 (drop k (span_of s p))) ≡ min 6 (p.end - (p.start + k)) = rw (length-take, cut_drop, cut_length s (p.start + k) p.end w.room) in
      rw (ne_eqb (length (take 6 (drop k (span_of s p)))) 6 (λ e. omega arith))

  pub date_there : p.start + k + 6 ≤ p.end → (o : Option ℕ) → o ≡ date (cut s (p.start + k) (p.start + k + 6)) → o ≡ date (take 6 (drop k (span_of s p)))
  date_there h o e = rw (cut_drop, cut_take s (p.start + k) p.end 6 h) e

  pub amount_short : p.end < p.start + k → none ≡ amount (drop k (span_of s p))
  unfolding amount is_digit
  amount_short h = rw (cut_drop, past s (p.start + k) p.end (omega arith))

  pub amount_there : (o : Option ℕ) → o ≡ amount (cut s (p.start + k) p.end) → o ≡ amount (drop k (span_of s p))
  amount_there o e = rw cut_drop e

-- nothing stands there
pub nothing_left : (s : List ℕ) (a e : ℕ) → e ≤ length s → eqb (e - a) 0 ≡ eqb (length (cut s a e)) 0
nothing_left s a e k = rw (cut_length s a e k)
