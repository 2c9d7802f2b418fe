-- A part of a text on its own: what stands at its places stands at those of the text.
use Rattle.std.specs.Prelude.{◌≡◌, Bool, ◌&&◌, List, ℕ, ◌+◌, ◌≤◌, leb, take, drop}
use Rattle.std.proofs.Common.{ap, take-take}
use native.Mathlib.Omega.{arith}
use Rattle.rules.specs.Text.{ascii, fits}
use Rattle.rules.specs.Accounts.{passes}
use Rattle.laws.specs.Parts.{cut, from, from_take, cut_cut, cut_drop}
use Rattle.register_lines.specs.Blocks.{crlf}
use Rattle.register_lines.specs.AccountLine.{account_form, bound}
use Rattle.register_lines.specs.Places.{ends_at, form_at, bound_at, account_stands, code_form, code_stands}
use Rattle.register_lines.specs.Formed.{bounds_at}

-- the first n bytes of x are those of s from a place on
pub record Alike (x s : List ℕ) (at n : ℕ) : Type 0 where
  pub each : (a b : ℕ) → b ≤ n → cut x a b ≡ cut s (at + a) (at + b)

pub part_alike : (s : List ℕ) (at n : ℕ) → Alike (take n (drop at s)) s at n
unfolding from
part_alike s at n = record { each = λ a b h. rw (from_take s at n) (cut_cut s at (at + n) a b (omega arith)) }

pub rest_alike : (s : List ℕ) (at n : ℕ) → Alike (drop at s) s at n
unfolding cut from
rest_alike s at n = record { each = λ a b h. rw (from_take s at b) (cut_drop s at (at + b) a) }

pub front_alike : (s : List ℕ) (n m : ℕ) → m ≤ n → Alike (take n s) s 0 m
unfolding cut
front_alike s n m l = record {
  each = λ a b h.
      let e : 0 + a ≡ a = omega arith in
      let f : 0 + b ≡ b = omega arith in
      rw (e, f, take-take b n s (omega arith));
}

module _ {x s : List ℕ} {at n : ℕ} (w : Alike x s at n) where
  pub ends_alike : (k : ℕ) → k + 2 ≤ n → ends_at x k ≡ ends_at s (at + k)
  unfolding ends_at
  ends_alike k h = let e : at + (k + 2) ≡ at + k + 2 = omega arith in ap (fits crlf) (rw e at (w.each k (k + 2) h))

  pub bound_alike : (k : ℕ) → k + 6 ≤ n → bound_at x k ≡ bound_at s (at + k)
  unfolding bound_at
  bound_alike k h = let e : at + (k + 6) ≡ at + k + 6 = omega arith in ap bound (rw e at (w.each k (k + 6) h))

  pub bounds_alike : (k : ℕ) → k + 14 ≤ n → bounds_at x k ≡ bounds_at s (at + k)
  unfolding bounds_at
  bounds_alike k h = let e : at + (k + 14) ≡ at + k + 14 = omega arith in ap (fits (ascii ",nnnnnn,nnnnnn")) (rw e at (w.each k (k + 14) h))

  front : (k : ℕ) → k ≤ n → cut x 0 k ≡ cut s at (at + k)
  front k h = let e : at + 0 ≡ at = omega arith in rw e at (w.each 0 k h)

  pub account_alike : 38 ≤ n → account_stands x 0 ≡ account_stands s at
  unfolding account_stands form_at
  account_alike h = go (ap (fits account_form) (front 36 (omega arith))) (ends_alike 36 (omega arith)) (ap passes (front 22 (omega arith))) (bound_alike 23 (omega arith)) (bound_alike 30 (omega arith))
    where
      go : {f f' e e' p p' : Bool} {l l' h h' : ℕ} → f ≡ f' → e ≡ e' → p ≡ p' → l ≡ l' → h ≡ h' → (f && e && p && leb l h) ≡ (f' && e' && p' && leb l' h')
      go a b c d e = rw (a, b, c, d, e)

  pub code_alike : 35 ≤ n → code_stands x 0 ≡ code_stands s at
  unfolding code_stands
  code_alike h = go (ap (fits code_form) (front 33 (omega arith))) (ends_alike 33 (omega arith))
    where
      go : {f f' e e' : Bool} → f ≡ f' → e ≡ e' → (f && e) ≡ (f' && e')
      go a b = rw (a, b)
