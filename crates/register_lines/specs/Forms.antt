-- The two forms of the lines behind the first: a line that stands has its room, and within it its key.
use Rattle.std.specs.Prelude.{◌≡◌, Bool, true, false, List, ℕ, ◌+◌, ◌-◌, ◌≤◌, ◌<◌, length, take, drop}
use Rattle.std.proofs.Common.{◌∙◌, arith}
use Rattle.rules.specs.Text.{fits}
use Rattle.laws.specs.Parts.{cut, cut_size}
use Rattle.laws.specs.Tests.{and_left, and_right, not_holds}
use Rattle.laws.specs.Slices.{rest_whole}
use Rattle.laws.specs.Reading.{fits_length}
use Rattle.register_lines.specs.Blocks.{crlf}
use Rattle.register_lines.specs.Alike.{Alike, front_alike, rest_alike, account_alike, code_alike}
use Rattle.register_lines.specs.Places.{ends_at, form_at, account_stands, code_form, code_stands}

-- a form of lines: their width, how many bytes tell one from others, and what stands at a place
pub record FormOf (width key : ℕ) (standing : List ℕ → ℕ → Bool) : Type 0 where
  pub within : key ≤ width
  pub key_small : key ≤ 22
  pub small : width ≤ 38
  pub room : (s : List ℕ) (at : ℕ) → standing s at ≡ true → at + width ≤ length s
  pub alone : (x s : List ℕ) (at : ℕ) → Alike x s at width → standing x 0 ≡ standing s at

-- ---- a line that stands there has its room

pub ends_room : (s : List ℕ) (at : ℕ) → ends_at s at ≡ true → at + 2 ≤ length s
unfolding ends_at
ends_room s at h = omega (arith, fits_length crlf (cut s at (at + 2)) h, cut_size s at (at + 2))

pub account_ended : (s : List ℕ) (at : ℕ) → account_stands s at ≡ true → ends_at s (at + 36) ≡ true
unfolding account_stands
account_ended s at h = and_right (form_at s at) _ (and_left _ _ (and_left _ _ h))

pub code_ended : (s : List ℕ) (at : ℕ) → code_stands s at ≡ true → ends_at s (at + 33) ≡ true
unfolding code_stands
code_ended s at h = and_right (fits code_form (cut s at (at + 33))) _ h

pub account_room : (s : List ℕ) (at : ℕ) → account_stands s at ≡ true → at + 38 ≤ length s
account_room s at h = omega (arith, ends_room s (at + 36) (account_ended s at h))

pub code_room : (s : List ℕ) (at : ℕ) → code_stands s at ≡ true → at + 35 ≤ length s
code_room s at h = omega (arith, ends_room s (at + 33) (code_ended s at h))

pub account_form_of : FormOf 38 22 account_stands
account_form_of = record { within = omega arith; key_small = omega arith; small = omega arith; room = account_room; alone = λ x s at w. account_alike w (omega arith) }

pub code_form_of : FormOf 35 10 code_stands
code_form_of = record { within = omega arith; key_small = omega arith; small = omega arith; room = code_room; alone = λ x s at w. code_alike w (omega arith) }

-- a line with which a text begins, by its room and its tests; one at a place
module _ (w z : ℕ) (standing : List ℕ → ℕ → Bool) (f : FormOf w z standing) (s : List ℕ) where
  pub line_unroomed : length s < w → false ≡ standing s 0
  line_unroomed h = not_holds (standing s 0) (λ k. omega (arith, f.room s 0 k))

  pub line_roomed : (v : ℕ) → v ≡ w → (t : Bool) → t ≡ standing (take v s) 0 → t ≡ standing s 0
  line_roomed v e t u = u ∙ f.alone (take v s) s 0 (front_alike s v w (omega arith))

  pub line_rest : (at : ℕ) (t : Bool) → t ≡ standing (take (length s - at) (drop at s)) 0 → t ≡ standing s at
  line_rest at t u = rw (rest_whole s at) at u ∙ f.alone (drop at s) s at (rest_alike s at w)

pub ruleset forms = (line_unroomed, line_roomed, line_rest)
