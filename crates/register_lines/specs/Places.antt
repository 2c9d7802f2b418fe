-- The places of a register's text: its first line has 24 bytes, each account line 38 and each code line 35, so that lines of one form stand at places of one distance.
use Rattle.std.specs.Prelude.{◌≡◌, Bool, ◌&&◌, cond, List, [], ◌∷◌, map, ℕ, zero, suc, ◌+◌, ◌-◌, ◌*◌, ◌≤◌, ◌<◌, leb}
use Rattle.std.proofs.Common.{add-zero, mul-zero, mul-suc, arith}
use Rattle.rules.specs.Text.{ascii, equal, fits, any, twice}
use Rattle.rules.specs.Accounts.{passes}
use Rattle.rules.specs.Register.{Account, Code}
use Rattle.laws.specs.Parts.{cut}
use Rattle.register_lines.specs.Blocks.{crlf}
use Rattle.register_lines.specs.AccountLine.{account_form, bound}

-- ---- places of one distance

-- k places from a place on, w apart
unfoldable pub places_from : ℕ → ℕ → ℕ → List ℕ
places_from w at zero = []
places_from w at (suc k) = at ∷ places_from w (at + w) k

-- the place behind them
pub end_next : (w at k : ℕ) → at + w * suc k ≡ at + w + w * k
end_next w at k = rw (mul-suc w k) (omega arith)

pub end_none : (w at : ℕ) → at + w * 0 ≡ at
end_none w at = rw (mul-zero w, add-zero at)

-- those from number i up to n, the first of all being at b
unfoldable pub upto : ℕ → ℕ → ℕ → ℕ → List ℕ
upto w b i n = places_from w (b + w * i) (n - i)

pub upto_step : (w b i n : ℕ) → i < n → upto w b i n ≡ (b + w * i) ∷ upto w b (i + 1) n
unfolding upto places_from
upto_step w b i n h =
    let e : n - i ≡ suc (n - (i + 1)) = omega arith in
    let f : i + 1 ≡ suc i = omega arith in
    let g : b + w * suc i ≡ b + w * i + w = rw (mul-suc w i) (omega arith) in
    rw (e, f, g)

pub upto_done : (w b i n : ℕ) → n ≤ i → upto w b i n ≡ []
unfolding upto places_from
upto_done w b i n h = let e : n - i ≡ 0 = omega arith in rw e

pub upto_all : (w b n : ℕ) → upto w b 0 n ≡ places_from w b n
unfolding upto
upto_all w b n = let e : n - 0 ≡ n = omega arith in rw (end_none w b, e)

-- how many of them pass a test one behind the other, k at most
unfoldable pub leading_from : (ℕ → Bool) → ℕ → ℕ → ℕ → ℕ
leading_from t w at zero = 0
leading_from t w at (suc k) = let r = leading_from t w (at + w) k in cond (t at) (suc r) 0

-- ---- what stands at a place

-- CR LF
unfoldable pub ends_at : List ℕ → ℕ → Bool
ends_at s at = fits crlf (cut s at (at + 2))

-- the form of an account line
unfoldable pub form_at : List ℕ → ℕ → Bool
form_at s at = fits account_form (cut s at (at + 36))

-- a bound
unfoldable pub bound_at : List ℕ → ℕ → ℕ
bound_at s at = bound (cut s at (at + 6))

-- the bytes by which lines of one form are told apart
unfoldable pub key_in : List ℕ → ℕ → ℕ → List ℕ
key_in s size at = cut s at (at + size)

-- an account line
unfoldable pub account_in : List ℕ → ℕ → Account
account_in s at = record { iban = cut s at (at + 22); low = bound_at s (at + 23); high = bound_at s (at + 30) }

-- its tests
unfoldable pub account_stands : List ℕ → ℕ → Bool
account_stands s at = form_at s at && ends_at s (at + 36) && passes (cut s at (at + 22)) && leb (bound_at s (at + 23)) (bound_at s (at + 30))

-- `code,IBAN`
abbrev pub code_form : List ℕ
code_form = ascii "nnnnnnnnnn,cccccccccccccccccccccc"

-- a code line
unfoldable pub code_in : List ℕ → ℕ → Code
code_in s at = record { code = cut s at (at + 10); iban = cut s (at + 11) (at + 11 + 22) }

-- its tests
unfoldable pub code_stands : List ℕ → ℕ → Bool
code_stands s at = fits code_form (cut s at (at + 33)) && ends_at s (at + 33)

-- ---- lines of one form

-- the keys of those at some places
unfoldable pub keys_in : List ℕ → ℕ → List ℕ → List (List ℕ)
keys_in s size ps = map (key_in s size) ps

-- some bytes are the key of one of lines i up to n, the first of all at b
unfoldable pub stands_in : List ℕ → ℕ → ℕ → List ℕ → ℕ → ℕ → ℕ → Bool
stands_in s size w key b i n = any (equal key) (keys_in s size (upto w b i n))

-- one of their keys appears twice
unfoldable pub repeat_in : List ℕ → ℕ → ℕ → ℕ → ℕ → ℕ → Bool
repeat_in s size w b i n = twice equal (keys_in s size (upto w b i n))

-- the first line
unfoldable pub first_in : List ℕ → Bool
first_in s = passes (cut s 0 22) && ends_at s 22
