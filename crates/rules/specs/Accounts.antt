-- Document 01, "Dates, amounts, accounts": BIC, BAE code and IBAN; document 02, CR 7: an IBAN in groups of four.
use Rattle.std.specs.Prelude.{Bool, ◌&&◌, cond, List, [], ◌∷◌, ◌++◌, ℕ, zero, suc, ◌+◌, ◌-◌, ◌*◌, ◌%◌, eqb, get_or, take, drop}
use Rattle.std.proofs.Math.Option.{Option}
use Rattle.rules.specs.Text.{ascii, between, is_digit, fits, given, otherwise}

-- "A BIC is six letters, then two letters or digits."
unfoldable pub is_bic : List ℕ → Bool
is_bic cs = fits (ascii "aaaaaacc") cs

-- "An IBAN has 22 characters: `BG`, two control digits, BAE code, two digits, eight letters or digits."
unfoldable pub iban_shape : List ℕ → Bool
iban_shape cs = fits (ascii "BGnnaaaannnnnncccccccc") cs

-- its BAE code
abbrev pub bae_of : List ℕ → List ℕ
bae_of iban = take 8 (drop 4 iban)

-- "read A as 10 to Z as 35": the number v with a digit or letter behind it
unfoldable pub with_sign : ℕ → ℕ → ℕ
with_sign v c = cond (is_digit c) (v * 10 + (c - 48)) (v * 100 + (c - 55))

-- the number of digits and letters, behind v
unfoldable pub numeral : ℕ → List ℕ → ℕ
numeral v [] = v
numeral v (c ∷ cs) = numeral (with_sign v c) cs

-- "move the first four to the end, .. divide by 97" (001, annex 3)
unfoldable pub remainder : List ℕ → ℕ
remainder cs = numeral 0 (drop 4 cs ++ take 4 cs) % 97

-- "The remainder must be 1 and the control digits must lie in 02 to 98"
unfoldable pub control : List ℕ → Bool
control cs = eqb (remainder cs) 1 && between 2 98 ((get_or cs 2 0 - 48) * 10 + (get_or cs 3 0 - 48))

-- "then it passes"
unfoldable pub passes : List ℕ → Bool
passes cs = iban_shape cs && control cs

-- ---- "groups of four with single spaces and a last group of two"

-- n groups of four, each with its space, and the last group
unfoldable pub groups_of : ℕ → List ℕ → List ℕ
groups_of zero cs = take 2 cs
groups_of (suc n) cs = take 4 cs ++ ascii " " ++ groups_of n (drop 4 cs)

-- the same without the spaces
unfoldable pub joined_groups : ℕ → List ℕ → List ℕ
joined_groups zero cs = take 2 cs
joined_groups (suc n) cs = take 4 cs ++ joined_groups n (drop 5 cs)

-- the grouped form of 22 characters, and "the compact form" of a grouped one
abbrev pub grouped : List ℕ → List ℕ
grouped cs = groups_of 5 cs

abbrev pub compact : List ℕ → List ℕ
compact cs = joined_groups 5 cs

-- an IBAN's shape, in groups
unfoldable pub grouped_shape : List ℕ → Bool
grouped_shape cs = fits (ascii "BGnn aaaa nnnn nncc cccc cc") cs

-- an account read: its 22 characters, and "how many characters it used"
pub record AccountRead : Type 0 where
  pub iban : List ℕ
  pub used : ℕ

-- the compact form at the beginning of some bytes
unfoldable pub read_compact : List ℕ → Option AccountRead
read_compact cs = given {A = AccountRead} (iban_shape (take 22 cs)) record { iban = take 22 cs; used = 22 }

-- the grouped form there
unfoldable pub read_grouped : List ℕ → Option AccountRead
read_grouped cs = given {A = AccountRead} (grouped_shape (take 27 cs)) record { iban = compact cs; used = 27 }

-- "The IBAN reading is to take that form too and to tell how many characters it used, 22 or 27."
unfoldable pub read_account : List ℕ → Option AccountRead
read_account cs = otherwise (read_compact cs) (read_grouped cs)
