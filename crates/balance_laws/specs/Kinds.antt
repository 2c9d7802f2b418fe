-- Demand 3's five sums as two, what comes in from a bank and what goes out for it, and what a posting line of each sort counts in them.
use Rattle.std.specs.Prelude.{◌≡◌, Bool, ◌&&◌, ◌||◌, not, ℕ, ◌+◌, ◌^◌, ◌<◌, eqb, length}
use Rattle.std.proofs.Math.Path.{refl}
use Rattle.std.proofs.Common.{sym, ap, ◌∙◌, eqb-true}
use Rattle.std.proofs.Math.Bool.{true, false, cond, and-false, or-true}
use mathlib.Core.List.{List, [], ◌∷◌}
use Rattle.std.proofs.Math.Option.{Option, none, some, get_or}
use native.Mathlib.Omega.{arith}
use Rattle.std.proofs.lemmas.Bool.{eqb-false}
use Rattle.rules.specs.Text.{equal, big_endian}
use Rattle.rules.specs.Accounts.{is_bic, iban_shape}
use Rattle.rules.specs.Lines.{Line, lines}
use Rattle.rules.specs.Engine.{bic}
use Rattle.rules.specs.Written.{Book, posting, from_bank}
use Rattle.rules.specs.Ledger.{Posted, posted, Kind, Request, Event, is_message, is_transfer, is_collection, is_return, is_refund, is_credit, is_party, amount_if, sum_of_lines, sum_of}
use Rattle.laws.specs.Digits.{places_length}
use Rattle.laws.specs.Numbers.{number_bytes}
use Rattle.laws.specs.Equal.{equal_true, equal_same}
use Rattle.balance_laws.specs.Tally.{nought}
use Rattle.balance_laws.specs.Told.{Tells, tells_same}
use Rattle.balance_laws.specs.Signs.{iban_length}
use Rattle.balance_laws.specs.Posting.{entry, tells_posting}

-- a debit of the bank
unfoldable pub comes_in : ℕ → Kind
comes_in bank f q = equal q.bank (bic bank) && equal q.debit (bic bank)

-- a credit of the bank, or a debit of the temporary account
unfoldable pub goes_out : List ℕ → ℕ → Kind
goes_out temporary bank f q =
    equal q.bank (bic bank) && (equal q.credit (bic bank) || (not (equal q.debit (bic bank)) && equal q.debit temporary))

-- ---- the five sums

-- two kinds that part a third
module _ (a b c : Kind) (parts : (f : Request) (q : Posted) → cond (a f q) q.amount 0 + cond (b f q) q.amount 0 ≡ cond (c f q) q.amount 0) where
  lines_add : (f : Request) (ls : List Line) → sum_of_lines a f ls + sum_of_lines b f ls ≡ sum_of_lines c f ls
  unfolding sum_of_lines amount_if
  lines_add f [] = refl
  lines_add f (l ∷ ls) = go (posted l) (lines_add f ls)
    where
      go : (o : Option Posted) → sum_of_lines a f ls + sum_of_lines b f ls ≡ sum_of_lines c f ls
          → amount_if a f o + sum_of_lines a f ls + (amount_if b f o + sum_of_lines b f ls) ≡ amount_if c f o + sum_of_lines c f ls
      go none e = omega arith
      go (some q) e = omega (arith, parts f q)

  sums_add : (es : List Event) → sum_of a es + sum_of b es ≡ sum_of c es
  unfolding sum_of
  sums_add [] = refl
  sums_add (e ∷ es) = omega (arith, lines_add e.request (get_or (lines e.bytes) []), sums_add es)

-- parted by a test
halves : (b d e : Bool) (v : ℕ) → cond (b && d && e) v 0 + cond (b && d && not e) v 0 ≡ cond (b && d) v 0
halves true true true v = omega arith
halves true true false v = omega arith
halves true false e v = omega arith
halves false d e v = omega arith

-- "a debit of that bank is a transfer if day and centralisation date are equal, else a collection"
pub sum_in_lem : (bank : ℕ) (es : List Event) → sum_of (is_transfer bank) es + sum_of (is_collection bank) es ≡ sum_of (comes_in bank) es
unfolding comes_in is_transfer is_collection
sum_in_lem bank = sums_add (is_transfer bank) (is_collection bank) (comes_in bank) (λ f q. halves (equal q.bank (bic bank)) (equal q.debit (bic bank)) (equal q.day q.date) q.amount)

-- "a credit of it is a return from a message, a refund from a turn"
to_itself : ℕ → Kind
to_itself bank f q = equal q.bank (bic bank) && equal q.credit (bic bank)

-- "every other line that debits the temporary account is a credit"
pub sum_out : (temporary : List ℕ) (bank : ℕ) (es : List Event)
    → sum_of (is_credit temporary bank) es + sum_of (is_return bank) es + sum_of (is_refund bank) es ≡ sum_of (goes_out temporary bank) es
unfolding goes_out is_credit is_return is_refund to_itself
sum_out temporary bank es =
    let back : sum_of (is_return bank) es + sum_of (is_refund bank) es ≡ sum_of (to_itself bank) es =
    sums_add (is_return bank) (is_refund bank) (to_itself bank) (λ f q. halves (equal q.bank (bic bank)) (equal q.credit (bic bank)) (is_message f) q.amount) es in
    let all : sum_of (is_credit temporary bank) es + sum_of (to_itself bank) es ≡ sum_of (goes_out temporary bank) es =
    sums_add (is_credit temporary bank) (to_itself bank) (goes_out temporary bank)
    (λ f q. other (equal q.bank (bic bank)) (equal q.debit (bic bank)) (equal q.credit (bic bank)) (equal q.debit temporary) q.amount) es in
    omega arith
  where
    other : (b d c t : Bool) (v : ℕ) → cond (b && not d && not c && t) v 0 + cond (b && c) v 0 ≡ cond (b && (c || (not d && t))) v 0
    other true true true t v = omega arith
    other true true false t v = omega arith
    other true false true t v = omega arith
    other true false false true v = omega arith
    other true false false false v = omega arith
    other false d c t v = omega arith

-- ---- a posting line in the two sums

-- texts of different length are not equal
equal_longer : (a b : List ℕ) → (length a ≡ length b → ⊥) → equal a b ≡ false
equal_longer a b h = go (equal a b) refl
  where
    go : (t : Bool) → equal a b ≡ t → t ≡ false
    go true e = absurd (h (ap length (equal_true a b e)))
    go false e = refl

-- BICs are equal where banks are
equal_banks : (x y : ℕ) → x < 2 ^ 64 → y < 2 ^ 64 → equal (bic x) (bic y) ≡ eqb x y
equal_banks x y h k = go (eqb x y) refl (equal (bic x) (bic y)) refl
  where
    go : (s : Bool) → eqb x y ≡ s → (t : Bool) → equal (bic x) (bic y) ≡ t → t ≡ s
    go true e t d = sym d ∙ rw (eqb-true x y e) (equal_same (bic y))
    go false e true d =
        absurd (eqb-false x y e (sym (number_bytes 8 x h) ∙ ap big_endian (equal_true (bic x) (bic y) d) ∙ number_bytes 8 y k))
    go false e false d = refl

-- what is needed of a book to read its lines back
pub record Readable (b : Book) : Type 0 where
  pub known : is_bic (bic b.bank) ≡ true
  pub small : b.bank < 2 ^ 64
  pub account : iban_shape b.temporary ≡ true

-- a sum of bank x, counted for a bank
unfoldable pub mine : ℕ → ℕ → ℕ → ℕ
mine bank x v = cond (eqb x bank) v 0

pub mine_none : (bank x : ℕ) → mine bank x 0 ≡ 0
unfolding mine
mine_none bank x = nought (eqb x bank)

pub mine_adds : (bank x v w : ℕ) → mine bank x (v + w) ≡ mine bank x v + mine bank x w
unfolding mine
mine_adds bank x v w = go (eqb x bank)
  where
    go : (t : Bool) → cond t (v + w) 0 ≡ cond t v 0 + cond t w 0
    go true = refl
    go false = omega arith

pub bank_party : (b : Book) → Readable b → is_party (bic b.bank) ≡ true
unfolding is_party
bank_party b k = rw k.known

pub iban_party : (cs : List ℕ) → iban_shape cs ≡ true → is_party cs ≡ true
unfolding is_party
iban_party cs h = rw (h, or-true)

-- a BIC is no account
other_account : (b : Book) (x : ℕ) → Readable b → equal b.temporary (bic x) ≡ false
other_account b x k = equal_longer b.temporary (bic x) (λ e. omega (arith, iban_length b.temporary k.account, places_length 256 0 8 x))

module _ (b : Book) (bank v : ℕ) {f : Request} (k : Readable b) (s : bank < 2 ^ 64) (l : v < 10 ^ 20) where
  -- from the bank to the temporary account
  pub in_from : Tells (comes_in bank) f (from_bank b v) (mine bank b.bank v)
  unfolding comes_in amount_if entry mine
  in_from =
      tells_same (tells_posting b (bic b.bank) b.temporary v k.known (bank_party b k) (iban_party b.temporary k.account) l)
      (rw (equal_banks b.bank bank k.small s) (both (eqb b.bank bank)))
    where
      both : (t : Bool) → cond (t && t) v 0 ≡ cond t v 0
      both true = refl
      both false = refl

  pub out_from : Tells (goes_out b.temporary bank) f (from_bank b v) 0
  unfolding goes_out amount_if entry
  out_from =
      tells_same (tells_posting b (bic b.bank) b.temporary v k.known (bank_party b k) (iban_party b.temporary k.account) l)
      (rw (other_account b bank k, equal_longer (bic b.bank) b.temporary (λ e. omega (arith, iban_length b.temporary k.account, places_length 256 0 8 b.bank))) (simp and-false))

  -- from the temporary account to any party
  module _ (credit : List ℕ) (p : is_party credit ≡ true) where
    pub in_paid : Tells (comes_in bank) f (posting b b.temporary credit v) 0
    unfolding comes_in amount_if entry
    in_paid =
        tells_same (tells_posting b b.temporary credit v k.known (iban_party b.temporary k.account) p l)
        (rw (other_account b bank k, and-false))

    pub out_paid : Tells (goes_out b.temporary bank) f (posting b b.temporary credit v) (mine bank b.bank v)
    unfolding goes_out amount_if entry mine
    out_paid =
        tells_same (tells_posting b b.temporary credit v k.known (iban_party b.temporary k.account) p l)
        (rw (other_account b bank k, equal_same b.temporary, equal_banks b.bank bank k.small s) (either (eqb b.bank bank) (equal credit (bic bank))))
      where
        either : (t c : Bool) → cond (t && (c || (true && true))) v 0 ≡ cond t v 0
        either true true = refl
        either true false = refl
        either false c = refl
