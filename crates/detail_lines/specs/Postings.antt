-- The posting lines of a message's details, each by its verdict.
use Rattle.std.specs.Prelude.{◌≡◌, refl, ℕ, ◌+◌, ◌≤◌, ◌<◌, length, get_or, drop}
use Rattle.std.proofs.Common.{ap, arith, add-one, drop-cons, drop_of_length-le}
use mathlib.Core.List.{List, [], ◌∷◌, ◌++◌}
use Rattle.rules.specs.Messages.{Detail, payer_code, account59}
use Rattle.rules.specs.Register.{Register, register_of}
use Rattle.rules.specs.Verdict as paper
use Rattle.rules.specs.Verdict.{credited, credited_by_code, returned, account_at}
use Rattle.rules.specs.Written.{Book, to_account, to_bank}
use Rattle.rules.specs.Calls as C
use Rattle.rules.specs.Calls.{detail_posting, detail_postings}
use Rattle.put.specs.declared.parts.Writer.{Writer}
use Rattle.put.specs.Writes.{Writes, Unwritten, unwritten_turn, unwritten_none}
use Rattle.details.specs.Message.{no_detail, details_in, detail_at}
use Rattle.verdict.specs.Answers.{verdict_of, InRegister, in_register, line_credited, line_coded}
use Rattle.verdict.specs.Details.{verdict_kept, JudgedIn, kept_at, verdict_at}
use Rattle.verdict.specs.declared.Verdict.{Verdict}
use Rattle.verdict.specs.declared.Verdict.TheVariants.{Credited, CreditedByCode, Returned}
use Rattle.verdict.specs.declared.detail.Judged.{Judged}
use Rattle.written.specs.Values.{book_of}
use Rattle.written.specs.declared.Book as W

-- ---- one detail

-- the posting line of an amount by its verdict
unfoldable pub verdict_posting : Register → Book → ℕ → paper.Verdict → List ℕ
verdict_posting r b v w = detail_posting r b (record { rows = []; date = 0; amount = v }) w

detail_amount : (r : Register) (b : Book) (d : Detail) (v : paper.Verdict) → detail_posting r b d v ≡ verdict_posting r b d.amount v
unfolding detail_posting verdict_posting
detail_amount r b d (credited i) = refl
detail_amount r b d (credited_by_code i c) = refl
detail_amount r b d (returned c) = refl

-- the book of the register's own temporary account
abbrev pub book_by : List ℕ → W.Book → Book
book_by text b = book_of (register_of text).temporary b

module _ (text : List ℕ) (b : W.Book) (v : ℕ) {w₀ w₁ : Writer} where
  pub credit_wrote : (i : ℕ) {t iban : List ℕ} → t ≡ (register_of text).temporary → iban ≡ (account_at (register_of text) i).iban → Writes (to_account (book_of t b) iban v) w₀ w₁ → Writes (to_account (book_by text b) (account_at (register_of text) i).iban v) w₀ w₁
  credit_wrote i e f u = rw (e, f) at u

  module _ (w : Verdict) where
    pub posting_credited : {i : ℕ} → w ≡ Credited i → Writes (to_account (book_by text b) (account_at (register_of text) i).iban v) w₀ w₁ → Writes (verdict_posting (register_of text) (book_by text b) v (verdict_of w)) w₀ w₁
    unfolding verdict_posting detail_posting
    posting_credited e u = rw e u

    pub posting_coded : {i : ℕ} {c : _} → w ≡ CreditedByCode i c → Writes (to_account (book_by text b) (account_at (register_of text) i).iban v) w₀ w₁ → Writes (verdict_posting (register_of text) (book_by text b) v (verdict_of w)) w₀ w₁
    unfolding verdict_posting detail_posting
    posting_coded e u = rw e u

    pub posting_returned : {c : _} {t : List ℕ} → w ≡ Returned c → t ≡ (register_of text).temporary → Writes (to_bank (book_of t b) v) w₀ w₁ → Writes (verdict_posting (register_of text) (book_by text b) v (verdict_of w)) w₀ w₁
    unfolding verdict_posting detail_posting
    posting_returned e f u = rw e (rw f at u)

-- ---- detail by detail, by its amount and its verdict

-- the posting line of detail i before those of the details behind it
module _ (text s : List ℕ) (i : ℕ) (b : Book) (h : i < length (details_in s)) {v : ℕ} {x : paper.Verdict} (e : v ≡ (detail_at (details_in s) i).amount) (f : x ≡ C.verdict_of (register_of text) (detail_at (details_in s) i)) where
  credits_step : detail_postings (register_of text) b (drop i (details_in s)) ≡ verdict_posting (register_of text) b v x ++ detail_postings (register_of text) b (drop (i + 1) (details_in s))
  unfolding detail_postings
  credits_step =
      let n : drop i (details_in s) ≡ detail_at (details_in s) i ∷ drop (i + 1) (details_in s) = rw (add-one i) (drop-cons (details_in s) i no_detail h) in
      rw (n, e, f) (ap (λ (l : List ℕ). l ++ detail_postings (register_of text) b (drop (i + 1) (details_in s))) (detail_amount (register_of text) b (detail_at (details_in s) i) (C.verdict_of (register_of text) (detail_at (details_in s) i))))

module _ (text s : List ℕ) (i : ℕ) (b : Book) {whole : List ℕ} {start w : Writer} (l : Unwritten (detail_postings (register_of text) b (drop i (details_in s))) w whole start) where
  pub credits_on : i < length (details_in s) → {v : ℕ} {x : paper.Verdict} → v ≡ (detail_at (details_in s) i).amount → x ≡ C.verdict_of (register_of text) (detail_at (details_in s) i)
      → {w' : Writer} → Writes (verdict_posting (register_of text) b v x) w w' → Unwritten (detail_postings (register_of text) b (drop (i + 1) (details_in s))) w' whole start
  credits_on h e f u = unwritten_turn (rw (credits_step text s i b h e f) at l) u

  pub credits_done : length (details_in s) ≤ i → Writes whole start w
  unfolding detail_postings
  credits_done h = unwritten_none (rw (drop_of_length-le (details_in s) {i = i} h) at l)

-- ---- as they are kept

module _ (text s : List ℕ) (kept : List Judged) (v : JudgedIn text s kept) (i : ℕ) where
  module _ (h : i < length kept) (j : Judged) where
    verdict_is : verdict_of (verdict_kept (get_or kept i j)) ≡ C.verdict_of (register_of text) (detail_at (details_in s) i)
    verdict_is = verdict_at text s kept v i h j

    pub judged_known : InRegister text (verdict_kept (get_or kept i j))
    judged_known = in_register text (payer_code (detail_at (details_in s) i)) (account59 (detail_at (details_in s) i)) (verdict_kept (get_or kept i j)) verdict_is

    pub credits_more : (b : Book) {whole : List ℕ} {start w : Writer} → Unwritten (detail_postings (register_of text) b (drop i (details_in s))) w whole start
        → {w' : Writer} → Writes (verdict_posting (register_of text) b (get_or kept i j).detail.amount (verdict_of (verdict_kept (get_or kept i j)))) w w' → Unwritten (detail_postings (register_of text) b (drop (i + 1) (details_in s))) w' whole start
    credits_more b l u = credits_on text s i b l (omega (arith, v.kept_in.count)) (kept_at s kept v.kept_in i h j).amount verdict_is u

  pub credits_end : (b : Book) {whole : List ℕ} {start w : Writer} → Unwritten (detail_postings (register_of text) b (drop i (details_in s))) w whole start → length kept ≤ i → Writes whole start w
  credits_end b l h = credits_done text s i b l (omega (arith, v.kept_in.count))

pub ruleset crediting = (line_credited, line_coded, credit_wrote, posting_credited, posting_coded, posting_returned, judged_known, credits_more, credits_end)
