-- What a turn writes is dated with its day: posting lines, and the corrections behind them.
use Rattle.std.specs.Prelude.{◌≡◌, Bool, cond, ℕ, ◌+◌, ◌-◌, ◌/◌, ◌%◌, ◌^◌, ◌<◌, eqb}
use Rattle.std.proofs.Math.Path.{refl}
use Rattle.std.proofs.Math.Bool.{true, false}
use mathlib.Core.List.{List, [], ◌∷◌, ◌++◌, append_assoc}
use Rattle.std.proofs.Common.{mod-lt, arith, lit<, ne_eqb}
use Rattle.rules.specs.Text.{ascii, equal, fixed, decimal, places}
use Rattle.rules.specs.Accounts.{iban_shape}
use Rattle.rules.specs.Register.{register_of}
use Rattle.rules.specs.Engine.{Position, Engine, bic}
use Rattle.rules.specs.Written.{Book, posting, to_bank, from_bank, corrected, is_refunded, correction_posting, correction_postings}
use Rattle.rules.specs.Calls.{turn_text}
use Rattle.rules.specs.Ledger.{is_party}
use Rattle.rules.specs.OnBankingDays.{posting_dates, dated_behind, field_dates, line_dates}
use Rattle.laws.specs.All.{All, All.none, All.more}
use Rattle.rule_laws.specs.Lines.{Lined.end, Lined.next}
use Rattle.engine_laws.specs.Limits.{Limits}
use Rattle.engine_laws.specs.Positions.{Good, all_good}
use Rattle.balance_laws.specs.Posting.{line, line_plain, entry, posted_line}
use Rattle.balance_laws.specs.Kinds.{Readable, bank_party, iban_party}
use Rattle.balance_laws.specs.Accounts.{temporary_shape}
use Rattle.balance_laws.specs.Corrections.{Dated, dated_none, dated_join}
use Rattle.balance_laws.specs.Turn.{book_of, readable, on_corrections}

-- ---- a posting line

-- a line that does not begin with a colon has no tag
untagged : (c : ℕ) (cs : List ℕ) → eqb c 58 ≡ false → field_dates (c ∷ cs) ≡ []
unfolding field_dates dated_behind equal
untagged c cs h = rw h

line_untagged : (b : Book) (debit credit : List ℕ) (v : ℕ) → field_dates (line b debit credit v) ≡ []
unfolding line places
line_untagged b debit credit v =
    let l : b.day / 10 ^ 5 % 10 < 10 = mod-lt (b.day / 10 ^ 5) (lit< tt) in
    untagged (48 + b.day / 10 ^ 5 % 10) _ (ne_eqb (48 + b.day / 10 ^ 5 % 10) 58 (λ e. omega arith))

module _ (b : Book) (r : Readable b) where
  dated_posting : (debit credit : List ℕ) (v : ℕ) → is_party debit ≡ true → is_party credit ≡ true → v < 10 ^ 20 → Dated b.day (posting b debit credit v)
  unfolding posting line line_dates posting_dates entry
  dated_posting debit credit v from to h =
      rw (← append_assoc (fixed 6 b.day ++ ascii "," ++ debit ++ ascii "," ++ (credit ++ ascii "," ++ decimal v ++ ascii ",")) (bic b.bank ++ ascii "," ++ fixed 6 b.date) (ascii "\r\n"))
      record {
        all = line b debit credit v ∷ [];
        reading = next (line_plain b debit credit v r.known from to) end;
        dates = rw (posted_line b debit credit v r.known from to h, line_untagged b debit credit v) (more refl none);
      }

-- ---- a turn

module _ (day : ℕ) (temporary : List ℕ) (a : iban_shape temporary ≡ true) {old : ℕ} where
  dated_correction : (p : Position) → Good old p → Dated day (correction_posting day temporary p)
  unfolding correction_posting
  dated_correction p g = go (is_refunded p) (readable day temporary a g)
    where
      go : (t : Bool) → Readable (book_of day temporary p) → Dated day (cond t (to_bank (book_of day temporary p) (p.transferred - p.detailed)) (from_bank (book_of day temporary p) (p.detailed - p.transferred)))
      go true k = dated_posting (book_of day temporary p) k temporary (bic p.key.bank) (p.transferred - p.detailed) (iban_party temporary a) (bank_party _ k) (omega (arith, g.transferred))
      go false k = dated_posting (book_of day temporary p) k (bic p.key.bank) temporary (p.detailed - p.transferred) (bank_party _ k) (iban_party temporary a) (omega (arith, g.detailed))

  dated_postings : {ps : List Position} → All (Good old) ps → Dated day (correction_postings day temporary ps)
  unfolding correction_postings
  dated_postings none = dated_none
  dated_postings (more {x = p} {xs = ps} g s) = go (corrected p) (dated_postings s)
    where
      go : (t : Bool) → Dated day (correction_postings day temporary ps) → Dated day (cond t (correction_posting day temporary p ++ correction_postings day temporary ps) (correction_postings day temporary ps))
      go true r = dated_join (dated_correction p g) r
      go false r = r

pub turn_dated : (e : Engine) (l : Limits e) (day : ℕ) → Dated day (turn_text e day)
unfolding turn_text
turn_dated e l day =
    let t : List ℕ = (register_of e.register).temporary in
    let a : iban_shape t ≡ true = temporary_shape e.register l.register in
    let g : All (Good e.day) e.positions = all_good e.day e.positions l.good in
    dated_join (dated_postings day t a g) (on_corrections day t a 0 g).dated
