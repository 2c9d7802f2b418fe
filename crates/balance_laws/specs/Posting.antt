-- A posting line that the card wrote, read back: its six parts are those that were written.
use Rattle.std.specs.Prelude.{◌≡◌, refl, Bool, false, ◌||◌, ℕ, ◌^◌, ◌≤◌, ◌<◌}
use Rattle.std.proofs.Math.Path.{ap}
use Rattle.std.proofs.Common.{◌∙◌}
use Rattle.std.proofs.Math.Bool.{true}
use mathlib.Core.List.{List, [], ◌∷◌, ◌++◌, append_assoc}
use Rattle.std.proofs.Math.Option.{some}
use Rattle.std.proofs.Math.ListN.{length}
use borrow.Author.Tests.{le-leb}
use Rattle.rules.specs.Text.{ascii, is_alnum, every, fixed, decimal, width}
use Rattle.rules.specs.Accounts.{is_bic, iban_shape}
use Rattle.rules.specs.Lines.{parted}
use Rattle.rules.specs.Engine.{bic}
use Rattle.rules.specs.Written.{Book, posting}
use Rattle.rules.specs.Ledger.{Posted, is_party, is_number, is_posting, posted_parts, posted, Kind, Request, amount_if}
use Rattle.laws.specs.Digits.{places_length, width_some}
use Rattle.laws.specs.Numbers.{digits_decimal}
use Rattle.laws.specs.Every.{every_join}
use Rattle.rule_laws.specs.Lines.{in_line, plain_alnum}
use Rattle.rule_laws.specs.Commas.{part_alnum, parted_last, parted_next}
use Rattle.balance_laws.specs.Told.{Tells, tells_line}
use Rattle.rule_laws.specs.Signs.{bic_alnum, iban_alnum}
use Rattle.balance_laws.specs.Signs.{fixed_alnum, fixed_fits}

-- ---- the line

pub party_alnum : (cs : List ℕ) → is_party cs ≡ true → every is_alnum cs ≡ true
unfolding is_party
party_alnum cs h = go (is_bic cs) refl h
  where
    go : (t : Bool) → is_bic cs ≡ t → (t || iban_shape cs) ≡ true → every is_alnum cs ≡ true
    go true e k = bic_alnum cs e
    go false e k = iban_alnum cs k

-- a posting line without its CR LF
unfoldable pub line : Book → List ℕ → List ℕ → ℕ → List ℕ
line b debit credit v =
    (fixed 6 b.day ++ ascii "," ++ debit ++ ascii ",")
    ++ (credit ++ ascii "," ++ decimal v ++ ascii ",")
    ++ (bic b.bank ++ ascii "," ++ fixed 6 b.date)

comma_plain : every in_line (ascii ",") ≡ true
unfolding every in_line
comma_plain = refl

-- what is read back
unfoldable pub entry : Book → List ℕ → List ℕ → ℕ → Posted
entry b debit credit v = record { day = fixed 6 b.day; debit = debit; credit = credit; amount = v; bank = bic b.bank; date = fixed 6 b.date }

module _ (b : Book) (debit credit : List ℕ) (v : ℕ) (bank : is_bic (bic b.bank) ≡ true) (from : is_party debit ≡ true) (to : is_party credit ≡ true) where
  line_parts : parted (line b debit credit v) ≡ fixed 6 b.day ∷ debit ∷ credit ∷ decimal v ∷ bic b.bank ∷ fixed 6 b.date ∷ []
  unfolding line
  line_parts =
      simp append_assoc
      (parted_next _ _ (part_alnum _ (fixed_alnum 6 b.day)) ∙ ap (λ (ps : List (List ℕ)). fixed 6 b.day ∷ ps)
      (parted_next _ _ (part_alnum _ (party_alnum debit from)) ∙ ap (λ (ps : List (List ℕ)). debit ∷ ps)
      (parted_next _ _ (part_alnum _ (party_alnum credit to)) ∙ ap (λ (ps : List (List ℕ)). credit ∷ ps)
      (parted_next _ _ (part_alnum _ (fixed_alnum (width 19 v) v)) ∙ ap (λ (ps : List (List ℕ)). decimal v ∷ ps)
      (parted_next _ _ (part_alnum _ (bic_alnum _ bank)) ∙ ap (λ (ps : List (List ℕ)). bic b.bank ∷ ps)
      (parted_last _ (part_alnum _ (fixed_alnum 6 b.date))))))))

  pub posted_line : v < 10 ^ 20 → posted (line b debit credit v) ≡ some (entry b debit credit v)
  unfolding posted is_posting posted_parts entry is_number
  posted_line h =
      let l : 1 ≤ length (decimal v) = rw places_length (width_some 19 v) in
      rw (line_parts, fixed_fits 6 b.day, from, to, le-leb 1 (length (decimal v)) l, digits_decimal v h, bank, fixed_fits 6 b.date)

  pub line_plain : every in_line (line b debit credit v) ≡ true
  unfolding line
  line_plain =
      let from' : every in_line debit ≡ true = plain_alnum debit (party_alnum debit from) in
      let to' : every in_line credit ≡ true = plain_alnum credit (party_alnum credit to) in
      search (every_join, comma_plain, plain_alnum, fixed_alnum, bic_alnum) depth 9

  pub tells_posting : {kind : Kind} {f : Request} → v < 10 ^ 20 → Tells kind f (posting b debit credit v) (amount_if kind f (some (entry b debit credit v)))
  unfolding posting line
  tells_posting {kind} {f} h =
      rw (← (posted_line h), ← append_assoc (fixed 6 b.day ++ ascii "," ++ debit ++ ascii "," ++ (credit ++ ascii "," ++ decimal v ++ ascii ",")) (bic b.bank ++ ascii "," ++ fixed 6 b.date) (ascii "\r\n"))
      (tells_line (line b debit credit v) line_plain)
