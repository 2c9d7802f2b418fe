-- What a message that 1 to 8 let pass has: the sender is a bank, field 20 a reference, and its date exists.
use Rattle.std.specs.Prelude.{◌≡◌, refl, true, false, ◌&&◌, List, ℕ, ◌+◌, ◌^◌, ◌≤◌, ◌<◌, leb, length, take, drop}
use Rattle.std.proofs.Common.{sym, ap, ◌∙◌, arith, lit≤, take-take, le-leb}
use Rattle.std.proofs.Math.Option.{some}
use Rattle.rules.specs.Text.{ascii, is_text, run, fits, big_endian}
use Rattle.rules.specs.Dates.{exists}
use Rattle.rules.specs.Accounts.{is_bic}
use Rattle.rules.specs.Lines.{Line, has_first_line, lines, in_lines, framed, sender}
use Rattle.rules.specs.Forms.{reference, fits_rest, fits_row}
use Rattle.rules.specs.Messages.{Message, Detail, past, read_transfer, read_order, read, sender_of, reference_of, first_date, date_of}
use Rattle.rules.specs.Engine.{is_bank, last_bank}
use Rattle.laws.specs.Numbers.{bic_number, bic_small}
use Rattle.laws.specs.Parts.{cut, from, from_take}
use Rattle.laws.specs.Reading.{fits_front, fits_behind}
use Rattle.laws.specs.Tests.{and_right}
use Rattle.rule_laws.specs.Dates.{date_exists}
use Rattle.rule_laws.specs.Messages.{row_first, DetailsRead, DetailsRead.last, DetailsRead.more, ReadAs, ReadAs.transfer, ReadAs.order, transfer_as, order_as, read_as}

-- ---- MT103 and MT101

-- what both have, read of the message's bytes
pub record Has (s : List ℕ) (m : Message) : Type 0 where
  pub sent : sender_of m ≡ sender s
  pub reference : run is_text 1 16 (reference_of m) ≡ true
  pub date : exists (date_of m) ≡ true

-- a field 20
reference_fits_lem : (l : Line) → fits_row record { head = ascii ":20:"; rest = reference; optional = false } l ≡ true → run is_text 1 16 (past ":20:" l) ≡ true
unfolding fits_row fits_rest
reference_fits_lem l h = and_right (fits (ascii ":20:") (take 4 l)) _ h

-- the date of the first detail
details_date : {ds : List Detail} → DetailsRead ds → exists (first_date ds) ≡ true
unfolding first_date
details_date (last d) = date_exists _ _ d.centrb
details_date (more d _) = date_exists _ _ d.centrb

as_has : {s : List ℕ} {m : Message} → ReadAs s m → Has s m
unfolding sender_of reference_of date_of
as_has (transfer t) = record { sent = t.sent; reference = reference_fits_lem _ (row_first refl t.rows); date = date_exists _ _ t.day }
as_has (order o) = record { sent = o.sent; reference = reference_fits_lem _ (row_first refl o.rows); date = details_date o.details }

module _ (s : List ℕ) (m : Message) where
  pub transfer_has : read_transfer s ≡ some m → Has s m
  transfer_has h = as_has (transfer_as s m h)

  pub order_has : read_order s ≡ some m → Has s m
  order_has h = as_has (order_as s m h)

  pub read_has : read s ≡ some m → Has s m
  read_has h = as_has (read_as s m h)

-- ---- the sender

-- a part of a front
front_part : (s : List ℕ) (a n k : ℕ) → a + n ≤ k → take n (drop a (take k s)) ≡ take n (drop a s)
unfolding cut from
front_part s a n k h = from_take (take k s) a n ∙ ap (drop a) (take-take (a + n) k s h) ∙ sym (from_take s a n)

-- the number of a BIC is a bank
pub bic_bank : (cs : List ℕ) → is_bic cs ≡ true → is_bank (big_endian cs) ≡ true
unfolding is_bank
bic_bank cs h = let n : big_endian cs < 256 ^ 8 = bic_small cs h in rw (le-leb (big_endian cs) last_bank (omega arith), bic_number cs h) h

pub sender_bank : (s : List ℕ) → framed s ≡ true → is_bank (big_endian (sender s)) ≡ true
unfolding framed has_first_line sender is_bic
sender_bank s h =
    let o : fits (ascii "nnn,aaaaaacc,aaaaaacc\r\n") (take 23 s) ≡ true = and_right (leb (length s) 4096 && in_lines (lines s)) _ h in
    let x : fits (ascii "aaaaaacc,aaaaaacc\r\n") (drop 4 (take 23 s)) ≡ true = fits_behind (ascii "nnn,") (ascii "aaaaaacc,aaaaaacc\r\n") (take 23 s) o in
    let y : fits (ascii "aaaaaacc") (take 8 (drop 4 (take 23 s))) ≡ true = fits_front (ascii "aaaaaacc") (ascii ",aaaaaacc\r\n") (drop 4 (take 23 s)) x in
    bic_bank (take 8 (drop 4 s)) (rw (← front_part s 4 8 23 (lit≤ tt)) y)
