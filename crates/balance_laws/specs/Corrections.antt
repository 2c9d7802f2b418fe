-- The lines of a correction, an MT204 or MT205: none is long enough for a posting line, and what it is dated with is the day of the turn.
use Rattle.std.specs.Prelude.{◌≡◌, refl, true, List, [], ◌∷◌, ◌++◌, ℕ, ◌+◌, ◌/◌, ◌%◌, ◌≤◌, leb}
use Rattle.std.proofs.Common.{sym, append_assoc, append-nil, arith, leb-true}
use Rattle.rules.specs.Text.{ascii, equal, every, places, fixed, decimal}
use Rattle.rules.specs.Amounts.{written, with_point}
use Rattle.rules.specs.Accounts.{is_bic, iban_shape}
use Rattle.rules.specs.Lines.{Line}
use Rattle.rules.specs.Engine.{Position, bic, limit}
use Rattle.rules.specs.Written.{reference, first_line, field, field32a, temporary_field, baeref_row, field72, mt204, mt205}
use Rattle.rules.specs.Ledger.{posted}
use Rattle.rules.specs.OnBankingDays.{posting_dates, dated_behind, field_dates, line_dates}
use Rattle.laws.specs.Digits.{places_length, width_bound, width_most}
use Rattle.laws.specs.All.{All, All.none, All.more, all_append}
use Rattle.rule_laws.specs.Lines.{in_line, Lined, Lined.end, Lined.next, lined_join}
use Rattle.balance_laws.specs.Told.{Short, short_text, posted_long, Mute, mute_none, mute_line, mute_join}
use Rattle.balance_laws.specs.Signs.{short_fixed, short_decimal, short_written, short_bic, short_iban}
use Rattle.balance_laws.specs.Mute.{◌⊕◌, short_reference, short_comma}

-- ---- texts that are dated with one day

-- some dates, each of which is the day in six digits
abbrev pub AllOf : ℕ → List (List ℕ) → Type 0
AllOf day ds = All (λ (d : List ℕ). d ≡ fixed 6 day) ds

-- what the lines of a text are dated with
pub record Dated (day : ℕ) (text : List ℕ) : Type 0 where
  pub all : List Line
  pub reading : Lined text all
  pub dates : AllOf day (line_dates all)

dates_join : (ls ms : List Line) → line_dates (ls ++ ms) ≡ line_dates ls ++ line_dates ms
unfolding line_dates
dates_join [] ms = refl
dates_join (l ∷ ls) ms = rw (dates_join ls ms) (sym (append_assoc (posting_dates (posted l) ++ field_dates l) (line_dates ls) (line_dates ms)))

module _ {day : ℕ} where
  pub dated_none : Dated day []
  unfolding line_dates
  dated_none = record { all = []; reading = end; dates = none }

  pub dated_join : {a b : List ℕ} → Dated day a → Dated day b → Dated day (a ++ b)
  dated_join s t = record {
    all = s.all ++ t.all;
    reading = lined_join s.reading t.reading;
    dates = rw (dates_join s.all t.all) (all_append s.dates t.dates);
  }

-- ---- texts of which, beside that, no line is long enough for a posting line

pub record Correcting (day : ℕ) (text : List ℕ) : Type 0 where
  pub mute : Mute text
  pub dated : Dated day text

pub on_none : {day : ℕ} → Correcting day []
on_none = record { mute = mute_none; dated = dated_none }

infixl 60 ◌▹◌
pub ◌▹◌ : {day : ℕ} {a b : List ℕ} → Correcting day a → Correcting day b → Correcting day (a ++ b)
s ▹ t = record { mute = mute_join s.mute t.mute; dated = dated_join s.dated t.dated }

-- a line, and what stands in it
line : {day n : ℕ} {cs : List ℕ} → Short n cs → leb n 41 ≡ true → AllOf day (field_dates cs) → Correcting day (cs ++ ascii "\r\n")
unfolding line_dates posting_dates
line {day} {n} {cs} s h d = record {
  mute = mute_line s h;
  dated = record { all = cs ∷ []; reading = next s.plain end; dates = rw (posted_long cs (omega (arith, leb-true n 41 h)), append-nil) d };
}

-- ---- the fields

on_field : {day m n : ℕ} {tag value : List ℕ} → Short m tag → Short n value → leb (m + n) 41 ≡ true → AllOf day (field_dates (tag ++ value)) → Correcting day (field tag value)
unfolding field
on_field s t h d = line (s ⊕ t) h d

-- 20 and 21
on_20 : (day n : ℕ) → Correcting day (field (ascii ":20:") (reference day n))
unfolding reference field_dates dated_behind equal places every in_line
on_20 day n = on_field (short_text (ascii ":20:") refl) (short_reference day n) refl (more refl none)

on_21 : (day n : ℕ) → Correcting day (field (ascii ":21:") (reference day n))
unfolding reference field_dates dated_behind equal places every in_line
on_21 day n = on_field (short_text (ascii ":21:") refl) (short_reference day n) refl (more refl none)

-- a sum within the limit has a digit less than the longest number
short_point : (v : ℕ) → v ≤ limit → Short 22 (with_point v)
unfolding every in_line written
short_point v h = levs ⊕ short_text (ascii ".") refl ⊕ short_fixed 2 (v % 100)
  where
    levs : Short 19 (decimal (v / 100))
    levs = record { plain = (short_decimal (v / 100)).plain; size = rw (places_length, width_bound 18 (v / 100) (omega arith)) (width_most 18 (v / 100)) }

on_72 : (day n : ℕ) (p : Position) → p.detailed ≤ limit → Correcting day (field72 day n p)
unfolding field72 baeref_row field_dates dated_behind equal places every in_line
on_72 day n p h =
    line (short_text (ascii ":72:/BAEREF/") refl ⊕ short_fixed 6 day ⊕ short_fixed 6 n) refl (more refl none)
    ▹ on_field (short_text (ascii "/RELREF/ERRCENTRB") refl) (short_fixed 6 p.key.date) refl none
    ▹ line (short_text (ascii "//RAZLIKA OT CENTRALIZACIA NA BS") refl) refl none
    ▹ on_field (short_text (ascii "//SUMA PREZ RINGS ") refl) (short_written p.transferred (short_text (ascii ".") refl)) refl none
    ▹ (on_field (short_text (ascii "//SUMA PREZ BISERA ") refl) (short_point p.detailed h) refl none ▹ line (short_text (ascii "-") refl) refl none)

-- ---- the two messages

pub on_204 : (day : ℕ) (temporary : List ℕ) (n : ℕ) (p : Position) (v : ℕ) → is_bic (bic p.key.bank) ≡ true → iban_shape temporary ≡ true → p.detailed ≤ limit → Correcting day (mt204 day temporary n p v)
unfolding mt204 first_line temporary_field field_dates dated_behind equal places every in_line
on_204 day temporary n p v h t l =
    (line (short_text (ascii "204") refl ⊕ short_text (ascii ",BNBGBGSD,") refl ⊕ short_bic (bic p.key.bank) h) refl none
    ▹ on_20 day n
    ▹ on_field (short_text (ascii ":19:") refl) (short_comma v) refl none
    ▹ on_field (short_text (ascii ":30:") refl) (short_fixed 6 day) refl (more refl none))
    ▹ (on_field (short_text (ascii ":58D:/") refl) (short_iban temporary t) refl none ▹ line (short_text (ascii "SMETKA ZA RAZPREDELENIE NA PREVODI") refl) refl none ▹ on_20 day n)
    ▹ (on_field (short_text (ascii ":32B:BGN") refl) (short_comma v) refl none ▹ on_field (short_text (ascii ":53A:") refl) (short_bic (bic p.key.bank) h) refl none)
    ▹ on_72 day n p l

pub on_205 : (day n : ℕ) (p : Position) (v : ℕ) → is_bic (bic p.key.bank) ≡ true → p.detailed ≤ limit → Correcting day (mt205 day n p v)
unfolding mt205 first_line field32a field_dates dated_behind equal places every in_line
on_205 day n p v h l =
    (line (short_text (ascii "205") refl ⊕ short_text (ascii ",BNBGBGSD,") refl ⊕ short_bic (bic p.key.bank) h) refl none ▹ on_20 day n ▹ on_21 day n)
    ▹ line (short_text (ascii ":32A:") refl ⊕ short_fixed 6 day ⊕ short_text (ascii "BGN") refl ⊕ short_comma v) refl (more refl none)
    ▹ (line (short_text (ascii ":52A:BNBGBGSD") refl) refl none ▹ on_field (short_text (ascii ":58A:") refl) (short_bic (bic p.key.bank) h) refl none)
    ▹ on_72 day n p l
