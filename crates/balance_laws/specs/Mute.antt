-- What an accepted message makes the card write is mute: no line of an MT199 or of the MT103 of a return is long enough for a posting line.
use Rattle.std.specs.Prelude.{◌≡◌, refl, Bool, true, false, cond, List, [], ◌++◌, ℕ, zero, suc, ◌+◌, leb, length}
use Rattle.std.proofs.Common.{sym, subst, append_assoc}
use Rattle.rules.specs.Text.{ascii, every, decimal}
use Rattle.rules.specs.Amounts.{with_comma}
use Rattle.rules.specs.Accounts.{is_bic, iban_shape}
use Rattle.rules.specs.Messages.{Detail, branch, payer_lines, branch_lines, account59, baeref_date, baeref_name}
use Rattle.rules.specs.Engine.{Position, bic}
use Rattle.rules.specs.Written.{Book, reference, first_line, field, field32a, temporary_field, baeref_row, size, listed_rows, all_listed, linked, position79, closed79, mt199, parts_of, mt199s, verdicts, return103, return_of, returns}
use Rattle.laws.specs.All.{All, All.none, All.more, all_take, all_drop}
use Rattle.rule_laws.specs.Lines.{in_line}
use Rattle.balance_laws.specs.Told.{Short, short_join, short_text, short_part, Mute, mute_none, mute_line, mute_join}
use Rattle.balance_laws.specs.Signs.{short_fixed, short_decimal, short_written, short_bic, short_iban}

infixl 65 ◌⊕◌
pub ◌⊕◌ : {m n : ℕ} {a b : List ℕ} → Short m a → Short n b → Short (m + n) (a ++ b)
s ⊕ t = short_join s t

infixl 60 ◌▹◌
◌▹◌ : {a b : List ℕ} → Mute a → Mute b → Mute (a ++ b)
s ▹ t = mute_join s t

-- ---- parts of all messages

pub short_reference : (day n : ℕ) → Short 14 (reference day n)
unfolding reference every in_line
short_reference day n = short_fixed 6 day ⊕ short_text (ascii "GA") refl ⊕ short_fixed 6 n

mute_field : {m n : ℕ} {tag value : List ℕ} → Short m tag → Short n value → leb (m + n) 41 ≡ true → Mute (field tag value)
unfolding field
mute_field s t h = mute_line (s ⊕ t) h

mute_opened : (bank : ℕ) (type : List ℕ) → Short 3 type → is_bic (bic bank) ≡ true → Mute (first_line type bank)
unfolding first_line every in_line
mute_opened bank type s h = mute_line (s ⊕ short_text (ascii ",BNBGBGSD,") refl ⊕ short_bic (bic bank) h) refl

pub short_comma : (v : ℕ) → Short 23 (with_comma v)
unfolding every in_line
short_comma v = short_written v (short_text (ascii ",") refl)

mute_32a : (day v : ℕ) → Mute (field32a day v)
unfolding field32a every in_line
mute_32a day v = mute_line (short_text (ascii ":32A:") refl ⊕ short_fixed 6 day ⊕ short_text (ascii "BGN") refl ⊕ short_comma v) refl

mute_temporary : {m : ℕ} {tag : List ℕ} (temporary : List ℕ) → Short m tag → iban_shape temporary ≡ true → leb (m + 22) 41 ≡ true → Mute (temporary_field tag temporary)
unfolding temporary_field every in_line
mute_temporary temporary s t h = mute_field s (short_iban temporary t) h ▹ mute_line (short_text (ascii "SMETKA ZA RAZPREDELENIE NA PREVODI") refl) refl

mute_baeref : {m : ℕ} {tag : List ℕ} (day n : ℕ) → Short m tag → leb (m + 6 + 6) 41 ≡ true → Mute (baeref_row tag day n)
unfolding baeref_row
mute_baeref day n s h = mute_line (s ⊕ short_fixed 6 day ⊕ short_fixed 6 n) h

-- ---- a detail

-- what is repeated of an accepted message's detail: in two rows of an MT199, and in 57D and 59 of a return
pub record DetailSent (d : Detail) : Type 0 where
  pub code : Short 8 (branch d)
  pub dated : Short 6 (baeref_date d)
  pub named : Short 12 (baeref_name d)
  pub account : Short 34 (account59 d)
  pub lines57d : Mute (ascii ":57D:" ++ branch_lines d)
  pub lines59 : Mute (ascii ":59:" ++ payer_lines d)

-- ---- MT199

mute_listed : {ds : List Detail} → All DetailSent ds → Mute (all_listed ds)
unfolding all_listed listed_rows every in_line
mute_listed none = mute_none
mute_listed (more d s) =
    mute_line (d.code ⊕ short_text (ascii "/") refl ⊕ d.dated ⊕ short_text (ascii "/") refl ⊕ d.named) refl
    ▹ mute_line d.account refl
    ▹ mute_listed s

mute_linked : (day n part : ℕ) → Mute (linked day n part)
unfolding linked every in_line
mute_linked day n part = go (leb 2 part)
  where
    go : (t : Bool) → Mute (cond t (field (ascii ":21:") (reference day (n + 1))) [])
    go true = mute_field (short_text (ascii ":21:") refl) (short_reference day (n + 1)) refl
    go false = mute_none

mute_position : (date transferred detailed : ℕ) → Mute (position79 date transferred detailed)
unfolding position79 every in_line
mute_position date transferred detailed =
    mute_field (short_text (ascii ":79:/CENTRB/") refl) (short_fixed 6 date) refl
    ▹ mute_field (short_text [] refl) (short_comma transferred) refl
    ▹ mute_field (short_text [] refl) (short_comma detailed) refl
    ▹ mute_field (short_text [] refl) (short_comma (size transferred detailed)) refl
    ▹ mute_line (short_text (ascii "NEKOREKTNI SMETKI") refl) refl

mute_closed : (part parts : ℕ) → Mute (closed79 part parts)
unfolding closed79 every in_line
mute_closed part parts =
    subst Mute (append_assoc (decimal part ++ ascii "/" ++ decimal parts) (ascii "\r\n") (ascii "-\r\n"))
    (mute_line (short_decimal part ⊕ short_text (ascii "/") refl ⊕ short_decimal parts) refl ▹ mute_line (short_text (ascii "-") refl) refl)

mute_199 : (day n : ℕ) (p : Position) (part parts : ℕ) {ds : List Detail} → is_bic (bic p.key.bank) ≡ true → All DetailSent ds → Mute (mt199 day n p part parts ds)
unfolding mt199 every in_line
mute_199 day n p part parts h s =
    (mute_opened p.key.bank (ascii "199") (short_text (ascii "199") refl) h ▹ mute_field (short_text (ascii ":20:") refl) (short_reference day (n + part)) refl ▹ mute_linked day n part)
    ▹ mute_position p.key.date p.transferred p.detailed
    ▹ mute_listed s
    ▹ mute_closed part parts

mute_199s : (k day n : ℕ) (p : Position) (part parts : ℕ) {ds : List Detail} → is_bic (bic p.key.bank) ≡ true → All DetailSent ds → Mute (mt199s k day n p part parts ds)
unfolding mt199s
mute_199s zero day n p part parts h s = mute_none
mute_199s (suc k) day n p part parts h s = mute_199 day n p part parts h (all_take 14 s) ▹ mute_199s k day n p (part + 1) parts h (all_drop 14 s)

pub mute_verdicts : (day n : ℕ) (p : Position) {ds : List Detail} → is_bic (bic p.key.bank) ≡ true → All DetailSent ds → Mute (verdicts day n p ds)
unfolding verdicts
mute_verdicts day n p {ds} h s = mute_199s (parts_of (length ds)) day n p 1 (parts_of (length ds)) h s

-- ---- MT103 of a return

mute_return : (b : Book) (n : ℕ) {d : Detail} → is_bic (bic b.bank) ≡ true → iban_shape b.temporary ≡ true → DetailSent d → Mute (return_of b n d)
unfolding return_of return103 every in_line
mute_return b n {d} h t s =
    (mute_opened b.bank (ascii "103") (short_text (ascii "103") refl) h
    ▹ mute_field (short_text (ascii ":20:") refl) (short_reference b.day n) refl
    ▹ mute_line (short_text (ascii ":23B:CRED") refl) refl
    ▹ mute_32a b.day d.amount)
    ▹ (mute_temporary b.temporary (short_text (ascii ":50K:/") refl) t refl
    ▹ mute_field (short_text (ascii ":52D:") refl) (short_part 8 4 b.temporary (short_iban b.temporary t).plain) refl
    ▹ mute_line (short_text (ascii "BNB") refl) refl)
    ▹ subst Mute (sym (append_assoc (ascii ":57D:" ++ branch_lines d) (ascii ":59:") (payer_lines d))) (s.lines57d ▹ s.lines59)
    ▹ (mute_field (short_text (ascii ":70:VRASHTANE CENTRB") refl) (short_fixed 6 b.date) refl
    ▹ (mute_line (short_text (ascii ":71A:OUR") refl) refl ▹ mute_line (short_text (ascii ":72:/DTYPE/PORD") refl) refl)
    ▹ mute_baeref b.day n (short_text (ascii "/BAEREF/") refl) refl
    ▹ mute_line (short_text (ascii "-") refl) refl)

pub mute_returns : (b : Book) (n : ℕ) {ds : List Detail} → is_bic (bic b.bank) ≡ true → iban_shape b.temporary ≡ true → All DetailSent ds → Mute (returns b n ds)
unfolding returns
mute_returns b n h t none = mute_none
mute_returns b n h t (more d s) = mute_return b (n + 1) h t d ▹ mute_returns b (n + 1) h t s
