-- A call that changes no engine counts for nothing: it leaves the area, and each line that it writes is shorter than a posting line. A further such call is a further line of `uncounted`.
use Rattle.std.specs.Prelude.{◌≡◌, refl, true, ℕ, ◌≤◌, length}
use Rattle.std.proofs.Common.{sym, ◌∙◌, arith, le-leb}
use mathlib.Core.List.{List, [], ◌++◌, append-nil}
use Rattle.std.proofs.Math.Option.{Option, none, some}
use Rattle.rules.specs.Text.{ascii, every}
use Rattle.rules.specs.Accounts.{passes}
use Rattle.rules.specs.Lines.{Line, lines}
use Rattle.rules.specs.Register.{Register, of_lines, register}
use Rattle.rules.specs.Calls.{Stop, first_of}
use Rattle.rules.specs.Moves.{with_end, without_end, newer_stops, older_stops, newer_call, older_call}
use Rattle.rules.specs.Area.{Result, card_newer, card_older}
use Rattle.rules.specs.Services.{Service, newer, older, beside, service_result}
use Rattle.rules.specs.ThereAndBack.{wrote}
use Rattle.laws.specs.Tests.{and_left, cond_both}
use Rattle.rule_laws.specs.Options.{Came, came, Reads, Reads.empty, Reads.more}
use Rattle.rule_laws.specs.Lines.{in_line, lines_lined}
use Rattle.rule_laws.specs.Registers.{LinesRead, lines_read, account_length, code_length, temporary_passes}
use Rattle.rule_laws.specs.Endings.{register_ended, register_whole, old_newer}
use Rattle.rule_laws.specs.Services.{Writes, Writes.all, Writes.nothing, service_writes}
use Rattle.rule_laws.specs.Moves.{NewerClear, newer_clear, OlderClear, older_clear}
use Rattle.balance_laws.specs.Told.{Short, short_lines, Mute, mute_none, mute_line, mute_join, short_text}
use Rattle.balance_laws.specs.Signs.{short_iban}

-- ---- the lines of a register are short

-- lines of a short form, before short lines
form_short : {B : Type 0} {f : Line → Option B} → ((l : Line) (b : B) → f l ≡ some b → length l ≤ 41) → {ls : List Line} {bs : List B} → Reads f ls bs → (ms : List Line) → short_lines ms ≡ true → short_lines (ls ++ ms) ≡ true
unfolding short_lines
form_short h empty ms s = s
form_short h (more {x = l} {y = b} e r) ms s = cond_both _ _ (le-leb (length l) 41 (h l b e)) (form_short h r ms s)

-- the text before the last line
before_mute : (s : List ℕ) (r : Register) → register (with_end s) ≡ some r → Mute s
unfolding short_lines passes
before_mute s r h =
    let m : Came (lines s) of_lines r = came _ _ (sym (register_ended s) ∙ h) in
    let k : LinesRead m.value r = lines_read m.value r m.gives in
    let temporary : Short 22 r.temporary = short_iban r.temporary (and_left _ _ (temporary_passes (with_end s) r h)) in
    let codes : short_lines (k.code_lines ++ []) ≡ true = form_short (λ l c e. omega (arith, code_length l c e)) k.codes [] refl in
    let accounts : short_lines (k.account_lines ++ k.code_lines) ≡ true = form_short (λ l a e. omega (arith, account_length l a e)) k.accounts k.code_lines (rw append-nil at codes) in
    record { all = m.value; reading = lines_lined s m.value m.is; short = rw k.all (cond_both _ _ (le-leb (length r.temporary) 41 (omega (arith, temporary.size))) accounts) }

-- and with it
end_mute : {s : List ℕ} → Mute s → Mute (with_end s)
unfolding with_end every in_line
end_mute m = mute_join m (mute_line (short_text (ascii "END") refl) refl)

-- ---- what such a call writes

-- its text, where it is accepted
writes_mute : {ss : List Stop} {text bs : List ℕ} → (first_of ss ≡ 0 → Mute text) → Writes ss text bs → Mute bs
writes_mute f (all h) = f h
writes_mute f (nothing n) = mute_none

module _ (s out : List ℕ) where
  newer_mute : Mute (wrote (card_newer s out))
  unfolding card_newer newer_call
  newer_mute =
      writes_mute
      (λ h. let c : NewerClear (length out) s = newer_clear (length out) s h in end_mute (before_mute s c.accounts (old_newer s c.accounts c.reads)))
      (service_writes (newer_stops (length out) s) none (with_end s) [] out)

  older_mute : Mute (wrote (card_older s out))
  unfolding card_older older_call
  older_mute =
      writes_mute
      (λ h. let c : OlderClear (length out) s = older_clear (length out) s h in before_mute (without_end s) c.accounts (rw (register_whole s c.accounts c.reads) c.reads))
      (service_writes (older_stops (length out) s) none (without_end s) [] out)

-- ---- any such call

-- it leaves the area and writes short lines
pub record Uncounted (r : Result) (old : List ℕ) : Type 0 where
  pub area : r.area ≡ old
  pub mute : Mute (wrote r)

pub uncounted : (v : Service) (area out : List ℕ) → Uncounted (service_result v area out) area
unfolding service_result beside
uncounted (newer s) area out = record { area = refl; mute = newer_mute s out }
uncounted (older s) area out = record { area = refl; mute = older_mute s out }
