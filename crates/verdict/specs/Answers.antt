-- Document 01's verdict for each case of the code's.
use Rattle.std.specs.Prelude.{◌≡◌, List, ℕ, ◌<◌, length}
use Rattle.std.proofs.Math.Option.{some}
use Rattle.rules.specs.Register.{register_of}
use Rattle.rules.specs.Verdict as paper
use Rattle.rules.specs.Verdict.{verdict, by_code}
use Rattle.rule_laws.specs.Verdicts.{credited_line, line_known}
use Rattle.verdict.specs.declared.Cause.{Cause}
use Rattle.verdict.specs.declared.Cause.TheVariants.{WrongShape, WrongControl, NotInRegister, OutOfBounds}
use Rattle.verdict.specs.declared.Verdict.{Verdict}
use Rattle.verdict.specs.declared.Verdict.TheVariants.{Credited, CreditedByCode, Returned}

-- "shape, control, not in the register, code outside its bounds"
abbrev pub cause_of : Cause → paper.Cause
cause_of WrongShape = paper.wrong_shape
cause_of WrongControl = paper.wrong_control
cause_of NotInRegister = paper.not_in_register
cause_of OutOfBounds = paper.out_of_bounds

-- "credited, with the register line found, or returned, with the first cause", or credited by a code
abbrev pub verdict_of : Verdict → paper.Verdict
verdict_of (Credited i) = paper.credited i
verdict_of (CreditedByCode i c) = paper.credited_by_code i (cause_of c)
verdict_of (Returned c) = paper.returned (cause_of c)

-- ---- a credited detail's account line is one of the register's

-- the line that a verdict names
pub record InRegister (text : List ℕ) (v : Verdict) : Type 0 where
  pub line : (i : ℕ) → credited_line (verdict_of v) ≡ some i → i < length (register_of text).accounts

-- it is small enough for a byte
pub record LineSmall (v : Verdict) : Type 0 where
  pub line : (i : ℕ) → credited_line (verdict_of v) ≡ some i → i < 256

pub in_register : (text code cs : List ℕ) (v : Verdict) → verdict_of v ≡ by_code (register_of text) code (verdict (register_of text) cs) → InRegister text v
in_register text code cs v h = record { line = λ i e. line_known (register_of text) code cs i (rw h at e) }

module _ (text : List ℕ) (v : Verdict) (i : ℕ) (l : InRegister text v) where
  pub line_credited : v ≡ Credited i → i < length (register_of text).accounts
  unfolding credited_line
  line_credited e = l.line i (rw e)

  pub line_coded : {c : Cause} → v ≡ CreditedByCode i c → i < length (register_of text).accounts
  unfolding credited_line
  line_coded e = l.line i (rw e)
