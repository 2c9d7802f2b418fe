-- An old register's text without code lines is read, with its last line, as by document 01, and the register that an engine keeps of it has no codes.
use Rattle.std.specs.Prelude.{◌≡◌, Bool, true, ℕ}
use Rattle.std.proofs.Math.Path.{refl, ap}
use Rattle.std.proofs.Common.{sym, ◌∙◌}
use Rattle.std.proofs.Math.Bool.{false}
use mathlib.Core.List.{List, [], ◌∷◌, ◌++◌}
use Rattle.std.proofs.Math.Option.{Option, none, some, get_or}
use Rattle.std.proofs.lemmas.Bool.{not-true}
use Rattle.rules.specs.Text.{any}
use Rattle.rules.specs.Lines.{Line, lines}
use Rattle.rules.specs.Register.{Code, Register, code_line, of_lines, register, empty_register, register_of, old_register}
use Rattle.rules.specs.Moves.{with_end}
use Rattle.rules.specs.WithoutCodes.{is_code_line, has_no_codes}
use Rattle.laws.specs.Tests.{never, any_left, any_right}
use Rattle.rule_laws.specs.Options.{Came, came, is_some_is, Reads, Reads.empty, Reads.more}
use Rattle.rule_laws.specs.Registers.{LinesRead, lines_read}
use Rattle.rule_laws.specs.Endings.{both_there, register_ended, old_newer, newer_old}

-- none of a list is none of its end
any_behind : {A : Type 0} (p : A → Bool) (xs ys : List A) → any p (xs ++ ys) ≡ false → any p ys ≡ false
unfolding any
any_behind p [] ys h = h
any_behind p (x ∷ xs) ys h = any_behind p xs ys (any_right (p x) _ h)

-- of lines of which none is a code line no codes are read
no_codes : {ls : List Line} {cs : List Code} → Reads code_line ls cs → any is_code_line ls ≡ false → cs ≡ []
unfolding any is_code_line
no_codes empty h = refl
no_codes (more {x = l} {y = c} e r) h = never (sym (any_left (is_code_line l) _ h) ∙ is_some_is (code_line l) c e)

module _ (old : List ℕ) (h : has_no_codes old ≡ true) where
  codes_unlisted : (r : Register) → register (with_end old) ≡ some r → r.codes ≡ []
  unfolding has_no_codes
  codes_unlisted r e =
      let m : Came (lines old) of_lines r = came _ _ (sym (register_ended old) ∙ e) in
      let k : LinesRead m.value r = lines_read m.value r m.gives in
      let a : lines old ≡ some (r.temporary ∷ k.account_lines ++ k.code_lines) = m.is ∙ ap some k.all in
      let n : any is_code_line (r.temporary ∷ k.account_lines ++ k.code_lines) ≡ false = rw a at (not-true (any is_code_line (get_or (lines old) [])) h) in
      no_codes k.codes (any_behind is_code_line (r.temporary ∷ k.account_lines) k.code_lines n)

  pub register_plain : register (with_end old) ≡ old_register old
  register_plain = both_there _ _ (λ r e. newer_old old r e (codes_unlisted r e)) (old_newer old)

  pub codes_none : (register_of (with_end old)).codes ≡ []
  unfolding register_of
  codes_none = go (register (with_end old)) refl
    where
      go : (o : Option Register) → register (with_end old) ≡ o → (get_or o empty_register).codes ≡ []
      go none e = refl
      go (some r) e = codes_unlisted r e
