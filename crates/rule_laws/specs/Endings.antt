-- A text and its last line `END`: a text with it has the lines of the text before it, and an old register's text is that of a register without codes.
use Rattle.std.specs.Prelude.{◌≡◌, refl, true, List, [], ◌∷◌, ◌++◌, ℕ, ◌-◌, length}
use Rattle.std.proofs.Common.{sym, ap, subst, ◌∙◌, append_assoc, append-nil, arith, length-append, take_at}
use Rattle.std.proofs.Math.Option.{Option, none, some}
use Rattle.rules.specs.Text.{every, then, any, twice}
use Rattle.rules.specs.Lines.{Line, lines}
use Rattle.rules.specs.Register.{Register, code_line, sound_codes, sound, of_lines, before_end, register, old_register}
use Rattle.rules.specs.Moves.{end_line, with_end, without_end}
use Rattle.laws.specs.Tests.{and_left, and_both}
use Rattle.rule_laws.specs.Options.{Came, came, Reads, Reads.empty}
use Rattle.rule_laws.specs.Lines.{in_line, Lined, Lined.end, Lined.next, lines_lined, lined_lines, lined_join}
use Rattle.rule_laws.specs.Registers.{last_line, before_end_lem, end_before, LinesRead, lines_read, lines_of, OldRead, old_read, old_of}

-- options of which each is there with what the other has
pub both_there : {A : Type 0} (x y : Option A) → ((a : A) → x ≡ some a → y ≡ some a) → ((a : A) → y ≡ some a → x ≡ some a) → x ≡ y
both_there (some a) y f g = sym (f a refl)
both_there none none f g = refl
both_there none (some a) f g = g a refl

-- ---- the text before the last line

-- the last line dropped from a text that has it
pub without_with : (cs : List ℕ) → without_end (with_end cs) ≡ cs
unfolding with_end without_end
without_with cs = take_at cs end_line (length (cs ++ end_line) - 5) (omega (arith, length-append cs end_line))

-- a text whose last line is `END`
record Ended (cs : List ℕ) (ls : List Line) : Type 0 where
  text : List ℕ
  whole : cs ≡ with_end text
  reading : Lined text ls

end_parted : (ls : List Line) {cs : List ℕ} → Lined cs (ls ++ (last_line ∷ [])) → Ended cs ls
unfolding with_end
end_parted [] (next p end) = record { text = []; whole = refl; reading = end }
end_parted (l ∷ ls) (next {cs = cs} p t) =
    let r : Ended cs ls = end_parted ls t in
    record {
      text = l ++ 13 ∷ 10 ∷ r.text;
      whole = ap (λ (more : List ℕ). l ++ 13 ∷ 10 ∷ more) r.whole ∙ sym (append_assoc l (13 ∷ 10 ∷ r.text) end_line);
      reading = next p r.reading;
    }

lines_ended : (cs : List ℕ) (ls : List Line) → then (lines cs) before_end ≡ some ls → Ended cs ls
lines_ended cs ls h =
    let m : Came (lines cs) before_end ls = came _ _ h in
    end_parted ls (lines_lined cs (ls ++ (last_line ∷ [])) (m.is ∙ ap some (before_end_lem m.value ls m.gives)))

last_lined : Lined end_line (last_line ∷ [])
unfolding every in_line
last_lined = next {l = last_line} refl end

-- the lines before the last are those of the text before it
pub lines_before_end : (cs : List ℕ) → then (lines (with_end cs)) before_end ≡ lines cs
unfolding with_end
lines_before_end cs =
    both_there _ _
    (λ ls h.
    let e : Ended (with_end cs) ls = lines_ended (with_end cs) ls h in
    rw (sym (without_with cs) ∙ ap without_end e.whole ∙ without_with e.text) (lined_lines e.reading))
    (λ ls h. rw (lined_lines (lined_join (lines_lined cs ls h) last_lined)) (end_before ls))

-- ---- a register's text

pub register_ended : (cs : List ℕ) → register (with_end cs) ≡ then (lines cs) of_lines
unfolding register
register_ended cs = rw (lines_before_end cs)

-- it is the text before the last line, with that line
pub register_whole : (s : List ℕ) (r : Register) → register s ≡ some r → with_end (without_end s) ≡ s
unfolding register
register_whole s r h =
    let b : Came (then (lines s) before_end) of_lines r = came _ _ h in
    let e : Ended s b.value = lines_ended s b.value b.is in
    rw e.whole (ap with_end (without_with e.text))

-- ---- an old register's text

-- of no codes nothing is asked
codes_unasked : (r : Register) → r.codes ≡ [] → sound_codes r ≡ true
unfolding sound_codes any twice
codes_unasked r h = rw h

-- with its last line it is that of the same register
pub old_newer : (s : List ℕ) (r : Register) → old_register s ≡ some r → register (with_end s) ≡ some r
unfolding sound
old_newer s r h =
    let k : OldRead s r = old_read s r h in
    rw (register_ended s, k.all)
    (lines_of _ r record { account_lines = k.account_lines; code_lines = []; all = rw append-nil; accounts = k.accounts; codes = rw k.codes empty; good = and_both _ _ k.good (codes_unasked r k.codes) })

-- and a register without codes has such a text before its last line
pub newer_old : (s : List ℕ) (r : Register) → register (with_end s) ≡ some r → r.codes ≡ [] → old_register s ≡ some r
unfolding sound
newer_old s r h c =
    let m : Came (lines s) of_lines r = came _ _ (sym (register_ended s) ∙ h) in
    let k : LinesRead m.value r = lines_read m.value r m.gives in
    old_of s r record {
      account_lines = k.account_lines;
      all = m.is ∙ ap some (k.all ∙ rw (none_read (subst (Reads code_line k.code_lines) c k.codes), append-nil k.account_lines));
      accounts = k.accounts;
      codes = c;
      good = and_left _ _ k.good;
    }
  where
    none_read : {ls : List Line} → Reads code_line ls [] → ls ≡ []
    none_read empty = refl
