-- A command of one text, by the letter that its line begins with.
use Rattle.std.specs.Prelude.{◌≡◌, Bool, true, false, cond, List, [], ◌∷◌, ◌++◌, ℕ, ◌+◌, ◌≤◌, Option, Some, None, length, nat_eq, take, drop}
use Rattle.std.specs.Cmp.Lexicographic.{pointwise}
use Rattle.std.proofs.Math.Path.{refl}
use Rattle.std.proofs.Common.{sym, ap, subst, ◌∙◌, take-append-drop, arith}
use Rattle.std.proofs.Math.Option as M
use Rattle.std.proofs.lemmas.Slice.Eq.{starts_is}
use Rattle.std.proofs.lemmas.Bool.Decides.{Decides-eqb}
use Rattle.rules.specs.Text.{equal}
use Rattle.rules.specs.Replay.{Commanded, single, texts_behind, command_of}
use Rattle.laws.specs.Equal.{equal_true, equal_same}
use Rattle.laws.specs.Tests.{either}
use Rattle.commands.specs.declared.letter.Handed.{Handed}
use Rattle.commands.specs.declared.letter.Handed.TheVariants.{Message, Newer, Older}
use Rattle.commands.specs.Answers.{making}

-- the letter of a text's command
abbrev pub letter_of : Handed → ℕ
letter_of Message = 77
letter_of Newer = 78
letter_of Older = 80

-- does the line begin with the letter and a comma?
abbrev pub begins_with : ℕ → List ℕ → Bool
begins_with c l = equal (take 2 l) (c ∷ 44 ∷ [])

pub begun_with : (c : ℕ) (l : List ℕ) → begins_with c l ≡ true → l ≡ c ∷ 44 ∷ drop 2 l
begun_with c l e = sym (take-append-drop 2 l) ∙ ap (λ (x : List ℕ). x ++ drop 2 l) (equal_true _ _ e)

-- by the bytes that `starts_with` compares
pub begins_is : (c : ℕ) (l : List ℕ) (r : Bool) → r ≡ pointwise nat_eq (c ∷ 44 ∷ []) (take 2 l) → r ≡ begins_with c l
begins_is c l r e = either r (begins_with c l) (λ h. ap (begins_with c) (starts.0 h) ∙ equal_same (c ∷ 44 ∷ [])) (λ h. starts.1 (drop 2 l) (begun_with c l h))
  where
    starts : (r ≡ true → l ≡ (c ∷ 44 ∷ []) ++ drop 2 l) × ((rest : List ℕ) → l ≡ (c ∷ 44 ∷ []) ++ rest → r ≡ true)
    starts = starts_is Decides-eqb l (c ∷ 44 ∷ []) r e

-- by those that `strip_prefix` compares: ps begin s, and x stands behind them
abbrev pub Stripped : List ℕ → List ℕ → List ℕ → Type 0
Stripped ps s x = (pointwise nat_eq (take (length ps) s) ps ≡ true) × (x ≡ drop (length ps) s) × (length x + length ps ≡ length s)

-- what is handed over
unfoldable pub letter_in : List ℕ → Option Handed
letter_in l = cond (begins_with 77 l) (Some Message) (cond (begins_with 78 l) (Some Newer) (cond (begins_with 80 l) (Some Older) None))

letter_read : (h : Handed) (u : List ℕ) → letter_in (letter_of h ∷ 44 ∷ u) ≡ Some h
unfolding letter_in equal
letter_read Message u = refl
letter_read Newer u = refl
letter_read Older u = refl

pub text_read : (h : Handed) (u cs : List ℕ) → command_of (letter_of h ∷ 44 ∷ u) cs ≡ texts_behind (single (making h)) 1 u cs
unfolding command_of equal making
text_read Message u cs = refl
text_read Newer u cs = refl
text_read Older u cs = refl

-- ---- by the tests of the code

module _ (l : List ℕ) where
  pub letter_one : (h : Handed) (t : Bool) → t ≡ begins_with (letter_of h) l → t ≡ true → Some h ≡ letter_in l
  letter_one h t u d = sym (ap letter_in (begun_with (letter_of h) l (sym u ∙ d)) ∙ letter_read h (drop 2 l))

  pub letter_none : (m n p : Bool) → m ≡ begins_with 77 l → m ≡ false → n ≡ begins_with 78 l → n ≡ false → p ≡ begins_with 80 l → p ≡ false → None ≡ letter_in l
  unfolding letter_in
  letter_none m n p u a v b w c = rw (← u, a, ← v, b, ← w, c) refl

-- ---- by the letter told

abbrev LetterTold : List ℕ → Option Handed → Type 0
LetterTold l (Some h) = begins_with (letter_of h) l ≡ true
LetterTold l None = (h : Handed) → begins_with (letter_of h) l ≡ false

letter_told : (l : List ℕ) → LetterTold l (letter_in l)
unfolding letter_in
letter_told l = go (begins_with 77 l) refl (begins_with 78 l) refl (begins_with 80 l) refl
  where
    go : (m : Bool) → begins_with 77 l ≡ m → (n : Bool) → begins_with 78 l ≡ n → (p : Bool) → begins_with 80 l ≡ p → LetterTold l (cond m (Some Message) (cond n (Some Newer) (cond p (Some Older) None)))
    go true e n f p g = e
    go false e true f p g = f
    go false e false f true g = g
    go false e false f false g = none
      where
        none : (h : Handed) → begins_with (letter_of h) l ≡ false
        none Message = e
        none Newer = f
        none Older = g

module _ (l : List ℕ) where
  pub text_letter : (h : Handed) → letter_in l ≡ Some h → l ≡ letter_of h ∷ 44 ∷ drop 2 l
  text_letter h e = begun_with (letter_of h) l (subst (LetterTold l) e (letter_told l))

  pub letter_room : (h : Handed) → letter_in l ≡ Some h → 2 ≤ length l
  letter_room h e = omega (arith, ap length (text_letter h e))

  pub other_letter : letter_in l ≡ None → (h : Handed) → begins_with (letter_of h) l ≡ false
  other_letter e = subst (LetterTold l) e (letter_told l)

-- of another command the tests for these fail
pub other_read : (l : List ℕ) → ((h : Handed) → begins_with (letter_of h) l ≡ false) → (a b c d : M.Option Commanded) → cond (begins_with 77 l) a (cond (begins_with 78 l) b (cond (begins_with 80 l) c d)) ≡ d
other_read l n a b c d = rw (n Message, n Newer, n Older)

pub ruleset letters = (begins_is, letter_one, letter_none)
