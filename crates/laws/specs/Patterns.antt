-- A pattern in runs of equal signs: bytes fit it where each run's bytes are of the class of its sign.
use Rattle.std.specs.Prelude.{◌≡◌, refl, Bool, true, false, ◌&&◌, cond, List, [], ◌∷◌, ◌++◌, ℕ, zero, suc, ◌+◌, ◌≤◌, ◌<◌, length, get_or, replicate}
use Rattle.std.proofs.Common.{sym, ap, ◌∙◌, arith, ne_eqb}
use Rattle.std.proofs.Math.Bool.{and-true}
use Rattle.rules.specs.Text.{is_digit, is_letter, is_alnum, every, fits, fits_sign}
use Rattle.laws.specs.Parts.{cut, cut_step, cut_done}
use Rattle.laws.specs.Tests.{and_holds, and_off}
use Rattle.laws.specs.Places.{Passed, passed_all}

-- a sign that stands for a class
pub record SignOf (q : ℕ) (p : ℕ → Bool) : Type 0 where
  pub means : (c : ℕ) → fits_sign q c ≡ p c

pub digit_sign : SignOf 110 is_digit
unfolding fits_sign
digit_sign = record { means = λ c. refl }

pub letter_sign : SignOf 97 is_letter
unfolding fits_sign
letter_sign = record { means = λ c. refl }

pub alnum_sign : SignOf 99 is_alnum
unfolding fits_sign
alnum_sign = record { means = λ c. refl }

-- a test in front of two, and of the first of them
pub cond_and : (a b c : Bool) → cond a (b && c) false ≡ (cond a b false && c)
cond_and true b c = refl
cond_and false b c = refl

-- one sign, and the pattern behind it
pub fits_sign_lem : (q : ℕ) (ps s : List ℕ) (i e : ℕ) → i < e → e ≤ length s → fits (q ∷ ps) (cut s i e) ≡ cond (fits_sign q (get_or s i 0)) (fits ps (cut s (i + 1) e)) false
unfolding fits
fits_sign_lem q ps s i e h k = rw (cut_step s i e h k)

-- n signs of a class, and the pattern behind them
pub fits_run : (q : ℕ) (p : ℕ → Bool) → SignOf q p → (ps s : List ℕ) (n i e : ℕ) → i + n ≤ e → e ≤ length s
    → fits (replicate n q ++ ps) (cut s i e) ≡ (every p (cut s i (i + n)) && fits ps (cut s (i + n) e))
unfolding every
fits_run q p w ps s zero i e h k = let z : i + 0 ≡ i = omega arith in rw (z, cut_done s i i (omega arith) (omega arith))
fits_run q p w ps s (suc n) i e h k =
    let f : i + suc n ≡ i + 1 + n = omega arith in
    fits_sign_lem q (replicate n q ++ ps) s i e (omega arith) k
    ∙ rw (w.means (get_or s i 0), fits_run q p w ps s n (i + 1) e (omega arith) k, f, cut_step s i (i + 1 + n) (omega arith) (omega arith), every)
    (cond_and (p (get_or s i 0)) (every p (cut s (i + 1) (i + 1 + n))) (fits ps (cut s (i + 1 + n) e)))

append_none : (ps : List ℕ) → ps ++ [] ≡ ps
append_none [] = refl
append_none (p ∷ ps) = ap (λ (l : List ℕ). p ∷ l) (append_none ps)

-- the last n signs
pub fits_last : (q : ℕ) (p : ℕ → Bool) → SignOf q p → (s : List ℕ) (n i e : ℕ) → i + n ≡ e → e ≤ length s → fits (replicate n q) (cut s i e) ≡ every p (cut s i (i + n))
unfolding fits
fits_last q p w s n i e h k =
    ap (λ (l : List ℕ). fits l (cut s i e)) (sym (append_none (replicate n q)))
    ∙ fits_run q p w [] s n i e (omega arith) k
    ∙ rw (h, cut_done s e e (omega arith) (omega arith))
    (and-true (every p (cut s i e)))

-- ---- run by run: a run that all its bytes are in, and one that a byte is not in

module _ (p : ℕ → Bool) (s : List ℕ) (a n r : ℕ) (b : Bool) (w : Passed p s a n r) where
  pub run_on : n ≤ r → (x : Bool) → x ≡ b → x ≡ (every p (cut s a (a + n)) && b)
  run_on h x e = rw (passed_all p s a n r w h) e

  pub run_off : r < n → false ≡ (every p (cut s a (a + n)) && b)
  run_off h = rw (← w.whole, ne_eqb r n (λ (q : r ≡ n). omega arith))

pub ruleset patterns = (run_on, run_off, and_holds, and_off)
