-- The details of a message whose verdicts pass a test, as the code's loops come to them. What is left of the walk gives the answer.
use Rattle.std.specs.Prelude.{◌≡◌, refl, Bool, true, false, cond, List, [], ◌∷◌, ℕ, suc, ◌+◌, ◌≤◌, ◌<◌, length, get_or, drop}
use Rattle.std.specs.List.{count_by}
use Rattle.std.proofs.Common.{sym, ap, ◌∙◌, arith, add-one, drop-cons, drop-drop, drop_of_length-le}
use Rattle.std.proofs.lemmas.List.Sums.{sum_by-cons}
use Rattle.rules.specs.Text.{passing}
use Rattle.rules.specs.Messages.{Detail}
use Rattle.rules.specs.Register.{Register, register_of}
use Rattle.rules.specs.Calls as C
use Rattle.rules.specs.Verdict as paper
use Rattle.rules.specs.Calls.{verdict_is, judged_to}
use Rattle.details.specs.Message.{details_in, no_detail, detail_at}
use Rattle.verdict.specs.Answers.{verdict_of}
use Rattle.verdict.specs.Details.{verdict_kept, judged_at, JudgedIn}
use Rattle.verdict.specs.declared.detail.Judged.{Judged}

-- does the verdict that is kept pass a test?
abbrev pub tells : (paper.Verdict → Bool) → Judged → Bool
tells test j = test (verdict_of (verdict_kept j))

-- those of some details whose verdicts do, and how many they are
unfoldable pub chosen : (paper.Verdict → Bool) → List Detail → List Judged → List Detail
chosen test [] js = []
chosen test (d ∷ ds) [] = []
chosen test (d ∷ ds) (j ∷ js) = let more = chosen test ds js in cond (tells test j) (d ∷ more) more

pub chosen_count : (test : paper.Verdict → Bool) (ds : List Detail) (js : List Judged) → length js ≡ length ds → length (chosen test ds js) ≡ count_by (tells test) js
unfolding chosen
chosen_count test [] [] e = refl
chosen_count test [] (j ∷ js) e = absurd (omega arith)
chosen_count test (d ∷ ds) [] e = absurd (omega arith)
chosen_count test (d ∷ ds) (j ∷ js) e = go (tells test j) (chosen_count test ds js (omega arith)) ∙ sym (sum_by-cons (λ (x : Judged). cond (tells test x) 1 0) j js)
  where
    go : (b : Bool) → length (chosen test ds js) ≡ count_by (tells test) js → length (cond b (d ∷ chosen test ds js) (chosen test ds js)) ≡ cond b 1 0 + count_by (tells test) js
    go true f = omega (arith, f)
    go false f = omega (arith, f)

-- those of a message from detail i on
abbrev pub chosen_from : (paper.Verdict → Bool) → List ℕ → List Judged → ℕ → List Detail
chosen_from test s kept i = chosen test (drop i (details_in s)) (drop i kept)

-- ---- one detail on, i being passed

-- however many details there are, one that is chosen being among them
module _ (test : paper.Verdict → Bool) (s : List ℕ) (kept : List Judged) (i : ℕ) where
  pub none_chosen : length kept ≤ i → chosen_from test s kept i ≡ []
  unfolding chosen
  none_chosen h = rw (drop_of_length-le kept {i = i} h) (go (drop i (details_in s)))
    where
      go : (ds : List Detail) → chosen test ds [] ≡ []
      go [] = refl
      go (d ∷ ds) = refl

  module _ (h : i < length kept) (j : Judged) (b : Bool) (u : b ≡ tells test (get_or kept i j)) where
    kept_next : drop i kept ≡ get_or kept i j ∷ drop (i + 1) kept
    kept_next = rw (add-one i) (drop-cons kept i j h)

    pub one_chosen : i < length (details_in s) → b ≡ true → chosen_from test s kept i ≡ detail_at (details_in s) i ∷ chosen_from test s kept (i + 1)
    unfolding chosen
    one_chosen l d = let e : drop i (details_in s) ≡ detail_at (details_in s) i ∷ drop (i + 1) (details_in s) = rw (add-one i) (drop-cons (details_in s) i no_detail l) in rw (e, kept_next, ← u, d)

    pub one_passed : b ≡ false → chosen_from test s kept i ≡ chosen_from test s kept (i + 1)
    unfolding chosen
    one_passed d = rw (kept_next, ← drop-drop 1 i (details_in s)) (go (drop i (details_in s)))
      where
        go : (ds : List Detail) → chosen test ds (get_or kept i j ∷ drop (i + 1) kept) ≡ chosen test (drop 1 ds) (drop (i + 1) kept)
        go [] = refl
        go (e ∷ ds) = rw (← u, d)

module _ (test : paper.Verdict → Bool) (s : List ℕ) (kept : List Judged) (c : length kept ≡ length (details_in s)) (i : ℕ) where
  pub details_end : length kept ≤ i → drop i (details_in s) ≡ []
  details_end h = drop_of_length-le (details_in s) {i = i} (omega (arith, c))

  pub chosen_end : length kept ≤ i → chosen_from test s kept i ≡ []
  chosen_end h = none_chosen test s kept i h

  module _ (h : i < length kept) where
    pub details_next : drop i (details_in s) ≡ detail_at (details_in s) i ∷ drop (i + 1) (details_in s)
    details_next = rw (add-one i) (drop-cons (details_in s) i no_detail (omega (arith, c)))

    module _ (j : Judged) (b : Bool) (u : b ≡ tells test (get_or kept i j)) where
      pub chosen_one : b ≡ true → chosen_from test s kept i ≡ detail_at (details_in s) i ∷ chosen_from test s kept (i + 1)
      chosen_one d = one_chosen test s kept i h j b u (omega (arith, c)) d

      pub chosen_none : b ≡ false → chosen_from test s kept i ≡ chosen_from test s kept (i + 1)
      chosen_none d = one_passed test s kept i h j b u d

-- ---- they are the paper's

-- by the test's own answers
tells_paper : (test : paper.Verdict → Bool) (r : Register) (ds : List Detail) (js : List Judged) → length js ≡ length ds → ((i : ℕ) → i < length js → tells test (judged_at js i) ≡ test (C.verdict_of r (detail_at ds i))) → chosen test ds js ≡ judged_to test r ds
unfolding chosen passing verdict_is
tells_paper test r [] [] e f = refl
tells_paper test r [] (j ∷ js) e f = absurd (omega arith)
tells_paper test r (d ∷ ds) [] e f = absurd (omega arith)
tells_paper test r (d ∷ ds) (j ∷ js) e f = rw (f 0 (omega arith), tells_paper test r ds js (omega arith) (λ i l. f (suc i) (omega arith)))

pub chosen_told : (test : paper.Verdict → Bool) (text s : List ℕ) (kept : List Judged) → length kept ≡ length (details_in s) → ((i : ℕ) → i < length kept → tells test (judged_at kept i) ≡ test (C.verdict_of (register_of text) (detail_at (details_in s) i)))
    → chosen_from test s kept 0 ≡ judged_to test (register_of text) (details_in s)
chosen_told test text s kept e f = tells_paper test (register_of text) (details_in s) kept e f

-- by the verdicts
pub chosen_all : (test : paper.Verdict → Bool) (text s : List ℕ) (kept : List Judged) → JudgedIn text s kept → chosen_from test s kept 0 ≡ judged_to test (register_of text) (details_in s)
chosen_all test text s kept v = chosen_told test text s kept v.kept_in.count (λ i l. ap test (v.verdicts i l))

-- and so many
pub chosen_many : (test : paper.Verdict → Bool) (text s : List ℕ) (kept : List Judged) → JudgedIn text s kept → count_by (tells test) kept ≡ length (judged_to test (register_of text) (details_in s))
chosen_many test text s kept v = sym (chosen_count test (details_in s) kept v.kept_in.count) ∙ ap length (chosen_all test text s kept v)
