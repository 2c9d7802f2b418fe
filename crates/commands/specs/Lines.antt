-- Command lines: one law for each way out of the functions that read them.
use Rattle.std.specs.Prelude.{◌≡◌, ℕ, ◌+◌, ◌≤◌, ◌<◌, Option, Some, None, nat_eq, length, take, drop, Bool, ◌-◌, leb, eqb, get_or}
use Rattle.std.specs.Cmp.Lexicographic.{pointwise}
use Rattle.std.specs.List.{IsSplitAt}
use Rattle.std.proofs.Math.Path.{refl, sym, ap}
use Rattle.std.proofs.Common.{◌∙◌, length-drop}
use Rattle.std.proofs.Math.Bool.{true, false, cond}
use mathlib.Core.List.{List, [], ◌∷◌}
use Rattle.std.proofs.Math.Option as M
use Rattle.std.proofs.Math.Option.{none, some}
use native.Mathlib.Omega.{arith}
use Rattle.std.proofs.Math.Seq.{drop-drop}
use borrow.Author.Tests.{le-leb, lt-leb, eq-eqb, ne_eqb}
use Rattle.rules.specs.Text.{ascii, equal, then, added_up}
use Rattle.rules.specs.Replay as R
use Rattle.rules.specs.Replay.{Commanded, length_of, parted_lengths, six_digits, turns, texts_in, with_texts, texts_behind, single, opening, command_of, command}
use Rattle.laws.specs.Parts.{cut, from, from_all, cut_step, cut_length}
use Rattle.laws.specs.Tests.{never}
use Rattle.lines.specs.Answers.{LineAt, line_told, no_line_told}
use Rattle.commands.specs.declared.letter.Handed.{Handed}
use Rattle.commands.specs.Answers.{making, turn_behind, opening_behind}
use Rattle.laws.specs.Slices.{equal_is, rest_whole}
use Rattle.commands.specs.Letters.{letter_in, Stripped, text_letter, other_letter, text_read, other_read, begins_with, letter_room}
use Rattle.commands.specs.Numbers.{lengths_last, six_small}

-- ---- a letter and a comma

few : (l : List ℕ) (c : ℕ) → length l < 2 → false ≡ begins_with c l
unfolding equal
few [] c h = refl
few (x ∷ []) c h = go (eqb x c)
  where
    go : (t : Bool) → false ≡ cond t false false
    go true = refl
    go false = refl
few (x ∷ y ∷ l) c h = absurd (omega arith)

module _ (s : List ℕ) (at e c : ℕ) where
  pub begins_short : at ≤ e → e ≤ length s → e - at < 2 → false ≡ begins_with c (cut s at e)
  begins_short h k l = few (cut s at e) c (rw (cut_length s at e k) l)

  module _ (k : e ≤ length s) (l : 2 ≤ e - at) where
    two : take 2 (cut s at e) ≡ get_or s at 0 ∷ get_or s (at + 1) 0 ∷ []
    two = rw (cut_step s at e (omega arith) k, cut_step s (at + 1) e (omega arith) k) refl

    pub begins_other : (get_or s at 0 ≡ c → ⊥) → false ≡ begins_with c (cut s at e)
    unfolding equal
    begins_other n = rw (two, ne_eqb _ _ n) refl

    pub begins_comma : get_or s at 0 ≡ c → eqb (get_or s (at + 1) 0) 44 ≡ begins_with c (cut s at e)
    unfolding equal
    begins_comma n = rw (two, eq-eqb _ _ n) (go (eqb (get_or s (at + 1) 0) 44))
      where
        go : (t : Bool) → t ≡ cond t true false
        go true = refl
        go false = refl

  pub begins_long : (t : Bool) → t ≡ begins_with c (cut s at e) → t ≡ true → at ≤ e → e + 2 ≤ length s → at + 2 ≤ e
  begins_long t u d h k = go (leb 2 (e - at)) refl
    where
      go : (b : Bool) → leb 2 (e - at) ≡ b → at + 2 ≤ e
      go true z = omega (arith, borrow.Author.Tests.leb-true 2 (e - at) z)
      go false z = never (begins_short h (omega arith) (borrow.Author.Tests.leb-false 2 (e - at) z) ∙ sym u ∙ d)

-- ---- texts behind a command line

module _ (f : List (List ℕ) → R.Command) (ns others : List ℕ) where
  texts_short : length others < added_up ns → with_texts f ns others ≡ none
  unfolding with_texts
  texts_short h = rw (lt-leb _ _ h) refl

  texts_whole : added_up ns ≤ length others → with_texts f ns others ≡ some record { command = f (texts_in ns others); others = drop (added_up ns) others }
  unfolding with_texts
  texts_whole h = rw (le-leb _ _ h) refl

-- ---- one length and its text

module _ (h : Handed) (part others : List ℕ) where
  pub text_none : none ≡ length_of part → none ≡ texts_behind (single (making h)) 1 part others
  unfolding texts_behind
  text_none e = rw (lengths_last part, ← e) refl

  module _ {n : ℕ} (e : some n ≡ length_of part) where
    text_is : texts_behind (single (making h)) 1 part others ≡ with_texts (single (making h)) (n ∷ []) others
    unfolding texts_behind
    text_is = rw (lengths_last part, ← e) refl

    pub text_short : length others < n → none ≡ texts_behind (single (making h)) 1 part others
    unfolding added_up
    text_short l = sym (text_is ∙ texts_short (single (making h)) (n ∷ []) others (omega arith))

    pub text_whole : {text rest : List ℕ} → IsSplitAt others n text rest → some record { command = making h text; others = rest } ≡ texts_behind (single (making h)) 1 part others
    unfolding added_up texts_in single
    text_whole p =
        let z : added_up (n ∷ []) ≡ n = omega arith in
        sym (text_is ∙ texts_whole (single (making h)) (n ∷ []) others (omega arith) ∙ rw (z, p.1, p.2))

-- ---- `T,day`

module _ (part others : List ℕ) where
  pub turn_none : none ≡ six_digits part → none ≡ turn_behind part others
  unfolding turn_behind
  turn_none e = rw (← e) refl

  pub turn_day : {n : ℕ} → some n ≡ six_digits part → some record { command = turns n; others = others } ≡ turn_behind part others
  unfolding turn_behind
  turn_day e = rw (← e) refl

-- ---- `O,day,length,length`

no_comma : (l : List ℕ) → length l ≡ 0 → equal (take 1 l) (ascii ",") ≡ false
unfolding equal
no_comma [] h = refl
no_comma (x ∷ l) h = absurd (omega arith)

module _ (parts others : List ℕ) where
  pub open_short : length parts < 7 → none ≡ opening_behind parts others
  unfolding opening_behind
  open_short h = rw (no_comma (drop 6 parts) (omega (arith, length-drop 6 parts))) refl

  pub open_dayless : length parts < 6 → none ≡ opening_behind parts others
  open_dayless h = open_short (omega arith)

  module _ {day behind : List ℕ} (p : IsSplitAt parts 6 day behind) where
    pub open_other : pointwise nat_eq (take 1 behind) (44 ∷ []) ≡ false → none ≡ opening_behind parts others
    unfolding opening_behind
    open_other e = let z : equal (take 1 (drop 6 parts)) (ascii ",") ≡ false = sym (equal_is (take 1 (drop 6 parts)) (44 ∷ [])) ∙ rw (← p.2) e in rw z refl

    module _ {sizes : List ℕ} (e : Stripped (44 ∷ []) behind sizes) where
      line_is : opening_behind parts others ≡ then (six_digits day) (λ d. texts_behind (opening d) 2 sizes others)
      unfolding opening_behind
      line_is =
          let z : equal (take 1 (drop 6 parts)) (ascii ",") ≡ true = sym (equal_is (take 1 (drop 6 parts)) (44 ∷ [])) ∙ rw (← p.2) e.0 in
          let y : sizes ≡ drop 7 parts = e.1 ∙ rw p.2 (drop-drop 1 6 parts) in
          rw (z, y, p.1) refl

      pub open_no_day : none ≡ six_digits day → none ≡ opening_behind parts others
      open_no_day w = sym (line_is ∙ rw (← w) refl)

      module _ {d : ℕ} (w : some d ≡ six_digits day) where
        day_is : opening_behind parts others ≡ then (parted_lengths 2 sizes) (λ ns. with_texts (opening d) ns others)
        unfolding texts_behind
        day_is = line_is ∙ rw (← w) refl

        pub open_no_lengths : none ≡ parted_lengths 2 sizes → none ≡ opening_behind parts others
        open_no_lengths y = sym (day_is ∙ rw (← y) refl)

        module _ {i j : ℕ} (y : some (i ∷ j ∷ []) ≡ parted_lengths 2 sizes) where
          pub open_cut : length others < i + j → none ≡ opening_behind parts others
          unfolding added_up
          open_cut l = sym (day_is ∙ rw (← y) (texts_short (opening d) (i ∷ j ∷ []) others (omega arith)))

          pub open_cut_before : length others < i → none ≡ opening_behind parts others
          open_cut_before l = open_cut (omega arith)

          module _ {register rest : List ℕ} (r : IsSplitAt others i register rest) where
            pub open_cut_behind : length rest < j → none ≡ opening_behind parts others
            open_cut_behind l = open_cut (omega (arith, r.4))

            pub open_whole : {holidays last : List ℕ} → IsSplitAt rest j holidays last → some record { command = R.opens d register holidays; others = last } ≡ opening_behind parts others
            unfolding added_up texts_in opening
            open_whole s =
                let z : added_up (i ∷ j ∷ []) ≡ i + j = omega arith in
                sym (day_is ∙ rw (← y) (texts_whole (opening d) (i ∷ j ∷ []) others (omega (arith, r.4, s.0)) ∙ rw (z, s.1, s.2, r.2, r.1, drop-drop j i others)))

-- ---- by its letter

module _ (line others : List ℕ) where
  pub by_text : {h : Handed} → Some h ≡ letter_in line → {x : M.Option Commanded} → x ≡ texts_behind (single (making h)) 1 (drop 2 line) others → x ≡ command_of line others
  by_text {h} d e = e ∙ sym (ap (λ (l : List ℕ). command_of l others) (text_letter line h (sym d)) ∙ text_read h (drop 2 line) others)

  -- of no text's command
  module _ (d : None ≡ letter_in line) where
    pub by_turn : {x : M.Option Commanded} {day : List ℕ} → Stripped (84 ∷ 44 ∷ []) line day → x ≡ turn_behind day others → x ≡ command_of line others
    unfolding command_of turn_behind
    by_turn f e =
        let t : equal (take 2 line) (ascii "T,") ≡ true = sym (equal_is (take 2 line) (84 ∷ 44 ∷ [])) ∙ f.0 in
        e ∙ sym (other_read line (other_letter line (sym d)) _ _ _ _ ∙ rw (t, f.1))

    module _ (f : pointwise nat_eq (take 2 line) (84 ∷ 44 ∷ []) ≡ false) where
      no_turn : equal (take 2 line) (ascii "T,") ≡ false
      no_turn = sym (equal_is (take 2 line) (84 ∷ 44 ∷ [])) ∙ f

      pub by_open : {x : M.Option Commanded} {parts : List ℕ} → Stripped (79 ∷ 44 ∷ []) line parts → x ≡ opening_behind parts others → x ≡ command_of line others
      unfolding command_of opening_behind
      by_open g e =
          let o : equal (take 2 line) (ascii "O,") ≡ true = sym (equal_is (take 2 line) (79 ∷ 44 ∷ [])) ∙ g.0 in
          e ∙ sym (other_read line (other_letter line (sym d)) _ _ _ _ ∙ rw (no_turn, o, g.1, drop-drop 6 2 line, drop-drop 7 2 line))

      pub by_none : pointwise nat_eq (take 2 line) (79 ∷ 44 ∷ []) ≡ false → none ≡ command_of line others
      unfolding command_of
      by_none k =
          let o : equal (take 2 line) (ascii "O,") ≡ false = sym (equal_is (take 2 line) (79 ∷ 44 ∷ [])) ∙ k in
          sym (other_read line (other_letter line (sym d)) _ _ _ _ ∙ rw (no_turn, o))

-- ---- by its line

-- wherever it begins
module _ (s : List ℕ) (at : ℕ) (l : Option ℕ) (h : LineAt s at l) where
  pub line_room : (e : ℕ) → l ≡ Some e → e + 2 ≤ length s
  line_room e k = (line_told s at l h e k).room

  pub command_line : (e : ℕ) → l ≡ Some e → {x : M.Option Commanded} → x ≡ command_of (cut s at e) (from s (e + 2)) → x ≡ command (from s at)
  unfolding command
  command_line e k c = rw (line_told s at l h e k).same c

  pub command_none : l ≡ None → none ≡ command (from s at)
  unfolding command
  command_none k = rw (no_line_told s at l h k).same refl

-- that of an input
module _ (s : List ℕ) (l : Option ℕ) (h : LineAt s 0 l) where
  pub input_line : (e : ℕ) → l ≡ Some e → {x : M.Option Commanded} → x ≡ command_of (take e s) (drop (e + 2) s) → x ≡ command s
  unfolding cut from
  input_line e k c = rw from_all at (command_line s 0 l h e k c)

  pub input_none : l ≡ None → none ≡ command s
  input_none k = rw from_all at (command_none s 0 l h k)

pub ruleset by_kind = (letter_room, by_text, by_turn, by_open, by_none, rest_whole)

pub ruleset commanding = (text_none, text_whole, turn_none, turn_day, six_small, open_dayless, open_other, open_no_day, open_no_lengths, open_cut_before, input_line, input_none, rest_whole)
