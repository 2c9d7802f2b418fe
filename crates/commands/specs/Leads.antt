-- What stands before a length of a command line, and each line told by it: no command's, a turn's, or a start with lengths behind it.
use Rattle.std.specs.Prelude.{◌≡◌, Bool, ◌&&◌, Option, Some, None}
use Rattle.std.proofs.Math.Path.{refl, sym, ap}
use Rattle.std.proofs.Common.{◌∙◌, arith, length-append, take-append-drop, take_at, drop_at}
use Rattle.std.proofs.Math.Bool.{true, false}
use mathlib.Core.List.{List, [], ◌∷◌, ◌++◌, append_assoc}
use Rattle.std.proofs.Math.Option.{none, some}
use Prim.Native.Nat.{ℕ, ◌+◌, ◌*◌, ◌≤◌}
use Rattle.std.proofs.Math.ListN.{length, take, drop}
use Rattle.std.proofs.Math.Seq.{drop-drop}
use Rattle.rules.specs.Text.{ascii, is_digit, is_alnum, digits, every, equal, fits}
use Rattle.rules.specs.Replay.{turns, six_digits, texts_behind, single, command_of}
use Rattle.laws.specs.Tests.{and_left, and_right}
use Rattle.laws.specs.Equal.{equal_true}
use Rattle.laws.specs.Every.{every_join, every_wider}
use Rattle.laws.specs.Reading.{fits_length}
use Rattle.rule_laws.specs.Signs.{is_sign, digit_alnum, fits_alnum}
use Rattle.rule_laws.specs.Lines.{in_line, plain_alnum}
use Rattle.rule_laws.specs.Options.{There}
use Rattle.commands.specs.declared.letter.Handed.{Handed}
use Rattle.commands.specs.declared.letter.Handed.TheVariants.{Message, Newer, Older}
use Rattle.commands.specs.Answers.{making}
use Rattle.commands.specs.Letters.{letter_of, begins_with, begun_with, letter_in, text_letter, other_letter, text_read, other_read}
use Rattle.commands.specs.Numbers.{digits_there}

-- ---- before a length

-- before the first: the letter of one text and a comma, or `O,`, a day and a comma
pub data Starts : List ℕ → Type 0 where
  handing : (h : Handed) → Starts (letter_of h ∷ 44 ∷ [])
  opening : (d : List ℕ) → fits (ascii "nnnnnn") d ≡ true → Starts (79 ∷ 44 ∷ (d ++ 44 ∷ []))

pub day_comma : (d : List ℕ) → fits (ascii "nnnnnn") d ≡ true → length (d ++ 44 ∷ []) ≡ 7
day_comma d h = length-append d (44 ∷ []) ∙ rw (← fits_length (ascii "nnnnnn") d h)

-- from there on: earlier lengths, each with its comma
pub data Earlier : List ℕ → Type 0 where
  nothing : Earlier []
  lengths : (ds : List ℕ) {ps : List ℕ} → every is_digit ds ≡ true → Earlier ps → Earlier (ds ++ 44 ∷ ps)

-- so a length begins behind q
pub record Leads (q : List ℕ) : Type 0 where
  pub start : List ℕ
  pub between : List ℕ
  pub starts : Starts start
  pub earlier : Earlier between
  pub is : q ≡ start ++ between

earlier_on : (es : List ℕ) {ps : List ℕ} → every is_digit es ≡ true → Earlier ps → Earlier (ps ++ (es ++ 44 ∷ []))
earlier_on es h nothing = lengths es h nothing
earlier_on es h (lengths ds {ps} k e) = rw (append_assoc ds (44 ∷ ps) (es ++ 44 ∷ [])) (lengths ds k (earlier_on es h e))

pub leads_on : {q : List ℕ} (es : List ℕ) → every is_digit es ≡ true → Leads q → Leads (q ++ (es ++ 44 ∷ []))
leads_on {q} es h l = record {
  start = l.start;
  between = l.between ++ (es ++ 44 ∷ []);
  starts = l.starts;
  earlier = earlier_on es h l.earlier;
  is = ap (λ (x : List ℕ). x ++ (es ++ 44 ∷ [])) l.is ∙ append_assoc l.start l.between (es ++ 44 ∷ []);
}

-- no CR or LF stands there
starts_plain : {q : List ℕ} → Starts q → every in_line q ≡ true
unfolding every in_line is_sign
starts_plain (handing Message) = refl
starts_plain (handing Newer) = refl
starts_plain (handing Older) = refl
starts_plain (opening d h) = every_join in_line d (44 ∷ []) (plain_alnum d (fits_alnum (ascii "nnnnnn") d refl h)) refl

earlier_plain : {ps : List ℕ} → Earlier ps → every in_line ps ≡ true
unfolding every in_line
earlier_plain nothing = refl
earlier_plain (lengths ds {ps} h e) = every_join in_line ds (44 ∷ ps) (plain_alnum ds (every_wider is_digit is_alnum digit_alnum ds h)) (earlier_plain e)

pub leads_plain : {q : List ℕ} → Leads q → every in_line q ≡ true
leads_plain l = ap (every in_line) l.is ∙ every_join in_line l.start l.between (starts_plain l.starts) (earlier_plain l.earlier)

-- ---- a line by its start

-- a line that begins so has lengths behind: with five digits each it has at most 20 bytes, and their texts have at most 16,384
pub record Bears (q : List ℕ) : Type 0 where
  pub made : List (List ℕ) → Rattle.rules.specs.Replay.Command
  pub many : ℕ
  pub line : (u cs : List ℕ) → command_of (q ++ u) cs ≡ texts_behind made many u cs
  pub line_room : length q + 6 * many ≤ 21
  pub text_room : 8192 * many ≤ 16384

pub starts_bears : {q : List ℕ} → Starts q → Bears q
unfolding command_of equal six_digits
starts_bears (handing h) = record { made = single (making h); many = 1; line = text_read h; line_room = omega arith; text_room = omega arith }
starts_bears (opening d h) =
    let t : There (digits d) = digits_there 6 0 d h in
    let k : length d ≡ 6 = sym (fits_length (ascii "nnnnnn") d h) in record {
      made = Rattle.rules.specs.Replay.opening t.value;
      many = 2;
      line = λ u cs.
          let a : (d ++ 44 ∷ []) ++ u ≡ d ++ 44 ∷ u = append_assoc d (44 ∷ []) u in
          let x : drop 7 ((d ++ 44 ∷ []) ++ u) ≡ u = drop_at (d ++ 44 ∷ []) u 7 (day_comma d h) in
          let y : take 6 ((d ++ 44 ∷ []) ++ u) ≡ d = ap (take 6) a ∙ take_at d (44 ∷ u) 6 k in
          let z : drop 6 ((d ++ 44 ∷ []) ++ u) ≡ 44 ∷ u = ap (drop 6) a ∙ drop_at d (44 ∷ u) 6 k in
          rw (x, y, z, h, t.is);
      line_room = omega (arith, day_comma d h);
      text_room = omega arith;
    }

pub data ReadAs (l : List ℕ) : Type 0 where
  none_read : ((cs : List ℕ) → command_of l cs ≡ none) → ReadAs l
  turn_read : (d : ℕ) → length l ≡ 8 → ((cs : List ℕ) → command_of l cs ≡ some record { command = turns d; others = cs }) → ReadAs l
  texts_read : (q u : List ℕ) → Starts q → l ≡ q ++ u → ReadAs l

-- of no text's command
module _ (l : List ℕ) (n : (h : Handed) → begins_with (letter_of h) l ≡ false) where
  turned : begins_with 84 l ≡ true → (b : Bool) → fits (ascii "nnnnnn") (drop 2 l) ≡ b → ReadAs l
  unfolding command_of six_digits
  turned f false g = none_read (λ cs. other_read l n _ _ _ _ ∙ rw (f, g))
  turned f true g =
      let t : There (digits (drop 2 l)) = digits_there 6 0 (drop 2 l) g in
      turn_read t.value (ap length (begun_with 84 l f) ∙ omega (arith, fits_length (ascii "nnnnnn") (drop 2 l) g)) (λ cs. other_read l n _ _ _ _ ∙ rw (f, g, t.is))

  opened : begins_with 84 l ≡ false → (begins_with 79 l && equal (take 1 (drop 8 l)) (ascii ",")) ≡ true → (b : Bool) → fits (ascii "nnnnnn") (take 6 (drop 2 l)) ≡ b → ReadAs l
  unfolding command_of six_digits
  opened f o false g = none_read (λ cs. other_read l n _ _ _ _ ∙ rw (f, o, g))
  opened f o true g =
      let d : List ℕ = take 6 (drop 2 l) in
      let x : drop 8 l ≡ 44 ∷ drop 9 l = sym (take-append-drop 1 (drop 8 l)) ∙ rw (equal_true _ _ (and_right (begins_with 79 l) _ o), drop-drop 1 8 l) in
      let y : drop 2 l ≡ d ++ 44 ∷ drop 9 l = sym (take-append-drop 6 (drop 2 l)) ∙ ap (λ (z : List ℕ). d ++ z) (drop-drop 6 2 l ∙ x) in
      texts_read _ (drop 9 l) (opening d g) (begun_with 79 l (and_left _ _ o) ∙ ap (λ (z : List ℕ). 79 ∷ 44 ∷ z) (y ∙ sym (append_assoc d (44 ∷ []) (drop 9 l))))

  other : (b : Bool) → begins_with 84 l ≡ b → (c : Bool) → (begins_with 79 l && equal (take 1 (drop 8 l)) (ascii ",")) ≡ c → ReadAs l
  unfolding command_of
  other true f c o = turned f (fits (ascii "nnnnnn") (drop 2 l)) refl
  other false f true o = opened f o (fits (ascii "nnnnnn") (take 6 (drop 2 l))) refl
  other false f false o = none_read (λ cs. other_read l n _ _ _ _ ∙ rw (f, o))

pub read_as : (l : List ℕ) → ReadAs l
read_as l = go (letter_in l) refl
  where
    go : (r : Option Handed) → letter_in l ≡ r → ReadAs l
    go (Some h) e = texts_read _ (drop 2 l) (handing h) (text_letter l h e)
    go None e = other l (other_letter l e) (begins_with 84 l) refl (begins_with 79 l && equal (take 1 (drop 8 l)) (ascii ",")) refl

-- ---- idle zeros

-- of the lengths that u begins with none begins with two zeros
pub record NoIdleIn (u : List ℕ) : Type 0 where
  pub none : (ps v : List ℕ) → Earlier ps → u ≡ ps ++ (48 ∷ 48 ∷ v) → ⊥

-- of those on the line that w begins with none does
pub record NoIdle (w : List ℕ) : Type 0 where
  pub none : (q u : List ℕ) → Starts q → w ≡ q ++ u → NoIdleIn u
