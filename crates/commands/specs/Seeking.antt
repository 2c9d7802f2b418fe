-- The places of a window where lengths begin, from one to the next: two zeros stand at one of them, or the window has no idle zeros.
use Rattle.std.specs.Prelude.{◌≡◌, Bool, false, ◌&&◌, not, eqb, get_or, drop, Option, Some, None, IfSome, is_some}
use Rattle.std.specs.List.{prefix_len}
use Rattle.std.proofs.Math.Path.{refl, sym, ap, subst}
use Rattle.std.proofs.Common.{◌∙◌, arith, length-take, take-append-drop, length-take-le, drop_at, eqb-true}
use Rattle.std.proofs.Math.Bool.{true}
use mathlib.Core.List.{List, [], ◌∷◌, ◌++◌, append_assoc, append-nil, nil≢cons}
use Prim.Native.Nat.{ℕ, ◌+◌, ◌-◌, ◌≤◌, ◌<◌, min}
use Rattle.std.proofs.Math.ListN.{length, take, length-append}
use Rattle.std.proofs.Math.Seq.{take_at}
use Rattle.std.proofs.lemmas.Bool.{not-true}
use Rattle.rules.specs.Text.{ascii, is_digit, every, fits, fits_sign}
use Rattle.laws.specs.Parts.{cut, from, from_take, from_cut, from_step, cut_join, cut_length, cut_size}
use Rattle.laws.specs.Places.{Passed}
use Rattle.laws.specs.Front.{front_passed_at}
use Rattle.laws.specs.Slices.{rest_whole}
use Rattle.laws.specs.Tests.{and_left, and_right, cond_left, cond_right, never}
use Rattle.laws.specs.Equal.{equal_same}
use Rattle.laws.specs.Every.{every_append}
use Rattle.laws.specs.Reading.{fits_length, fits_front, fits_behind}
use Rattle.commands.specs.declared.letter.Handed.{Handed}
use Rattle.commands.specs.declared.letter.Handed.TheVariants.{Message, Newer, Older}
use Rattle.commands.specs.Letters.{letter_of, begins_with, letter_in, text_letter, other_letter}
use Rattle.commands.specs.Leads.{Starts, Starts.handing, Starts.opening, day_comma, Earlier, Earlier.nothing, Earlier.lengths, Leads, leads_on, NoIdleIn, NoIdle}

-- ---- patterns

-- a sign that stands for itself
unfoldable itself : ℕ → Bool
itself p = not (eqb p 110) && (not (eqb p 97) && not (eqb p 99))

fits_itself : (ps cs : List ℕ) → every itself ps ≡ true → fits ps cs ≡ true → cs ≡ ps
unfolding every fits fits_sign itself
fits_itself [] [] s h = refl
fits_itself [] (c ∷ cs) s h = never h
fits_itself (p ∷ ps) [] s h = never h
fits_itself (p ∷ ps) (c ∷ cs) s h =
    let t : (not (eqb p 110) && (not (eqb p 97) && not (eqb p 99))) ≡ true = cond_left _ _ s in
    let u : (not (eqb p 97) && not (eqb p 99)) ≡ true = and_right (not (eqb p 110)) _ t in
    let k : fits_sign p c ≡ eqb p c = rw (not-true (eqb p 110) (and_left _ _ t), not-true (eqb p 97) (and_left _ _ u), not-true (eqb p 99) (and_right (not (eqb p 97)) _ u)) in
    let e : p ≡ c = eqb-true p c (sym k ∙ cond_left _ _ h) in
    rw e (ap (λ (x : List ℕ). c ∷ x) (fits_itself ps cs (cond_right (itself p) _ s) (cond_right (fits_sign p c) _ h)))

-- one pattern behind the other
fits_join : (ps cs qs ds : List ℕ) → fits ps cs ≡ true → fits (ps ++ qs) (cs ++ ds) ≡ fits qs ds
unfolding fits
fits_join [] [] qs ds h = refl
fits_join [] (c ∷ cs) qs ds h = never h
fits_join (p ∷ ps) [] qs ds h = never h
fits_join (p ∷ ps) (c ∷ cs) qs ds h = rw (cond_left (fits_sign p c) _ h) (fits_join ps cs qs ds (cond_right (fits_sign p c) _ h))

-- ---- the places where lengths begin

-- a length begins at p, and what stands there tells whether the window has idle zeros; its end is no such place
pub record Seeking (w : List ℕ) (p : ℕ) : Type 0 where
  pub within : p ≤ length w
  pub leads : p < length w → Leads (take p w)
  pub rest : NoIdleIn (from w p) → NoIdle w

-- a line has one start
not_opening : (h : Handed) → letter_of h ≡ 79 → ⊥
not_opening Message e = omega arith
not_opening Newer e = omega arith
not_opening Older e = omega arith

starts_one : {q r : List ℕ} (x y : List ℕ) → Starts q → Starts r → q ++ x ≡ r ++ y → x ≡ y
starts_one x y (handing g) (handing h) e = ap (drop 2) e
starts_one x y (handing g) (opening d h) e = absurd (not_opening g cc)
starts_one x y (opening d h) (handing g) e = absurd (not_opening g cc)
starts_one x y (opening c h) (opening d k) e =
    sym (drop_at (c ++ 44 ∷ []) x 7 (day_comma c h)) ∙ ap (drop 9) e ∙ drop_at (d ++ 44 ∷ []) y 7 (day_comma d k)

seek_start : (w q : List ℕ) (n : ℕ) → Starts q → length q ≡ n → take n w ≡ q → Seeking w n
unfolding from
seek_start w q n s k e =
    let m : min n (length w) ≡ n = sym (length-take n w) ∙ ap length e ∙ k in record {
      within = omega arith;
      leads = λ _. record { start = q; between = []; starts = s; earlier = nothing; is = e ∙ sym (append-nil q) };
      rest = λ h. record { none = λ r u t f. subst NoIdleIn (starts_one (drop n w) u s t (ap (λ (x : List ℕ). x ++ drop n w) (sym e) ∙ take-append-drop n w ∙ f)) h };
    }

opening_of : (x : List ℕ) → fits (ascii "O,nnnnnn,") x ≡ true → Starts x
unfolding every itself
opening_of x h =
    let a : fits (ascii "nnnnnn,") (drop 2 x) ≡ true = fits_behind (ascii "O,") (ascii "nnnnnn,") x h in
    let b : fits (ascii "nnnnnn") (take 6 (drop 2 x)) ≡ true = fits_front (ascii "nnnnnn") (ascii ",") (drop 2 x) a in
    let d : List ℕ = take 6 (drop 2 x) in
    let y : drop 2 x ≡ d ++ 44 ∷ [] = sym (take-append-drop 6 (drop 2 x)) ∙ ap (λ (z : List ℕ). d ++ z) (fits_itself (ascii ",") _ refl (fits_behind (ascii "nnnnnn") (ascii ",") (drop 2 x) a)) in
    let z : x ≡ 79 ∷ 44 ∷ (d ++ 44 ∷ []) = sym (take-append-drop 2 x) ∙ ap (λ (q : List ℕ). q ++ drop 2 x) (fits_itself (ascii "O,") _ refl (fits_front (ascii "O,") (ascii "nnnnnn,") x h)) ∙ ap (λ (q : List ℕ). 79 ∷ 44 ∷ q) y in
    subst Starts (sym z) (opening d b)

-- a length begins at a place, or none does
abbrev SeekingTold : List ℕ → Option ℕ → Type 0
SeekingTold w (Some p) = Seeking w p
SeekingTold w None = NoIdle w

pub record SeekingAt (w : List ℕ) (place : Option ℕ) : Type 0 where
  pub told : SeekingTold w place

-- the first, by the tests of the code
module _ (w : List ℕ) where
  pub first_text : (o : Option Handed) → o ≡ letter_in w → is_some o ≡ true → SeekingAt w (Some 2)
  first_text (Some h) u e = record { told = seek_start w (letter_of h ∷ 44 ∷ []) 2 (handing h) refl (ap (take 2) (text_letter w h (sym u))) }
  first_text None u e = never e

  module _ (t : Bool) (v : t ≡ fits (ascii "O,nnnnnn,") (take 9 w)) where
    pub first_opening : t ≡ true → SeekingAt w (Some 9)
    first_opening h =
        let k : fits (ascii "O,nnnnnn,") (take 9 w) ≡ true = sym v ∙ h in
        record { told = seek_start w (take 9 w) 9 (opening_of (take 9 w) k) (sym (fits_length (ascii "O,nnnnnn,") (take 9 w) k)) refl }

    pub first_none : (o : Option Handed) → o ≡ letter_in w → is_some o ≡ false → t ≡ false → SeekingAt w None
    unfolding fits fits_sign
    first_none (Some h) u f h' = never (sym f)
    first_none None u f h = record { told = record { none = λ q x s e. absurd (no q x s e) } }
      where
        no : (q x : List ℕ) → Starts q → w ≡ q ++ x → ⊥
        no q x (handing g) e = never (sym (other_letter w (sym u) g) ∙ ap (begins_with (letter_of g)) e ∙ equal_same (letter_of g ∷ 44 ∷ []))
        no q x (opening d k) e =
            never (sym h ∙ v ∙ ap (λ (y : List ℕ). fits (ascii "O,nnnnnn,") (take 9 y)) e ∙ ap (fits (ascii "nnnnnn,")) (take_at (d ++ 44 ∷ []) x 7 (day_comma d k)) ∙ fits_join (ascii "nnnnnn") d (ascii ",") (44 ∷ []) k)

-- the place behind p
pub record NextLength (w : List ℕ) (p : ℕ) (r : Option ℕ) : Type 0 where
  pub further : IfSome r (λ q. p < q)
  pub goes : Seeking w p → fits (ascii "00") (cut w p (p + 2)) ≡ false → SeekingAt w r

-- the byte behind some digits is one
digits_one : (ds es : List ℕ) (c d : ℕ) (x y : List ℕ) → every is_digit ds ≡ true → every is_digit es ≡ true → is_digit c ≡ false → is_digit d ≡ false → ds ++ c ∷ x ≡ es ++ d ∷ y → (c ≡ d) × (x ≡ y)
unfolding every
digits_one [] [] c d x y h k m n e = (cc, cc)
digits_one [] (b ∷ es) c d x y h k m n e = let z : c ≡ b = cc in never (sym m ∙ ap is_digit z ∙ cond_left (is_digit b) _ k)
digits_one (a ∷ ds) [] c d x y h k m n e = let z : a ≡ d = cc in never (sym n ∙ ap is_digit (sym z) ∙ cond_left (is_digit a) _ h)
digits_one (a ∷ ds) (b ∷ es) c d x y h k m n e = digits_one ds es c d x y (cond_right (is_digit a) _ h) (cond_right (is_digit b) _ k) m n (cc)

-- one length without two zeros, and those behind its comma
no_idle : (u : List ℕ) → fits (ascii "00") (take 2 u) ≡ false → ((es y : List ℕ) → every is_digit es ≡ true → u ≡ es ++ 44 ∷ y → NoIdleIn y) → NoIdleIn u
unfolding fits fits_sign
no_idle u z f = record { none = go }
  where
    go : (ps v : List ℕ) → Earlier ps → u ≡ ps ++ (48 ∷ 48 ∷ v) → ⊥
    go ps v nothing e = never (sym z ∙ ap (λ (x : List ℕ). fits (ascii "00") (take 2 x)) e)
    go ps v (lengths es {ps = qs} h l) e = (f es (qs ++ (48 ∷ 48 ∷ v)) h (e ∙ append_assoc es (44 ∷ qs) (48 ∷ 48 ∷ v))).none qs v l refl

-- d digits stand at p
module _ (w : List ℕ) (p d : ℕ) (b : p ≤ length w) (v : d ≡ prefix_len is_digit (take (length w - p) (drop p w))) where
  q : Passed is_digit w p (length w - p) d
  q = let e : p + (length w - p) ≡ length w = omega arith in front_passed_at is_digit w p (length w - p) d (omega arith) (rw e v)

  zeros_none : fits (ascii "00") (cut w p (p + 2)) ≡ false → fits (ascii "00") (take 2 (from w p)) ≡ false
  zeros_none z = ap (fits (ascii "00")) (from_take w p 2) ∙ z

  pub next_end : length w ≤ p + d → NextLength w p None
  unfolding every is_digit
  next_end e = record {
    further = tt;
    goes = λ s z. record {
      told = s.rest (no_idle (from w p) (zeros_none z) (λ es y h f.
          let g : every is_digit (es ++ 44 ∷ y) ≡ true = ap (every is_digit) (sym f ∙ sym (from_cut w p (p + d) e)) ∙ q.front in
          never (cond_right (every is_digit es) _ (sym (every_append is_digit es (44 ∷ y)) ∙ g))));
    };
  }

  module _ (inside : p + d < length w) where
    apart : from w p ≡ cut w p (p + d) ++ get_or w (p + d) 0 ∷ from w (p + d + 1)
    apart = sym (from_cut w p (length w) (omega arith)) ∙ sym (cut_join w p d (length w) (omega arith)) ∙ ap (λ (x : List ℕ). cut w p (p + d) ++ x) (from_cut w (p + d) (length w) (omega arith) ∙ from_step w (p + d) inside)

    split_at : (es y : List ℕ) → every is_digit es ≡ true → from w p ≡ es ++ 44 ∷ y → (get_or w (p + d) 0 ≡ 44) × (from w (p + d + 1) ≡ y)
    unfolding is_digit
    split_at es y h e = digits_one (cut w p (p + d)) es (get_or w (p + d) 0) 44 (from w (p + d + 1)) y q.front h (q.next (omega arith)) refl (sym apart ∙ e)

    pub next_none : (get_or w (p + d) 0 ≡ 44 → ⊥) → NextLength w p None
    next_none c = record {
      further = tt;
      goes = λ s z. record { told = s.rest (no_idle (from w p) (zeros_none z) (λ es y h f. absurd (c (split_at es y h f).0))) };
    }

    pub next_comma : get_or w (p + d) 0 ≡ 44 → NextLength w p (Some (p + d + 1))
    unfolding from
    next_comma c = record {
      further = omega arith;
      goes = λ s z. record {
        told = record {
          within = omega arith;
          leads = λ (l : p + d + 1 < length w).
              let ds : List ℕ = cut w p (p + d) in
              let x : List ℕ = take p w ++ (ds ++ 44 ∷ []) in
              let m : length x ≡ p + d + 1 =
              length-append (take p w) (ds ++ 44 ∷ []) ∙ rw (length-take-le p w b, length-append, cut_length w p (p + d) (omega arith)) (omega arith) in
              let a : from w p ≡ ds ++ 44 ∷ from w (p + d + 1) = apart ∙ rw c in
              let f : w ≡ x ++ from w (p + d + 1) = sym (take-append-drop p w) ∙ ap (λ (y : List ℕ). take p w ++ y) a ∙ simp append_assoc in
              let g : take (p + d + 1) w ≡ x = ap (take (p + d + 1)) f ∙ take_at x (from w (p + d + 1)) (p + d + 1) m in
              rw g (leads_on ds q.front (s.leads (omega arith)));
          rest = λ i. s.rest (no_idle (from w p) (zeros_none z) (λ es y h f. subst NoIdleIn (split_at es y h f).1 i));
        };
      };
    }

-- two zeros stand at p behind what leads to a length
pub record IdleHere (w : List ℕ) (p : ℕ) : Type 0 where
  pub leads : Leads (take p w)
  pub two : cut w p (p + 2) ≡ 48 ∷ 48 ∷ []

-- they stand at a place, or nowhere
abbrev pub IdleTold : List ℕ → Option ℕ → Type 0
IdleTold w (Some p) = IdleHere w p
IdleTold w None = NoIdle w

pub record IdleAt (w : List ℕ) (place : Option ℕ) : Type 0 where
  pub told : IdleTold w place

module _ (w : List ℕ) (place : Option ℕ) (s : SeekingAt w place) where
  pub idle_none : place ≡ None → IdleAt w None
  idle_none e = record { told = subst (SeekingTold w) e s.told }

  module _ (p : ℕ) (e : place ≡ Some p) where
    seeking_here : Seeking w p
    seeking_here = subst (SeekingTold w) e s.told

    pub seek_within : p ≤ length w
    seek_within = seeking_here.within

    module _ (t : Bool) (v : t ≡ fits (ascii "00") (take 2 (take (length w - p) (drop p w)))) where
      u : t ≡ fits (ascii "00") (cut w p (p + 2))
      unfolding from
      u = rw (rest_whole w p, from_take w p 2) at v

      pub idle_found : t ≡ true → IdleAt w (Some p)
      unfolding every itself
      idle_found h =
          let z : cut w p (p + 2) ≡ 48 ∷ 48 ∷ [] = fits_itself (ascii "00") (cut w p (p + 2)) refl (sym u ∙ h) in
          let n : min (p + 2) (length w) - p ≡ 2 = sym (cut_size w p (p + 2)) ∙ ap length z in
          record { told = record { leads = seeking_here.leads (omega arith); two = z } }

      pub seek_on : t ≡ false → {r : Option ℕ} → NextLength w p r → SeekingAt w r
      seek_on h n = n.goes seeking_here (sym u ∙ h)

-- what is left behind a place
abbrev pub behind : List ℕ → Option ℕ → ℕ
behind w (Some p) = length w + 1 - p
behind w None = 0

pub seek_smaller : (w : List ℕ) (p : ℕ) {r : Option ℕ} → p ≤ length w → NextLength w p r → behind w r < length w + 1 - p
seek_smaller w p {r} l n = go r n.further
  where
    go : (r : Option ℕ) → IfSome r (λ q. p < q) → behind w r < length w + 1 - p
    go None f = omega arith
    go (Some q) f = omega arith

pub ruleset seeking = (first_text, first_opening, first_none, next_end, next_none, next_comma, idle_none, seek_within, idle_found, seek_on, seek_smaller)
