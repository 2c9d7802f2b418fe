-- Laws of days and lengths in command lines: a length is parted from the next by the first comma.
use Rattle.std.specs.Prelude.{◌≡◌, Bool, ◌&&◌, ◌==◌, not, ℕ, zero, suc, ◌+◌, ◌-◌, ◌*◌, ◌≤◌, ◌<◌, Option, Some, None, leb, eqb, length, get_or, take, drop, replicate, position}
use Rattle.std.specs.List.{position_or_len}
use Rattle.std.proofs.Math.Path.{refl, sym, ap}
use Rattle.std.proofs.Common.{◌∙◌, Fits, take-append-drop, ltb-true, ltb-false, zero-add, lt_of_le_of_lt, lit<}
use Rattle.std.proofs.Math.Bool.{true, false, cond}
use mathlib.Core.List.{List, [], ◌∷◌, ◌++◌}
use Rattle.std.proofs.Math.Option as M
use Rattle.std.proofs.Math.Option.{none, some, map}
use native.Mathlib.Omega.{arith}
use Rattle.std.proofs.Math.Dec.{eqb-suc-suc, ltb}
use Rattle.std.proofs.lemmas.List.{drop_more}
use borrow.Author.Tests.{le-leb, lt-leb, leb-true, eqb-true, ne_eqb, not-false}
use borrow.Author.Rules.{Fits-under}
use mir.Syntax.{w32, w64}
use Rattle.rules.specs.Text.{ascii, is_digit, digits_from, digits, every, fits, fits_sign, then, given, read_each, added_up}
use Rattle.rules.specs.Lines.{parted}
use Rattle.rules.specs.Replay.{length_of, parted_lengths, six_digits}
use Rattle.laws.specs.Parts.{cut, cut_all, from, from_all, from_step, from_done}
use Rattle.laws.specs.Front.{front_passed_all}
use Rattle.laws.specs.Places.{Passed}
use Rattle.laws.specs.Reading.{digit_low, fits_length, power}
use Rattle.laws.specs.Numbers.{digits_small}
use Rattle.laws.specs.Values.{digits_each}
use Rattle.laws.specs.Patterns.{digit_sign, fits_last}
use Rattle.laws.specs.Tests.{holds_told, none_some, never, cond_left, cond_right}
use Rattle.rule_laws.specs.Commas.{in_part, parted_last, parted_next, AtCommas, AtCommas.alone, AtCommas.comma, at_commas, PartsRead, PartsRead.one, PartsRead.next, parts_read}
use Rattle.rule_laws.specs.Options.{There, Came, came, Gave, gave}
use Rattle.commands.specs.declared.room.Room.{Room}
use Rattle.laws.specs.Slices.{rest_whole}

-- the number v and the digits behind it, where it is at most 8192
unfoldable pub limited : ℕ → List ℕ → M.Option ℕ
limited v cs = then (digits_from v cs) (λ n. given (leb n 8192) n)

-- a larger number stays too large
pub limited_large : (v : ℕ) (cs : List ℕ) → 8192 < v → none ≡ limited v cs
unfolding limited digits_from
limited_large v [] h = rw (lt-leb _ _ h) refl
limited_large v (c ∷ cs) h = go (is_digit c) (limited_large (v * 10 + (c - 48)) cs (omega arith))
  where
    go : (t : Bool) → none ≡ limited (v * 10 + (c - 48)) cs → none ≡ then (cond t (digits_from (v * 10 + (c - 48)) cs) none) (λ n. given (leb n 8192) n)
    go true e = e
    go false e = refl

module _ (part : List ℕ) where
  pub length_empty : length part ≡ 0 → none ≡ length_of part
  unfolding length_of
  length_empty h = go part h
    where
      go : (l : List ℕ) → length l ≡ 0 → none ≡ length_of l
      go [] h = refl
      go (c ∷ l) h = absurd (omega arith)

  pub length_starts : (length part ≡ 0 → ⊥) → limited 0 (from part 0) ≡ length_of part
  unfolding limited length_of
  length_starts n = rw from_all (go part n)
    where
      go : (l : List ℕ) → (length l ≡ 0 → ⊥) → limited 0 l ≡ length_of l
      go [] n = absurd (n refl)
      go (c ∷ l) n = refl

-- n is read, the part from k on is left, and x is what the whole is
module _ (part : List ℕ) (k n : ℕ) (x : M.Option ℕ) (inv : limited n (from part k) ≡ x) where
  pub length_large : 8192 < n → none ≡ x
  length_large h = limited_large n (from part k) h ∙ inv

  module _ (h : k < length part) where
    pub length_bad : is_digit (get_or part k 0) ≡ false → none ≡ x
    unfolding limited digits_from
    length_bad d = rw (from_step part k h, d) at inv

    module _ (d : is_digit (get_or part k 0) ≡ true) where
      pub length_more : limited (n * 10 + (get_or part k 0 - 48)) (from part (k + 1)) ≡ x
      unfolding limited digits_from
      length_more = rw (from_step part k h, d) at inv

      pub length_larger : 8192 < n * 10 + (get_or part k 0 - 48) → none ≡ x
      length_larger l = limited_large (n * 10 + (get_or part k 0 - 48)) (from part (k + 1)) l ∙ length_more

  pub length_end : length part ≤ k → n ≤ 8192 → some n ≡ x
  unfolding limited digits_from
  length_end h l = rw (from_done part k h, le-leb _ _ l) at inv

-- ---- lengths behind each other

-- two that are read, or none
abbrev pub lengths_in : Option (ℕ × ℕ) → M.Option (List ℕ)
lengths_in (Some (m, n)) = some (m ∷ n ∷ [])
lengths_in None = none

-- the first comma stands at k
record CommaAt (l : List ℕ) (k : ℕ) : Type 0 where
  within : k < length l
  front : every in_part (take k l) ≡ true
  apart : l ≡ take k l ++ 44 ∷ drop (k + 1) l

no_comma : (l : List ℕ) → position (λ c. c == 44) l ≡ None → every in_part l ≡ true
unfolding in_part
no_comma l e = go (ltb (position_or_len (λ c. c == 44) l) (length l)) refl e
  where
    f : Passed in_part l 0 (length l) (position_or_len (λ c. c == 44) l)
    f = front_passed_all in_part l (position_or_len (λ c. c == 44) l) refl

    go : (t : Bool) → ltb (position_or_len (λ c. c == 44) l) (length l) ≡ t → cond t (Some (position_or_len (λ c. c == 44) l)) None ≡ None → every in_part l ≡ true
    go true h k = absurd (cc)
    go false h k = let m : position_or_len (λ c. c == 44) l ≡ length l = omega (arith, ltb-false _ _ h, f.within) in rw (zero-add, m, cut_all) at f.front

first_comma : (l : List ℕ) (k : ℕ) → position (λ c. c == 44) l ≡ Some k → CommaAt l k
unfolding in_part cut
first_comma l k e = go (ltb (position_or_len (λ c. c == 44) l) (length l)) refl e
  where
    f : Passed in_part l 0 (length l) (position_or_len (λ c. c == 44) l)
    f = front_passed_all in_part l (position_or_len (λ c. c == 44) l) refl

    made : (k : ℕ) → position_or_len (λ c. c == 44) l ≡ k → k < length l → CommaAt l k
    made k u h =
        let n : not (eqb (get_or l k 0) 44) ≡ false = rw (zero-add, u) at (f.next (omega arith)) in
        let c : get_or l k 0 ≡ 44 = eqb-true _ _ (not-false _ n) in
        record {
          within = h;
          front = rw (zero-add, u) at f.front;
          apart = sym (take-append-drop k l) ∙ ap (λ (x : List ℕ). take k l ++ x) (drop_more l k 0 h ∙ rw c);
        }

    go : (t : Bool) → ltb (position_or_len (λ c. c == 44) l) (length l) ≡ t → cond t (Some (position_or_len (λ c. c == 44) l)) None ≡ Some k → CommaAt l k
    go true h z = let u : position_or_len (λ c. c == 44) l ≡ k = cc in made k u (rw u at (ltb-true _ _ h))
    go false h z = absurd (cc)

-- what has a comma is no length
comma_digits : (v : ℕ) (ds x : List ℕ) → digits_from v (ds ++ 44 ∷ x) ≡ none
unfolding digits_from is_digit
comma_digits v [] x = refl
comma_digits v (c ∷ ds) x = rw (comma_digits (v * 10 + (c - 48)) ds x) (go (is_digit c))
  where
    go : (t : Bool) → cond {A = M.Option ℕ} t none none ≡ none
    go true = refl
    go false = refl

comma_none : (ds x : List ℕ) → length_of (ds ++ 44 ∷ x) ≡ none
unfolding length_of
comma_none [] x = rw (comma_digits 0 [] x)
comma_none (c ∷ ds) x = rw (comma_digits 0 (c ∷ ds) x)

-- a text has one part at least
lengths_none : (l : List ℕ) → parted_lengths 0 l ≡ none
unfolding parted_lengths
lengths_none l = go (read_each length_of (parted l)) (parts_read length_of l)
  where
    some_part : {l vs : List ℕ} → PartsRead length_of l vs → given (eqb (length vs) 0) vs ≡ none
    some_part (one p h) = refl
    some_part (next p rest {vs = vs} h r) = rw (ne_eqb (suc (length vs)) 0 (λ z. omega arith))

    go : (o : M.Option (List ℕ)) → ((vs : List ℕ) → o ≡ some vs → PartsRead length_of l vs) → then o (λ ns. given (eqb (length ns) 0) ns) ≡ none
    go none f = refl
    go (some vs) f = some_part (f vs refl)

-- the first of some
lengths_next : (n : ℕ) (a rest : List ℕ) → every in_part a ≡ true → parted_lengths (suc n) (a ++ 44 ∷ rest) ≡ then (length_of a) (λ v. map (λ more. v ∷ more) (parted_lengths n rest))
unfolding parted_lengths read_each
lengths_next n a rest h = rw (parted_next a rest h) (go (length_of a) (read_each length_of (parted rest)))
  where
    counted : (v : ℕ) (ns : List ℕ) (t : Bool) → given t (v ∷ ns) ≡ map (λ more. v ∷ more) (given t ns)
    counted v ns true = refl
    counted v ns false = refl

    go : (x : M.Option ℕ) (o : M.Option (List ℕ)) → then (then x (λ v. map (λ more. v ∷ more) o)) (λ ns. given (eqb (length ns) (suc n)) ns) ≡ then x (λ v. map (λ more. v ∷ more) (then o (λ ns. given (eqb (length ns) n) ns)))
    go none o = refl
    go (some v) none = refl
    go (some v) (some ns) = rw (eqb-suc-suc (length ns) n) (counted v ns (eqb (length ns) n))

-- one alone
lengths_alone : (n : ℕ) (p : List ℕ) → every in_part p ≡ true → parted_lengths n p ≡ then (length_of p) (λ v. given (eqb 1 n) (v ∷ []))
unfolding parted_lengths read_each
lengths_alone n p h = rw (parted_last p h) (go (length_of p))
  where
    go : (x : M.Option ℕ) → then (then x (λ v. some (v ∷ []))) (λ ns. given (eqb (length ns) n) ns) ≡ then x (λ v. given (eqb 1 n) (v ∷ []))
    go none = refl
    go (some v) = refl

nothing_made : (x : M.Option ℕ) → then {B = List ℕ} x (λ v. none) ≡ none
nothing_made none = refl
nothing_made (some v) = refl

-- and the last
pub lengths_last : (l : List ℕ) → parted_lengths 1 l ≡ then (length_of l) (λ n. some (n ∷ []))
lengths_last l = go (at_commas l)
  where
    go : {l : List ℕ} → AtCommas l → parted_lengths 1 l ≡ then (length_of l) (λ n. some (n ∷ []))
    go (alone p h) = lengths_alone 1 p h
    go (comma p rest h _) = rw (lengths_next 0 p rest h, lengths_none rest, comma_none p rest) (nothing_made (length_of p))

-- by the first comma
module _ (part : List ℕ) where
  pub lengths_one : None ≡ position (λ c. c == 44) part → none ≡ parted_lengths 2 part
  lengths_one e = sym (lengths_alone 2 part (no_comma part (sym e)) ∙ nothing_made (length_of part))

  module _ {k : ℕ} (e : Some k ≡ position (λ c. c == 44) part) where
    parting : CommaAt part k
    parting = first_comma part k (sym e)

    lengths_are : parted_lengths 2 part ≡ then (length_of (take k part)) (λ n. map (λ more. n ∷ more) (then (length_of (drop (k + 1) part)) (λ m. some (m ∷ []))))
    lengths_are = ap (parted_lengths 2) parting.apart ∙ rw (lengths_next 1 (take k part) (drop (k + 1) part) parting.front, lengths_last (drop (k + 1) part))

    pub lengths_bad : none ≡ length_of (take k part) → none ≡ parted_lengths 2 part
    lengths_bad u = sym (lengths_are ∙ rw (← u))

    module _ {n : ℕ} (u : some n ≡ length_of (take k part)) where
      pub lengths_second_bad : none ≡ length_of (drop (k + 1) part) → none ≡ parted_lengths 2 part
      lengths_second_bad v = sym (lengths_are ∙ rw (← u, ← v))

      pub lengths_two : {m : ℕ} → some m ≡ length_of (drop (k + 1) part) → some (n ∷ m ∷ []) ≡ parted_lengths 2 part
      lengths_two v = sym (lengths_are ∙ rw (← u, ← v))

-- ---- digits

-- what fits a pattern of digits is a number
pub digits_there : (k v : ℕ) (cs : List ℕ) → fits (replicate k 110) cs ≡ true → There (digits_from v cs)
unfolding fits digits_from fits_sign
digits_there zero v [] h = record { value = v; is = refl }
digits_there zero v (c ∷ cs) h = never h
digits_there (suc k) v [] h = never h
digits_there (suc k) v (c ∷ cs) h =
    go (is_digit c) (cond_left (is_digit c) _ h) (digits_there k (v * 10 + (c - 48)) cs (cond_right (is_digit c) _ h))
  where
    go : (t : Bool) → t ≡ true → There (digits_from (v * 10 + (c - 48)) cs) → There (cond t (digits_from (v * 10 + (c - 48)) cs) none)
    go t e r = record { value = r.value; is = rw e r.is }

module _ (part : List ℕ) where
  pub six_other : (length part ≡ 6 → ⊥) → none ≡ six_digits part
  unfolding six_digits
  six_other n = go (fits (ascii "nnnnnn") part) refl
    where
      go : (t : Bool) → fits (ascii "nnnnnn") part ≡ t → none ≡ cond t (digits part) none
      go true e = absurd (n (sym (fits_length (ascii "nnnnnn") part e)))
      go false e = refl

  pub six_read : length part ≡ 6 → (o : M.Option ℕ) → o ≡ digits part → o ≡ six_digits part
  unfolding six_digits
  six_read n o e = e ∙ go (digits part) refl
    where
      go : (d : M.Option ℕ) → digits part ≡ d → d ≡ cond (fits (ascii "nnnnnn") part) d none
      go none z = pick (fits (ascii "nnnnnn") part)
        where
          pick : (t : Bool) → none ≡ cond {A = M.Option ℕ} t none none
          pick true = refl
          pick false = refl
      go (some v) z =
          let x : cut part 0 6 ≡ part = rw n at (cut_all part) in
          let f : fits (ascii "nnnnnn") (cut part 0 6) ≡ every is_digit (cut part 0 (0 + 6)) = fits_last 110 is_digit digit_sign part 6 0 6 refl (omega arith) in
          let y : fits (ascii "nnnnnn") part ≡ true = rw x at f ∙ digits_each part 0 v z in
          rw y refl

-- a number within a limit
given_within : (o : M.Option ℕ) (limit n : ℕ) → then o (λ m. given (leb m limit) m) ≡ some n → n ≤ limit
given_within none limit n e = none_some e
given_within (some m) limit n e = go (leb m limit) refl e
  where
    go : (t : Bool) → leb m limit ≡ t → given t m ≡ some n → n ≤ limit
    go true h k = let u : m ≡ n = cc in rw (← u) (leb-true m limit h)
    go false h k = none_some k

-- a length is at most 8,192
length_limit : (l : List ℕ) (n : ℕ) → length_of l ≡ some n → n ≤ 8192
unfolding length_of
length_limit [] n e = none_some e
length_limit (c ∷ cs) n e = given_within (digits (c ∷ cs)) 8192 n e

-- and each of some lengths
parts_limit : {l ns : List ℕ} → PartsRead length_of l ns → added_up ns ≤ 8192 * length ns
unfolding added_up
parts_limit (one p {v = n} h) = omega (arith, length_limit p n h)
parts_limit (next p rest {v = n} h r) = omega (arith, length_limit p n h, parts_limit r)

-- n of them
pub record LengthsRead (n : ℕ) (l ns : List ℕ) : Type 0 where
  pub many : length ns ≡ n
  pub parts : PartsRead length_of l ns
  pub limit : added_up ns ≤ 8192 * n

pub lengths_read : (n : ℕ) (l ns : List ℕ) → parted_lengths n l ≡ some ns → LengthsRead n l ns
unfolding parted_lengths
lengths_read n l ns e =
    let c : Came (read_each length_of (parted l)) _ ns = came _ _ e in
    let g : Gave (eqb (length c.value) n) c.value ns = gave _ _ c.gives in
    let m : length ns ≡ n = ap length (sym g.is) ∙ eqb-true (length c.value) n g.test in
    let p : PartsRead length_of l ns = parts_read length_of l ns (c.is ∙ ap some g.is) in
    record { many = m; parts = p; limit = rw m at (parts_limit p) }

-- as they were read, they fit their machine numbers
pub six_small : (part : List ℕ) (n : ℕ) → some n ≡ six_digits part → Fits w32 n
unfolding six_digits
six_small part n u = Fits-under w32 n 1000000 (go (fits (ascii "nnnnnn") part) refl (sym u)) tt
  where
    go : (t : Bool) → fits (ascii "nnnnnn") part ≡ t → cond t (digits part) none ≡ some n → n < 1000000
    go true z e = rw (← fits_length (ascii "nnnnnn") part z) at (digits_small part n e)
    go false z e = none_some e

-- a room of the output, as the program is told it: one to seven digits, at most 1,048,576
unfoldable pub room_of : List ℕ → M.Option ℕ
room_of cs = cond (leb 1 (length cs) && leb (length cs) 7) (then (digits cs) (λ n. given (leb n 1048576) n)) none

-- its bytes, as they are read
abbrev pub bytes_in : Option Room → M.Option ℕ
bytes_in None = none
bytes_in (Some room) = some room.bytes

module _ (part : List ℕ) where
  pub room_empty : length part ≡ 0 → none ≡ room_of part
  unfolding room_of
  room_empty e = rw e

  pub room_long : 7 < length part → none ≡ room_of part
  unfolding room_of
  room_long h = rw (lt-leb _ _ h, le-leb 1 (length part) (omega arith))

  module _ (n : (length part ≡ 0 → ⊥)) (k : length part ≤ 7) where
    room_is : room_of part ≡ then (digits part) (λ n. given (leb n 1048576) n)
    unfolding room_of
    room_is = let m : 1 ≤ length part = positive n in rw (le-leb _ _ k, le-leb _ _ m)
      where
        positive : (length part ≡ 0 → ⊥) → 1 ≤ length part
        positive n = omega arith

    pub room_bad : none ≡ digits part → none ≡ room_of part
    room_bad w = sym (room_is ∙ rw (← w))

    module _ {v : ℕ} (w : some v ≡ digits part) where
      pub room_large : 1048576 < v → none ≡ room_of part
      room_large m = sym (room_is ∙ rw (← w, lt-leb _ _ m))

      pub room_read : v ≤ 1048576 → some v ≡ room_of part
      room_read m = sym (room_is ∙ rw (← w, le-leb _ _ m))

pub two_small : (l : List ℕ) (m n : ℕ) → some (m ∷ n ∷ []) ≡ parted_lengths 2 l → Fits w64 (m + n)
unfolding added_up
two_small l m n u = Fits-under w64 (m + n) 65536 (omega (arith, (lengths_read 2 l (m ∷ n ∷ []) (sym u)).limit)) tt

pub room_small : (cs : List ℕ) (v : ℕ) → some v ≡ room_of cs → v ≤ 1048576
unfolding room_of
room_small cs v u = go (leb 1 (length cs) && leb (length cs) 7) (sym u)
  where
    go : (t : Bool) → cond t (then (digits cs) (λ n. given (leb n 1048576) n)) none ≡ some v → v ≤ 1048576
    go true k = given_within (digits cs) 1048576 v k
    go false k = none_some k

-- a number that is no larger takes a further digit
pub length_room : (v : ℕ) → v ≤ 8192 → v < power 10 17
unfolding power
length_room v h = lt_of_le_of_lt h (lit< tt)

pub ruleset numbers = (holds_told, digit_low, length_empty, length_starts, length_larger, length_more, length_bad, length_end, six_other, six_read)

pub ruleset both_lengths = (lengths_one, lengths_bad, lengths_second_bad, lengths_two, rest_whole)
