-- Texts one behind the other, with their lengths in the header, for any list of texts: text k of an area is the k-th of those that stand there, and the first n texts of an area, with zeros behind them, are its bytes.
--
use Rattle.std.specs.Prelude.{◌≡◌, true, drop}
use Rattle.std.proofs.Math.Path.{refl, ap}
use Rattle.std.proofs.Common.{sym, ◌∙◌, length-append, take_at, drop_at, take-suc}
use mathlib.Core.List.{List, [], ◌∷◌, ◌++◌, map, append_assoc, append-nil}
use Prim.Native.Nat.{ℕ, zero, suc, ◌+◌, ◌-◌, ◌*◌, ◌≤◌, ◌<◌}
use native.Mathlib.Omega.{arith}
use Rattle.std.proofs.Math.ListN.{length, get_or, take, length-drop, length-map}
use Rattle.std.proofs.Math.Seq.{take-add, take-length, drop-drop, length-take-le}
use Rattle.rules.specs.Text.{every, big_endian, bytes}
use Rattle.rules.specs.Area.{zeros, padded, joined, length_record, lengths_of, length_at, text_place, text_at, area_size, lengths_place, lengths_room, references_place, texts_place, texts_room}
use Rattle.laws.specs.Digits.{places_length}
use Rattle.laws.specs.Numbers.{Within, number_bytes}
use Rattle.laws.specs.Parts.{cut}
use Rattle.laws.specs.Sections.{Each, each_map, map_appended, joined_append, joined_split, joined_record, zeros_length, padded_length, joined_length, section_part}
use Rattle.laws.specs.Standing.{Stands, stands_from_lem, stands_record}
use Rattle.engine_laws.specs.Tests.{is_zero}
use Rattle.engine_laws.specs.Records.{cut_is, zero_bytes, zeros_zero, bytes_stand}

-- ---- zeros behind a text, in either direction

-- the room behind a text is zero
pub stands_zeros : {p q a : List ℕ} {base : ℕ} (n : ℕ) (y : List ℕ) → Stands p (padded n y) q base a → length y ≤ n → every is_zero (cut a (base + length y) (base + n)) ≡ true
unfolding padded
stands_zeros {p} {q} {a} {base} n y s h =
    let k : ℕ = n - length y in
    let e : base + n ≡ base + length y + k = omega arith in
    let f : drop (base + length y) a ≡ zeros k ++ q = stands_from_lem s (length y) ∙ rw append_assoc (drop_at y (zeros k ++ q) (length y) refl) in
    rw (e, cut_is a (base + length y) k, f, take_at (zeros k) q k (zeros_length k)) (zeros_zero k)

-- n bytes from base on: a text and zeros behind it
pub zeros_stand : (a : List ℕ) (base k n : ℕ) → k ≤ n → base + n ≤ length a → every is_zero (cut a (base + k) (base + n)) ≡ true → padded n (take k (drop base a)) ≡ take n (drop base a)
unfolding padded
zeros_stand a base k n h l z =
    let w : length (take k (drop base a)) ≡ k = length-take-le k (drop base a) (rw length-drop (omega arith)) in
    let e : base + n ≡ base + k + (n - k) = omega arith in
    let y : take (n - k) (drop (base + k) a) ≡ zeros (n - k) = zero_bytes _ (n - k) (length-take-le (n - k) (drop (base + k) a) (rw length-drop (omega arith))) (rw (e, cut_is a (base + k) (n - k)) at z) in
    let f : n ≡ k + (n - k) = omega arith in
    rw (w, ← y, ← drop-drop k base a) (sym (ap (λ (x : ℕ). take x (drop base a)) f ∙ take-add k (n - k) (drop base a)))

-- ---- lengths

-- each has two bytes
lengths_each : (ts : List (List ℕ)) → Each 2 (map length_record ts)
unfolding length_record
lengths_each ts = each_map length_record (λ t. places_length 256 0 2 (length t)) ts

lengths_size : (ts : List (List ℕ)) → length (joined (map length_record ts)) ≡ 2 * length ts
lengths_size ts = joined_length (lengths_each ts) ∙ rw length-map

-- three have room
pub lengths_length : (ts : List (List ℕ)) → length ts ≤ 3 → length (lengths_of ts) ≡ lengths_room
unfolding lengths_of
lengths_length ts h = padded_length lengths_room _ (omega (arith, lengths_size ts))

length_record_lem : (ts : List (List ℕ)) (k : ℕ) → k < length ts → get_or (map length_record ts) k [] ≡ bytes 2 (length (get_or ts k []))
unfolding length_record
length_record_lem [] k h = absurd (omega arith)
length_record_lem (t ∷ ts) zero h = refl
length_record_lem (t ∷ ts) (suc k) h = length_record_lem ts k (omega arith)

-- those before text k, and text k itself, are no longer than all of them
before_short : (ts : List (List ℕ)) (k : ℕ) → length (joined (take k ts)) ≤ length (joined ts)
before_short ts k = omega (arith, ap length (joined_split k ts) ∙ length-append (joined (take k ts)) (joined (drop k ts)))

text_short : (ts : List (List ℕ)) (k : ℕ) → k < length ts → length (get_or ts k []) ≤ length (joined ts)
text_short ts k h =
    omega (
      arith,
      ap length (joined_split k ts) ∙ length-append (joined (take k ts)) (joined (drop k ts)),
      ap length (joined_record k ts h) ∙ length-append (get_or ts k []) (joined (drop (suc k) ts)),
    )

-- ---- texts that stand in an area

-- text k has room for m bytes
pub record TextRoom (a : List ℕ) (k m : ℕ) : Type 0 where
  pub long : area_size ≤ length a
  pub fits : text_place a k + m ≤ area_size

-- the first has room, and so has the next one behind a text of at most m bytes
pub first_room : (a : List ℕ) (m : ℕ) → area_size ≤ length a → m ≤ texts_room → TextRoom a 0 m
unfolding text_place
first_room a m l h = record { long = l; fits = omega arith }

pub next_room : (a : List ℕ) (k m n : ℕ) → TextRoom a k (m + n) → length_at a k ≤ m → TextRoom a (suc k) n
unfolding text_place
next_room a k m n r h = record { long = r.long; fits = omega (arith, r.fits) }

-- the texts ts stand in an area: their lengths in the header, they themselves in their section
pub record Texts (ts : List (List ℕ)) (a : List ℕ) : Type 0 where
  pub few : length ts ≤ 3
  pub fit : length (joined ts) ≤ texts_room
  pub head : List ℕ
  pub sections : List ℕ
  pub lengths : Stands head (lengths_of ts) sections lengths_place a
  pub front : List ℕ
  pub behind : List ℕ
  pub texts : Stands front (padded texts_room (joined ts)) behind texts_place a

module _ {ts : List (List ℕ)} {a : List ℕ} (s : Texts ts a) where
  pub length_back : (k : ℕ) → k < length ts → length_at a k ≡ length (get_or ts k [])
  unfolding lengths_of
  length_back k h =
      ap big_endian (stands_record lengths_room s.lengths (lengths_each ts) k (rw length-map h) ∙ length_record_lem ts k h)
      ∙ number_bytes 2 _ (omega (arith, text_short ts k h, s.fit))

  -- text k begins behind those before it
  pub place_back : (k : ℕ) → k ≤ length ts → text_place a k ≡ texts_place + length (joined (take k ts))
  unfolding text_place joined
  place_back zero h = refl
  place_back (suc k) h =
      let e : joined (take (suc k) ts) ≡ joined (take k ts) ++ get_or ts k [] = rw (take-suc ts k [] (omega arith), joined_append, append-nil) in
      rw (e, length-append) (omega (arith, place_back k (omega arith), length_back k (omega arith)))

  -- text k is the k-th
  pub text_back : (k : ℕ) → k < length ts → text_at a k ≡ get_or ts k []
  unfolding text_at
  text_back k h =
      rw (place_back k (omega arith), length_back k h, stands_from_lem s.texts (length (joined (take k ts))))
      (section_part texts_room k ts s.behind _ _ h refl refl)

  -- and as long as its length says
  pub text_size : (k : ℕ) → k < length ts → length_at a k ≡ length (text_at a k)
  text_size k h = length_back k h ∙ ap length (sym (text_back k h))

  -- it stands within the area
  pub text_in : (k : ℕ) → k < length ts → area_size ≤ length a → TextRoom a k (length_at a k)
  unfolding text_place
  text_in k h l = record { long = l; fits = omega (arith, place_back (suc k) h, before_short ts (suc k), s.fit) }

  -- the room behind the lengths and behind the texts is zero
  pub lengths_behind : every is_zero (cut a (lengths_place + 2 * length ts) references_place) ≡ true
  unfolding lengths_of
  lengths_behind = rw (lengths_size ts) at (stands_zeros lengths_room (joined (map length_record ts)) s.lengths (omega (arith, lengths_size ts, s.few)))

  pub texts_behind_lem : every is_zero (cut a (text_place a (length ts)) area_size) ≡ true
  texts_behind_lem = rw (place_back (length ts) (omega arith), take-length ts) (stands_zeros texts_room (joined ts) s.texts s.fit)

-- ---- the texts of an area

-- those before text n
unfoldable pub texts_before : List ℕ → ℕ → List (List ℕ)
texts_before a zero = []
texts_before a (suc n) = texts_before a n ++ text_at a n ∷ []

module _ (a : List ℕ) where
  place_low : (n : ℕ) → texts_place ≤ text_place a n
  unfolding text_place
  place_low zero = omega arith
  place_low (suc n) = omega (arith, place_low n)

  joined_texts : (n : ℕ) → joined (texts_before a n) ≡ take (text_place a n - texts_place) (drop texts_place a)
  unfolding texts_before text_place text_at joined
  joined_texts zero = refl
  joined_texts (suc n) =
      let k : ℕ = text_place a n - texts_place in
      let e : text_place a n + length_at a n - texts_place ≡ k + length_at a n = omega (arith, place_low n) in
      let f : texts_place + k ≡ text_place a n = omega (arith, place_low n) in
      rw (joined_append, append-nil, joined_texts n, e, take-add k (length_at a n) (drop texts_place a), drop-drop k texts_place a, f)

  joined_lengths : (n : ℕ) → Within 256 0 a → n ≤ 3 → text_place a n ≤ length a → joined (map length_record (texts_before a n)) ≡ take (2 * n) (drop lengths_place a)
  unfolding texts_before text_place text_at length_record joined
  joined_lengths zero w h l = refl
  joined_lengths (suc n) w h l =
      let m : length (text_at a n) ≡ length_at a n = length-take-le (length_at a n) (drop (text_place a n) a) (rw length-drop (omega arith)) in
      let r : length_record (text_at a n) ≡ take 2 (drop (lengths_place + 2 * n) a) = rw m (bytes_stand a (lengths_place + 2 * n) 2 w (omega (arith, place_low n))) in
      let e : 2 * suc n ≡ 2 * n + 2 = omega arith in
      rw (map_appended, joined_append, append-nil, joined_lengths n w (omega arith) (omega arith), r, e, take-add (2 * n) 2 (drop lengths_place a), drop-drop (2 * n) lengths_place a)

  module _ (n : ℕ) (long : area_size ≤ length a) (fit : text_place a n ≤ area_size) where
    -- with zeros behind them they are the bytes of the lengths and those of the section
    pub lengths_same : Within 256 0 a → n ≤ 3 → every is_zero (cut a (lengths_place + 2 * n) references_place) ≡ true → lengths_of (texts_before a n) ≡ take lengths_room (drop lengths_place a)
    unfolding lengths_of
    lengths_same w h z = rw (joined_lengths n w h (omega arith)) (zeros_stand a lengths_place (2 * n) lengths_room (omega arith) (omega arith) z)

    pub texts_same : every is_zero (cut a (text_place a n) area_size) ≡ true → padded texts_room (joined (texts_before a n)) ≡ take texts_room (drop texts_place a)
    texts_same z =
        let f : text_place a n ≡ texts_place + (text_place a n - texts_place) = omega (arith, place_low n) in
        rw (joined_texts n) (zeros_stand a texts_place (text_place a n - texts_place) texts_room (omega arith) (omega arith) (rw (← f) z))
