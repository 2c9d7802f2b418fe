-- Marks: bytes that are the same have the same mark, so that lines whose marks differ are told from each other by them.
use Rattle.std.specs.Prelude.{◌≡◌, refl, Bool, true, false, List, [], ◌∷◌, leb, length, get_or, set, take, drop}
use Rattle.std.proofs.Math.Path.{sym}
use Rattle.std.proofs.Common.{ap, ◌∙◌, add-one, zero-add, mul-suc, mul-le-mul_left, mul-le-mul_right, length-set, get_or-set_same, get_or-set_other, leb-true, leb-false, drop-cons, drop_of_length-le}
use Prim.Native.Nat.{ℕ, zero, suc, ◌+◌, ◌-◌, ◌*◌, ◌≤◌, ◌<◌}
use native.Mathlib.Omega.{arith}
use Rattle.rules.specs.Text.{equal, any, twice}
use Rattle.laws.specs.Parts.{cut_length}
use Rattle.laws.specs.Equal.{equal_true}
use Rattle.laws.specs.Tests.{not_holds}
use Rattle.account.specs.Part.{part_at}
use Rattle.register_lines.specs.Places.{end_none, upto_step, upto_done, key_in, keys_in, stands_in, repeat_in}
use Rattle.register_lines.specs.Forms.{FormOf}

-- ---- the mark of some bytes

-- the mark of bytes behind others whose mark is m
unfoldable pub mark_from : ℕ → List ℕ → ℕ
mark_from m [] = m
mark_from m (c ∷ cs) = mark_from (m * 2 + c) cs

unfoldable pub mark_of : List ℕ → ℕ
mark_of cs = mark_from 0 cs

-- the highest mark of k bytes
unfoldable pub highest : ℕ → ℕ
highest zero = 0
highest (suc k) = highest k * 2 + 255

highest_more : (k d : ℕ) → highest k ≤ highest (d + k)
unfolding highest
highest_more k zero = rw (zero-add k) (omega arith)
highest_more k (suc d) = let e : suc d + k ≡ suc (d + k) = omega arith in rw e (omega (arith, highest_more k d))

highest_low : (k : ℕ) → k ≤ 22 → highest k ≤ 1069547265
unfolding highest
highest_low k h = let e : 22 - k + k ≡ 22 = omega arith in rw e at (highest_more k (22 - k))

-- marks that differ belong to bytes that do
pub other_mark : (x y : List ℕ) → (mark_of y ≡ mark_of x → ⊥) → false ≡ equal x y
other_mark x y n = not_holds (equal x y) (λ w. n (ap mark_of (sym (equal_true x y w))))

-- m is the mark of the first k of some bytes
pub record Marking (cs : List ℕ) (k m : ℕ) : Type 0 where
  pub most : m ≤ highest k
  pub same : mark_from m (drop k cs) ≡ mark_of cs

module _ (cs : List ℕ) where
  pub marking_start : Marking cs 0 0
  unfolding mark_of highest
  marking_start = record { most = omega arith; same = refl }

  module _ (k m : ℕ) (w : Marking cs k m) where
    pub marking_end : length cs ≤ k → m ≡ mark_of cs
    unfolding mark_from
    marking_end h = let e : mark_from m (drop k cs) ≡ m = rw (drop_of_length-le cs h) in sym e ∙ w.same

    module _ (h : k < length cs) (l : length cs ≤ 22) where
      pub marking_low : m * 2 + 255 ≤ 1069547265
      unfolding highest
      marking_low = let e : k + 1 ≡ suc k = omega arith in omega (arith, w.most, rw e at (highest_low (k + 1) (omega arith)))

      pub marking_more : get_or cs k 0 < 256 → Marking cs (k + 1) (m * 2 + get_or cs k 0)
      unfolding mark_from highest
      marking_more b = rw (add-one k) record { most = omega (arith, w.most); same = rw (drop-cons cs k 0 h) at w.same }

-- ---- the marks of n lines

pub record MarksOf (w z : ℕ) (s : List ℕ) (at n : ℕ) (marks : List ℕ) : Type 0 where
  pub size : length marks ≡ 40
  pub few : n ≤ 40
  pub room : at + w * n ≤ length s
  pub each : (i : ℕ) → i < n → get_or marks i 0 ≡ mark_of (key_in s z (at + w * i))

-- line i lies within what holds them all
line_room : (w at n i m : ℕ) → i < n → at + w * n ≤ m → at + w * i + w ≤ m
line_room w at n i m h r =
    let e : suc i ≤ n = omega arith in
    let k : w * suc i ≤ w * n = mul-le-mul_left w e in
    omega (arith, mul-suc w i)

-- the mark of line i
pub record MarkAt (w z : ℕ) (s : List ℕ) (at i : ℕ) (marks : List ℕ) : Type 0 where
  pub small : i < 40
  pub room : at + w * i + z ≤ length s
  pub own : get_or marks i 0 ≡ mark_of (key_in s z (at + w * i))

-- marks that differ belong to bytes that do
pub mark_other : (w z : ℕ) (s : List ℕ) (at i : ℕ) (marks : List ℕ) → MarkAt w z s at i marks → (key : List ℕ) (m : ℕ) → m ≡ mark_of key → (get_or marks i 0 ≡ m → ⊥) → false ≡ equal key (key_in s z (at + w * i))
mark_other w z s at i marks k key m o d = other_mark _ _ (λ e. d (k.own ∙ e ∙ sym o))

-- those of i of them are made, and the next line begins at a place
pub record Making (w z : ℕ) (s : List ℕ) (at n i next : ℕ) (marks : List ℕ) : Type 0 where
  pub place : next ≡ at + w * i
  pub most : n ≤ 40
  pub left : i ≤ n
  pub whole : at + w * n ≤ length s
  pub made : MarksOf w z s at i marks

module _ (w z : ℕ) (standing : List ℕ → ℕ → Bool) (f : FormOf w z standing) (s : List ℕ) (at n : ℕ) where
  pub making_start : (marks : List ℕ) → n ≤ 40 → at + w * n ≤ length s → length marks ≡ 40 → Making w z s at n 0 at marks
  making_start marks h r l = record {
    place = sym (end_none w at);
    most = h;
    left = omega arith;
    whole = r;
    made = record { size = l; few = omega arith; room = rw (end_none w at) (omega arith); each = λ i k. absurd (omega arith) };
  }

  module _ (i next : ℕ) (marks : List ℕ) (m : Making w z s at n i next marks) where
    pub making_end : n ≤ i → MarksOf w z s at n marks
    making_end h = let e : i ≡ n = omega (arith, m.left) in rw e at m.made

    module _ (h : i < n) where
      -- line i lies within the text
      pub making_next : next + w ≤ length s
      making_next = rw m.place (line_room w at n i (length s) h m.whole)

      pub making_room : next + z ≤ length s
      making_room = omega (arith, making_next, f.within)

      pub making_key : length (take (next + z - next) (drop next s)) ≤ 22
      making_key = rw (part_at s next z, cut_length s next (next + z) making_room) (omega (arith, f.key_small))

      pub making_small : i < 40
      making_small = omega (arith, m.most)

      pub making_more : (v : ℕ) → v ≡ mark_of (take (next + z - next) (drop next s)) → Making w z s at n (i + 1) (next + w) (set marks i v)
      unfolding key_in
      making_more v e =
          let g : w * (i + 1) ≡ w * i + w = let q : i + 1 ≡ suc i = omega arith in rw q (mul-suc w i) in
          record {
            place = omega (arith, m.place);
            most = m.most;
            left = omega arith;
            whole = m.whole;
            made = record {
              size = length-set marks i v ∙ m.made.size;
              few = omega (arith, m.most);
              room = omega (arith, making_next, m.place);
              each = λ j l. go j l (leb i j) refl;
            };
          }
        where
          go : (j : ℕ) → j < i + 1 → (b : Bool) → leb i j ≡ b → get_or (set marks i v) j 0 ≡ mark_of (key_in s z (at + w * j))
          go j l true b =
              let q : j ≡ i = let x : i ≤ j = leb-true i j b in omega arith in
              rw (q, get_or-set_same marks i v 0 (omega (arith, m.made.size, m.most)), e, part_at s next z, m.place)
          go j l false b = let x : j < i = leb-false i j b in get_or-set_other marks i j v 0 (λ (q : j ≡ i). omega arith) ∙ m.made.each j x

  -- ---- a line of a section

  module _ (marks : List ℕ) (k : MarksOf w z s at n marks) (i : ℕ) (h : i < n) where
    product : w * i ≤ 38 * i
    product = mul-le-mul_right i f.small

    pub place_small : w * i < 2000
    place_small = omega (arith, product, k.few)

    pub place_room : at + w * i + z ≤ length s
    place_room = omega (arith, line_room w at n i (length s) h k.room, f.within)

    pub line_small : i < 40
    line_small = omega (arith, k.few)

    pub line_size : length (key_in s z (at + w * i)) ≡ z
    unfolding key_in
    line_size = cut_length s (at + w * i) (at + w * i + z) place_room ∙ omega arith

    pub line_mark : get_or marks i 0 ≡ mark_of (key_in s z (at + w * i))
    line_mark = k.each i h

    pub mark_at : MarkAt w z s at i marks
    mark_at = record { small = line_small; room = place_room; own = line_mark }

    pub line_other : (key : List ℕ) (m : ℕ) → m ≡ mark_of key → (get_or marks i 0 ≡ m → ⊥) → false ≡ equal key (key_in s z (at + w * i))
    line_other = mark_other w z s at i marks mark_at

-- told by its place
module _ (w z : ℕ) (s : List ℕ) (at i : ℕ) (marks : List ℕ) (k : MarkAt w z s at i marks) (p : ℕ) (e : p ≡ at + w * i) where
  pub mark_room : p + z ≤ length s
  mark_room = omega (arith, k.room)

  pub mark_same : (a : ℕ) (r : Bool) → r ≡ equal (key_in s z a) (key_in s z p) → r ≡ equal (key_in s z a) (key_in s z (at + w * i))
  mark_same a r u = rw e at u

  pub mark_own : get_or marks i 0 ≡ mark_of (key_in s z p)
  mark_own = rw e k.own

-- the bytes of a key
pub key_is : (s : List ℕ) (at z : ℕ) → take (at + z - at) (drop at s) ≡ key_in s z at
unfolding key_in
key_is = part_at

-- ---- a key among lines

module _ (s : List ℕ) (z w : ℕ) (key : List ℕ) (at i n : ℕ) (x : Bool) (inv : stands_in s z w key at i n ≡ x) where
  module _ (h : i < n) (t : Bool) (u : t ≡ equal key (key_in s z (at + w * i))) where
    pub stands_here : t ≡ true → true ≡ x
    unfolding stands_in keys_in any
    stands_here d = rw (upto_step w at i n h, ← u, d) at inv

    pub stands_more : t ≡ false → stands_in s z w key at (i + 1) n ≡ x
    unfolding stands_in keys_in any
    stands_more d = rw (upto_step w at i n h, ← u, d) at inv

  pub stands_end : n ≤ i → false ≡ x
  unfolding stands_in keys_in any
  stands_end h = rw (upto_done w at i n h) at inv

-- ---- does a key appear twice

module _ (s : List ℕ) (z w at i n : ℕ) (x : Bool) (inv : repeat_in s z w at i n ≡ x) where
  module _ (h : i < n) (t : Bool) (u : t ≡ stands_in s z w (key_in s z (at + w * i)) at (i + 1) n) where
    pub repeat_here : t ≡ true → true ≡ x
    unfolding repeat_in stands_in keys_in twice
    repeat_here d = rw (upto_step w at i n h, ← u, d) at inv

    pub repeat_more : t ≡ false → repeat_in s z w at (i + 1) n ≡ x
    unfolding repeat_in stands_in keys_in twice
    repeat_more d = rw (upto_step w at i n h, ← u, d) at inv

  pub repeat_end : n ≤ i → false ≡ x
  unfolding repeat_in keys_in twice
  repeat_end h = rw (upto_done w at i n h) at inv

pub ruleset marks = (marking_start, marking_end, marking_low, marking_more, making_start, making_end, making_next, making_room, making_key, making_small, making_more, place_small, place_room, line_small, line_size, line_mark, line_other, stands_here, stands_more, stands_end, repeat_here, repeat_more, repeat_end)
