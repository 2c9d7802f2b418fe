-- Bytes moved within an area, up from the last or down from the first, and the loop that moves the records to keep to a section's front.
use Rattle.std.specs.Prelude.{◌≡◌, refl, Bool, set}
use Rattle.std.proofs.Math.Path.{sym, ap}
use Rattle.std.proofs.Common.{◌∙◌, mul-add, add-one, length-append}
use Rattle.std.proofs.Math.Bool.{true, false}
use mathlib.Core.List.{List, [], ◌∷◌, ◌++◌, append-nil}
use Prim.Native.Nat.{ℕ, suc, ◌+◌, ◌-◌, ◌*◌, ◌≤◌, ◌<◌}
use Rattle.std.proofs.Math.Nat.{add-zero, mul-suc, mul-sub, mul-le-mul_left}
use native.Mathlib.Omega.{arith}
use Rattle.std.proofs.Math.ListN.{length, get_or, take, drop, length-set, length-drop}
use Rattle.std.proofs.Math.Seq.{drop-cons, take-suc, get_or-drop, drop-drop, length-take-le}
use Rattle.rules.specs.Text.{passing}
use Rattle.rules.specs.Area.{zeros, padded, joined, records_of}
use Rattle.laws.specs.Laid.{laid, laid_append, laid_set, laid_load_before, laid_load_behind, laid_drop, laid_length}
use Rattle.laws.specs.Writing.{Wrote}
use Rattle.laws.specs.All.{all_passing}
use Rattle.laws.specs.Sections.{Each, records_more, records_each, passing_append, joined_append, joined_length}
use Rattle.laws.specs.Standing.{moved, Stands, stands_records, stands_passing}

-- of the bytes of a that are to go from one place to another those from low up to high are there; b is the area now
pub record Moving (a : List ℕ) (here there low high : ℕ) (b : List ℕ) : Type 0 where
  pub order : low ≤ high
  pub size : length b ≡ length a
  pub now : b ≡ laid (take (high - low) (drop (here + low) a)) (there + low) a

pub moving_none : (a : List ℕ) (here there k : ℕ) → Moving a here there k k a
unfolding laid
moving_none a here there k = let e : k - k ≡ 0 = omega arith in record { order = omega arith; size = refl; now = rw e }

module _ {a b : List ℕ} {here there : ℕ} where
  -- up: the byte before those
  pub moving_up : {k n : ℕ} → Moving a here there k n b → here ≤ there → there + n ≤ length a → 0 < k
      → Moving a here there (k - 1) n (set b (there + (k - 1)) (get_or b (here + (k - 1)) 0))
  unfolding laid
  moving_up {k} {n} m h l z =
      let j : ℕ = k - 1 in
      let v : ℕ = get_or a (here + j) 0 in
      let M : List ℕ = take (n - k) (drop (here + k) a) in
      let e : n - j ≡ suc (n - k) = omega (arith, m.order) in
      let f : suc (here + j) ≡ here + k = omega arith in
      let g : suc (there + j) ≡ there + k = omega arith in
      let d : drop (here + j) a ≡ v ∷ drop (suc (here + j)) a = drop-cons a (here + j) 0 (omega (arith, m.order)) in record {
        order = omega (arith, m.order);
        size = length-set b (there + j) (get_or b (here + j) 0) ∙ m.size;
        now =
            rw (m.now, laid_load_before M (there + k) (here + j) a (omega arith), laid_set M (there + k) (there + j) v a (omega arith), e, d, f)
            (ap (λ (x : ℕ). laid M x (set a (there + j) v)) (sym g));
      }

  -- down: the byte behind those
  pub moving_down : {k n : ℕ} → Moving a here there 0 k b → there ≤ here → here + n ≤ length a → k < n
      → Moving a here there 0 (k + 1) (set b (there + k) (get_or b (here + k) 0))
  unfolding laid
  moving_down {k} {n} m h l z =
      let M : List ℕ = take k (drop here a) in
      let e : k + 1 - 0 ≡ suc k = omega arith in
      let f : k - 0 ≡ k = omega arith in
      let s : k < length (drop here a) = rw length-drop (omega arith) in
      let t : length M ≡ k = length-take-le k (drop here a) (omega arith) in
      let o : b ≡ laid M there a = rw (f, add-zero here, add-zero there) at m.now in record {
        order = omega arith;
        size = length-set b (there + k) (get_or b (here + k) 0) ∙ m.size;
        now =
            rw (e, add-zero here, add-zero there, take-suc (drop here a) k 0 s, laid_append, t, get_or-drop here a k 0, o)
            (rw (laid_load_behind M there (here + k) a (omega arith)));
      }

  pub moving_end : {k m n : ℕ} → Moving a here there k m b → k ≤ 0 → m ≤ n → n ≤ m → b ≡ moved here there n a
  unfolding moved
  moving_end {k} {m} {n} t h l g =
      let e : k ≡ 0 = omega arith in
      let f : m - 0 ≡ n = omega arith in
      rw (e, f, add-zero here, add-zero there) at t.now

-- ---- a record's place, for an area of a size

-- before record i of count there is room for one more: those from i on go up by a record
pub record RoomFor (base w count i size : ℕ) : Type 0 where
  pub low : i ≤ count
  pub parts : w * i + w * (count - i) ≡ w * count
  pub room : base + w * count + w ≤ size

-- record i goes down to the place of record j
pub record Lowers (base w i j size : ℕ) : Type 0 where
  pub order : w * j ≤ w * i
  pub room : base + w * i + w ≤ size

pub opens : (base w count i size : ℕ) → i ≤ count → base + w * suc count ≤ size → RoomFor base w count i size
opens base w count i size h l = record {
  low = h;
  parts = sym (mul-add w i (count - i)) ∙ ap (λ (k : ℕ). w * k) (omega arith);
  room = omega (arith, mul-suc w count);
}

pub lowers : (base w count i j size : ℕ) → j ≤ i → i < count → base + w * count ≤ size → Lowers base w i j size
lowers base w count i j size h l r = record {
  order = mul-le-mul_left w h;
  room = omega (arith, mul-le-mul_left w l, mul-suc w i);
}

-- ---- a loop over n records at base: of the first i those that pass a test are moved to the front, j of them; a is the area before

pub record Keeping (p : List ℕ → Bool) (w n base : ℕ) (a : List ℕ) (i j : ℕ) (b : List ℕ) : Type 0 where
  pub done : i ≤ n
  pub few : j ≤ i
  pub room : base + w * n ≤ length a
  pub size : length b ≡ length a
  pub count : j ≡ length (passing p (records_of w i (drop base a)))
  pub now : b ≡ laid (joined (passing p (records_of w i (drop base a)))) base a

pub keeping_none : (p : List ℕ → Bool) (w n base : ℕ) (a : List ℕ) → base + w * n ≤ length a → Keeping p w n base a 0 0 a
unfolding laid joined passing records_of
keeping_none p w n base a r = record { done = omega arith; few = omega arith; room = r; size = refl; count = refl; now = refl }

module _ {p : List ℕ → Bool} {w n base i j : ℕ} {a b : List ℕ} {t : Bool} (g : Keeping p w n base a i j b) (h : i < n) (q : t ≡ p (take w (drop (base + w * i) b))) where
  K : List (List ℕ)
  K = passing p (records_of w i (drop base a))

  x : List ℕ
  x = take w (drop (w * i) (drop base a))

  K-length : length (joined K) ≡ w * j
  unfolding K
  K-length =
      joined_length (all_passing p (records_each w i (drop base a) (rw length-drop (omega (arith, g.room, mul-le-mul_left w h, mul-suc w i)))))
      ∙ ap (λ (k : ℕ). w * k) (sym g.count)

  -- record i is as it was
  same : take w (drop (base + w * i) b) ≡ x
  unfolding K x
  same =
      ap (λ (l : List ℕ). take w (drop (base + w * i) l)) g.now
      ∙ rw (laid_drop (joined K) base (base + w * i) a (rw K-length (omega (arith, mul-le-mul_left w g.few))), drop-drop (w * i) base a)

  next : passing p (records_of w (i + 1) (drop base a)) ≡ K ++ passing p (x ∷ [])
  unfolding K x
  next = rw (add-one, records_more, passing_append)

  pub keeping_skip : t ≡ false → Keeping p w n base a (i + 1) j b
  unfolding K passing
  keeping_skip f =
      let z : p x ≡ false = ap p (sym same) ∙ sym q ∙ f in
      let e : passing p (records_of w (i + 1) (drop base a)) ≡ K = next ∙ rw (z, append-nil) in record {
        done = omega arith;
        few = omega (arith, g.few);
        room = g.room;
        size = g.size;
        count = rw e g.count;
        now = rw e g.now;
      }

  pub keeping_keep : {b' : List ℕ} → t ≡ true → b' ≡ moved (base + w * i) (base + w * j) w b → Keeping p w n base a (i + 1) (j + 1) b'
  unfolding K passing joined moved
  keeping_keep {b'} f m =
      let z : p x ≡ true = ap p (sym same) ∙ sym q ∙ f in
      let e : passing p (records_of w (i + 1) (drop base a)) ≡ K ++ x ∷ [] = next ∙ rw z in record {
        done = omega arith;
        few = omega (arith, g.few);
        room = g.room;
        size = ap length m ∙ laid_length (take w (drop (base + w * i) b)) (base + w * j) b ∙ g.size;
        count = rw (e, length-append) (omega (arith, g.count));
        now = rw (e, joined_append, append-nil, laid_append, K-length, ← g.now, ← same) m;
      }

-- j of n records at base are those that pass, and zeros stand behind them; b is the area then
pub record Sifted (p : List ℕ → Bool) (w n base : ℕ) (a : List ℕ) (j : ℕ) (b : List ℕ) : Type 0 where
  pub count : j ≡ length (passing p (records_of w n (drop base a)))
  pub bytes : b ≡ laid (padded (w * n) (joined (passing p (records_of w n (drop base a))))) base a

pub keeping_end : {p : List ℕ → Bool} {w n base i j m : ℕ} {a b b' : List ℕ} → Keeping p w n base a i j b → n ≤ i
    → Wrote (zeros (w * (n - j))) (base + w * j) b m b' → Sifted p w n base a j b'
unfolding padded
keeping_end {p} {w} {n} {base} {i} {j} {a = a} g h v =
    let K : List (List ℕ) = passing p (records_of w n (drop base a)) in
    let e : i ≡ n = omega (arith, g.done) in
    let c : j ≡ length K = rw e at g.count in
    let k : length (joined K) ≡ w * j = joined_length (all_passing p (records_each w n (drop base a) (rw length-drop (omega (arith, g.room))))) ∙ ap (λ (x : ℕ). w * x) (sym c) in
    let z : w * n - w * j ≡ w * (n - j) = sym (mul-sub w n j) in record {
      count = c;
      bytes = rw (laid_append, k, z) (v.output ∙ ap (laid (zeros (w * (n - j))) (base + w * j)) (rw e at g.now));
    }

-- so the section at base has those records
module _ (n : ℕ) {w base j : ℕ} {p q a b : List ℕ} {xs : List (List ℕ)} {f : List ℕ → Bool} (t : Stands p (padded n (joined xs)) q base a) (s : Each w xs) (v : Sifted f w (length xs) base a j b) where
  pub sifted_count : j ≡ length (passing f xs)
  sifted_count = v.count ∙ rw (stands_records n t s)

  pub stands_sifted : w * length xs ≤ n → Stands p (padded n (joined (passing f xs))) q base b
  stands_sifted l = rw (v.bytes, stands_records n t s) (stands_passing n t s f l)
