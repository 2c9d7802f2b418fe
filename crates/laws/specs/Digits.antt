-- Numbers in places, to any base: parts of them, groups of them, and how many a decimal number has.
use Rattle.std.specs.Prelude.{◌≡◌, refl, Bool, true, false, cond, List, [], ◌∷◌, ◌++◌, ℕ, zero, suc, ◌+◌, ◌-◌, ◌*◌, ◌/◌, ◌%◌, ◌^◌, ◌≤◌, ◌<◌, max, leb, length, take, drop}
use Rattle.std.proofs.Common.{sym, ap, ◌∙◌, zero-add, add-zero, suc-add, mul_comm, mul_assoc, pow-suc, div-one, div-lt_iff_lt-mul, le-div_iff_mul-le, arith, lit<, lit≤, pow-add, take_at, drop_at, le-leb, leb-true, leb-false}
use Rattle.std.proofs.Math.Nat.{pow-zero, pow-le-pow_right, zero-div, zero-mod, div-eq_of_lt, div-div-eq-div-mul, mod-add-div, add-mul-div_left, add-mul-mod_self_left}
use Rattle.std.proofs.lemmas.Bool.{lt-leb}
use Rattle.rules.specs.Text.{places, width, fixed, bytes}
use Rattle.laws.specs.Parts.{cut}
use Rattle.laws.specs.Writing.{ahead, filled}

pub places_length : (base null k v : ℕ) → length (places base null k v) ≡ k
unfolding places
places_length base null zero v = refl
places_length base null (suc k) v = ap suc (places_length base null k v)

-- the place behind them
pub ahead_places : (base null k v at r : ℕ) → r ≡ ahead at k → r ≡ ahead at (length (places base null k v))
ahead_places base null k v at r e = rw places_length e

-- ---- parts of the places

-- two groups: the upper ones are those of the quotient
pub places_split : (base null j k v : ℕ) → places base null (j + k) v ≡ places base null j (v / base ^ k) ++ places base null k v
unfolding places
places_split base null zero k v = rw zero-add
places_split base null (suc j) k v =
    let e : v / base ^ (j + k) ≡ v / base ^ k / base ^ j = ap (λ (n : ℕ). v / n) (pow-add base j k ∙ mul_comm (base ^ j) (base ^ k)) ∙ sym (div-div-eq-div-mul v (base ^ k) (base ^ j)) in
    rw (suc-add, e, places_split base null j k v)

-- what stands between b places above and c below
places_between : (base null a b c v : ℕ) → cut (places base null (a + b + c) v) a (a + b) ≡ places base null b (v / base ^ c)
unfolding cut
places_between base null a b c v =
    let w : ℕ = v / base ^ c in
    let low : take (a + b) (places base null (a + b + c) v) ≡ places base null (a + b) w =
    rw places_split (take_at (places base null (a + b) w) (places base null c v) (a + b) (places_length base null (a + b) w)) in
    ap (drop a) low ∙ rw places_split (drop_at (places base null a (w / base ^ b)) (places base null b w) a (places_length base null a (w / base ^ b)))

pub places_part : (base null n a b v : ℕ) → a ≤ b → b ≤ n → cut (places base null n v) a b ≡ places base null (b - a) (v / base ^ (n - b))
places_part base null n a b v h l =
    let e : n ≡ a + (b - a) + (n - b) = omega arith in
    let f : b ≡ a + (b - a) = omega arith in
    ap (λ (m : ℕ). cut (places base null m v) a b) e ∙ ap (cut (places base null (a + (b - a) + (n - b)) v) a) f ∙ places_between base null a (b - a) (n - b) v

-- the last k of n
pub places_end : (base null n k v : ℕ) → k ≤ n → cut (places base null n v) (n - k) n ≡ places base null k v
places_end base null n k v h =
    let e : n - (n - k) ≡ k = omega arith in
    let z : n - n ≡ 0 = omega arith in
    places_part base null n (n - k) n v (omega arith) (omega arith) ∙ rw (e, z, pow-zero, div-one)

power_some : (base k : ℕ) → 0 < base → 0 < base ^ k
power_some base k h = let p : base ^ 0 ≤ base ^ k = pow-le-pow_right h (omega arith) in rw pow-zero at p

-- k places say nothing of what stands above them
places_low : (base null k x m : ℕ) → 0 < base → places base null k (m + base ^ k * x) ≡ places base null k m
unfolding places
places_low base null zero x m h = refl
places_low base null (suc k) x m h =
    let e : base ^ suc k * x ≡ base ^ k * (base * x) = ap (λ (n : ℕ). n * x) (pow-suc base k) ∙ mul_assoc (base ^ k) base x in
    let d : (m + base ^ k * (base * x)) / base ^ k % base ≡ m / base ^ k % base = rw (add-mul-div_left m (base * x) (power_some base k h)) (add-mul-mod_self_left (m / base ^ k) base x) in
    rw (e, d, places_low base null k (base * x) m h)

pub places_rest : (base null n k v : ℕ) → 0 < base → k ≤ n → places base null k (v % base ^ n) ≡ places base null k v
places_rest base null n k v h l =
    let b : n ≡ k + (n - k) = omega arith in
    let p : base ^ n ≡ base ^ k * base ^ (n - k) = ap (λ (m : ℕ). base ^ m) b ∙ pow-add base k (n - k) in
    let e : base ^ k * (base ^ (n - k) * (v / base ^ n)) ≡ base ^ n * (v / base ^ n) = sym (mul_assoc (base ^ k) (base ^ (n - k)) (v / base ^ n)) ∙ ap (λ (m : ℕ). m * (v / base ^ n)) (sym p) in
    sym (places_low base null k (base ^ (n - k) * (v / base ^ n)) (v % base ^ n) h) ∙ ap (places base null k) (rw e (mod-add-div v (base ^ n)))

-- above a number's places all are null
places_null : (base null j : ℕ) → places base null j 0 ≡ filled j null
unfolding places filled
places_null base null zero = refl
places_null base null (suc j) = rw (zero-div, zero-mod, add-zero, places_null base null j)

pub places_front : (base null j k v : ℕ) → v < base ^ k → places base null (j + k) v ≡ filled j null ++ places base null k v
places_front base null j k v h = places_split base null j k v ∙ rw (div-eq_of_lt h, places_null)

-- ---- how many digits a number has

pub width_one : (k v : ℕ) → v ≤ 9 → width k v ≡ 1
unfolding width
width_one zero v h = refl
width_one (suc k) v h = rw (le-leb v 9 h, width)

pub width_more : (k v : ℕ) → 9 < v → width (suc k) v ≡ suc (width k (v / 10))
unfolding width
width_more k v h = rw (lt-leb v 9 h, width)

-- at least one, and at most k + 1
pub width_some : (k v : ℕ) → 1 ≤ width k v
unfolding width
width_some zero v = lit≤ tt
width_some (suc k) v = go (leb v 9)
  where
    go : (b : Bool) → 1 ≤ cond b 1 (suc (width k (v / 10)))
    go true = lit≤ tt
    go false = omega arith

pub width_most : (k v : ℕ) → width k v ≤ suc k
unfolding width
width_most zero v = lit≤ tt
width_most (suc k) v = go (leb v 9) (width_most k (v / 10))
  where
    go : (b : Bool) → width k (v / 10) ≤ suc k → cond b 1 (suc (width k (v / 10))) ≤ suc (suc k)
    go true h = omega arith
    go false h = omega arith

tenth_small : (k v : ℕ) → v < 10 ^ suc k → v / 10 < 10 ^ k
tenth_small k v h = (div-lt_iff_lt-mul (lit< tt)).1 (rw pow-suc at h)

-- of a number with no more digits than that the bound says nothing
pub width_bound : (k v : ℕ) → v < 10 ^ suc k → width (suc k) v ≡ width k v
unfolding width
width_bound zero v h = width_one 1 v (omega arith)
width_bound (suc k) v h = go (leb v 9) (width_bound k (v / 10) (tenth_small (suc k) v h))
  where
    go : (b : Bool) → width (suc k) (v / 10) ≡ width k (v / 10) → cond b 1 (suc (width (suc k) (v / 10))) ≡ cond b 1 (suc (width k (v / 10)))
    go true e = refl
    go false e = ap suc e

-- and it is below the power with that many places
pub width_power : (k v : ℕ) → v < 10 ^ suc k → v < 10 ^ width k v
unfolding width
width_power zero v h = h
width_power (suc k) v h = go (leb v 9) refl (width_power k (v / 10) (tenth_small (suc k) v h))
  where
    go : (b : Bool) → leb v 9 ≡ b → v / 10 < 10 ^ width k (v / 10) → v < 10 ^ cond b 1 (suc (width k (v / 10)))
    go true e l = omega (arith, leb-true v 9 e)
    go false e l = rw pow-suc ((div-lt_iff_lt-mul (lit< tt)).0 l)

-- a number of k + 1 digits
pub width_at : (n k v : ℕ) → k ≤ n → 10 ^ k ≤ v → v < 10 ^ suc k → width n v ≡ suc k
width_at n zero v h l m = width_one n v (omega arith)
width_at zero (suc k) v h l m = absurd (omega arith)
width_at (suc n) (suc k) v h l m =
    let low : 10 ^ k ≤ v / 10 = (le-div_iff_mul-le (lit< tt)).1 (rw pow-suc at l) in
    let high : v / 10 < 10 ^ suc k = tenth_small (suc k) v m in
    let one : 9 < v = omega (arith, low, power_some 10 k (lit< tt)) in
    width_more n v one ∙ ap suc (width_at n k (v / 10) (omega arith) low high)

-- as comparisons find it
pub width_is : (k v r : ℕ) → k ≤ 19 → 10 ^ k ≤ v → v < 10 ^ suc k → r ≡ suc k → r ≡ width 19 v
width_is k v r h l m e = e ∙ sym (width_at 19 k v h l m)

pub width_first : (v r : ℕ) → v < 10 → r ≡ 1 → r ≡ width 19 v
width_first v r m e = e ∙ sym (width_one 19 v (omega arith))

-- a digit less, and the number without its last one
width_tenth : (v : ℕ) → v < 10 ^ 20 → 9 < v → width 19 v ≡ suc (width 19 (v / 10))
width_tenth v h l = width_more 18 v l ∙ ap suc (sym (width_bound 18 (v / 10) (tenth_small 19 v h)))

-- the levs of some stotinki have two digits less, and one at least
pub width_levs : (v : ℕ) → v < 10 ^ 20 → width 19 (v / 100) ≡ max 1 (width 19 v - 2)
width_levs v h = go (leb v 9) refl (leb (v / 10) 9) refl
  where
    go : (b : Bool) → leb v 9 ≡ b → (d : Bool) → leb (v / 10) 9 ≡ d → width 19 (v / 100) ≡ max 1 (width 19 v - 2)
    go true e d f = omega (arith, leb-true v 9 e, width_one 19 v (leb-true v 9 e), width_one 19 (v / 100) (omega (arith, leb-true v 9 e)))
    go false e true f = omega (arith, leb-true (v / 10) 9 f, width_tenth v h (leb-false v 9 e), width_one 19 (v / 10) (leb-true (v / 10) 9 f), width_one 19 (v / 100) (omega (arith, leb-true (v / 10) 9 f)))
    go false e false f =
        let q : v / 10 / 10 ≡ v / 100 = omega arith in
        let t : width 19 (v / 10) ≡ suc (width 19 (v / 100)) = rw q at (width_tenth (v / 10) (omega arith) (leb-false (v / 10) 9 f)) in
        omega (arith, width_tenth v h (leb-false v 9 e), t, width_some 19 (v / 100))

-- ---- groups of places

four_same : (a b c d x y z w : ℕ) → a ≡ x → b ≡ y → c ≡ z → d ≡ w → a ∷ b ∷ c ∷ d ∷ [] ≡ x ∷ y ∷ z ∷ w ∷ []
four_same a b c d x y z w e f g h = rw (e, f, g, h)

joined : (xs ys zs ws : List ℕ) → xs ≡ zs → ys ≡ ws → xs ++ ys ≡ zs ++ ws
joined xs ys zs ws e f = rw (e, f)

-- eight places: four of the quotient, four of the rest
two_fours : (base null v h l : ℕ) → 0 < base → h ≡ v / base ^ 4 → l ≡ v % base ^ 4 → places base null 4 h ++ places base null 4 l ≡ places base null 8 v
two_fours base null v h l b p q = rw (p, q, places_rest base null 4 4 v b (lit≤ tt)) (sym (places_split base null 4 4 v))

-- four digits, by repeated division
four_is : (v : ℕ) → v < 10000 → (48 + v / 10 / 10 / 10) ∷ (48 + (v / 10 / 10 - v / 10 / 10 / 10 * 10)) ∷ (48 + (v / 10 - v / 10 / 10 * 10)) ∷ (48 + (v - v / 10 * 10)) ∷ [] ≡ fixed 4 v
unfolding places
four_is v h = four_same _ _ _ _ (48 + v / 10 ^ 3 % 10) (48 + v / 10 ^ 2 % 10) (48 + v / 10 ^ 1 % 10) (48 + v / 10 ^ 0 % 10) (omega arith) (omega arith) (omega arith) (omega arith)

pub eight_is : (v h l : ℕ) → v < 100000000 → h ≡ v / 10000 → l ≡ v - h * 10000 →
    (48 + h / 10 / 10 / 10) ∷ (48 + (h / 10 / 10 - h / 10 / 10 / 10 * 10)) ∷ (48 + (h / 10 - h / 10 / 10 * 10)) ∷ (48 + (h - h / 10 * 10))
    ∷ (48 + l / 10 / 10 / 10) ∷ (48 + (l / 10 / 10 - l / 10 / 10 / 10 * 10)) ∷ (48 + (l / 10 - l / 10 / 10 * 10)) ∷ (48 + (l - l / 10 * 10)) ∷ []
    ≡ fixed 8 v
eight_is v h l b p q = joined _ _ _ _ (four_is h (omega arith)) (four_is l (omega arith)) ∙ two_fours 10 48 v h l (lit< tt) p (omega arith)

-- four bytes of a number
four_bytes : (v : ℕ) → v < 4294967296 → (v / 16777216) ∷ (v / 65536 % 256) ∷ (v / 256 % 256) ∷ (v % 256) ∷ [] ≡ bytes 4 v
unfolding places
four_bytes v h = four_same _ _ _ _ (0 + v / 256 ^ 3 % 256) (0 + v / 256 ^ 2 % 256) (0 + v / 256 ^ 1 % 256) (0 + v / 256 ^ 0 % 256) (omega arith) (omega arith) (omega arith) (omega arith)

pub eight_bytes : (v h l : ℕ) → v < 2 ^ 64 → h ≡ v / 4294967296 → l ≡ v % 4294967296 →
    (h / 16777216) ∷ (h / 65536 % 256) ∷ (h / 256 % 256) ∷ (h % 256) ∷ (l / 16777216) ∷ (l / 65536 % 256) ∷ (l / 256 % 256) ∷ (l % 256) ∷ [] ≡ bytes 8 v
eight_bytes v h l b p q = joined _ _ _ _ (four_bytes h (omega arith)) (four_bytes l (omega arith)) ∙ two_fours 256 0 v h l (lit< tt) p q
