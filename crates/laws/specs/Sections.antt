-- Sections, records of one width with zeros behind them, `padded n (joined xs)`: with a record replaced or put before another, or some kept, they are sections again.
use Rattle.std.specs.Prelude.{◌≡◌, refl, Bool, true, false, cond, ℕ, zero, suc, ◌+◌, ◌-◌, ◌*◌, ◌≤◌, ◌<◌, get_or, take}
use Rattle.std.proofs.Math.Path.{sym}
use Rattle.std.proofs.Common.{ap, ◌∙◌, add-zero, add_comm, mul-zero, arith, length-drop, take-append-drop, drop-cons, take_at, drop_at, length-take-le, drop-drop}
use mathlib.Core.List.{List, [], ◌∷◌, ◌++◌, map, append_assoc}
use Rattle.std.proofs.Math.Nat.{mul-suc}
use Rattle.std.proofs.Math.ListN.{length, drop, length-append}
use Rattle.std.proofs.lemmas.List.{length-replicate, replicate-append-replicate}
use Rattle.rules.specs.Text.{passing}
use Rattle.rules.specs.Area.{zeros, padded, joined, records_of}
use Rattle.laws.specs.Laid.{laid, laid_past, laid_front}
use Rattle.laws.specs.All.{All, All.none, All.more, all_append, all_take, all_drop, all_at}

-- each record has w bytes
abbrev pub Each : ℕ → List (List ℕ) → Type 0
Each w xs = All (λ (r : List ℕ). length r ≡ w) xs

-- the list with x before its element i; with x in the place of its element i
unfoldable pub inserted : {A : Type 0} → ℕ → A → List A → List A
inserted i x xs = take i xs ++ x ∷ drop i xs

unfoldable pub replaced : {A : Type 0} → ℕ → A → List A → List A
replaced i x xs = take i xs ++ x ∷ drop (suc i) xs

-- ---- zeros and padding

pub zeros_length : (n : ℕ) → length (zeros n) ≡ n
unfolding zeros
zeros_length n = length-replicate n 0

pub zeros_add : (m n : ℕ) → zeros (m + n) ≡ zeros m ++ zeros n
unfolding zeros
zeros_add m n = sym (replicate-append-replicate m n 0)

pub padded_length : (n : ℕ) (bs : List ℕ) → length bs ≤ n → length (padded n bs) ≡ n
unfolding padded
padded_length n bs h = rw (length-append, zeros_length) (omega arith)

-- what stands behind a front, and the zeros, give way to a longer text
pub padded_laid : (n : ℕ) (a b s : List ℕ) → length b ≤ length s → length a + length s ≤ n → laid s (length a) (padded n (a ++ b)) ≡ padded n (a ++ s)
unfolding padded
padded_laid n a b s h l =
    let k : ℕ = n - length (a ++ s) in
    let d : ℕ = length s - length b in
    let e : n - length (a ++ b) ≡ d + k = omega (arith, length-append a b, length-append a s) in
    let f : length s ≡ length (b ++ zeros d) = rw (length-append, zeros_length) (omega arith) in
    rw (e, zeros_add d k)
    (ap (λ (m : ℕ). laid s m (a ++ b ++ (zeros d ++ zeros k))) (sym (add-zero (length a)))
    ∙ ap (laid s (length a + 0)) (simp append_assoc)
    ∙ laid_past s a (b ++ zeros d ++ zeros k) 0
    ∙ ap (λ (x : List ℕ). a ++ x) (laid_front s (b ++ zeros d) (zeros k) f)
    ∙ sym (append_assoc a s (zeros k)))

-- a part gives way to one as long
pub padded_part : (n : ℕ) (a b c r : List ℕ) → length r ≡ length b → laid r (length a) (padded n (a ++ (b ++ c))) ≡ padded n (a ++ (r ++ c))
unfolding padded
padded_part n a b c r h =
    let e : length (a ++ (b ++ c)) ≡ length (a ++ (r ++ c)) = simp length-append (rw h) in
    let Z : List ℕ = zeros (n - length (a ++ (r ++ c))) in
    rw e
    (ap (λ (m : ℕ). laid r m (a ++ (b ++ c) ++ Z)) (sym (add-zero (length a)))
    ∙ ap (laid r (length a + 0)) (simp append_assoc)
    ∙ laid_past r a (b ++ (c ++ Z)) 0
    ∙ ap (λ (x : List ℕ). a ++ x) (laid_front r b (c ++ Z) h)
    ∙ simp append_assoc)

-- a shorter text, with zeros over what it leaves
pub padded_front : (n : ℕ) (b s : List ℕ) → length s ≤ length b → length b ≤ n → laid (s ++ zeros (length b - length s)) 0 (padded n b) ≡ padded n s
unfolding padded
padded_front n b s h l =
    let d : ℕ = length b - length s in
    let e : n - length s ≡ d + (n - length b) = omega arith in
    laid_front (s ++ zeros d) b (zeros (n - length b)) (rw (length-append, zeros_length) (omega arith)) ∙ rw (e, zeros_add) (append_assoc s (zeros d) (zeros (n - length b)))

-- ---- records one behind the other

pub each_map : {A : Type 0} {w : ℕ} (f : A → List ℕ) → ((x : A) → length (f x) ≡ w) → (xs : List A) → Each w (map f xs)
each_map f h [] = none
each_map f h (x ∷ xs) = more (h x) (each_map f h xs)

pub each_inserted : {w : ℕ} {xs : List (List ℕ)} (i : ℕ) (r : List ℕ) → Each w xs → length r ≡ w → Each w (inserted i r xs)
unfolding inserted
each_inserted i r s e = all_append (all_take i s) (more e (all_drop i s))

pub each_replaced : {w : ℕ} {xs : List (List ℕ)} (i : ℕ) (r : List ℕ) → Each w xs → length r ≡ w → Each w (replaced i r xs)
unfolding replaced
each_replaced i r s e = all_append (all_take i s) (more e (all_drop (suc i) s))

pub joined_append : (xs ys : List (List ℕ)) → joined (xs ++ ys) ≡ joined xs ++ joined ys
unfolding joined
joined_append [] ys = refl
joined_append (x ∷ xs) ys = rw (joined_append xs ys, append_assoc)

pub joined_length : {w : ℕ} {xs : List (List ℕ)} → Each w xs → length (joined xs) ≡ w * length xs
unfolding joined
joined_length {w} none = sym (mul-zero w)
joined_length {w} (more {x} {xs} e s) = length-append x (joined xs) ∙ omega (arith, joined_length s, mul-suc w (length xs))

-- up to record i, and from it on
pub joined_split : (i : ℕ) (xs : List (List ℕ)) → joined xs ≡ joined (take i xs) ++ joined (drop i xs)
joined_split i xs = ap joined (sym (take-append-drop i xs)) ∙ joined_append (take i xs) (drop i xs)

pub joined_front : {w : ℕ} {xs : List (List ℕ)} (i : ℕ) → Each w xs → i ≤ length xs → length (joined (take i xs)) ≡ w * i
joined_front {w} {xs} i s h = joined_length (all_take i s) ∙ rw (length-take-le i xs h)

-- record i and those behind it
pub joined_record : (i : ℕ) (xs : List (List ℕ)) → i < length xs → joined (drop i xs) ≡ get_or xs i [] ++ joined (drop (suc i) xs)
unfolding joined
joined_record i xs h = ap joined (drop-cons xs i [] h)

-- ---- a section

-- element i, w bytes long, behind the k bytes of those before it
pub section_part : (n i : ℕ) (xs : List (List ℕ)) (q : List ℕ) (k w : ℕ) → i < length xs → length (joined (take i xs)) ≡ k → length (get_or xs i []) ≡ w
    → take w (drop k (padded n (joined xs) ++ q)) ≡ get_or xs i []
unfolding padded
section_part n i xs q k w h f g =
    let Z : List ℕ = zeros (n - length (joined xs)) in
    let e : joined xs ++ Z ++ q ≡ joined (take i xs) ++ (get_or xs i [] ++ (joined (drop (suc i) xs) ++ (Z ++ q))) =
    rw (joined_split i xs, joined_record i xs h) (simp append_assoc) in
    ap (λ (l : List ℕ). take w (drop k l)) e
    ∙ rw (drop_at (joined (take i xs)) (get_or xs i [] ++ (joined (drop (suc i) xs) ++ (Z ++ q))) k f)
    (take_at (get_or xs i []) (joined (drop (suc i) xs) ++ (Z ++ q)) w g)

module _ {w : ℕ} {xs : List (List ℕ)} (n i : ℕ) (s : Each w xs) where
  pub section_record : (q : List ℕ) → i < length xs → take w (drop (w * i) (padded n (joined xs) ++ q)) ≡ get_or xs i []
  section_record q h = section_part n i xs q (w * i) w h (joined_front i s (omega arith)) (all_at [] i s h)

  module _ (r : List ℕ) (e : length r ≡ w) where
    pub section_replaced : i < length xs → laid r (w * i) (padded n (joined xs)) ≡ padded n (joined (replaced i r xs))
    unfolding replaced joined
    section_replaced h =
        rw (joined_append, joined_split i xs, joined_record i xs h, ← joined_front i s (omega arith))
        (padded_part n (joined (take i xs)) (get_or xs i []) (joined (drop (suc i) xs)) r (e ∙ sym (all_at [] i s h)))

    -- those from record i on stand behind r
    pub section_inserted : i ≤ length xs → w * suc (length xs) ≤ n
        → laid (r ++ joined (drop i xs)) (w * i) (padded n (joined xs)) ≡ padded n (joined (inserted i r xs))
    unfolding inserted joined
    section_inserted h l =
        let f : length (joined (take i xs)) ≡ w * i = joined_front i s h in
        let g : length (joined (take i xs)) + length (joined (drop i xs)) ≡ length (joined xs) =
        sym (ap length (joined_split i xs) ∙ length-append (joined (take i xs)) (joined (drop i xs))) in
        rw (joined_append, joined_split i xs, ← f)
        (padded_laid n (joined (take i xs)) (joined (drop i xs)) (r ++ joined (drop i xs))
        (rw length-append (omega arith))
        (rw length-append (omega (arith, joined_length s, mul-suc w (length xs)))))

-- ---- records read off bytes

pub records_back : {w : ℕ} {xs : List (List ℕ)} (q : List ℕ) → Each w xs → records_of w (length xs) (joined xs ++ q) ≡ xs
unfolding records_of joined
records_back q none = refl
records_back {w} q (more {x} {xs} e s) =
    rw (append_assoc, take_at x (joined xs ++ q) w e, drop_at x (joined xs ++ q) w e, records_back q s)

pub records_more : (w i : ℕ) (bs : List ℕ) → records_of w (suc i) bs ≡ records_of w i bs ++ take w (drop (w * i) bs) ∷ []
unfolding records_of
records_more w zero bs = rw mul-zero
records_more w (suc i) bs =
    let e : w * suc i ≡ w + w * i = mul-suc w i ∙ add_comm (w * i) w in
    ap (λ (l : List (List ℕ)). take w bs ∷ l) (records_more w i (drop w bs) ∙ rw (e, drop-drop (w * i) w bs))

pub records_each : (w i : ℕ) (bs : List ℕ) → w * i ≤ length bs → Each w (records_of w i bs)
unfolding records_of
records_each w zero bs h = none
records_each w (suc i) bs h =
    let e : w * suc i ≡ w * i + w = mul-suc w i in
    more (length-take-le w bs (omega arith)) (records_each w i (drop w bs) (rw length-drop (omega arith)))

pub records_length : (w n : ℕ) (bs : List ℕ) → length (records_of w n bs) ≡ n
unfolding records_of
records_length w zero bs = refl
records_length w (suc n) bs = ap suc (records_length w n (drop w bs))

-- ---- what is done to records is done to what they are made of

module _ {A : Type 0} {B : Type 0} (f : A → B) where
  map_append : (xs ys : List A) → map f (xs ++ ys) ≡ map f xs ++ map f ys
  map_append [] ys = refl
  map_append (x ∷ xs) ys = rw (map_append xs ys)

  map_take : (i : ℕ) (xs : List A) → map f (take i xs) ≡ take i (map f xs)
  map_take zero xs = refl
  map_take (suc i) [] = refl
  map_take (suc i) (x ∷ xs) = rw (map_take i xs)

  map_drop : (i : ℕ) (xs : List A) → map f (drop i xs) ≡ drop i (map f xs)
  map_drop zero xs = refl
  map_drop (suc i) [] = refl
  map_drop (suc i) (x ∷ xs) = map_drop i xs

  pub map_appended : (x : A) (xs : List A) → map f (xs ++ x ∷ []) ≡ map f xs ++ f x ∷ []
  map_appended x xs = map_append xs (x ∷ [])

  pub map_inserted : (i : ℕ) (x : A) (xs : List A) → map f (inserted i x xs) ≡ inserted i (f x) (map f xs)
  unfolding inserted
  map_inserted i x xs = map_append (take i xs) (x ∷ drop i xs) ∙ rw (map_take i xs, map_drop i xs)

  pub map_replaced : (i : ℕ) (x : A) (xs : List A) → map f (replaced i x xs) ≡ replaced i (f x) (map f xs)
  unfolding replaced
  map_replaced i x xs = map_append (take i xs) (x ∷ drop (suc i) xs) ∙ rw (map_take i xs, map_drop (suc i) xs)

-- a test of records that agrees with one of what they are made of, on those of the list
pub data Agree {A B : Type 0} (f : A → B) (p : B → Bool) (t : A → Bool) : List A → Type 0 where
  on_none : Agree f p t []
  on_more : {x : A} {xs : List A} → p (f x) ≡ t x → Agree f p t xs → Agree f p t (x ∷ xs)

pub passing_map : {A B : Type 0} {f : A → B} {p : B → Bool} {t : A → Bool} {xs : List A} → Agree f p t xs → passing p (map f xs) ≡ map f (passing t xs)
unfolding passing
passing_map on_none = refl
passing_map {A} {B} {f} {p} {t} (on_more {x} {xs} h s) =
    ap (λ (b : Bool). cond b (f x ∷ passing p (map f xs)) (passing p (map f xs))) h ∙ go (t x) (passing_map s)
  where
    go : (b : Bool) → passing p (map f xs) ≡ map f (passing t xs)
        → cond b (f x ∷ passing p (map f xs)) (passing p (map f xs)) ≡ map f (cond b (x ∷ passing t xs) (passing t xs))
    go true e = ap (λ (l : List B). f x ∷ l) e
    go false e = e

pub passing_append : {A : Type 0} (p : A → Bool) (xs ys : List A) → passing p (xs ++ ys) ≡ passing p xs ++ passing p ys
unfolding passing
passing_append p [] ys = refl
passing_append {A} p (x ∷ xs) ys = go (p x) (passing_append p xs ys)
  where
    go : (b : Bool) → passing p (xs ++ ys) ≡ passing p xs ++ passing p ys
        → cond b (x ∷ passing p (xs ++ ys)) (passing p (xs ++ ys)) ≡ cond b (x ∷ passing p xs) (passing p xs) ++ passing p ys
    go true e = ap (λ (l : List A). x ∷ l) e
    go false e = e

pub passing_length : {A : Type 0} (p : A → Bool) (xs : List A) → length (passing p xs) ≤ length xs
unfolding passing
passing_length p [] = omega arith
passing_length p (x ∷ xs) = go (p x) (passing_length p xs)
  where
    go : (b : Bool) → length (passing p xs) ≤ length xs → length (cond b (x ∷ passing p xs) (passing p xs)) ≤ suc (length xs)
    go true h = omega arith
    go false h = omega arith
