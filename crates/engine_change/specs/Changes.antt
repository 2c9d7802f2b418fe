-- What is done to a section of an area is done to what its records are made of, for every width, room and place.
use Rattle.std.specs.Prelude.{◌≡◌, Bool, List, [], ◌++◌, map, ℕ, suc, ◌+◌, ◌-◌, ◌*◌, ◌≤◌, ◌<◌, length}
use Rattle.std.proofs.Common.{sym, ap, ◌∙◌, append_assoc, append-nil, add-zero, mul-le-mul_left, arith, length-append, length-drop, length-take-le}
use Rattle.std.proofs.lemmas.List.{length-map}
use Rattle.rules.specs.Text.{passing}
use Rattle.rules.specs.Area.{padded, joined}
use Rattle.laws.specs.Laid.{laid, laid_front}
use Rattle.laws.specs.Writing.{Wrote}
use Rattle.laws.specs.All.{all_passing}
use Rattle.laws.specs.Sections.{Each, inserted, replaced, Agree, passing_map, padded_length, joined_length, each_inserted, each_replaced, map_inserted, map_replaced, passing_length}
use Rattle.laws.specs.Standing.{Stands, moved, stands_laid, stands_replaced, stands_inserted}
use Rattle.laws.specs.Moving.{Sifted, sifted_count, stands_sifted}

-- ---- parts side by side

pub stands_back : (p x y q : List ℕ) {area : List ℕ} {base at : ℕ} → length p ≡ base → Stands (p ++ x) y q at area → Stands p x (y ++ q) base area
stands_back p x y q e t = record { before = e; whole = t.whole ∙ append_assoc p x (y ++ q) }

-- a part gives way to one as long
pub stands_other : {p x q area : List ℕ} {base : ℕ} (r : List ℕ) → length r ≡ length x → Stands p x q base area → Stands p r q base (laid r base area)
stands_other {p} {x} {q} {area} {base} r e t =
    let f : laid r 0 x ≡ r = ap (laid r 0) (sym (append-nil x)) ∙ laid_front r x [] e ∙ append-nil r in
    rw (add-zero base, f) at (stands_laid t r 0 (omega arith))

-- two areas that differ in one part
pub stands_laid_over : {p x y q area area' : List ℕ} {base : ℕ} → length y ≡ length x → Stands p x q base area → Stands p y q base area' → area' ≡ laid y base area
stands_laid_over {y = y} e t u = u.whole ∙ sym (stands_other y e t).whole

-- ---- a section

pub replaced_length : {A : Type 0} (i : ℕ) (x : A) (xs : List A) → i < length xs → length (replaced i x xs) ≡ length xs
unfolding replaced
replaced_length i x xs h = rw (length-append, length-take-le i xs (omega arith), length-drop) (omega arith)

pub inserted_length : {A : Type 0} (i : ℕ) (x : A) (xs : List A) → i ≤ length xs → length (inserted i x xs) ≡ suc (length xs)
unfolding inserted
inserted_length i x xs h = rw (length-append, length-take-le i xs h, length-drop) (omega arith)

abbrev pub section : {A : Type 0} → ℕ → (A → List ℕ) → List A → List ℕ
section n write xs = padded n (joined (map write xs))

pub section_length : {A : Type 0} (write : A → List ℕ) {w : ℕ} (n : ℕ) (xs : List A) → Each w (map write xs) → w * length xs ≤ n → length (section n write xs) ≡ n
section_length write n xs s l = padded_length n (joined (map write xs)) (rw (joined_length s, length-map xs write) l)

module _ {A : Type 0} (write : A → List ℕ) {w base : ℕ} (n : ℕ) {p q area : List ℕ} (xs : List A) (s : Each w (map write xs)) (l : w * length xs ≤ n) (t : Stands p (section n write xs) q base area) where
  now_has : {area' : List ℕ} (ys : List A) → Each w (map write ys) → w * length ys ≤ n → Stands p (section n write ys) q base area' → area' ≡ laid (section n write ys) base area
  now_has ys e k u = stands_laid_over (section_length write n ys e k ∙ sym (section_length write n xs s l)) t u

  same : length (map write xs) ≡ length xs
  same = length-map xs write

  -- x written over element i
  pub section_replaced : (i : ℕ) (x : A) {m : ℕ} {area' : List ℕ} → length (write x) ≡ w → i < length xs → Wrote (write x) (base + w * i) area m area'
      → area' ≡ laid (section n write (replaced i x xs)) base area
  section_replaced i x e h v =
      now_has (replaced i x xs) (rw map_replaced (each_replaced i (write x) s e)) (rw (replaced_length i x xs h) l)
      (rw map_replaced (stands_replaced n t s (write x) e i (rw same h) (rw same l) v))

  -- those from element i on moved up, and x written before them
  pub section_inserted : (i : ℕ) (x : A) {m : ℕ} {area₁ area' : List ℕ} → length (write x) ≡ w → i ≤ length xs → w * suc (length xs) ≤ n
      → area₁ ≡ moved (base + w * i) (base + w * i + w) (w * (length xs - i)) area → Wrote (write x) (base + w * i) area₁ m area'
      → area' ≡ laid (section n write (inserted i x xs)) base area
  section_inserted i x e h k u v =
      now_has (inserted i x xs) (rw map_inserted (each_inserted i (write x) s e)) (rw (inserted_length i x xs h) k)
      (rw map_inserted (stands_inserted n t s (write x) e i (rw same h) (rw same k) (rw same u) v))

  -- those that pass a test kept
  pub section_passing : {f : List ℕ → Bool} {g : A → Bool} {j : ℕ} {area' : List ℕ} → Agree write f g xs → Sifted f w (length xs) base area j area'
      → area' ≡ laid (section n write (passing g xs)) base area
  section_passing {f} {g} {j} {area'} a v =
      let v' : Sifted f w (length (map write xs)) base area j area' = rw same v in
      let e : passing f (map write xs) ≡ map write (passing g xs) = passing_map a in
      let k : w * length (passing g xs) ≤ n = omega (arith, mul-le-mul_left w (passing_length g xs)) in
      now_has (passing g xs) (rw e at (all_passing f s)) k
      (rw e at (stands_sifted n t s v' (rw same l)))

  pub section_counted : {f : List ℕ → Bool} {g : A → Bool} {j : ℕ} {area' : List ℕ} → Agree write f g xs → Sifted f w (length xs) base area j area' → j ≡ length (passing g xs)
  section_counted {f} {g} {j} {area'} a v =
      let v' : Sifted f w (length (map write xs)) base area j area' = rw same v in
      sifted_count n t s v' ∙ ap length (passing_map a) ∙ length-map (passing g xs) write
