-- A text laid over an output, as every writer does: texts laid one after the other, apart from each other or inside each other.
use Rattle.std.specs.Prelude.{◌≡◌, refl, ◌≢◌, List, [], ◌∷◌, ◌++◌, ℕ, zero, suc, ◌+◌, ◌≤◌, ◌<◌, length, get_or, take, drop, set}
use Rattle.std.proofs.Common.{sym, ap, ◌∙◌, add-zero, add-suc, suc-add, zero-add, arith, length-set, length-append, set-set, get_or-set_other, drop-set-lt, drop_at}
use Rattle.std.proofs.lemmas.List.Edits.{sets, sets-eq}
use Rattle.std.proofs.Math.Seq.{set_out}
use Rattle.std.proofs.lemmas.List.{set_comm, take-set-le}
use Rattle.rules.specs.Text.{over}

-- the output with a text laid over it from a place on, as far as the output reaches
unfoldable pub laid : List ℕ → ℕ → List ℕ → List ℕ
laid [] at out = out
laid (b ∷ bs) at out = laid bs (suc at) (set out at b)

-- ---- one text

pub laid_length : (bs : List ℕ) (at : ℕ) (out : List ℕ) → length (laid bs at out) ≡ length out
unfolding laid
laid_length [] at out = refl
laid_length (b ∷ bs) at out = laid_length bs (suc at) (set out at b) ∙ length-set out at b

-- behind the end nothing is laid
pub laid_behind : (bs : List ℕ) (at : ℕ) (out : List ℕ) → length out ≤ at → laid bs at out ≡ out
unfolding laid
laid_behind [] at out h = refl
laid_behind (b ∷ bs) at out h =
    let e : set out at b ≡ out = set_out out at b h in
    ap (laid bs (suc at)) e ∙ laid_behind bs (suc at) out (omega arith)

-- where it fits, the output is cut open and the text stands between its parts
pub laid_fits : (bs : List ℕ) (at : ℕ) (out : List ℕ) → at + length bs ≤ length out → laid bs at out ≡ take at out ++ bs ++ drop (at + length bs) out
unfolding laid
laid_fits bs at out h = as_stores bs at out ∙ sets-eq bs out at h
  where
    as_stores : (bs : List ℕ) (at : ℕ) (out : List ℕ) → laid bs at out ≡ sets out at bs
    as_stores [] at out = refl
    as_stores (b ∷ bs) at out = as_stores bs (suc at) (set out at b)

-- "Output behind the bytes written stays.": a text over the front of an output that has room for it
pub over_laid : (text out : List ℕ) → length text ≤ length out → over text out ≡ laid text 0 out
unfolding over
over_laid text out h =
    let e : 0 + length text ≡ length text = omega arith in
    sym (laid_fits text 0 out (omega arith) ∙ rw e)

-- ---- two texts

-- one text behind the other
pub laid_append : (a b : List ℕ) (at : ℕ) (out : List ℕ) → laid (a ++ b) at out ≡ laid b (at + length a) (laid a at out)
unfolding laid
laid_append [] b at out = rw add-zero
laid_append (x ∷ a) b at out = rw (add-suc, ← suc-add) (laid_append a b (suc at) (set out at x))

-- a store before a text, and a load before it or behind it
pub laid_set : (s : List ℕ) (at i b : ℕ) (out : List ℕ) → i < at → set (laid s at out) i b ≡ laid s at (set out i b)
unfolding laid
laid_set [] at i b out h = refl
laid_set (x ∷ s) at i b out h =
    let n : at ≢ i = λ e. omega arith in
    laid_set s (suc at) i b (set out at x) (omega arith) ∙ ap (laid s (suc at)) (set_comm out at i x b n)

pub laid_load_before : (s : List ℕ) (at i : ℕ) (out : List ℕ) → i < at → get_or (laid s at out) i 0 ≡ get_or out i 0
unfolding laid
laid_load_before [] at i out h = refl
laid_load_before (x ∷ s) at i out h =
    let n : i ≢ at = λ e. omega arith in
    laid_load_before s (suc at) i (set out at x) (omega arith) ∙ get_or-set_other out at i x 0 n

pub laid_load_behind : (s : List ℕ) (at i : ℕ) (out : List ℕ) → at + length s ≤ i → get_or (laid s at out) i 0 ≡ get_or out i 0
unfolding laid
laid_load_behind [] at i out h = refl
laid_load_behind (x ∷ s) at i out h =
    let n : i ≢ at = λ e. omega arith in
    laid_load_behind s (suc at) i (set out at x) (omega (arith, suc-add at (length s), add-suc at (length s))) ∙ get_or-set_other out at i x 0 n

-- two texts that do not meet, in either order
pub laid_apart : (a b : List ℕ) (at to : ℕ) (out : List ℕ) → at + length a ≤ to → laid a at (laid b to out) ≡ laid b to (laid a at out)
unfolding laid
laid_apart [] b at to out h = refl
laid_apart (x ∷ a) b at to out h =
    ap (laid a (suc at)) (laid_set b to at x out (omega arith))
    ∙ laid_apart a b (suc at) to (set out at x) (omega (arith, suc-add at (length a), add-suc at (length a)))

-- a text laid into another
laid_set_within : (s : List ℕ) (base j b : ℕ) (out : List ℕ) → j < length s → set (laid s base out) (base + j) b ≡ laid (set s j b) base out
unfolding laid
laid_set_within [] base j b out h = absurd (omega arith)
laid_set_within (x ∷ s) base zero b out h = rw (add-zero, laid_set s (suc base) base b (set out base x) (omega arith), set-set)
laid_set_within (x ∷ s) base (suc j) b out h = rw (add-suc, ← suc-add) (laid_set_within s (suc base) j b (set out base x) (omega arith))

pub laid_within : (r s : List ℕ) (base j : ℕ) (out : List ℕ) → j + length r ≤ length s → laid r (base + j) (laid s base out) ≡ laid (laid r j s) base out
unfolding laid
laid_within [] s base j out h = refl
laid_within (b ∷ r) s base j out h =
    rw (laid_set_within s base j b out (omega arith), ← add-suc)
    (laid_within r (set s j b) base (suc j) out (omega (arith, length-set s j b, suc-add j (length r), add-suc j (length r))))

-- ---- parts of an output

-- behind a front, and over a front as long as the text
laid_cons : (r : List ℕ) (i x : ℕ) (l : List ℕ) → laid r (suc i) (x ∷ l) ≡ x ∷ laid r i l
unfolding laid
laid_cons [] i x l = refl
laid_cons (y ∷ r) i x l = laid_cons r (suc i) x (set l i y)

pub laid_past : (r a b : List ℕ) (i : ℕ) → laid r (length a + i) (a ++ b) ≡ a ++ laid r i b
laid_past r [] b i = rw zero-add
laid_past r (x ∷ a) b i = rw suc-add (laid_cons r (length a + i) x (a ++ b) ∙ ap (λ (l : List ℕ). x ∷ l) (laid_past r a b i))

pub laid_front : (r a b : List ℕ) → length r ≡ length a → laid r 0 (a ++ b) ≡ r ++ b
laid_front r a b e =
    let z : 0 + length r ≡ length r = omega arith in
    laid_fits r 0 (a ++ b) (omega (arith, length-append a b)) ∙ rw (z, drop_at a b (length r) (sym e))

-- what stands before a text, and what stands behind it
pub laid_take : (s : List ℕ) (at n : ℕ) (out : List ℕ) → n ≤ at → take n (laid s at out) ≡ take n out
unfolding laid
laid_take [] at n out h = refl
laid_take (x ∷ s) at n out h = laid_take s (suc at) n (set out at x) (omega arith) ∙ take-set-le n out at x h

pub laid_drop : (s : List ℕ) (at n : ℕ) (out : List ℕ) → at + length s ≤ n → drop n (laid s at out) ≡ drop n out
unfolding laid
laid_drop [] at n out h = refl
laid_drop (x ∷ s) at n out h =
    laid_drop s (suc at) n (set out at x) (omega (arith, suc-add at (length s), add-suc at (length s))) ∙ drop-set-lt n out at x (omega arith)
