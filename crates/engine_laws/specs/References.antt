-- References in their order: one more, of the right form and new (12), put in its place leaves them of the right form and in order; and those in order are distinct.
use Rattle.std.specs.Prelude.{◌≡◌, refl, Bool, true, false, ◌&&◌, ◌||◌, not, cond, List, [], ◌∷◌, ℕ, suc, ◌+◌, ◌≤◌, ◌<◌, leb, eqb, length}
use Rattle.std.proofs.Common.{sym, ◌∙◌, arith, leb-true, leb-false, le-leb, eqb-true, eq-eqb, ne_eqb}
use Rattle.std.proofs.lemmas.Bool.{lt-leb, eqb-false, not-false}
use Rattle.rules.specs.Text.{equal, any, twice, text_before}
use Rattle.rules.specs.Engine.{Reference, same_reference, precedes, filed, good_reference, good_references}
use Rattle.laws.specs.Tests.{cond_right, never, cond_left, cond_both, or_left, or_right, any_left, any_right, any_neither}
use Rattle.laws.specs.All.{All, All.none, All.more}
use Rattle.laws.specs.Order.{Ordering, Sorted, Sorted.empty, Sorted.next, all_before}

-- ---- byte order of texts

pub data Ahead : List ℕ → List ℕ → Type 0 where
  short : {d : ℕ} {ds : List ℕ} → Ahead [] (d ∷ ds)
  low : {c d : ℕ} {cs ds : List ℕ} → c < d → Ahead (c ∷ cs) (d ∷ ds)
  on : {c d : ℕ} {cs ds : List ℕ} → c ≡ d → Ahead cs ds → Ahead (c ∷ cs) (d ∷ ds)

ahead_trans : {a b c : List ℕ} → Ahead a b → Ahead b c → Ahead a c
ahead_trans short (low k) = short
ahead_trans short (on f k) = short
ahead_trans (low {c} h) (low {d = x} k) = let l : c < x = omega arith in low l
ahead_trans (low {c} h) (on {d = x} f k) = let l : c < x = omega arith in low l
ahead_trans (on {c} e h) (low {d = x} k) = let l : c < x = omega arith in low l
ahead_trans (on e h) (on f k) = on (e ∙ f) (ahead_trans h k)

ahead_says : (a b : List ℕ) → text_before a b ≡ true → Ahead a b
unfolding text_before
ahead_says [] [] h = never h
ahead_says [] (d ∷ ds) h = short
ahead_says (c ∷ cs) [] h = never h
ahead_says (c ∷ cs) (d ∷ ds) h = go (eqb c d) (leb d c) refl refl (ahead_says cs ds) h
  where
    go : (t u : Bool) → eqb c d ≡ t → leb d c ≡ u → (text_before cs ds ≡ true → Ahead cs ds) → cond t (text_before cs ds) (not u) ≡ true → Ahead (c ∷ cs) (d ∷ ds)
    go true u e f i k = on (eqb-true c d e) (i k)
    go false true e f i k = never k
    go false false e f i k = low (leb-false d c f)

ahead_tests : {a b : List ℕ} → Ahead a b → text_before a b ≡ true
unfolding text_before
ahead_tests short = refl
ahead_tests (low {c} {d} h) = rw (ne_eqb c d (λ (e : c ≡ d). omega arith), lt-leb d c h)
ahead_tests (on {c} {d} e k) = rw (eq-eqb c d e) (ahead_tests k)

-- one that stands before another is not the same
ahead_other : {a b : List ℕ} → Ahead a b → equal a b ≡ false
unfolding equal
ahead_other short = refl
ahead_other (low {c} {d} h) = rw (ne_eqb c d (λ (e : c ≡ d). omega arith))
ahead_other (on {c} {d} e k) = rw (eq-eqb c d e) (ahead_other k)

-- of two that differ one stands before the other
ahead_turned : (a b : List ℕ) → text_before a b ≡ false → equal b a ≡ false → Ahead b a
unfolding text_before equal
ahead_turned [] [] h k = never (sym k)
ahead_turned [] (d ∷ ds) h k = never (sym h)
ahead_turned (c ∷ cs) [] h k = short
ahead_turned (c ∷ cs) (d ∷ ds) h k = go (eqb c d) refl (ahead_turned cs ds) h k
  where
    go : (t : Bool) → eqb c d ≡ t → (text_before cs ds ≡ false → equal ds cs ≡ false → Ahead ds cs) → cond t (text_before cs ds) (not (leb d c)) ≡ false → equal (d ∷ ds) (c ∷ cs) ≡ false → Ahead (d ∷ ds) (c ∷ cs)
    go true e i l m = on (sym (eqb-true c d e)) (i l (rw (eq-eqb d c (sym (eqb-true c d e))) at m))
    go false e i l m =
        let n : c ≡ d → ⊥ = eqb-false c d e in
        let o : d ≤ c = leb-true d c (not-false _ l) in
        let l : d < c = omega (arith, n, o) in low l

-- ---- sender, then text

pub data Precedes (r q : Reference) : Type 0 where
  sender : r.sender < q.sender → Precedes r q
  text : r.sender ≡ q.sender → Ahead r.text q.text → Precedes r q

precedes_trans : {r q p : Reference} → Precedes r q → Precedes q p → Precedes r p
precedes_trans (sender h) (sender k) = sender (omega arith)
precedes_trans (sender h) (text f k) = sender (omega arith)
precedes_trans (text e h) (sender k) = sender (omega arith)
precedes_trans (text e h) (text f k) = text (e ∙ f) (ahead_trans h k)

precedes_says : (r q : Reference) → precedes r q ≡ true → Precedes r q
unfolding precedes
precedes_says r q h = go (leb q.sender r.sender) (eqb r.sender q.sender) refl refl h
  where
    go : (s t : Bool) → leb q.sender r.sender ≡ s → eqb r.sender q.sender ≡ t → (not s || (t && text_before r.text q.text)) ≡ true → Precedes r q
    go false t a b k = sender (leb-false q.sender r.sender a)
    go true true a b k = text (eqb-true _ _ b) (ahead_says r.text q.text k)
    go true false a b k = never k

precedes_tests : {r q : Reference} → Precedes r q → precedes r q ≡ true
unfolding precedes
precedes_tests {r} {q} (sender h) = rw (lt-leb q.sender r.sender h)
precedes_tests {r} {q} (text e k) = rw (le-leb q.sender r.sender (omega arith), eq-eqb r.sender q.sender e, ahead_tests k)

pub reference_order : Ordering precedes Precedes
reference_order = record { says = precedes_says; tests = precedes_tests; chains = precedes_trans }

-- one that precedes another is not the same
precedes_other : {r q : Reference} → Precedes r q → same_reference r q ≡ false
unfolding same_reference
precedes_other {r} {q} (sender h) = rw (ne_eqb r.sender q.sender (λ (e : r.sender ≡ q.sender). omega arith))
precedes_other {r} {q} (text e k) = rw (eq-eqb r.sender q.sender e) (ahead_other k)

-- of two that differ one precedes the other
precedes_turned : (q r : Reference) → precedes q r ≡ false → same_reference r q ≡ false → Precedes r q
unfolding precedes same_reference
precedes_turned q r h k = go (eqb r.sender q.sender) refl k
  where
    least : r.sender ≤ q.sender
    least = leb-true r.sender q.sender (not-false _ (or_left _ _ h))

    go : (t : Bool) → eqb r.sender q.sender ≡ t → (t && equal r.text q.text) ≡ false → Precedes r q
    go false e l = let n : r.sender ≡ q.sender → ⊥ = eqb-false _ _ e in sender (omega (arith, n, least))
    go true e l =
        let s : r.sender ≡ q.sender = eqb-true _ _ e in
        let b : (eqb q.sender r.sender && text_before q.text r.text) ≡ false = or_right (not (leb r.sender q.sender)) _ h in
        text s (ahead_turned q.text r.text (rw (eq-eqb q.sender r.sender (sym s)) at b) l)

-- ---- those in order are distinct

others_differ : (r : Reference) {rs : List Reference} → All (Precedes r) rs → any (same_reference r) rs ≡ false
unfolding any
others_differ r none = refl
others_differ r (more k s) = any_neither _ _ (precedes_other k) (others_differ r s)

-- "references of one sender distinct"
pub order_distinct : {rs : List Reference} → Sorted Precedes rs → twice same_reference rs ≡ false
unfolding twice
order_distinct empty = refl
order_distinct (next {x} a s) = any_neither _ _ (others_differ x a) (order_distinct s)

-- ---- one put in its place

module _ (r q : Reference) (rs : List Reference) where
  pub filed_behind : precedes q r ≡ true → filed r (q ∷ rs) ≡ q ∷ filed r rs
  unfolding filed
  filed_behind h = rw h

  pub filed_here : precedes q r ≡ false → filed r (q ∷ rs) ≡ r ∷ q ∷ rs
  unfolding filed
  filed_here h = rw h

pub filed_length : (r : Reference) (rs : List Reference) → length (filed r rs) ≡ length rs + 1
unfolding filed
filed_length r [] = refl
filed_length r (q ∷ rs) = go (precedes q r) (filed_length r rs)
  where
    go : (t : Bool) → length (filed r rs) ≡ length rs + 1 → length (cond t (q ∷ filed r rs) (r ∷ q ∷ rs)) ≡ suc (length rs) + 1
    go true i = omega (arith, i)
    go false i = omega arith

all_filed : {P : Reference → Type 0} (r : Reference) {rs : List Reference} → P r → All P rs → All P (filed r rs)
unfolding filed
all_filed r h none = more h none
all_filed {P} r h (more {x = q} {xs = rs} k s) = go (precedes q r) (all_filed r h s)
  where
    go : (t : Bool) → All P (filed r rs) → All P (cond t (q ∷ filed r rs) (r ∷ q ∷ rs))
    go true i = more k i
    go false i = more h (more k s)

pub filed_sorted : (r : Reference) {rs : List Reference} → Sorted Precedes rs → any (same_reference r) rs ≡ false → Sorted Precedes (filed r rs)
unfolding filed any
filed_sorted r empty h = next none empty
filed_sorted r (next {x = q} {xs = rs} a s) h = go (precedes q r) refl (filed_sorted r s (any_right (same_reference r q) (any (same_reference r) rs) h))
  where
    go : (t : Bool) → precedes q r ≡ t → Sorted Precedes (filed r rs) → Sorted Precedes (cond t (q ∷ filed r rs) (r ∷ q ∷ rs))
    go true e i = next (all_filed r (precedes_says q r e) a) i
    go false e i =
        let k : Precedes r q = precedes_turned q r e (any_left (same_reference r q) (any (same_reference r) rs) h) in
        next (more k (all_before reference_order k a)) (next a s)

-- ---- each of the right form

abbrev pub Form : Reference → Type 0
Form r = good_reference r ≡ true

pub all_forms : (rs : List Reference) → good_references rs ≡ true → All Form rs
unfolding good_references
all_forms [] h = none
all_forms (r ∷ rs) h = more (cond_left (good_reference r) (good_references rs) h) (all_forms rs (cond_right (good_reference r) (good_references rs) h))

pub forms_all : {rs : List Reference} → All Form rs → good_references rs ≡ true
unfolding good_references
forms_all none = refl
forms_all (more g s) = cond_both _ _ g (forms_all s)

pub filed_good : (rs : List Reference) (r : Reference) → good_references rs ≡ true → good_reference r ≡ true → good_references (filed r rs) ≡ true
filed_good rs r h k = forms_all (all_filed r k (all_forms rs h))
