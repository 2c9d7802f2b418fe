-- Records that pass their tests, one behind the other: all of them are within the limits, in order, distinct, and written as they stand.
use Rattle.std.specs.Prelude.{◌≡◌, Bool, true, false, not, cond, List, [], ◌∷◌, ◌++◌, map, leb, eqb, length, take, replicate}
use Rattle.std.proofs.Math.Path.{refl}
use Rattle.std.proofs.Common.{sym, ap, ◌∙◌, add-zero, lit≤, length-append, length-drop, length-take-le, eqb-true, eq-eqb, ne_eqb, le-leb}
use Prim.Native.Nat.{ℕ, zero, suc, ◌+◌, ◌-◌, ◌*◌, ◌≤◌}
use native.Mathlib.Omega.{arith}
use Rattle.std.proofs.Math.ListN.{drop}
use Rattle.std.proofs.lemmas.List.{length-map}
use Rattle.std.proofs.Math.Seq.{drop-drop}
use Rattle.std.proofs.lemmas.Bool.{eqb-false, lt-leb}
use Rattle.rules.specs.Text.{is_text, every, big_endian, ordered, text_before}
use Rattle.rules.specs.Engine.{earlier, precedes}
use Rattle.rules.specs.Area.{zeros, padded, until_zero, number_at, reference_in, position_in, reference_record, position_record, records, record_size, records_of}
use Rattle.laws.specs.Numbers.{Within, bytes_within}
use Rattle.laws.specs.Parts.{cut}
use Rattle.laws.specs.Sections.{zeros_length, records_length}
use Rattle.laws.specs.Tests.{cond_right, cond_left, cond_both}
use Rattle.laws.specs.All.{All, All.none, All.more, all_take, all_drop}
use Rattle.engine_laws.specs.Bytes.{Bytes}
use Rattle.engine_laws.specs.Layout.{text_byte}
use Rattle.engine_laws.specs.Positions.{Good}
use Rattle.engine_laws.specs.References.{Form}
use Rattle.engine_laws.specs.Walk.{walk, always}
use Rattle.engine_laws.specs.Tests.{reference_test, precedes_by, filed_test, value_at, position_fits, position_test, order_test}
use Rattle.engine_laws.specs.Records.{cut_is, in_record, position_good, position_same, position_test_lem, text_length, reference_good, reference_same, reference_filled, reference_test_lem}

-- ---- a walk is a test of the list of records

unfoldable pub each : (List ℕ → Bool) → List (List ℕ) → Bool
each f [] = true
each f (r ∷ rs) = cond (f r) (each f rs) false

pub walk_each : (a : List ℕ) (t : ℕ → ℕ → Bool) (f : List ℕ → Bool) → ((k p : ℕ) → t k p ≡ f (cut a p (p + record_size))) → (n p : ℕ) → walk t n p ≡ each f (records n (drop p a))
unfolding walk each records_of
walk_each a t f h zero p = refl
walk_each a t f h (suc n) p = rw (h n p, cut_is a p record_size, drop-drop record_size p a, walk_each a t f h n (p + record_size))

-- ---- records of bytes

pub record Rec (r : List ℕ) : Type 0 where
  pub bytes : Within 256 0 r
  pub wide : length r ≡ record_size

pub records_bytes : (a : List ℕ) → Bytes a → (n p : ℕ) → p + record_size * n ≤ length a → All Rec (records n (drop p a))
unfolding records_of
records_bytes a b zero p h = none
records_bytes a b (suc n) p h =
    let others : All Rec (records n (drop record_size (drop p a))) = rw (drop-drop record_size p a) (records_bytes a b n (p + record_size) (omega arith)) in
    more record { bytes = all_take record_size (all_drop p (bytes_within a b)); wide = length-take-le record_size (drop p a) (rw length-drop (omega arith)) } others

pub reads_length : {A : Type 0} (reads : List ℕ → A) (n : ℕ) (cs : List ℕ) → length (map reads (records n cs)) ≡ n
reads_length reads n cs = length-map (records n cs) reads ∙ records_length record_size n cs

-- a test of a record: it passes exactly if P holds of what the record says, which is written as it stands
pub record Checks {A : Type 0} (f : List ℕ → Bool) (write : A → List ℕ) (reads : List ℕ → A) (P : A → Type 0) : Type 0 where
  pub good : (r : List ℕ) → Rec r → f r ≡ true → P (reads r)
  pub same : (r : List ℕ) → Rec r → f r ≡ true → write (reads r) ≡ r
  pub test : (r : List ℕ) → Rec r → P (reads r) → write (reads r) ≡ r → f r ≡ true

module _ {A : Type 0} (f : List ℕ → Bool) (write : A → List ℕ) (reads : List ℕ → A) (P : A → Type 0) (c : Checks f write reads P) where
  pub each_good : {rs : List (List ℕ)} → All Rec rs → each f rs ≡ true → All P (map reads rs)
  unfolding each
  each_good none h = none
  each_good (more {x = r} {xs = rs} k s) h = more (c.good r k (cond_left (f r) (each f rs) h)) (each_good s (cond_right (f r) (each f rs) h))

  pub each_same : {rs : List (List ℕ)} → All Rec rs → each f rs ≡ true → map write (map reads rs) ≡ rs
  unfolding each
  each_same none h = refl
  each_same (more {x = r} {xs = rs} k s) h = rw (c.same r k (cond_left (f r) (each f rs) h), each_same s (cond_right (f r) (each f rs) h))

  pub each_test : {rs : List (List ℕ)} → All Rec rs → All P (map reads rs) → map write (map reads rs) ≡ rs → each f rs ≡ true
  unfolding each
  each_test none a e = refl
  each_test (more {x = r} {xs = rs} k s) (more g a) e =
      cond_both _ _ (c.test r k g (cc)) (each_test s a (cc))

-- a test of each record and the next is the order of what they say
module _ {A : Type 0} (a : List ℕ) (test : ℕ → Bool) (reads : List ℕ → A) (before : A → A → Bool) (P : List ℕ → Type 0)
    (same : (p : ℕ) → P (take record_size (drop p a)) → P (take record_size (drop (p + record_size) a)) → test p ≡ before (reads (take record_size (drop p a))) (reads (take record_size (drop (p + record_size) a)))) where
  next_from : (n p : ℕ) → All P (records (suc n) (drop p a)) → walk (always test) n p ≡ ordered before (map reads (records (suc n) (drop p a)))
  unfolding walk ordered records_of
  next_from zero p w = refl
  next_from (suc n) p (more k (more l w)) =
      let e : drop record_size (drop p a) ≡ drop (p + record_size) a = drop-drop record_size p a in
      let o : walk (always test) n (p + record_size) ≡ ordered before (map reads (records (suc n) (drop (p + record_size) a))) = next_from n (p + record_size) (rw e at (more l w)) in
      rw (same p k (rw e at l), o)
      (ap (λ (ys : List ℕ). cond (before (reads (take record_size (drop p a))) (reads (take record_size ys))) (ordered before (map reads (records (suc n) ys))) false) (sym e))

  pub next_walk : (n p : ℕ) → All P (records n (drop p a)) → walk (always test) (n - 1) p ≡ ordered before (map reads (records n (drop p a)))
  unfolding walk ordered records_of
  next_walk zero p w = refl
  next_walk (suc n) p w = let e : suc n - 1 ≡ n = omega arith in rw e (next_from n p w)

-- ---- positions

pub position_checks : (day : ℕ) → Checks (position_fits day) position_record position_in (Good day)
position_checks day = record {
  good = λ r k h. position_good r k.bytes k.wide day h;
  same = λ r k h. position_same r k.bytes k.wide day h;
  test = λ r k g e. position_test_lem r k.bytes k.wide day g e;
}

pub positions_walk : (day : ℕ) (a : List ℕ) (n p : ℕ) → walk (always (position_test day a)) n p ≡ each (position_fits day) (records n (drop p a))
unfolding position_test value_at
positions_walk day a n p = walk_each a (always (position_test day a)) (position_fits day) (λ k q. rw (cut_is a q record_size)) n p

-- a number of a record, as it stands in the area
number_in : (a : List ℕ) (p i w : ℕ) → i + w ≤ record_size → big_endian (cut a (p + i) (p + (i + w))) ≡ number_at (take record_size (drop p a)) i w
number_in a p i w h = ap big_endian (sym (in_record a p i (i + w) h) ∙ cut_is (cut a p (p + record_size)) i w ∙ rw (cut_is a p record_size))

-- and so is the text of a reference
pub text_in : (a : List ℕ) (p : ℕ) → cut a (p + 8) (p + 8 + 16) ≡ take 16 (drop 8 (take record_size (drop p a)))
text_in a p = let e : p + 8 + 16 ≡ p + record_size = omega arith in rw e (sym (in_record a p 8 record_size (lit≤ tt)) ∙ cut_is (cut a p (p + record_size)) 8 16 ∙ rw (cut_is a p record_size))

pub order_walk : (a : List ℕ) (n p : ℕ) → All Rec (records n (drop p a)) → walk (always (order_test a)) (n - 1) p ≡ ordered earlier (map position_in (records n (drop p a)))
unfolding order_test value_at position_in
order_walk a n p w = next_walk a (order_test a) position_in earlier Rec (λ q k l. refl) n p w

-- ---- references

unfoldable pub reference_fits : List ℕ → Bool
reference_fits r = reference_test r 0

pub reference_checks : Checks reference_fits reference_record reference_in Form
unfolding reference_fits
reference_checks = record {
  good = λ r k h. reference_good r k.bytes k.wide h;
  same = λ r k h. reference_same r k.bytes k.wide h;
  test = λ r k g e. reference_test_lem r k.bytes k.wide g e;
}

pub references_walk : (a : List ℕ) (n p : ℕ) → walk (always (reference_test a)) n p ≡ each reference_fits (records n (drop p a))
unfolding reference_fits reference_test
references_walk a n p =
    walk_each a (always (reference_test a)) reference_fits (λ k q. let e : q + 8 + 16 ≡ q + record_size = omega arith in rw (in_record a q 0 8 (lit≤ tt), in_record a q 8 record_size (lit≤ tt), add-zero, e)) n p

-- a record written as it stands
abbrev pub Whole : List ℕ → Type 0
Whole r = reference_record (reference_in r) ≡ r

pub whole_all : {rs : List (List ℕ)} → All Rec rs → map reference_record (map reference_in rs) ≡ rs → All Whole rs
whole_all none e = none
whole_all (more {x = r} k s) e = more {x = r} (cc) (whole_all s (cc))

-- ---- texts with zeros behind them stand in the order of the texts

-- no byte is zero
abbrev pub NoZero : List ℕ → Type 0
NoZero cs = All (λ (c : ℕ). c ≡ 0 → ⊥) cs

until_some : (cs : List ℕ) → NoZero (until_zero cs)
unfolding until_zero
until_some [] = none
until_some (c ∷ cs) = go (eqb c 0) refl (until_some cs)
  where
    go : (t : Bool) → eqb c 0 ≡ t → NoZero (until_zero cs) → NoZero (cond t [] (c ∷ until_zero cs))
    go true e i = none
    go false e i = more (eqb-false c 0 e) i

text_self : (cs : List ℕ) → text_before cs cs ≡ false
unfolding text_before
text_self [] = refl
text_self (c ∷ cs) = rw (eq-eqb c c refl) (text_self cs)

padded_before : {cs ds : List ℕ} → NoZero cs → NoZero ds → (i j : ℕ) → length cs + i ≡ length ds + j → text_before (cs ++ zeros i) (ds ++ zeros j) ≡ text_before cs ds
unfolding text_before zeros
padded_before none none i j e = let k : i ≡ j = omega (arith, e) in rw k (text_self (replicate j 0))
padded_before none (more {x = d} n s) zero j e = absurd (omega (arith, e))
padded_before none (more {x = d} n s) (suc i) j e = rw (ne_eqb 0 d (λ (z : 0 ≡ d). n (sym z)), lt-leb d 0 (omega (arith, n)))
padded_before (more {x = c} n s) none i zero e = absurd (omega (arith, e))
padded_before (more {x = c} n s) none i (suc j) e = rw (ne_eqb c 0 n, le-leb 0 c (omega arith))
padded_before (more {x = c} n s) (more {x = d} m t) i j e = rw (padded_before s t i j (omega (arith, e)))

-- bytes of a text
pub texts_some : (cs : List ℕ) → every is_text cs ≡ true → NoZero cs
unfolding every
texts_some [] h = none
texts_some (c ∷ cs) h = more (eqb-false c 0 (text_byte c (cond_left (is_text c) (every is_text cs) h))) (texts_some cs (cond_right (is_text c) (every is_text cs) h))

-- a text without zeros against what stands before the first zero
pub until_before : (w : List ℕ) {m : List ℕ} → NoZero m → text_before w m ≡ text_before (until_zero w) m
unfolding text_before until_zero
until_before [] n = refl
until_before (c ∷ cs) none = go (eqb c 0)
  where
    go : (t : Bool) → false ≡ text_before (cond t [] (c ∷ until_zero cs)) []
    go true = refl
    go false = refl
until_before (c ∷ cs) (more {x = d} {xs = ds} n s) = go (eqb c 0) refl (until_before cs s)
  where
    go : (t : Bool) → eqb c 0 ≡ t → text_before cs ds ≡ text_before (until_zero cs) ds → cond (eqb c d) (text_before cs ds) (not (leb d c)) ≡ text_before (cond t [] (c ∷ until_zero cs)) (d ∷ ds)
    go true e i = let z : c ≡ 0 = eqb-true c 0 e in rw (z, ne_eqb 0 d (λ (y : 0 ≡ d). n (sym y)), lt-leb d 0 (omega (arith, n)))
    go false e i = rw i

-- the texts of two records
filled_before : (v w : List ℕ) → length v ≡ 16 → length w ≡ 16 → padded 16 (until_zero v) ≡ v → padded 16 (until_zero w) ≡ w → text_before v w ≡ text_before (until_zero v) (until_zero w)
unfolding padded
filled_before v w l m f g =
    let k : length (until_zero v) + (16 - length (until_zero v)) ≡ 16 = full v l f in
    let n : length (until_zero w) + (16 - length (until_zero w)) ≡ 16 = full w m g in
    ap (λ (x : List ℕ). text_before x w) (sym f)
    ∙ ap (λ (x : List ℕ). text_before (until_zero v ++ zeros (16 - length (until_zero v))) x) (sym g)
    ∙ padded_before (until_some v) (until_some w) (16 - length (until_zero v)) (16 - length (until_zero w)) (k ∙ sym n)
  where
    full : (u : List ℕ) → length u ≡ 16 → until_zero u ++ zeros (16 - length (until_zero u)) ≡ u → length (until_zero u) + (16 - length (until_zero u)) ≡ 16
    full u l e = sym (length-append (until_zero u) (zeros (16 - length (until_zero u))) ∙ ap (λ (x : ℕ). length (until_zero u) + x) (zeros_length (16 - length (until_zero u)))) ∙ ap length e ∙ l

-- a record of bytes that is written as it stands
pub record Filed (r : List ℕ) : Type 0 where
  pub bytes : Rec r
  pub whole : Whole r

pub filed_all : {rs : List (List ℕ)} → All Rec rs → All Whole rs → All Filed rs
filed_all none none = none
filed_all (more k s) (more w v) = more record { bytes = k; whole = w } (filed_all s v)

-- one stands before the next
filed_is : (a : List ℕ) (p : ℕ) → Filed (take record_size (drop p a)) → Filed (take record_size (drop (p + record_size) a)) → filed_test a p ≡ precedes (reference_in (take record_size (drop p a))) (reference_in (take record_size (drop (p + record_size) a)))
unfolding filed_test precedes_by precedes reference_in
filed_is a p k l =
    let r : List ℕ = take record_size (drop p a) in
    let s : List ℕ = take record_size (drop (p + record_size) a) in
    let m : big_endian (cut a p (p + 8)) ≡ number_at r 0 8 = rw add-zero at (number_in a p 0 8 (lit≤ tt)) in
    let n : big_endian (cut a (p + record_size) (p + record_size + 8)) ≡ number_at s 0 8 = rw add-zero at (number_in a (p + record_size) 0 8 (lit≤ tt)) in
    let t : cut a (p + 8) (p + 8 + 16) ≡ take 16 (drop 8 r) = text_in a p in
    let u : cut a (p + record_size + 8) (p + record_size + 8 + 16) ≡ take 16 (drop 8 s) = text_in a (p + record_size) in
    rw (
      m,
      n,
      t,
      u,
      filled_before (take 16 (drop 8 r)) (take 16 (drop 8 s)) (text_length r k.bytes.bytes k.bytes.wide) (text_length s l.bytes.bytes l.bytes.wide) (reference_filled r k.bytes.bytes k.bytes.wide k.whole) (reference_filled s l.bytes.bytes l.bytes.wide l.whole),
    )

pub filed_walk : (a : List ℕ) (n p : ℕ) → All Filed (records n (drop p a)) → walk (always (filed_test a)) (n - 1) p ≡ ordered precedes (map reference_in (records n (drop p a)))
filed_walk a n p w = next_walk a (filed_test a) reference_in precedes Filed (filed_is a) n p w
