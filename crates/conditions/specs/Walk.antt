-- The fields 21 of the details that are kept, and which of them are the same. What is left of a walk over them gives the answer.
use Rattle.std.specs.Prelude.{◌≡◌, refl, Bool, true, false, List, [], ◌∷◌, map, ℕ, zero, suc, ◌+◌, ◌-◌, ◌≤◌, ◌<◌, length, get_or, take, drop}
use Rattle.std.proofs.Common.{sym, ap, arith, add-one, add-zero, zero-add, take_all, length-drop, drop-cons, drop_of_length-le}
use Rattle.std.proofs.Math.Seq.{get_or-take}
use Rattle.std.proofs.Math.ListN.{length-take}
use Rattle.rules.specs.Text.{equal, any, twice}
use Rattle.rules.specs.Forms.{detail21}
use Rattle.rules.specs.Messages as M
use Rattle.rules.specs.Messages.{field21, past}
use Rattle.forms.specs.Spans.{span_of, SpanIn}
use Rattle.details.specs.Message.{detail_at}
use Rattle.details.specs.Kept.{LineOf, OfFirst}
use Rattle.verdict.specs.Details.{no_judged, judged_at, JudgedAs}
use Rattle.verdict.specs.declared.detail.Judged.{Judged}

-- field 21 of a detail that is kept
abbrev pub named : List ℕ → Judged → List ℕ
named s j = past ":21:" (span_of s j.detail.reference)

-- the lines of the fields 21 lie within the text
pub record NamedIn (s : List ℕ) (kept : List Judged) : Type 0 where
  pub inside : (i : ℕ) → i < length kept → SpanIn s (judged_at kept i).detail.reference

-- those of the first n, 16 at most
pub record NamedFirst (s : List ℕ) (kept : List Judged) (n : ℕ) : Type 0 where
  pub inside : n ≤ 16 → NamedIn s (take n kept)

-- ---- two of them the same: k are passed

module _ (s : List ℕ) (kept : List Judged) (k : ℕ) (x : Bool) where
  none_left : length kept ≤ k → drop k kept ≡ []
  none_left h = drop_of_length-le kept {i = k} h

  one_left : (other : Judged) → k < length kept → drop k kept ≡ get_or kept k other ∷ drop (k + 1) kept
  one_left other h = rw (add-one k) (drop-cons kept k other h)

  module _ (cs : List ℕ) (inv : any (equal cs) (map (named s) (drop k kept)) ≡ x) where
    pub again_out : length kept ≤ k → false ≡ x
    unfolding any
    again_out h = rw (none_left h) at inv

    module _ (other : Judged) (h : k < length kept) (t : Bool) (u : t ≡ equal cs (named s (get_or kept k other))) where
      pub again_hit : t ≡ true → true ≡ x
      unfolding any
      again_hit d = rw (one_left other h, ← u, d) at inv

      pub again_on : t ≡ false → any (equal cs) (map (named s) (drop (k + 1) kept)) ≡ x
      unfolding any
      again_on d = rw (one_left other h, ← u, d) at inv

  module _ (inv : twice equal (map (named s) (drop k kept)) ≡ x) where
    pub twice_out : length kept ≤ k → false ≡ x
    unfolding twice
    twice_out h = rw (none_left h) at inv

    module _ (other : Judged) (h : k < length kept) (t : Bool) (told : t ≡ any (equal (named s (get_or kept k other))) (map (named s) (take (length kept - (k + 1)) (drop (k + 1) kept)))) where
      u : t ≡ any (equal (named s (get_or kept k other))) (map (named s) (drop (k + 1) kept))
      u = rw (take_all (length kept - (k + 1)) (drop (k + 1) kept) (omega (arith, length-drop (k + 1) kept))) at told

      pub twice_hit : t ≡ true → true ≡ x
      unfolding twice
      twice_hit d = rw (one_left other h, ← u, d) at inv

      pub twice_on : t ≡ false → twice equal (map (named s) (drop (k + 1) kept)) ≡ x
      unfolding twice
      twice_on d = rw (one_left other h, ← u, d) at inv

pub ruleset walking = (again_out, again_hit, again_on, twice_out, twice_hit, twice_on)

-- ---- they are the fields 21 of the details

-- two details with one field 21
unfoldable pub alike : M.Detail → M.Detail → Bool
alike d e = equal (field21 d) (field21 e)

twice_map : (ds : List M.Detail) → twice alike ds ≡ twice equal (map field21 ds)
unfolding twice any alike
twice_map [] = refl
twice_map (d ∷ ds) = rw (any_map d ds, twice_map ds) refl
  where
    any_map : (d : M.Detail) (es : List M.Detail) → any (alike d) es ≡ any (equal (field21 d)) (map field21 es)
    any_map d [] = refl
    any_map d (e ∷ es) = rw (any_map d es) refl

-- field 21 of k details that are kept, from place i on
unfoldable pub fields_from : List ℕ → List Judged → ℕ → ℕ → List (List ℕ)
fields_from s kept i zero = []
fields_from s kept i (suc k) = named s (judged_at kept i) ∷ fields_from s kept (i + 1) k

-- the field kept at place i is that of detail d
pub record FieldAt (s : List ℕ) (kept : List Judged) (d : M.Detail) (i : ℕ) : Type 0 where
  pub inside : SpanIn s (judged_at kept i).detail.reference
  pub bytes : named s (judged_at kept i) ≡ field21 d

module _ (s : List ℕ) (kept : List Judged) where
  fields_named : (es : List M.Detail) (i : ℕ) → ((j : ℕ) → j < length es → named s (judged_at kept (i + j)) ≡ field21 (detail_at es j)) → fields_from s kept i (length es) ≡ map field21 es
  unfolding fields_from
  fields_named [] i f = refl
  fields_named (e ∷ es) i f =
      let first : named s (judged_at kept i) ≡ field21 e = rw (add-zero i) at (f 0 (omega arith)) in
      let more : (j : ℕ) → j < length es → named s (judged_at kept (i + 1 + j)) ≡ field21 (detail_at es j) = λ j h. (let q : i + suc j ≡ i + 1 + j = omega arith in rw q at (f (suc j) (omega arith))) in
      rw (first, fields_named es (i + 1) more)

  fields_all : (i n : ℕ) → i + n ≤ length kept → fields_from s kept i n ≡ map (named s) (take n (drop i kept))
  unfolding fields_from
  fields_all i zero h = refl
  fields_all i (suc n) h = rw (fields_all (i + 1) n (omega arith), one_left s kept i true no_judged (omega arith)) refl

-- so that two of them are the same where two details have one field 21
pub named_twice : (s : List ℕ) (ds : List M.Detail) (kept : List Judged) → OfFirst (FieldAt s kept) ds → length ds ≤ 16 → twice equal (fields_from s kept 0 (length ds)) ≡ twice alike ds
named_twice s ds kept k h =
    rw (fields_named s kept ds 0 (λ j l. rw (zero-add j) (k.each j l (omega arith)).bytes)) (sym (twice_map ds))

-- ---- of details that are judged, 16 of them kept

module _ (text s : List ℕ) (ds : List M.Detail) (kept : List Judged) (size : length kept ≡ 16) (o : OfFirst (λ d i. JudgedAs text s d (judged_at kept i)) ds) where
  pub named_first : NamedFirst s kept (length ds)
  named_first = record { inside = λ h. record { inside = λ i l. (let n : i < length ds = omega (arith, length-take (length ds) kept) in rw (get_or-take (length ds) kept i no_judged n) (o.each i n (omega arith)).kept.reference.inside) } }

  fields_kept : OfFirst (FieldAt s kept) ds
  fields_kept = record { each = λ i h k. (let r : LineOf s (detail_at ds i) detail21 (judged_at kept i).detail.reference = (o.each i h k).kept.reference in record { inside = r.inside; bytes = ap (past ":21:") r.bytes }) }

  pub judged_twice : length ds ≤ 16 → twice equal (map (named s) (take (length ds) kept)) ≡ twice alike ds
  judged_twice h = rw (fields_all s kept 0 (length ds) (omega arith)) at (named_twice s ds kept fields_kept h)
