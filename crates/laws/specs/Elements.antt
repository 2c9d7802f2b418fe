-- Steps for a walk over a local that is an array: one of its elements is read or written as `sub` of `types.Part` does a field of a struct; and what each element owns, at its machine value, when one is set and when all are the same.
use Rattle.std.specs.Prelude.{◌≡◌, refl, ℕ, zero, suc, ◌+◌, ◌*◌, ◌<◌, List, [], ◌∷◌, map, length, get_or, set, replicate}
use Rattle.std.proofs.Common.{sym, ap, ◌∙◌, zero-mul, suc-mul, arith, length-set}
use seplogic.Ra.Ura.{Ura}
use mir.Syntax.{Ty, ty_array}
use mir.Val.{Val, vunit, vstruct, of_list}
use base.Logic.{SProp, ent, sep, wand, all, apply∗, all_e}
use base.Fml.{Fml, Share, fat}
use prog.Memory.{size}
use prog.Model.{elems}
use types.Logic.{Logic}
use types.Kit.{Item, ‵, raw, ◌⊛◌, mean, ◌$◌, ◌∵◌, !, qed, move, use1, use2, split, rewrite, assume, frame, each as for-each, done}
use types.Part.{Part}
use denote.Array.{each}
use denote.Shadow.{shadow}

-- ---- what each element owns

module _ {X : Type 0} (d : Type 0) (f : d → List Val → Fml) (into : X → d) where
  -- each element of a list has a machine value of its own
  abbrev pub Each : List X → List Val → Type 0
  Each xs us = shadow (each d f (map into xs) us)

  pub each_length : (xs : List X) (us : List Val) → Each xs us → length us ≡ length xs
  each_length [] [] h = refl
  each_length [] (u ∷ us) h = absurd h
  each_length (x ∷ xs) [] h = absurd h
  each_length (x ∷ xs) (u ∷ us) h = ap suc (each_length xs us h.1)

  module _ (x : X) (u : Val) (h : shadow (f (into x) (u ∷ []))) where
    pub each_set : (xs : List X) (us : List Val) (k : ℕ) → Each xs us → Each (set xs k x) (set us k u)
    each_set [] [] k e = e
    each_set [] (w ∷ us) k e = absurd e
    each_set (y ∷ xs) [] k e = absurd e
    each_set (y ∷ xs) (w ∷ us) zero e = (h, e.1)
    each_set (y ∷ xs) (w ∷ us) (suc k) e = (e.0, each_set xs us k e.1)

    pub each_alike : (n : ℕ) → Each (replicate n x) (replicate n u)
    each_alike zero = tt
    each_alike (suc n) = (h, each_alike n)

-- ---- one element of an array in a local

set_same : (us : List Val) (k : ℕ) → k < length us → set us k (get_or us k vunit) ≡ us
set_same [] k h = absurd (omega arith)
set_same (u ∷ us) zero h = refl
set_same (u ∷ us) (suc k) h = ap (λ (ws : List Val). u ∷ ws) (set_same us k (omega arith))

module _ {M : Type 1} {𝓤 : Ura M} (𝓛 : Logic 𝓤) (q : Share) (τ : Ty) (b : ℕ) where
  -- elements laid out from o on, and those that are left when element k, at p, is taken: any value put there makes them whole
  open 𝓛 use {H}

  abbrev Laid : ℕ → List Val → SProp 𝓤
  Laid o us = elems 𝓤 H q τ b o us

  abbrev Put : ℕ → List Val → ℕ → ℕ → Val → SProp 𝓤
  Put o us k p u = wand 𝓤 (H.at q τ b p u) (Laid o (set us k u))

  here : (o : ℕ) → o ≡ 0 * size τ + o
  here o = let e = zero-mul (size τ) in omega arith

  there : (k o : ℕ) → k * size τ + (o + size τ) ≡ suc k * size τ + o
  there k o = let e = suc-mul k (size τ) in omega arith

  take_one : (us : List Val) (k o : ℕ) → k < length us → ent 𝓤 (Laid o us) (sep 𝓤 (H.at q τ b (k * size τ + o) (get_or us k vunit)) (all 𝓤 (Put o us k (k * size τ + o))))
  take_one [] k o h = absurd (omega arith)
  take_one (u ∷ us) zero o h =
      qed 𝓛 (‵ (fat q τ b o u) ∷ raw (Laid (o + size τ) us) ∷ []) ∵ rewrite ! 0 (λ (p : ℕ). ‵ (fat q τ b p u)) (here o) refl $ frame ! $
      for-each ! (Put o (u ∷ us) 0 (0 * size τ + o)) (λ w. assume {P = Laid o (w ∷ us)} ! (‵ (fat q τ b (0 * size τ + o) w)) $ rewrite ! 0 (λ (p : ℕ). ‵ (fat q τ b p w)) (sym (here o)) refl $ done !)
  take_one (u ∷ us) (suc k) o h =
      qed 𝓛 (‵ (fat q τ b o u) ∷ raw (Laid (o + size τ) us) ∷ []) ∵ move ! (1 ∷ []) $
      use1 𝓛 (‵ (fat q τ b (k * size τ + (o + size τ)) (get_or us k vunit)) ⊛ raw (all 𝓤 (Put (o + size τ) us k (k * size τ + (o + size τ))))) (take_one us k (o + size τ) (omega arith)) $ split ! $
      rewrite ! 0 (λ (p : ℕ). ‵ (fat q τ b p (get_or us k vunit))) (there k o) refl $ rewrite ! 1 (λ (p : ℕ). raw (all 𝓤 (Put (o + size τ) us k p))) (there k o) refl $ frame ! $
      for-each ! (Put o (u ∷ us) (suc k) (suc k * size τ + o)) (λ w. assume {P = Laid o (u ∷ set us k w)} ! (‵ (fat q τ b (suc k * size τ + o) w)) $
      move ! (1 ∷ []) $ use1 𝓛 (raw (Put (o + size τ) us k (suc k * size τ + o) w)) (all_e 𝓤 (Put (o + size τ) us k (suc k * size τ + o)) w) $ move ! (1 ∷ 0 ∷ []) $
      use2 𝓛 (raw (Laid (o + size τ) (set us k w))) (apply∗ 𝓤 (H.at q τ b (suc k * size τ + o) w) (Laid (o + size τ) (set us k w))) $ move ! (1 ∷ 0 ∷ []) $ done !)

module _ {M : Type 1} {𝓤 : Ura M} {𝓛 : Logic 𝓤} {K : Type 0} where
  open 𝓛 use {H}

  pub elem : K → {i : Item 𝓤} {q : Share} {τ : Ty} {n b o : ℕ} {back : Val → Item 𝓤} (us : List Val) (k : ℕ) → k < length us → length us ≡ n
      → Part K 𝓛 i q (ty_array τ n) b o (vstruct (of_list us)) back → Part K 𝓛 i q τ b (k * size τ + o) (get_or us k vunit) (λ u. back (vstruct (of_list (set us k u))))
  elem t {i} {q} {τ} {n} {b} {o} {back} us k h l p = record {
    out = qed 𝓛 (i ∷ []) ∵ use1 𝓛 (‵ (fat q (ty_array τ n) b o (vstruct (of_list us))) ⊛ raw (all 𝓤 Whole)) p.out $ split ! $ use1 𝓛 (raw (elems 𝓤 H q τ b o us)) (𝓛.laws.at_elems q τ n b o us) $
        use1 𝓛 (‵ (fat q τ b (k * size τ + o) (get_or us k vunit)) ⊛ raw (all 𝓤 (Put 𝓛 q τ b o us k (k * size τ + o)))) (take_one 𝓛 q τ b us k o h) $ split ! $ frame ! $
        for-each ! (λ (u : Val). wand 𝓤 (H.at q τ b (k * size τ + o) u) (mean 𝓛 (back (arr u)))) (λ u. assume {P = mean 𝓛 (back (arr u))} ! (‵ (fat q τ b (k * size τ + o) u)) $
        -- [the element's cell with u; what makes the elements whole; what makes the entry whole]
        move ! (1 ∷ []) $ use1 𝓛 (raw (Put 𝓛 q τ b o us k (k * size τ + o) u)) (all_e 𝓤 (Put 𝓛 q τ b o us k (k * size τ + o)) u) $ move ! (1 ∷ 0 ∷ []) $
        use2 𝓛 (raw (elems 𝓤 H q τ b o (set us k u))) (apply∗ 𝓤 (H.at q τ b (k * size τ + o) u) (elems 𝓤 H q τ b o (set us k u))) $
        use1 𝓛 (‵ (fat q (ty_array τ (length (set us k u))) b o (arr u))) (𝓛.laws.elems_at q τ b o (set us k u)) $ rewrite ! 0 (λ (m : ℕ). ‵ (fat q (ty_array τ m) b o (arr u))) (length-set us k u ∙ l) refl $
        move ! (1 ∷ []) $ use1 𝓛 (raw (Whole (arr u))) (all_e 𝓤 Whole (arr u)) $ move ! (1 ∷ 0 ∷ []) $ use2 𝓛 (back (arr u)) (apply∗ 𝓤 (H.at q (ty_array τ n) b o (arr u)) (mean 𝓛 (back (arr u)))) $ done !);
    same = ap (λ (ws : List Val). back (vstruct (of_list ws))) (set_same us k h) ∙ p.same;
  }
    where
      arr : Val → Val
      arr u = vstruct (of_list (set us k u))

      Whole : Val → SProp 𝓤
      Whole w = wand 𝓤 (H.at q (ty_array τ n) b o w) (mean 𝓛 (back w))
