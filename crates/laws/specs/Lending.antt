-- For a walk of a loop that lends: what the loop's test says; a struct in a local, lent to a callee and back; a `&mut [T]`, lent again for one call and back. Assumes nothing but the laws of the logic.
use Rattle.std.specs.Prelude.{◌≡◌, refl, Bool, true, false, ◌⊎◌, List, [], ◌∷◌, ℕ, zero, suc, ◌<◌, ◌≤◌, T, ltb, length}
use Rattle.std.proofs.Common.{sym, ap, subst, inl, inr, arith, lt→ltb, ltb→lt}
use seplogic.Ra.Ura.{Ura}
use base.Fraction.{full_share}
use mir.Syntax.{Lifetime, Callee, Place, Opd as Operand, Body as Code, named, seq, call}
use mir.Val.{Val, vptr}
use base.Logic.{ent, sep, ex, emp, id⊢}
use base.Fml.{Lft, GName, Share, Fml, ftrue, fsep, fat, flft, fdead, fobs, fauth, flent, fobor}
use prog.Wp.{Env, Calls, Loops}
use sound.WpLaws.{FmC}
use types.Logic.{Logic, sem}
use contract.Lifetimes.{Lfts}
use contract.Monad.{fact}
use types.Kit.{Item, Goal, Post, Soaks, Seq, Step, step, rewrite, runs, lands, ‵, raw, ⋆, ◌⊛◌, some, later, ◌$◌, ◌∵◌, !, qed, move, keep, use1, use2, use3, drop, split, join, pick, fsplit, fjoin, fpick, fpack, frame, await, updating, now as at_once, show, done}
use types.Run.{Opds}
use types.SemTy.{Body, cells, Arr}
use types.Tokens.{lft_new, lft_end}
use Rattle.std.specs.Borrow.{RattleType}
use denote.Laws.{Is, shows}
use denote.Shadow.{pure_l, pure_i}
use denote.Memory.{cell_at, lone, part_of, mem}
use denote.Builtin.{RefMutOf}
use denote.Exit.{yes}
use denote.Ref.{MutBor, MutRef}
use denote.Signature.{plain}
use denote.Steps.{owned, nothing}
use denote.Slice.{slice_val, MutSlice, heres, Room, finally, mut_slice_at, coded_holeys}
use denote.Lend.{Held, lends_ref, ref_back, lends_slice, slice_back}
use denote.Index.{row as elements, whole_out, whole_in, opens_slice, closes_slice}
use denote.Struct.Declared.{Declared, fields, row}
use denote.Struct.Laws.{Laws, val, vals, tells, makes}
use denote.Struct.Struct.{Plains}
use denote.Struct.Steps.{spelt}
use denote.Triple.Clauses.{Clauses, Ended}
use denote.Triple.Entry.{Args}
use denote.Triple.Statement.{Triple}
use Rattle.laws.specs.Walks.{Promise, Tokens, Asked, Said, calls}

-- ---- tests

-- what a test of the machine says
test_holds : (t : Bool) → T t → t ≡ true
test_holds true _ = refl
test_holds false a = absurd a

test_fails : (t : Bool) → (T t → ⊥) → t ≡ false
test_fails true f = absurd (f tt)
test_fails false _ = refl

pub some_left : {k : ℕ} → 0 < k → ltb 0 k ≡ true
some_left {k} h = test_holds (ltb 0 k) (lt→ltb 0 k h)

pub none_left : {k : ℕ} → k ≤ 0 → ltb 0 k ≡ false
none_left {k} h = test_fails (ltb 0 k) (λ a. let l = ltb→lt 0 k a in omega arith)

pub some_or_none : (k : ℕ) → (0 < k) ⊎ (k ≤ 0)
some_or_none zero = inr (omega arith)
some_or_none (suc k) = inl (omega arith)

-- ---- a struct in a local: its cell is what a reference to it borrows, and the other way

module _ (S : Declared) (L : Laws S) {M : Type 1} {𝓤 : Ura M} (𝓛 : Logic 𝓤) (x : S.D) (b : ℕ) where
  abbrev cell : Fml
  cell = fat full_share (lone (row S).mir) b 0 (val S L x)

  lies : ent 𝓤 (⋆ 𝓛 (‵ cell ∷ ‵ ((row S).own_val x (vals S L x)) ∷ [])) (sem 𝓛 ((mem (row S)).own_at x b 0))
  unfolding part_of
  lies =
      qed 𝓛 (‵ cell ∷ ‵ ((row S).own_val x (vals S L x)) ∷ []) ∵ use1 𝓛 (‵ (cell_at full_share (row S).mir (vals S L x) b 0)) (𝓛.laws.at_raw full_share (lone (row S).mir) b 0 (val S L x)) $
      fjoin ! $ fpack ! (List Val) (λ vs. fsep (cell_at full_share (row S).mir vs b 0) ((row S).own_val x vs)) (vals S L x) $ done !

  stands : ent 𝓤 (sem 𝓛 ((mem (row S)).own_at x b 0)) (sem 𝓛 cell)
  unfolding part_of
  stands =
      qed 𝓛 (‵ ((mem (row S)).own_at x b 0) ∷ []) ∵ fpick ! (λ vs. fsplit ! $ spelt ! (row S) (Is (row S)) (shows 𝓛 (row S)) (vals S L) (tells S L) full_share x vs b 0 $
      use1 𝓛 (‵ cell) (𝓛.laws.raw_at full_share (lone (row S).mir) b 0 (val S L x)) $ keep ! (0 ∷ []) $ done !)

-- ---- a function of one parameter, a `&mut` to a struct, that is called with a local

abbrev pub Taker : Declared → RattleType → Ended
Taker S R = record {
  signature = record { lifetimes = 1; outlives = []; params = RefMutOf (0 ∷ []) tt (plain (λ _. row S)) (λ _. tt) ∷ []; result = plain (λ _. R) };
  kept = (yes, tt);
}

module _ {M : Type 1} {𝓤 : Ura M} (𝓛 : Logic 𝓤) (S : Declared) (R : RattleType) (c : Clauses 𝓤 (Taker S R)) (g : (κs : Lfts 1) (a : Args (Taker S R).signature κs) → (c κs a).ghost) (x : S.D) (b : ℕ) where
  -- the local at b, lent for ν under the name δ
  abbrev pub lent_at : GName → MutBor S.D
  lent_at δ = record { ref_ptr = (b, 0); ghost_name = δ; now = x }

  abbrev pub taking : ℕ → GName → (Promise 𝓛 (Taker S R) c).Ghost
  taking ν δ = (((ν ∷ [], tt), (full_share, tt), tt, (lent_at δ, tt), (vptr b 0 ∷ [], tt)), g (ν ∷ [], tt) (lent_at δ, tt))

module _ {M : Type 1} {𝓤 : Ura M} {𝓛 : Logic 𝓤} {K : Type 0} {Γ : List (Item 𝓤)} where
  -- the local's cell stands in front, and is back at the last value when the call has returned: the loan lasts for a lifetime of the call
  open 𝓛 use {H}

  pub lends_to : {E : Env 𝓤 H} {C : Calls 𝓤 H} {Λ : Loops 𝓤 H} {q : Post 𝓤 H} {d : Place} {f : Callee} {xs : List Operand} {rest : Code} → K → FmC 𝓤 H 𝓛.laws C
      → (S : Declared) (L : Laws S) → Plains (fields S) → (R : RattleType) (c : Clauses 𝓤 (Taker S R)) (g : (κs : Lfts 1) (a : Args (Taker S R).signature κs) → (c κs a).ghost) → Triple 𝓤 (C f) (Promise 𝓛 (Taker S R) c)
      → (x : S.D) (b : ℕ) → Is (row S) x (vals S L x) → ((ν : ℕ) (δ : GName) → ent 𝓤 (emp 𝓤) (Asked 𝓛 (Taker S R) c (taking 𝓛 S R c g x b ν δ))) → ((i j : Item 𝓤) → Opds K 𝓛 (i ∷ j ∷ Γ) E xs (vptr b 0 ∷ []))
      → (φ : R.Denot → S.D → Type 0) → ((ν : ℕ) (δ : GName) (r : R.Denot) (w : S.D) → ent 𝓤 (Said 𝓛 (Taker S R) c (taking 𝓛 S R c g x b ν δ) r (w, tt)) (fact 𝓤 (φ r w)))
      → ((v : Val) (r : R.Denot) (w : S.D) → φ r w → Is R r (v ∷ []) → Seq K 𝓛 (‵ (fat full_share (lone (row S).mir) b 0 (val S L w)) ∷ Γ) (lands C Λ E d v rest q))
      → Seq K 𝓛 (‵ (fat full_share (lone (row S).mir) b 0 (val S L x)) ∷ Γ) (runs C Λ E (seq (call f xs d) rest) q)
  lends_to t fm S L plains R c g met x b is asks os φ says k =
      owned t (row S) (Is (row S)) (makes S plains 𝓛) x _ is $ move t (1 ∷ 0 ∷ []) $ use2 𝓛 (‵ ((mem (row S)).own_at x b 0)) (lies S L 𝓛 x b) $ lft_new t tt (λ ν. move t (1 ∷ []) $
      use1 𝓛 (later (some (λ (δ : GName). ‵ ((MutRef (named 0) (ν ∷ []) (row S)).own_val (lent_at 𝓛 S R c g x b δ) (vptr b 0 ∷ [])) ⊛ ‵ (flent (ν ∷ []) (Body (mem (row S)) b 0 δ))))) (lends_ref 𝓛 (row S) (named 0) (ν ∷ []) x b 0) $ await t tt $ pick t (λ δ. split t $
      nothing t $ nothing t $ move t (2 ∷ 0 ∷ []) $ fjoin t $ move t (3 ∷ 1 ∷ []) $ join t $ use1 𝓛 (raw (Tokens 𝓛 (Taker S R) c (taking 𝓛 S R c g x b ν δ))) (id⊢ 𝓤 _) $
      -- [the token; what the reference owns; the lender's part; …]
      calls t fm (Taker S R) c met (taking 𝓛 S R c g x b ν δ) (asks ν δ) (os _ _) (λ r ws. φ r ws.0) (λ r ws. says ν δ r ws.0) (λ v r ws e made.
      -- [the token; what the result owns; the last value, with the borrow; the lender's part; …]
      use1 𝓛 (‵ (flft (ν ∷ []) full_share) ⊛ ‵ ftrue) (id⊢ 𝓤 _) $ split t $ lft_end t tt $ move t (3 ∷ []) $ fsplit t $ fsplit t $ move t (3 ∷ 6 ∷ 0 ∷ []) $
      use3 𝓛 (later (‵ ((mem (row S)).own_at ws.0 b 0))) (ref_back 𝓛 (row S) (ν ∷ []) δ ws.0 b 0) $ await t tt $ use1 𝓛 (‵ (fat full_share (lone (row S).mir) b 0 (val S L ws.0))) (stands S L 𝓛 ws.0 b) $
      move t (1 ∷ 2 ∷ 3 ∷ 4 ∷ []) $ drop t $ drop t $ drop t $ drop t $ k v r ws.0 e made)))

-- ---- a `&κ mut [T]` under the name γ, lent again for κ' under the name δ

module _ (R : RattleType) (κ κ' : Lft) (q : Share) (γ : GName) (b o : ℕ) where
  abbrev named_at : GName → List R.Denot → MutBor (List R.Denot)
  named_at δ ys = record { ref_ptr = (b, o); ghost_name = δ; now = ys }

  -- what its holder keeps: the lender's part at κ', and its own borrow, open, with both halves of its ghost variable
  abbrev pub Meanwhile : GName → List R.Denot → Fml
  Meanwhile δ ys = fsep (flent κ' (Held R (length ys) b o δ)) (fsep (fobor κ q (Held R (length ys) b o γ)) (fsep (fobs γ ((coded_holeys R).code (heres R ys))) (fauth γ ((coded_holeys R).code (heres R ys)))))

  module _ {M : Type 1} {𝓤 : Ura M} (𝓛 : Logic 𝓤) (ℓ ℓ' : Lifetime) (ys : List R.Denot) where
    open 𝓛 use {H, A}

    abbrev value : List Val
    value = slice_val (b, o) (length ys) ∷ []

    lent_again : ent 𝓤 (sep 𝓤 (sem 𝓛 ((MutSlice ℓ κ R).own_val (named_at γ ys) value)) (A.lft κ q))
        (H.⇛ (ex 𝓤 (λ (δ : GName). sep 𝓤 (sem 𝓛 ((MutSlice ℓ' κ' R).own_val (named_at δ ys) value)) (sem 𝓛 (Meanwhile δ ys)))))
    lent_again =
        qed 𝓛 (‵ ((MutSlice ℓ κ R).own_val (named_at γ ys) value) ∷ ‵ (flft κ q) ∷ []) ∵ updating ! $ fsplit ! $ pure_l ! (mut_slice_at R (named_at γ ys) value) (λ p. fsplit ! $ opens_slice ! tt R ys b o $
        use1 𝓛 (‵ (cells (mem R) ys b o)) (whole_in 𝓛 R ys b o) $
        use1 𝓛 (later (some (λ (δ : GName). ‵ ((MutSlice ℓ' κ' R).own_val (named_at δ ys) value) ⊛ ‵ (flent κ' (Held R (length ys) b o δ))))) (lends_slice 𝓛 R ℓ' κ' ys b o p.1) $ await ! tt $ pick ! (λ δ. split ! $
        -- [the slice lent; the lender's part; the open borrow; both halves of the name]
        at_once ! $ show ! (λ (δ' : GName). sep 𝓤 (sem 𝓛 ((MutSlice ℓ' κ' R).own_val (named_at δ' ys) value)) (sem 𝓛 (Meanwhile δ' ys))) δ $ frame ! $
        move ! (2 ∷ 3 ∷ []) $ fjoin ! $ move ! (2 ∷ 0 ∷ []) $ fjoin ! $ move ! (1 ∷ 0 ∷ []) $ fjoin ! $ done !))

    back_again : (δ : GName) (zs : List R.Denot) → Room R (length ys) → length zs ≡ length ys
        → ent 𝓤 (sep 𝓤 (A.dead κ') (sep 𝓤 (sem 𝓛 (Meanwhile δ ys)) (sem 𝓛 (finally R δ zs)))) (H.⇛ (sep 𝓤 (sem 𝓛 ((MutSlice ℓ κ R).own_val (named_at γ zs) value)) (A.lft κ q)))
    back_again δ zs room e =
        qed 𝓛 (‵ (fdead κ') ∷ ‵ (Meanwhile δ ys) ∷ ‵ (finally R δ zs) ∷ []) ∵ updating ! $ move ! (1 ∷ []) $ fsplit ! $ move ! (2 ∷ 0 ∷ 3 ∷ []) $
        use3 𝓛 (later (‵ ((Arr (mem R) (length ys)).own_at zs b o))) (slice_back 𝓛 R κ' δ zs (length ys) b o) $ await ! tt $ fsplit ! $ drop ! $ use1 𝓛 (‵ (elements R full_share zs b o)) (whole_out 𝓛 R zs b o) $
        move ! (1 ∷ []) $ fsplit ! $ move ! (1 ∷ []) $ fsplit ! $ move ! (3 ∷ 2 ∷ 0 ∷ 1 ∷ []) $ closes_slice ! tt R ys zs e b o $ at_once ! $
        fjoin ! $ pure_i ! (mut_slice_at R (named_at γ zs) value) (tt, (tt, tt)) (ap (λ (m : ℕ). slice_val (b, o) m ∷ []) (sym e), subst (Room R) (sym e) room) $ fjoin ! $ done !

-- the same for a lifetime of one call, where the count in the machine value is one that no call changes

module _ (ℓ : Lifetime) (κ : Lft) (R : RattleType) (b o count : ℕ) where
  abbrev pub SliceAt : GName → List R.Denot → Fml
  SliceAt γ ys = (MutSlice ℓ κ R).own_val (record { ref_ptr = (b, o); ghost_name = γ; now = ys }) (slice_val (b, o) count ∷ [])

module _ {M : Type 1} {𝓤 : Ura M} {𝓛 : Logic 𝓤} {K : Type 0} {Γ : List (Item 𝓤)} {G : Goal 𝓤 𝓛.H} where
  pub lends_slice_on : K → Soaks G → (ℓ : Lifetime) (κ : Lft) (R : RattleType) (b o count : ℕ) (q : Share) (γ : GName) (ys : List R.Denot) → length ys ≡ count
      → ((ν : ℕ) (δ : GName) → Seq K 𝓛 (‵ (SliceAt ℓ (ν ∷ []) R b o count δ ys) ∷ ‵ (Meanwhile R κ (ν ∷ []) q γ b o δ ys) ∷ ‵ (flft (ν ∷ []) full_share) ∷ Γ) G) → Seq K 𝓛 (‵ (SliceAt ℓ κ R b o count γ ys) ∷ ‵ (flft κ q) ∷ Γ) G
  lends_slice_on t soaks ℓ κ R b o count q γ ys e k =
      lft_new t soaks (λ ν. move t (1 ∷ 2 ∷ []) $ rewrite t 0 (λ (m : ℕ). ‵ (SliceAt ℓ κ R b o m γ ys)) (sym e) refl $
      use2 𝓛 (later (some (λ (δ : GName). ‵ (SliceAt ℓ (ν ∷ []) R b o (length ys) δ ys) ⊛ ‵ (Meanwhile R κ (ν ∷ []) q γ b o δ ys)))) (lent_again R κ (ν ∷ []) q γ b o 𝓛 ℓ ℓ ys) $ await t soaks $ pick t (λ δ. split t $
      rewrite t 0 (λ (m : ℕ). ‵ (SliceAt ℓ (ν ∷ []) R b o m δ ys)) e refl $ k ν δ))

  pub takes_slice_back : K → Soaks G → (ℓ : Lifetime) (κ : Lft) (R : RattleType) (b o count : ℕ) (q : Share) (γ : GName) (ys : List R.Denot) → length ys ≡ count → (ν : ℕ) (δ : GName) (zs : List R.Denot) → Room R count → length zs ≡ length ys
      → Step K 𝓛 (‵ (SliceAt ℓ κ R b o count γ zs) ∷ ‵ (flft κ q) ∷ Γ) G (‵ (flft (ν ∷ []) full_share) ∷ ‵ (Meanwhile R κ (ν ∷ []) q γ b o δ ys) ∷ ‵ (finally R δ zs) ∷ Γ) G
  takes_slice_back t soaks ℓ κ R b o count q γ ys e ν δ zs room l = step (λ s. lft_end t soaks $
      use3 𝓛 (later (‵ (SliceAt ℓ κ R b o (length ys) γ zs) ⊛ ‵ (flft κ q))) (back_again R κ (ν ∷ []) q γ b o 𝓛 ℓ ℓ ys δ zs (subst (Room R) (sym e) room) l) $ await t soaks $ split t $
      rewrite t 0 (λ (m : ℕ). ‵ (SliceAt ℓ κ R b o m γ zs)) e refl $ s)
