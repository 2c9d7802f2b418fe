-- Steps for functions that are proved by a walk of their code, over a struct that holds a slice or is lent: at the start, a branch, a call and the exit.
use Rattle.std.specs.Prelude.{◌≡◌, refl, Bool, true, false, not, ℕ, zero, List, [], ◌∷◌, T as Holds}
use Rattle.std.proofs.Common.{subst}
use seplogic.Ra.Ura.{Ura}
use base.Fraction.{full_share}
use mir.Syntax.{Callee, Place, Opd as Operand, Body, Ty, seq, call}
use mir.Val.{Val}
use base.Logic.{SProp, ent, sep, emp, via, mono∗, mono_r, emp∗, fst∗, snd∗, id⊢}
use base.Fml.{Fml, fat, froom, fdies}
use prog.Wp.{Env, Calls, Loops}
use sound.WpLaws.{FmC}
use types.Logic.{Logic, sem}
use contract.Lifetimes.{Lfts, Shares, AllOutlive}
use contract.Monad.{Fun, Mono, fact, fact_use}
use types.Kit.{Item, Goal, Post, Soaks, runs, lands, settles, frees, Seq, Step, step, ‵, raw, ◌⊛◌, some, later, nth, del, pull, push, ⋆, mean, ◌$◌, ◌∵◌, !, qed, use0, use1, use2, use3, move, split, pick, suffices, frame, await, done}
use types.Run.{Opds, free1}
use denote.RattleType.{RattleType, Denots, owns, Valss, flat}
use denote.Laws.{Is, Ises, Are, Spells, valss, Tellss, shows}
use denote.Signature.{Slot, type_at, types_at}
use denote.Steps.{peeks, heard}
use denote.Triple.Call.{calls_at, calls_at_last}
use denote.Triple.Clauses.{Clauses, Ended, Lasts, at_exit, lasts, closing}
use denote.Triple.End.{Kepts, Fins}
use denote.Triple.Entry.{Args, alive, on_entry}
use denote.Triple.Spec.{Meets, triple_of}
use denote.Triple.Statement.{Contract, Triple}
use denote.Triple.Walked.{Stays, stay_dropped, fits_of, has_of, walk_of, on_exit, Silent, AllGo, Goes-dropped, ends_at, walked, walk_Meets}

-- ---- the parts of a function's contract

module _ {M : Type 1} {𝓤 : Ura M} (𝓛 : Logic 𝓤) (T : Ended) (c : Clauses 𝓤 T) where
  abbrev pub Promise : Contract 𝓤
  Promise = triple_of 𝓛 T.signature (closing 𝓛 T c)

  -- at what a call binds: lifetimes, their shares, arguments and machine values
  module _ (y : Promise.Ghost) where
    -- the lifetimes' tokens, and what the arguments own
    abbrev pub Tokens : SProp 𝓤
    Tokens = alive 𝓛 T.signature y.0.0 y.0.1

    abbrev pub Brought : Fml
    Brought = owns (types_at T.signature.params y.0.0) y.0.3 y.0.4

    -- the result's type, and the last values
    abbrev pub Result : RattleType
    Result = type_at T.signature.result y.0.0

    abbrev pub LastOnes : Type 0
    LastOnes = Lasts T y.0.0 y.0.3

    -- the two clauses
    abbrev pub Asked : SProp 𝓤
    Asked = (c y.0.0 y.0.3).requires y.1

    abbrev pub Said : Result.Denot → LastOnes → SProp 𝓤
    Said r ws = (c y.0.0 y.0.3).ensures y.1 r (at_exit T y.0.0 y.0.3 ws)

    -- what stands in front once the call has returned v
    abbrev pub Back : Val → Result.Denot → LastOnes → List (Item 𝓤) → List (Item 𝓤)
    Back v r ws Γ = raw Tokens ∷ ‵ (Result.own_val r (v ∷ [])) ∷ ‵ (lasts T y.0.0 y.0.3 ws) ∷ Γ

-- ---- at the start: the facts that are asked, one behind the other, and locals with a value and without one, before others

module _ {M : Type 1} (𝓤 : Ura M) where
  abbrev pub Facts : Type 0 → List (Type 0) → SProp 𝓤
  Facts φ [] = fact 𝓤 φ
  Facts φ (ψ ∷ φs) = sep 𝓤 (fact 𝓤 φ) (Facts ψ φs)

  abbrev pub Known : Type 0 → List (Type 0) → Type 0
  Known φ [] = φ
  Known φ (ψ ∷ φs) = φ × Known ψ φs

  known : (φ : Type 0) (φs : List (Type 0)) {P R : SProp 𝓤} → ent 𝓤 P (Facts φ φs) → (Known φ φs → ent 𝓤 P R) → ent 𝓤 P R
  known φ [] e h = fact_use 𝓤 φ e h
  known φ (ψ ∷ φs) e h = fact_use 𝓤 φ (via 𝓤 (Facts φ (ψ ∷ φs)) e (fst∗ 𝓤 (fact 𝓤 φ) (Facts ψ φs))) (λ x. known ψ φs (via 𝓤 (Facts φ (ψ ∷ φs)) e (snd∗ 𝓤 (fact 𝓤 φ) (Facts ψ φs))) (λ xs. h (x, xs)))

  pub needs_all : (φ : Type 0) (φs : List (Type 0)) (P : SProp 𝓤) {R : SProp 𝓤} → (Known φ φs → ent 𝓤 P R) → ent 𝓤 (sep 𝓤 P (Facts φ φs)) R
  needs_all φ φs P h = known φ φs (snd∗ 𝓤 P (Facts φ φs)) (λ xs. via 𝓤 P (fst∗ 𝓤 P (Facts φ φs)) (h xs))

module _ {M : Type 1} {𝓤 : Ura M} where
  abbrev pub cell : Ty → ℕ → Val → List (Item 𝓤) → List (Item 𝓤)
  cell τ b v Γ = ‵ (fat full_share τ b 0 v) ∷ ‵ (fdies τ b) ∷ Γ

  abbrev pub room : Ty → ℕ → List (Item 𝓤) → List (Item 𝓤)
  room τ b Γ = ‵ (froom τ b 0) ∷ ‵ (fdies τ b) ∷ Γ

-- ---- at a branch: what it tells of its test

pub told_true : (b : Bool) → Holds b → b ≡ true
told_true true h = refl
told_true false h = absurd h

pub told_false : (b : Bool) → Holds (not b) → b ≡ false
told_false true h = absurd h
told_false false h = refl

-- ---- at a call, and at the end of the locals

module _ {M : Type 1} {𝓤 : Ura M} {𝓛 : Logic 𝓤} {K : Type 0} {Γ : List (Item 𝓤)} where
  -- what a function gives back: the tokens, its result, what is said of last values, and what its contract says
  open 𝓛 use {H}

  module _ (T : Ended) (c : Clauses 𝓤 T) (y : (Promise 𝓛 T c).Ghost) (φ : (Result 𝓛 T c y).Denot → LastOnes 𝓛 T c y → Type 0) (says : (r : (Result 𝓛 T c y).Denot) (ws : LastOnes 𝓛 T c y) → ent 𝓤 (Said 𝓛 T c y r ws) (fact 𝓤 (φ r ws))) where
    given_back : {G : Goal 𝓤 H} → K → Soaks G → (v : Val) → ((r : (Result 𝓛 T c y).Denot) (ws : LastOnes 𝓛 T c y) → φ r ws → Is (Result 𝓛 T c y) r (v ∷ []) → Seq K 𝓛 (Back 𝓛 T c y v r ws Γ) G)
        → Seq K 𝓛 (raw ((Promise 𝓛 T c).post y v) ∷ Γ) G
    given_back t soaks v k =
        let R : RattleType = Result 𝓛 T c y in
        use1 𝓛 (later (some (λ (r : R.Denot). (raw (Tokens 𝓛 T c y) ⊛ ‵ (R.own_val r (v ∷ []))) ⊛ some (λ (ws : LastOnes 𝓛 T c y). ‵ (lasts T y.0.0 y.0.3 ws) ⊛ raw (Said 𝓛 T c y r ws))))) (id⊢ 𝓤 _) $
        await t soaks $ pick t (λ r. split t $ move t (1 ∷ []) $ pick t (λ ws. split t $ move t (1 ∷ []) $ use1 𝓛 (raw (fact 𝓤 (φ r ws))) (says r ws) $ heard t (φ r ws) (λ e.
        move t (1 ∷ []) $ split t $ move t (1 ∷ []) $ peeks t R (Is R) (shows 𝓛 R) r (v ∷ []) (λ is. move t (1 ∷ 0 ∷ []) $ k r ws e is))))

  -- a function is called with the tokens, what its arguments own and what it asks
  pub calls : {E : Env 𝓤 H} {C : Calls 𝓤 H} {Λ : Loops 𝓤 H} {q : Post 𝓤 H} {d : Place} {f : Callee} {xs : List Operand} {rest : Body} → K → FmC 𝓤 H 𝓛.laws C
      → (T : Ended) (c : Clauses 𝓤 T) → Triple 𝓤 (C f) (Promise 𝓛 T c) → (y : (Promise 𝓛 T c).Ghost) → ent 𝓤 (emp 𝓤) (Asked 𝓛 T c y) → Opds K 𝓛 (raw ((Promise 𝓛 T c).pre y) ∷ Γ) E xs ((Promise 𝓛 T c).args y)
      → (φ : (Result 𝓛 T c y).Denot → LastOnes 𝓛 T c y → Type 0) → (says : (r : (Result 𝓛 T c y).Denot) (ws : LastOnes 𝓛 T c y) → ent 𝓤 (Said 𝓛 T c y r ws) (fact 𝓤 (φ r ws)))
      → ((v : Val) (r : (Result 𝓛 T c y).Denot) (ws : LastOnes 𝓛 T c y) → φ r ws → Is (Result 𝓛 T c y) r (v ∷ []) → Seq K 𝓛 (Back 𝓛 T c y v r ws Γ) (lands C Λ E d v rest q))
      → Seq K 𝓛 (raw (Tokens 𝓛 T c y) ∷ ‵ (Brought 𝓛 T c y) ∷ Γ) (runs C Λ E (seq (call f xs d) rest) q)
  calls t fm T c met y asks os φ says k =
      use2 𝓛 (raw (on_entry 𝓛 T.signature y.0.0 y.0.1 y.0.3 y.0.4)) (id⊢ 𝓤 _) $ use0 𝓛 (raw (Asked 𝓛 T c y)) asks $ move t (1 ∷ 0 ∷ []) $
      use2 𝓛 (raw ((Promise 𝓛 T c).pre y)) (id⊢ 𝓤 _) $ calls_at t fm (Promise 𝓛 T c) met y os (λ v. given_back T c y φ says t tt v (k v))

  -- the same where the call is the last statement of its part, as of a turn of a loop
  pub calls_last : {E : Env 𝓤 H} {C : Calls 𝓤 H} {Λ : Loops 𝓤 H} {q : Post 𝓤 H} {d : Place} {f : Callee} {xs : List Operand} → K → FmC 𝓤 H 𝓛.laws C
      → (T : Ended) (c : Clauses 𝓤 T) → Triple 𝓤 (C f) (Promise 𝓛 T c) → (y : (Promise 𝓛 T c).Ghost) → ent 𝓤 (emp 𝓤) (Asked 𝓛 T c y) → Opds K 𝓛 (raw ((Promise 𝓛 T c).pre y) ∷ Γ) E xs ((Promise 𝓛 T c).args y)
      → (φ : (Result 𝓛 T c y).Denot → LastOnes 𝓛 T c y → Type 0) → (says : (r : (Result 𝓛 T c y).Denot) (ws : LastOnes 𝓛 T c y) → ent 𝓤 (Said 𝓛 T c y r ws) (fact 𝓤 (φ r ws)))
      → ((v : Val) (r : (Result 𝓛 T c y).Denot) (ws : LastOnes 𝓛 T c y) → φ r ws → Is (Result 𝓛 T c y) r (v ∷ []) → Seq K 𝓛 (Back 𝓛 T c y v r ws Γ) (settles E d v q))
      → Seq K 𝓛 (raw (Tokens 𝓛 T c y) ∷ ‵ (Brought 𝓛 T c y) ∷ Γ) (runs C Λ E (call f xs d) q)
  calls_last t fm T c met y asks os φ says k =
      use2 𝓛 (raw (on_entry 𝓛 T.signature y.0.0 y.0.1 y.0.3 y.0.4)) (id⊢ 𝓤 _) $ use0 𝓛 (raw (Asked 𝓛 T c y)) asks $ move t (1 ∷ 0 ∷ []) $
      use2 𝓛 (raw ((Promise 𝓛 T c).pre y)) (id⊢ 𝓤 _) $ calls_at_last t fm (Promise 𝓛 T c) met y os (λ v. given_back T c y φ says t tt v (k v))

  -- a local is given up: its cell is entry n, and the leave to free it stands behind
  pub gone : K → (n : ℕ) {τ : Ty} {b : ℕ} {v : Val} {E : Env 𝓤 H} {g : Goal 𝓤 H} → nth 𝓛 n Γ ≡ ‵ (fat full_share τ b zero v) → nth 𝓛 n (del 𝓛 n Γ) ≡ ‵ (fdies τ b)
      → Step K 𝓛 (del 𝓛 n (del 𝓛 n Γ)) (frees E g) Γ (frees ((τ, b) ∷ E) g)
  gone t n {τ} {b} {v} {E} {g} cell dies = step (λ s. record {
    prf =
        via 𝓤 (sep 𝓤 (H.at full_share τ b zero v) (⋆ 𝓛 (del 𝓛 n Γ)))
        (subst (λ (j : Item 𝓤). ent 𝓤 (⋆ 𝓛 Γ) (sep 𝓤 (mean 𝓛 j) (⋆ 𝓛 (del 𝓛 n Γ)))) cell (pull 𝓛 n Γ))
        (via 𝓤 (sep 𝓤 (H.room τ b zero) (sep 𝓤 (H.dies τ b) (⋆ 𝓛 (del 𝓛 n (del 𝓛 n Γ)))))
        (mono∗ 𝓤 (𝓛.laws.at_room τ b zero v)
        (subst (λ (j : Item 𝓤). ent 𝓤 (⋆ 𝓛 (del 𝓛 n Γ)) (sep 𝓤 (mean 𝓛 j) (⋆ 𝓛 (del 𝓛 n (del 𝓛 n Γ))))) dies (pull 𝓛 n (del 𝓛 n Γ))))
        (via 𝓤 (⋆ 𝓛 (‵ (froom τ b zero) ∷ ‵ (fdies τ b) ∷ del 𝓛 n (del 𝓛 n Γ)))
        (mono_r 𝓤 (H.room τ b zero) (push 𝓛 (‵ (fdies τ b)) (del 𝓛 n (del 𝓛 n Γ))))
        (free1 t $ s).prf));
  })

-- ---- at the exit, where nothing is kept of any parameter

module _ {n : ℕ} where
  abbrev pub dropped : (ss : List (Slot n)) (ks : Kepts ss) → Stays ss ks
  dropped [] ks = tt
  dropped (s ∷ ss) ks = (stay_dropped s ks.0, dropped ss ks.1)

  all_fit : (κs : Lfts n) (ss : List (Slot n)) (ks : Kepts ss) (a : Denots (types_at ss κs)) (ws : Fins κs ss ks a) → fits_of κs ss ks (dropped ss ks) a ws
  all_fit κs [] ks a ws = tt
  all_fit κs (s ∷ ss) ks a ws = (tt, all_fit κs ss ks.1 a.1 ws.1)

module _ {M : Type 1} {𝓤 : Ura M} (𝓛 : Logic 𝓤) where
  -- of no parameter a last value is said: each part is `λ κs x f. refl` at types that are written out
  abbrev pub Silents : {n : ℕ} (ss : List (Slot n)) → Kepts ss → Type 1
  Silents [] ks = Unit {1}
  Silents {n} (s ∷ ss) ks = Silent 𝓛 n s ks.0 × Silents ss ks.1

  all_go : {n : ℕ} (ss : List (Slot n)) (ks : Kepts ss) → Silents ss ks → AllGo 𝓛 n ss ks (dropped ss ks)
  all_go [] ks q = tt
  all_go {n} (s ∷ ss) ks q = (Goes-dropped 𝓛 n s ks.0 q.0, all_go ss ks.1 q.1)

  none_had : {n : ℕ} (κs : Lfts n) (ss : List (Slot n)) (ks : Kepts ss) (a : Denots (types_at ss κs)) (ws : Fins κs ss ks a) (vss : Valss (types_at ss κs)) → ent 𝓤 (emp 𝓤) (sem 𝓛 (has_of κs ss ks (dropped ss ks) a ws vss))
  none_had κs [] ks a ws vss = id⊢ 𝓤 (emp 𝓤)
  none_had κs (s ∷ ss) ks a ws vss = via 𝓤 (sem 𝓛 (has_of κs ss ks.1 (dropped ss ks.1) a.1 ws.1 vss.1)) (none_had κs ss ks.1 a.1 ws.1 vss.1) (emp∗ 𝓤 _)

  module _ (T : Ended) (c : Clauses 𝓤 T) where
    abbrev ss : List (Slot T.signature.lifetimes)
    ss = T.signature.params

    abbrev hs : Stays ss T.kept
    hs = dropped ss T.kept

    module _ (y : (Promise 𝓛 T c).Ghost) (v : Val) where
      -- what a walk has to reach, at the machine value that it returns
      abbrev pub Left : SProp 𝓤
      Left = (walk_of 𝓛 T hs c).post y v

      -- the tokens, what gives the result, and what the contract says are enough
      pub ends : (r : (Result 𝓛 T c y).Denot) (ws : LastOnes 𝓛 T c y) → ent 𝓤 (emp 𝓤) (Said 𝓛 T c y r ws) → {P : SProp 𝓤} → ent 𝓤 P (sem 𝓛 ((Result 𝓛 T c y).own_val r (v ∷ [])))
          → ent 𝓤 (sep 𝓤 (Tokens 𝓛 T c y) P) Left
      ends r ws said {P} gives =
          qed 𝓛 (raw (Tokens 𝓛 T c y) ∷ raw P ∷ []) ∵ suffices ! _ (ends_at 𝓛 T hs c y v r ws (all_fit y.0.0 ss T.kept y.0.3 ws)) $
          move ! (1 ∷ []) $ use1 𝓛 (‵ ((Result 𝓛 T c y).own_val r (v ∷ []))) gives $ use0 𝓛 (‵ (has_of y.0.0 ss T.kept hs y.0.3 ws y.0.4)) (none_had y.0.0 ss T.kept y.0.3 ws y.0.4) $ move ! (2 ∷ 0 ∷ []) $
          use3 𝓛 (raw (on_exit 𝓛 T hs y.0.0 y.0.1 y.0.4 v r y.0.3 ws)) (id⊢ 𝓤 _) $ frame ! $ use0 𝓛 (raw (Said 𝓛 T c y r ws)) said $ done !

    -- a function meets its contract by a walk that ends so
    pub by_walk : Silents ss T.kept → (run : Fun 𝓤) → ((vs : List Val) → Mono 𝓤 (run vs))
        → (sp : (κs : Lfts T.signature.lifetimes) → Spells (types_at ss κs)) → ((κs : Lfts T.signature.lifetimes) → Tellss (types_at ss κs) (Ises (types_at ss κs)) (sp κs))
        → ((κs : Lfts T.signature.lifetimes) (qs : Shares T.signature.lifetimes) (bounds : AllOutlive T.signature.lifetimes T.signature.outlives κs) (a : Args T.signature κs) (g : (c κs a).ghost)
        → Are (types_at ss κs) (Ises (types_at ss κs)) a (valss (types_at ss κs) (sp κs) a)
        → ent 𝓤 ((Promise 𝓛 T c).pre ((κs, qs, bounds, a, valss (types_at ss κs) (sp κs) a), g)) (run (flat (types_at ss κs) (valss (types_at ss κs) (sp κs) a)) (Left ((κs, qs, bounds, a, valss (types_at ss κs) (sp κs) a), g))))
        → Meets 𝓛 T.signature run (closing 𝓛 T c)
    by_walk q run mono sp tl k = walk_Meets 𝓛 T hs (all_go ss T.kept q) c run mono (walked 𝓛 T hs c run sp tl k)
