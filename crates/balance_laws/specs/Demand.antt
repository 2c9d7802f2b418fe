-- Demand 3, over any list of calls behind an accepted opening: by induction on the list, since each call leaves a running card and settles.
use Rattle.std.specs.Prelude.{◌≡◌, refl, Bool, true, false, ◌&&◌, not, cond, ℕ, suc, ◌+◌, ◌-◌, ◌^◌, ◌≤◌, ◌<◌, eqb, ltb, leb, pos, negsuc, ◌+ℤ◌}
use Rattle.std.proofs.Math.Path.{sym, ap}
use Rattle.std.proofs.Common.{◌∙◌, ltb-true, ltb-false, le-ltb, leb-false}
use mathlib.Core.List.{List, [], ◌∷◌, ◌++◌, append-nil, append_assoc}
use native.Mathlib.Omega.{arith}
use Rattle.std.proofs.Math.IntN.{sub_ℕ}
use Rattle.rules.specs.Messages.{Message}
use Rattle.rules.specs.Register.{register_of}
use Rattle.rules.specs.Engine.{Position, has_details}
use Rattle.rules.specs.Calls.{opened}
use Rattle.rules.specs.Area.{Result, card_open}
use Rattle.rules.specs.Ledger.{Kind, Event, applied, message_of, ledger_from, ledger_of, transferred_of, detailed_of, held, sum_of, turned_by, since_turn, accepted, untouched_of}
use Rattle.rules.specs.Demand3.{Call, result, Ran, ran, Demand3}
use Rattle.laws.specs.Tests.{never}
use Rattle.engine_laws.specs.Calls.{Opens, open_accepted, done_holds}
use Rattle.balance_laws.specs.Kinds.{comes_in, goes_out, sum_in_lem, sum_out}
use Rattle.balance_laws.specs.Tally.{Measure, tally, only, of_bank, bare, transfers, details, transferred_tally, detailed_tally, tally_each, tally_none, nought, same_refl, same_times}
use Rattle.balance_laws.specs.Settled.{Settles, settles_none, settles_then}
use Rattle.balance_laws.specs.Untouched.{History, history_start, free, untouched_all}
use Rattle.balance_laws.specs.Running.{Running, event, Stepped, stepped}

-- ---- the first event and the others

picked : {A B : Type 0} (f : A → B) (t : Bool) (x y : A) → cond t (f x) (f y) ≡ f (cond t x y)
picked f true x y = refl
picked f false x y = refl

module _ (e : Event) (es : List Event) where
  ledger_next : (ledger : List Position) → ledger_from ledger (e ∷ es) ≡ ledger_from (ledger_from ledger (e ∷ [])) es
  unfolding ledger_from
  ledger_next ledger = picked (λ (l : List Position). ledger_from l es) (eqb e.number 0) (applied e.request ledger) ledger

  turned_next : (b : Bool) → since_turn b (e ∷ es) ≡ since_turn (since_turn b (e ∷ [])) es
  unfolding since_turn
  turned_next b = picked (λ (t : Bool). since_turn t es) (eqb e.number 0) (turned_by b e.request) b

  accepted_next : (sent : List Message) → sent ++ accepted (e ∷ es) ≡ sent ++ accepted (e ∷ []) ++ accepted es
  unfolding accepted
  accepted_next sent =
      ap (λ (ms : List Message). sent ++ ms) (picked (λ (ms : List Message). ms ++ accepted es) (eqb e.number 0) (message_of e.request) [])
      ∙ sym (append_assoc sent (cond (eqb e.number 0) (message_of e.request) []) (accepted es)) ∙ rw append-nil

  sum_next : (kind : Kind) → sum_of kind (e ∷ es) ≡ sum_of kind (e ∷ []) + sum_of kind es
  unfolding sum_of
  sum_next kind = omega arith

-- ---- a list of calls

-- what the calls leave, and that all of them settle
pub record Ended (temporary : List ℕ) (ledger : List Position) (sent : List Message) (turned : Bool) (r : Ran) : Type 0 where
  pub end : Running temporary r.area (ledger_from ledger r.events) (sent ++ accepted r.events) (since_turn turned r.events)
  pub settles : (bank : ℕ) → bank < 2 ^ 64
      → Settles bank (sum_of (comes_in bank) r.events) (sum_of (goes_out temporary bank) r.events) ledger (ledger_from ledger r.events)

-- one call, and then the others
ended_more : (temporary : List ℕ) (ledger : List Position) (sent : List Message) (turned : Bool) (e : Event) {area : List ℕ} (r : Ran) → Stepped temporary ledger sent turned e area
    → Ended temporary (ledger_from ledger (e ∷ [])) (sent ++ accepted (e ∷ [])) (since_turn turned (e ∷ [])) r
    → Ended temporary ledger sent turned record { events = e ∷ r.events; area = r.area }
ended_more temporary ledger sent turned e r s more = record {
  end = rw (ledger_next e r.events ledger, accepted_next e r.events sent, turned_next e r.events turned) more.end;
  settles = λ bank l.
      rw (ledger_next e r.events ledger, sum_next e r.events (comes_in bank), sum_next e r.events (goes_out temporary bank)) (settles_then (s.settles bank l) (more.settles bank l));
}

pub ended : (temporary area : List ℕ) (ledger : List Position) (sent : List Message) (turned : Bool) (cs : List Call) → Running temporary area ledger sent turned
    → Ended temporary ledger sent turned (ran area cs)
unfolding ran event ledger_from accepted since_turn sum_of
ended temporary area ledger sent turned [] w = record { end = rw append-nil w; settles = λ bank l. settles_none bank ledger }
ended temporary area ledger sent turned (c ∷ cs) w =
    let r : Result = result c.request area c.output in
    let s : Stepped temporary ledger sent turned (event c.request r) r.area = stepped temporary area ledger sent turned w.engine w.holding w.agrees c.request c.output in
    ended_more temporary ledger sent turned (event c.request r) (ran r.area cs) s (ended temporary r.area _ _ _ cs s.next)

-- ---- the claim

-- what comes in is what goes out and what is held
whole : (a b t d : ℕ) → a + d ≡ b + t → pos a ≡ pos b +ℤ sub_ℕ t d
whole a b t d e = go (ltb t d) refl
  where
    go : (c : Bool) → ltb t d ≡ c → pos a ≡ pos b +ℤ cond c (negsuc (d - suc t)) (pos (t - d))
    go true h =
        let l : t < d = ltb-true t d h in
        rw (le-ltb b (suc (d - suc t)) (omega arith)) (ap pos (omega arith))
    go false h = let l : d ≤ t = ltb-false t d h in ap pos (omega arith)

-- where no entry has details, what is held is what no detail has met
bare_held : (bank day : ℕ) (ledger : List Position) (sent : List Message) → ((g : Measure) → tally g ledger ≡ tally (only bare g) ledger) → History day ledger sent
    → held bank ledger ≡ pos (untouched_of bank sent)
unfolding held only of_bank bare free has_details
bare_held bank day ledger sent b h =
    let t : transferred_of bank ledger ≡ untouched_of bank sent =
    transferred_tally bank ledger ∙ b (only (of_bank bank) transfers)
    ∙ tally_each (only bare (only (of_bank bank) transfers)) (free bank (λ d. true)) (λ p. same (eqb p.key.bank bank) (leb 1 p.detailed) p.transferred) ledger
    ∙ h.held bank (λ d. true) ∙ sym (untouched_all bank sent sent) in
    let d : detailed_of bank ledger ≡ 0 =
    detailed_tally bank ledger ∙ b (only (of_bank bank) details) ∙ tally_none (only bare (only (of_bank bank) details)) (λ p. nothing (eqb p.key.bank bank) p.detailed) ledger in
    rw (d, le-ltb (transferred_of bank ledger) 0 (omega arith)) (ap pos (omega arith))
  where
    same : (c e : Bool) (v : ℕ) → cond (not e) (cond c v 0) 0 ≡ cond (c && true && not e) v 0
    same true true v = refl
    same true false v = refl
    same false e v = nought (not e)

    nothing : (c : Bool) (v : ℕ) → cond (not (leb 1 v)) (cond c v 0) 0 ≡ 0
    nothing c v = go (leb 1 v) refl
      where
        go : (e : Bool) → leb 1 v ≡ e → cond (not e) (cond c v 0) 0 ≡ 0
        go true f = refl
        go false f = let z : v ≡ 0 = omega (arith, leb-false 1 v f) in rw z (nought c)

pub demand3 : Demand3
unfolding opened transferred_of detailed_of held
demand3 text list day area calls h =
    let temporary : List ℕ = (register_of text).temporary in
    let o : Opens text list day area = open_accepted text list day area h in
    let r : Ran = ran (card_open text list day area).area calls in
    let w : Running temporary (card_open text list day area).area [] [] false =
    record { engine = opened text list day; holding = done_holds o.done; agrees = record { account = refl; same = same_refl []; history = history_start day; settled = never } } in
    let z : Ended temporary [] [] false r = ended temporary _ [] [] false calls w in
    record {
      engine = z.end.engine;
      holding = z.end.holding;
      balance = λ bank l.
          rw (sum_in_lem bank r.events, sum_out temporary bank r.events)
          (whole _ _ (transferred_of bank (ledger_of r.events)) (detailed_of bank (ledger_of r.events)) (omega (arith, (z.settles bank l).balance)));
      positions = same_times z.end.engine.positions (ledger_of r.events) z.end.agrees.same;
      untouched_held = λ f bank l. bare_held bank z.end.engine.day (ledger_of r.events) (accepted r.events) (z.end.agrees.settled f) z.end.agrees.history;
    }
