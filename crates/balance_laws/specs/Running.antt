-- One call of the list: the card that runs stays as the ledger and the messages accepted so far say, and what the call wrote settles with what it changed of the ledger.
use Rattle.std.specs.Prelude.{◌≡◌, refl, Bool, true, ℕ, ◌^◌, ◌≤◌, ◌<◌, length, take}
use Rattle.std.proofs.Common.{◌∙◌, arith}
use Rattle.std.proofs.Math.Bool.{false, and-false}
use mathlib.Core.List.{List, [], ◌∷◌, ◌++◌, append-nil}
use Rattle.std.proofs.Math.Option.{none, some}
use Rattle.std.proofs.Math.Dec.{eqb}
use borrow.Author.Tests.{ne_eqb}
use Rattle.rules.specs.Messages.{Message, date_of, transferred_by, detailed_by}
use Rattle.rules.specs.Register.{register_of}
use Rattle.rules.specs.Text.{ordered}
use Rattle.rules.specs.Engine.{Position, Engine, earlier, same_key}
use Rattle.rules.specs.Calls.{bank_of, addition, after_message, after_turn}
use Rattle.rules.specs.Area.{Result, card_message, card_turn, holds}
use Rattle.rules.specs.Ledger.{Request, message, turn, service, Event, applied, entered_by, ledger_from, turned_by, since_turn, listed, message_of, accepted, sum_of}
use Rattle.rules.specs.Services.{Service, service_result}
use Rattle.rules.specs.Demand3.{result}
use Rattle.laws.specs.Tests.{never}
use Rattle.laws.specs.All.{All, All.none, All.more}
use Rattle.laws.specs.Order.{ordered_sorted}
use Rattle.engine_laws.specs.Limits.{Limits, limits}
use Rattle.engine_laws.specs.EngineIn.{engine_in}
use Rattle.engine_laws.specs.Positions.{Good, all_good, position_order}
use Rattle.engine_laws.specs.Calls.{Stays, by_number, done_holds, done_text, Takes, message_accepted, message_ends, Turns, turn_accepted, turn_ends}
use Rattle.balance_laws.specs.Told.{mute_none, Tells, tells_mute, told}
use Rattle.balance_laws.specs.Tally.{Measure, tally, SameEntries, either_way, only, like, bare, one, kept_bare, same_kept}
use Rattle.balance_laws.specs.Booking.{many, many_past, keyed, sorted_many, entered_same}
use Rattle.rule_laws.specs.Messages.{read_as}
use Rattle.balance_laws.specs.Kinds.{comes_in, goes_out, mine}
use Rattle.balance_laws.specs.Message.{Postable, message_in_lem, message_out}
use Rattle.balance_laws.specs.Turn.{closed, nothing, turn_in, turn_out}
use Rattle.balance_laws.specs.Admission.{postable, admitted}
use Rattle.balance_laws.specs.Settled.{Settles, settles_none, message_settles, settles_turn}
use Rattle.balance_laws.specs.Services.{Uncounted, uncounted}
use Rattle.balance_laws.specs.Untouched.{History, history_message, history_turn}

-- ---- the card between calls

-- the engine's positions are the ledger's, its temporary account and day as the calls say, and behind a turn no entry has details
pub record Agrees (temporary : List ℕ) (ledger : List Position) (sent : List Message) (turned : Bool) (e : Engine) : Type 0 where
  pub account : (register_of e.register).temporary ≡ temporary
  pub same : SameEntries e.positions ledger
  pub history : History e.day ledger sent
  pub settled : turned ≡ true → (g : Measure) → tally g ledger ≡ tally (only bare g) ledger

-- the area holds such an engine
pub record Running (temporary area : List ℕ) (ledger : List Position) (sent : List Message) (turned : Bool) : Type 0 where
  pub engine : Engine
  pub holding : holds area ≡ some engine
  pub agrees : Agrees temporary ledger sent turned engine

-- the event of a call
unfoldable pub event : Request → Result → Event
event f r = record { request = f; number = r.number; bytes = take r.written r.output }

-- what a call leaves, and that it settles
pub record Stepped (temporary : List ℕ) (ledger : List Position) (sent : List Message) (turned : Bool) (e : Event) (area : List ℕ) : Type 0 where
  pub next : Running temporary area (ledger_from ledger (e ∷ [])) (sent ++ accepted (e ∷ [])) (since_turn turned (e ∷ []))
  pub settles : (bank : ℕ) → bank < 2 ^ 64 → Settles bank (sum_of (comes_in bank) (e ∷ [])) (sum_of (goes_out temporary bank) (e ∷ [])) ledger (ledger_from ledger (e ∷ []))

-- an entry of the ledger stands there once
once : {ps ledger : List Position} → ordered earlier ps ≡ true → SameEntries ps ledger → (bank date : ℕ) → many (keyed bank date) ledger ≤ 1
unfolding many
once {ps} h s bank date = rw (← s.sums (only (like (keyed bank date)) one)) (sorted_many (keyed bank date) (ordered_sorted position_order ps h))

-- no entry is dated after the day
unmet : {day : ℕ} {ps ledger : List Position} → All (Good day) ps → SameEntries ps ledger → (bank next : ℕ) → day < next → many (keyed bank next) ledger ≡ 0
unfolding many tally same_key keyed
unmet {day} {ps} a s bank next l = rw (← s.sums (only (like (keyed bank next)) one)) (go a)
  where
    go : {qs : List Position} → All (Good day) qs → many (keyed bank next) qs ≡ 0
    go none = refl
    go (more {x = p} {xs = qs} g t) =
        many_past (keyed bank next) p qs (rw (ne_eqb p.key.date next (λ e. omega (arith, g.past)), and-false)) ∙ go t

-- from what the bytes of an event tell
told_settles : (bank : ℕ) (temporary : List ℕ) (e : Event) {v u : ℕ} {ledger next : List Position} → Tells (comes_in bank) e.request e.bytes v → Tells (goes_out temporary bank) e.request e.bytes u
    → Settles bank v u ledger next → Settles bank (sum_of (comes_in bank) (e ∷ [])) (sum_of (goes_out temporary bank) (e ∷ [])) ledger next
unfolding sum_of
told_settles bank temporary e s t b = record { balance = omega (arith, told s, told t, b.balance) }

module _ (temporary area : List ℕ) (ledger : List Position) (sent : List Message) (turned : Bool) (e : Engine) (h : holds area ≡ some e) (g : Agrees temporary ledger sent turned e) where
  l : Limits e
  l = limits e (engine_in area e h).good

  -- one that counts for nothing
  step_uncounted : (f : Request) (r : Result) → Uncounted r area → ledger_from ledger (event f r ∷ []) ≡ ledger → accepted (event f r ∷ []) ≡ [] → since_turn turned (event f r ∷ []) ≡ turned
      → Stepped temporary ledger sent turned (event f r) r.area
  unfolding event
  step_uncounted f r u same unsent still = record {
    next = rw (same, unsent, append-nil, still, u.area) record { engine = e; holding = h; agrees = g };
    settles = λ bank k. told_settles bank temporary (event f r) (tells_mute u.mute) (tells_mute u.mute) (rw same (settles_none bank ledger));
  }

  -- refused
  step_refused : (f : Request) (out : List ℕ) (r : Result) → (r.number ≡ 0 → ⊥) → Stays r area out → Stepped temporary ledger sent turned (event f r) r.area
  unfolding event ledger_from accepted since_turn
  step_refused f out r n s =
      let e : eqb r.number 0 ≡ false = ne_eqb r.number 0 n in
      step_uncounted f r record { area = s.area; mute = rw s.written mute_none } (rw e) (rw e) (rw e)

  -- a call that changes no engine, accepted or refused
  step_service : (v : Service) (out : List ℕ) → Stepped temporary ledger sent turned (event (service v) (service_result v area out)) (service_result v area out).area
  unfolding event ledger_from applied accepted message_of since_turn turned_by
  step_service v out =
      let r : Result = service_result v area out in
      step_uncounted (service v) r (uncounted v area out) (either_way (eqb r.number 0) ledger) (either_way (eqb r.number 0) []) (either_way (eqb r.number 0) turned)

  -- an accepted message
  step_message : (s out : List ℕ) → (card_message s area out).number ≡ 0 → Stepped temporary ledger sent turned (event (message s) (card_message s area out)) (card_message s area out).area
  unfolding event ledger_from accepted since_turn applied entered_by message_of listed turned_by after_message
  step_message s out a =
      let t : Takes s area out e = message_accepted s area out e h a in
      let m : Message = t.message in
      let p : Postable e m = postable (length out) e s m l t.reads t.clear in
      record {
        next = rw (a, t.reads) record {
          engine = after_message e m;
          holding = done_holds t.done;
          agrees = record {
            account = g.account;
            same = entered_same (addition m) e.positions ledger l.order g.same;
            history = history_message g.history m (admitted (length out) e s m (read_as s m t.reads) t.clear) (once l.order g.same (bank_of m) (date_of m));
            settled = never;
          };
        };
        settles = λ bank n.
            let i : Tells (comes_in bank) (message s) (take (card_message s area out).written (card_message s area out).output) (mine bank (bank_of m) (transferred_by m)) =
            rw (done_text t.done) (message_in_lem e m p bank (message s) n) in
            let o : Tells (goes_out temporary bank) (message s) (take (card_message s area out).written (card_message s area out).output) (mine bank (bank_of m) (detailed_by m)) =
            rw (done_text t.done, ← g.account) (message_out e m p bank (message s) n) in
            told_settles bank temporary (event (message s) (card_message s area out)) i o (rw (a, t.reads) (message_settles bank m ledger));
      }

  -- an accepted turn
  step_turn : (day : ℕ) (out : List ℕ) → (card_turn day area out).number ≡ 0 → Stepped temporary ledger sent turned (event (turn day) (card_turn day area out)) (card_turn day area out).area
  unfolding event ledger_from accepted since_turn applied message_of turned_by after_turn
  step_turn day out a =
      let t : Turns day area out e = turn_accepted day area out e h a in
      record {
        next = rw (a, append-nil sent) record {
          engine = after_turn e day;
          holding = done_holds t.done;
          agrees = record {
            account = g.account;
            same = same_kept e.positions ledger g.same;
            history = history_turn g.history day t.clear.later (λ bank. unmet (all_good e.day e.positions l.good) g.same bank day t.clear.later);
            settled = λ f m. kept_bare m ledger;
          };
        };
        settles = λ bank n.
            let i : Tells (comes_in bank) (turn day) (take (card_turn day area out).written (card_turn day area out).output) (tally (closed nothing (mine bank)) e.positions) =
            rw (done_text t.done) (turn_in e l day bank (turn day) n) in
            let o : Tells (goes_out temporary bank) (turn day) (take (card_turn day area out).written (card_turn day area out).output) (tally (closed (mine bank) nothing) e.positions) =
            rw (done_text t.done, ← g.account) (turn_out e l day bank (turn day) n) in
            told_settles bank temporary (event (turn day) (card_turn day area out)) i o (rw a (settles_turn bank e.positions ledger g.same));
      }

  -- any call
  pub stepped : (f : Request) (out : List ℕ) → Stepped temporary ledger sent turned (event f (result f area out)) (result f area out).area
  unfolding result
  stepped (message s) out = by_number (message_ends s area out) (step_message s out) (step_refused (message s) out _)
  stepped (turn day) out = by_number (turn_ends day area out) (step_turn day out) (step_refused (turn day) out _)
  stepped (service v) out = step_service v out
