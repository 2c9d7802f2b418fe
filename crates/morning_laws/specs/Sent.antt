-- The messages of a morning, one after the other and each accepted: the engine that they leave has the register, the holiday list and the day as before, the positions with all of them booked, and they wrote the posting lines of each.
use Rattle.std.specs.Prelude.{◌≡◌, refl, not, List, [], ◌∷◌, ℕ, ◌+◌, eqb, length, take, drop}
use Rattle.std.proofs.Common.{sym, ap, ◌∙◌, arith, eqb-true}
use Rattle.std.proofs.Math.Option.{none, some}
use Rattle.std.proofs.lemmas.Bool.{not-false}
use Rattle.rules.specs.Text.{equal, any, times}
use Rattle.rules.specs.Lines.{Line}
use Rattle.rules.specs.Engine.{Position, Reference, Engine}
use Rattle.rules.specs.Calls.{after_message}
use Rattle.rules.specs.Area.{area_size, holds, Result, card_message}
use Rattle.rules.specs.Demand3.{Ran, result, ran}
use Rattle.rules.specs.SameMornings.{Sending, texts, morning, is_refused, NothingRefused, lines_by, posted_by}
use Rattle.laws.specs.Tests.{any_left, any_right, none_some}
use Rattle.laws.specs.Rearranged.{through, times_join}
use Rattle.engine_laws.specs.Limits.{limits}
use Rattle.engine_laws.specs.EngineIn.{engine_in}
use Rattle.engine_laws.specs.Calls.{done_holds, done_behind, done_text, Takes, message_there, message_ends, message_accepted}
use Rattle.balance_laws.specs.Admission.{postable}
use Rattle.morning_laws.specs.Exchange.{booked_text, booked_read_lem}
use Rattle.morning_laws.specs.Posts.{postings_in, message_posts, text_posts, read_posts_lem}

-- the engine later on the same day
abbrev pub later : Engine → List Position → List Reference → ℕ → Engine
later e ps rs n = record { register = e.register; holidays = e.holidays; day = e.day; positions = ps; references = rs; count = n }

-- the posting lines that are l, counted from n on
unfoldable pub counting : Engine → Line → List ℕ → ℕ → ℕ
counting e l s n = n + times equal l (text_posts e.register e.day s)

-- what they leave, from an engine that has the positions ps
pub record Sent (e : Engine) (ps : List Position) (area : List ℕ) (ss : List Sending) (r : Ran) : Type 0 where
  pub references : List Reference
  pub count : ℕ
  pub holding : holds r.area ≡ some (later e (through booked_text ps (texts ss)) references count)
  pub behind : drop area_size r.area ≡ drop area_size area
  pub lines : (l : Line) (n : ℕ) → through (counting e l) n (texts ss) ≡ n + times equal l (posted_by r.events)

-- the posting lines that an accepted message wrote
wrote : (s area out : List ℕ) (e : Engine) (ps : List Position) (rs : List Reference) (n : ℕ) → holds area ≡ some (later e ps rs n) → (t : Takes s area out (later e ps rs n))
    → postings_in (take (card_message s area out).written (card_message s area out).output) ≡ text_posts e.register e.day s
wrote s area out e ps rs n h t =
    let w = postable (length out) (later e ps rs n) s t.message (limits _ (engine_in area _ h).good) t.reads t.clear in
    ap postings_in (done_text t.done) ∙ message_posts (later e ps rs n) t.message w ∙ sym (read_posts_lem e.register e.day s t.message t.reads)

pub sent : (e : Engine) (ps : List Position) (rs : List Reference) (n : ℕ) (area : List ℕ) → holds area ≡ some (later e ps rs n) → (ss : List Sending) → NothingRefused (morning area ss) → Sent e ps area ss (morning area ss)
unfolding ran result any is_refused through lines_by times after_message counting
sent e ps rs n area h [] k = record { references = rs; count = n; holding = h; behind = refl; lines = λ l m. omega arith }
sent e ps rs n area h (s ∷ ss) k =
    let r : Result = card_message s.text area s.output in
    let z : r.number ≡ 0 = eqb-true _ _ (not-false _ (any_left _ _ k)) in
    let t : Takes s.text area s.output (later e ps rs n) = message_accepted s.text area s.output (later e ps rs n) h z in
    let after : Engine = after_message (later e ps rs n) t.message in
    let next : holds r.area ≡ some (later e (booked_text s.text ps) after.references after.count) = rw (booked_read_lem s.text t.message ps t.reads) (done_holds t.done) in
    let more : Sent e (booked_text s.text ps) r.area ss (morning r.area ss) = sent e (booked_text s.text ps) _ _ r.area next ss (any_right (not (eqb r.number 0)) _ k) in
    record {
      references = more.references;
      count = more.count;
      holding = more.holding;
      behind = more.behind ∙ done_behind t.done;
      lines = λ l m. rw (times_join equal l, wrote s.text area s.output e ps rs n h t) (omega (arith, more.lines l (counting e l s.text m)));
    }

-- without an engine nothing is accepted
pub quiet : (area : List ℕ) → holds area ≡ none → (ss : List Sending) → NothingRefused (morning area ss) → ss ≡ []
unfolding ran result any is_refused
quiet area h [] k = refl
quiet area h (s ∷ ss) k =
    let z : (card_message s.text area s.output).number ≡ 0 = eqb-true _ _ (not-false _ (any_left _ _ k)) in
    none_some (sym h ∙ (message_there s.text area s.output ((message_ends s.text area s.output).accepted z)).is)
