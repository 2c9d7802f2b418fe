-- The replay of a day: the commands of the input carried out one after the other.
use Rattle.std.specs.Prelude.{◌≡◌, List, ◌++◌, ℕ, ◌+◌, ◌-◌, ◌≤◌, ◌<◌, length}
use Rattle.std.proofs.Math.Path.{refl, sym}
use Rattle.std.proofs.Common.{◌∙◌, arith}
use Rattle.std.proofs.Math.Option.{none, some}
use Rattle.rules.specs.Area.{holds, area_size}
use Rattle.rules.specs.Replay as R
use Rattle.rules.specs.Replay.{command, called, printed, replay_from}
use Rattle.laws.specs.Writing.{furthest}
use Rattle.put.specs.declared.parts.Writer.{Writer}
use Rattle.put.specs.Writes.{Writes, Unwritten, unwritten_all, unwritten_turn, unwritten_none}
use Rattle.commands.specs.Pieces.{command_behind}
use Rattle.day.specs.declared.call.Outcome.{Outcome}
use Rattle.day.specs.Runs.{run_ends, run_goes, run_enough}
use Rattle.day.specs.Told.{CallTold, answer_text, answer_printed, answer_size}

-- ---- one command

-- it was carried out and its answer printed
pub record CarriedOut (c : R.Command) (area out : List ℕ) (old : Writer) (area' out' : List ℕ) (new : Writer) : Type 0 where
  pub writes : Writes (printed (called (length out) (holds area) c)) old new
  pub short : length (printed (called (length out) (holds area) c)) ≤ length out + 64
  pub leaves : holds area' ≡ (called (length out) (holds area) c).next
  pub size : length area' ≡ length area
  pub room : length out' ≡ length out

pub carried_out : {c : R.Command} {r : Outcome} {area area' out out' : List ℕ} {w w' : Writer} → CallTold (called (length out) (holds area) c) r area area' out out' → Writes (answer_text r out') w w' → CarriedOut c area out w area' out' w'
carried_out {r = r} {out' = out'} a v = record {
  writes = rw (← answer_printed a) v;
  short = rw (← answer_printed a, ← a.room) (answer_size r out');
  leaves = a.next;
  size = a.size;
  room = a.room;
}

-- ---- the loop

-- at most k commands of rest are left to carry out and to print
pub record ReplayingUpTo (k : ℕ) (rest : List ℕ) (w : Writer) (room span : ℕ) (area out whole : List ℕ) (start : Writer) : Type 0 where
  pub long : area_size ≤ length area
  pub lent : length area ≡ span
  pub size : length out ≡ room
  pub left : Unwritten (replay_from k room (holds area) rest) w whole start

module _ {k : ℕ} {rest area out whole : List ℕ} {start w : Writer} {room span : ℕ} (m : ReplayingUpTo k rest w room span area out whole start) where
  pub replay_out : k ≤ 0 → Writes whole start w
  unfolding replay_from
  replay_out h = let e : k ≡ 0 = omega arith in unwritten_none (rw e at m.left)

  pub replay_stops : none ≡ command rest → Writes whole start w
  replay_stops e = unwritten_none (rw (run_ends rest k room (holds area) (sym e)) at m.left)

  pub replay_next : 0 < k → {c : R.Command} {behind : List ℕ} → some record { command = c; others = behind } ≡ command rest → {area' out' : List ℕ} {w' : Writer} → CarriedOut c area out w area' out' w' → ReplayingUpTo (k - 1) behind w' room span area' out' whole start
  replay_next h {c} {behind} e {area'} t =
      let x : replay_from k room (holds area) rest ≡ printed (called (length out) (holds area) c) ++ replay_from (k - 1) room (holds area') behind =
      rw (t.leaves, m.size) (run_goes rest k room (holds area) h record { command = c; others = behind } (sym e)) in record {
        long = rw t.size m.long;
        lent = t.size ∙ m.lent;
        size = t.room ∙ m.size;
        left = unwritten_turn (rw x at m.left) t.writes;
      }

-- what is left to carry out and to print are the commands of rest
pub record Replaying (rest : List ℕ) (w : Writer) (room span : ℕ) (area out whole : List ℕ) (start : Writer) : Type 0 where
  pub long : area_size ≤ length area
  pub lent : length area ≡ span
  pub size : length out ≡ room
  pub left : Unwritten (replay_from (length rest) room (holds area) rest) w whole start

pub replay_starts : (s area out : List ℕ) (start : Writer) → area_size ≤ length area → length start.out.now ≤ furthest → Replaying s start (length out) (length area) area out (replay_from (length s) (length out) (holds area) s) start
replay_starts s area out start l f = record { long = l; lent = refl; size = refl; left = unwritten_all _ f }

module _ {rest area out whole : List ℕ} {start w : Writer} {room span : ℕ} (m : Replaying rest w room span area out whole start) where
  all_left : ReplayingUpTo (length rest) rest w room span area out whole start
  all_left = record { long = m.long; lent = m.lent; size = m.size; left = m.left }

  pub replay_ends : none ≡ command rest → Writes whole start w
  replay_ends e = replay_stops all_left e

  pub replay_goes : {c : R.Command} {behind : List ℕ} → some record { command = c; others = behind } ≡ command rest → {area' out' : List ℕ} {w' : Writer} → CarriedOut c area out w area' out' w' → Replaying behind w' room span area' out' whole start
  replay_goes {c} {behind} e {area'} t =
      let b : length behind < length rest = command_behind rest _ (sym e) in
      let n = replay_next all_left (omega arith) e t in
      record { long = n.long; lent = n.lent; size = n.size; left = rw (run_enough (length rest - 1) (length behind) room (holds area') behind (omega arith) (omega arith)) at n.left }
