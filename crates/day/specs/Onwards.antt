-- One turn over a window of the input, as a step of the replay in pieces.
use Rattle.std.specs.Prelude.{◌≡◌, refl, List, [], ◌∷◌, ◌++◌, ℕ, ◌+◌, ◌-◌, ◌≤◌, ◌<◌, drop}
use Rattle.std.proofs.Math.Path.{sym}
use Rattle.std.proofs.Common.{ap, ◌∙◌, append-nil, arith, take_at}
use Rattle.std.proofs.Math.Option.{none, some}
use Rattle.std.proofs.Math.ListN.{length, take}
use Rattle.rules.specs.Text.{over}
use Rattle.rules.specs.Area.{holds, area_size}
use Rattle.rules.specs.Replay as R
use Rattle.rules.specs.Replay.{Commanded, command, called, printed}
use Rattle.laws.specs.Parts.{cut, from, cut_length, cut_drop, from_take}
use Rattle.laws.specs.Writing.{Wrote, ahead, wrote_over, wrote_length}
use Rattle.put.specs.declared.parts.Writer.{Writer}
use Rattle.put.specs.Writes.{wrote_at}
use Rattle.commands.specs.Pieces.{longest, none_follows, command_behind, command_rest}
use Rattle.commands.specs.Window.{Roomed}
use Rattle.day.specs.declared.onward.Onward.{Onward}
use Rattle.day.specs.declared.onward.Onward.TheVariants.{Answered, Wants, Ends}
use Rattle.day.specs.Replaying.{CarriedOut}
use Rattle.day.specs.Whole.{InPieces, performs, reads, ends, stops}

-- the bytes from at up to n of s are read and not yet carried out; every command fits the window, and every answer what is printed to
pub record WindowReady (s : List ℕ) (at n : ℕ) (area out shown : List ℕ) : Type 0 where
  pub order : at ≤ n
  pub within : n ≤ length s
  pub wide : longest ≤ length s
  pub narrow : length s ≤ 1048576
  pub long : area_size ≤ length area
  pub print : length out + 64 ≤ length shown

-- nothing but bytes changed
pub record WindowKept (s area out shown s' area' out' shown' : List ℕ) : Type 0 where
  pub window : length s' ≡ length s
  pub size : length area' ≡ length area
  pub lent : length out' ≡ length out
  pub shows : length shown' ≡ length shown

-- ---- no command stands in the window

pub record Unread (s : List ℕ) (at n : ℕ) : Type 0 where
  pub order : at ≤ n
  pub within : n ≤ length s
  pub wide : longest ≤ length s
  pub narrow : length s ≤ 1048576
  pub stands : command (cut s at n) ≡ none

-- left bytes stand at the front, with the same command whatever follows, and there is room behind them
pub record Wanting (s : List ℕ) (at n left : ℕ) (s' : List ℕ) : Type 0 where
  pub room : left < length s'
  pub size : length s' ≡ length s
  pub fewer : length (cut s' 0 left) ≤ length (cut s at n)
  pub same : (more : List ℕ) → command (cut s' 0 left ++ more) ≡ command (cut s at n ++ more)

-- none follows
pub record Ending (s : List ℕ) (at n : ℕ) (s' : List ℕ) : Type 0 where
  pub size : length s' ≡ length s
  pub none : (more : List ℕ) → command (cut s at n ++ more) ≡ none

abbrev WantTold : List ℕ → ℕ → ℕ → List ℕ → Onward → Type 0
WantTold s at n s' (Answered next p) = ⊥
WantTold s at n s' (Wants left) = Wanting s at n left s'
WantTold s at n s' Ends = Ending s at n s'

pub record Wanted (s : List ℕ) (at n : ℕ) (s' : List ℕ) (r : Onward) : Type 0 where
  pub told : WantTold s at n s' r

module _ {s : List ℕ} {at n : ℕ} (l : Unread s at n) {r : ℕ} {s' : List ℕ} (w : Roomed s at n r s') where
  front_length : length (cut s' 0 r) ≡ r
  front_length = cut_length s' 0 r (omega (arith, w.fewer, w.size, l.order, l.within)) ∙ omega arith

  pub wants : (r ≡ length s' → ⊥) → Wanted s at n s' (Wants r)
  wants h = record {
    told = record {
      room = omega (arith, w.fewer, w.size, l.order, l.within, h);
      size = w.size;
      fewer = rw (front_length, cut_length s at n l.within) w.fewer;
      same = w.same;
    };
  }

  pub wants_none : r ≡ length s' → Wanted s at n s' Ends
  wants_none h =
      let f : command (cut s' 0 r) ≡ none = ap command (sym (append-nil (cut s' 0 r))) ∙ w.same [] ∙ ap command (append-nil (cut s at n)) ∙ l.stands in
      record { told = record { size = w.size; none = λ more. sym (w.same more) ∙ none_follows (cut s' 0 r) more (omega (arith, front_length, w.size, l.wide)) (w.idle (omega (arith, h, w.fewer, w.size, l.order, l.within))) f } }

-- ---- a turn

-- an answer of p bytes was printed, and the window goes on behind its command
pub record Answering (s : List ℕ) (at n next p : ℕ) (area out : List ℕ) (s' area' shown' : List ℕ) : Type 0 where
  pub within : next ≤ n
  pub fits : p ≤ length shown'
  pub goes : (ps : List (List ℕ)) (text : List ℕ) → InPieces (length out) (holds area') (cut s' next n) ps text → InPieces (length out) (holds area) (cut s at n) ps (take p shown' ++ text)

-- left bytes stand at the front; the next piece belongs behind them, or the input has ended
pub record Reading (s : List ℕ) (at n left : ℕ) (area out : List ℕ) (s' area' : List ℕ) : Type 0 where
  pub room : left < length s'
  pub goes : (p : List ℕ) (ps : List (List ℕ)) (text : List ℕ) → InPieces (length out) (holds area') (cut s' 0 left ++ p) ps text → InPieces (length out) (holds area) (cut s at n) (p ∷ ps) text
  pub ends : InPieces (length out) (holds area) (cut s at n) [] []

-- nothing more is printed, whatever follows
pub record Stopping (s : List ℕ) (at n : ℕ) (area out : List ℕ) : Type 0 where
  pub stops : (ps : List (List ℕ)) → InPieces (length out) (holds area) (cut s at n) ps []

abbrev pub OnwardTold : List ℕ → ℕ → ℕ → List ℕ → List ℕ → List ℕ → List ℕ → List ℕ → Onward → Type 0
OnwardTold s at n area out s' area' shown' (Answered next p) = Answering s at n next p area out s' area' shown'
OnwardTold s at n area out s' area' shown' (Wants left) = Reading s at n left area out s' area'
OnwardTold s at n area out s' area' shown' Ends = Stopping s at n area out

pub record Onwards (s : List ℕ) (at n : ℕ) (area out shown s' area' out' shown' : List ℕ) (r : Onward) : Type 0 where
  pub kept : WindowKept s area out shown s' area' out' shown'
  pub told : OnwardTold s at n area out s' area' shown' r

-- what was printed, as the bytes that are there
shown_text : (text shown : List ℕ) {p : ℕ} {shown' : List ℕ} → Wrote text 0 shown p shown' → length text ≤ length shown → take p shown' ≡ text
unfolding ahead over
shown_text text shown w h =
    let e : _ ≡ length text = w.cursor ∙ omega (arith, w.short) in
    rw (e, wrote_over w h) (take_at text (drop (length text) shown) (length text) refl)

module _ {s area out shown : List ℕ} {at n : ℕ} (m : WindowReady s at n area out shown) where
  -- the bytes read, as a slice
  window_is : take (n - at) (drop at s) ≡ cut s at n
  unfolding from
  window_is = let e : at + (n - at) ≡ n = omega (arith, m.order) in rw e at (from_take s at (n - at))

  pub behind_within : {c : R.Command} {rest : List ℕ} → some record { command = c; others = rest } ≡ command (take (n - at) (drop at s)) → length rest ≤ n
  behind_within e =
      let k : length (cut s at n) ≡ n - at = cut_length s at n m.within in
      omega (arith, command_behind (cut s at n) _ (ap command (sym window_is) ∙ sym e), k)

  pub onward_answers : {c : R.Command} {rest : List ℕ} → some record { command = c; others = rest } ≡ command (take (n - at) (drop at s)) → {area' out' shown' : List ℕ} {w w' : Writer} → CarriedOut c area out w area' out' w' → w.out.now ≡ shown → w.at ≡ 0 → shown' ≡ w'.out.now → Onwards s at n area out shown s area' out' shown' (Answered (n - length rest) w'.at)
  unfolding ahead
  onward_answers {c} {rest} e {shown' = shown'} {w' = w'} t i g o =
      let v : Wrote (printed (called (length out) (holds area) c)) 0 shown w'.at shown' = wrote_at t.writes i g o in
      let found : Commanded = record { command = c; others = rest } in
      let y : command (cut s at n) ≡ some found = ap command (sym window_is) ∙ sym e in
      let b : length (printed (called (length out) (holds area) c)) ≤ length shown = omega (arith, t.short, m.print) in
      let f : length shown' ≡ length shown = wrote_length v in
      let x : take w'.at shown' ≡ printed (called (length out) (holds area) c) = shown_text _ shown v b in
      let k : length (cut s at n) ≡ n - at = cut_length s at n m.within in
      let d : length rest < length (cut s at n) = command_behind (cut s at n) found y in
      let j : at + (length (cut s at n) - length rest) ≡ n - length rest = omega (arith, m.order) in
      let z : cut s (n - length rest) n ≡ rest = rw j at (sym (cut_drop s at n (length (cut s at n) - length rest)) ∙ command_rest (cut s at n) found y) in record {
        kept = record { window = refl; size = t.size; lent = t.room; shows = f };
        told = record {
          within = omega arith;
          fits = omega (arith, v.cursor, b, f);
          goes = λ ps text h. rw x (performs (holds area) (cut s at n) ps text found y (rw (z, t.leaves) at h));
        };
      }

  module _ (e : none ≡ command (take (n - at) (drop at s))) where
    pub onward_none : Unread s at n
    onward_none = record { order = m.order; within = m.within; wide = m.wide; narrow = m.narrow; stands = ap command (sym window_is) ∙ sym e }

    pub onward_wants : {s' : List ℕ} {o : Onward} → Wanted s at n s' o → Onwards s at n area out shown s' area out shown o
    onward_wants {s'} {o} v = go o v.told
      where
        kept : length s' ≡ length s → WindowKept s area out shown s' area out shown
        kept l = record { window = l; size = refl; lent = refl; shows = refl }

        go : (o : Onward) → WantTold s at n s' o → Onwards s at n area out shown s' area out shown o
        go (Answered next p) u = absurd u
        go (Wants left) u = record {
          kept = kept u.size;
          told = record {
            room = u.room;
            goes = λ p ps text h. reads (holds area) (cut s at n) (cut s' 0 left) p ps text u.same u.fewer h;
            ends = ends (holds area) (cut s at n) onward_none.stands;
          };
        }
        go Ends u = record { kept = kept u.size; told = record { stops = λ ps. stops (holds area) (cut s at n) ps u.none } }

pub ruleset going_on = (wants_none, wants, behind_within, onward_answers, onward_none, onward_wants)
