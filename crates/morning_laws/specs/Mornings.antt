-- Same mornings, from one area: booking commutes, what a message posts depends on register, day and message alone, and a turn reads no more of an engine than register, holiday list, day and positions.
use Rattle.std.specs.Prelude.{◌≡◌, refl}
use Rattle.std.proofs.Common.{sym, ◌∙◌, arith}
use Rattle.std.proofs.Math.Option.{Option, none, some}
use Rattle.rules.specs.Text.{equal}
use Rattle.rules.specs.Engine.{Engine}
use Rattle.rules.specs.Area.{holds, card_turn}
use Rattle.rules.specs.Demand3.{ran}
use Rattle.rules.specs.SameMornings.{texts, morning, lines_by, SameMorning, SameMornings}
use Rattle.laws.specs.Equal.{equal_true, equal_same}
use Rattle.laws.specs.Rearranged.{through, rearranged_through}
use Rattle.morning_laws.specs.Exchange.{booked_text, texts_swap}
use Rattle.morning_laws.specs.Sent.{counting, Sent, sent, quiet}
use Rattle.morning_laws.specs.Turn.{on_same, later_turn}

pub same_mornings : SameMornings
unfolding ran lines_by card_turn counting
same_mornings area ours theirs p h k = go (holds area) refl
  where
    go : (o : Option Engine) → holds area ≡ o → SameMorning area ours theirs
    go none e = rw (quiet area e ours h, quiet area e theirs k) record {
      turn = λ day out out' l. rw (← l) (on_same _ _ _ _ _ area area out out' (λ z. refl));
      postings = λ l. refl;
    }
    go (some e) i =
        let a : Sent e e.positions area ours (morning area ours) = sent e e.positions e.references e.count area i ours h in
        let b : Sent e e.positions area theirs (morning area theirs) = sent e e.positions e.references e.count area i theirs k in
        let s : through booked_text e.positions (texts ours) ≡ through booked_text e.positions (texts theirs) =
        rearranged_through equal equal_true equal_same booked_text texts_swap (texts ours) (texts theirs) p e.positions in
        record {
          turn = λ day out out' l. later_turn e _ a.references b.references a.count b.count day _ _ out out' a.holding (rw s b.holding) (a.behind ∙ sym b.behind) l;
          postings = λ l.
              let c : through (counting e l) 0 (texts ours) ≡ through (counting e l) 0 (texts theirs) =
              rearranged_through equal equal_true equal_same (counting e l) (λ s t n. omega arith) (texts ours) (texts theirs) p 0 in
              omega (arith, a.lines l 0, b.lines l 0);
        }
