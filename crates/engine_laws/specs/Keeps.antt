-- Accepted calls keep the engine within its limits: an opening, a message and a turn.
use Rattle.std.specs.Prelude.{◌≡◌, refl, Bool, true, false, not, cond, List, ℕ, ◌+◌, ◌/◌, ◌≤◌, ◌<◌, leb, eqb, length}
use Rattle.std.proofs.Math.Option.{some}
use Rattle.std.proofs.Common.{arith, leb-true, eqb-true}
use Rattle.std.proofs.lemmas.Bool.{not-false}
use Rattle.rules.specs.Text.{ordered}
use Rattle.rules.specs.Lines.{framed}
use Rattle.rules.specs.Messages.{Message, mt103, mt101, read, details_of, date_of, reference_of}
use Rattle.rules.specs.Register.{register_of}
use Rattle.rules.specs.Verdict.{Verdict, is_returned, is_listed199}
use Rattle.rules.specs.Engine.{Position, Engine, limit, slashed, is_bank, good_positions, good_reference, good_references, within}
use Rattle.rules.specs.Written.{parts_of}
use Rattle.rules.specs.Calls.{first_of, open_stops, opened, bad_reference, misdated, bank_of, own_reference, addition, position_after, no_room, over_limit, verdict_is, judged_to, returned_details, listed_details, has_verdict, parts_written, messages_written, after_message, message_stops, turn_stops, after_turn}
use Rattle.laws.specs.Tests.{or_left, or_right}
use Rattle.laws.specs.Order.{Sorted, ordered_sorted, sorted_ordered}
use Rattle.laws.specs.Sections.{passing_length}
use Rattle.rule_laws.specs.Clear.{OpenClear, open_clear, Clear, clear, TurnClear, turn_clear}
use Rattle.engine_laws.specs.Limits.{Limits, limits, limits_within}
use Rattle.engine_laws.specs.Positions.{Before, position_order, booked_sorted, booked_few, UnderLimit, booked_good, all_good, good_all, kept_sorted, kept_good, kept_length, corrected_length}
use Rattle.engine_laws.specs.References.{reference_order, filed_length, filed_good, filed_sorted}
use Rattle.engine_laws.specs.Accepted.{Has, read_has, sender_bank}

-- ---- opening

pub opened_within : (size : ℕ) (text list : List ℕ) (day : ℕ) → first_of (open_stops size text list day) ≡ 0 → within (opened text list day) ≡ true
unfolding opened good_positions ordered good_references
opened_within size text list day h =
    let c : OpenClear size text list day = open_clear size text list day h in
    limits_within (opened text list day) record {
      register = c.accounts;
      holidays = c.listed;
      day = c.date;
      few = omega arith;
      good = refl;
      order = refl;
      references_few = omega arith;
      forms = refl;
      filed = refl;
      numbered = omega arith;
    }

-- ---- message

parts_few : (n : ℕ) → n ≤ 16 → parts_of n ≤ 2
unfolding parts_of
parts_few n h = go (eqb n 0)
  where
    go : (t : Bool) → cond t 1 ((n + 13) / 14) ≤ 2
    go true = omega arith
    go false = omega arith

-- a message writes at most two parts of an MT199 and sixteen returns
pub writes_few : (e : Engine) (m : Message) → length (details_of m) ≤ 16 → messages_written e m ≤ 18
unfolding messages_written parts_written
writes_few e m h = go (has_verdict m (position_after e m))
  where
    few : (test : Verdict → Bool) → length (judged_to test (register_of e.register) (details_of m)) ≤ 16
    few test = omega (arith, passing_length (verdict_is test (register_of e.register)) (details_of m))

    go : (t : Bool) → cond t (parts_of (length (listed_details e m))) 0 + length (returned_details e m) ≤ 18
    go true = omega (arith, few is_returned, parts_few (length (listed_details e m)) (few is_listed199))
    go false = omega (arith, few is_returned)

dated : (day : ℕ) (m : Message) → misdated day m ≡ false → date_of m ≤ day
unfolding misdated date_of
dated day (mt103 t) h = let e : t.date ≡ day = eqb-true _ _ (not-false _ h) in omega arith
dated day (mt101 o) h = leb-true _ _ (not-false _ h)

own_good : (s : List ℕ) (m : Message) → Has s m → framed s ≡ true → bad_reference m ≡ false → good_reference (own_reference m) ≡ true
unfolding good_reference bad_reference
own_good s m a f b =
    let k : is_bank (bank_of m) ≡ true = rw a.sent (sender_bank s f) in
    let n : slashed (reference_of m) ≡ false = or_left _ _ (or_left _ _ b) in
    rw (k, a.reference, n)

pub message_within : (room : ℕ) (e : Engine) (s : List ℕ) (m : Message) → within e ≡ true → read s ≡ some m → first_of (message_stops room (some e) s) ≡ 0 → within (after_message e m) ≡ true
unfolding after_message no_room over_limit position_after
message_within room e s m w r h =
    let l : Limits e = limits e w in
    let c : Clear room e s m = clear room e s m r h in
    let a : Has s m = read_has s m r in
    let q : Position = addition m in
    let sorted : Sorted Before e.positions = ordered_sorted position_order e.positions l.order in
    let passes : UnderLimit q e.positions = record {
      transferred = leb-true _ _ (not-false _ (or_left _ _ c.under));
      detailed = leb-true _ _ (not-false _ (or_right (not (leb (position_after e m).transferred limit)) _ c.under));
    } in
    limits_within (after_message e m) record {
      register = l.register;
      holidays = l.holidays;
      day = l.day;
      few = booked_few q sorted l.few c.opens;
      good = good_all (booked_good q (rw a.sent (sender_bank s c.frame)) a.date (dated e.day m c.today) passes (all_good e.day e.positions l.good));
      order = sorted_ordered position_order (booked_sorted q sorted);
      references_few = rw (filed_length (own_reference m) e.references) (omega (arith, c.counted));
      forms = filed_good e.references (own_reference m) l.forms (own_good s m a c.frame c.references);
      filed = sorted_ordered reference_order (filed_sorted (own_reference m) (ordered_sorted reference_order e.references l.filed) c.new);
      numbered = rw (filed_length (own_reference m) e.references) (omega (arith, l.numbered, writes_few e m c.details));
    }

-- ---- turn

pub turn_within : (room : ℕ) (e : Engine) (day : ℕ) → within e ≡ true → first_of (turn_stops room (some e) day) ≡ 0 → within (after_turn e day) ≡ true
unfolding after_turn good_references ordered
turn_within room e day w h =
    let l : Limits e = limits e w in
    let c : TurnClear room e day = turn_clear room e day h in
    let later : e.day < day = c.later in
    limits_within (after_turn e day) record {
      register = l.register;
      holidays = l.holidays;
      day = c.date;
      few = omega (arith, kept_length e.positions, l.few);
      good = good_all (kept_good {day = e.day} (omega arith) (all_good e.day e.positions l.good));
      order = sorted_ordered position_order (kept_sorted (ordered_sorted position_order e.positions l.order));
      references_few = omega arith;
      forms = refl;
      filed = refl;
      numbered = omega (arith, corrected_length e.positions, l.few);
    }
