-- A turn made in an area.
use Rattle.std.specs.Prelude.{◌≡◌, refl, Bool, true, false, not, cond, List, [], ◌∷◌, ◌++◌, map, ℕ, ◌+◌, ◌*◌, ◌≤◌, eqb, length, take, drop, ◌<◌}
use Rattle.std.proofs.Common.{ap, ◌∙◌, arith}
use borrow.Author.Tests.{le-leb, lt-leb}
use Rattle.std.proofs.lemmas.Bool.Decides.{nat_tests}
use Rattle.rules.specs.Text.{is_some, passing}
use Rattle.rules.specs.Engine.{Position, Engine, has_details, kept}
use Rattle.rules.specs.Written.{corrected_count}
use Rattle.rules.specs.Calls.{after_turn}
use Rattle.rules.specs.Area.{zeros, padded, joined, number_at, position_record, position_in, encode, decode, holds, area_size, positions_place, positions_room, references_room, detailed_offset, texts_of, record_size, references_place}
use Rattle.laws.specs.Laid.{laid}
use Rattle.laws.specs.Writing.{Wrote}
use Rattle.laws.specs.Sections.{Each, Agree, Agree.on_none, Agree.on_more, each_map}
use Rattle.laws.specs.Moving.{Sifted}
use Rattle.laws.specs.All.{All, All.none, All.more}
use Rattle.engine_laws.specs.Limits.{Limits, limits}
use Rattle.engine_laws.specs.Layout.{WrittenBack}
use Rattle.engine_laws.specs.EngineIn.{EngineIn, positions_kept}
use Rattle.engine_laws.specs.Decoded.{decoded}
use Rattle.engine_laws.specs.Sections.{reference_part, position_part}
use Rattle.engine_laws.specs.Positions.{kept_length}
use Rattle.engine_laws.specs.Records.{number_within}
use Rattle.engine.specs.Header.{HeaderOf}
use Rattle.engine.specs.declared.header.Header.{Header}
use Rattle.engine_change.specs.Header.{numbers}
use Rattle.engine_change.specs.Changes.{section_passing, section_counted}
use Rattle.engine_change.specs.Next.{position_wide, positions_section, Fits, assembled}

-- the engine after a turn to a day, with the outgoing number at a count
unfoldable pub turned : Engine → ℕ → ℕ → Engine
turned e day count = record { register = e.register; holidays = e.holidays; day = day; positions = kept e.positions; references = []; count = count }

-- with the count of the corrections it is the turn's
pub turned_after : (e : Engine) (day : ℕ) → turned e day (corrected_count e.positions) ≡ after_turn e day
unfolding turned after_turn
turned_after e day = refl

-- ---- positions without details

unfoldable pub undetailed : Position → Bool
undetailed p = not (has_details p)

-- the record of such a position
unfoldable pub stays : List ℕ → Bool
stays r = undetailed (position_in r)

module _ (a : List ℕ) (at v : ℕ) (e : v ≡ number_at a (at + detailed_offset) 6) where
  pub stays_not : 0 < v → false ≡ stays (take record_size (drop at a))
  unfolding stays undetailed has_details position_in
  stays_not h = rw (number_within a at record_size detailed_offset 6 (omega arith), ← e, le-leb 1 v h)

  pub stays_yes : v ≤ 0 → true ≡ stays (take record_size (drop at a))
  unfolding stays undetailed has_details position_in
  stays_yes h = rw (number_within a at record_size detailed_offset 6 (omega arith), ← e, lt-leb 1 v (omega arith))

module _ (a : List ℕ) (at v : ℕ) (e : v ≡ number_at a (at + detailed_offset) 6) where
  pub stays_told : eqb v 0 ≡ stays (take record_size (drop at a))
  unfolding stays undetailed has_details position_in
  stays_told = rw (number_within a at record_size detailed_offset 6 (omega arith), ← e) (grind (arith, nat_tests))

passing_kept : (ps : List Position) → passing undetailed ps ≡ kept ps
unfolding passing undetailed kept
passing_kept [] = refl
passing_kept (p ∷ ps) = go (has_details p) (passing_kept ps)
  where
    go : (b : Bool) → passing undetailed ps ≡ kept ps → cond (not b) (p ∷ passing undetailed ps) (passing undetailed ps) ≡ cond b (kept ps) (p ∷ kept ps)
    go true e = e
    go false e = ap (λ (l : List Position). p ∷ l) e

stays_agrees : {ps : List Position} → All (WrittenBack position_record position_in) ps → Agree position_record stays undetailed ps
unfolding stays
stays_agrees none = on_none
stays_agrees (more k s) = on_more (ap undetailed k.back) (stays_agrees s)

-- ---- the turn

pub turn_done : {a b c d : List ℕ} {x : Header} {j m r : ℕ} (day count : ℕ) → is_some (holds a) ≡ true → HeaderOf a x → Sifted stays record_size x.positions positions_place a j b → Wrote (zeros references_room) references_place b m c
    → Wrote (numbers day count j 0) 0 c r d → d ≡ encode (turned (decode a) day count) ++ drop area_size a
unfolding turned texts_of padded joined reference_part position_part
turn_done {a} {b} {c} {d} {x} {j} {m} {r} day count h n s z w =
    let g : EngineIn a (decode a) = decoded a h in
    let l : Limits (decode a) = limits (decode a) g.good in
    let ps : List Position = (decode a).positions in
    let t : Sifted stays record_size (length ps) positions_place a j b = rw n.positions at s in
    let agree : Agree position_record stays undetailed ps = stays_agrees (positions_kept (decode a).day ps l.good) in
    let wide : Each record_size (map position_record ps) = each_map position_record position_wide ps in
    let few : record_size * length ps ≤ positions_room = omega (arith, l.few) in
    let now : b ≡ laid (position_part (kept ps)) positions_place a =
    rw (passing_kept ps) at (section_passing position_record positions_room ps wide few (positions_section g) agree t) in
    let counted : j ≡ length (kept ps) = section_counted position_record positions_room ps wide few (positions_section g) agree t ∙ ap length (passing_kept ps) in
    let fits : Fits (turned (decode a) day count) = record { few = omega (arith, kept_length ps, l.few); references_few = omega arith; wide = none } in
    assembled (turned (decode a) day count) g refl fits now z.output (rw counted at w)
