-- An opening written from the first byte of the area on.
use Rattle.std.specs.Prelude.{◌≡◌, refl, true, List, [], ◌∷◌, ◌++◌, ℕ, ◌+◌, ◌≤◌, length, drop}
use Rattle.std.proofs.Common.{◌∙◌, append-nil, arith, length-append}
use Rattle.rules.specs.Text.{over, is_some}
use Rattle.rules.specs.BankingDays.{holidays}
use Rattle.rules.specs.Register.{register}
use Rattle.rules.specs.Calls.{opened}
use Rattle.rules.specs.Area.{zeros, padded, joined, texts_of, header, encode, area_size, positions_room, references_room, texts_room}
use Rattle.laws.specs.Digits.{places_length}
use Rattle.put.specs.declared.parts.Writer.{Writer}
use Rattle.put.specs.Writes.{Writes, writes_5}
use Rattle.laws.specs.Writing.{Wrote, wrote_over}
use Rattle.laws.specs.Sections.{zeros_length, padded_length}
use Rattle.rule_laws.specs.Registers.{register_length}
use Rattle.rule_laws.specs.Holidays.{list_length}
use Rattle.engine_laws.specs.Several.{lengths_length}
use Rattle.engine_laws.specs.Sections.{text_part}
use Rattle.engine_change.specs.Header.{numbers, lengths}

-- a register and a holiday list have room
pub texts_room_lem : (text list : List ℕ) → is_some (register text) ≡ true → is_some (holidays list) ≡ true → length text + length list ≤ texts_room
texts_room_lem text list h k = omega (arith, register_length text h, list_length list k)

-- the parts of an opened engine's area, one behind the other: register and holiday list are its texts
unfoldable pub opened_parts : List ℕ → List ℕ → ℕ → List ℕ
opened_parts text list day = numbers day 0 0 0 ++ lengths (text ∷ list ∷ []) ++ zeros references_room ++ zeros positions_room ++ text_part (text ∷ list ∷ [])

pub opened_wrote : (text list : List ℕ) (day : ℕ) {w₀ w₁ w₂ w₃ w₄ w₅ : Writer} → Writes (numbers day 0 0 0) w₀ w₁ → Writes (lengths (text ∷ list ∷ [])) w₁ w₂ → Writes (zeros references_room) w₂ w₃
    → Writes (zeros positions_room) w₃ w₄ → Writes (text_part (text ∷ list ∷ [])) w₄ w₅ → Writes (opened_parts text list day) w₀ w₅
unfolding opened_parts
opened_wrote text list day u v w x y = writes_5 u v w x y

opened_parts_lem : (text list : List ℕ) (day : ℕ) → encode (opened text list day) ≡ opened_parts text list day
unfolding encode header opened padded joined texts_of text_part opened_parts numbers lengths
opened_parts_lem text list day = refl

both_length : (text list : List ℕ) → length (joined (text ∷ list ∷ [])) ≡ length text + length list
unfolding joined
both_length text list = rw (append-nil, length-append)

opened_length : (text list : List ℕ) (day : ℕ) → length text + length list ≤ texts_room → length (opened_parts text list day) ≡ area_size
unfolding opened_parts numbers lengths text_part
opened_length text list day h =
    simp (length-append, places_length, zeros_length, lengths_length (text ∷ list ∷ []) (omega arith), padded_length texts_room (joined (text ∷ list ∷ [])) (rw both_length h))

pub opened_whole : (text list : List ℕ) (day : ℕ) {area area' : List ℕ} {r : ℕ} → area_size ≤ length area → is_some (register text) ≡ true → is_some (holidays list) ≡ true
    → Wrote (opened_parts text list day) 0 area r area' → area' ≡ encode (opened text list day) ++ drop area_size area
unfolding over
opened_whole text list day {area} l h k w =
    let e : length (opened_parts text list day) ≡ area_size = opened_length text list day (texts_room_lem text list h k) in
    wrote_over w (omega arith) ∙ rw (e, opened_parts_lem text list day)
