-- What the card answered to a command, as document 01's calls on an engine say it, and how it is printed.
use Rattle.std.specs.Prelude.{◌≡◌, refl, Bool, true, false, cond, List, [], ◌∷◌, ◌++◌, ℕ, zero, suc, ◌+◌, ◌/◌, ◌≤◌, ◌<◌, ◌^◌, leb, ℤ, pos, negsuc, length, take, ◌-◌, drop}
use Rattle.std.proofs.Common.{◌∙◌, arith, length-append, length-take, to_z, of_z, to_z-of_z, sym}
use Rattle.std.specs.Int.Signed.{mag}
use Rattle.std.specs.Int.{w64}
use Rattle.std.specs.Borrow.{Bor}
use Rattle.rules.specs.Text.{ascii, decimal, width}
use Rattle.rules.specs.Calls.{Answer, open_call, turn_call}
use Rattle.rules.specs.Replay.{signed, printed, called}
use Rattle.rules.specs.Area.{holds, Result, card_open, card_message, card_turn, card_newer, card_older, area_size}
use Rattle.rules.specs.Services.{beside, service_result}
use Rattle.laws.specs.Parts.{cut, from, from_take}
use Rattle.laws.specs.Digits.{places_length}
use Rattle.put.specs.declared.parts.Writer.{Writer}
use Rattle.put.specs.Writes.{Writes, writes_then}
use Rattle.commands.specs.declared.letter.Handed.{Handed}
use Rattle.commands.specs.declared.letter.Handed.TheVariants.{Message, Newer, Older}
use Rattle.commands.specs.declared.command.Command.{Command}
use Rattle.commands.specs.declared.command.Command.TheVariants.{Opens, Hands, Turns}
use Rattle.commands.specs.Answers.{command_in, making}
use Rattle.card.specs.Answers.{Answers}
use Rattle.day.specs.Same.{SameAnswer, unwritten, result_of, same_call, same_open, same_turn, text_result, same_text}
use Rattle.day.specs.declared.call.Outcome.{Outcome}

-- the outcome, and area and output then, are the answer's
pub record CallTold (a : Answer) (o : Outcome) (area area' out out' : List ℕ) : Type 0 where
  pub number : o.number ≡ a.number
  pub difference : o.difference ≡ a.difference
  pub text : take o.written out' ≡ a.text
  pub next : holds area' ≡ a.next
  pub size : length area' ≡ length area
  pub room : length out' ≡ length out
  pub fits : o.written ≤ length out'
  pub small : mag o.difference < 2 ^ 63

-- "It prints the number and the difference, then the output"
unfoldable pub answer_text : Outcome → List ℕ → List ℕ
answer_text o out = decimal o.number ++ ascii "," ++ signed o.difference ++ ascii "\r\n" ++ take o.written out

pub answer_printed : {a : Answer} {o : Outcome} {area area' out out' : List ℕ} → CallTold a o area area' out out' → answer_text o out' ≡ printed a
unfolding answer_text printed
answer_printed t = rw (t.number, t.difference, t.text) refl

-- how long it is at most
width_bound : (k v : ℕ) → width k v ≤ k + 1
unfolding width
width_bound zero v = omega arith
width_bound (suc k) v = go (leb v 9) (width_bound k (v / 10))
  where
    go : (t : Bool) → width k (v / 10) ≤ k + 1 → cond t 1 (suc (width k (v / 10))) ≤ suc k + 1
    go true h = omega arith
    go false h = omega arith

decimal_bound : (v : ℕ) → length (decimal v) ≤ 20
decimal_bound v = rw (places_length 10 48 (width 19 v) v) (width_bound 19 v)

signed_bound : (z : ℤ) → length (signed z) ≤ 21
unfolding signed
signed_bound (pos n) = omega (arith, decimal_bound n)
signed_bound (negsuc n) = omega (arith, decimal_bound (suc n))

pub answer_size : (o : Outcome) (out : List ℕ) → length (answer_text o out) ≤ length out + 64
unfolding answer_text
answer_size o out = rw (length-append, length-append, length-append, length-append, length-take) (omega (arith, decimal_bound o.number, signed_bound o.difference))

pub answer_wrote : (a : Outcome) (out : List ℕ) → mag a.difference < 2 ^ 63 → {w₀ w₁ w₂ w₃ w₄ w₅ : Writer} → Writes (decimal a.number) w₀ w₁ → Writes (44 ∷ []) w₁ w₂
    → Writes (signed (to_z w64 (of_z w64 a.difference))) w₂ w₃ → Writes (ascii "\r\n") w₃ w₄ → Writes (cut out 0 a.written) w₄ w₅ → Writes (answer_text a out) w₀ w₅
unfolding answer_text cut
answer_wrote a out f u v w x y = writes_then (writes_then (writes_then (writes_then u v) (rw (to_z-of_z {w = w64} record { sfits = f }) at w)) x) y

part_is : (s : List ℕ) (a b : ℕ) → a ≤ b → cut s a b ≡ take (b - a) (drop a s)
unfolding from
part_is s a b h = let e : a + (b - a) ≡ b = omega arith in sym (rw e at (from_take s a (b - a)))

module _ (area : List ℕ) (l : area_size ≤ length area) {k n : ℕ} {d : ℤ} {area' : List ℕ} where
  told : (a : Answer) (r : Result) {out out' : List ℕ} → SameAnswer a r area out → Answers r k n d area' out' → CallTold a (record { number = k; written = n; difference = to_z w64 (of_z w64 d) }) area area' out out'
  told a r {out} s w = record {
    number = w.number ∙ s.number;
    difference = to_z-of_z {w = w64} record { sfits = w.small } ∙ w.difference ∙ s.difference;
    text = rw (w.written, w.output) s.text;
    next = rw w.area s.next;
    size = rw w.area s.size;
    room = rw w.output s.room;
    fits = rw (w.written, w.output, s.room) s.fits;
    small = rw (to_z-of_z {w = w64} record { sfits = w.small }) w.small;
  }

  pub told_turn : (day : ℕ) (out : List ℕ) {out' : List ℕ} → Answers (card_turn day area out) k n d area' out' → CallTold (turn_call (length out) (holds area) day) (record { number = k; written = n; difference = to_z w64 (of_z w64 d) }) area area' out out'
  told_turn day out w = told _ _ (same_turn area l out day) w

  pub told_text : (h : Handed) (input : List ℕ) (a b : ℕ) (out : List ℕ) {out' : List ℕ} → a ≤ b → Answers (text_result h (take (b - a) (drop a input)) area out) k n d area' out'
      → CallTold (called (length out) (holds area) (making h (cut input a b))) (record { number = k; written = n; difference = to_z w64 (of_z w64 d) }) area area' out out'
  told_text h input a b out g w = rw (part_is input a b g) (told _ _ (same_text area l out h (take (b - a) (drop a input))) w)

  -- opening writes nothing
  opened_told : (text list : List ℕ) (day : ℕ) (out : List ℕ) → Answers (card_open text list day area) k n d area' [] → CallTold (open_call area_size (holds area) text list day) (record { number = k; written = n; difference = to_z w64 (of_z w64 d) }) area area' out out
  opened_told text list day out w =
      let s : SameAnswer (open_call area_size (holds area) text list day) (card_open text list day area) area [] = same_open area l text list day in
      let y : (card_open text list day area).written ≡ 0 = omega (arith, s.fits) in
      let z : n ≡ 0 = w.written ∙ y in record {
        number = w.number ∙ s.number;
        difference = to_z-of_z {w = w64} record { sfits = w.small } ∙ w.difference ∙ s.difference;
        text = rw z (rw y at s.text);
        next = rw w.area s.next;
        size = rw w.area s.size;
        room = refl;
        fits = omega arith;
        small = rw (to_z-of_z {w = w64} record { sfits = w.small }) w.small;
      }

  -- the texts are parts of the input
  pub told_open : (input : List ℕ) (a b c day : ℕ) (out : List ℕ) → a ≤ b → b ≤ c → Answers (card_open (take (b - a) (drop a input)) (take (c - b) (drop b input)) day area) k n d area' []
      → CallTold (open_call area_size (holds area) (cut input a b) (cut input b c) day) (record { number = k; written = n; difference = to_z w64 (of_z w64 d) }) area area' out out
  told_open input a b c day out h g w = rw (part_is input a b h, part_is input b c g) (opened_told (take (b - a) (drop a input)) (take (c - b) (drop b input)) day out w)

-- the card's call for a command
pub told_call : (area : List ℕ) → area_size ≤ length area → (c : Command) {k n : ℕ} {d : ℤ} {area' out out' : List ℕ} → Answers (result_of c area out) k n d area' out'
    → CallTold (called (length out) (holds area) (command_in c)) (record { number = k; written = n; difference = to_z w64 (of_z w64 d) }) area area' out out'
told_call area l c {out = out} w =
    let s : SameAnswer (called (length out) (holds area) (command_in c)) (result_of c area out) area out = same_call area l out c in record {
      number = w.number ∙ s.number;
      difference = to_z-of_z {w = w64} record { sfits = w.small } ∙ w.difference ∙ s.difference;
      text = rw (w.written, w.output) s.text;
      next = rw w.area s.next;
      size = rw w.area s.size;
      room = rw w.output s.room;
      fits = rw (w.written, w.output, s.room) s.fits;
      small = rw (to_z-of_z {w = w64} record { sfits = w.small }) w.small;
    }

-- ---- by what a command is

-- a call that is not lent the output, or the area, leaves it
answers_unwritten : {r : Result} {k n : ℕ} {d : ℤ} {area' : List ℕ} (out : List ℕ) → Answers r k n d area' [] → Answers (unwritten out r) k n d area' out
answers_unwritten out w = record { number = w.number; written = w.written; difference = w.difference; area = w.area; output = refl; small = w.small }

answers_beside : (area : List ℕ) {r : Result} {k n : ℕ} {d : ℤ} {a out : List ℕ} → Answers r k n d a out → Answers (beside area r) k n d area out
unfolding beside
answers_beside area w = record { number = w.number; written = w.written; difference = w.difference; area = refl; output = w.output; small = w.small }

module _ (h : Handed) (s area out : List ℕ) {k n : ℕ} {d : ℤ} {out' : List ℕ} where
  pub text_message : {area' : List ℕ} → h ≡ Message → Answers (card_message s area out) k n d area' out' → Answers (text_result h s area out) k n d area' out'
  unfolding text_result
  text_message e w = rw e w

  pub text_newer : h ≡ Newer → Answers (card_newer s out) k n d [] out' → Answers (text_result h s area out) k n d area out'
  unfolding text_result service_result
  text_newer e w = rw e (answers_beside area w)

  pub text_older : h ≡ Older → Answers (card_older s out) k n d [] out' → Answers (text_result h s area out) k n d area out'
  unfolding text_result service_result
  text_older e w = rw e (answers_beside area w)

module _ (c : Command) (area out : List ℕ) {k n : ℕ} {d : ℤ} where
  pub result_open : {area' : List ℕ} (day : ℕ) (register holidays : Bor (List ℕ)) → c ≡ Opens day register holidays → Answers (card_open register.now holidays.now day area) k n d area' [] → Answers (result_of c area out) k n d area' out
  unfolding result_of
  result_open day register holidays e w = rw e (answers_unwritten out w)

  module _ {out' : List ℕ} where
    pub result_turn : {area' : List ℕ} (day : ℕ) → c ≡ Turns day → Answers (card_turn day area out) k n d area' out' → Answers (result_of c area out) k n d area' out'
    unfolding result_of
    result_turn day e w = rw e w

    module _ (kind : Handed) (text : Bor (List ℕ)) (e : c ≡ Hands kind text) where
      pub result_message : {area' : List ℕ} → kind ≡ Message → Answers (card_message text.now area out) k n d area' out' → Answers (result_of c area out) k n d area' out'
      unfolding result_of
      result_message f w = rw (e, f) w

      pub result_newer : kind ≡ Newer → Answers (card_newer text.now out) k n d [] out' → Answers (result_of c area out) k n d area out'
      unfolding result_of service_result
      result_newer f w = rw (e, f) (answers_beside area w)

      pub result_older : kind ≡ Older → Answers (card_older text.now out) k n d [] out' → Answers (result_of c area out) k n d area out'
      unfolding result_of service_result
      result_older f w = rw (e, f) (answers_beside area w)
