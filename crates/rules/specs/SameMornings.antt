-- Document 02, CR 3: "from one engine, two orders of the same messages of one day, nothing refused in either, lead to the same correction bytes at the same next turn, and their posting lines are rearrangements of each other."
-- "Verdicts sent meanwhile may differ, and so may references of verdicts and returns": so may how many MT199s there are, the sums in them, a message's difference, and the outgoing number until the turn.
use Rattle.std.specs.Prelude.{◌≡◌, Bool, false, not, List, [], ◌∷◌, ◌++◌, map, ℕ, eqb, length, take}
use Rattle.rules.specs.Text.{equal, is_some, any, passing, Rearranged}
use Rattle.rules.specs.Lines.{Line}
use Rattle.rules.specs.Area.{Result, card_turn}
use Rattle.rules.specs.Ledger.{message, Event, posted, lines_of}
use Rattle.rules.specs.Demand3.{Call, Ran, ran}

-- a message of the day, and the output area lent to it
pub record Sending : Type 0 where
  pub text : List ℕ
  pub output : List ℕ

-- its call
abbrev pub call_of : Sending → Call
call_of s = record { request = message s.text; output = s.output }

-- the texts of some messages
abbrev pub texts : List Sending → List (List ℕ)
texts ss = map (λ (s : Sending). s.text) ss

-- messages one after the other, the area handed on from call to call
abbrev pub morning : List ℕ → List Sending → Ran
morning area ss = ran area (map call_of ss)

-- "nothing refused": each call answered 0
unfoldable pub is_refused : Event → Bool
is_refused e = not (eqb e.number 0)

abbrev pub NothingRefused : Ran → Type 0
NothingRefused r = any is_refused r.events ≡ false

-- of the lines that some calls wrote, those that pass a test
unfoldable pub lines_by : (Line → Bool) → List Event → List Line
lines_by p [] = []
lines_by p (e ∷ es) = passing p (lines_of e) ++ lines_by p es

-- a line that demand 3's reader takes for a posting line
unfoldable pub is_posting_line : Line → Bool
is_posting_line l = is_some (posted l)

-- "their posting lines", as whole lines
abbrev pub posted_by : List Event → List Line
posted_by es = lines_by is_posting_line es

-- "the same correction bytes at the same next turn": number, bytes and difference; and an accepted turn leaves one area, from which both go on
pub record SameTurn (r q : Result) : Type 0 where
  pub number : r.number ≡ q.number
  pub written : r.written ≡ q.written
  pub bytes : take r.written r.output ≡ take q.written q.output
  pub difference : r.difference ≡ q.difference
  pub area : r.number ≡ 0 → r.area ≡ q.area

-- what holds of two orders from one area
pub record SameMorning (area : List ℕ) (ours theirs : List Sending) : Type 0 where
  pub turn : (day : ℕ) (out out' : List ℕ) → length out ≡ length out' → SameTurn (card_turn day (morning area ours).area out) (card_turn day (morning area theirs).area out')
  pub postings : Rearranged equal (posted_by (morning area ours).events) (posted_by (morning area theirs).events)

-- "two orders of the same messages of one day", whatever the area holds and whatever outputs are lent
abbrev pub SameMornings : Type 0
SameMornings =
    (area : List ℕ) (ours theirs : List Sending)
    → Rearranged equal (texts ours) (texts theirs)
    → NothingRefused (morning area ours)
    → NothingRefused (morning area theirs)
    → SameMorning area ours theirs
