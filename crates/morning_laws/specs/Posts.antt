-- What a message posts depends on register, day and message alone: behind its posting lines there are none, whatever verdicts and returns are written.
use Rattle.std.specs.Prelude.{◌≡◌, refl, true, List, [], ◌∷◌, ◌++◌, ℕ, leb, length}
use Rattle.std.proofs.Common.{append-nil, leb-true}
use Rattle.std.proofs.Math.Option.{Option, none, some, get_or}
use Rattle.rules.specs.Text.{passing}
use Rattle.rules.specs.Lines.{Line, lines}
use Rattle.rules.specs.Messages.{Message, read}
use Rattle.rules.specs.Register.{register_of}
use Rattle.rules.specs.Engine.{Engine}
use Rattle.rules.specs.Calls.{bank_of, message_book, message_text}
use Rattle.rules.specs.Ledger.{message}
use Rattle.rules.specs.SameMornings.{is_posting_line}
use Rattle.laws.specs.Tests.{cond_left, cond_right}
use Rattle.laws.specs.Sections.{passing_append}
use Rattle.rule_laws.specs.Lines.{Lined, lined_lines, lined_join}
use Rattle.balance_laws.specs.Told.{Tells, posted_long, short_lines, Mute}
use Rattle.balance_laws.specs.Kinds.{comes_in}
use Rattle.balance_laws.specs.Message.{Postable, postings_in_lem, posting_text, message_parts, mute_behind}

-- ---- the posting lines of a text

-- the posting lines in a text
abbrev pub postings_in : List ℕ → List Line
postings_in text = passing is_posting_line (get_or (lines text) [])

-- short lines are none
short_none : (ls : List Line) → short_lines ls ≡ true → passing is_posting_line ls ≡ []
unfolding passing is_posting_line short_lines
short_none [] h = refl
short_none (l ∷ ls) h = rw (posted_long l (leb-true _ 41 (cond_left _ _ h)), short_none ls (cond_right (leb (length l) 41) _ h))

-- a text in lines, and one behind it that has none
postings_mute : {a b : List ℕ} {ls : List Line} → Lined a ls → Mute b → postings_in (a ++ b) ≡ postings_in a
postings_mute {ls = ls} s m = rw (lined_lines (lined_join s m.reading), lined_lines s, passing_append is_posting_line ls m.all, short_none m.all m.short, append-nil)

-- ---- the posting lines of a message

pub message_posts : (e : Engine) (m : Message) → Postable e m → postings_in (message_text e m) ≡ postings_in (posting_text e.register e.day m)
message_posts e m w =
    let t : Tells (comes_in (bank_of m)) (message []) (posting_text e.register e.day m) _ =
    postings_in_lem (bank_of m) (message []) w.book.small (register_of e.register) w.accounts (message_book e m) w.book m w.transferred w.detailed in
    rw (message_parts e m) (postings_mute t.reading (mute_behind e m w))

-- those of a message as it is sent, if it is read as one, by register and day
unfoldable pub read_posts : List ℕ → ℕ → Option Message → List Line
read_posts text day none = []
read_posts text day (some m) = postings_in (posting_text text day m)

unfoldable pub text_posts : List ℕ → ℕ → List ℕ → List Line
text_posts text day s = read_posts text day (read s)

pub read_posts_lem : (text : List ℕ) (day : ℕ) (s : List ℕ) (m : Message) → read s ≡ some m → text_posts text day s ≡ postings_in (posting_text text day m)
unfolding text_posts read_posts
read_posts_lem text day s m h = rw h
