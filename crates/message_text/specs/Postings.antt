-- The posting lines of a message that is booked.
use Rattle.std.specs.Prelude.{◌≡◌, true, false, List, ℕ}
use Rattle.std.proofs.Common.{subst}
use Rattle.rules.specs.Messages.{details_of}
use Rattle.rules.specs.Register.{register_of}
use Rattle.rules.specs.Written.{from_bank}
use Rattle.rules.specs.Calls.{detail_postings, postings}
use Rattle.put.specs.declared.parts.Writer.{Writer}
use Rattle.put.specs.Writes.{Writes}
use Rattle.details.specs.Message.{message_in, details_in}
use Rattle.conditions.specs.Books.{Books, is_transfer, IsTransfer, IsOrder, KindOf}
use Rattle.conditions.specs.declared.booking.Booking.{Booking}
use Rattle.written.specs.Values.{book_of}
use Rattle.written.specs.declared.Book as W
use Rattle.detail_lines.specs.Postings.{book_by}

-- ---- the kind of a booked message

module _ (s : List ℕ) (b : Booking) (k : Books s (message_in s) b) where
  pub transfer_is : is_transfer b.kind ≡ true → IsTransfer (message_in s) b.amount
  transfer_is e = subst (KindOf (message_in s) b.amount) e k.kind

  pub order_is : is_transfer b.kind ≡ false → IsOrder (message_in s)
  order_is e = subst (KindOf (message_in s) b.amount) e k.kind

-- ---- its posting lines

module _ (s : List ℕ) (b : Booking) (k : Books s (message_in s) b) (book : W.Book) (text : List ℕ) {w₀ w₁ : Writer} where
  pub transfer_posting : (t : List ℕ) → t ≡ (register_of text).temporary → is_transfer b.kind ≡ true → Writes (from_bank (book_of t book) b.amount) w₀ w₁ → Writes (postings (register_of text) (book_by text book) (message_in s)) w₀ w₁
  unfolding postings
  transfer_posting t h e u = rw ((transfer_is s b k e).same, (transfer_is s b k e).sum) (rw h at u)

  pub order_postings : is_transfer b.kind ≡ false → Writes (detail_postings (register_of text) (book_by text book) (details_in s)) w₀ w₁ → Writes (postings (register_of text) (book_by text book) (message_in s)) w₀ w₁
  unfolding postings details_of
  order_postings e u = rw (order_is s b k e).same (rw (order_is s b k e).same at u)
