-- What the code's own types say in the paper's words.
use Rattle.std.specs.Prelude.{List, ℕ}
use Rattle.rules.specs.Written as W
use Rattle.written.specs.declared.Book.{Book}

-- what the lines of a call share, with the temporary account
abbrev pub book_of : List ℕ → Book → W.Book
book_of temporary b = record { day = b.day; temporary = temporary; bank = b.key.bank; date = b.key.date }
