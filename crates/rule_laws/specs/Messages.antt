-- A message that is read, taken apart: its rows, its details, and the amounts and dates in them.
use Rattle.std.specs.Prelude.{◌≡◌, refl, Bool, true, false, cond, List, [], ◌∷◌, ℕ, zero, suc, ◌<◌, length, get_or, take, drop}
use Rattle.std.proofs.Common.{sym, ◌∙◌, arith}
use Rattle.std.proofs.Math.Option.{Option, none, some, map}
use Rattle.rules.specs.Text.{ascii, every, equal}
use Rattle.rules.specs.Dates.{date}
use Rattle.rules.specs.Amounts.{amount}
use Rattle.rules.specs.Lines.{Line, TakenLine, take_line, is_closing_line, type, sender, body}
use Rattle.rules.specs.Forms.{Row, nothing, TakenRows, fits_row, lead_rows, take_rows, transfer_rows, order_rows, detail_rows}
use Rattle.rules.specs.Messages.{Message, mt103, mt101, Transfer, Order, Detail, TakenDetail, line_of, date32a, amount32a, baeref_date103, amount32b, date_centrb, date_baeref, transfer_of, detail_of, take_detail, details, read_transfer, read_order, read}
use Rattle.laws.specs.Tests.{never, none_some}
use Rattle.rule_laws.specs.Options.{some_is, There, Came, came, Mapped, mapped, Gave, gave}
use Rattle.rule_laws.specs.Lines.{in_line, first_line_lem}

-- ---- rows

-- a line in its row, or none where the row may be left out
pub data RowStands (r : Row) : Line → Type 0 where
  out : r.optional ≡ true → RowStands r []
  here : {l : Line} → fits_row r l ≡ true → every in_line l ≡ true → RowStands r l

-- the lines of a form
pub data RowsRead : List Row → List Line → Type 0 where
  end : RowsRead [] []
  row : {r : Row} {l : Line} {rs : List Row} {ls : List Line} → RowStands r l → RowsRead rs ls → RowsRead (r ∷ rs) (l ∷ ls)

rows_read : (rs : List Row) (cs : List ℕ) (x : TakenRows) → take_rows rs cs ≡ some x → RowsRead rs x.rows
unfolding take_rows lead_rows
rows_read [] cs x h = rw (← some_is h) end
rows_read (r ∷ rs) cs x h =
    let t : Came (take_line cs) _ x = came _ _ h in go t.value (fits_row r t.value.line) r.optional refl refl (first_line_lem cs t.value t.is).plain (rows_read rs) t.gives
  where
    first : {l : Line} (o : Option TakenRows) → RowStands r l → ((y : TakenRows) → o ≡ some y → RowsRead rs y.rows) → lead_rows (l ∷ []) o ≡ some x → RowsRead (r ∷ rs) x.rows
    first none s f k = none_some k
    first (some y) s f k = rw (← some_is k) (row s (f y refl))

    go : (t : TakenLine) (b c : Bool) → fits_row r t.line ≡ b → r.optional ≡ c → every in_line t.line ≡ true → ((ds : List ℕ) (y : TakenRows) → take_rows rs ds ≡ some y → RowsRead rs y.rows)
        → cond b (lead_rows (t.line ∷ []) (take_rows rs t.others)) (cond c (lead_rows ([] ∷ []) (take_rows rs cs)) none) ≡ some x → RowsRead (r ∷ rs) x.rows
    go t true c e f p g k = first (take_rows rs t.others) (here e p) (g t.others) k
    go t false true e f p g k = first (take_rows rs cs) (out f) (g cs) k
    go t false false e f p g k = none_some k

-- stands for a row behind the last
pub none_row : Row
none_row = record { head = []; rest = nothing; optional = true }

-- row i of them
pub row_at : (d : Row) {rs : List Row} {ls : List Line} → RowsRead rs ls → (i : ℕ) → i < length rs → RowStands (get_or rs i d) (line_of ls i)
row_at d end i h = absurd (omega arith)
row_at d (row s t) zero h = s
row_at d (row s t) (suc i) h = row_at d t i (omega arith)

-- the first n of them, and those behind
pub rows_take : (n : ℕ) {rs : List Row} {ls : List Line} → RowsRead rs ls → RowsRead (take n rs) (take n ls)
rows_take zero t = end
rows_take (suc n) end = end
rows_take (suc n) (row s t) = row s (rows_take n t)

pub rows_drop : (n : ℕ) {rs : List Row} {ls : List Line} → RowsRead rs ls → RowsRead (drop n rs) (drop n ls)
rows_drop zero t = t
rows_drop (suc n) end = end
rows_drop (suc n) (row s t) = rows_drop n t

-- a first row that may not be left out
pub row_first : {r : Row} {rs : List Row} {ls : List Line} → r.optional ≡ false → RowsRead (r ∷ rs) ls → fits_row r (line_of ls 0) ≡ true
row_first m (row (out o) t) = never (sym m ∙ o)
row_first m (row (here e p) t) = e

-- ---- details of an MT101

-- what is read of a detail: its rows, 32B's amount, and 70's dates behind CENTRB and BAEREF
pub record DetailRead (d : Detail) : Type 0 where
  pub rows : RowsRead detail_rows d.rows
  pub sum : amount (amount32b d.rows) ≡ some d.amount
  pub centrb : date (date_centrb d.rows) ≡ some d.date
  pub baeref : There (date (date_baeref d.rows))

pub detail_read : (cs : List ℕ) (t : TakenDetail) → take_detail cs ≡ some t → DetailRead t.detail
unfolding take_detail detail_of
detail_read cs t h =
    let r : Came (take_rows detail_rows cs) _ t = came _ _ h in
    let x : Came (detail_of r.value.rows) _ t = came _ _ r.gives in
    let a : Came (amount (amount32b r.value.rows)) _ x.value = came _ _ x.is in
    let b : Came (date (date_centrb r.value.rows)) _ x.value = came _ _ a.gives in
    let c : Came (date (date_baeref r.value.rows)) _ x.value = came _ _ b.gives in
    rw (← some_is x.gives, ← some_is c.gives) record {
      rows = rows_read detail_rows cs r.value r.is;
      sum = a.is;
      centrb = b.is;
      baeref = record { value = c.value; is = c.is };
    }

-- "one or more details"
pub data DetailsRead : List Detail → Type 0 where
  last : {d : Detail} → DetailRead d → DetailsRead (d ∷ [])
  more : {d : Detail} {ds : List Detail} → DetailRead d → DetailsRead ds → DetailsRead (d ∷ ds)

details_read : (k : ℕ) (cs : List ℕ) (ds : List Detail) → details k cs ≡ some ds → DetailsRead ds
unfolding details
details_read zero cs ds h = none_some h
details_read (suc k) cs ds h = let t : Came (take_detail cs) _ ds = came _ _ h in go t.value (is_closing_line t.value.others) (detail_read cs t.value t.is) (details_read k) t.gives
  where
    go : (t : TakenDetail) (b : Bool) → DetailRead t.detail → ((es : List ℕ) (xs : List Detail) → details k es ≡ some xs → DetailsRead xs)
        → cond b (some (t.detail ∷ [])) (map (λ (xs : List Detail). t.detail ∷ xs) (details k t.others)) ≡ some ds → DetailsRead ds
    go t true d f g = rw (← some_is g) (last d)
    go t false d f g = let m : Mapped _ (details k t.others) ds = mapped _ _ g in rw (← m.gives) (more d (f t.others m.value m.is))

-- ---- messages

-- what is read of an MT103: its rows, 32A's date and amount, and BAEREF's date
pub record TransferRead (s : List ℕ) (t : Transfer) : Type 0 where
  pub sent : t.sender ≡ sender s
  pub rows : RowsRead transfer_rows t.rows
  pub day : date (date32a t.rows) ≡ some t.date
  pub sum : amount (amount32a t.rows) ≡ some t.amount
  pub baeref : There (date (baeref_date103 t.rows))

-- what is read of an MT101
pub record OrderRead (s : List ℕ) (o : Order) : Type 0 where
  pub sent : o.sender ≡ sender s
  pub rows : RowsRead order_rows o.rows
  pub details : DetailsRead o.details

-- a message, read as one or the other
pub data ReadAs (s : List ℕ) : Message → Type 0 where
  transfer : {t : Transfer} → TransferRead s t → ReadAs s (mt103 t)
  order : {o : Order} → OrderRead s o → ReadAs s (mt101 o)

pub transfer_as : (s : List ℕ) (m : Message) → read_transfer s ≡ some m → ReadAs s m
unfolding read_transfer transfer_of
transfer_as s m h =
    let r : Came (take_rows transfer_rows (body s)) _ m = came _ _ h in
    let t : Came (transfer_of (sender s) r.value.rows) _ m = came _ _ r.gives in
    let d : Came (date (date32a r.value.rows)) _ t.value = came _ _ t.is in
    let a : Came (amount (amount32a r.value.rows)) _ t.value = came _ _ d.gives in
    let b : Came (date (baeref_date103 r.value.rows)) _ t.value = came _ _ a.gives in
    let g : Gave (is_closing_line r.value.others) (mt103 t.value) m = gave _ _ t.gives in
    rw (← g.is, ← some_is b.gives) (transfer record {
      sent = refl;
      rows = rows_read transfer_rows (body s) r.value r.is;
      day = d.is;
      sum = a.is;
      baeref = record { value = b.value; is = b.is };
    })

pub order_as : (s : List ℕ) (m : Message) → read_order s ≡ some m → ReadAs s m
unfolding read_order
order_as s m h =
    let r : Came (take_rows order_rows (body s)) _ m = came _ _ h in
    let d : Came (details 4096 r.value.others) _ m = came _ _ r.gives in
    rw (← some_is d.gives) (order record {
      sent = refl;
      rows = rows_read order_rows (body s) r.value r.is;
      details = details_read 4096 r.value.others d.value d.is;
    })

pub read_as : (s : List ℕ) (m : Message) → read s ≡ some m → ReadAs s m
unfolding read
read_as s m h = go (equal (type s) (ascii "103")) h
  where
    go : (t : Bool) → cond t (read_transfer s) (read_order s) ≡ some m → ReadAs s m
    go true k = transfer_as s m k
    go false k = order_as s m k
