-- Document 01, "Register and opening", "Positions and turn" and condition 10: the engine and its limits.
use Rattle.std.specs.Prelude.{Bool, true, false, ◌&&◌, ◌||◌, not, cond, List, [], ◌∷◌, ℕ, ◌+◌, ◌-◌, ◌*◌, ◌^◌, leb, eqb, length, get_or}
use Rattle.rules.specs.Text.{is_text, run, equal, bytes, is_some, any, ordered, text_before}
use Rattle.rules.specs.Dates.{exists}
use Rattle.rules.specs.Accounts.{is_bic}
use Rattle.rules.specs.BankingDays.{holidays}
use Rattle.rules.specs.Register.{register}

-- "One position per sender and centralisation date": what tells it from the others; a bank is the number of its BIC
pub record Key : Type 0 where
  pub bank : ℕ
  pub date : ℕ

-- "transferred (MT103) and detailed (MT101)" of a sender and centralisation date
pub record Position : Type 0 where
  pub key : Key
  pub transferred : ℕ
  pub detailed : ℕ

-- a reference accepted today, with its sender
pub record Reference : Type 0 where
  pub sender : ℕ
  pub text : List ℕ

-- "An engine is the register, day, open positions, references accepted today with their senders, and outgoing number.", and the holiday list
pub record Engine : Type 0 where
  pub register : List ℕ
  pub holidays : List ℕ
  pub day : ℕ
  pub positions : List Position
  pub references : List Reference
  pub count : ℕ

-- "the first 6,144 bytes of a lent area"
abbrev pub area_size : ℕ
area_size = 6144

-- "Each total is at most 99,999,999,999,999."
abbrev pub limit : ℕ
limit = 99999999999999

-- a bank's BIC
abbrev pub bic : ℕ → List ℕ
bic bank = bytes 8 bank

-- the highest number of eight bytes
abbrev pub last_bank : ℕ
last_bank = 2 ^ 64 - 1

-- a number that is a bank's: eight bytes that are a BIC
unfoldable pub is_bank : ℕ → Bool
is_bank bank = leb bank last_bank && is_bic (bic bank)

-- ---- positions, kept "by BIC in byte order and then date"

-- "by BIC in byte order and then date"
unfoldable pub key_before : Key → Key → Bool
key_before k l = not (leb l.bank k.bank) || (eqb k.bank l.bank && not (leb l.date k.date))

-- of one "sender and centralisation date"
unfoldable pub same_key : Key → Key → Bool
same_key k l = eqb k.bank l.bank && eqb k.date l.date

-- positions by their keys
abbrev pub earlier : Position → Position → Bool
earlier p q = key_before p.key q.key

abbrev pub alike : Position → Position → Bool
alike p q = same_key p.key q.key

-- the position of a key; "a missing one begins with 0 and 0"
unfoldable pub position_of : Key → List Position → Position
position_of k [] = record { key = k; transferred = 0; detailed = 0 }
position_of k (p ∷ ps) = let r = position_of k ps in cond (same_key p.key k) p r

-- "32 positions open, none of them this one": is this one open?
unfoldable pub is_open : Key → List Position → Bool
is_open k ps = any (λ (p : Position). same_key p.key k) ps

-- p with both totals of q added
abbrev pub raised : Position → Position → Position
raised p q = record { key = p.key; transferred = p.transferred + q.transferred; detailed = p.detailed + q.detailed }

-- both totals of q added to its position, which opens in its place where it is missing
unfoldable pub booked : Position → List Position → List Position
booked q [] = q ∷ []
booked q (p ∷ ps) = let on = p ∷ booked q ps in cond (alike p q) (raised p q ∷ ps) (cond (earlier q p) (q ∷ p ∷ ps) on)

-- "each position with detailed above 0"
unfoldable pub has_details : Position → Bool
has_details p = leb 1 p.detailed

-- "A position without details stays (000, 1.1.6)."
unfoldable pub kept : List Position → List Position
kept [] = []
kept (p ∷ ps) = let r = kept ps in cond (has_details p) r (p ∷ r)

-- ---- references

-- "begins or ends with `/` or has `//`"
unfoldable pub slashes_from : List ℕ → Bool
slashes_from [] = false
slashes_from (c ∷ []) = eqb c 47
slashes_from (c ∷ d ∷ cs) = let r = slashes_from (d ∷ cs) in cond (eqb c 47 && eqb d 47) true r

-- "a reference (20, 21) that begins or ends with `/` or has `//`"
unfoldable pub slashed : List ℕ → Bool
slashed cs = eqb (get_or cs 0 0) 47 || slashes_from cs

-- "references of one sender": the same one
unfoldable pub same_reference : Reference → Reference → Bool
same_reference r q = eqb r.sender q.sender && equal r.text q.text

-- references are kept by sender in byte order and then text
unfoldable pub precedes : Reference → Reference → Bool
precedes r q = not (leb q.sender r.sender) || (eqb r.sender q.sender && text_before r.text q.text)

-- a reference put in its place
unfoldable pub filed : Reference → List Reference → List Reference
filed r [] = r ∷ []
filed r (q ∷ rs) = let on = q ∷ filed r rs in cond (precedes q r) on (r ∷ q ∷ rs)

-- ---- "within the limits above"

-- a position of a BIC and an existing date no later than the day, both totals within the limit
unfoldable pub good_position : ℕ → Position → Bool
good_position day p = is_bank p.key.bank && exists p.key.date && leb p.key.date day && leb p.transferred limit && leb p.detailed limit

-- all positions are
unfoldable pub good_positions : ℕ → List Position → Bool
good_positions day [] = true
good_positions day (p ∷ ps) = let r = good_positions day ps in cond (good_position day p) r false

-- a reference of a BIC, in the form R, which 5 lets pass
unfoldable pub good_reference : Reference → Bool
good_reference r = is_bank r.sender && run is_text 1 16 r.text && not (slashed r.text)

-- all references are
unfoldable pub good_references : List Reference → Bool
good_references [] = true
good_references (r ∷ rs) = let q = good_references rs in cond (good_reference r) q false

-- the engine is within the limits: register and holiday list pass, "positions distinct and dated no later than the day, references of one sender distinct, at most 64 of them in all, outgoing number at most 32 + 18 × their count"
unfoldable pub within : Engine → Bool
within e =
    is_some (register e.register)
    && is_some (holidays e.holidays)
    && exists e.day
    && leb (length e.positions) 32
    && good_positions e.day e.positions
    && ordered earlier e.positions
    && leb (length e.references) 64
    && good_references e.references
    && ordered precedes e.references
    && leb e.count (32 + 18 * length e.references)
