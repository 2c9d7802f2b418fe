-- Transfers that no detail has met: the ledger's entries without details are what was transferred for the dates for which no details were accepted.
use Rattle.std.specs.Prelude.{◌≡◌, Bool, ◌&&◌, ◌||◌, List, [], ◌∷◌, ◌++◌, leb}
use Rattle.std.proofs.Math.Path.{refl, sym}
use Rattle.std.proofs.Common.{ap₂, ◌∙◌, add-zero}
use Rattle.std.proofs.Math.Bool.{true, false, not, cond, and-false, or-true, or-false}
use Prim.Native.Nat.{ℕ, ◌+◌, ◌≤◌, ◌<◌}
use native.Mathlib.Omega.{arith}
use Rattle.std.proofs.Math.Dec.{eqb}
use borrow.Author.Tests.{eqb-true, eqb-false, eq-eqb, ne_eqb, le-leb}
use Rattle.rules.specs.Text.{any}
use Rattle.rules.specs.Messages.{Message, mt103, mt101, Transfer, Order, date_of, first_date, transferred_by, detailed_by, details_of, sum_of_amounts}
use Rattle.rules.specs.Engine.{Position, same_key, has_details, kept}
use Rattle.rules.specs.Calls.{bank_of, addition}
use Rattle.rules.specs.Ledger.{entered, is_details, untouched}
use Rattle.laws.specs.All.{All, All.none, All.more, all_last, all_wider}
use Rattle.balance_laws.specs.Tally.{Measure, tally, only, like, bare, transfers, details, kept_tally, tally_each, tally_add, nought}
use Rattle.balance_laws.specs.Booking.{many, keyed, total, BookedSums, entered_booked, total_entered, like_agrees, single, many_none}

-- a choice of dates
abbrev pub Dates : Type 0
Dates = ℕ → Bool

-- what an entry without details holds, where it is the bank's and its date is chosen
unfoldable pub free : ℕ → Dates → Measure
free bank t p = cond (eqb p.key.bank bank && t p.key.date && not (has_details p)) p.transferred 0

-- the bank's transfers for chosen dates for which none of its details is among all
unfoldable pub untouched_in : ℕ → Dates → List Message → List Message → ℕ
untouched_in bank t all [] = 0
untouched_in bank t all (m ∷ ms) =
    cond (eqb (bank_of m) bank && t (date_of m) && not (any (is_details bank (date_of m)) all)) (transferred_by m) 0 + untouched_in bank t all ms

-- ---- messages accepted one after the other

any_last : {A : Type 0} (p : A → Bool) (xs : List A) (x : A) → any p (xs ++ x ∷ []) ≡ (any p xs || p x)
unfolding any
any_last p [] x = go (p x)
  where
    go : (t : Bool) → cond t true false ≡ t
    go true = refl
    go false = refl
any_last p (y ∷ xs) x = go (p y) (any_last p xs x)
  where
    go : (t : Bool) → any p (xs ++ x ∷ []) ≡ (any p xs || p x) → cond t true (any p (xs ++ x ∷ [])) ≡ (cond t true (any p xs) || p x)
    go true e = refl
    go false e = e

untouched_last : (bank : ℕ) (t : Dates) (all ms : List Message) (m : Message)
    → untouched_in bank t all (ms ++ m ∷ []) ≡ untouched_in bank t all ms + cond (eqb (bank_of m) bank && t (date_of m) && not (any (is_details bank (date_of m)) all)) (transferred_by m) 0
unfolding untouched_in
untouched_last bank t all [] m = omega arith
untouched_last bank t all (n ∷ ms) m = omega (arith, untouched_last bank t all ms m)

-- two choices that the details leave the same
untouched_same : (bank : ℕ) (t u : Dates) (all some : List Message) → ((d : ℕ) → (t d && not (any (is_details bank d) all)) ≡ (u d && not (any (is_details bank d) some)))
    → (ms : List Message) → untouched_in bank t all ms ≡ untouched_in bank u some ms
unfolding untouched_in
untouched_same bank t u all some e [] = refl
untouched_same bank t u all some e (m ∷ ms) =
    let d : ℕ = date_of m in
    ap₂ (λ (v w : ℕ). v + w) (go (eqb (bank_of m) bank) (t d) (not (any (is_details bank d) all)) (u d) (not (any (is_details bank d) some)) (e d)) (untouched_same bank t u all some e ms)
  where
    go : (b x y x' y' : Bool) → (x && y) ≡ (x' && y') → cond (b && x && y) (transferred_by m) 0 ≡ cond (b && x' && y') (transferred_by m) 0
    go true x y x' y' h = rw h
    go false x y x' y' h = refl

-- every date is chosen
pub untouched_all : (bank : ℕ) (all ms : List Message) → untouched bank all ms ≡ untouched_in bank (λ d. true) all ms
unfolding untouched untouched_in
untouched_all bank all [] = refl
untouched_all bank all (m ∷ ms) = go (eqb (bank_of m) bank) (not (any (is_details bank (date_of m)) all)) (untouched_all bank all ms)
  where
    go : (b x : Bool) {v w : ℕ} → v ≡ w → cond (b && x) (transferred_by m + v) v ≡ cond (b && true && x) (transferred_by m) 0 + w
    go true true e = omega arith
    go true false e = omega arith
    go false x e = omega arith

-- ---- what holds between the ledger and the messages accepted so far

-- a message dated no later than a day
pub record Until (day : ℕ) (m : Message) : Type 0 where
  pub dated : date_of m ≤ day

-- on a day
pub record History (day : ℕ) (ledger : List Position) (sent : List Message) : Type 0 where
  pub held : (bank : ℕ) (t : Dates) → tally (free bank t) ledger ≡ untouched_in bank t sent sent
  -- today's entry of a bank has details where some were accepted for today
  pub today : (bank : ℕ) → leb 1 (tally (only (like (keyed bank day)) details) ledger) ≡ any (is_details bank day) sent
  pub past : All (Until day) sent

pub history_start : (day : ℕ) → History day [] []
unfolding tally untouched_in any
history_start day = record { held = λ bank t. refl; today = λ bank. refl; past = none }

-- what is known of an accepted message
pub data Admitted (day : ℕ) : Message → Type 0 where
  transfer : {t : Transfer} → t.date ≡ day → Admitted day (mt103 t)
  order : {o : Order} → first_date o.details ≤ day → 1 ≤ sum_of_amounts o.details → Admitted day (mt101 o)

-- ---- a transfer

-- a bank's own entry grows by its transfer, where it has no details
grows : (a b c k : Bool) (u v : ℕ) → (a ≡ true → c ≡ k) → cond (a && b && not c) (u + v) 0 ≡ cond (a && b && not c) (u + 0) 0 + cond (a && b && not k) v 0
grows true b c k u v h = rw (h refl) (go b k)
  where
    go : (b k : Bool) → cond (b && not k) (u + v) 0 ≡ cond (b && not k) (u + 0) 0 + cond (b && not k) v 0
    go true true = omega arith
    go true false = omega arith
    go false k = omega arith
grows false b c k u v h = omega arith

no_free : (bank b d : ℕ) (t : Dates) → free bank t (keyed b d) ≡ 0
unfolding free keyed
no_free bank b d t = nought (eqb b bank && t d && not (has_details (keyed b d)))

eqb_sym : (m n : ℕ) → eqb m n ≡ eqb n m
eqb_sym m n = go (eqb n m) refl
  where
    go : (t : Bool) → eqb n m ≡ t → eqb m n ≡ t
    go true e = eq-eqb m n (sym (eqb-true n m e))
    go false e = ne_eqb m n (λ q. eqb-false n m e (sym q))

-- an entry's sum parted by a date
parts : (b t n x e a c : Bool) (w : ℕ) → (b ≡ true → a ≡ x) → c ≡ e → cond (b && (t && not (x && e)) && n) w 0 + cond (a && c) (cond (b && t && n) w 0) 0 ≡ cond (b && t && n) w 0
parts true t n x e a c w h k = rw (h refl, k) (go t (x && e))
  where
    go : (t k : Bool) → cond (t && not k && n) w 0 + cond k (cond (t && n) w 0) 0 ≡ cond (t && n) w 0
    go true true = omega arith
    go true false = omega arith
    go false true = refl
    go false false = refl
parts false t n x e a c w h k = omega (arith, nought (a && c))

module _ (bank x d : ℕ) (t : Dates) (ledger : List Position) (l : many (keyed x d) ledger ≤ 1) where
  free_transfer : (v : ℕ) (sent : List Message) → leb 1 (tally (only (like (keyed x d)) details) ledger) ≡ any (is_details x d) sent
      → tally (free bank t) (entered record { key = record { bank = x; date = d }; transferred = v; detailed = 0 } ledger)
      ≡ tally (free bank t) ledger + cond (eqb x bank && t d && not (any (is_details bank d) sent)) v 0
  unfolding many like same_key keyed total free has_details
  free_transfer v sent k =
      let q : Position = record { key = record { bank = x; date = d }; transferred = v; detailed = 0 } in
      let g : Measure = free bank t in
      let b : BookedSums q ledger (entered q ledger) = entered_booked q ledger l in
      let s : tally (only (like (keyed x d)) g) ledger ≡ g (total (keyed x d) ledger) = single g x d ledger (no_free bank x d t) l in
      let r : g (total q ledger) ≡ g (total (keyed x d) ledger) + cond (eqb x bank && t d && not (any (is_details bank d) sent)) v 0 =
      grows (eqb x bank) (t d) (leb 1 (tally (only (like (keyed x d)) details) ledger + 0)) (any (is_details bank d) sent) (tally (only (like (keyed x d)) transfers) ledger) v
      (λ e. rw (add-zero, ← eqb-true x bank e) k) in
      omega (arith, b.sums g)

  -- ---- details

  -- the choice without the date of a bank's details
  unfoldable taken : Dates
  taken date = t date && not (eqb x bank && eqb d date)

  free_order : (v : ℕ) → 1 ≤ v → tally (free bank t) (entered record { key = record { bank = x; date = d }; transferred = 0; detailed = v } ledger) ≡ tally (free bank taken) ledger
  unfolding many like same_key keyed total free has_details taken only
  free_order v k =
      let q : Position = record { key = record { bank = x; date = d }; transferred = 0; detailed = v } in
      let g : Measure = free bank t in
      let b : BookedSums q ledger (entered q ledger) = entered_booked q ledger l in
      let z : g (total q ledger) ≡ 0 = rw (le-leb 1 (tally (only (like (keyed x d)) details) ledger + v) (omega arith), and-false) in
      let r : tally (free bank taken) ledger + tally (only (like q) g) ledger ≡ tally g ledger =
      tally_add (free bank taken) (only (like q) g) ledger
      ∙ tally_each (λ p. free bank taken p + only (like q) g p) g
      (λ p. parts (eqb p.key.bank bank) (t p.key.date) (not (leb 1 p.detailed)) (eqb x bank) (eqb d p.key.date) (eqb p.key.bank x) (eqb p.key.date d) p.transferred
      (λ e. rw (eqb-true p.key.bank bank e) (eqb_sym bank x)) (eqb_sym p.key.date d)) ledger in
      omega (arith, b.sums g)

-- ---- an accepted message

module _ {day : ℕ} {ledger : List Position} {sent : List Message} (h : History day ledger sent) where
  held_message : (m : Message) → Admitted day m → many (keyed (bank_of m) (date_of m)) ledger ≤ 1 → (bank : ℕ) (t : Dates)
      → tally (free bank t) (entered (addition m) ledger) ≡ untouched_in bank t (sent ++ m ∷ []) (sent ++ m ∷ [])
  unfolding date_of transferred_by detailed_by details_of sum_of_amounts is_details taken
  held_message (mt103 n) (transfer e) l bank t =
      let m : Message = mt103 n in
      let same : (d : ℕ) → any (is_details bank d) (sent ++ m ∷ []) ≡ any (is_details bank d) sent = λ d. any_last (is_details bank d) sent m ∙ or-false (any (is_details bank d) sent) in
      let one : tally (free bank t) (entered (addition m) ledger) ≡ tally (free bank t) ledger + cond (eqb (bank_of m) bank && t n.date && not (any (is_details bank n.date) sent)) n.amount 0 =
      free_transfer bank (bank_of m) n.date t ledger l n.amount sent (rw (← e) at (h.today (bank_of m))) in
      let all : untouched_in bank t (sent ++ m ∷ []) sent ≡ untouched_in bank t sent sent = untouched_same bank t t (sent ++ m ∷ []) sent (λ d. rw (same d)) sent in
      one ∙ rw (h.held bank t) (sym (untouched_last bank t (sent ++ m ∷ []) sent m ∙ rw (same n.date, all)))
  held_message (mt101 o) (order e v) l bank t =
      let m : Message = mt101 o in
      let x : ℕ = bank_of m in
      let d : ℕ = first_date o.details in
      let u : Dates = taken bank x d t ledger l in
      let one : tally (free bank t) (entered (addition m) ledger) ≡ tally (free bank u) ledger = free_order bank x d t ledger l (sum_of_amounts o.details) v in
      let all : untouched_in bank t (sent ++ m ∷ []) sent ≡ untouched_in bank u sent sent =
      untouched_same bank t u (sent ++ m ∷ []) sent (λ c. rw (any_last (is_details bank c) sent m) (out (t c) (any (is_details bank c) sent) (eqb x bank && eqb d c))) sent in
      one ∙ h.held bank u ∙ sym (untouched_last bank t (sent ++ m ∷ []) sent m ∙ omega (arith, all, nought (eqb x bank && t d && not (any (is_details bank d) (sent ++ m ∷ [])))))
    where
      out : (t a k : Bool) → (t && not (a || k)) ≡ (t && not k && not a)
      out true true true = refl
      out true true false = refl
      out true false true = refl
      out true false false = refl
      out false a k = refl

  today_message : (m : Message) → Admitted day m → (bank : ℕ) → leb 1 (tally (only (like (keyed bank day)) details) (entered (addition m) ledger)) ≡ any (is_details bank day) (sent ++ m ∷ [])
  unfolding like same_key keyed only detailed_by details_of sum_of_amounts is_details date_of
  today_message m a bank =
      let k : Position = keyed bank day in
      let e : tally (only (like k) details) (entered (addition m) ledger) ≡ tally (only (like k) details) ledger + only (like k) details (addition m) =
      total_entered (like k) details (addition m) (λ p. like_agrees k p (addition m)) (λ p. refl) (λ p. refl) ledger in
      rw (e, any_last (is_details bank day) sent m, ← h.today bank) (go a)
    where
      D : ℕ
      D = tally (only (like (keyed bank day)) details) ledger

      more : (v : ℕ) (c : Bool) → 1 ≤ v → leb 1 (D + cond c v 0) ≡ (leb 1 D || c)
      more v true l = rw (le-leb 1 (D + v) (omega arith), or-true)
      more v false l = rw (add-zero, or-false)

      go : {m : Message} → Admitted day m → leb 1 (D + only (like (keyed bank day)) details (addition m)) ≡ (leb 1 D || is_details bank day m)
      go (transfer {t = t} q) = rw (nought (eqb (bank_of (mt103 t)) bank && eqb t.date day), add-zero, or-false)
      go (order {o = o} q v) = more (sum_of_amounts o.details) (eqb (bank_of (mt101 o)) bank && eqb (first_date o.details) day) v

  pub history_message : (m : Message) → Admitted day m → many (keyed (bank_of m) (date_of m)) ledger ≤ 1 → History day (entered (addition m) ledger) (sent ++ m ∷ [])
  unfolding date_of
  history_message m a l = record { held = held_message m a l; today = today_message m a; past = all_last h.past (dated a) }
    where
      dated : {m : Message} → Admitted day m → Until day m
      dated (transfer e) = record { dated = omega arith }
      dated (order e v) = record { dated = e }

  -- ---- an accepted turn to a later day, for which no entry is there yet

  pub history_turn : (next : ℕ) → day < next → ((bank : ℕ) → many (keyed bank next) ledger ≡ 0) → History next (kept ledger) sent
  unfolding bare only free has_details any is_details date_of
  history_turn next l n = record {
    held = λ bank t. kept_tally (free bank t) ledger ∙ tally_each (only bare (free bank t)) (free bank t) (λ p. still (eqb p.key.bank bank && t p.key.date) (leb 1 p.detailed) p.transferred) ledger ∙ h.held bank t;
    today = λ bank. rw (kept_tally (only (like (keyed bank next)) details) ledger
        ∙ tally_each (only bare (only (like (keyed bank next)) details)) (only (like (keyed bank next)) (only bare details)) (λ p. swap (leb 1 p.detailed) (like (keyed bank next) p) p.detailed) ledger
        ∙ many_none (keyed bank next) (only bare details) ledger (n bank)) (sym (unmet bank h.past));
    past = all_wider (λ m u. record { dated = omega (arith, u.dated) }) h.past;
  }
    where
      still : (b d : Bool) (v : ℕ) → cond (not d) (cond (b && not d) v 0) 0 ≡ cond (b && not d) v 0
      still true true v = refl
      still false true v = refl
      still b false v = refl

      swap : (d k : Bool) (v : ℕ) → cond (not d) (cond k v 0) 0 ≡ cond k (cond (not d) v 0) 0
      swap true k v = sym (nought k)
      swap false k v = refl

      other : (bank : ℕ) (m : Message) → Until day m → is_details bank next m ≡ false
      other bank (mt103 t) u = refl
      other bank (mt101 o) u = rw (ne_eqb (first_date o.details) next (λ e. omega (arith, u.dated)), and-false)

      unmet : (bank : ℕ) {ms : List Message} → All (Until day) ms → any (is_details bank next) ms ≡ false
      unmet bank none = refl
      unmet bank (more {x = m} u s) = rw (other bank m u, unmet bank s)
