-- The check of a holiday list: what is left of it gives the answer, a law for each way out of the loop; and a list of at most 419 bytes passes where its dates rise.
use Rattle.std.specs.Prelude.{◌≡◌, refl, Bool, true, false, ◌&&◌, not, List, [], ◌∷◌, ◌++◌, ℕ, ◌+◌, ◌-◌, ◌≤◌, ◌<◌, leb, length, get_or, take, drop}
use Rattle.std.proofs.Common.{sym, ap, ◌∙◌, arith, length-append, take-append-drop, take_all, take_at, drop-cons, drop-drop, le-leb, leb-true, leb-false}
use Rattle.std.proofs.Math.Option.{Option, none, some, map}
use Rattle.std.proofs.lemmas.List.{get_or_at}
use Rattle.std.proofs.Math.Seq.{get_or-drop}
use Rattle.std.specs.List.{IsSplitAt}
use Rattle.std.proofs.lemmas.Bool.{lt-leb}
use Rattle.rules.specs.Text.{then, given, is_some, read_each, ordered}
use Rattle.rules.specs.Dates.{date}
use Rattle.rules.specs.Lines.{parted}
use Rattle.rules.specs.BankingDays.{earlier_date, holidays}
use Rattle.rules.specs.Calls.{holds_of}
use Rattle.laws.specs.Tests.{never, none_some, not_holds, cond_left}
use Rattle.std.specs.Prelude as P
use Rattle.std.specs.Prelude.{Some, None}
use Rattle.laws.specs.Slices.{rest_whole}
use Rattle.laws.specs.Told.{told}
use Rattle.rule_laws.specs.Options.{some_is}
use Rattle.rule_laws.specs.Commas.{parted_last, parted_next, PartsRead, PartsRead.one, PartsRead.next, parts_read}
use Rattle.rule_laws.specs.Dates.{date_exists, date_length}
use Rattle.rule_laws.specs.Holidays.{date_part, dates_length, longest_list, list_length}
use Rattle.banking_days.specs.Weekdays.{Existing, existing}
use Rattle.banking_days.specs.Lists.{rising}

-- ---- a text whose dates rise

-- its dates
record Risen (last : ℕ) (cs : List ℕ) : Type 0 where
  all : List ℕ
  are : PartsRead date cs all
  order : ordered earlier_date (last ∷ all) ≡ true

risen : (last : ℕ) (cs : List ℕ) → rising last cs ≡ true → Risen last cs
unfolding rising holds_of
risen last cs h = go (read_each date (parted cs)) refl h
  where
    go : (o : Option (List ℕ)) → read_each date (parted cs) ≡ o → holds_of (λ ds. ordered earlier_date (last ∷ ds)) o ≡ true → Risen last cs
    go none e k = never k
    go (some ds) e k = record { all = ds; are = parts_read date cs ds e; order = k }

-- a first date that is later than the last
later : (last d : ℕ) (ds : List ℕ) → ordered earlier_date (last ∷ d ∷ ds) ≡ true → last < d
unfolding ordered earlier_date
later last d ds h = go (leb d last) refl (cond_left _ _ h)
  where
    go : (t : Bool) → leb d last ≡ t → not t ≡ true → last < d
    go true e k = never k
    go false e k = leb-false d last e

is_later : (last d : ℕ) → last < d → earlier_date last d ≡ true
unfolding earlier_date
is_later last d h = rw (lt-leb d last h)

-- its first six bytes are a later date, and behind them stands nothing or a comma
record FirstDate (last : ℕ) (cs : List ℕ) : Type 0 where
  day : ℕ
  long : 6 ≤ length cs
  read : date (take 6 cs) ≡ some day
  after : last < day
  behind : 6 < length cs → get_or cs 6 0 ≡ 44

first_date_lem : (last : ℕ) (cs : List ℕ) → Risen last cs → FirstDate last cs
first_date_lem last cs r = go r.are r.order
  where
    go : {cs ds : List ℕ} → PartsRead date cs ds → ordered earlier_date (last ∷ ds) ≡ true → FirstDate last cs
    go (one cs {v = d} h) k = let l : length cs ≡ 6 = date_length cs d h in record {
      day = d;
      long = omega arith;
      read = rw (take_all 6 cs (omega arith)) h;
      after = later last d [] k;
      behind = λ m. absurd (omega arith);
    }
    go (next p rest {v = d} {vs = ds} h q) k = let l : length p ≡ 6 = date_length p d h in record {
      day = d;
      long = rw length-append (omega arith);
      read = rw (take_at p (44 ∷ rest) 6 l) h;
      after = later last d ds k;
      behind = λ m. get_or_at p 44 rest 0 6 l;
    }

-- one date, and one with more behind it
one_rises : (last d : ℕ) (cs : List ℕ) → date cs ≡ some d → last < d → rising last cs ≡ true
unfolding rising read_each holds_of ordered
one_rises last d cs h l = rw (parted_last cs (date_part cs d h), h, is_later last d l)

next_rises : (last d : ℕ) (p rest : List ℕ) → date p ≡ some d → last < d → rising last (p ++ 44 ∷ rest) ≡ rising d rest
unfolding rising read_each holds_of ordered
next_rises last d p rest h l = rw (parted_next p rest (date_part p d h), h) (go (read_each date (parted rest)))
  where
    go : (o : Option (List ℕ)) → holds_of (λ ds. ordered earlier_date (last ∷ ds)) (map (λ more. d ∷ more) o) ≡ holds_of (λ ds. ordered earlier_date (d ∷ ds)) o
    go none = refl
    go (some ds) = rw (is_later last d l)

-- a text from its six first bytes on
behind_six : (cs : List ℕ) → 6 < length cs → get_or cs 6 0 ≡ 44 → cs ≡ take 6 cs ++ 44 ∷ drop 7 cs
behind_six cs l h = sym (take-append-drop 6 cs) ∙ ap (λ (r : List ℕ). take 6 cs ++ r) (drop-cons cs 6 0 l ∙ ap (λ (c : ℕ). c ∷ drop 7 cs) h)

-- ---- the loop: x is what the whole list is, and cs is left of it

module _ (cs : List ℕ) (last : ℕ) (x : Bool) (inv : rising last cs ≡ x) where
  stops : (FirstDate last cs → ⊥) → false ≡ x
  stops f = not_holds (rising last cs) (λ h. f (first_date_lem last cs (risen last cs h))) ∙ inv

  pub rise_short : length cs < 6 → false ≡ x
  rise_short h = stops (λ f. omega (arith, f.long))

  -- six bytes of it are the date q, and others stand behind
  module _ (six behind : List ℕ) (s : IsSplitAt cs 6 six behind) (q : P.Option ℕ) (w : told q ≡ date six) where
    told_six : date (take 6 cs) ≡ told q
    told_six = ap date (sym s.1) ∙ sym w

    pub rise_unread : q ≡ None → false ≡ x
    rise_unread e = stops (λ f. none_some (sym (ap told e) ∙ sym told_six ∙ f.read))

    module _ (d : ℕ) (u : q ≡ Some d) where
      read : date (take 6 cs) ≡ some d
      read = told_six ∙ ap told u

      pub rise_early : d ≤ last → false ≡ x
      rise_early h = stops (λ f. let e : d ≡ f.day = some_is (sym read ∙ f.read) in omega (arith, f.after))

      module _ (l : last < d) where
        pub rise_last : length behind < 1 → true ≡ x
        rise_last h = let a : take 6 cs ≡ cs = take_all 6 cs (omega (arith, s.4)) in sym (one_rises last d cs (rw a at read) l) ∙ inv

        module _ (n : 1 ≤ length behind) where
          more_bytes : 6 < length cs
          more_bytes = omega (arith, s.4)

          seventh : get_or behind 0 0 ≡ get_or cs 6 0
          seventh = ap (λ (b : List ℕ). get_or b 0 0) s.2 ∙ get_or-drop 6 cs 0 0

          pub rise_bad : (get_or behind 0 0 ≡ 44 → ⊥) → false ≡ x
          rise_bad b = stops (λ f. b (seventh ∙ f.behind more_bytes))

          pub rise_more : get_or behind 0 0 ≡ 44 → rising d (take (length behind - 1) (drop 1 behind)) ≡ x
          rise_more b =
              let e : take (length behind - 1) (drop 1 behind) ≡ drop 7 cs = rest_whole behind 1 ∙ ap (drop 1) s.2 ∙ drop-drop 1 6 cs in
              rw e (sym (next_rises last d (take 6 cs) (drop 7 cs) read l) ∙ ap (rising last) (sym (behind_six cs more_bytes (sym seventh ∙ b))) ∙ inv)

-- ---- a list that passes

pub passes_empty : (list : List ℕ) → length list ≡ 0 → true ≡ is_some (holidays list)
unfolding holidays
passes_empty [] h = refl
passes_empty (c ∷ cs) h = absurd (omega arith)

pub passes_long : (list : List ℕ) (k : ℕ) → k < length list → leb longest_list k ≡ true → false ≡ is_some (holidays list)
passes_long list k h l = not_holds _ (λ p. omega (arith, list_length list p, leb-true longest_list k l))

-- every date is later than 0
rises_all : {cs ds : List ℕ} → PartsRead date cs ds → ordered earlier_date (0 ∷ ds) ≡ ordered earlier_date ds
unfolding ordered
rises_all (one cs {v = d} h) = rw (is_later 0 d (let e : Existing d = existing d (date_exists cs d h) in omega arith))
rises_all (next p rest {v = d} {vs = ds} h r) = rw (is_later 0 d (let e : Existing d = existing d (date_exists p d h) in omega arith))

pub passes_rising : (list : List ℕ) (r : Bool) → (length list ≡ 0 → ⊥) → length list ≤ longest_list → r ≡ rising 0 list → r ≡ is_some (holidays list)
unfolding holidays rising holds_of
passes_rising [] r n l e = absurd (n refl)
passes_rising (c ∷ cs) r n l e = e ∙ go (read_each date (parted (c ∷ cs))) (λ ds. parts_read date (c ∷ cs) ds)
  where
    go : (o : Option (List ℕ)) → ((ds : List ℕ) → o ≡ some ds → PartsRead date (c ∷ cs) ds)
        → holds_of (λ ds. ordered earlier_date (0 ∷ ds)) o ≡ is_some (then o (λ ds. given (leb (length ds) 60 && ordered earlier_date ds) ds))
    go none f = refl
    go (some ds) f =
        let r = f ds refl in
        rw (rises_all r, le-leb (length ds) 60 (omega (arith, dates_length r))) (pick (ordered earlier_date ds))
      where
        pick : (t : Bool) → t ≡ is_some (given t ds)
        pick true = refl
        pick false = refl

pub ruleset rises = (rise_short, rise_unread, rise_early, rise_last, rise_bad, rise_more, passes_empty, passes_long, passes_rising)
