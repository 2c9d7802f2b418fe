-- The details of an MT101 read, judged, kept and summed one by one, and what is then told of all of them.
use Rattle.std.specs.Prelude.{◌≡◌, refl, Bool, true, false, cond, List, [], ◌∷◌, ◌++◌, eqb, length, take, set}
use Rattle.std.specs.Prelude as R
use Rattle.std.proofs.Math.Path.{sym}
use Rattle.std.proofs.Common.{ap, ◌∙◌, append_assoc, eq-eqb, ne_eqb, length-set}
use Rattle.std.proofs.Math.Option.{Option, none, some, map}
use Prim.Native.Nat.{ℕ, suc, ◌+◌, ◌-◌, ◌*◌, ◌^◌, ◌≤◌, ◌<◌, min}
use native.Mathlib.Omega.{arith}
use Rattle.std.proofs.Math.Seq.{take-append_seam}
use Rattle.rules.specs.Lines.{is_closing_line, sender}
use Rattle.rules.specs.Messages as M
use Rattle.rules.specs.Messages.{details, first_date, sum_of_amounts, take_detail}
use Rattle.laws.specs.Parts.{from}
use Rattle.rule_laws.specs.Options.{Mapped, mapped}
use Rattle.forms.specs.Spans.{within_at, within_order}
use Rattle.forms.specs.Details.{detail_in, DetailUpTo, DetailAt, detail_there, detail_long}
use Rattle.forms.specs.declared.detail.Detail.{Detail}
use Rattle.details.specs.Kept.{OfFirst, first_none, first_full, first_more, more_length}
use Rattle.verdict.specs.Details.{JudgingRoom, VerdictOn, JudgedAs, judged_of, judged_at, kept_own, kept_other, line_small}
use Rattle.verdict.specs.declared.Verdict.{Verdict}
use Rattle.verdict.specs.declared.detail.Judged.{Judged}
use Rattle.field_conditions.specs.Stops.{lowest, detail_stop, detail_lowest, no_stop, low_of}
use Rattle.conditions.specs.Lowest.{lowest_any, any_none, any_last}
use Rattle.conditions.specs.declared.tally.Tally.{Tally}

-- ---- one more detail

-- the first one's date, n being before this one
unfoldable pub day_of : ℕ → ℕ → ℕ → ℕ
day_of n day date = cond (eqb n 0) date day

pub day_first : (n day date r : ℕ) → n ≡ 0 → r ≡ date → r ≡ day_of n day date
unfolding day_of
day_first n day date r h e = rw (eq-eqb n 0 h) e

pub day_later : (n day date r : ℕ) → (n ≡ 0 → ⊥) → r ≡ day → r ≡ day_of n day date
unfolding day_of
day_later n day date r h e = rw (ne_eqb n 0 h) e

-- r is the tally t with the detail d behind it
pub record After (s : List ℕ) (t : Tally) (d : Detail) (r : Tally) : Type 0 where
  pub count : r.count ≡ t.count + 1
  pub sum : r.sum ≡ t.sum + d.amount
  pub date : r.date ≡ day_of t.count t.date d.date
  pub low : low_of r.low ≡ min (low_of t.low) (detail_stop s r.date d)

-- detail n, where it is one of the first 16, is d now, judged by its field 59 and its code; else all stays
pub data KeepsFirst (s text : List ℕ) (n : ℕ) (d : Detail) (kept : List Judged) : List Judged → Type 0 where
  stays : 16 ≤ n → KeepsFirst s text n d kept kept
  keeps : {v : Verdict} → n < 16 → VerdictOn text s d v → KeepsFirst s text n d kept (set kept n (judged_of d v))

-- ---- what is told of some details

-- each of the first 16 is kept and judged
abbrev pub FirstJudged : List ℕ → List ℕ → List Judged → List M.Detail → Type 0
FirstJudged text s kept ds = OfFirst (λ d i. JudgedAs text s d (judged_at kept i)) ds

-- their number, the sum of their amounts, the first one's date, the lowest condition that one breaks
pub record TallyTold (s text : List ℕ) (ds : List M.Detail) (t : Tally) (kept : List Judged) : Type 0 where
  pub count : t.count ≡ length ds
  pub sum : t.sum ≡ sum_of_amounts ds
  pub bound : t.sum ≤ t.count * 10 ^ 16
  pub date : t.date ≡ first_date ds
  pub low : low_of t.low ≡ lowest_any (sender s) (first_date ds) ds
  pub room : JudgingRoom text kept
  pub judged : FirstJudged text s kept ds

-- ---- one detail more is told

sum_more : (ds : List M.Detail) (d : M.Detail) → sum_of_amounts (ds ++ (d ∷ [])) ≡ sum_of_amounts ds + d.amount
unfolding sum_of_amounts
sum_more [] d = omega arith
sum_more (e ∷ ds) d = rw (sum_more ds d) (omega arith)

date_more : (ds : List M.Detail) (d : M.Detail) → day_of (length ds) (first_date ds) d.date ≡ first_date (ds ++ (d ∷ []))
unfolding day_of first_date
date_more [] d = refl
date_more (e ∷ ds) d = rw (ne_eqb (suc (length ds)) 0 (λ z. omega arith))

-- the date of the first does not matter to none
low_more : (bank : List ℕ) (ds : List M.Detail) (d : M.Detail) → min (lowest_any bank (first_date ds) ds) (lowest bank (first_date (ds ++ (d ∷ []))) d) ≡ lowest_any bank (first_date (ds ++ (d ∷ []))) (ds ++ (d ∷ []))
unfolding first_date
low_more bank [] d = rw (any_last bank d.date [] d, any_none bank 0, any_none bank d.date)
low_more bank (e ∷ ds) d = sym (any_last bank e.date (e ∷ ds) d)

module _ (s text : List ℕ) (ds : List M.Detail) (d : Detail) {at : ℕ} (w : DetailAt s at d) where
  room_more : {kept kept' : List Judged} → JudgingRoom text kept → KeepsFirst s text (length ds) d kept kept' → JudgingRoom text kept'
  room_more r (stays h) = r
  room_more {kept = kept} r (keeps {v = u} h o) = record { passes = r.passes; size = length-set kept (length ds) (judged_of d u) ∙ r.size }

  judged_more : {kept kept' : List Judged} → JudgingRoom text kept → FirstJudged text s kept ds → KeepsFirst s text (length ds) d kept kept' → FirstJudged text s kept' (ds ++ (detail_in s d ∷ []))
  judged_more r j (stays h) = first_full ds j (detail_in s d) h
  judged_more {kept = kept} r j (keeps {v = u} h o) = first_more ds j (detail_in s d) (kept_other text s kept (length ds) (judged_of d u)) (kept_own text s d w o kept (length ds) r.size h)

pub told_none : (s text : List ℕ) {t : Tally} {kept : List Judged} → t.count ≡ 0 → t.sum ≡ 0 → t.date ≡ 0 → low_of t.low ≡ no_stop → JudgingRoom text kept → TallyTold s text [] t kept
unfolding sum_of_amounts first_date
told_none s text a b c d e = record { count = a; sum = b; bound = omega (arith, b); date = c; low = rw (any_none) d; room = e; judged = first_none }

module _ (s text : List ℕ) (ds : List M.Detail) (t : Tally) {kept : List Judged} (o : TallyTold s text ds t kept) {at : ℕ} (d : Detail) (w : DetailAt s at d) {kept' : List Judged}
    (c : KeepsFirst s text t.count d kept kept') (r : Tally) (a : After s t d r) where
  dated : r.date ≡ first_date (ds ++ (detail_in s d ∷ []))
  dated = a.date ∙ rw (o.count, o.date) (date_more ds (detail_in s d))

  pub told_more : TallyTold s text (ds ++ (detail_in s d ∷ [])) r kept'
  told_more = record {
    count = a.count ∙ (rw o.count (sym (more_length ds (detail_in s d))));
    sum = a.sum ∙ rw o.sum (sym (sum_more ds (detail_in s d)));
    bound = omega (arith, a.sum, a.count, o.bound, w.up_to.small);
    date = dated;
    low = a.low ∙ rw (detail_lowest s r.date d, o.low, dated) (low_more (sender s) ds (detail_in s d));
    room = room_more s text ds d w o.room (rw o.count at c);
    judged = judged_more s text ds d w o.room o.judged (rw o.count at c);
  }

-- ---- the walk over all details

-- some are done and told, each of more than 4 bytes; with those from pos on they are all from `at` on; and the sum is that of the amounts so far, the first of all
pub record Walking (s text : List ℕ) (at pos : ℕ) (t : Tally) (kept : List Judged) : Type 0 where
  pub done : List M.Detail
  pub told : TallyTold s text done t kept
  pub left : map (λ ds. done ++ ds) (details (4096 - t.count) (from s pos)) ≡ details 4096 (from s at)
  pub long : 4 * t.count ≤ pos
  pub so_far : (ds : List M.Detail) → details 4096 (from s at) ≡ some ds → t.sum ≡ sum_of_amounts (take t.count ds)

-- all details from `at` on are told
pub record DetailsTallied (s text : List ℕ) (at : ℕ) (t : Tally) (kept : List Judged) : Type 0 where
  pub all : List M.Detail
  pub read : details 4096 (from s at) ≡ some all
  pub told : TallyTold s text all t kept

-- r is their tally, none where they are not in form
pub record TallyAt (s text : List ℕ) (at : ℕ) (r : R.Option Tally) (kept : List Judged) : Type 0 where
  pub none_there : r ≡ R.None → details 4096 (from s at) ≡ none
  pub all_there : (t : Tally) → r ≡ R.Some t → DetailsTallied s text at t kept

map_nothing : {A : Type 0} (o : Option (List A)) → map (λ ds. [] ++ ds) o ≡ o
map_nothing none = refl
map_nothing (some ds) = refl

map_one : {A : Type 0} (xs : List A) (x : A) (o : Option (List A)) → map (λ ds. xs ++ ds) (map (λ ds. x ∷ ds) o) ≡ map (λ ds. (xs ++ (x ∷ [])) ++ ds) o
map_one xs x none = refl
map_one xs x (some ds) = ap (λ (l : List _). some l) (sym (append_assoc xs (x ∷ []) ds))

-- those done are the first of all
done_first : {A : Type 0} (done : List A) (o : Option (List A)) (n : ℕ) (ds : List A) → n ≡ length done → map (λ es. done ++ es) o ≡ some ds → take n ds ≡ done
done_first done o n ds e h = let m : Mapped (λ es. done ++ es) o ds = mapped _ _ h in rw (← m.gives, e) (take-append_seam done m.value)

pub walk_start : (s text : List ℕ) (at : ℕ) {t : Tally} {kept : List Judged} → t.count ≡ 0 → t.sum ≡ 0 → t.date ≡ 0 → low_of t.low ≡ no_stop → JudgingRoom text kept
    → Walking s text at at t kept
unfolding sum_of_amounts
walk_start s text at a b c d e = record {
  done = [];
  told = told_none s text a b c d e;
  left = rw a (map_nothing (details 4096 (from s at)));
  long = omega arith;
  so_far = λ ds h. rw a b;
}

module _ (s text : List ℕ) (at pos : ℕ) (t : Tally) {kept : List Judged} (m : Walking s text at pos t kept) where
  pub walk_bound : t.sum ≤ t.count * 10 ^ 16
  walk_bound = m.told.bound

  -- the bytes of a message hold no more
  pub walk_few : length s ≤ 4096 → (d : Detail) {next : ℕ} → DetailUpTo s pos d next → t.count < 1024
  walk_few l d w = omega (arith, m.long, detail_long s pos d w, w.place)

  pub walk_out : 4096 ≤ t.count → {kept' : List Judged} → TallyAt s text at R.None kept'
  unfolding details
  walk_out h = let e : 4096 - t.count ≡ 0 = omega arith in record { none_there = λ _. sym (rw e at m.left); all_there = λ x g. absurd (cc) }

  pub walk_bad : t.count < 4096 → take_detail (from s pos) ≡ none → {kept' : List Judged} → TallyAt s text at R.None kept'
  unfolding details
  walk_bad h k = let e : 4096 - t.count ≡ suc (4096 - (t.count + 1)) = omega arith in record { none_there = λ _. sym (rw (e, k) at m.left); all_there = λ x g. absurd (cc) }

  module _ (h : t.count < 4096) (d : Detail) {next : ℕ} (w : DetailUpTo s pos d next) {kept' : List Judged} (c : KeepsFirst s text t.count d kept kept')
      (r : Tally) (a : After s t d r) (b : Bool) (u : b ≡ is_closing_line (from s next)) where
    fewer : 4096 - t.count ≡ suc (4096 - (t.count + 1))
    fewer = omega arith

    more : TallyTold s text (m.done ++ (detail_in s d ∷ [])) r kept'
    more = told_more s text m.done t m.told d (detail_there w) c r a

    all_told : b ≡ true → DetailsTallied s text at r kept'
    unfolding details
    all_told f = record {
      all = m.done ++ (detail_in s d ∷ []);
      read = sym (rw (fewer, w.same, ← u, f) at m.left);
      told = more;
    }

    pub walk_last : b ≡ true → TallyAt s text at (R.Some r) kept'
    walk_last f = record { none_there = λ g. absurd (cc); all_there = λ x g. (let e : r ≡ x = cc in rw e at (all_told f)) }

    left_on : b ≡ false → map (λ ds. (m.done ++ (detail_in s d ∷ [])) ++ ds) (details (4096 - r.count) (from s next)) ≡ details 4096 (from s at)
    unfolding details
    left_on f =
        let g : 4096 - r.count ≡ 4096 - (t.count + 1) = omega (arith, a.count) in
        rw g (sym (map_one m.done (detail_in s d) (details (4096 - (t.count + 1)) (from s next))) ∙ (rw (fewer, w.same, ← u, f) at m.left))

    pub walk_on : b ≡ false → Walking s text at next r kept'
    walk_on f = record {
      done = m.done ++ (detail_in s d ∷ []);
      told = more;
      left = left_on f;
      long = omega (arith, m.long, a.count, detail_long s pos d w);
      so_far = λ ds e. more.sum ∙ ap sum_of_amounts (sym (done_first (m.done ++ (detail_in s d ∷ [])) (details (4096 - r.count) (from s next)) r.count ds more.count (left_on f ∙ e)));
    }

pub ruleset keeping = (within_at, within_order, line_small, KeepsFirst.stays, KeepsFirst.keeps)
