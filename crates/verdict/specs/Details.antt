-- The details of a message with their verdicts, as the code holds them.
use Rattle.std.specs.Prelude.{◌≡◌, refl, true, false, List, [], ℕ, zero, suc, ◌%◌, ◌<◌, ◌≤◌, length, get_or, set}
use Rattle.std.proofs.Common.{arith, get_or-set_same, get_or-set_other, ap, ◌∙◌}
use Rattle.std.proofs.Math.Nat.{mod-eq_of_lt}
use Rattle.std.proofs.Math.Logic.{∥∥₁_elim}
use Rattle.std.proofs.Math.Option.{Option, none, some}
use Rattle.std.proofs.Props.{props}
use Rattle.std.proofs.lemmas.List.{get_or_default}
use Rattle.rules.specs.Accounts.{iban_shape}
use Rattle.rules.specs.Text.{is_some, fits}
use Rattle.rules.specs.Messages as M
use Rattle.rules.specs.Calls as C
use Rattle.rules.specs.Forms.{detail_code, detail59}
use Rattle.rules.specs.Messages.{Message, read, details_of, past}
use Rattle.rules.specs.Register.{Register, register, register_of}
use Rattle.rule_laws.specs.Messages.{DetailRead, DetailsRead, DetailsRead.last, DetailsRead.more, ReadAs, ReadAs.transfer, ReadAs.order, read_as}
use Rattle.rules.specs.Verdict.{shaped, verdict, line_by_code, by_line, by_code, is_returned, is_listed199}
use Rattle.laws.specs.Tests.{none_some}
use Rattle.rule_laws.specs.Options.{some_is}
use Rattle.rule_laws.specs.Verdicts.{PlainVerdict, plain_verdict_lem, credited_line, line_known}
use Rattle.register.specs.Passed.{accounts_few}
use Rattle.forms.specs.Spans.{span_of, no_span, SpanIn, span_line}
use Rattle.forms.specs.Fields.{Behind, behind_bytes}
use Rattle.forms.specs.declared.rows.Span.{Span}
use Rattle.forms.specs.Details.{DetailAt, detail_in}
use Rattle.forms.specs.declared.detail.Detail.{Detail}
use Rattle.details.specs.Message.{or_none, message_in, details_in, detail_at}
use Rattle.details.specs.Kept.{KeptOf, kept_of, kept_told}
use Rattle.verdict.specs.Answers.{cause_of, verdict_of, InRegister, in_register, line_credited, line_coded, LineSmall}
use Rattle.verdict.specs.declared.Cause.{Cause}
use Rattle.verdict.specs.declared.Cause.TheVariants.{WrongShape}
use Rattle.verdict.specs.declared.Verdict.{Verdict}
use Rattle.verdict.specs.declared.Verdict.TheVariants.{Credited, CreditedByCode, Returned}
use Rattle.verdict.specs.declared.detail.Judged.{Judged}
use Rattle.verdict.specs.declared.detail.KeptVerdict.{KeptVerdict}
use Rattle.verdict.specs.declared.detail.KeptVerdict.TheVariants as small
use Rattle.rules.specs.Verdict as paper

-- a verdict with the lowest byte of its line
abbrev pub low_line : Verdict → Verdict
low_line (Credited i) = Credited (i % 256)
low_line (CreditedByCode i c) = CreditedByCode (i % 256) c
low_line (Returned c) = Returned c

-- where the line is small, the verdict itself
pub line_same : (v : Verdict) → LineSmall v → low_line v ≡ v
unfolding credited_line
line_same (Credited i) l = ap Credited (mod-eq_of_lt (l.line i refl))
line_same (CreditedByCode i c) l = ap (λ (n : ℕ). CreditedByCode n c) (mod-eq_of_lt (l.line i refl))
line_same (Returned c) l = refl

-- what is kept of a verdict, and the verdict that is kept
abbrev pub byte_verdict : Verdict → KeptVerdict
byte_verdict (Credited i) = small.Credited i
byte_verdict (CreditedByCode i c) = small.CreditedByCode i c
byte_verdict (Returned c) = small.Returned c

abbrev pub verdict_again : KeptVerdict → Verdict
verdict_again (small.Credited i) = Credited i
verdict_again (small.CreditedByCode i c) = CreditedByCode i c
verdict_again (small.Returned c) = Returned c

pub verdict_same : (v : Verdict) → verdict_again (byte_verdict v) ≡ v
verdict_same (Credited i) = refl
verdict_same (CreditedByCode i c) = refl
verdict_same (Returned c) = refl

-- of a detail
abbrev pub verdict_kept : Judged → Verdict
verdict_kept j = verdict_again j.verdict

-- what is kept of a detail with its verdict
abbrev pub judged_of : Detail → Verdict → Judged
judged_of d v = record { detail = kept_of d; verdict = byte_verdict v }

-- what stands behind the details that are kept
abbrev pub no_judged : Judged
no_judged = record { detail = record { amount = 0; reference = no_span; payer = no_span; branch = no_span; account = no_span; baeref = no_span }; verdict = small.Returned WrongShape }

-- what is kept at place i
abbrev pub judged_at : List Judged → ℕ → Judged
judged_at kept i = get_or kept i no_judged

-- what is kept of detail d, and its verdict
pub record JudgedAs (text s : List ℕ) (d : M.Detail) (j : Judged) : Type 0 where
  pub kept : KeptOf s d j.detail
  pub verdict : verdict_of (verdict_kept j) ≡ C.verdict_of (register_of text) d

-- the details of a message, 16 at most, are kept
pub record KeptIn (s : List ℕ) (kept : List Judged) : Type 0 where
  pub count : length kept ≡ length (details_in s)
  pub few : length kept ≤ 16
  pub each : (i : ℕ) → i < length kept → KeptOf s (detail_at (details_in s) i) (judged_at kept i).detail

-- with their verdicts
pub record JudgedIn (text s : List ℕ) (kept : List Judged) : Type 0 where
  pub kept_in : KeptIn s kept
  pub verdicts : (i : ℕ) → i < length kept → verdict_of (verdict_kept (judged_at kept i)) ≡ C.verdict_of (register_of text) (detail_at (details_in s) i)

-- ---- that they are kept has one proof at most, but for how each was read, and that is told by the message

details_each : {ds : List M.Detail} → DetailsRead ds → (i : ℕ) → i < length ds → DetailRead (detail_at ds i)
details_each (last d) zero h = d
details_each (last d) (suc i) h = absurd (omega arith)
details_each (more d r) zero h = d
details_each (more d r) (suc i) h = details_each r i (omega arith)

detail_of_read : {s : List ℕ} {m : Message} → ReadAs s m → (i : ℕ) → i < length (details_of m) → DetailRead (detail_at (details_of m) i)
unfolding details_of
detail_of_read (transfer t) i h = absurd (omega arith)
detail_of_read (order o) i h = details_each o.details i h

detail_told : (s : List ℕ) (i : ℕ) → i < length (details_in s) → DetailRead (detail_at (details_in s) i)
unfolding message_in or_none details_of
detail_told s = go (read s) refl
  where
    go : (o : Option Message) → read s ≡ o → (i : ℕ) → i < length (details_of (or_none o)) → DetailRead (detail_at (details_of (or_none o)) i)
    go none e i h = absurd (omega arith)
    go (some m) e i h = detail_of_read (read_as s m e) i h

module _ (s : List ℕ) (kept : List Judged) (t : ∥ KeptIn s kept ∥₁) where
  same_count : length kept ≡ length (details_in s)
  same_count = ∥∥₁_elim t (hlevel props) (λ k. k.count)

  pub kept_in : KeptIn s kept
  kept_in = record {
    count = same_count;
    few = ∥∥₁_elim t (hlevel props) (λ k. k.few);
    each = λ i h. record {
      read = detail_told s i (omega (arith, same_count));
      amount = ∥∥₁_elim t (hlevel props) (λ k. (k.each i h).amount);
      reference = ∥∥₁_elim t (hlevel props) (λ k. (k.each i h).reference);
      payer = ∥∥₁_elim t (hlevel props) (λ k. (k.each i h).payer);
      branch = ∥∥₁_elim t (hlevel props) (λ k. (k.each i h).branch);
      account = ∥∥₁_elim t (hlevel props) (λ k. (k.each i h).account);
      baeref = ∥∥₁_elim t (hlevel props) (λ k. (k.each i h).baeref);
    };
  }

-- each, read with any value behind the last
module _ (s : List ℕ) (kept : List Judged) (k : KeptIn s kept) (i : ℕ) (h : i < length kept) (other : Judged) where
  at_any : judged_at kept i ≡ get_or kept i other
  at_any = get_or_default kept i no_judged other h

  pub kept_at : KeptOf s (detail_at (details_in s) i) (get_or kept i other).detail
  kept_at = rw at_any at (k.each i h)

pub verdict_at : (text s : List ℕ) (kept : List Judged) → JudgedIn text s kept → (i : ℕ) → i < length kept → (other : Judged) → verdict_of (verdict_kept (get_or kept i other)) ≡ C.verdict_of (register_of text) (detail_at (details_in s) i)
verdict_at text s kept v i h other = rw (at_any s kept v.kept_in i h other) at (v.verdicts i h)

-- ---- judged one by one

-- a register's text that passes 9, and room for 16 details
pub record JudgingRoom (text : List ℕ) (kept : List Judged) : Type 0 where
  pub passes : is_some (register text) ≡ true
  pub size : length kept ≡ 16

-- the verdict v is that on detail d by its field 59 and its code
pub record VerdictOn (text s : List ℕ) (d : Detail) (v : Verdict) : Type 0 where
  pub same : verdict_of v ≡ by_code (register_of text) (span_of s (get_or d.spans detail_code no_span)) (verdict (register_of text) (past ":59:/" (span_of s (get_or d.spans detail59 no_span))))

-- detail n is d now, with its verdict
module _ (text s : List ℕ) (d : Detail) {at : ℕ} (w : DetailAt s at d) {v : Verdict} (o : VerdictOn text s d v) where
  pub judged_own : JudgedAs text s (detail_in s d) (judged_of d v)
  judged_own = record { kept = kept_told s d w; verdict = rw (verdict_same v, span_line s d.spans 17 detail59 (omega arith), span_line s d.spans 17 detail_code (omega arith)) o.same }

  module _ (kept : List Judged) (n : ℕ) (r : length kept ≡ 16) (h : n < 16) where
    pub kept_own : JudgedAs text s (detail_in s d) (judged_at (set kept n (judged_of d v)) n)
    kept_own = rw (get_or-set_same kept n (judged_of d v) no_judged (omega arith)) judged_own

-- a line number of a register that passed is small
module _ (text : List ℕ) (v : Verdict) (i : ℕ) (h : is_some (register text) ≡ true) (l : InRegister text v) where
  pub credited_small : v ≡ Credited i → i < 40
  credited_small e = omega (arith, line_credited text v i l e, accounts_few text h)

  pub coded_small : {c : Cause} → v ≡ CreditedByCode i c → i < 40
  coded_small e = omega (arith, line_coded text v i l e, accounts_few text h)

-- so that a byte keeps it
pub line_small : (text code cs : List ℕ) (v : Verdict) → is_some (register text) ≡ true → verdict_of v ≡ by_code (register_of text) code (verdict (register_of text) cs) → LineSmall v
line_small text code cs v h e = let l = in_register text code cs v e in record { line = λ i f. omega (arith, l.line i f, accounts_few text h) }

-- on field 59 alone it does too
pub judged_small : (text cs : List ℕ) (v : Verdict) → is_some (register text) ≡ true → verdict_of v ≡ verdict (register_of text) cs → LineSmall v
unfolding credited_line
judged_small text cs v h e = record { line = λ i f. omega (arith, plain_line (plain_verdict_lem (register_of text) cs) i (rw e at f), accounts_few text h) }
  where
    plain_line : {r : Register} {w : paper.Verdict} → PlainVerdict r w → (i : ℕ) → credited_line w ≡ some i → i < length r.accounts
    plain_line (PlainVerdict.credits l) i k = rw (some_is k) at l
    plain_line PlainVerdict.returns i k = none_some k

-- no bytes are no account
nothing_shaped : (r : Register) → verdict r [] ≡ paper.returned paper.wrong_shape
unfolding verdict shaped iban_shape fits
nothing_shaped r = refl

-- and behind a code where it did before
pub by_code_small : (text code : List ℕ) (u v : Verdict) → is_some (register text) ≡ true → LineSmall u → verdict_of v ≡ by_code (register_of text) code (verdict_of u) → LineSmall v
unfolding by_code by_line credited_line
by_code_small text code (Credited i) v h l e = record { line = λ j f. l.line j (rw e at f) }
by_code_small text code (CreditedByCode i c) v h l e = record { line = λ j f. l.line j (rw e at f) }
by_code_small text code (Returned c) v h l e = record { line = λ j f. omega (arith, code_line (line_by_code (register_of text) code) refl j (rw e at f), accounts_few text h) }
  where
    code_line : (o : Option ℕ) → line_by_code (register_of text) code ≡ o → (j : ℕ) → credited_line (by_line (cause_of c) o) ≡ some j → j < length (register_of text).accounts
    code_line none e j k = none_some k
    code_line (some i) e j k = line_known (register_of text) code [] j (rw (nothing_shaped (register_of text), e) k)

-- it fits a byte, as it was read from one
pub credited_fits : {i : ℕ} → i < 256 → LineSmall (Credited i)
unfolding credited_line
credited_fits h = record { line = λ j f. rw (some_is f) at h }

pub coded_fits : {i : ℕ} {c : Cause} → i < 256 → LineSmall (CreditedByCode i c)
unfolding credited_line
coded_fits h = record { line = λ j f. rw (some_is f) at h }

pub return_fits : {c : Cause} → LineSmall (Returned c)
unfolding credited_line
return_fits = record { line = λ j f. none_some f }

module _ (v : Verdict) (l : LineSmall v) (i : ℕ) where
  pub credited_byte : v ≡ Credited i → i < 256
  unfolding credited_line
  credited_byte e = l.line i (rw e)

  pub coded_byte : {c : Cause} → v ≡ CreditedByCode i c → i < 256
  unfolding credited_line
  coded_byte e = l.line i (rw e)

pub ruleset keeping = (line_same, credited_byte, coded_byte, credited_fits, coded_fits, return_fits)

-- the verdict u on some bytes, and v with the code
module _ (text code cs : List ℕ) {u : paper.Verdict} (v : Verdict) (f : u ≡ verdict (register_of text) cs) (g : verdict_of v ≡ by_code (register_of text) code u) where
  both_judged : verdict_of v ≡ by_code (register_of text) code (verdict (register_of text) cs)
  both_judged = g ∙ ap (by_code (register_of text) code) f

  pub both_known : InRegister text v
  both_known = in_register text code cs v both_judged

-- by the bytes behind 59's slash, whatever the code
pub verdict_behind : (text s : List ℕ) (p q : Span) → SpanIn s p → Behind p 5 q → (code : List ℕ) {u : paper.Verdict} (v : Verdict) → u ≡ verdict (register_of text) (span_of s q) → verdict_of v ≡ by_code (register_of text) code u
    → verdict_of v ≡ by_code (register_of text) code (verdict (register_of text) (past ":59:/" (span_of s p)))
verdict_behind text s p q w b code v f g = both_judged text code (span_of s q) v f g ∙ ap (λ (cs : List ℕ). by_code (register_of text) code (verdict (register_of text) cs)) (behind_bytes s p 5 w q b)

pub verdict_on : (text s : List ℕ) (d : Detail) (q : Span) → SpanIn s (get_or d.spans detail59 no_span) → Behind (get_or d.spans detail59 no_span) 5 q → {u : paper.Verdict} (v : Verdict) → u ≡ verdict (register_of text) (span_of s q)
    → verdict_of v ≡ by_code (register_of text) (span_of s (get_or d.spans detail_code no_span)) u → VerdictOn text s d v
verdict_on text s d q w b v f g = record { same = verdict_behind text s _ q w b _ v f g }

pub kept_other : (text s : List ℕ) (kept : List Judged) (n : ℕ) (j : Judged) (e : M.Detail) (i : ℕ) → i < n → JudgedAs text s e (judged_at kept i) → JudgedAs text s e (judged_at (set kept n j) i)
kept_other text s kept n j e i l k = rw (get_or-set_other kept n i j no_judged (λ z. omega arith)) k

-- ---- is it listed? is it returned?

module _ (v : Verdict) where
  pub credit_unlisted : {i : ℕ} → v ≡ Credited i → false ≡ is_listed199 (verdict_of v)
  unfolding is_listed199
  credit_unlisted e = rw e

  pub coded_listed : {i : ℕ} {c : _} → v ≡ CreditedByCode i c → true ≡ is_listed199 (verdict_of v)
  unfolding is_listed199
  coded_listed e = rw e

  pub return_listed : {c : _} → v ≡ Returned c → true ≡ is_listed199 (verdict_of v)
  unfolding is_listed199
  return_listed e = rw e

  pub credit_stays : {i : ℕ} → v ≡ Credited i → false ≡ is_returned (verdict_of v)
  unfolding is_returned
  credit_stays e = rw e

  pub coded_stays : {i : ℕ} {c : _} → v ≡ CreditedByCode i c → false ≡ is_returned (verdict_of v)
  unfolding is_returned
  coded_stays e = rw e

  pub return_goes : {c : _} → v ≡ Returned c → true ≡ is_returned (verdict_of v)
  unfolding is_returned
  return_goes e = rw e

pub ruleset choosing = (credit_unlisted, coded_listed, return_listed, credit_stays, coded_stays, return_goes)
