-- With a register without codes a message is answered as by document 01's verdicts, of field 59 alone.
use Rattle.std.specs.Prelude.{◌≡◌, Bool, not, ℕ, leb, length}
use Rattle.std.proofs.Math.Path.{refl, ap}
use Rattle.std.proofs.Common.{◌∙◌}
use mathlib.Core.List.{List, [], ◌∷◌}
use Rattle.std.proofs.Math.Option.{Option, none, some}
use Rattle.rules.specs.Text.{passing}
use Rattle.rules.specs.Messages.{Message, mt103, mt101, Detail, payer_code, account59, read, details_of}
use Rattle.rules.specs.Register.{Register, register_of}
use Rattle.rules.specs.Verdict.{Verdict, credited, credited_by_code, returned, verdict, iban_beside, line_by_code, by_line, by_code, is_returned, is_listed199}
use Rattle.rules.specs.Engine.{Engine}
use Rattle.rules.specs.Written.{Book}
use Rattle.rules.specs.Calls.{first_of, answered, holds_of, verdict_of, verdict_is, judged_to, returned_details, listed_details, detail_postings, postings, parts_written, messages_written, message_text, after_message, room_stops, state_stops, message_stops, accepted_message, both_of, message_call}
use Rattle.rules.specs.WithoutCodes.{plain_verdict, is_plain_returned, plain_returned, plain_detail_postings, plain_postings, plain_parts, plain_text, plain_accepted, plain_answer, plain_call}
use Rattle.laws.specs.All.{passing_same}
use Rattle.rule_laws.specs.Verdicts.{PlainVerdict, PlainVerdict.credits, PlainVerdict.returns, plain_verdict_lem}

-- ---- a verdict

-- of field 59 alone: the MT199 lists what is returned, and no more
listed_returned : (r : Register) (cs : List ℕ) → is_listed199 (verdict r cs) ≡ is_returned (verdict r cs)
unfolding is_listed199 is_returned
listed_returned r cs = go (plain_verdict_lem r cs)
  where
    go : {v : Verdict} → PlainVerdict r v → is_listed199 v ≡ is_returned v
    go (credits h) = refl
    go returns = refl

module _ (r : Register) (h : r.codes ≡ []) where
  -- no code leads anywhere
  by_none : (code : List ℕ) (v : Verdict) → by_code r code v ≡ v
  unfolding by_code by_line line_by_code iban_beside
  by_none code (credited i) = refl
  by_none code (credited_by_code i c) = refl
  by_none code (returned c) = rw h

  verdict_plain : (d : Detail) → verdict_of r d ≡ plain_verdict r d
  verdict_plain d = by_none (payer_code d) (plain_verdict r d)

  -- the details whose verdicts pass a test that, of field 59 alone, the returned pass and no others
  judged_plain : (test : Verdict → Bool) → ((cs : List ℕ) → test (verdict r cs) ≡ is_returned (verdict r cs)) → (ds : List Detail) → judged_to test r ds ≡ passing (is_plain_returned r) ds
  unfolding verdict_is is_plain_returned
  judged_plain test k = passing_same (verdict_is test r) (is_plain_returned r) (λ d. ap test (verdict_plain d) ∙ k (account59 d))

  details_plain : (b : Book) (ds : List Detail) → detail_postings r b ds ≡ plain_detail_postings r b ds
  unfolding detail_postings plain_detail_postings
  details_plain b [] = refl
  details_plain b (d ∷ ds) = rw (verdict_plain d, details_plain b ds)

  postings_plain : (b : Book) (m : Message) → postings r b m ≡ plain_postings r b m
  unfolding postings plain_postings
  postings_plain b (mt103 t) = refl
  postings_plain b (mt101 o) = details_plain b o.details

-- ---- a message

module _ (e : Engine) (h : (register_of e.register).codes ≡ []) where
  returned_plain : (m : Message) → returned_details e m ≡ plain_returned e m
  returned_plain m = judged_plain (register_of e.register) h is_returned (λ cs. refl) (details_of m)

  listed_plain : (m : Message) → listed_details e m ≡ plain_returned e m
  listed_plain m = judged_plain (register_of e.register) h is_listed199 (listed_returned (register_of e.register)) (details_of m)

  parts_plain : (m : Message) → parts_written e m ≡ plain_parts e m
  unfolding parts_written plain_parts
  parts_plain m = rw listed_plain

  text_plain : (m : Message) → message_text e m ≡ plain_text e m
  unfolding message_text plain_text
  text_plain m = rw (postings_plain (register_of e.register) h, listed_plain m, returned_plain m, parts_plain m)

  accepted_plain : (m : Message) → accepted_message e m ≡ plain_accepted e m
  unfolding accepted_message plain_accepted after_message messages_written
  accepted_plain m = rw (text_plain m, parts_plain m, returned_plain m)

  answer_plain : (m : Option Message) → both_of (some e) m ≡ plain_answer e m
  unfolding both_of plain_answer
  answer_plain none = refl
  answer_plain (some m) = accepted_plain m

  -- 16, of its bytes
  room_plain : (room : ℕ) (m : Option Message) → holds_of (λ (n : Message). not (leb (length (message_text e n)) room)) m ≡ holds_of (λ (n : Message). not (leb (length (plain_text e n)) room)) m
  unfolding holds_of
  room_plain room none = refl
  room_plain room (some m) = rw text_plain

  pub call_plain : (room : ℕ) (s : List ℕ) → message_call room (some e) s ≡ plain_call room e s
  unfolding message_call plain_call message_stops state_stops room_stops answered first_of
  call_plain room s = rw (answer_plain (read s), room_plain room (read s))
