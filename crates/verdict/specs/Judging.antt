-- A law for each way that a judgement goes, the tests as calls answered them.
use Rattle.std.specs.Prelude.{◌≡◌, refl, Option, Some, None, ◌⊎◌, Bool, false, ◌&&◌, ◌||◌, not, cond, List, [], ◌∷◌, ℕ, ◌+◌, ◌-◌, ◌≤◌, ◌<◌, leb, take, drop}
use Rattle.std.proofs.Common.{sym, ap, ◌∙◌, inl, inr, length-take, length-drop, le-leb, take_all, drop_of_length-le}
use Rattle.std.proofs.Math.Bool.{true, and-true}
use native.Mathlib.Omega.{arith}
use Rattle.std.proofs.Math.ListN.{length}
use Rattle.std.proofs.lemmas.Bool.{lt-leb, not-false}
use Rattle.rules.specs.Text.{ascii, equal, fits, between}
use Rattle.rules.specs.Accounts.{iban_shape, control}
use Rattle.rules.specs.Register.{Account, Register}
use Rattle.rules.specs.Verdict.{found, account_at, shaped, in_bounds, judged, verdict, wrong_shape, wrong_control, not_in_register, out_of_bounds, credited, credited_by_code, returned, line_by_code, by_line, by_code}
use Rattle.laws.specs.Parts.{cut, cut_take, cut_drop, cut_done, cut_length}
use Rattle.laws.specs.Slices.{rest_whole}
use Rattle.laws.specs.Told.{told}
use Rattle.laws.specs.Tests.{and_left, and_right, not_holds, passed_told}
use Rattle.laws.specs.Reading.{fits_length}
use Rattle.laws.specs.Equal.{equal_true, equal_same, equal_none}
use Rattle.rule_laws.specs.Verdicts.{found_listed}
use Rattle.register_lines.specs.AccountLine.{bound}
use Rattle.verdict.specs.Answers.{cause_of, verdict_of}
use Rattle.verdict.specs.declared.Cause.{Cause}
use Rattle.verdict.specs.declared.Verdict.{Verdict}
use Rattle.verdict.specs.declared.Verdict.TheVariants.{Credited, CreditedByCode, Returned}

-- ---- shape

-- "an IBAN, alone or followed by `PAY` and six digits": 22 bytes or 31
either : (cs : List ℕ) (a : Bool) → equal cs [] ≡ a → (a || fits (ascii "PAYnnnnnn") cs) ≡ true → (length cs ≡ 0) ⊎ (length cs ≡ 9)
either cs true e h = inl (ap length (equal_true cs [] e))
either cs false e h = inr (sym (fits_length (ascii "PAYnnnnnn") cs h))

pub shaped_length : (cs : List ℕ) → shaped cs ≡ true → (length cs ≡ 22) ⊎ (length cs ≡ 31)
unfolding shaped iban_shape
shaped_length cs h = go (either (drop 22 cs) (equal (drop 22 cs) []) refl (and_right (iban_shape (take 22 cs)) _ h))
  where
    first : 22 ≡ length (take 22 cs)
    first = fits_length (ascii "BGnnaaaannnnnncccccccc") (take 22 cs) (and_left _ _ h)

    go : (length (drop 22 cs) ≡ 0) ⊎ (length (drop 22 cs) ≡ 9) → (length cs ≡ 22) ⊎ (length cs ≡ 31)
    go (inl e) = inl (omega (arith, first, length-take 22 cs, length-drop 22 cs))
    go (inr e) = inr (omega (arith, first, length-take 22 cs, length-drop 22 cs))

-- what stands behind an IBAN
module _ (cs : List ℕ) where
  pub nothing_behind : length cs ≡ 0 → true ≡ (equal cs [] || fits (ascii "PAYnnnnnn") cs)
  nothing_behind e = let n : cs ≡ [] = drop_of_length-le cs {i = 0} (omega (arith, e)) in rw (n, equal_same [])

  module _ (h : length cs ≡ 0 → ⊥) where
    pub other_behind : (length cs ≡ 9 → ⊥) → false ≡ (equal cs [] || fits (ascii "PAYnnnnnn") cs)
    other_behind k = not_holds _ (λ w. go (either cs (equal cs []) refl w))
      where
        go : (length cs ≡ 0) ⊎ (length cs ≡ 9) → ⊥
        go (inl e) = h e
        go (inr e) = k e

    pub code_behind : length cs ≡ 9 → (t : Bool) → t ≡ fits (ascii "PAYnnnnnn") (take 9 cs) → t ≡ (equal cs [] || fits (ascii "PAYnnnnnn") cs)
    code_behind e t u = rw (equal_none cs (omega arith)) (rw (take_all 9 cs (omega (arith, e))) at u)

-- an IBAN, alone or followed by a code
module _ (cs : List ℕ) where
  pub shape_short : length cs < 22 → false ≡ shaped cs
  shape_short h = not_holds (shaped cs) (λ w. go (shaped_length cs w))
    where
      go : (length cs ≡ 22) ⊎ (length cs ≡ 31) → ⊥
      go (inl e) = omega (arith, e)
      go (inr e) = omega (arith, e)

  module _ (t : Bool) (u : t ≡ iban_shape (take 22 cs)) where
    pub shape_none : t ≡ false → false ≡ shaped cs
    unfolding shaped
    shape_none d = rw (← u, d)

    pub shape_behind : t ≡ true → (r : Bool) → r ≡ (equal (take (length cs - 22) (drop 22 cs)) [] || fits (ascii "PAYnnnnnn") (take (length cs - 22) (drop 22 cs))) → r ≡ shaped cs
    unfolding shaped
    shape_behind d r v = rw (← u, d) (rw (rest_whole cs 22) at v)

-- of the bytes between two places
some_equal : (cs : List ℕ) → 0 < length cs → equal cs [] ≡ false
unfolding equal
some_equal [] h = absurd (omega arith)
some_equal (c ∷ cs) h = refl

module _ (s : List ℕ) (a b : ℕ) (h : a ≤ b) (k : b ≤ length s) where
  size : length (cut s a b) ≡ b - a
  size = cut_length s a b k

  pub shape_alone : b - a ≡ 22 → (t : Bool) → t ≡ iban_shape (cut s a (a + 22)) → t ≡ shaped (cut s a b)
  unfolding shaped equal
  shape_alone e t u = rw (cut_take s a b 22 (omega arith), cut_drop s a b 22, cut_done s (a + 22) b (omega arith) (omega arith), u, and-true)

  pub shape_other : (b - a ≡ 22 → ⊥) → (b - a ≡ 31 → ⊥) → false ≡ shaped (cut s a b)
  shape_other e f = not_holds (shaped (cut s a b)) (λ w. go (shaped_length (cut s a b) w))
    where
      go : (length (cut s a b) ≡ 22) ⊎ (length (cut s a b) ≡ 31) → ⊥
      go (inl g) = e (sym size ∙ g)
      go (inr g) = f (sym size ∙ g)

  module _ (e : b - a ≡ 31) (t : Bool) (u : t ≡ iban_shape (cut s a (a + 22))) where
    coded : shaped (cut s a b) ≡ (t && fits (ascii "PAYnnnnnn") (cut s (a + 22) (a + 22 + 9)))
    unfolding shaped equal
    coded =
        let w : a + 22 + 9 ≡ b = omega arith in
        let n : length (cut s (a + 22) b) ≡ b - (a + 22) = cut_length s (a + 22) b k in
        rw (cut_take s a b 22 (omega arith), cut_drop s a b 22, ← u, w, some_equal (cut s (a + 22) b) (omega arith))

    pub shape_coded : t ≡ true → (r : Bool) → r ≡ fits (ascii "PAYnnnnnn") (cut s (a + 22) (a + 22 + 9)) → r ≡ shaped (cut s a b)
    shape_coded d r w = rw (coded, d) w

-- ---- what has its shape

module _ (cs : List ℕ) (w : shaped cs ≡ true) where
  pub shaped_iban : 22 ≤ length cs
  shaped_iban = go (shaped_length cs w)
    where
      go : (length cs ≡ 22) ⊎ (length cs ≡ 31) → 22 ≤ length cs
      go (inl e) = omega (arith, e)
      go (inr e) = omega (arith, e)

  pub shaped_shape : iban_shape (take 22 cs) ≡ true
  unfolding shaped
  shaped_shape = and_left _ _ w

  -- the code behind an IBAN that does not stand alone
  module _ (e : length cs ≡ 22 → ⊥) where
    long : length cs ≡ 31
    long = go (shaped_length cs w)
      where
        go : (length cs ≡ 22) ⊎ (length cs ≡ 31) → length cs ≡ 31
        go (inl f) = absurd (e f)
        go (inr f) = f

    pub code_within : 25 + 6 ≤ length cs
    code_within = omega (arith, long)

    pub code_begins : 25 ≤ length cs
    code_begins = omega (arith, long)

    pub code_size : length (take (length cs - 25) (drop 25 cs)) ≡ 6
    code_size = rw (rest_whole cs 25) (omega (arith, long, length-drop 25 cs))

    bounds_code : (x : Account) → in_bounds x cs ≡ between x.low x.high (bound (drop 25 cs))
    unfolding in_bounds bound
    bounds_code x = rw (equal_none (drop 22 cs) (omega (arith, long, length-drop 22 cs)))

    module _ (x : Account) (code low : ℕ) (c : code ≡ bound (take (length cs - 25) (drop 25 cs))) (l : low ≡ x.low) where
      own : code ≡ bound (drop 25 cs)
      own = rw (rest_whole cs 25) at c

      pub code_low : code < low → leb low code ≡ in_bounds x cs
      code_low d = rw (bounds_code x, ← own, ← l, lt-leb low code d)

      pub code_high : low ≤ code → (high : ℕ) → high ≡ x.high → leb code high ≡ in_bounds x cs
      code_high d high m = rw (bounds_code x, ← own, ← l, le-leb low code d, m)

-- "A missing code is within bounds."
pub code_missing : (cs : List ℕ) → length cs ≡ 22 → (x : Account) → true ≡ in_bounds x cs
unfolding in_bounds equal
code_missing cs e x = let n : drop 22 cs ≡ [] = drop_of_length-le cs {i = 22} (omega (arith, e)) in rw n

-- ---- the search

pub found_known : (q : Option ℕ) (iban : List ℕ) (xs : List Account) → told q ≡ found iban 0 xs → (i : ℕ) → q ≡ Some i → i < length xs
found_known q iban xs e i w = found_listed iban i xs (sym e ∙ ap told w)

-- ---- the verdict

-- of the bytes between two places, the test as a call answered it
module _ (s : List ℕ) (a b : ℕ) (t : Bool) (u : t ≡ shaped (cut s a b)) (d : not t ≡ false) where
  pub judge_shaped : shaped (cut s a b) ≡ true
  judge_shaped = sym u ∙ not-false t d

  pub judge_iban : a ≤ b → b ≤ length s → a + 22 ≤ length s
  judge_iban h k = let n : length (cut s a b) ≡ b - a = cut_length s a b k in omega (arith, shaped_iban (cut s a b) judge_shaped)

  pub judge_told : a ≤ b → b ≤ length s → iban_shape (cut s a (a + 22)) ≡ true
  judge_told h k =
      let n : length (cut s a b) ≡ b - a = cut_length s a b k in
      rw (cut_take s a b 22 (omega (arith, shaped_iban (cut s a b) judge_shaped))) at (shaped_shape (cut s a b) judge_shaped)

module _ (g : Register) (cs : List ℕ) (t : Bool) (u : t ≡ shaped cs) where
  pub judge_shape : not t ≡ true → returned wrong_shape ≡ verdict g cs
  unfolding verdict
  judge_shape d = rw (← u, d)

  module _ (d : not t ≡ false) where
    module _ (t₂ : Bool) (u₂ : t₂ ≡ control (take 22 cs)) where
      pub judge_control : not t₂ ≡ true → returned wrong_control ≡ verdict g cs
      unfolding verdict
      judge_control d₂ = rw (← u, d, ← u₂, d₂)

      module _ (d₂ : not t₂ ≡ false) (q : Option ℕ) (e : told q ≡ found (take 22 cs) 0 g.accounts) where
        by_line_lem : judged g cs (told q) ≡ verdict g cs
        unfolding verdict
        by_line_lem = rw (← u, d, ← u₂, d₂, ← e)

        pub judge_nothing : q ≡ None → returned not_in_register ≡ verdict g cs
        unfolding judged
        judge_nothing w = rw w at by_line_lem

        module _ (i : ℕ) (w : q ≡ Some i) (t₃ : Bool) (u₃ : t₃ ≡ in_bounds (account_at g i) cs) where
          at_line : cond t₃ (credited i) (returned out_of_bounds) ≡ verdict g cs
          unfolding judged
          at_line = rw u₃ (rw w at by_line_lem)

          pub judge_credited : t₃ ≡ true → credited i ≡ verdict g cs
          judge_credited d₃ = rw d₃ at at_line

          pub judge_outside : t₃ ≡ false → returned out_of_bounds ≡ verdict g cs
          judge_outside d₃ = rw d₃ at at_line

-- ---- the line that may be a code, behind a verdict

module _ (r : Register) (code : List ℕ) (v : Verdict) where
  pub stays_credited : {i : ℕ} → v ≡ Credited i → verdict_of v ≡ by_code r code (verdict_of v)
  unfolding by_code
  stays_credited e = rw e

  pub stays_coded : {i : ℕ} {c : Cause} → v ≡ CreditedByCode i c → verdict_of v ≡ by_code r code (verdict_of v)
  unfolding by_code
  stays_coded e = rw e

  module _ {c : Cause} (e : v ≡ Returned c) (q : Option ℕ) (f : told q ≡ line_by_code r code) where
    by_found : by_line (cause_of c) (told q) ≡ by_code r code (verdict_of v)
    unfolding by_code
    by_found = rw (e, f)

    pub code_leads : {i : ℕ} → q ≡ Some i → credited_by_code i (cause_of c) ≡ by_code r code (verdict_of v)
    unfolding by_line
    code_leads w = rw w at by_found

    pub code_unknown : q ≡ None → returned (cause_of c) ≡ by_code r code (verdict_of v)
    unfolding by_line
    code_unknown w = rw w at by_found

pub ruleset judging = (passed_told, nothing_behind, other_behind, code_behind, shape_short, shape_none, shape_behind, shaped_iban, shaped_shape, code_begins, code_size, code_low, code_high, code_missing, found_known, judge_shape, judge_control, judge_nothing, judge_credited, judge_outside, stays_credited, stays_coded, code_leads, code_unknown)
