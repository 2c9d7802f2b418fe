-- The record tests against the definitions: a record of 24 bytes passes exactly if what it says is within the limits and is written as it stands.
use Rattle.std.specs.Prelude.{◌≡◌, Bool, false, ◌&&◌, cond, leb, eqb}
use Rattle.std.proofs.Math.Path.{refl, sym, ap}
use Rattle.std.proofs.Common.{◌∙◌, arith, lit≤, length-drop, take-add, take_all}
use Rattle.std.proofs.Math.Bool.{true, not}
use mathlib.Core.List.{List, [], ◌∷◌, ◌++◌, append_assoc}
use Prim.Native.Nat.{ℕ, zero, suc, ◌+◌, ◌-◌, ◌≤◌}
use Rattle.std.proofs.Math.Nat.{zero-div}
use Rattle.std.proofs.Math.ListN.{length, take, drop}
use Rattle.std.proofs.Math.Seq.{drop_at, drop-drop, length-take-le}
use borrow.Author.Tests.{leb-true, le-leb, eqb-true, not-true}
use Rattle.rules.specs.Text.{is_text, every, run, places, bytes, big_endian}
use Rattle.rules.specs.Accounts.{is_bic}
use Rattle.rules.specs.Engine.{is_bank, good_reference, slashed, last_bank}
use Rattle.rules.specs.Area.{zeros, padded, number_at, until_zero, reference_in, key_in, position_in, reference_record, key_bytes, position_record, date_offset, block_offset, transferred_offset, detailed_offset, record_size}
use Rattle.laws.specs.Digits.{places_length}
use Rattle.laws.specs.Numbers.{Within, bytes_number}
use Rattle.laws.specs.Parts.{cut, from, cut_cut, cut_drop, cut_take, from_take}
use Rattle.laws.specs.Tests.{and_left, and_right, cond_right, cond_left}
use Rattle.engine_laws.specs.Layout.{part_at}
use Rattle.engine_laws.specs.Positions.{Good}
use Rattle.engine_laws.specs.Accepted.{bic_bank}
use Rattle.engine_laws.specs.Tests.{is_zero, text_fits, reference_test, date_test, values_test, position_fits}
use Rattle.laws.specs.All.{all_take, all_drop}

-- a part, as the definitions say it
pub cut_is : (s : List ℕ) (i w : ℕ) → cut s i (i + w) ≡ take w (drop i s)
unfolding from
cut_is s i w = sym (from_take s i w)

-- a part of a part of 24 bytes
pub in_record : (a : List ℕ) (p i j : ℕ) → j ≤ record_size → cut (cut a p (p + record_size)) i j ≡ cut a (p + i) (p + j)
in_record a p i j h = cut_cut a p (p + record_size) i j (omega arith)

-- a number of a part of k bytes
pub number_within : (a : List ℕ) (at k j w : ℕ) → j + w ≤ k → number_at (take k (drop at a)) j w ≡ number_at a (at + j) w
number_within a at k j w h =
    ap big_endian (rw (← cut_is a at k, cut_drop a at (at + k) j, cut_take a (at + j) (at + k) w (omega arith)) (cut_is a (at + j) w))

-- ---- zeros

pub zero_bytes : (cs : List ℕ) (n : ℕ) → length cs ≡ n → every is_zero cs ≡ true → cs ≡ zeros n
unfolding every is_zero zeros
zero_bytes [] n l h = rw (← l)
zero_bytes (c ∷ cs) n l h =
    let e : c ≡ 0 = eqb-true c 0 (cond_left (eqb c 0) (every is_zero cs) h) in
    rw (← l, e) (ap (λ (x : List ℕ). 0 ∷ x) (zero_bytes cs (length cs) refl (cond_right (eqb c 0) (every is_zero cs) h)))

pub zeros_zero : (n : ℕ) → every is_zero (zeros n) ≡ true
unfolding every is_zero zeros
zeros_zero zero = refl
zeros_zero (suc n) = zeros_zero n

pub bytes_zero : (k : ℕ) → bytes k 0 ≡ zeros k
unfolding places zeros
bytes_zero zero = refl
bytes_zero (suc k) = rw (zero-div, bytes_zero k)

-- ---- numbers as they stand

-- a bank's bytes are a BIC
pub bank_bic : (n : ℕ) → is_bank n ≡ true → is_bic (bytes 8 n) ≡ true
unfolding is_bank
bank_bic n h = and_right (leb n last_bank) _ h

-- w bytes are those of their number
pub bytes_stand : (s : List ℕ) (i w : ℕ) → Within 256 0 s → i + w ≤ length s → bytes w (number_at s i w) ≡ take w (drop i s)
bytes_stand s i w h l =
    let n : length (take w (drop i s)) ≡ w = length-take-le w (drop i s) (rw length-drop (omega arith)) in
    rw n at (bytes_number (all_take w (all_drop i h)))

-- a list in parts
pub take_part : (s : List ℕ) (i w : ℕ) → take (i + w) s ≡ take i s ++ take w (drop i s)
take_part s i w = take-add i w s

-- ---- positions

module _ (r : List ℕ) (w : Within 256 0 r) (l : length r ≡ record_size) where
  -- bank and date, a byte, and both totals
  position_stands : position_record (position_in r) ≡ take block_offset r ++ bytes 1 0 ++ take 12 (drop transferred_offset r)
  unfolding position_record position_in key_bytes key_in
  position_stands =
      let head : bytes 8 (number_at r 0 8) ++ bytes 3 (number_at r date_offset 3) ≡ take block_offset r =
      rw (bytes_stand r 0 8 w (rw l (lit≤ tt)), bytes_stand r date_offset 3 w (rw l (lit≤ tt))) (sym (take_part r date_offset 3)) in
      let rest : bytes 6 (number_at r transferred_offset 6) ++ bytes 6 (number_at r detailed_offset 6) ≡ take 12 (drop transferred_offset r) =
      rw (bytes_stand r transferred_offset 6 w (rw l (lit≤ tt)), bytes_stand r detailed_offset 6 w (rw l (lit≤ tt)), ← drop-drop 6 transferred_offset r) (sym (take_part (drop transferred_offset r) 6 6)) in
      rw (head, ← rest) (append_assoc (take block_offset r ++ bytes 1 0) (bytes 6 (number_at r transferred_offset 6)) (bytes 6 (number_at r detailed_offset 6)))

  module _ (day : ℕ) where
    pub position_good : position_fits day r ≡ true → Good day (position_in r)
    unfolding position_fits values_test date_test position_in key_in
    position_good h = record {
      bank = bic_bank (take 8 r) (search (and_left, and_right));
      date = search (and_left, and_right);
      past = leb-true _ _ (search (and_left, and_right));
      transferred = leb-true _ _ (search (and_left, and_right));
      detailed = leb-true _ _ (search (and_left, and_right));
    }

    pub position_same : position_fits day r ≡ true → position_record (position_in r) ≡ r
    unfolding position_fits
    position_same h =
        let n : length (take 1 (drop block_offset r)) ≡ 1 = length-take-le 1 (drop block_offset r) (rw (length-drop, l) (lit≤ tt)) in
        let z : take 1 (drop block_offset r) ≡ zeros 1 = zero_bytes _ 1 n (search (and_left, and_right)) in
        position_stands ∙ rw (bytes_zero 1, ← z, ← take_part r block_offset 1, ← take_part r transferred_offset 12) (take_all record_size r (rw l (lit≤ tt)))

    pub position_test_lem : Good day (position_in r) → position_record (position_in r) ≡ r → position_fits day r ≡ true
    unfolding position_fits values_test date_test position_in key_in
    position_test_lem g e =
        let b : is_bic (take 8 r) ≡ true = rw (bytes_stand r 0 8 w (rw l (lit≤ tt))) at (bank_bic (number_at r 0 8) g.bank) in
        let n : length (take block_offset r) ≡ block_offset = length-take-le block_offset r (rw l (lit≤ tt)) in
        let z : take 1 (drop block_offset r) ≡ bytes 1 0 = part_at r (take block_offset r) (bytes 1 0) (take 12 (drop transferred_offset r)) block_offset 1 n (places_length 256 0 1 0) (sym e ∙ position_stands ∙ simp append_assoc) in
        rw (b, z, bytes_zero 1, zeros_zero 1, g.date, le-leb _ _ g.past, le-leb _ _ g.transferred, le-leb _ _ g.detailed)

-- ---- references

until_prefix : (cs : List ℕ) → until_zero cs ++ drop (length (until_zero cs)) cs ≡ cs
unfolding until_zero
until_prefix [] = refl
until_prefix (c ∷ cs) = go (eqb c 0) (until_prefix cs)
  where
    go : (t : Bool) → until_zero cs ++ drop (length (until_zero cs)) cs ≡ cs → cond t [] (c ∷ until_zero cs) ++ drop (length (cond t [] (c ∷ until_zero cs))) (c ∷ cs) ≡ c ∷ cs
    go true e = refl
    go false e = ap (λ (l : List ℕ). c ∷ l) e

-- the bytes behind a text of 16
behind : (cs : List ℕ) (k : ℕ) → length cs ≡ 16 → cut cs k 16 ≡ drop k cs
unfolding cut
behind cs k l = rw (take_all 16 cs (rw l (lit≤ tt)))

module _ (cs : List ℕ) (l : length cs ≡ 16) where
  pub text_same : text_fits cs ≡ true → padded 16 (until_zero cs) ≡ cs
  unfolding text_fits padded
  text_same h =
      let k : ℕ = length (until_zero cs) in
      let z : every is_zero (cut cs k 16) ≡ true = and_right (not (slashed (until_zero cs))) _ (and_right (run is_text 1 16 (until_zero cs)) _ h) in
      let y : every is_zero (drop k cs) ≡ true = rw (behind cs k l) at z in
      let e : drop k cs ≡ zeros (16 - k) = zero_bytes (drop k cs) (16 - k) (rw (length-drop, l)) y in
      rw (← e) (until_prefix cs)

  pub text_test_lem : run is_text 1 16 (until_zero cs) ≡ true → slashed (until_zero cs) ≡ false → padded 16 (until_zero cs) ≡ cs → text_fits cs ≡ true
  unfolding text_fits padded
  text_test_lem r s e =
      let k : ℕ = length (until_zero cs) in
      let d : drop k cs ≡ zeros (16 - k) = ap (drop k) (sym e) ∙ drop_at (until_zero cs) (zeros (16 - k)) k refl in
      rw (r, s, behind cs k l, d, zeros_zero)

module _ (r : List ℕ) (w : Within 256 0 r) (l : length r ≡ record_size) where
  -- the number and the text
  reference_stands : reference_record (reference_in r) ≡ take 8 r ++ padded 16 (until_zero (take 16 (drop 8 r)))
  unfolding reference_record reference_in
  reference_stands = rw (bytes_stand r 0 8 w (rw l (lit≤ tt)))

  pub text_length : length (take 16 (drop 8 r)) ≡ 16
  text_length = length-take-le 16 (drop 8 r) (rw (length-drop, l) (lit≤ tt))

  reference_form : reference_test r 0 ≡ (is_bic (take 8 r) && text_fits (take 16 (drop 8 r)))
  unfolding reference_test
  reference_form = rw (cut_is r 0 8, cut_is r 8 16)

  pub reference_good : reference_test r 0 ≡ true → good_reference (reference_in r) ≡ true
  unfolding good_reference reference_in text_fits
  reference_good h =
      let k : _ ≡ true = sym reference_form ∙ h in
      let t : List ℕ = until_zero (take 16 (drop 8 r)) in
      let a : run is_text 1 16 t ≡ true = search (and_left, and_right) in
      let b : not (slashed t) ≡ true = search (and_left, and_right) in
      rw (bic_bank (take 8 r) (and_left _ _ k), a, b)

  pub reference_same : reference_test r 0 ≡ true → reference_record (reference_in r) ≡ r
  reference_same h =
      let k : _ ≡ true = sym reference_form ∙ h in
      let t : padded 16 (until_zero (take 16 (drop 8 r))) ≡ take 16 (drop 8 r) = text_same _ text_length (and_right (is_bic (take 8 r)) _ k) in
      reference_stands ∙ rw (t, ← take_part r 8 16) (take_all record_size r (rw l (lit≤ tt)))

  -- its text and zeros behind it
  pub reference_filled : reference_record (reference_in r) ≡ r → padded 16 (until_zero (take 16 (drop 8 r))) ≡ take 16 (drop 8 r)
  reference_filled e =
      let n : length (take 8 r) ≡ 8 = length-take-le 8 r (rw l (lit≤ tt)) in
      let t : drop 8 r ≡ padded 16 (until_zero (take 16 (drop 8 r))) = ap (drop 8) (sym e ∙ reference_stands) ∙ drop_at (take 8 r) _ 8 n in
      let a : take 16 (drop 8 r) ≡ drop 8 r = take_all 16 (drop 8 r) (rw (length-drop, l) (lit≤ tt)) in
      sym t ∙ sym a

  pub reference_test_lem : good_reference (reference_in r) ≡ true → reference_record (reference_in r) ≡ r → reference_test r 0 ≡ true
  unfolding good_reference reference_in
  reference_test_lem g e =
      let b : is_bic (take 8 r) ≡ true = rw (bytes_stand r 0 8 w (rw l (lit≤ tt))) at (bank_bic (number_at r 0 8) (search (and_left, and_right))) in
      reference_form ∙ rw (b, text_test_lem (take 16 (drop 8 r)) text_length (search (and_left, and_right)) (not-true _ (search (and_left, and_right))) (reference_filled e))
