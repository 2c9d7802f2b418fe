-- The layout of an area, read back: every part of `encode e` stands at its place and says what the engine has.
use Rattle.std.specs.Prelude.{◌≡◌, refl, true, false, List, [], ◌∷◌, ◌++◌, map, ℕ, zero, suc, ◌-◌, ◌*◌, ◌^◌, ◌≤◌, ◌<◌, eqb, length, take, drop}
use Rattle.std.proofs.Common.{ap, ◌∙◌, append_assoc, append-nil, arith, length-append, take_at, drop_at, leb-true, ne_eqb}
use Rattle.std.proofs.lemmas.List.{length-map}
use Rattle.rules.specs.Text.{is_text, every, run, bytes, big_endian}
use Rattle.rules.specs.Engine.{Position, Reference, limit, good_position, good_reference, last_bank}
use Rattle.rules.specs.Area.{zeros, padded, joined, reference_record, key_bytes, position_record, number_at, until_zero, reference_in, key_in, position_in, records, date_offset, transferred_offset, detailed_offset, record_size}
use Rattle.laws.specs.Digits.{places_length}
use Rattle.laws.specs.Numbers.{number_bytes}
use Rattle.laws.specs.Sections.{padded_length, Each, joined_length, records_back}
use Rattle.laws.specs.Tests.{and_left, and_right, cond_left, cond_right, between_low, between_high}
use Rattle.laws.specs.All.{All, All.none, All.more}
use Rattle.rule_laws.specs.Dates.{date_small}
use Rattle.engine_laws.specs.Limits.{bank_small}

-- ---- parts

-- a part of w bytes behind i bytes
pub part_at : (a p x q : List ℕ) (i w : ℕ) → length p ≡ i → length x ≡ w → a ≡ p ++ (x ++ q) → take w (drop i a) ≡ x
part_at a p x q i w h k e = rw (e, drop_at p (x ++ q) i h, take_at x q w k)

pub number_at_lem : (a p q : List ℕ) (i w v : ℕ) → length p ≡ i → v < 256 ^ w → a ≡ p ++ (bytes w v ++ q) → number_at a i w ≡ v
number_at_lem a p q i w v h k e = ap big_endian (part_at a p (bytes w v) q i w h (places_length 256 0 w v) e) ∙ number_bytes w v k

-- ---- records

-- x is written in 24 bytes and read back
pub record WrittenBack {A : Type 0} (write : A → List ℕ) (reads : List ℕ → A) (x : A) : Type 0 where
  pub wide : length (write x) ≡ record_size
  pub back : reads (write x) ≡ x

module _ {A : Type 0} (write : A → List ℕ) (reads : List ℕ → A) where
  pub written_each : {xs : List A} → All (WrittenBack write reads) xs → Each record_size (map write xs)
  written_each none = none
  written_each (more k s) = more k.wide (written_each s)

  pub written_back : {xs : List A} → All (WrittenBack write reads) xs → map reads (map write xs) ≡ xs
  written_back none = refl
  written_back (more k s) = rw (k.back, written_back s)

  -- records one behind the other, and what stands behind them
  pub written_length : {xs : List A} → All (WrittenBack write reads) xs → length (joined (map write xs)) ≡ record_size * length xs
  written_length s = joined_length (written_each s) ∙ rw length-map

  pub written_read : {xs : List A} (z : List ℕ) → All (WrittenBack write reads) xs → map reads (records (length xs) (joined (map write xs) ++ z)) ≡ xs
  written_read z s = ap (map reads) (rw length-map at (records_back z (written_each s))) ∙ written_back s

-- ---- a position's record, and a reference's

pub position_kept : (day : ℕ) (p : Position) → good_position day p ≡ true → WrittenBack position_record position_in p
unfolding good_position position_record position_in key_bytes key_in
position_kept day p h =
    let a : List ℕ = position_record p in
    let B : List ℕ = bytes 8 p.key.bank in
    let D : List ℕ = bytes 3 p.key.date in
    let Z : List ℕ = bytes 1 0 in
    let S : List ℕ = bytes 6 p.transferred in
    let T : List ℕ = bytes 6 p.detailed in
    let b : p.key.bank ≤ last_bank = bank_small _ (search (and_left, and_right)) in
    let d : p.key.date < 1000000 = date_small _ (search (and_left, and_right)) in
    let s : p.transferred ≤ limit = leb-true _ _ (search (and_left, and_right)) in
    let t : p.detailed ≤ limit = leb-true _ _ (search (and_left, and_right)) in
    let lB : length B ≡ 8 = places_length 256 0 8 _ in
    let lD : length D ≡ 3 = places_length 256 0 3 _ in
    let lZ : length Z ≡ 1 = places_length 256 0 1 0 in
    let lS : length S ≡ 6 = places_length 256 0 6 _ in
    record {
      wide = simp (length-append, places_length);
      back = λ i. record {
        key = record {
          bank = number_at_lem a [] (D ++ (Z ++ (S ++ T))) 0 8 p.key.bank refl (omega arith) (simp append_assoc) i;
          date = number_at_lem a B (Z ++ (S ++ T)) date_offset 3 p.key.date lB (omega arith) (simp append_assoc) i;
        };
        transferred = number_at_lem a (B ++ D ++ Z) T transferred_offset 6 p.transferred (simp (length-append, lB, lD, lZ)) (omega arith) (simp append_assoc) i;
        detailed = number_at_lem a (B ++ D ++ Z ++ S) [] detailed_offset 6 p.detailed (simp (length-append, lB, lD, lZ, lS)) (omega arith) (simp (append_assoc, append-nil)) i;
      };
    }

pub text_byte : (c : ℕ) → is_text c ≡ true → eqb c 0 ≡ false
unfolding is_text
text_byte c h = let l : 32 ≤ c = between_low 32 255 c (and_left _ _ h) in ne_eqb c 0 (λ e. omega arith)

until_zeros : (n : ℕ) → until_zero (zeros n) ≡ []
unfolding until_zero zeros
until_zeros zero = refl
until_zeros (suc n) = refl

until_zero_lem : (cs : List ℕ) (n : ℕ) → every is_text cs ≡ true → until_zero (cs ++ zeros n) ≡ cs
unfolding until_zero every
until_zero_lem [] n h = until_zeros n
until_zero_lem (c ∷ cs) n h =
    rw (text_byte c (cond_left (is_text c) (every is_text cs) h), until_zero_lem cs n (cond_right (is_text c) (every is_text cs) h))

until_padded : (n : ℕ) (cs : List ℕ) → every is_text cs ≡ true → until_zero (padded n cs) ≡ cs
unfolding padded
until_padded n cs h = until_zero_lem cs (n - length cs) h

pub reference_kept : (r : Reference) → good_reference r ≡ true → WrittenBack reference_record reference_in r
unfolding good_reference reference_record reference_in run
reference_kept r h =
    let a : List ℕ = reference_record r in
    let B : List ℕ = bytes 8 r.sender in
    let b : r.sender ≤ last_bank = bank_small _ (search (and_left, and_right)) in
    let l : length r.text ≤ 16 = between_high 1 16 _ (search (and_left, and_right)) in
    let t : every is_text r.text ≡ true = search (and_left, and_right) in
    let w : length (padded 16 r.text) ≡ 16 = padded_length 16 r.text l in
    let lB : length B ≡ 8 = places_length 256 0 8 _ in
    record {
      wide = simp (length-append, places_length, w);
      back = λ i. record {
        sender = number_at_lem a [] _ 0 8 r.sender refl (omega arith) refl i;
        text = (ap until_zero (part_at a B (padded 16 r.text) [] 8 16 lB w (simp append-nil)) ∙ until_padded 16 r.text t) i;
      };
    }
