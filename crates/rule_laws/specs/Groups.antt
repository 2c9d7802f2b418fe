-- An account in groups of four: its compact form, character by character, and the shape of both.
use Rattle.std.specs.Prelude.{◌≡◌, refl, true, false, List, [], ◌∷◌, ◌++◌, ℕ, zero, suc, ◌+◌, ◌-◌, ◌*◌, ◌/◌, ◌≤◌, ◌<◌, length, get_or, take, drop}
use Rattle.std.proofs.Common.{sym, ap, ◌∙◌, arith, length-take, length-drop, length-append, get_or-take}
use Rattle.rules.specs.Text.{ascii, fits, fits_sign}
use Rattle.rules.specs.Accounts.{iban_shape, groups_of, joined_groups, grouped, compact, grouped_shape}
use Rattle.laws.specs.Tests.{never, cond_left, cond_right}
use Rattle.laws.specs.Reading.{fits_length}

-- the first four of a list, and those behind them
pub data Four : List ℕ → Type 0 where
  four : (a b c d : ℕ) (more : List ℕ) → Four (a ∷ b ∷ c ∷ d ∷ more)

pub four_of : (cs : List ℕ) → 4 ≤ length cs → Four cs
four_of [] h = absurd (omega arith)
four_of (a ∷ []) h = absurd (omega arith)
four_of (a ∷ b ∷ []) h = absurd (omega arith)
four_of (a ∷ b ∷ c ∷ []) h = absurd (omega arith)
four_of (a ∷ b ∷ c ∷ d ∷ more) h = four a b c d more

-- a list of two
data Two : List ℕ → Type 0 where
  two : (a b : ℕ) → Two (a ∷ b ∷ [])

two_of : (cs : List ℕ) → length cs ≡ 2 → Two cs
two_of [] h = absurd (omega arith)
two_of (a ∷ []) h = absurd (omega arith)
two_of (a ∷ b ∷ []) h = two a b
two_of (a ∷ b ∷ c ∷ more) h = absurd (omega arith)

-- ---- n groups of four, each with its space, and a group of two

-- the groups have a character more for each space
pub groups_length : (n : ℕ) (cs : List ℕ) → length cs ≡ 4 * n + 2 → length (groups_of n cs) ≡ 5 * n + 2
unfolding groups_of
groups_length zero cs h = omega (arith, length-take 2 cs)
groups_length (suc n) cs h =
    let l : length (drop 4 cs) ≡ length cs - 4 = length-drop 4 cs in
    length-append (take 4 cs ++ ascii " ") (groups_of n (drop 4 cs)) ∙ omega (arith, length-append (take 4 cs) (ascii " "), length-take 4 cs, groups_length n (drop 4 cs) (omega arith))

-- the characters without the spaces are as many as the groups have
pub joined_length : (n : ℕ) (cs : List ℕ) → 5 * n + 2 ≤ length cs → length (joined_groups n cs) ≡ 4 * n + 2
unfolding joined_groups
joined_length zero cs h = omega (arith, length-take 2 cs)
joined_length (suc n) cs h =
    let l : length (drop 5 cs) ≡ length cs - 5 = length-drop 5 cs in
    length-append (take 4 cs) (joined_groups n (drop 5 cs)) ∙ omega (arith, length-take 4 cs, joined_length n (drop 5 cs) (omega arith))

-- character k of them
pub joined_at : (n k : ℕ) (cs : List ℕ) → k < 4 * n + 2 → 5 * n + 2 ≤ length cs → get_or (joined_groups n cs) k 0 ≡ get_or cs (k + k / 4) 0
unfolding joined_groups
joined_at zero k cs h l = let e : k + k / 4 ≡ k = omega arith in rw e (get_or-take 2 cs k 0 (omega arith))
joined_at (suc n) k cs h l = go (four_of cs (omega arith)) (joined_at n) k h l
  where
    go : {xs : List ℕ} → Four xs → ((j : ℕ) (ys : List ℕ) → j < 4 * n + 2 → 5 * n + 2 ≤ length ys → get_or (joined_groups n ys) j 0 ≡ get_or ys (j + j / 4) 0) → (j : ℕ) → j < 4 * suc n + 2 → 5 * suc n + 2 ≤ length xs → get_or (joined_groups (suc n) xs) j 0 ≡ get_or xs (j + j / 4) 0
    go (four a b c d []) r j i m = absurd (omega arith)
    go (four a b c d (e ∷ more)) r zero i m = refl
    go (four a b c d (e ∷ more)) r (suc zero) i m = refl
    go (four a b c d (e ∷ more)) r (suc (suc zero)) i m = refl
    go (four a b c d (e ∷ more)) r (suc (suc (suc zero))) i m = refl
    go (four a b c d (e ∷ more)) r (suc (suc (suc (suc j)))) i m =
        let f : suc (suc (suc (suc j))) + suc (suc (suc (suc j))) / 4 ≡ suc (suc (suc (suc (suc (j + j / 4))))) = omega arith in
        rw f (r j more (omega arith) (omega arith))

-- put into groups, they are the same again without the spaces
pub joined_groups_lem : (n : ℕ) (cs : List ℕ) → length cs ≡ 4 * n + 2 → joined_groups n (groups_of n cs) ≡ cs
unfolding joined_groups groups_of
joined_groups_lem zero cs h = go (two_of cs h)
  where
    go : {xs : List ℕ} → Two xs → joined_groups 0 (groups_of 0 xs) ≡ xs
    go (two a b) = refl
joined_groups_lem (suc n) cs h = go (four_of cs (omega arith)) (joined_groups_lem n) h
  where
    go : {xs : List ℕ} → Four xs → ((ys : List ℕ) → length ys ≡ 4 * n + 2 → joined_groups n (groups_of n ys) ≡ ys) → length xs ≡ 4 * suc n + 2 → joined_groups (suc n) (groups_of (suc n) xs) ≡ xs
    go (four a b c d more) r k = ap (λ (l : List ℕ). a ∷ b ∷ c ∷ d ∷ l) (r more (omega arith))

-- bytes in groups against a pattern in groups: as those without spaces against the pattern
pub groups_alike : (n : ℕ) (ps cs : List ℕ) → length ps ≡ 4 * n + 2 → length cs ≡ 4 * n + 2 → fits (groups_of n ps) (groups_of n cs) ≡ fits ps cs
unfolding groups_of fits fits_sign
groups_alike zero ps cs h k = go (two_of ps h) (two_of cs k)
  where
    go : {xs ys : List ℕ} → Two xs → Two ys → fits (groups_of 0 xs) (groups_of 0 ys) ≡ fits xs ys
    go (two a b) (two c d) = refl
groups_alike (suc n) ps cs h k = go (four_of ps (omega arith)) (four_of cs (omega arith)) (groups_alike n) h k
  where
    go : {xs ys : List ℕ} → Four xs → Four ys → ((qs ds : List ℕ) → length qs ≡ 4 * n + 2 → length ds ≡ 4 * n + 2 → fits (groups_of n qs) (groups_of n ds) ≡ fits qs ds) → length xs ≡ 4 * suc n + 2 → length ys ≡ 4 * suc n + 2
        → fits (groups_of (suc n) xs) (groups_of (suc n) ys) ≡ fits xs ys
    go (four a b c d ms) (four e f g i ns) r l m = rw (r ms ns (omega arith) (omega arith))

-- bytes that fit a pattern in groups fit the pattern without their spaces
pub groups_joined : (n : ℕ) (ps cs : List ℕ) → length ps ≡ 4 * n + 2 → fits (groups_of n ps) cs ≡ true → fits ps (joined_groups n cs) ≡ true
unfolding groups_of joined_groups fits
groups_joined zero ps cs h k = go (two_of ps h) (two_of cs (sym (fits_length (groups_of 0 ps) cs k) ∙ groups_length 0 ps h)) k
  where
    go : {xs ys : List ℕ} → Two xs → Two ys → fits (groups_of 0 xs) ys ≡ true → fits xs (joined_groups 0 ys) ≡ true
    go (two a b) (two c d) l = l
groups_joined (suc n) ps cs h k = go (four_of ps (omega arith)) (four_of cs (omega (arith, fits_length (groups_of (suc n) ps) cs k, groups_length (suc n) ps h))) (groups_joined n) h k
  where
    go : {xs ys : List ℕ} → Four xs → Four ys → ((qs ds : List ℕ) → length qs ≡ 4 * n + 2 → fits (groups_of n qs) ds ≡ true → fits qs (joined_groups n ds) ≡ true) → length xs ≡ 4 * suc n + 2
        → fits (groups_of (suc n) xs) ys ≡ true → fits xs (joined_groups (suc n) ys) ≡ true
    go (four a b c d ms) (four e f g i []) r l m = never (cond_right (fits_sign d i) false (cond_right (fits_sign c g) _ (cond_right (fits_sign b f) _ (cond_right (fits_sign a e) _ m))))
    go (four a b c d ms) (four e f g i (s ∷ ns)) r l m =
        let m₁ = cond_right (fits_sign a e) _ m in
        let m₂ = cond_right (fits_sign b f) _ m₁ in
        let m₃ = cond_right (fits_sign c g) _ m₂ in
        let m₄ = cond_right (fits_sign d i) _ m₃ in
        let all = r ms ns (omega arith) (cond_right (fits_sign 32 s) _ m₄) in
        rw (cond_left (fits_sign a e) _ m, cond_left (fits_sign b f) _ m₁, cond_left (fits_sign c g) _ m₂, cond_left (fits_sign d i) _ m₃) all

-- ---- an IBAN in groups

-- its shape is an IBAN's in groups
pattern_grouped : ascii "BGnn aaaa nnnn nncc cccc cc" ≡ grouped (ascii "BGnnaaaannnnnncccccccc")
unfolding groups_of
pattern_grouped = refl

-- bytes of an IBAN's shape are 22, and those of its shape in groups 27
pub iban_length : (cs : List ℕ) → iban_shape cs ≡ true → length cs ≡ 22
unfolding iban_shape
iban_length cs h = sym (fits_length (ascii "BGnnaaaannnnnncccccccc") cs h)

pub grouped_length : (cs : List ℕ) → grouped_shape cs ≡ true → length cs ≡ 27
unfolding grouped_shape
grouped_length cs h = sym (fits_length (ascii "BGnn aaaa nnnn nncc cccc cc") cs h)

-- the grouped form of 22 characters has it where they have an IBAN's
pub shape_alike : (cs : List ℕ) → length cs ≡ 22 → grouped_shape (grouped cs) ≡ iban_shape cs
unfolding grouped_shape iban_shape
shape_alike cs h = rw pattern_grouped (groups_alike 5 (ascii "BGnnaaaannnnnncccccccc") cs refl h)

-- the compact form of what has it has an IBAN's
pub shape_compact : (cs : List ℕ) → grouped_shape cs ≡ true → iban_shape (compact cs) ≡ true
unfolding grouped_shape iban_shape
shape_compact cs h = groups_joined 5 (ascii "BGnnaaaannnnnncccccccc") cs refl (rw pattern_grouped at h)
