-- Bytes, texts and numbers, as all sections of document 01 use them. A text is the list of its bytes.
use Rattle.std.specs.Prelude.{◌≡◌, Bool, true, false, ◌&&◌, ◌||◌, not, cond, List, [], ◌∷◌, ◌++◌, ℕ, zero, suc, ◌+◌, ◌-◌, ◌*◌, ◌/◌, ◌%◌, ◌^◌, leb, eqb, length, drop}
use Rattle.std.proofs.Math.Option.{Option, none, some, map}
use Prim.Native.Char.{code}
use Prim.Native.String.{String}
use Prim.Native.String as S

-- a text as it is printed in the paper; a byte above 127 is the character of that code
abbrev pub ascii : String → List ℕ
ascii S.[] = []
ascii (S.◌∷◌ c s) = code c ∷ ascii s

-- low to high
abbrev pub between : ℕ → ℕ → ℕ → Bool
between low high c = leb low c && leb c high

-- a digit
unfoldable pub is_digit : ℕ → Bool
is_digit c = between 48 57 c

-- "All letters are A to Z."
unfoldable pub is_letter : ℕ → Bool
is_letter c = between 65 90 c

-- a letter or digit
unfoldable pub is_alnum : ℕ → Bool
is_alnum c = is_digit c || is_letter c

-- "such bytes": "bytes from 32 to 255, never 125"
unfoldable pub is_text : ℕ → Bool
is_text c = between 32 255 c && not (eqb c 125)

-- each byte passes a test
unfoldable pub every : (ℕ → Bool) → List ℕ → Bool
every p [] = true
every p (c ∷ cs) = let r = every p cs in cond (p c) r false

-- low to high bytes that pass a test
unfoldable pub run : (ℕ → Bool) → ℕ → ℕ → List ℕ → Bool
run p low high cs = between low high (length cs) && every p cs

-- equal bytes
unfoldable pub equal : List ℕ → List ℕ → Bool
equal [] [] = true
equal [] (d ∷ ds) = false
equal (c ∷ cs) [] = false
equal (c ∷ cs) (d ∷ ds) = let r = equal cs ds in cond (eqb c d) r false

-- a byte against the sign of its place: n a digit, a a letter, c a letter or digit, any other sign itself
unfoldable pub fits_sign : ℕ → ℕ → Bool
fits_sign p c = cond (eqb p 110) (is_digit c) (cond (eqb p 97) (is_letter c) (cond (eqb p 99) (is_alnum c) (eqb p c)))

-- bytes against a pattern of such signs, as many as it has
unfoldable pub fits : List ℕ → List ℕ → Bool
fits [] [] = true
fits [] (c ∷ cs) = false
fits (p ∷ ps) [] = false
fits (p ∷ ps) (c ∷ cs) = let r = fits ps cs in cond (fits_sign p c) r false

-- what is there, and then what is made of it
abbrev pub then {ℓ} : {A B : Type ℓ} → Option A → (A → Option B) → Option B
then none f = none
then (some a) f = f a

-- a value if the test holds
abbrev pub given {ℓ} : {A : Type ℓ} → Bool → A → Option A
given true a = some a
given false a = none

-- what is there, or else another
abbrev pub otherwise {ℓ} : {A : Type ℓ} → Option A → Option A → Option A
otherwise none o = o
otherwise (some a) o = some a

-- is there one?
abbrev pub is_some {ℓ} : {A : Type ℓ} → Option A → Bool
is_some none = false
is_some (some a) = true

-- what each of a list is read as, where each is
unfoldable pub read_each : {A B : Type 0} → (A → Option B) → List A → Option (List B)
read_each f [] = some []
read_each f (x ∷ xs) = then (f x) (λ y. map (λ more. y ∷ more) (read_each f xs))

-- what the first of a list are read as, as far as each is, and those behind them
pub record Leading (A B : Type 0) : Type 0 where
  pub read : List B
  pub others : List A

-- one of a list and those behind it: read, where it is, before what those lead with
abbrev pub led : {A B : Type 0} → Option B → List A → Leading A B → Leading A B
led none all r = record { read = []; others = all }
led (some y) all r = record { read = y ∷ r.read; others = r.others }

-- a list read as far as each of its elements is
unfoldable pub read_leading : {A B : Type 0} → (A → Option B) → List A → Leading A B
read_leading f [] = record { read = []; others = [] }
read_leading f (x ∷ xs) = led (f x) (x ∷ xs) (read_leading f xs)

-- one of a list passes a test
unfoldable pub any : {A : Type 0} → (A → Bool) → List A → Bool
any p [] = false
any p (x ∷ xs) = let r = any p xs in cond (p x) true r

-- those of a list that pass a test
unfoldable pub passing : {A : Type 0} → (A → Bool) → List A → List A
passing p [] = []
passing p (x ∷ xs) = let r = passing p xs in cond (p x) (x ∷ r) r

-- two of a list are alike
unfoldable pub twice : {A : Type 0} → (A → A → Bool) → List A → Bool
twice alike [] = false
twice alike (x ∷ xs) = let r = twice alike xs in cond (any (alike x) xs) true r

-- each of a list stands before the next
unfoldable pub ordered : {A : Type 0} → (A → A → Bool) → List A → Bool
ordered before [] = true
ordered before (x ∷ []) = true
ordered before (x ∷ y ∷ zs) = let r = ordered before (y ∷ zs) in cond (before x y) r false

-- how often an element stands in a list
unfoldable pub times : {A : Type 0} → (A → A → Bool) → A → List A → ℕ
times same x [] = 0
times same x (y ∷ ys) = let r = times same x ys in cond (same y x) (1 + r) r

-- "rearrangements of each other", "repeats counted": each element stands in both lists as often
abbrev pub Rearranged : {A : Type 0} → (A → A → Bool) → List A → List A → Type 0
Rearranged {A} same xs ys = (x : A) → times same x xs ≡ times same x ys

-- byte order: the first byte that differs decides, and a text stands before one that goes on behind it
unfoldable pub text_before : List ℕ → List ℕ → Bool
text_before [] [] = false
text_before [] (d ∷ ds) = true
text_before (c ∷ cs) [] = false
text_before (c ∷ cs) (d ∷ ds) = let r = text_before cs ds in cond (eqb c d) r (not (leb d c))

-- ---- numbers: "Quantities are in base ten."

-- the number v and then the digits cs behind it; none where a byte is no digit
unfoldable pub digits_from : ℕ → List ℕ → Option ℕ
digits_from v [] = some v
digits_from v (c ∷ cs) = let r = digits_from (v * 10 + (c - 48)) cs in cond (is_digit c) r none

-- the number of some digits
abbrev pub digits : List ℕ → Option ℕ
digits cs = digits_from 0 cs

-- the k lowest places of v to a base, the highest first, each as the byte null + its value
unfoldable pub places : ℕ → ℕ → ℕ → ℕ → List ℕ
places base null zero v = []
places base null (suc k) v = (null + v / base ^ k % base) ∷ places base null k v

-- k digits, with the zeros in front
abbrev pub fixed : ℕ → ℕ → List ℕ
fixed k v = places 10 48 k v

-- k bytes, big-endian
abbrev pub bytes : ℕ → ℕ → List ℕ
bytes k v = places 256 0 k v

-- how many digits v has, at most k + 1
unfoldable pub width : ℕ → ℕ → ℕ
width zero v = 1
width (suc k) v = cond (leb v 9) 1 (suc (width k (v / 10)))

-- a number below 10 ^ 20 with no leading zero
abbrev pub decimal : ℕ → List ℕ
decimal v = fixed (width 19 v) v

-- some numbers added up
unfoldable pub added_up : List ℕ → ℕ
added_up [] = 0
added_up (n ∷ ns) = n + added_up ns

-- the number n and then the bytes bs behind it, big-endian
unfoldable pub number_from : ℕ → List ℕ → ℕ
number_from n [] = n
number_from n (b ∷ bs) = number_from (n * 256 + b) bs

-- the number of some bytes; a bank is the number of its BIC, so that banks in byte order are numbers in order
abbrev pub big_endian : List ℕ → ℕ
big_endian bs = number_from 0 bs

-- ---- written texts

-- a line with its CR LF
abbrev pub ended : List ℕ → List ℕ
ended cs = cs ++ ascii "\r\n"

-- "Output behind the bytes written stays."
unfoldable pub over : List ℕ → List ℕ → List ℕ
over text out = text ++ drop (length text) out
