-- Room made in a window of the input: what is not yet taken goes to the front, and of a length's leading zeros all but one may go.
use Rattle.std.specs.Prelude.{◌≡◌, Bool, true, Some, None, take_while}
use Rattle.std.proofs.Math.Path.{refl, sym, ap}
use Rattle.std.proofs.Common.{◌∙◌, add-zero, zero-add, length-append, take-append-drop, length-take-le, take_at, eqb-true, eq-eqb}
use Rattle.std.proofs.Math.Bool.{false}
use mathlib.Core.List.{List, [], ◌∷◌, ◌++◌, append_assoc}
use Rattle.std.proofs.Math.Option as M
use Rattle.std.proofs.Math.Option.{none, some}
use Prim.Native.Nat.{ℕ, zero, suc, ◌+◌, ◌-◌, ◌≤◌, ◌<◌, min}
use native.Mathlib.Omega.{arith}
use Rattle.std.proofs.Math.Dec.{eqb}
use Rattle.std.proofs.Math.ListN.{length, get_or, take, drop, replicate}
use Rattle.std.proofs.lemmas.List.Folds.{length-prefix_len}
use Rattle.rules.specs.Text.{is_digit, digits_from, every, then, read_each}
use Rattle.rules.specs.Lines.{TakenLine, lead, take_line, begun, parted}
use Rattle.rules.specs.Replay.{length_of, parted_lengths, texts_behind, command_of, command}
use Rattle.laws.specs.Parts.{cut, from, from_take, cut_step, cut_done, cut_snoc, cut_drop, cut_take, cut_join, cut_length, cut_size, cut_get}
use Rattle.laws.specs.Standing.{moved}
use Rattle.laws.specs.Laid.{laid, laid_fits, laid_length}
use Rattle.laws.specs.Tests.{cond_left, cond_right, never}
use Rattle.rule_laws.specs.Commas.{part_digits, parted_next}
use Rattle.rule_laws.specs.Lines.{in_line, line_goes}
use Rattle.laws.specs.Front.{front_passed_all}
use Rattle.laws.specs.Places.{Passed}
use Rattle.commands.specs.Seeking.{IdleHere, IdleAt}
use Rattle.commands.specs.Leads.{Earlier, Earlier.nothing, Earlier.lengths, Leads, leads_plain, Bears, starts_bears, NoIdle}

-- ---- a zero that goes

-- of a length's two first zeros one may go
lengths_zero : {ps : List ℕ} → Earlier ps → (u : List ℕ) → read_each length_of (parted (ps ++ (48 ∷ 48 ∷ u))) ≡ read_each length_of (parted (ps ++ (48 ∷ u)))
unfolding read_each parted length_of digits_from is_digit
lengths_zero nothing u = go (parted u)
  where
    go : (ps : List (List ℕ)) → read_each length_of (begun 48 (begun 48 ps)) ≡ read_each length_of (begun 48 ps)
    go [] = refl
    go (p ∷ ps) = refl
lengths_zero (lengths ds {ps} h e) u =
    let p = part_digits ds h in
    rw (append_assoc ds (44 ∷ ps) (48 ∷ 48 ∷ u), append_assoc ds (44 ∷ ps) (48 ∷ u), parted_next ds (ps ++ (48 ∷ 48 ∷ u)) p, parted_next ds (ps ++ (48 ∷ u)) p, lengths_zero e u)

-- bytes of a line before others
line_lead : (q x : List ℕ) → every in_line q ≡ true → take_line (q ++ x) ≡ lead q (take_line x)
unfolding every lead
line_lead [] x h = go (take_line x)
  where
    go : (o : M.Option TakenLine) → o ≡ lead [] o
    go none = refl
    go (some t) = refl
line_lead (c ∷ q) x h = line_goes c (q ++ x) (cond_left _ _ h) ∙ rw (line_lead q x (cond_right (in_line c) _ h)) (go (take_line x))
  where
    go : (o : M.Option TakenLine) → lead (c ∷ []) (lead q o) ≡ lead (c ∷ q) o
    go none = refl
    go (some t) = refl

module _ {q : List ℕ} (l : Leads q) where
  line_zero : (u cs : List ℕ) → command_of (q ++ (48 ∷ 48 ∷ u)) cs ≡ command_of (q ++ (48 ∷ u)) cs
  unfolding texts_behind parted_lengths
  line_zero u cs =
      let b : Bears l.start = starts_bears l.starts in
      rw (l.is, append_assoc l.start l.between (48 ∷ 48 ∷ u), append_assoc l.start l.between (48 ∷ u), b.line (l.between ++ (48 ∷ 48 ∷ u)) cs, b.line (l.between ++ (48 ∷ u)) cs, lengths_zero l.earlier u)

  command_zero : (v : List ℕ) → command (q ++ (48 ∷ 48 ∷ v)) ≡ command (q ++ (48 ∷ v))
  unfolding every in_line command lead
  command_zero v =
      rw (line_lead q (48 ∷ 48 ∷ v) (leads_plain l), line_lead q (48 ∷ v) (leads_plain l), line_lead (48 ∷ 48 ∷ []) v refl, line_lead (48 ∷ []) v refl) (go (take_line v))
    where
      go : (o : M.Option TakenLine) → then (lead q (lead (48 ∷ 48 ∷ []) o)) (λ t. command_of t.line t.others) ≡ then (lead q (lead (48 ∷ []) o)) (λ t. command_of t.line t.others)
      go none = refl
      go (some t) = line_zero t.line t.others

  -- and so all but one
  zeros_fewer : (z : ℕ) (v : List ℕ) → command (q ++ (48 ∷ (replicate z 48 ++ v))) ≡ command (q ++ (48 ∷ v))
  zeros_fewer zero v = refl
  zeros_fewer (suc z) v = command_zero (replicate z 48 ++ v) ∙ zeros_fewer z v

-- ---- all zeros but one

-- the digit 0
abbrev is_null : ℕ → Bool
is_null c = eqb c 48

nulls : (cs : List ℕ) → every is_null cs ≡ true → cs ≡ replicate (length cs) 48
unfolding every
nulls [] h = refl
nulls (c ∷ cs) h = let x : c ≡ 48 = eqb-true c 48 (cond_left (eqb c 48) (every is_null cs) h) in rw x (ap (λ (l : List ℕ). 48 ∷ l) (nulls cs (cond_right (eqb c 48) (every is_null cs) h)))

-- ---- the window

-- of the bytes from at up to n, those up to r are left at the front: with any input behind them the same command, and where all are left none of its lengths begins with two zeros
pub record Roomed (s : List ℕ) (at n r : ℕ) (s' : List ℕ) : Type 0 where
  pub fewer : r ≤ n - at
  pub size : length s' ≡ length s
  pub same : (more : List ℕ) → command (cut s' 0 r ++ more) ≡ command (cut s at n ++ more)
  pub idle : r ≡ n - at → NoIdle (cut s' 0 r)

-- bytes moved down, as the front of what is there then
front_moved : (s : List ℕ) (here there m : ℕ) → there ≤ here → here + m ≤ length s → cut (moved here there m s) 0 (there + m) ≡ cut s 0 there ++ cut s here (here + m)
unfolding moved from cut
front_moved s here there m h l =
    let x : List ℕ = cut s here (here + m) in
    let e : take m (drop here s) ≡ x = from_take s here m in
    let k : length x ≡ m = cut_length s here (here + m) l ∙ omega arith in
    let a : laid x there s ≡ take there s ++ x ++ drop (there + length x) s = laid_fits x there s (omega arith) in
    let b : length (take there s ++ x) ≡ there + m = length-append (take there s) x ∙ rw (k, length-take-le there s (omega arith)) in
    rw (e, a, take_at (take there s ++ x) (drop (there + length x) s) (there + m) b)

-- an idle place of the first n bytes
module _ (s : List ℕ) (n : ℕ) (l : n ≤ length s) where
  size_is : length (cut s 0 n) ≡ n
  size_is = cut_length s 0 n l ∙ omega arith

  pub shorten_none : IdleAt (take n s) None → Roomed s 0 n n s
  unfolding cut
  shorten_none i = record { fewer = omega arith; size = refl; same = λ _. refl; idle = λ _. i.told }

  module _ {p : ℕ} (i : IdleAt (take n s) (Some p)) where
    w : List ℕ
    w = cut s 0 n

    is_here : IdleHere w p
    unfolding w cut
    is_here = i.told

    pub idle_within : p + 2 ≤ n
    unfolding w
    idle_within =
        let a : length (cut w p (p + 2)) ≡ min (p + 2) (length w) - p = cut_size w p (p + 2) in
        let b : length (cut w p (p + 2)) ≡ 2 = ap length is_here.two in
        omega (arith, size_is)

    -- two zeros stand at p
    zero_at : (k : ℕ) → k < 2 → get_or (48 ∷ 48 ∷ []) k 0 ≡ get_or s (p + k) 0
    unfolding w
    zero_at k h =
        let c : 0 + (p + k) ≡ p + k = omega arith in
        ap (λ (x : List ℕ). get_or x k 0) (sym is_here.two) ∙ cut_get (cut s 0 n) p (p + 2) k (omega arith) ∙ cut_get s 0 n (p + k) (omega (arith, idle_within)) ∙ rw c

    first_zero : get_or s p 0 ≡ 48
    first_zero = rw add-zero at (sym (zero_at 0 (omega arith)))

    module _ {z : ℕ} (q : z ≡ length (take_while is_null (take (n - (p + 1)) (drop (p + 1) s)))) where
      behind_is : take (n - (p + 1)) (drop (p + 1) s) ≡ cut s (p + 1) n
      unfolding from
      behind_is = let a : p + 1 + (n - (p + 1)) ≡ n = omega (arith, idle_within) in rw a at (from_take s (p + 1) (n - (p + 1)))

      nulls_front : Passed is_null (cut s (p + 1) n) 0 (length (cut s (p + 1) n)) z
      nulls_front = front_passed_all is_null (cut s (p + 1) n) z (rw (q, behind_is) (length-prefix_len is_null (cut s (p + 1) n)))

      nulls_passed : every is_null (take z (cut s (p + 1) n)) ≡ true
      unfolding cut
      nulls_passed = rw zero-add at nulls_front.front

      pub zeros_within : z ≤ n - (p + 1)
      zeros_within = rw (cut_length s (p + 1) n l) at nulls_front.within

      z_within : p + 1 + z ≤ n
      z_within = omega (arith, zeros_within, idle_within)

      -- the second is one of those behind p
      some_zeros : (k : ℕ) → k ≡ z → 0 < k
      some_zeros zero e =
          let b : eqb (get_or (cut s (p + 1) n) 0 0) 48 ≡ false = rw (zero-add, ← e) at (nulls_front.next (omega (arith, idle_within, cut_length s (p + 1) n l))) in
          let d : p + 1 + 0 ≡ p + 1 = omega arith in
          let a : get_or (cut s (p + 1) n) 0 0 ≡ get_or s (p + 1) 0 = cut_get s (p + 1) n 0 (omega (arith, idle_within)) ∙ rw d in
          never (sym b ∙ eq-eqb _ _ (a ∙ sym (zero_at 1 (omega arith))))
      some_zeros (suc k) e = omega arith

      module _ {s' : List ℕ} (m : s' ≡ moved (p + 1 + z) (p + 1) (n - (p + 1) - z) s) where
        y : List ℕ
        y = cut s (p + 1 + z) n

        whole : w ≡ take p w ++ (48 ∷ (replicate z 48 ++ y))
        unfolding w y
        whole =
            let a : 0 + p ≡ p = omega arith in
            let b : length (cut s (p + 1) (p + 1 + z)) ≡ z = cut_length s (p + 1) (p + 1 + z) (omega (arith, z_within)) ∙ omega arith in
            let c : cut s (p + 1) (p + 1 + z) ≡ replicate z 48 = nulls (cut s (p + 1) (p + 1 + z)) (rw (cut_take s (p + 1) n z z_within) at nulls_passed) ∙ rw b in
            let g : drop p (cut s 0 n) ≡ 48 ∷ (replicate z 48 ++ cut s (p + 1 + z) n) =
            cut_drop s 0 n p ∙ rw a (cut_step s p n (omega (arith, idle_within)) l ∙ rw (first_zero, ← cut_join s (p + 1) z n z_within, c)) in
            sym (take-append-drop p (cut s 0 n)) ∙ ap (λ (x : List ℕ). take p (cut s 0 n) ++ x) g

        left : cut s' 0 (p + 1 + (n - (p + 1) - z)) ≡ take p w ++ (48 ∷ y)
        unfolding w y
        left =
            let b : p + 1 + z + (n - (p + 1) - z) ≡ n = omega (arith, z_within) in
            let d : 0 + p ≡ p = omega arith in
            let g : cut s 0 (p + 1) ≡ take p (cut s 0 n) ++ 48 ∷ [] = cut_snoc s 0 p (omega arith) (omega (arith, idle_within)) ∙ rw (first_zero, cut_take s 0 n p (omega (arith, idle_within)), d) in
            rw m (front_moved s (p + 1 + z) (p + 1) (n - (p + 1) - z) (omega arith) (omega (arith, z_within)) ∙ rw (b, g) (append_assoc (take p (cut s 0 n)) (48 ∷ []) (cut s (p + 1 + z) n)))

        pub shorten_less : Roomed s 0 n (p + 1 + (n - (p + 1) - z)) s'
        unfolding w moved
        shorten_less = record {
          fewer = omega (arith, z_within);
          size = ap (λ (x : List ℕ). length x) m ∙ laid_length (take (n - (p + 1) - z) (drop (p + 1 + z) s)) (p + 1) s;
          same = λ more.
              ap (λ (x : List ℕ). command (x ++ more)) left ∙ ap command (append_assoc (take p w) (48 ∷ y) more) ∙ sym (zeros_fewer is_here.leads z (y ++ more))
              ∙ ap command (sym (append_assoc (take p w) (48 ∷ (replicate z 48 ++ y)) more ∙ ap (λ (x : List ℕ). take p w ++ (48 ∷ x)) (append_assoc (replicate z 48) y more)))
              ∙ ap (λ (x : List ℕ). command (x ++ more)) (sym whole);
          idle = λ (k : p + 1 + (n - (p + 1) - z) ≡ n - 0). absurd (omega (arith, some_zeros z refl, z_within));
        }

-- what is left goes to the front
pub room_made : (s : List ℕ) (at n r : ℕ) {s₁ s' : List ℕ} → at ≤ n → n ≤ length s → s₁ ≡ moved at 0 (n - at) s → Roomed s₁ 0 (n - at) r s' → Roomed s at n r s'
unfolding moved
room_made s at n r {s₁} h l m w =
    let a : at + (n - at) ≡ n = omega arith in
    let b : 0 + (n - at) ≡ n - at = omega arith in
    let c : cut s₁ 0 (n - at) ≡ cut s at n =
    rw m (rw (b, a, cut_done s 0 0 (omega arith) (omega arith)) at (front_moved s at 0 (n - at) (omega arith) (omega arith))) in record {
      fewer = omega (arith, w.fewer);
      size = w.size ∙ ap (λ (x : List ℕ). length x) m ∙ laid_length (take (n - at) (drop at s)) 0 s;
      same = λ more. w.same more ∙ ap (λ (x : List ℕ). command (x ++ more)) c;
      idle = λ e. w.idle (omega arith);
    }

pub ruleset shortening = (shorten_none, idle_within, zeros_within, shorten_less)
