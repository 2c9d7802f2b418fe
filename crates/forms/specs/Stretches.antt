-- Rows that stand one behind the other: each part begins where the text of the row before it ends, so that some rows as they stand are one stretch of the message's bytes.
use Rattle.std.specs.Prelude.{◌≡◌, refl, List, [], ◌∷◌, ◌++◌, map, ℕ, zero, suc, ◌+◌, ◌-◌, ◌≤◌, ◌<◌, length, get_or, take, drop}
use Rattle.std.proofs.Common.{sym, ap, ◌∙◌, zero-add, suc-add, arith, length-append}
use Rattle.rules.specs.Lines.{Line}
use Rattle.rules.specs.Messages.{row_text, rows_text}
use Rattle.laws.specs.Parts.{cut, from, cut_done, cut_join, from_take, cut_length, cut_size}
use Rattle.rule_laws.specs.Lines.{first_line_lem}
use Rattle.lines.specs.Answers.{LineEnd}
use Rattle.forms.specs.Spans.{span_of, no_span}
use Rattle.forms.specs.declared.rows.Span.{Span}

-- ---- one row

-- its part begins at place a, and its text is the stretch up to place b
pub record RowStretch (s : List ℕ) (a : ℕ) (p : Span) (b : ℕ) : Type 0 where
  pub start : p.start ≡ a
  pub order : a ≤ b
  pub text : cut s a b ≡ row_text (span_of s p)

text_some : (l : Line) → (l ≡ [] → ⊥) → row_text l ≡ l ++ 13 ∷ 10 ∷ []
unfolding row_text
text_some [] h = absurd (h refl)
text_some (c ∷ l) h = refl

-- a line with its CR LF
take_two : (l cs : List ℕ) → take (length l + 2) (l ++ 13 ∷ 10 ∷ cs) ≡ l ++ 13 ∷ 10 ∷ []
take_two [] cs = refl
take_two (c ∷ l) cs = rw (suc-add (length l) 2) (ap (λ (x : List ℕ). c ∷ x) (take_two l cs))

pub line_stretch : (s : List ℕ) (a e : ℕ) (p : Span) → LineEnd s a e → p.start ≡ a → p.end ≡ e → (cut s a e ≡ [] → ⊥) → RowStretch s a p (e + 2)
line_stretch s a e p l f g h =
    let k : a + (length (cut s a e) + 2) ≡ e + 2 = omega (arith, cut_length s a e (omega (arith, l.room)), l.start) in
    record {
      start = f;
      order = omega (arith, l.start);
      text = rw (f, g, text_some (cut s a e) h) (ap (λ (b : ℕ). cut s a b) (sym k) ∙ sym (from_take s a (length (cut s a e) + 2)) ∙ rw (first_line_lem (from s a) _ l.same).text (take_two (cut s a e) (from s (e + 2))));
    }

-- a row that is left out
pub out_stretch : (s : List ℕ) (a : ℕ) (p : Span) → p.start ≡ a → p.end ≡ a → RowStretch s a p a
unfolding row_text
out_stretch s a p f g = record { start = f; order = omega arith; text = rw (f, g, cut_done s a a (omega arith) (omega arith)) }

-- ---- rows one behind the other

-- from place a up to place b
pub data Standing (s : List ℕ) : ℕ → List Span → ℕ → Type 0 where
  end : {a : ℕ} → Standing s a [] a
  row : {a b c : ℕ} {p : Span} {ps : List Span} → RowStretch s a p b → Standing s b ps c → Standing s a (p ∷ ps) c

pub stands_more : {s : List ℕ} {a b c : ℕ} {p : Span} {ps : List Span} → Standing s a ps b → RowStretch s b p c → Standing s a (ps ++ (p ∷ [])) c
stands_more end r = row r end
stands_more (row q t) r = row q (stands_more t r)

stands_order : {s : List ℕ} {a b : ℕ} {ps : List Span} → Standing s a ps b → a ≤ b
stands_order end = omega arith
stands_order (row r t) = omega (arith, r.order, stands_order t)

-- the first line with its CR LF is a part of the stretch
pub stands_long : {s : List ℕ} {a c : ℕ} {ps : List Span} → Standing s a ps c → 0 < length (span_of s (get_or ps 0 no_span)) → a + length (span_of s (get_or ps 0 no_span)) + 2 ≤ c
stands_long {s} end h = absurd (omega (arith, cut_size s 0 0))
stands_long {s} {a} (row {b = b} {p = p} r t) h =
    let e : length (cut s a b) ≡ length (span_of s p ++ 13 ∷ 10 ∷ []) = ap length (r.text ∙ text_some (span_of s p) (λ z. omega (arith, ap length z))) in
    omega (arith, e, cut_size s a b, length-append (span_of s p) (13 ∷ 10 ∷ []), stands_order t)

-- the stretch from part i up to part i + n
pub record StretchOf (s : List ℕ) (ps : List Span) (i n : ℕ) : Type 0 where
  pub order : (get_or ps i no_span).start ≤ (get_or ps (i + n) no_span).start
  pub text : cut s (get_or ps i no_span).start (get_or ps (i + n) no_span).start ≡ rows_text (take n (drop i (map (span_of s) ps)))

-- from the first part
record UpTo (s : List ℕ) (a : ℕ) (ps : List Span) (n : ℕ) : Type 0 where
  pub order : a ≤ (get_or ps n no_span).start
  pub text : cut s a (get_or ps n no_span).start ≡ rows_text (take n (map (span_of s) ps))

up_to : {s : List ℕ} {a c : ℕ} {ps : List Span} → Standing s a ps c → (n : ℕ) → n < length ps → UpTo s a ps n
unfolding rows_text
up_to end n h = absurd (omega arith)
up_to {s} {a} (row {p = p} r t) zero h = record { order = omega (arith, r.start); text = rw r.start (cut_done s a a (omega arith) (omega arith)) }
up_to {s} {a} (row {b = b} {p = p} {ps = ps} r t) (suc n) h =
    let u : UpTo s b ps n = up_to t n (omega arith) in
    let k : a + (b - a) ≡ b = omega (arith, r.order) in
    record {
      order = omega (arith, r.order, u.order);
      text = sym (rw k at (cut_join s a (b - a) (get_or ps n no_span).start (omega (arith, r.order, u.order)))) ∙ rw (r.text, u.text);
    }

pub stretch_of_lem : {s : List ℕ} {a c : ℕ} {ps : List Span} → Standing s a ps c → (i n : ℕ) → i + n < length ps → StretchOf s ps i n
stretch_of_lem end i n h = absurd (omega arith)
stretch_of_lem {s} {a} (row {p = p} {ps = ps} r t) zero n h =
    let u : UpTo s a (p ∷ ps) n = up_to (row r t) n (omega arith) in
    record { order = rw (zero-add n) (omega (arith, r.start, u.order)); text = rw (zero-add n) (ap (λ (x : ℕ). cut s x (get_or (p ∷ ps) n no_span).start) r.start ∙ u.text) }
stretch_of_lem {s} (row {ps = ps} r t) (suc i) n h = let u : StretchOf s ps i n = stretch_of_lem t i n (omega arith) in record { order = rw (suc-add i n) u.order; text = rw (suc-add i n) u.text }

-- ---- the rows of an answer

-- they are as many as the rows, and stand from `at` up to `next`
pub record RowsStand (s : List ℕ) (at count : ℕ) (l : List Span) (next : ℕ) : Type 0 where
  pub size : length l ≡ count
  pub stands : Standing s at (take count l) next
