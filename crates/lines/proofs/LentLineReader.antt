-- A walk over a message lends it to each call as a line reader over it: of a `&` there can be two.
use Rattle.std.specs.Prelude.{refl, ℕ, ◌≤◌, ◌<◌, ◌^◌, List, [], ◌∷◌, length}
use seplogic.Ra.Ura.{Ura}
use mir.Syntax.{named, w8, w64}
use mir.Val.{Val, vint}
use base.Logic.{ent, sep}
use base.Fml.{Fml, Lft}
use types.Logic.{Logic, sem}
use types.Kit.{‵, ◌⊛◌, ◌$◌, ◌∵◌, !, qed, move, use1, split, fjoin, frame, done}
use denote.RattleType.{owns}
use denote.Laws.{Is}
use denote.Plain.{uint_Makes, uint_row_laws}
use denote.Builtin.{u8, usize}
use denote.Ref.{Bor}
use denote.Signature.{named_lft}
use denote.Slice.{shr_slice_copy}
use denote.Steps.{owned, nothing}
use denote.Struct.Rest.{own_shut}
use Rattle.lines.specs.Lent.{text_val, Text}
use Rattle.lines.specs.declared.reader.LineReader.{LineReader}
use Rattle.lines.specs.contracts.reader.LineReader as T
use Rattle.lines.proofs.reader.LineReader.TheLaws as T'

module _ (κ : Lft) (s : Bor (List ℕ)) where
  -- a line reader's machine value, and what it owns
  abbrev pub reader_val : LineReader → Val
  reader_val r = T'.lowered r

  abbrev pub Reads : LineReader → Fml
  Reads r = owns (T.the_row (named_lft 1 0 tt (κ, tt)) ∷ []) (r, tt) (reader_val r ∷ [], tt)

  -- the line reader over the text at a place
  module _ (h : length s.now ≤ 4096) (n : ℕ) (k : n ≤ length s.now) where
    abbrev over : LineReader
    over = record { text = s; at = n; short = h; within = k }

  module _ {M : Type 1} {𝓤 : Ura M} (𝓛 : Logic 𝓤) where
    -- lent as a line reader at a place
    pub lends_line_reader : (h : length s.now ≤ 4096) (n : ℕ) (k : n ≤ length s.now) → n < 2 ^ 64 → ent 𝓤 (sem 𝓛 (Text κ s)) (sep 𝓤 (sem 𝓛 (Text κ s)) (sem 𝓛 (Reads (over h n k))))
    lends_line_reader h n k fits =
        qed 𝓛 (‵ (Text κ s) ∷ []) ∵ use1 𝓛 (‵ (Text κ s) ⊛ ‵ (Text κ s)) ((shr_slice_copy 𝓛 (named 0) κ u8 (uint_row_laws w8)).twice s (text_val κ s ∷ [])) $ split ! $ frame ! $
        nothing ! $ owned ! usize (Is usize) (uint_Makes 𝓛 w64) n (vint w64 n ∷ []) (refl, fits) $ fjoin ! $ move ! (1 ∷ 0 ∷ []) $ fjoin ! $
        use1 𝓛 (‵ ((T.the_row (named_lft 1 0 tt (κ, tt))).own_val (over h n k) (reader_val (over h n k) ∷ []))) (own_shut 𝓛 (T.the_type (named_lft 1 0 tt (κ, tt))) (T'.the_laws (named_lft 1 0 tt (κ, tt))) (s, (n, tt))) $
        nothing ! $ move ! (1 ∷ 0 ∷ []) $ fjoin ! $ done !
