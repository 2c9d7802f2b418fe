-- A walk over a text lends it to each call as a reader over it, at any place: of a `&` there can be two.
use Rattle.std.specs.Prelude.{refl, ℕ, ◌<◌, ◌^◌, List, [], ◌∷◌}
use seplogic.Ra.Ura.{Ura}
use mir.Syntax.{named, erased, w8, w64}
use mir.Val.{Val, vint}
use base.Logic.{ent, sep}
use base.Fml.{Fml, Lft}
use types.Logic.{Logic, sem}
use types.Kit.{‵, ◌⊛◌, ◌$◌, ◌∵◌, !, qed, move, use1, split, fjoin, frame, done}
use denote.RattleType.{owns}
use denote.Laws.{Is}
use denote.Plain.{uint_Makes, uint_row_laws}
use denote.Builtin.{u8, usize}
use denote.Ref.{Bor, NamedLft}
use denote.Signature.{named_lft}
use denote.Slice.{shr_slice_copy}
use denote.Steps.{owned, nothing}
use denote.Struct.Rest.{own_shut}
use Rattle.lines.specs.Answers.{over}
use Rattle.lines.specs.Lent.{text_val, Text}
use Rattle.lines.specs.contracts.over.Reader as T
use Rattle.lines.proofs.over.Reader.TheLaws as T'

-- a lifetime has no name there
abbrev pub unnamed : Lft → NamedLft
unnamed κ = record { mir = erased; lft = κ }

module _ (κ : Lft) (s : Bor (List ℕ)) where
  -- a reader's machine value, and what it owns
  abbrev pub reader_val : ℕ → Val
  reader_val n = T'.lowered (over s n)

  abbrev pub Reads : ℕ → Fml
  Reads n = owns (T.the_row (named_lft 1 0 tt (κ, tt)) ∷ []) (over s n, tt) (reader_val n ∷ [], tt)

  module _ {M : Type 1} {𝓤 : Ura M} (𝓛 : Logic 𝓤) where
    -- lent as a reader at a place
    pub lends_reader : (n : ℕ) → n < 2 ^ 64 → ent 𝓤 (sem 𝓛 (Text κ s)) (sep 𝓤 (sem 𝓛 (Text κ s)) (sem 𝓛 (Reads n)))
    lends_reader n fits =
        qed 𝓛 (‵ (Text κ s) ∷ []) ∵ use1 𝓛 (‵ (Text κ s) ⊛ ‵ (Text κ s)) ((shr_slice_copy 𝓛 (named 0) κ u8 (uint_row_laws w8)).twice s (text_val κ s ∷ [])) $ split ! $ frame ! $
        nothing ! $ owned ! usize (Is usize) (uint_Makes 𝓛 w64) n (vint w64 n ∷ []) (refl, fits) $ fjoin ! $ move ! (1 ∷ 0 ∷ []) $ fjoin ! $
        use1 𝓛 (‵ ((T.the_row (named_lft 1 0 tt (κ, tt))).own_val (over s n) (reader_val n ∷ []))) (own_shut 𝓛 (T.the_type (named_lft 1 0 tt (κ, tt))) (T'.the_laws (named_lft 1 0 tt (κ, tt))) (s, (n, tt))) $
        nothing ! $ move ! (1 ∷ 0 ∷ []) $ fjoin ! $ done !
