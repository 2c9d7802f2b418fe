-- A walk over a text keeps what the text owns and lends it to each call: of a `&` there can be two.
use Rattle.std.specs.Prelude.{ℕ, List, [], ◌∷◌, length}
use seplogic.Ra.Ura.{Ura}
use mir.Syntax.{named, imm, w8, Ty, ty_int, ty_ref}
use mir.Val.{Val}
use base.Logic.{ent, sep}
use base.Fml.{Fml, Lft, fsep}
use types.Logic.{Logic, sem}
use types.Kit.{‵, ◌⊛◌, ◌$◌, ◌∵◌, !, qed, use1, split, fjoin, frame, done}
use denote.Plain.{uint_row_laws}
use denote.Builtin.{u8}
use denote.Ref.{Bor}
use denote.Slice.{slice_ty, slice_val, ShrSlice, shr_slice_copy}

-- the type of a text in a local
abbrev pub text_ty : Ty
text_ty = slice_ty (ty_ref (named 0) imm (ty_int w8))

module _ (κ : Lft) (s : Bor (List ℕ)) where
  -- the text's machine value, and what it owns
  abbrev pub text_val : Val
  text_val = slice_val s.ref_ptr (length s.now)

  abbrev pub Text : Fml
  Text = (ShrSlice (named 0) κ u8).own_val s (text_val ∷ [])

  module _ {M : Type 1} {𝓤 : Ura M} (𝓛 : Logic 𝓤) where
    -- lent beside plain data
    pub lends_text : (P : Fml) → ent 𝓤 (sep 𝓤 (sem 𝓛 Text) (sem 𝓛 P)) (sep 𝓤 (sem 𝓛 Text) (sem 𝓛 (fsep Text P)))
    lends_text P = qed 𝓛 (‵ Text ∷ ‵ P ∷ []) ∵ use1 𝓛 (‵ Text ⊛ ‵ Text) ((shr_slice_copy 𝓛 (named 0) κ u8 (uint_row_laws w8)).twice s (text_val ∷ [])) $ split ! $ frame ! $ fjoin ! $ done !
