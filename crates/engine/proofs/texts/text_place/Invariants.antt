-- The place of text i, then of the next by its length, up to text k.
use Rattle.engine.specs.Texts.{PlaceAt}
use Rattle.engine.proofs.texts.text_place.Given as goal

abbrev pub invariant-loop-i : goal.invariant-loop-i
invariant-loop-i l = PlaceAt l.area l.i l.p
