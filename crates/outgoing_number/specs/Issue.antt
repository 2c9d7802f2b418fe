-- The outgoing number ("Positions and turn"): a reference issued, and the record stepped forward.
use Rattle.std.specs.Prelude.{◌≡◌, ◌+◌}
use Rattle.outgoing_number.specs.declared.Outgoing.{Outgoing}
use Rattle.outgoing_number.specs.declared.Reference.{Reference}

-- the next reference, and the record behind it: the day stays, the count goes up by one
abbrev pub issued : Outgoing → Reference
issued o = record { day = o.day; number = o.count + 1 }

abbrev pub stepped : Outgoing → Outgoing
stepped o = record { day = o.day; count = o.count + 1 }

-- from the record as it was, the reference issued and the record as it is kept
pub record Steps (was : Outgoing) (r : Reference) (is : Outgoing) : Type 0 where
  pub reference : r ≡ issued was
  pub kept : is ≡ stepped was
