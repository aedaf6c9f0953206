-- What a slot of the code is as mathematics.
use Rattle.mpy_tree.specs.Faults.{Place, place}
use Rattle.mpy_types.specs.declared.slots.Place.{Place as Stands}
use Rattle.mpy_scopes.specs.Seen.{slot_of}

abbrev pub place_of : Stands → Place
place_of s = place s.func (slot_of s.slot) s.line
