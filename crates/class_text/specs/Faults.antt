-- Why a text is no list.
use Rattle.std.specs.Prelude.{ℕ, List}
use Rattle.class_text.specs.declared.listing.ListFault.{ListFault}
use Rattle.class_text.specs.declared.listing.ListFault.TheVariants as fault
use Rattle.class_text.specs.Listings.{StopsAt}

-- the first line that is none of a list; or memory lacked
abbrev pub IsFaultOf : List ℕ → ListFault → Type 0
IsFaultOf text (fault.Line line) = StopsAt text line
IsFaultOf text fault.NoMemory = Unit {0}
