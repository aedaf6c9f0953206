-- What the code's readings are as mathematics.
use Rattle.std.specs.Prelude.{option_map}
use Rattle.mpy_expressions.specs.declared.terms.Suffix.{Suffix}
use Rattle.mpy_expressions.specs.declared.terms.Suffix.TheVariants as suffix
use Rattle.mpy_expressions.specs.declared.terms.Link.{Link}
use Rattle.mpy_expressions.specs.declared.terms.Link.TheVariants as link
use Rattle.mpy_expressions.specs.Forms.{Forms}
use Rattle.mpy_expressions.specs.Reading.{Suffix as AnySuffix, by_index, by_ends, joined}

-- a suffix, by what its parts are
abbrev pub suffix_of : {E T : Type 0} → (E → T) → Suffix E → AnySuffix T
suffix_of plain (suffix.Index i) = by_index (plain i)
suffix_of plain (suffix.Slice from to) = by_ends (option_map plain from) (option_map plain to)

-- what joins two parts, by what it builds of them
abbrev pub link_of : {X T O : Type 0} (forms : Forms X T) → (O → T → T → T) → Link O → T → T → T
link_of forms operation (link.Joint j) = joined forms j
link_of forms operation (link.Special o) = operation o
