-- In which order the selections of a level stand.
use Rattle.std.specs.Prelude.{List, reverse}
use Rattle.std.specs.Cmp.Lexicographic.{slice_cmp}
use Rattle.std.specs.Ordering.{nat_cmp, on, then_cmp}
use Rattle.std.specs.declared.cmp.Ordering.{Ordering}
use Rattle.choice_tree.specs.declared.selection.Choice.{Choice}

-- by the picks, and at one pick by the members
abbrev pub choice_cmp : Choice → Choice → Ordering
choice_cmp a b =
    then_cmp (on (λ (c : Choice). c.pick) nat_cmp) (on (λ (c : Choice). c.member) nat_cmp) a b

-- The last choice that differs decides, and where there is none the number of choices. So the
-- selections that choose members at earlier picks alone come first.
abbrev pub selection_cmp : List Choice → List Choice → Ordering
selection_cmp a b = slice_cmp choice_cmp (reverse a) (reverse b)
