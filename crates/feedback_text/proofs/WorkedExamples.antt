-- Messages, computed.
use Rattle.std.proofs.Common.{◌≡◌, ℕ, List, refl, codes}
use Rattle.feedback_text.specs.declared.holes.Hole.{Hole}
use Rattle.feedback_text.specs.declared.holes.Hole.TheVariants as hole
use Rattle.feedback_text.specs.Messages.{filled}

-- on line 12, at cost 3, `{new}` is replaced by `x + 1`
abbrev value : Hole → List ℕ
value hole.Line = codes "12"
value hole.Old = codes "{new}"
value hole.New = codes "x + 1"
value hole.Cost = codes "3"

abbrev message_of : List ℕ → List ℕ
message_of said = filled value said

each_hole : message_of (codes "{cost} {line} {old} {new}") ≡ codes "3 12 {new} x + 1"
each_hole = refl

one_behind_the_other : message_of (codes "{old}{new}") ≡ codes "{new}x + 1"
one_behind_the_other = refl

not_read_again : message_of (codes "{{old}}") ≡ codes "{{new}}"
not_read_again = refl

none_across_what_was_put_in : message_of (codes "{ol{cost}d}") ≡ codes "{ol3d}"
none_across_what_was_put_in = refl

other_braces : message_of (codes "{} {{line}} }{ {line") ≡ codes "{} {12} }{ {line"
other_braces = refl

nothing_of_a_hole_stays : message_of (codes "{line}line}") ≡ codes "12line}"
nothing_of_a_hole_stays = refl
