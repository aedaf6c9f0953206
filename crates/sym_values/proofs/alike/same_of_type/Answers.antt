use Rattle.std.proofs.Common.{◌∙◌, ap, sym}
use Rattle.sym_values.specs.Reading.{spelled}
use Rattle.sym_values.proofs.Ends.{equal_where, number_decides}
use Rattle.sym_values.proofs.Held.{reads_kept}
use Rattle.sym_values.proofs.alike.same_of_type.Goals as goal

pub returns-clause-value : goal.returns-clause-value
returns-clause-value g c vs v w k p q =
    let one = c.equal_number.ensures.extends in
    let two = c.equal_bit.ensures.extends in
    let typed = two.same _ c.in_ok-typed.ensures.owned vs ∙ (number_decides _ _ _ (rw c.as_slice.ensures at (c.in_ok-typed.ensures.value vs))).1 (k ∙ sym c.kind_of.ensures) in
    let reads = g.L.Logic.reads c.equal_number.new.g vs in
    let left = rw (c.as_slice-2.ensures, reads_kept one c.requires.left.owned_bits vs) at (c.in_ok-first.ensures.value reads) in
    let right = rw (c.as_slice-3.ensures, reads_kept one c.requires.right.owned_bits vs) at (c.in_ok-second.ensures.value reads) in
    equal_where _ _ _ v w typed (c.in_ok-equal.ensures.value vs v w (ap spelled left ∙ p) (ap spelled right ∙ q)) (c.in_ok-both.ensures.value vs)
