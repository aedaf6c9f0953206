use Rattle.std.proofs.Common.{◌∙◌, ap, max}
use Rattle.mpy_tree.specs.declared.typing.Ty.TheVariants as ty
use Rattle.sym_values.specs.Forms.{IntForm}
use Rattle.sym_values.specs.Printed.{room}
use Rattle.sym_values.specs.Reading.{sure}
use Rattle.sym_stmt.proofs.ConstantEnds.{slot_of_word, slot_reads}
use Rattle.sym_stmt.proofs.constant_end.constant_slot.Goals as goal

pub slot_from-requires : goal.slot_from-requires
slot_from-requires g c =
    let l = c.args.limits.now in
    (max (room l ty.List) (room l ty.Text), ap IntForm c.in_ok-word-in-Some.ensures.made.width)

pub returns-in_ok-slot-in-Some-clause-made : goal.returns-in_ok-slot-in-Some-clause-made
returns-in_ok-slot-in-Some-clause-made g c =
    let made = c.in_ok-word-in-Some.ensures.made in
    let slot = c.in_ok-slot-in-Some.ensures in
    slot_of_word c.in_ok-word-in-Some.word c.in_ok-slot-in-Some.slot made.owned made.width
    slot.word slot.kind

pub returns-in_ok-slot-in-Some-clause-value : goal.returns-in_ok-slot-in-Some-clause-value
returns-in_ok-slot-in-Some-clause-value g c vs =
    let slot = c.in_ok-slot-in-Some.ensures in
    let outcome = rw c.in-Some.is at c.in_ok-constant_outcome.ensures.value in
    slot_reads c.args.limits.now (g.L.Logic.reads c.args.g.now vs) c.in_ok-word-in-Some.word
    c.in_ok-slot-in-Some.slot (sure c.args.value.now) slot.word slot.kind
    (c.in_ok-word-in-Some.ensures.value vs ∙ (outcome vs).1)
