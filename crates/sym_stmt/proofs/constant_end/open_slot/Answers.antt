use Rattle.std.proofs.Common.{◌∙◌, ap, max}
use Rattle.mpy_tree.specs.declared.typing.Ty.TheVariants as ty
use Rattle.sym_values.specs.Forms.{IntForm}
use Rattle.sym_values.specs.Printed.{room}
use Rattle.sym_stmt.proofs.ConstantEnds.{slot_of_word}
use Rattle.sym_stmt.proofs.constant_end.open_slot.Goals as goal

pub slot_from-requires : goal.slot_from-requires
slot_from-requires g c =
    let l = c.args.limits.now in
    let long = c.in_ok-word.ensures.made.width ∙ c.print_width.ensures in
    (max (room l ty.List) (room l ty.Text), ap IntForm long)

pub returns : goal.returns
returns g c =
    let made = c.in_ok-word.ensures.made in
    slot_of_word c.in_ok-word.word c.in_ok-slot.slot made.owned (made.width ∙ c.print_width.ensures)
    c.in_ok-slot.ensures.word c.in_ok-slot.ensures.kind
