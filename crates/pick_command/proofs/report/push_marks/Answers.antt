-- a line more
use Rattle.std.proofs.Common.{◌++◌, ◌∙◌, ap, arith, get_or, map}
use Rattle.std.specs.String.{string_bytes}
use Rattle.pick_command.specs.Texts.{mark_text}
use Rattle.pick_command.proofs.Lines.{marks_more, number_at}
use Rattle.pick_command.proofs.Reading.{mapped_at}
use Rattle.pick_command.proofs.report.push_marks.Goals as goal

pub loop-i-preserved : goal.loop-i-preserved
loop-i-preserved c =
    let files = c.args.files.now in
    let marks = c.args.marks.now in
    let mark = get_or marks c.loop-i.i 0 in
    marks_more (map string_bytes files) marks c.loop-i.i c.as_bytes.result.now mark
    c.loop-i.out.items c.extend_from_slice-in-loop-i.new.self.items _
    (rw c.as_bytes.ensures.value (mapped_at string_bytes files c.loop-i.i c.index-files-i.result (omega arith) c.index-files-i.is))
    (number_at marks c.loop-i.i (omega (arith, c.requires)))
    c.loop-i.invariant
    (c.in_ok-extend_from_slice-2.ensures.items
    ∙ ap (λ t. c.extend_from_slice.new.self.items ++ t) (c.as_slice.ensures.value ∙ c.in_ok-mark_text.ensures)
    ∙ ap (λ t. t ++ mark_text mark) c.in_ok-extend_from_slice.ensures.items)
