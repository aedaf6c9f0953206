use Rattle.std.proofs.Common.{◌-◌, length, drop, sym, ap, ◌∙◌, arith, length-drop}
use Rattle.std.proofs.lemmas.List.{take_all}
use Rattle.mpy_tree.specs.Operations.{is_front}
use Rattle.mpy_tree.proofs.Texts.{part_more}
use Rattle.value_operations.proofs.comparisons.contains_text.Goals as goal

pub loop-k-preserved : goal.loop-k-preserved
loop-k-preserved c =
    let text = c.args.text.now in
    let k = c.loop-k.k in
    let whole = take_all (length text - k) (drop k text) (omega (arith, length-drop k text)) in
    c.loop-k.invariant
    ∙ part_more c.args.part.now text k (omega arith) (ap (is_front c.args.part.now) (sym whole) ∙ sym c.begins_with.ensures ∙ c.if-begins_with.false)
