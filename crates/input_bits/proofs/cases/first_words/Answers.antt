use Rattle.std.proofs.Common.{◌∙◌, ◌++◌, ◌∷◌, [], ap, arith, sym, take}
use Rattle.sym_values.proofs.Held.{take_read}
use Rattle.input_bits.proofs.Items.{take_least}
use Rattle.input_bits.proofs.cases.first_words.Goals as goal

pub loop-j-preserved : goal.loop-j-preserved
loop-j-preserved g c =
    c.in_ok-push.ensures.ok ∙ ap (λ v. c.loop-j.words ++ v ∷ []) c.in_ok-word.ensures
    ∙ ap (λ w. w ++ c.at.result.now ∷ []) c.loop-j.invariant
    ∙ sym (take_read c.args.items.now c.loop-j.j c.at.result.now c.at.ensures)

pub returns : goal.returns
returns g c = c.loop-j.invariant ∙ ap (λ k. take k c.args.items.now) (omega arith) ∙ take_least c.args.count c.args.items.now
