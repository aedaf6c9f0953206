use Rattle.std.proofs.Common.{◌∙◌, ap, map}
use Rattle.std.specs.Prelude.{ℤ, int_lt}
use Rattle.mpy_tree.specs.declared.value.Value.TheVariants as val
use Rattle.bit_words.specs.Words.{int_of}
use Rattle.sym_values.specs.Reading.{sure}
use Rattle.sym_values.proofs.Held.{reads_kept}
use Rattle.sym_values.proofs.Numbers.{chosen_number}
use Rattle.sym_values.proofs.order.greatest.Goals as goal

pub returns-clause-value : goal.returns-clause-value
returns-clause-value g c vs l e =
    let first = g.L.Logic.reads c.args.g.now vs in
    let test = c.in_ok-lower.ensures.value vs in
    let left = reads_kept c.less.ensures.extends c.requires.left vs in
    let right = reads_kept c.less.ensures.extends c.requires.right vs in
    let chosen = rw (test, left, right) at (c.in_ok-word.ensures.value vs) in
    (c.constant-fault.ensures.value vs, ap (λ (n : ℤ). sure (val.Int n)) (ap int_of chosen ∙ chosen_number (int_lt (int_of (map first c.args.b.now)) (int_of (map first c.args.a.now))) (map first c.args.a.now) (map first c.args.b.now)))
