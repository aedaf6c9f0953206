use Rattle.std.specs.Prelude.{codes}
use Rattle.std.proofs.Common.{◌∙◌, ap, ◌++◌}
use Rattle.sample_maker.specs.Samples.{block_text}
use Rattle.sample_maker.specs.Versions.{operator_of}
use Rattle.sample_maker.proofs.Blocks.{no_block, block_more}
use Rattle.sample_maker.proofs.program.program.Goals as goal

pub loop-place-init : goal.loop-place-init
loop-place-init c = c.in_ok-text.ensures.items_if_clones_equal (λ x y e. e) ∙ no_block (codes "def f(x):\n    t = 0\n") (operator_of c.args.version c.args.number) c.args.number

pub loop-place-preserved : goal.loop-place-preserved
loop-place-preserved c =
    let lines = c.as_slice.ensures.value ∙ c.in_ok-lines.ensures ∙ ap (λ o. block_text o c.args.number c.loop-place.place) c.operator_at-operator.ensures in
    block_more (codes "def f(x):\n    t = 0\n") _ _ (operator_of c.args.version c.args.number) c.args.number c.loop-place.place c.loop-place.invariant
    (c.in_ok-extend_from_slice.ensures.items ∙ ap (λ t. c.loop-place.text.items ++ t) lines)
