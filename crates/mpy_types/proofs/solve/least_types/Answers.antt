use Rattle.std.proofs.Common.{length, ap, ◌∙◌}
use Rattle.std.proofs.lemmas.List.{length-map}
use Rattle.mpy_types.proofs.Raising.{none_below, least_reached}
use Rattle.mpy_tree.specs.TypeSets.{no_types}
use Rattle.mpy_types.proofs.solve.least_types.Goals as goal

pub passes-init : goal.passes-init
passes-init c = (
  ap length c.in_ok-sets.ensures ∙ length-map c.args.places.now (λ x. no_types),
  λ u h k. none_below c.args.places.now c.in_ok-sets.sets.items u c.in_ok-sets.ensures h,
)

pub returns-then-not-pass : goal.returns-then-not-pass
returns-then-not-pass c = least_reached c.passes.sets.items c.pass.new.sets.items (length c.args.places.now) c.args.inflows.now c.pass.result c.if-not-pass.true c.pass.ensures c.passes.invariant.0 c.passes.invariant.1
