use Rattle.std.proofs.Common.{◌<◌, length, arith, sym, ◌∙◌}
use Rattle.input_space.proofs.Members.{not_within}
use Rattle.input_space.proofs.within.are_within.Goals as goal

pub returns-then-not-is_within : goal.returns-then-not-is_within
returns-then-not-is_within c =
    let h : c.loop-i.i < length c.args.values.now = omega (arith, c.if-params-values.false) in
    not_within _ c.args.values.now c.loop-i.i _ _ _ c.loop-i-test.true h c.index-params-i.is c.index-values-i.is (sym c.is_within.ensures ∙ c.if-not-is_within.true) c.loop-i.invariant
