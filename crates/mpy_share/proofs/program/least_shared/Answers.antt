use Rattle.std.proofs.Common.{◌∙◌}
use Rattle.mpy_tree.specs.Typings.{set_of}
use Rattle.mpy_tree.specs.Rules.{single}
use Rattle.mpy_share.proofs.Leasts.{shared_more}
use Rattle.mpy_share.proofs.program.least_shared.Goals as goal

pub loop-i-preserved : goal.loop-i-preserved
loop-i-preserved c =
    c.loop-i.invariant
    ∙ shared_more (single (set_of c.args.facts.now)) c.args.funcs.now c.loop-i.i c.index-funcs-i.result c.loop-i.first c.shared_in.result c.sooner-first.result c.loop-i-test.true c.index-funcs-i.is c.shared_in.ensures c.sooner-first.ensures
