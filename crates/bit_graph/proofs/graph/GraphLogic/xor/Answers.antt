use Rattle.std.proofs.Common.{inr}
use Rattle.bit_graph.specs.Gates.{opposite_bit}
use Rattle.bit_graph.specs.Rules.{AreOfThree, GainsXor}
use Rattle.bit_graph.proofs.ConjunctionLaws.{on_ok}
use Rattle.bit_graph.proofs.graph.GraphLogic.xor.Goals as goal

pub returns-in_default-clause-gains : goal.returns-in_default-clause-gains
returns-in_default-clause-gains c =
    let g = c.args.self.now in
    let new = c.make_xor.new.self in
    on_ok c.make_xor.result (AreOfThree g c.args.a c.args.b (opposite_bit c.args.a) (opposite_bit c.args.b) new) (GainsXor g c.args.a c.args.b new)
    (λ h. inr (c.in_default.ensures.missing, h)) c.make_xor.ensures.gains
