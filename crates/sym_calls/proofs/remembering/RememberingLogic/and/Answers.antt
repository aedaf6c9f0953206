use Rattle.std.proofs.Math.Logic.{∥∥₁_map}
use Rattle.sym_calls.proofs.Laters.{right_later}
use Rattle.sym_calls.proofs.remembering.RememberingLogic.and.Goals as goal

pub invariant_of-self : goal.invariant_of-self
invariant_of-self g c =
    record { right = ∥∥₁_map c.args.self.now.right (right_later c.and.ensures.extends) }
