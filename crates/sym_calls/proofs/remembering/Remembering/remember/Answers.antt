use Rattle.std.proofs.Math.Logic.{∥∥₁_map}
use Rattle.sym_calls.proofs.Laters.{right_if_more}
use Rattle.sym_calls.proofs.remembering.Remembering.remember.Goals as goal

pub invariant_of-self : goal.invariant_of-self
invariant_of-self g c = record {
  right = ∥∥₁_map c.args.self.now.right (λ h.
      right_if_more _ (record { call = c.args.call; outcome = c.in_ok-kept.kept }) c.push.ensures.items h c.requires.args (rw c.in_ok-kept.ensures c.requires.answer));
}
