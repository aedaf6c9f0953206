use Rattle.rewriting_laws.proofs.FromTrees.{rewritings_alike}
use Rattle.rewriting_laws.proofs.OwnNames.{own_names}
use Rattle.rewriting_laws.proofs.Unshared.{unshared}
use Rattle.rewriting_laws.proofs.laws.rewritings_stay_unshared.Goals as goal

pub returns : goal.returns
returns c =
    λ g p n es rules names before rewritten.
    unshared g rules p (rewritings_alike g g.program p n es rewritten) (own_names g.program names)
    before
