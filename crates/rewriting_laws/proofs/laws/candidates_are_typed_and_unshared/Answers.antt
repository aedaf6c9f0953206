use Rattle.rewriting_laws.proofs.Tasks.{candidates}
use Rattle.rewriting_laws.proofs.laws.candidates_are_typed_and_unshared.Goals as goal

pub returns : goal.returns
returns c = candidates
