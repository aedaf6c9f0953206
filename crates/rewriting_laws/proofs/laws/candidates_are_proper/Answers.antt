use Rattle.input_space.specs.Tasks.{setting}
use Rattle.rewriting_laws.proofs.Proper.{rewritings_proper}
use Rattle.rewriting_laws.proofs.laws.candidates_are_proper.Goals as goal

pub returns : goal.returns
returns c = λ k p cost edits sound.
    rewritings_proper (setting k) p cost edits sound.proper_rules sound.submission.proper
