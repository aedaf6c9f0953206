use Rattle.typed_programs.proofs.TypingFacts.{are_types}
use Rattle.typed_programs.proofs.laws.typings_are_types.Goals as goal

pub returns : goal.returns
returns c = are_types
