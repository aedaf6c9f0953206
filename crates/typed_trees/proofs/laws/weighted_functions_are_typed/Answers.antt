use Rattle.typed_trees.specs.TypingLaws.{setting_by}
use Rattle.typed_trees.proofs.TypedFunctions.{func_typed, program_typed}
use Rattle.typed_trees.proofs.laws.weighted_functions_are_typed.Goals as goal

pub returns : goal.returns
returns c =
    λ rules T p entry w i f wholes typed same is.
    let all = program_typed rules T p entry wholes typed in
    func_typed (setting_by rules p T) w p i f all same is
