use Rattle.mpy_tree.specs.Typings.{set_of}
use Rattle.typed_programs.proofs.Linked.{all_fine}
use Rattle.typed_programs.proofs.Programs.{calls_keep}
use Rattle.typed_programs.proofs.laws.typed_calls.Goals as goal

pub returns : goal.returns
returns c = λ l T p entry depth h. calls_keep l (set_of T) p (all_fine T p entry h) depth
