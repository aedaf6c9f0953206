use Rattle.std.proofs.Common.{arith}
use Rattle.mpy_tree.specs.Typings.{set_of}
use Rattle.typed_programs.proofs.Linked.{all_fine, body_typed}
use Rattle.typed_programs.proofs.laws.typed_bodies.Goals as goal

pub returns : goal.returns
returns c = λ T p entry i r h e. body_typed (set_of T) p 0 p (all_fine T p entry h) i i r (omega arith) e
