use Rattle.std.proofs.Common.{arith}
use Rattle.mpy_tree.specs.Running.{bound, calls_below}
use Rattle.mpy_tree.specs.Rules.{single}
use Rattle.mpy_tree.specs.Typings.{set_of}
use Rattle.typed_programs.proofs.Linked.{all_fine, body_typed}
use Rattle.typed_programs.proofs.Programs.{bound_agrees, calls_keep}
use Rattle.typed_programs.proofs.Statements.{body_well}
use Rattle.typed_programs.proofs.laws.typed_functions.Goals as goal

pub returns : goal.returns
returns c = λ l T p entry i r vs kept depth h e a.
    let fine = all_fine T p entry h in
    body_well l (set_of T) p i (calls_below l p depth) (calls_keep l (set_of T) p fine depth) r.body (body_typed (set_of T) p 0 p fine i i r (omega arith) e)
    (record { locals = bound r.params vs; printed = kept }) (bound_agrees l (single (set_of T)) i r.params vs a)
