use Rattle.std.proofs.Common.{◌∙◌, [], ap, length, subst, sym}
use Rattle.choice_tree.specs.Heads.{HasParts, head_kind}
use Rattle.sym_nodes.specs.Nodes.{operation}
use Rattle.sym_nodes.proofs.Knowing.{as_many, fault_known, value_known, values_owned}
use Rattle.sym_nodes.proofs.known.known_operation.Goals as goal

pub known_parts-requires : goal.known_parts-requires
known_parts-requires g c = values_owned c.args.limits.now c.args.parts.now c.requires.parts

pub given-requires : goal.given-requires
given-requires g c =
    let parts = c.args.parts.now in
    let known = rw c.in-Some.is at c.in_ok-values.ensures in
    let many = as_many (g.L.Logic.reads c.args.g.now []) parts c.in-Some.values (known []) in
    subst (HasParts (head_kind c.args.head)) (sym (ap length c.items.ensures ∙ many))
    c.requires.many

pub returns-in-Ok-clause-value : goal.returns-in-Ok-clause-value
returns-in-Ok-clause-value g c =
    let known = rw c.in-Some.is at c.in_ok-values.ensures in
    value_known g.L.Logic.reads c.args.g.now c.args.parts.now c.in-Some.values 0
    (operation c.args.limits.now (head_kind c.args.head)) c.in-Ok.value
    c.in_ok-constant-in-Ok.constant known (rw c.items.ensures at c.in-Ok.ensures)
    c.in_ok-constant-in-Ok.ensures.value

pub returns-in-Err-Halted-clause-value : goal.returns-in-Err-Halted-clause-value
returns-in-Err-Halted-clause-value g c =
    let known = rw c.in-Some.is at c.in_ok-values.ensures in
    let given = rw c.in-Err-Halted.field-0-is at c.in-Err-Halted.ensures in
    fault_known g.L.Logic.reads c.args.g.now c.args.parts.now c.in-Some.values 0
    (operation c.args.limits.now (head_kind c.args.head)) c.in-Err-Halted.field-0-0
    c.in_ok-fault-in-Err-Halted.fault known (rw c.items.ensures at given)
    c.in_ok-fault-in-Err-Halted.ensures.fault
