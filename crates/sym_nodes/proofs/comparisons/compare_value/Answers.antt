use Rattle.std.proofs.Common.{IsSome, subst}
use Rattle.mpy_tree.specs.declared.operators.CmpOp.{CmpOp}
use Rattle.mpy_tree.specs.Rules.{compare_type}
use Rattle.sym_nodes.specs.Operands.{ty_of}
use Rattle.sym_nodes.proofs.Giving.{sequence_in}
use Rattle.sym_nodes.proofs.TypeRules.{member_sequence}
use Rattle.sym_nodes.proofs.comparisons.compare_value.Goals as goal

pub membership-requires-clause-list : goal.membership-requires-clause-list
membership-requires-clause-list g c =
    let s = ty_of c.args.a.now in
    let u = ty_of c.args.b.now in
    sequence_in c.args.limits.now c.args.b.now c.requires.right (member_sequence s u (subst (λ (op : CmpOp). IsSome (compare_type op s u)) c.in-Member.is c.requires.typed))

pub absence-requires-clause-list : goal.absence-requires-clause-list
absence-requires-clause-list g c =
    let s = ty_of c.args.a.now in
    let u = ty_of c.args.b.now in
    sequence_in c.args.limits.now c.args.b.now c.requires.right (member_sequence s u (subst (λ (op : CmpOp). IsSome (compare_type op s u)) c.in-NotMember.is c.requires.typed))
