use Rattle.std.proofs.Common.{ap, sym, ◌∙◌, arith, subst}
use Rattle.mpy_tree.specs.declared.operators.ArithOp.{ArithOp}
use Rattle.mpy_tree.specs.declared.operators.ArithOp.TheVariants.{Mul}
use Rattle.mpy_tree.specs.Operations.{arith as arith_of}
use Rattle.mpy_tree.specs.Rules.{arith_type}
use Rattle.sym_values.specs.Forms.{form_for}
use Rattle.sym_values.specs.Operations.{ValuesGive}
use Rattle.sym_values.specs.Owned.{word_owned}
use Rattle.sym_nodes.specs.Operands.{ty_of}
use Rattle.sym_nodes.proofs.Giving.{sequence_gives, sequence_in, sequence_room}
use Rattle.sym_nodes.proofs.Typed.{not_number, width_is}
use Rattle.sym_nodes.proofs.TypeRules.{IsSequenceType, joined_type, repeated_type, some_type}
use Rattle.sym_nodes.proofs.arithmetic.arith_value.Goals as goal

pub repetition-requires : goal.repetition-requires
repetition-requires g c =
    let l = c.args.limits.now in
    let a = c.args.a.now in
    let needs = c.requires in
    let typed = some_type (arith_type c.args.op (ty_of a) (ty_of c.args.b.now)) needs.typed in
    let number = ap (arith_type c.args.op (ty_of a)) (sym (ap ty_of c.in-Int.is)) ∙ typed.1 in
    let repeated = repeated_type c.args.op (ty_of a) typed.0 (not_number a c.in_default-a.not-Int) number in
    let width = width_is l c.in-Int.w c.args.b.now c.in-Int.is needs.right.form in
    let range = l.width_range in
    record {
      list = sequence_in l a needs.left repeated.2;
      wide = omega arith;
      short = omega arith;
      number = word_owned needs.right.owned c.in-Int.is;
    }

pub concatenation-requires : goal.concatenation-requires
concatenation-requires g c =
    let l = c.args.limits.now in
    let a = c.args.a.now in
    let b = c.args.b.now in
    let needs = c.requires in
    let typed = some_type (arith_type c.args.op (ty_of a) (ty_of b)) needs.typed in
    let joined = joined_type c.args.op (ty_of a) (ty_of b) typed.0 (not_number b c.in_default.not-Int) typed.1 in
    record {
      left = sequence_in l a needs.left joined.3;
      right = sequence_in l b needs.right (subst IsSequenceType (sym joined.1) joined.3);
      alike = needs.right.form ∙ ap (form_for l) joined.1 ∙ sym needs.left.form;
    }

pub returns-in_ok-list-in_default-a-clause-made : goal.returns-in_ok-list-in_default-a-clause-made
returns-in_ok-list-in_default-a-clause-made g c t e =
    let a = c.args.a.now in
    let number = ap (arith_type c.args.op (ty_of a)) (sym (ap ty_of c.in-Int.is)) ∙ e in
    let repeated = repeated_type c.args.op (ty_of a) t (not_number a c.in_default-a.not-Int) number in
    let made = c.in_ok-list-in_default-a.ensures.made in
    record { owned = made.owned; owned_fault = made.owned_fault; form = made.form ∙ c.requires.left.form ∙ ap (form_for c.args.limits.now) (sym repeated.1) }

pub returns-in_ok-list-in_default-a-clause-value : goal.returns-in_ok-list-in_default-a-clause-value
returns-in_ok-list-in_default-a-clause-value g c =
    let l = c.args.limits.now in
    let a = c.args.a.now in
    let list = c.in_ok-list-in_default-a in
    let typed = some_type (arith_type c.args.op (ty_of a) (ty_of c.args.b.now)) c.requires.typed in
    let number = ap (arith_type c.args.op (ty_of a)) (sym (ap ty_of c.in-Int.is)) ∙ typed.1 in
    let repeated = repeated_type c.args.op (ty_of a) typed.0 (not_number a c.in_default-a.not-Int) number in
    subst (λ (op : ArithOp). ValuesGive g.L.Logic.reads c.args.g.now c.repetition.new.g a c.args.b.now list.list (arith_of l op)) (sym repeated.0)
    (sequence_gives g.L.Logic.reads c.args.g.now c.repetition.new.g a c.args.b.now c.in-Int.w list.list (λ l. arith_of l Mul) l c.in-Int.is (sequence_room l a c.requires.left.form repeated.2) list.ensures.value)

pub returns-in_ok-list-in_default-clause-made : goal.returns-in_ok-list-in_default-clause-made
returns-in_ok-list-in_default-clause-made g c t e =
    let a = c.args.a.now in
    let b = c.args.b.now in
    let joined = joined_type c.args.op (ty_of a) (ty_of b) t (not_number b c.in_default.not-Int) e in
    let made = c.in_ok-list-in_default.ensures.made in
    record { owned = made.owned; owned_fault = made.owned_fault; form = made.form ∙ c.requires.left.form ∙ ap (form_for c.args.limits.now) (sym joined.2) }

pub returns-in_ok-list-in_default-clause-value : goal.returns-in_ok-list-in_default-clause-value
returns-in_ok-list-in_default-clause-value g c =
    let l = c.args.limits.now in
    let a = c.args.a.now in
    let b = c.args.b.now in
    let list = c.in_ok-list-in_default in
    let typed = some_type (arith_type c.args.op (ty_of a) (ty_of b)) c.requires.typed in
    let joined = joined_type c.args.op (ty_of a) (ty_of b) typed.0 (not_number b c.in_default.not-Int) typed.1 in
    subst (λ (op : ArithOp). ValuesGive g.L.Logic.reads c.args.g.now c.concatenation.new.g a b list.list (arith_of l op)) (sym joined.0)
    (λ vs v w p q. list.ensures.value vs l v w (sequence_room l a c.requires.left.form joined.3) p q)
