use Rattle.std.proofs.Common.{◌≡◌, ◌∙◌, Option, Some, ap, sym, subst, not}
use Rattle.std.specs.declared.result.Result.TheVariants.{Ok}
use Rattle.mpy_tree.specs.Builtins.{builtin_of}
use Rattle.mpy_tree.specs.declared.builtins.Builtin.{Builtin}
use Rattle.mpy_tree.specs.declared.value.Value.TheVariants.{Bool as Truth}
use Rattle.mpy_tree.specs.Operations.{holds}
use Rattle.mpy_tree.specs.Rules.{arith_type, index_type}
use Rattle.choice_tree.specs.declared.head.Head.{Head}
use Rattle.choice_tree.specs.Heads.{head_kind}
use Rattle.sym_values.specs.Reading.{OutcomeReads, read}
use Rattle.sym_nodes.specs.Nodes.{built_type, operation, operation_type}
use Rattle.sym_nodes.specs.Operands.{types_of}
use Rattle.sym_nodes.proofs.Arity.{one_gives, two_types}
use Rattle.sym_nodes.proofs.Typed.{one_typed, two_typed}
use Rattle.sym_nodes.proofs.operations.circuit.Goals as goal

pub negative_value-requires-clause-number : goal.negative_value-requires-clause-number
negative_value-requires-clause-number g c = one_typed c.args.limits.now c.args.parts.now c.one_value-a.result.now c.requires.parts c.one_value-a.ensures

pub negation-requires : goal.negation-requires
negation-requires g c = (one_typed c.args.limits.now c.args.parts.now c.one_value-a-in-Not.result.now c.requires.parts c.one_value-a-in-Not.ensures).owned

pub arith_value-requires-clause-left : goal.arith_value-requires-clause-left
arith_value-requires-clause-left g c =
    let two = c.two_values-two in
    (two_typed c.args.limits.now c.args.parts.now two.result.first.now two.result.second.now c.requires.parts two.ensures).0

pub arith_value-requires-clause-right : goal.arith_value-requires-clause-right
arith_value-requires-clause-right g c =
    let two = c.two_values-two in
    (two_typed c.args.limits.now c.args.parts.now two.result.first.now two.result.second.now c.requires.parts two.ensures).1

pub compare_value-requires-clause-left : goal.compare_value-requires-clause-left
compare_value-requires-clause-left g c =
    let two = c.two_values-two-in-Cmp in
    (two_typed c.args.limits.now c.args.parts.now two.result.first.now two.result.second.now c.requires.parts two.ensures).0

pub compare_value-requires-clause-right : goal.compare_value-requires-clause-right
compare_value-requires-clause-right g c =
    let two = c.two_values-two-in-Cmp in
    (two_typed c.args.limits.now c.args.parts.now two.result.first.now two.result.second.now c.requires.parts two.ensures).1

pub index_value-requires-clause-list : goal.index_value-requires-clause-list
index_value-requires-clause-list g c =
    let two = c.two_values-two-in-Index in
    (two_typed c.args.limits.now c.args.parts.now two.result.first.now two.result.second.now c.requires.parts two.ensures).0

pub index_value-requires-clause-place : goal.index_value-requires-clause-place
index_value-requires-clause-place g c =
    let two = c.two_values-two-in-Index in
    (two_typed c.args.limits.now c.args.parts.now two.result.first.now two.result.second.now c.requires.parts two.ensures).1

pub returns-in_ok-number-in-Int-clause-value : goal.returns-in_ok-number-in-Int-clause-value
returns-in_ok-number-in-Int-clause-value g c vs ws e =
    let number = c.in_ok-number-in-Int in
    subst (λ (h : Head). OutcomeReads (g.L.Logic.reads c.args.g.now vs) number.number (operation c.args.limits.now (head_kind h) ws)) (sym c.in-Int.is) (number.ensures.value vs)

pub returns-in_ok-text-in-Text-clause-value : goal.returns-in_ok-text-in-Text-clause-value
returns-in_ok-text-in-Text-clause-value g c vs ws e =
    let text = c.in_ok-text-in-Text in
    subst (λ (h : Head). OutcomeReads (g.L.Logic.reads c.args.g.now vs) text.text (operation c.args.limits.now (head_kind h) ws)) (sym c.in-Text.is) (text.ensures.value vs)

pub returns-in_ok-opposite-in-Not-clause-value : goal.returns-in_ok-opposite-in-Not-clause-value
returns-in_ok-opposite-in-Not-clause-value g c vs ws e =
    let a = c.one_value-a-in-Not in
    let opposite = c.in_ok-opposite-in-Not in
    let now = g.L.Logic.reads c.negation.new.g vs in
    subst (λ (h : Head). OutcomeReads now opposite.opposite (operation c.args.limits.now (head_kind h) ws)) (sym c.in-Not.is)
    (one_gives (g.L.Logic.reads c.args.g.now vs) c.args.parts.now (now opposite.opposite.fault) (read now opposite.opposite.value) a.result.now (λ v. Ok (Truth (not (holds v)))) a.ensures (opposite.ensures.value vs) ws e)

pub returns-in_ok-number-in-Arith-clause-made : goal.returns-in_ok-number-in-Arith-clause-made
returns-in_ok-number-in-Arith-clause-made g c t e =
    let two = c.two_values-two in
    let typed = subst (λ (h : Head). operation_type (head_kind h) (types_of c.args.parts.now) ≡ Some t) c.in-Arith.is e in
    c.in_ok-number-in-Arith.ensures.made t (sym (two_types (arith_type c.in-Arith.op) c.args.parts.now two.result.first.now two.result.second.now two.ensures) ∙ typed)

pub returns-in_ok-item-in-Index-clause-made : goal.returns-in_ok-item-in-Index-clause-made
returns-in_ok-item-in-Index-clause-made g c t e =
    let two = c.two_values-two-in-Index in
    let typed = subst (λ (h : Head). operation_type (head_kind h) (types_of c.args.parts.now) ≡ Some t) c.in-Index.is e in
    c.in_ok-item-in-Index.ensures.made t (sym (two_types index_type c.args.parts.now two.result.first.now two.result.second.now two.ensures) ∙ typed)

pub returns-in_ok-part-in-Slice-clause-made : goal.returns-in_ok-part-in-Slice-clause-made
returns-in_ok-part-in-Slice-clause-made g c t e =
    c.in_ok-part-in-Slice.ensures.made t (subst (λ (h : Head). operation_type (head_kind h) (types_of c.args.parts.now) ≡ Some t) c.in-Slice.is e)

pub returns-in_ok-given-in-Some-clause-made : goal.returns-in_ok-given-in-Some-clause-made
returns-in_ok-given-in-Some-clause-made g c t e =
    let os = types_of c.args.parts.now in
    let typed = subst (λ (h : Head). operation_type (head_kind h) os ≡ Some t) c.in-Call.is e in
    let builtin = c.in-Some.ensures ∙ ap builtin_of c.bytes.ensures in
    c.in_ok-given-in-Some.ensures.made t (subst (λ (o : Option Builtin). built_type o os ≡ Some t) (sym builtin) typed)
