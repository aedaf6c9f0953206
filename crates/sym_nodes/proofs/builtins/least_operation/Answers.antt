use Rattle.std.proofs.Common.{◌∙◌, ap, arith, sym, subst}
use Rattle.std.specs.declared.result.Result.{Result}
use Rattle.mpy_tree.specs.declared.outcome.Halt.{Halt}
use Rattle.mpy_tree.specs.declared.value.Value.{Value}
use Rattle.mpy_tree.specs.Operations.{least}
use Rattle.sym_values.specs.Forms.{IntForm}
use Rattle.sym_values.specs.Owned.{word_owned}
use Rattle.sym_values.specs.Reading.{OutcomeReads, read}
use Rattle.sym_nodes.proofs.Arity.{least_is, two_give}
use Rattle.sym_nodes.proofs.Giving.{numbers_give}
use Rattle.sym_nodes.proofs.Typed.{two_typed, width_is}
use Rattle.sym_nodes.proofs.builtins.least_operation.Goals as goal

pub least-requires-clause-some : goal.least-requires-clause-some
least-requires-clause-some g c =
    let l = c.args.limits.now in
    let two = c.two_values-two in
    let typed = two_typed l c.args.parts.now two.result.first.now two.result.second.now c.requires.parts two.ensures in
    let width = width_is l c.word_of-a.result.now two.result.first.now c.word_of-a.ensures typed.0.form in
    let range = l.width_range in
    omega arith

pub least-requires-clause-alike : goal.least-requires-clause-alike
least-requires-clause-alike g c =
    let l = c.args.limits.now in
    let two = c.two_values-two in
    let typed = two_typed l c.args.parts.now two.result.first.now two.result.second.now c.requires.parts two.ensures in
    width_is l c.word_of-b.result.now two.result.second.now c.word_of-b.ensures typed.1.form ∙ sym (width_is l c.word_of-a.result.now two.result.first.now c.word_of-a.ensures typed.0.form)

pub least-requires-clause-left : goal.least-requires-clause-left
least-requires-clause-left g c =
    let two = c.two_values-two in
    word_owned (two_typed c.args.limits.now c.args.parts.now two.result.first.now two.result.second.now c.requires.parts two.ensures).0.owned c.word_of-a.ensures

pub least-requires-clause-right : goal.least-requires-clause-right
least-requires-clause-right g c =
    let two = c.two_values-two in
    word_owned (two_typed c.args.limits.now c.args.parts.now two.result.first.now two.result.second.now c.requires.parts two.ensures).1.owned c.word_of-b.ensures

pub returns-clause-made : goal.returns-clause-made
returns-clause-made g c =
    let l = c.args.limits.now in
    let two = c.two_values-two in
    let typed = two_typed l c.args.parts.now two.result.first.now two.result.second.now c.requires.parts two.ensures in
    let made = c.in_ok-outcome.ensures.made in
    record { owned = made.owned; owned_fault = made.owned_fault; form = made.form ∙ ap IntForm (width_is l c.word_of-a.result.now two.result.first.now c.word_of-a.ensures typed.0.form) }

pub returns-clause-value : goal.returns-clause-value
returns-clause-value g c vs ws e =
    let l = c.args.limits.now in
    let reads = g.L.Logic.reads in
    let two = c.two_values-two in
    let typed = two_typed l c.args.parts.now two.result.first.now two.result.second.now c.requires.parts two.ensures in
    let outcome = c.in_ok-outcome in
    let now = reads c.least.new.g vs in
    subst (λ (r : Result Value Halt). OutcomeReads now outcome.outcome r) (least_is l ws)
    (two_give (reads c.args.g.now vs) c.args.parts.now (now outcome.outcome.fault) (read now outcome.outcome.value) two.result.first.now two.result.second.now least two.ensures
    (numbers_give reads c.args.g.now c.least.new.g two.result.first.now two.result.second.now c.word_of-a.result.now c.word_of-b.result.now outcome.outcome (λ l. least) l c.word_of-a.ensures c.word_of-b.ensures
    (sym (width_is l c.word_of-a.result.now two.result.first.now c.word_of-a.ensures typed.0.form)) outcome.ensures.value vs) ws e)
