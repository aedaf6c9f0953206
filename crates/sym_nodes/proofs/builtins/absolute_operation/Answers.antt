use Rattle.std.proofs.Common.{◌∙◌, ap, arith, sym, subst}
use Rattle.std.specs.declared.result.Result.{Result}
use Rattle.mpy_tree.specs.declared.outcome.Halt.{Halt}
use Rattle.mpy_tree.specs.declared.value.Value.{Value}
use Rattle.mpy_tree.specs.Operations.{absolute}
use Rattle.sym_values.specs.Forms.{IntForm}
use Rattle.sym_values.specs.Owned.{word_owned}
use Rattle.sym_values.specs.Reading.{OutcomeReads, read}
use Rattle.sym_nodes.proofs.Arity.{absolute_is, one_gives}
use Rattle.sym_nodes.proofs.Giving.{number_gives}
use Rattle.sym_nodes.proofs.Typed.{one_typed, width_is}
use Rattle.sym_nodes.proofs.builtins.absolute_operation.Goals as goal

pub absolute_value-requires-clause-some : goal.absolute_value-requires-clause-some
absolute_value-requires-clause-some g c =
    let l = c.args.limits.now in
    let only = c.one_value-only in
    let typed = one_typed l c.args.parts.now only.result.now c.requires.parts only.ensures in
    let width = width_is l c.word_of-a.result.now only.result.now c.word_of-a.ensures typed.form in
    let range = l.width_range in
    omega arith

pub absolute_value-requires-clause-word : goal.absolute_value-requires-clause-word
absolute_value-requires-clause-word g c =
    let only = c.one_value-only in
    word_owned (one_typed c.args.limits.now c.args.parts.now only.result.now c.requires.parts only.ensures).owned c.word_of-a.ensures

pub returns-clause-made : goal.returns-clause-made
returns-clause-made g c =
    let l = c.args.limits.now in
    let only = c.one_value-only in
    let typed = one_typed l c.args.parts.now only.result.now c.requires.parts only.ensures in
    let made = c.in_ok-outcome.ensures.made in
    record { owned = made.owned; owned_fault = made.owned_fault; form = made.form ∙ ap IntForm (width_is l c.word_of-a.result.now only.result.now c.word_of-a.ensures typed.form) }

pub returns-clause-value : goal.returns-clause-value
returns-clause-value g c vs ws e =
    let l = c.args.limits.now in
    let reads = g.L.Logic.reads in
    let only = c.one_value-only in
    let typed = one_typed l c.args.parts.now only.result.now c.requires.parts only.ensures in
    let outcome = c.in_ok-outcome in
    let now = reads c.absolute_value.new.g vs in
    subst (λ (r : Result Value Halt). OutcomeReads now outcome.outcome r) (absolute_is l ws)
    (one_gives (reads c.args.g.now vs) c.args.parts.now (now outcome.outcome.fault) (read now outcome.outcome.value) only.result.now (absolute l) only.ensures
    (number_gives reads c.args.g.now c.absolute_value.new.g only.result.now c.word_of-a.result.now outcome.outcome absolute l c.word_of-a.ensures
    (sym (width_is l c.word_of-a.result.now only.result.now c.word_of-a.ensures typed.form)) outcome.ensures.value vs) ws e)
