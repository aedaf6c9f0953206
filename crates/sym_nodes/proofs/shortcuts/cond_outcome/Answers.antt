use Rattle.std.proofs.Common.{Bool, ap, ◌∙◌, sym, subst, cond}
use Rattle.std.specs.declared.result.Result.{Result}
use Rattle.mpy_tree.specs.Operations.{holds}
use Rattle.mpy_tree.specs.declared.outcome.Halted.{Halted}
use Rattle.mpy_tree.specs.declared.value.Value.{Value}
use Rattle.bit_words.specs.Logic.{extends_keeps, extends_trans}
use Rattle.sym_values.specs.Later.{outcome_later, value_later}
use Rattle.sym_values.specs.Reading.{IsOutcome, OutcomeReads, Reading, read, spelled}
use Rattle.sym_nodes.proofs.Outcomes.{cond_is}
use Rattle.sym_nodes.proofs.shortcuts.cond_outcome.Goals as goal

pub returns-clause-value : goal.returns-clause-value
returns-clause-value g c vs x y z h k m =
    let reads = g.L.Logic.reads in
    let start = reads c.args.g.now vs in
    let mid = reads c.test_bit.new.g vs in
    let third = reads c.choose_outcome.new.g vs in
    let end = reads c.or.new.g vs in
    let test = c.args.test.now in
    let one = c.test_bit.ensures.extends in
    let until = extends_trans one c.choose_outcome.ensures.extends in
    let chosen = c.in_ok-chosen in
    let test_fault = until.same test.fault c.requires.test.owned_fault vs in
    let fault = rw test_fault at (c.in_ok-fault.ensures.value vs) in
    let same = ap spelled (value_later (extends_keeps c.or.ensures.extends) chosen.chosen.value chosen.ensures.made.owned vs) in
    let first = outcome_later c.args.yes.now (extends_keeps one) c.requires.yes vs y k in
    let other = outcome_later c.args.no.now (extends_keeps one) c.requires.no vs z m in
    let arm = λ (v : Value) (e : _).
    let told = c.in_ok-holds.ensures.value vs v e in
    let r : Result Value Halted = cond (holds v) y z in
    let chose = chosen.ensures.value vs r
    (λ p. subst (λ (i : Bool). OutcomeReads mid c.args.yes.now (cond i y z)) (sym (sym told ∙ p)) first)
    (λ p. subst (λ (i : Bool). OutcomeReads mid c.args.no.now (cond i y z)) (sym (sym told ∙ p)) other) in
    subst (λ (i : Reading). IsOutcome (third chosen.chosen.fault) i r) (sym same) chose in
    cond_is (start test.fault) (third chosen.chosen.fault) _ (read start test.value) (read end chosen.chosen.value) x y z h arm fault
