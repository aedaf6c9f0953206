-- the report of each answer of the solver
use Rattle.std.proofs.Common.{arith, refl}
use Rattle.formula_commands.proofs.Reporting.{holds_report, refuted_report, spent_report}
use Rattle.formula_commands.proofs.solving.solved.Goals as goal

pub values_text-requires : goal.values_text-requires
values_text-requires c = let many = c.in-Holds.ensures.answer.holds.many in omega arith

pub returns-in-Holds : goal.returns-in-Holds
returns-in-Holds c =
    holds_report c.kept_is_true.ensures c.args.formula.now c.args.budget c.in-Holds.values _ c.in-Holds.ensures.answer.holds c.in_ok-values_text-in-Holds.ensures refl refl

pub returns-in-Refuted : goal.returns-in-Refuted
returns-in-Refuted c =
    let answer = c.in-Refuted.ensures.answer in
    refuted_report c.kept_is_true.ensures c.args.formula.now c.args.budget c.what_follows_holds.ensures.refuted c.in-Refuted.log.steps c.in_ok-text-in-Refuted.text.items c.with_proof.result
    answer.log answer.refuted c.in_ok-text-in-Refuted.ensures c.with_proof.ensures.text c.with_proof.ensures.status c.with_proof.ensures.kept

pub returns-in-Spent : goal.returns-in-Spent
returns-in-Spent c =
    let answer = c.in-Spent.ensures.answer in
    spent_report c.kept_is_true.ensures c.args.formula.now c.args.budget c.in-Spent.log.steps c.in_ok-text-in-Spent.text.items c.with_proof-in-Spent.result
    answer.log answer.spent c.in-Spent.ensures.fresh c.in_ok-text-in-Spent.ensures c.with_proof-in-Spent.ensures.text c.with_proof-in-Spent.ensures.status c.with_proof-in-Spent.ensures.kept
