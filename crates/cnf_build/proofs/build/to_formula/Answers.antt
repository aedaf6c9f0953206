use Rattle.std.proofs.Common.{◌≡◌, ◌∙◌, ◌+◌, ◌*◌, ap, arith, length, subst, sym, All, List, ◌≢◌, []}
use Rattle.std.specs.List.{list_all}
use Rattle.clause_base.specs.declared.lit.Lit.{Lit}
use Rattle.clause_base.specs.Formulas.{in_range}
use Rattle.cnf_build.specs.Gates.{literal_of}
use Rattle.cnf_build.proofs.Whole.{encoding, count_all, formula_in, none_empty, range_literals, states}
use Rattle.cnf_build.proofs.Led.{led}
use Rattle.cnf_build.proofs.build.to_formula.Goals as goal

pub returns-clause-exact : goal.returns-clause-exact
returns-clause-exact c = encoding c.args.g.now c.args.goal _ _ c.gate_count-count.ensures.gates c.requires (omega arith) c.in_ok-clauses.ensures

pub returns-clause-states : goal.returns-clause-states
returns-clause-states c = states c.args.g.now c.args.goal _ _ c.gate_count-count.ensures.gates c.requires (omega arith) c.in_ok-clauses.ensures

pub returns-clause-led : goal.returns-clause-led
returns-clause-led c = led c.args.g.now c.args.goal _ _ c.gate_count-count.ensures.gates (omega arith) c.in_ok-clauses.ensures

pub returns-clause-size : goal.returns-clause-size
returns-clause-size c = count_all c.args.g.now c.args.goal c.in_ok-clauses.clauses c.in_ok-clauses.ensures

pub returns-clause-few : goal.returns-clause-few
returns-clause-few c =
    let many : length c.in_ok-clauses.clauses ≡ 3 * length c.args.g.now.gates + 2 = count_all c.args.g.now c.args.goal c.in_ok-clauses.clauses c.in_ok-clauses.ensures in
    (omega arith, omega arith)

pub returns-clause-none_empty : goal.returns-clause-none_empty
returns-clause-none_empty c = subst (All (λ (lits : List Lit). lits ≢ [])) (sym c.in_ok-clauses.ensures) (none_empty c.args.g.now.variables c.args.g.now.gates (literal_of c.args.g.now.variables c.args.goal))

pub invariant_of-result : goal.invariant_of-result
invariant_of-result c = record { in_range = range_literals _ c.in_ok-clauses.clauses ∙ ap (list_all (list_all (in_range _))) c.in_ok-clauses.ensures ∙ formula_in c.args.g.now c.args.goal _ c.gate_count-count.ensures.gates c.requires (omega arith) }
