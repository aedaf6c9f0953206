use Rattle.std.proofs.Common.{◌-◌, length, drop, option_map, sym, ◌∙◌, ap, subst}
use Rattle.mpy_tree.specs.View.{term_of}
use Rattle.mpy_tree.specs.declared.levels.Level.TheVariants as level
use Rattle.mpy_expressions.specs.Terminals.{terminals}
use Rattle.mpy_expressions.specs.Reading.{reading}
use Rattle.mpy_expressions.specs.Programs.{programs}
use Rattle.mpy_expressions.specs.Longest.{EndsAt, IsLongest}
use Rattle.mpy_expressions.proofs.Between.{found_between, longest_between, none_between, all_behind}
use Rattle.mpy_expressions.proofs.longest.read_expr.Goals as goal

pub returns-in-None-clause-none : goal.returns-in-None-clause-none
returns-in-None-clause-none c =
    let seen = c.deref.ensures.value ∙ c.in_ok-seen.ensures ∙ ap terminals (all_behind c.items.result.now c.args.from) ∙ ap (λ l. terminals (drop c.args.from l)) c.items.ensures in
    λ e. none_between c.args.toks.now c.args.from
    (ap (reading programs level.Conditional) (sym seen) ∙ sym c.in_ok-expression.ensures.same ∙ ap (option_map (λ x. (term_of x.0, x.1.now))) c.in-None.is)

pub returns-clause-found : goal.returns-clause-found
returns-clause-found c =
    let seen = c.deref.ensures.value ∙ c.in_ok-seen.ensures ∙ ap terminals (all_behind c.items.result.now c.args.from) ∙ ap (λ l. terminals (drop c.args.from l)) c.items.ensures in
    subst (λ n. EndsAt c.args.toks.now c.args.from (n - length c.in-Some.rest.now) (term_of c.in-Some.e)) (sym c.len.ensures)
    (found_between c.args.toks.now c.args.from (term_of c.in-Some.e, c.in-Some.rest.now) c.requires
    (ap (reading programs level.Conditional) (sym seen) ∙ sym c.in_ok-expression.ensures.same ∙ ap (option_map (λ x. (term_of x.0, x.1.now))) c.in-Some.is))

pub returns-clause-longest : goal.returns-clause-longest
returns-clause-longest c =
    let seen = c.deref.ensures.value ∙ c.in_ok-seen.ensures ∙ ap terminals (all_behind c.items.result.now c.args.from) ∙ ap (λ l. terminals (drop c.args.from l)) c.items.ensures in
    subst (λ n. IsLongest c.args.toks.now c.args.from (n - length c.in-Some.rest.now)) (sym c.len.ensures)
    (longest_between c.args.toks.now c.args.from (term_of c.in-Some.e, c.in-Some.rest.now) c.requires
    (ap (reading programs level.Conditional) (sym seen) ∙ sym c.in_ok-expression.ensures.same ∙ ap (option_map (λ x. (term_of x.0, x.1.now))) c.in-Some.is))
