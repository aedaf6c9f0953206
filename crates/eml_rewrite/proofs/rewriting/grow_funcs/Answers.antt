use Rattle.std.proofs.Common.{◌+◌, ◌∷◌, [], map, ap, ◌∙◌, arith}
use Rattle.std.proofs.lemmas.List.{map-append}
use Rattle.mpy_tree.specs.View.{routine_of}
use Rattle.choice_tree.specs.declared.tree.WFuncs.{WFuncs}
use Rattle.choice_tree.specs.StatementViews.{weighted_func}
use Rattle.choice_tree.specs.WeightedViews.{weighteds}
use Rattle.eml_match.proofs.Places.{is_place}
use Rattle.eml_rewrite.specs.Programs.{funcs_grown, setting_of}
use Rattle.eml_rewrite.proofs.Appending.{none_built, front_next, front_end, front_stops}
use Rattle.eml_rewrite.proofs.Programs.{func_tree, funcs_each}
use Rattle.eml_rewrite.proofs.rewriting.grow_funcs.Goals as goal

pub funcs-init : goal.funcs-init
funcs-init g c =
    let fs = c.args.scopes.now.funcs.now in
    let σ = setting_of (g.K.Known.gives c.args.known.now) c.args.rules.now fs in
    rw c.new-items.ensures.items (none_built _ _ c.args.counter.now (funcs_each σ fs))

pub returns-in-None : goal.returns-in-None
returns-in-None g c =
    let fs = c.args.scopes.now.funcs.now in
    let σ = setting_of (g.K.Known.gives c.args.known.now) c.args.rules.now fs in
    front_end (funcs_grown σ (map routine_of fs)) (func_tree σ) fs c.funcs.i
    (map weighted_func c.funcs.items.items) c.args.counter.now c.funcs.counter
    c.in-None.ensures.part c.funcs.invariant

pub returns-in_err-grow_func-in-Some : goal.returns-in_err-grow_func-in-Some
returns-in_err-grow_func-in-Some g c =
    let fs = c.args.scopes.now.funcs.now in
    let σ = setting_of (g.K.Known.gives c.args.known.now) c.args.rules.now fs in
    front_stops weighted_func (λ (r : WFuncs). weighteds (map weighted_func r.items.items))
    c.from_residual.result c.in_err-grow_func-in-Some.field-0.0 (funcs_grown σ (map routine_of fs))
    (func_tree σ) fs c.funcs.i c.in-Some.func.now (map weighted_func c.funcs.items.items)
    c.args.counter.now c.funcs.counter c.grow_func.new.counter c.from_residual.ensures
    c.in-Some.ensures.part c.funcs.invariant c.in_err-grow_func-in-Some.ensures

pub funcs-smaller : goal.funcs-smaller
funcs-smaller g c =
    let below =
    is_place c.args.scopes.now.funcs.now c.funcs.i c.in-Some.func.now c.in-Some.ensures.part in
    omega (arith, below)

pub funcs-preserved : goal.funcs-preserved
funcs-preserved g c =
    let fs = c.args.scopes.now.funcs.now in
    let σ = setting_of (g.K.Known.gives c.args.known.now) c.args.rules.now fs in
    let built = c.in_ok-grow_func-in-Some.ensures in
    front_next (funcs_grown σ (map routine_of fs)) (func_tree σ) fs c.funcs.i (c.funcs.i + 1)
    c.in-Some.func.now (weighted_func c.in_ok-grow_func-in-Some.field-0)
    (map weighted_func c.funcs.items.items) (map weighted_func c.push.new.self.items)
    c.args.counter.now c.funcs.counter c.grow_func.new.counter (omega arith)
    c.in-Some.ensures.part c.funcs.invariant built.0 built.1
    (ap (map weighted_func) c.in_ok-push-in-Some.ensures.items
    ∙ map-append weighted_func c.funcs.items.items (c.in_ok-grow_func-in-Some.field-0 ∷ []))
