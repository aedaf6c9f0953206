use Rattle.std.proofs.Common.{◌≡◌, ◌-◌, suc, map, Some, sym, ap, ◌∙◌, arith}
use Rattle.choice_tree.specs.StatementViews.{weighted_func}
use Rattle.choice_tree.specs.WeightedViews.{weighteds}
use Rattle.tree_weights.specs.declared.program.TypedProgram.{TypedProgram}
use Rattle.tree_weights.specs.Frames.{weight_in}
use Rattle.tree_weights.specs.Functions.{function_of}
use Rattle.tree_weights.specs.Views.{found_seen, functions_in}
use Rattle.tree_weights.specs.Weights.{entered_weight, levels_weight}
use Rattle.tree_weights.proofs.FrameWeights.{entered, found_within}
use Rattle.tree_weights.proofs.program_weight.weight.Goals as goal

pub after-requires : goal.after-requires
after-requires c =
    found_within c.new-frame.result c.args.entry.now c.in-Some.found
    (c.in-Some.ensures
    ∙ ap (λ (p : TypedProgram). function_of (functions_in p) c.args.entry.now)
    (sym c.new-frame.ensures.program))

pub returns-in-Some : goal.returns-in-Some
returns-in-Some c =
    let l = c.args.l.now in
    let f = c.args.entry.now in
    let found = c.in-Some.found in
    let facts = c.args.t.now.facts in
    let deeper : l.depth ≡ suc c.new-frame.result.levels =
    omega (arith, c.new-frame.ensures.levels, l.depth_range.0) in
    let fs = weighteds (map weighted_func c.args.w.now.funcs.items.items) in
    let whole : weight_in c.new-frame.result (weighted_func found.func.now)
    ≡ levels_weight l facts fs found.number l.depth f =
    entered _ f l.depth found c.new-frame.result c.new-frame.ensures.program
    c.new-frame.ensures.number deeper c.in-Some.ensures
    ∙ (λ i. levels_weight l (c.items.ensures i)
    (weighteds (map weighted_func (c.as_slice-funcs.ensures.value i))) found.number l.depth f) in
    let is : entered_weight l facts fs f (Some (found_seen found))
    ≡ entered_weight l facts fs f (function_of fs f) =
    ap (entered_weight l facts fs f) (c.in-Some.ensures
    ∙ ap (λ xs. function_of (weighteds (map weighted_func xs)) f) c.as_slice-funcs.ensures.value) in
    omega (arith, whole, is, c.after.ensures)
