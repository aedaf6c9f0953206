use Rattle.std.proofs.Common.{◌≡◌, ◌∙◌, List, map, sym, subst}
use Rattle.choice_tree.specs.Selections.{cost}
use Rattle.choice_tree.specs.StatementViews.{weighted_prog}
use Rattle.sym_cost.specs.Notations.{counter}
use Rattle.sym_cost.proofs.Unary.{whole_counter}
use Rattle.sym_cost.proofs.costs.cost_reaches.Goals as goal

pub returns-clause-value : goal.returns-clause-value
returns-clause-value g c vs m p =
    let n = cost m (weighted_prog c.args.w.now) in
    let rd = g.L.Logic.reads c.node_cost.new.g vs in
    let same = c.from_vec.ensures ∙ c.into_vec.ensures in
    let made = c.in_ok-counter.ensures.made in
    let counts = c.in_ok-counter.ensures.value vs n (c.in_ok-cost.ensures.value vs m p tt) in
    subst (λ (w : List _). map rd w ≡ counter c.args.bound n) (sym same)
    (c.in_ok-whole.ensures.value vs
    ∙ whole_counter rd c.in_ok-counter.counter c.args.bound n made.width counts)
