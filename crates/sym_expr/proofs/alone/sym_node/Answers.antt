use Rattle.std.proofs.Common.{◌≡◌, IsSome, Some, subst, sym}
use Rattle.mpy_tree.specs.Expressions.{value_of}
use Rattle.choice_tree.specs.WeightedTrees.{children}
use Rattle.choice_tree.specs.WeightedViews.{weighted_of}
use Rattle.sym_values.specs.Forms.{form_for}
use Rattle.sym_values.specs.Results.{IsOutcomeIn}
use Rattle.sym_nodes.specs.declared.env.Env.{Env}
use Rattle.sym_nodes.specs.Environments.{HasPick, IsEnvIn, PicksRead, StateReads, scope_of}
use Rattle.sym_nodes.specs.Operands.{ArePartsIn, types_of}
use Rattle.sym_nodes.specs.Plain.{AllReadAsPlain, ReadsAsPlain, root_type}
use Rattle.sym_expr.proofs.alone.sym_node.Goals as goal

pub node_in_view-requires-clause-env : goal.node_in_view-requires-clause-env
node_in_view-requires-clause-env g c =
    subst (IsEnvIn g.L.Logic.owns c.args.g.now) (sym c.view_of-view.ensures) c.requires.env

pub node_in_view-requires-clause-parts : goal.node_in_view-requires-clause-parts
node_in_view-requires-clause-parts g c =
    subst (λ (n : Env _). ArePartsIn g.L.Logic.owns c.args.g.now n.limits c.args.parts.now.items)
    (sym c.view_of-view.ensures) c.requires.parts

pub node_in_view-requires-clause-typed : goal.node_in_view-requires-clause-typed
node_in_view-requires-clause-typed g c =
    subst (λ (n : Env _). IsSome (root_type (scope_of n) (weighted_of c.args.e.now)
    (types_of c.args.parts.now.items))) (sym c.view_of-view.ensures) c.requires.typed

pub node_in_view-requires-clause-pick : goal.node_in_view-requires-clause-pick
node_in_view-requires-clause-pick g c =
    subst (λ (n : Env _). HasPick n.picks (weighted_of c.args.e.now))
    (sym c.view_of-view.ensures) c.requires.pick

pub returns-clause-made : goal.returns-clause-made
returns-clause-made g c =
    let w = weighted_of c.args.e.now in
    let outcome = c.in_ok-outcome in
    subst (λ (n : Env _). (t : _)
    → root_type (scope_of n) w (types_of c.args.parts.now.items) ≡ Some t
    → IsOutcomeIn g.L.Logic.owns c.node_in_view.new.g (form_for n.limits t) outcome.outcome)
    c.view_of-view.ensures outcome.ensures.made

pub returns-clause-value : goal.returns-clause-value
returns-clause-value g c vs s m calls line k p all =
    let reads = g.L.Logic.reads in
    let w = weighted_of c.args.e.now in
    let outcome = c.in_ok-outcome in
    let same = sym c.view_of-view.ensures in
    let old = reads c.args.g.now vs in
    subst (λ (n : Env _). ReadsAsPlain (reads c.node_in_view.new.g vs) (value_of n.limits calls s line) m
    outcome.outcome w) c.view_of-view.ensures
    (outcome.ensures.value vs s m calls line
    (subst (λ (n : Env _). StateReads old n s) same k)
    (subst (λ (n : Env _). PicksRead old n.picks m) same p)
    (subst (λ (n : Env _). AllReadAsPlain old (value_of n.limits calls s line) m
    c.args.parts.now.items (children w)) same all))
