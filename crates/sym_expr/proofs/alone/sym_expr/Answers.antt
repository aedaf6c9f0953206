use Rattle.std.proofs.Common.{ap, is_some, subst, sym, ◌∙◌}
use Rattle.mpy_tree.specs.declared.typing.Ty.TheVariants as ty
use Rattle.mpy_tree.specs.Expressions.{value_of}
use Rattle.choice_tree.specs.WeightedViews.{weighted_of}
use Rattle.sym_values.specs.Forms.{form_for}
use Rattle.sym_values.specs.Results.{IsOutcomeIn}
use Rattle.sym_nodes.specs.declared.env.Env.{Env}
use Rattle.sym_nodes.specs.Environments.{HasPicks, IsEnvIn, PicksRead, StateReads, scope_of}
use Rattle.sym_nodes.specs.Plain.{ReadsAsPlain, type_of}
use Rattle.sym_nodes.specs.Views.{env_of}
use Rattle.sym_nodes.proofs.TypeRules.{some_type}
use Rattle.sym_expr.proofs.Faults.{alone_typed}
use Rattle.sym_expr.proofs.alone.sym_expr.Goals as goal

pub eval-requires-clause-env : goal.eval-requires-clause-env
eval-requires-clause-env g c = subst (IsEnvIn g.L.Logic.owns c.args.g.now) (sym c.view_of-view.ensures) c.requires.env

pub eval-requires-clause-typed : goal.eval-requires-clause-typed
eval-requires-clause-typed g c =
    let w = weighted_of c.args.e.now in
    let seen = env_of c.view_of-view.result in
    let typed = some_type _ c.requires.typed in
    ap is_some (alone_typed ty.Bool seen w ∙ ap (λ (n : Env _). type_of (scope_of n) w) c.view_of-view.ensures ∙ typed.1)

pub eval-requires-clause-picks : goal.eval-requires-clause-picks
eval-requires-clause-picks g c =
    subst (λ (n : Env _). HasPicks n.picks (weighted_of c.args.e.now)) (sym c.view_of-view.ensures) c.requires.picks

pub returns-clause-made : goal.returns-clause-made
returns-clause-made g c t e =
    let w = weighted_of c.args.e.now in
    let seen = env_of c.view_of-view.result in
    let outcome = c.in_ok-outcome in
    subst (λ (n : Env _). IsOutcomeIn g.L.Logic.owns c.eval.new.g (form_for n.limits t) outcome.outcome) c.view_of-view.ensures
    (outcome.ensures.made t (alone_typed ty.Bool seen w ∙ ap (λ (n : Env _). type_of (scope_of n) w) c.view_of-view.ensures ∙ e))

pub returns-clause-value : goal.returns-clause-value
returns-clause-value g c vs s m calls line k p =
    let reads = g.L.Logic.reads in
    let w = weighted_of c.args.e.now in
    let outcome = c.in_ok-outcome in
    let same = sym c.view_of-view.ensures in
    subst (λ (n : Env _). ReadsAsPlain (reads c.eval.new.g vs) (value_of n.limits calls s line) m outcome.outcome w) c.view_of-view.ensures
    (outcome.ensures.value vs s m calls line (λ f values line v h e. absurd cc)
    (subst (λ (n : Env _). StateReads (reads c.args.g.now vs) n s) same k)
    (subst (λ (n : Env _). PicksRead (reads c.args.g.now vs) n.picks m) same p))
