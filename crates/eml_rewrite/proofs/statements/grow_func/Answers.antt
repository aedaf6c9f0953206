use Rattle.mpy_tree.specs.Trees as kind
use Rattle.mpy_tree.specs.View.{routine_of}
use Rattle.choice_tree.specs.StatementViews.{weighted_body, weighted_func}
use Rattle.choice_tree.specs.WeightedTrees.{plainly}
use Rattle.choice_tree.specs.WeightedViews.{one}
use Rattle.eml_rewrite.specs.Spots.{setting_at, context_at}
use Rattle.eml_rewrite.proofs.Programs.{func_built, func_stops}
use Rattle.eml_rewrite.proofs.statements.grow_func.Goals as goal

pub returns-in_err-body : goal.returns-in_err-body
returns-in_err-body g c =
    func_stops weighted_body weighted_func c.from_residual-in_err-body.result
    c.in_err-body.field-0.0 (setting_at c.args.spot.now) c.requires (context_at c.args.spot.now)
    (routine_of c.args.func.now) c.args.counter.now c.grow_stmts.new.counter
    c.from_residual-in_err-body.ensures c.in_err-body.ensures

pub returns : goal.returns
returns g c =
    func_built (setting_at c.args.spot.now) c.requires (context_at c.args.spot.now)
    (routine_of c.args.func.now)
    (record {
      line = c.args.func.now.line;
      name = c.in_ok-name.name;
      params = c.in_ok-params.params;
      body = c.in_ok-body.body;
    }) c.args.counter.now c.grow_stmts.new.counter c.in_ok-body.ensures
    (λ i. plainly
    (kind.Function c.args.func.now.line (c.in_ok-name.ensures i) (c.in_ok-params.ensures i))
    (one (weighted_body c.in_ok-body.body)))
