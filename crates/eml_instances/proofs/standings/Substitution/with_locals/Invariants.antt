use Rattle.std.proofs.Common.{◌≡◌, ◌++◌, drop}
use Rattle.eml_match.specs.MatchViews.{bindings_of}
use Rattle.eml_instances.specs.Scopes.{scope_of}
use Rattle.eml_instances.specs.Substitutions.{standings_bindings}
use Rattle.eml_instances.proofs.FittingLocals.{Fit}
use Rattle.eml_instances.proofs.standings.Substitution.with_locals.Given as goal

-- the bindings so far with their locals, and those that are left
abbrev pub invariant-loop-b : goal.invariant-loop-b
invariant-loop-b g l = record {
  bindings : bindings_of l.fn.bindings
      ≡ standings_bindings l.items.items ++ bindings_of (drop l.b-index l.fn.bindings);
  fit : Fit l.fn.all (scope_of (g.K.Known.gives l.fn.scope.known.now)
      l.fn.scope.scopes.now.funcs.now
      l.fn.scope.number) l.items.items;
}
