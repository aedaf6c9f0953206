use Rattle.std.proofs.Common.{map}
use Rattle.mpy_tree.specs.View.{term_of}
use Rattle.mpy_tree.specs.Shapes.{shape}
use Rattle.choice_tree.specs.Growing.{is_alternative}
use Rattle.eml_match.specs.MatchedRules.{matched_of}
use Rattle.eml_instances.specs.Scopes.{scope_of}
use Rattle.eml_instances.proofs.AlternativeLists.{Looked}
use Rattle.eml_instances.proofs.listing.alternatives.Given as goal

-- the alternatives by the rules so far
abbrev pub invariant-loop-m : goal.invariant-loop-m
invariant-loop-m g l =
    Looked
    (scope_of (g.K.Known.gives l.fn.scope.known.now) l.fn.scope.scopes.now.funcs.now
    l.fn.scope.number)
    (is_alternative (scope_of (g.K.Known.gives l.fn.scope.known.now)
    l.fn.scope.scopes.now.funcs.now l.fn.scope.number) (shape (term_of l.fn.e)))
    (map matched_of l.fn.matched) l.found.items l.fn.most l.m-index
