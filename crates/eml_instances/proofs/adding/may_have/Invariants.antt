use Rattle.std.proofs.Common.{◌≡◌, ℕ, ◌<◌, false}
use Rattle.choice_tree.specs.Drafts.{filled}
use Rattle.choice_tree.specs.RuleViews.{template_of}
use Rattle.choice_tree.specs.Typing.{same_type, type_of}
use Rattle.eml_match.specs.Resolutions.{resolution}
use Rattle.eml_instances.specs.Searches.{scope_in}
use Rattle.eml_instances.specs.Substitutions.{bindings_in, locals_in}
use Rattle.eml_instances.proofs.adding.may_have.Given as goal

-- none so far has the type
abbrev pub invariant-loop-number : goal.invariant-loop-number
invariant-loop-number g l =
    (q : ℕ) → q < l.number
    → same_type (type_of (scope_in g.K.Known.gives l.fn.search)
    (filled (resolution (template_of l.fn.side) (locals_in l.s) (bindings_in l.s) q)))
    l.fn.search.wanted.ty
    ≡ false
