use Rattle.choice_tree.specs.RuleViews.{template_of}
use Rattle.eml_instances.specs.Alternatives.{has_type}
use Rattle.eml_instances.specs.Searches.{rule_in, scope_in}
use Rattle.eml_instances.proofs.AlternativeLists.{Tried}
use Rattle.eml_instances.proofs.adding.add_whole.Given as goal

-- the alternatives of the numbers so far
abbrev pub invariant-loop-number : goal.invariant-loop-number
invariant-loop-number g l =
    let σ = scope_in g.K.Known.gives l.fn.search in
    Tried σ (has_type σ l.fn.search.wanted.ty) (rule_in l.fn.search) (template_of l.fn.side)
    l.initial.found.items l.found.items l.fn.search.wanted.most l.number
