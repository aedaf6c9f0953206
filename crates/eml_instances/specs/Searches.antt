-- The search for the alternatives of one rule.
use Rattle.std.specs.Prelude.{◌≡◌}
use Rattle.mpy_tree.specs.SetTypes.{FactSet}
use Rattle.choice_tree.specs.Typing.{Scope}
use Rattle.eml_match.specs.MatchedRules.{MatchedRule, matched_of}
use Rattle.eml_match.specs.Resolutions.{locals_for}
use Rattle.eml_instances.specs.declared.search.Search.{Search}
use Rattle.eml_instances.specs.Scopes.{scope_of}
use Rattle.eml_instances.specs.Substitutions.{bindings_in, locals_in}

-- where it is, by what is known of the types, and for which rule
abbrev pub scope_in : {K : Type 0} → (K → FactSet) → Search K → Scope
scope_in gives s =
    scope_of (gives s.scope.now.known.now) s.scope.now.scopes.now.funcs.now s.scope.now.number

abbrev pub rule_in : {K : Type 0} → Search K → MatchedRule
rule_in s = matched_of s.matched.now

-- it has what the rule's metavariables stand for, and all locals that `?` may be
pub record IsSearch {K : Type 0} (gives : K → FactSet) (s : Search K) : Type 0 where
  pub bindings : bindings_in s.all.now ≡ (rule_in s).bindings
  pub locals : locals_in s.all.now ≡ locals_for (scope_in gives s) (rule_in s).bindings
