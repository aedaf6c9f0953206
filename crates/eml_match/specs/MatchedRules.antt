-- The rules that match a term, and what they propose.
use Rattle.std.specs.Prelude.{ℕ, suc, List, [], ◌∷◌, ◌++◌, map, Option, Some, None}
use Rattle.mpy_tree.specs.Trees.{Tree}
use Rattle.choice_tree.specs.declared.rules.Place.{Place}
use Rattle.choice_tree.specs.Templates.{Template, Correction}
use Rattle.choice_tree.specs.Typing.{Scope}
use Rattle.choice_tree.specs.Contexts.{Site, elsewhere, at_return, at_assign, at_if, at_while}
use Rattle.choice_tree.specs.Contexts.{at_for}
use Rattle.choice_tree.specs.Matching.{Bindings, together, matches}
use Rattle.choice_tree.specs.Drafts.{Proposal, proposal, resolutions}
use Rattle.choice_tree.specs.RuleViews.{template_of}
use Rattle.eml_match.specs.declared.rules.Matched.{Matched}
use Rattle.eml_match.specs.declared.sites.Site.{Site as CodeSite}
use Rattle.eml_match.specs.declared.sites.Site.TheVariants as site
use Rattle.eml_match.specs.MatchViews.{bindings_of}

abbrev pub site_of : CodeSite → Site
site_of site.Elsewhere = elsewhere
site_of site.Return = at_return
site_of (site.Assign x) = at_assign x.now
site_of site.If = at_if
site_of site.While = at_while
site_of (site.For x) = at_for x.now

-- a rule that matches, counted from 0, with what its metavariables stand for
pub record MatchedRule : Type 0 where
  pub rule : ℕ
  pub cost : ℕ
  pub right : Template
  pub bindings : Bindings

abbrev pub matched_of : Matched → MatchedRule
matched_of m =
    record {
      rule = m.rule;
      cost = m.cost;
      right = template_of m.right.now;
      bindings = bindings_of m.bindings.items;
    }

-- a rule before others that match, if it matches itself
abbrev pub and_matched : ℕ → Correction → Option Bindings → List MatchedRule → List MatchedRule
and_matched i r None ms = ms
and_matched i r (Some β) ms =
    record { rule = i; cost = r.cost; right = r.right; bindings = β } ∷ ms

-- what a rule's metavariables stand for, if it may be used there and matches
abbrev pub rule_matches : (Place → Option Bindings) → Correction → Tree → Option Bindings
rule_matches here r t = together (here r.place) (matches r.left t)

-- the rules from the one with this number on
abbrev pub matched_from :
    (Place → Option Bindings) → ℕ → List Correction → Tree → List MatchedRule
matched_from here i [] t = []
matched_from here i (r ∷ rs) t =
    and_matched i r (rule_matches here r t) (matched_from here (suc i) rs t)

abbrev pub matched_by : (Place → Option Bindings) → List Correction → Tree → List MatchedRule
matched_by here rules t = matched_from here 0 rules t

-- what they propose
abbrev pub proposals_by : Scope → List MatchedRule → List Proposal
proposals_by σ [] = []
proposals_by σ (m ∷ ms) =
    map (proposal m.rule m.cost) (resolutions σ m.bindings m.right) ++ proposals_by σ ms
