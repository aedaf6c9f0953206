-- What the rules that match propose.
use Rattle.std.proofs.Common.{◌≡◌, ℕ, suc, List, [], ◌∷◌, ◌++◌, map, Option, Some, None, refl, ap, ◌∙◌}
use Rattle.mpy_tree.specs.Trees.{Tree}
use Rattle.choice_tree.specs.declared.rules.Place.{Place}
use Rattle.choice_tree.specs.Templates.{Correction}
use Rattle.choice_tree.specs.Typing.{Scope}
use Rattle.choice_tree.specs.Matching.{Bindings}
use Rattle.choice_tree.specs.Drafts.{proposal, resolved, proposals_from}
use Rattle.eml_match.specs.MatchedRules.{MatchedRule, and_matched, rule_matches, matched_from}
use Rattle.eml_match.specs.MatchedRules.{proposals_by}

one_more : (σ : Scope) (i : ℕ) (r : Correction) (b : Option Bindings) (ms : List MatchedRule)
    → map (proposal i r.cost) (resolved σ r.right b) ++ proposals_by σ ms
    ≡ proposals_by σ (and_matched i r b ms)
one_more σ i r None ms = refl
one_more σ i r (Some β) ms = refl

pub propose_from : (here : Place → Option Bindings) (σ : Scope) (i : ℕ) (rules : List Correction)
    (t : Tree) → proposals_from here σ t i rules ≡ proposals_by σ (matched_from here i rules t)
propose_from here σ i [] t = refl
propose_from here σ i (r ∷ rs) t =
    ap (λ ps. map (proposal i r.cost) (resolved σ r.right (rule_matches here r t)) ++ ps)
    (propose_from here σ (suc i) rs t)
    ∙ one_more σ i r (rule_matches here r t) (matched_from here (suc i) rs t)
