-- The alternatives that code lists.
use Rattle.std.specs.Prelude.{◌≡◌, ⊤, ℕ, ◌+◌, ◌<◌, ◌≤◌, Bool, true, if◌then◌else◌, List, [], ◌∷◌}
use Rattle.std.specs.Prelude.{◌++◌, map, length, Option, Some, None}
use Rattle.std.specs.Prelude.{All}
use Rattle.std.specs.declared.vec.Vec.{Vec}
use Rattle.std.specs.declared.alloc.Global.{Global}
use Rattle.mpy_tree.specs.declared.typing.Ty.{Ty}
use Rattle.choice_tree.specs.Typing.{Scope, same_type, type_of}
use Rattle.choice_tree.specs.Drafts.{Proposal, proposal, filled, resolutions}
use Rattle.choice_tree.specs.Rewriting.{In}
use Rattle.choice_tree.specs.RuleViews.{template_of}
use Rattle.choice_tree.specs.Templates.{Template}
use Rattle.eml_match.specs.MatchedRules.{MatchedRule, matched_of}
use Rattle.eml_match.specs.Resolutions.{count, depth, locals_for, resolution}
use Rattle.eml_instances.specs.declared.listing.Alternative.{Alternative}

abbrev pub alternative_seen : Scope → Alternative → Proposal
alternative_seen σ a =
    let m = matched_of a.matched.now in
    proposal m.rule m.cost
    (resolution (template_of a.side.now) (locals_for σ m.bindings) m.bindings a.number)

-- its number is one of a resolution of its side, which is no deeper than that of the rule
abbrev pub IsNumbered : Scope → Alternative → Type 0
IsNumbered σ a =
    let m = matched_of a.matched.now in
    (a.number < count (template_of a.side.now) (locals_for σ m.bindings) m.bindings)
    × (a.number < 64000064)
    × (depth (template_of a.side.now) ≤ depth m.right)

-- each is of one of these rules
abbrev pub AllAmong : List MatchedRule → List Alternative → Type 0
AllAmong ms [] = ⊤
AllAmong ms (a ∷ rest) = In (matched_of a.matched.now) ms × AllAmong ms rest

-- these are the proposals of the rules, in order, and at most `most`; or there are more
abbrev pub AreAlternatives :
    Option (Vec Alternative Global) → ℕ → Scope → List MatchedRule → List Proposal → Type 0
AreAlternatives None most σ ms ps = most < length ps
AreAlternatives (Some v) most σ ms ps =
    (map (alternative_seen σ) v.items ≡ ps) × All (IsNumbered σ) v.items × AllAmong ms v.items
    × (length v.items ≤ most)

-- what a rule proposes by a side, and whether it is of a type
abbrev pub proposals_of : Scope → MatchedRule → Template → List Proposal
proposals_of σ m p = map (proposal m.rule m.cost) (resolutions σ m.bindings p)

abbrev pub has_type : Scope → Option Ty → Proposal → Bool
has_type σ o p = same_type (type_of σ (filled p.draft)) o

-- these are the proposals of a rule behind the alternatives before; or they are more than `most`
-- together
abbrev pub AddsTo :
    Option (Vec Alternative Global) → ℕ → Scope → MatchedRule → List Alternative → List Proposal
    → Type 0
AddsTo None most σ m before ps = most < length before + length ps
AddsTo (Some v) most σ m before ps =
    (map (alternative_seen σ) v.items ≡ map (alternative_seen σ) before ++ ps)
    × All (IsNumbered σ) v.items
    × ((ms : List MatchedRule) → In m ms → AllAmong ms before → AllAmong ms v.items)
    × (length before ≤ most → length v.items ≤ most)

-- one alternative behind others, under a condition; or they are more than `most` together
abbrev pub AddsIf :
    Option (Vec Alternative Global) → ℕ → Bool → List Alternative → Alternative → Type 0
AddsIf None most holds before a = (holds ≡ true) × (most ≤ length before)
AddsIf (Some v) most holds before a =
    (v.items ≡ (if holds then before ++ a ∷ [] else before))
    × (length before ≤ most → length v.items ≤ most)
