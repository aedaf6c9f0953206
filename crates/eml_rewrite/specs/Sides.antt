-- The members of a pick, and their right sides.
use Rattle.std.specs.Prelude.{⊤, ℕ, ◌<◌, ◌≤◌, max, All, List, [], ◌∷◌}
use Rattle.choice_tree.specs.declared.head.Head.{Head}
use Rattle.choice_tree.specs.Templates.{Correction}
use Rattle.choice_tree.specs.Typing.{Scope}
use Rattle.choice_tree.specs.RuleViews.{template_of}
use Rattle.choice_tree.specs.Drafts.{Draft}
use Rattle.eml_match.specs.MatchedRules.{matched_of}
use Rattle.eml_match.specs.Resolutions.{count, depth, resolution}
use Rattle.eml_instances.specs.declared.listing.Alternative.{Alternative}
use Rattle.eml_instances.specs.declared.roots.Resolved.TheVariants as resolved
use Rattle.eml_instances.specs.Alternatives.{IsNumbered}
use Rattle.eml_instances.specs.Resolving.{Gives, parts_resolved}
use Rattle.eml_instances.specs.Substitutions.{bindings_in, locals_in}
use Rattle.eml_rewrite.specs.declared.side.Side.{Side}

-- the depth of the deepest right side
abbrev pub deepest : List Correction → ℕ
deepest [] = 0
deepest (r ∷ rs) = max (depth r.right) (deepest rs)

-- the resolution of this number
abbrev pub draft_at : Side → Draft
draft_at s = resolution (template_of s.term.now) (locals_in s.bound.now) (bindings_in s.bound.now)
    s.number

-- those of its parts
abbrev pub part_drafts : Side → List Draft
part_drafts s =
    parts_resolved (template_of s.term.now) (locals_in s.bound.now) (bindings_in s.bound.now)
    s.number

-- there is one of this number, and the side is no deeper than this
pub record IsSide (most : ℕ) (s : Side) : Type 0 where
  pub below :
      s.number < count (template_of s.term.now) (locals_in s.bound.now) (bindings_in s.bound.now)
  pub small : s.number < 64000064
  pub deep : depth (template_of s.term.now) ≤ most

-- the root of the resolution is this node
abbrev pub HasNode : Head → Side → Type 0
HasNode h s =
    Gives (resolved.Node h) (template_of s.term.now) (locals_in s.bound.now)
    (bindings_in s.bound.now) s.number

abbrev pub NoDeeper : ℕ → List Alternative → Type 0
NoDeeper most [] = ⊤
NoDeeper most (a ∷ xs) = (depth (matched_of a.matched.now).right ≤ most) × NoDeeper most xs

-- each is numbered among the resolutions of its rule, whose right side is no deeper than this
pub record AreMembers (σ : Scope) (most : ℕ) (xs : List Alternative) : Type 0 where
  pub numbered : All (IsNumbered σ) xs
  pub deep : NoDeeper most xs
