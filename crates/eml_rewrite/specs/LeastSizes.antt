-- How many nodes weighted trees have at least.
use Rattle.std.specs.Prelude.{◌≡◌, ℕ, suc, ◌≤◌, ◌+◌, min, true, All, List, [], ◌∷◌, if◌then◌else◌}
use Rattle.std.specs.List.{sum_by}
use Rattle.mpy_types.specs.declared.known.Known as known
use Rattle.mpy_tree.specs.Sites.{Site as Line, asks, does}
use Rattle.mpy_tree.specs.Syntax as ast
use Rattle.mpy_tree.specs.Syntax.{Action, a_term}
use Rattle.mpy_tree.specs.Shapes.{shape}
use Rattle.mpy_tree.specs.Trees as kind
use Rattle.mpy_tree.specs.Trees.{Kind, Tree}
use Rattle.choice_tree.specs.Contexts.{Setting, Site, elsewhere, at_return, at_assign, at_if}
use Rattle.choice_tree.specs.Contexts.{at_while, at_for, Sharing, apart, shared, copied, Context}
use Rattle.choice_tree.specs.Drafts.{Draft, Drafts, as_is, again, no_drafts, draft_and, Proposal}
use Rattle.choice_tree.specs.Growing.{alternatives, grown, steps}
use Rattle.choice_tree.specs.Heads.{root}
use Rattle.choice_tree.specs.Matching.{here, is_expression}
use Rattle.choice_tree.specs.Typing.{Scope}
use Rattle.choice_tree.specs.WeightedTrees.{size}
use Rattle.eml_match.specs.Parts.{parts, seen}
use Rattle.eml_rewrite.specs.declared.least_size.Counted.{Counted}
use Rattle.eml_rewrite.specs.declared.spot.Spot.{Spot}
use Rattle.eml_rewrite.specs.Spots.{context_at, setting_at}

-- the size of the weighted tree of a term in a function, where a list is shared so
abbrev pub size_by : Setting → Scope → Tree → Sharing → ℕ
size_by g σ t s = size (grown g (steps t) elsewhere (record { scope = σ; sharing = s }) t)

-- the least of its sizes, wherever it stands there
abbrev pub least_size : Setting → Scope → Tree → ℕ
least_size g σ t =
    min (size_by g σ t apart) (min (size_by g σ t shared) (size_by g σ t copied))

-- of a node over parts of so many nodes; a name has no parts
abbrev pub node_least : Kind → ℕ → ℕ
node_least (kind.Name x) n = 1
node_least k n = if is_expression k then suc n else 0

-- of a draft, by those of the terms that are rewritten again
abbrev mutual
  pub draft_least : (Tree → ℕ) → Draft → ℕ
  draft_least least (as_is k ds) = node_least k (drafts_least least ds)
  draft_least least (again t) = least t

  pub drafts_least : (Tree → ℕ) → Drafts → ℕ
  drafts_least least no_drafts = 0
  drafts_least least (draft_and d ds) = draft_least least d + drafts_least least ds

-- of a node with its parts
abbrev pub kept_least : (Tree → ℕ) → Tree → ℕ
kept_least least t = suc (sum_by least (parts t))

-- of a pick without its base, if there is another member
abbrev pub others_least : (Tree → ℕ) → List Proposal → ℕ
others_least least [] = 0
others_least least (p ∷ ps) = suc (sum_by (λ q. draft_least least q.draft) (p ∷ ps))

-- of an expression that has a place, with the rules of that place
abbrev pub placed_least : Setting → Context → Site → Tree → ℕ
placed_least g c site t =
    let least = least_size g c.scope in
    least t + others_least least (alternatives g (here site) c t)

-- of the expressions of a statement itself
abbrev pub action_least : Setting → Context → Action → ℕ
action_least g c (ast.Assign x e) = placed_least g c (at_assign x) (shape e)
action_least g c (ast.Augment x op e) = least_size g c.scope (shape e)
action_least g c (ast.Put x i e) = least_size g c.scope (shape i) + least_size g c.scope (shape e)
action_least g c (ast.AugmentAt x i op e) =
    least_size g c.scope (shape i) + least_size g c.scope (shape e)
action_least g c (ast.Append x e) = least_size g c.scope (shape e)
action_least g c (ast.Print e) = least_size g c.scope (shape e)
action_least g c (ast.Return (a_term e)) = placed_least g c at_return (shape e)
action_least g c (ast.While e body) = placed_least g c at_while (shape e)
action_least g c (ast.For x e body) = placed_least g c (at_for x) (shape e)
action_least g c (ast.Return ast.no_term) = 0
action_least g c ast.Pass = 0
action_least g c ast.Break = 0
action_least g c ast.Continue = 0
action_least g c (ast.If arms last) = 0

-- of what stands on a line
abbrev pub line_least : Setting → Context → Line → ℕ
line_least g c (does line act) = action_least g c act
line_least g c (asks line e) = placed_least g c at_if (shape e)

-- of an expression in the function of a place
abbrev pub least_at : {K : Type 0} {G : known.Ghosts K} → Spot K G → Tree → ℕ
least_at s = least_size (setting_at s) (context_at s).scope

-- What was counted of each of these expressions is no more than this function gives, and it gives
-- each expression a node.
pub record AreCounted (least : Tree → ℕ) (xs : List Counted) : Type 0 where
  pub some : (t : Tree) → is_expression (root t) ≡ true → 1 ≤ least t
  pub each : All (λ x. x.nodes ≤ least (seen x.e)) xs

-- There are so many nodes, by any function that gives each expression what was counted of it.
abbrev pub IsLeast : List Counted → ℕ → ((Tree → ℕ) → ℕ) → Type 0
IsLeast xs n all = (least : Tree → ℕ) → AreCounted least xs → n ≤ all least
