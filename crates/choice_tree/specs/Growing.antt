-- The weighted tree of all rewritings: the trees that the rules make of a term, with a pick where
-- there is an alternative.
use Rattle.std.specs.Prelude.{ℕ, zero, suc, max, Bool, if◌then◌else◌, List, [], ◌∷◌, filter}
use Rattle.std.specs.Prelude.{Option}
use Rattle.mpy_tree.specs.Syntax.{Routine}
use Rattle.mpy_tree.specs.Trees.{Kind, Tree, Trees, node, no_trees, tree_and}
use Rattle.mpy_tree.specs.Shapes.{program_shape}
use Rattle.choice_tree.specs.declared.rules.Place.{Place}
use Rattle.choice_tree.specs.Typing.{Scope, type_of, same_type, copy_of}
use Rattle.choice_tree.specs.Contexts.{Setting, Site, elsewhere, Context, site_below, below}
use Rattle.choice_tree.specs.Contexts.{inside, copies, outermost}
use Rattle.choice_tree.specs.Matching.{Bindings, here}
use Rattle.choice_tree.specs.Drafts.{Draft, Drafts, as_is, again, no_drafts, draft_and, filled}
use Rattle.choice_tree.specs.Drafts.{Proposal, proposals}
use Rattle.choice_tree.specs.Rewriting.{written}
use Rattle.choice_tree.specs.WeightedTrees.{Weighted, Weighteds, Others, plainly, pick}
use Rattle.choice_tree.specs.WeightedTrees.{no_weighted, weighted_and, no_others, other_and}
use Rattle.choice_tree.specs.WeightedTrees.{lifted, numbered}

-- the weighted tree of a term, where it stands
abbrev pub Growing : Type 0
Growing = Site → Context → Tree → Weighted

-- the proposals that are alternatives: those of the term's type
abbrev pub is_alternative : Scope → Tree → Proposal → Bool
is_alternative σ t p = same_type (type_of σ (filled p.draft)) (type_of σ t)

abbrev pub alternatives :
    Setting → (Place → Option Bindings) → Context → Tree → List Proposal
alternatives g here c t =
    filter (is_alternative c.scope t) (proposals here c.scope g.rules t)

-- a pick, if there is another member than the base
abbrev pub picked : Weighted → Others → Weighted
picked base no_others = base
picked base (other_and rule cost w os) = pick 0 base (other_and rule cost w os)

-- a node with the weighted trees of its parts
abbrev pub parts_grown : Setting → Growing → Trees → Kind → ℕ → Context → Weighteds
parts_grown g grow no_trees k i c = no_weighted
parts_grown g grow (tree_and t ts) k i c =
    weighted_and (grow (site_below k) (below g k i c) t) (parts_grown g grow ts k (suc i) c)

abbrev pub node_grown : Setting → Growing → Context → Tree → Weighted
node_grown g grow c (node k ts) =
    if copies c (node k ts) then lifted (copy_of (node k ts))
    else plainly k (parts_grown g grow ts k 0 c)

-- a draft with the weighted trees of the parts that are to be rewritten again
abbrev mutual
  pub draft_grown : Setting → Growing → Draft → Context → Weighted
  draft_grown g grow (as_is k ds) c =
      if copies c (filled (as_is k ds)) then lifted (copy_of (filled (as_is k ds)))
      else plainly k (drafts_grown g grow ds k 0 c)
  draft_grown g grow (again t) c = grow elsewhere c t

  pub drafts_grown : Setting → Growing → Drafts → Kind → ℕ → Context → Weighteds
  drafts_grown g grow no_drafts k i c = no_weighted
  drafts_grown g grow (draft_and d ds) k i c =
      weighted_and (draft_grown g grow d (below g k i c)) (drafts_grown g grow ds k (suc i) c)

abbrev pub members : Setting → Growing → Context → List Proposal → Others
members g grow c [] = no_others
members g grow c (p ∷ ps) =
    other_and p.rule p.cost (draft_grown g grow p.draft c) (members g grow c ps)

-- the base: the node with its parts, or at a site all that is made without the rules of its place
abbrev pub base_grown : Setting → Growing → Growing
base_grown g grow elsewhere c t = node_grown g grow c t
base_grown g grow site c t = grow elsewhere c t

abbrev pub grown_by : Setting → Growing → Growing
grown_by g grow site c t =
    picked (base_grown g grow site c t)
    (members g grow (inside c) (alternatives g (here site) c t))

-- by so many steps at most; with none left the term stands as it is written
abbrev pub grown : Setting → ℕ → Growing
grown g zero site c t = lifted (written g t c)
grown g (suc steps) site c t = grown_by g (grown g steps) site c t

-- how many steps it takes: two for each level of the tree
abbrev mutual
  pub steps : Tree → ℕ
  steps (node k ts) = suc (suc (steps_in ts))

  pub steps_in : Trees → ℕ
  steps_in no_trees = 0
  steps_in (tree_and t ts) = max (steps t) (steps_in ts)

-- the weighted tree of a program
abbrev pub weighted_program : Setting → List Routine → Weighted
weighted_program g s =
    let t = program_shape s in numbered (grown g (steps t) elsewhere (outermost g) t) 0
