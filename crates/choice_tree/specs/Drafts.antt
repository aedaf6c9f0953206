-- What a right side may be in place of a term: its resolutions.
use Rattle.std.specs.Prelude.{ℕ, suc, Bool, true, false, ◌&&◌, ◌==◌, if◌then◌else◌, List, [], ◌∷◌}
use Rattle.std.specs.Prelude.{◌++◌, map, filter, flat_map, Option, Some, None}
use Rattle.mpy_tree.specs.Trees as kind
use Rattle.mpy_tree.specs.Trees.{Kind, Tree, Trees, node, no_trees, tree_and, leaf}
use Rattle.choice_tree.specs.Templates.{NodeTemplate, exactly, one_arith, one_comparison}
use Rattle.choice_tree.specs.Templates.{some_arith, some_comparison, Template, Templates, made}
use Rattle.choice_tree.specs.Templates.{hole, one_of, some_local, no_templates, template_and}
use Rattle.choice_tree.specs.Templates.{Correction}
use Rattle.choice_tree.specs.declared.rules.Meta.{Meta}
use Rattle.choice_tree.specs.declared.rules.Place.{Place}
use Rattle.choice_tree.specs.Typing.{Scope, locals_of, type_of, same_type}
use Rattle.choice_tree.specs.Matching.{Bound, a_term, an_operator, Bindings, together}
use Rattle.choice_tree.specs.Matching.{matches}

-- a term in which some parts are to be rewritten again
mutual
  pub data Draft : Type 0 where
    as_is : (k : Kind) (ds : Drafts) → Draft
    again : (t : Tree) → Draft

  pub data Drafts : Type 0 where
    no_drafts : Drafts
    draft_and : (d : Draft) (ds : Drafts) → Drafts

abbrev mutual
  pub draft_of : Tree → Draft
  draft_of (node k ts) = as_is k (drafts_of ts)

  pub drafts_of : Trees → Drafts
  drafts_of no_trees = no_drafts
  drafts_of (tree_and t ts) = draft_and (draft_of t) (drafts_of ts)

-- the instance: the draft with the terms that were bound
abbrev mutual
  pub filled : Draft → Tree
  filled (as_is k ds) = node k (filled_all ds)
  filled (again t) = t

  pub filled_all : Drafts → Trees
  filled_all no_drafts = no_trees
  filled_all (draft_and d ds) = tree_and (filled d) (filled_all ds)

abbrev pub same_digit : Option ℕ → Option ℕ → Bool
same_digit None None = true
same_digit (Some i) (Some j) = i == j
same_digit _ _ = false

-- one metavariable, primed or not
abbrev pub same_meta : Meta → Meta → Bool
same_meta a b = (a.letter == b.letter) && same_digit a.digit b.digit

-- the term that is bound, and the operator's node, each in a list
abbrev pub term_in : Bound → List Tree
term_in (a_term t) = t ∷ []
term_in (an_operator k) = []

abbrev pub operator_in : Bound → List Kind
operator_in (a_term t) = []
operator_in (an_operator k) = k ∷ []

abbrev pub bound_term : Bindings → Meta → List Tree
bound_term [] m = []
bound_term (b ∷ bs) m = if same_meta b.meta m then term_in b.bound else bound_term bs m

abbrev pub bound_operator : Bindings → Meta → List Kind
bound_operator [] m = []
bound_operator (b ∷ bs) m = if same_meta b.meta m then operator_in b.bound else bound_operator bs m

-- the nodes that it may be
abbrev pub node_resolutions : Bindings → NodeTemplate → List Kind
node_resolutions β (exactly k) = k ∷ []
node_resolutions β (one_arith ops) = map kind.Arith ops
node_resolutions β (one_comparison ops) = map kind.Cmp ops
node_resolutions β (some_arith m) = bound_operator β m
node_resolutions β (some_comparison m) = bound_operator β m

-- the locals of the type of a term
abbrev pub locals_like : Scope → Tree → List (List ℕ)
locals_like σ t =
    filter (λ x. same_type (type_of σ (leaf (kind.Name x))) (type_of σ t))
    (locals_of σ.program σ.number)

abbrev pub local_draft : List ℕ → Draft
local_draft x = as_is (kind.Name x) no_drafts

-- a node whose first part and whose other parts are these
abbrev pub node_drafts : Draft → List Drafts → Kind → List Draft
node_drafts d rest k = map (λ ds. as_is k (draft_and d ds)) rest

-- In order, the leftmost set varying slowest. An operator is written behind its first operand.
abbrev mutual
  pub resolutions : Scope → Bindings → Template → List Draft
  resolutions σ β (made k no_templates) = map (λ j. as_is j no_drafts) (node_resolutions β k)
  resolutions σ β (made k (template_and p ps)) =
      flat_map (λ d. flat_map (node_drafts d (resolutions_all σ β ps)) (node_resolutions β k))
      (resolutions σ β p)
  resolutions σ β (hole m) = map (if m.primed then again else draft_of) (bound_term β m)
  resolutions σ β (one_of ps) = resolutions_of_each σ β ps
  resolutions σ β (some_local m) =
      flat_map (λ t. map local_draft (locals_like σ t)) (bound_term β m)

  pub resolutions_all : Scope → Bindings → Templates → List Drafts
  resolutions_all σ β no_templates = no_drafts ∷ []
  resolutions_all σ β (template_and p ps) =
      flat_map (λ d. map (draft_and d) (resolutions_all σ β ps)) (resolutions σ β p)

  pub resolutions_of_each : Scope → Bindings → Templates → List Draft
  resolutions_of_each σ β no_templates = []
  resolutions_of_each σ β (template_and p ps) = resolutions σ β p ++ resolutions_of_each σ β ps

-- a resolution of a rule, counted from 0, at its cost
pub record Proposal : Type 0 where
  pub rule : ℕ
  pub cost : ℕ
  pub draft : Draft

abbrev pub proposal : ℕ → ℕ → Draft → Proposal
proposal i cost d = record { rule = i; cost = cost; draft = d }

abbrev pub resolved : Scope → Template → Option Bindings → List Draft
resolved σ right None = []
resolved σ right (Some β) = resolutions σ β right

-- what one rule proposes for a term, if it may be used there
abbrev pub proposed : (Place → Option Bindings) → Scope → Tree → ℕ → Correction → List Proposal
proposed here σ t i r =
    map (proposal i r.cost) (resolved σ r.right (together (here r.place) (matches r.left t)))

-- the rules from the one with this number on
abbrev pub proposals_from :
    (Place → Option Bindings) → Scope → Tree → ℕ → List Correction → List Proposal
proposals_from here σ t i [] = []
proposals_from here σ t i (r ∷ rs) =
    proposed here σ t i r ++ proposals_from here σ t (suc i) rs

abbrev pub proposals :
    (Place → Option Bindings) → Scope → List Correction → Tree → List Proposal
proposals here σ rules t = proposals_from here σ t 0 rules
