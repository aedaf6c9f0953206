-- A resolution taken apart at its root: the parts of a side, and under which numbers they are
-- resolved.
use Rattle.std.specs.Prelude.{◌≡◌, ⊤, ℕ, zero, suc, ◌+◌, ◌*◌, ◌/◌, ◌%◌, ◌<◌, min, List, [], ◌∷◌}
use Rattle.std.specs.Prelude.{length, drop, Option, Some, None}
use Rattle.mpy_tree.specs.View.{term_of}
use Rattle.mpy_tree.specs.Shapes.{shape}
use Rattle.mpy_tree.specs.Trees as kind
use Rattle.mpy_tree.specs.Trees.{Tree, leaf}
use Rattle.choice_tree.specs.Heads.{HasParts, head_kind}
use Rattle.choice_tree.specs.RuleViews.{template_of}
use Rattle.choice_tree.specs.declared.rules.Meta.{Meta}
use Rattle.choice_tree.specs.Templates.{NodeTemplate, Template, Templates, made, hole, one_of}
use Rattle.choice_tree.specs.Templates.{some_arith, some_comparison, some_local, no_templates}
use Rattle.choice_tree.specs.Templates.{template_and}
use Rattle.choice_tree.specs.Matching.{Bindings}
use Rattle.choice_tree.specs.Drafts.{Draft, Drafts, as_is, again, no_drafts, draft_and, draft_of}
use Rattle.choice_tree.specs.Drafts.{bound_term, local_draft}
use Rattle.eml_match.specs.Parts.{template_list, template_parts}
use Rattle.eml_match.specs.Resolutions.{Locals, count, count_all, kind_count, resolution, depth}
use Rattle.eml_instances.specs.declared.roots.Resolved.{Resolved}
use Rattle.eml_instances.specs.declared.roots.Resolved.TheVariants as root

-- Counts stop there: above 64 times the nodes that a weighted tree may have.
abbrev pub stopped : ℕ → ℕ
stopped n = min n 64000064

-- the product and the sum of the counts of some sides
abbrev pub counts_product : List Template → Locals → Bindings → ℕ
counts_product [] L β = 1
counts_product (q ∷ qs) L β = count q L β * counts_product qs L β

abbrev pub counts_sum : List Template → Locals → Bindings → ℕ
counts_sum [] L β = 0
counts_sum (q ∷ qs) L β = count q L β + counts_sum qs L β

-- of a node: what it may be, and how many kinds that are
abbrev pub node_kind : Template → Option NodeTemplate
node_kind (made k ps) = Some k
node_kind _ = None

-- the operator that a metavariable stands for
abbrev pub IsOperator : Meta → Option NodeTemplate → Type 0
IsOperator m (Some (some_arith k)) = k ≡ m
IsOperator m (Some (some_comparison k)) = k ≡ m
IsOperator m _ = ⊥

abbrev pub IsSet : Template → Type 0
IsSet (one_of ps) = ⊤
IsSet _ = ⊥

abbrev pub template_kinds : Template → Bindings → ℕ
template_kinds (made k ps) β = kind_count β k
template_kinds _ β = 1

-- the count of a side by those of its parts or elements
abbrev pub root_count : Template → Locals → Bindings → ℕ
root_count (made k ps) L β = kind_count β k * counts_product (template_list ps) L β
root_count (hole m) L β = length (bound_term β m)
root_count (one_of ps) L β = counts_sum (template_list ps) L β
root_count (some_local m) L β = length (L m)

abbrev pub drafts : List Draft → Drafts
drafts [] = no_drafts
drafts (d ∷ ds) = draft_and d (drafts ds)

-- the number of the part at a place, of parts that are resolved under a number
abbrev pub place_number : Templates → Locals → Bindings → ℕ → ℕ → ℕ
place_number no_templates L β i r = r
place_number (template_and p ps) L β zero r = r / count_all ps L β
place_number (template_and p ps) L β (suc i) r = place_number ps L β i (r % count_all ps L β)

-- the same of the parts of a node, whose kind varies faster than its first part
abbrev pub part_number : Template → Locals → Bindings → ℕ → ℕ → ℕ
part_number (made k ps) L β zero r = place_number ps L β 0 r / kind_count β k
part_number (made k ps) L β (suc i) r = place_number ps L β (suc i) r
part_number p L β i r = r

-- the number of the kind
abbrev pub kind_number : Template → Locals → Bindings → ℕ → ℕ
kind_number p L β r =
    r / counts_product (drop 1 (template_parts p)) L β % template_kinds p β

abbrev pub each_resolved : List Template → Locals → Bindings → (ℕ → ℕ) → ℕ → List Draft
each_resolved [] L β f i = []
each_resolved (q ∷ qs) L β f i = resolution q L β (f i) ∷ each_resolved qs L β f (suc i)

-- the resolutions of the parts
abbrev pub parts_resolved : Template → Locals → Bindings → ℕ → List Draft
parts_resolved p L β r = each_resolved (template_parts p) L β (λ i. part_number p L β i r) 0

-- What stands at the root is that of the resolution with this number.
abbrev pub Gives : Resolved → Template → Locals → Bindings → ℕ → Type 0
Gives (root.Again e) p L β r = resolution p L β r ≡ again (shape (term_of e.now))
Gives (root.AgainName x) p L β r = resolution p L β r ≡ again (leaf (kind.Name x.now))
Gives (root.Term e) p L β r = resolution p L β r ≡ draft_of (shape (term_of e.now))
Gives (root.Name x) p L β r = resolution p L β r ≡ local_draft x.now
Gives (root.Node h) p L β r =
    (resolution p L β r ≡ as_is (head_kind h) (drafts (parts_resolved p L β r)))
    × HasParts (head_kind h) (length (template_parts p))
Gives (root.Element q n) p L β r =
    (resolution p L β r ≡ resolution (template_of q.now) L β n)
    × (n < count (template_of q.now) L β) × (n < 64000064)
    × (depth (template_of q.now) < depth p)
