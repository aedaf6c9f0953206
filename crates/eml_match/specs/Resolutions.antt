-- The resolution of a right side that has a number, counted from 0; what is written last varies
-- fastest.
use Rattle.std.specs.Prelude.{ℕ, suc, ◌+◌, ◌*◌, ◌-◌, ◌/◌, ◌%◌, max, nat_lt, Bool, true, false}
use Rattle.std.specs.Prelude.{if◌then◌else◌, List, [], ◌∷◌, ◌++◌, length, Option, Some, None}
use Rattle.std.specs.Prelude.{slice_get}
use Rattle.choice_tree.specs.declared.rules.Meta.{Meta}
use Rattle.mpy_tree.specs.Trees as kind
use Rattle.mpy_tree.specs.Trees.{Kind, Tree}
use Rattle.choice_tree.specs.Templates.{NodeTemplate, exactly, Template, Templates, made, hole}
use Rattle.choice_tree.specs.Templates.{one_of, some_local, no_templates, template_and}
use Rattle.choice_tree.specs.Typing.{Scope}
use Rattle.choice_tree.specs.Matching.{Bindings}
use Rattle.choice_tree.specs.Drafts.{Draft, Drafts, again, no_drafts, draft_and, draft_of}
use Rattle.choice_tree.specs.Drafts.{bound_term, node_resolutions, locals_like, local_draft, as_is}

-- a node of this kind over these parts
abbrev pub node_draft : Drafts → Kind → Draft
node_draft ds k = as_is k ds

-- the locals of the type of a bound term, of which there is one at most
abbrev pub bound_locals : Scope → List Tree → List (List ℕ)
bound_locals σ [] = []
bound_locals σ (t ∷ ts) = locals_like σ t ++ bound_locals σ ts

-- the locals that ?$m may be, for each metavariable
abbrev pub Locals : Type 0
Locals = Meta → List (List ℕ)

abbrev pub locals_for : Scope → Bindings → Locals
locals_for σ β m = bound_locals σ (bound_term β m)

-- the nodes of an operator set, in order; another node is one
abbrev pub kind_count : Bindings → NodeTemplate → ℕ
kind_count β (exactly k) = 1
kind_count β k = length (node_resolutions β k)

abbrev pub kind_at : Bindings → NodeTemplate → ℕ → Option Kind
kind_at β (exactly k) r = Some k
kind_at β k r = slice_get (node_resolutions β k) r

-- how many there are
abbrev mutual
  pub count : Template → Locals → Bindings → ℕ
  count (made (exactly k) ps) L β = count_all ps L β
  count (made k no_templates) L β = kind_count β k
  count (made k (template_and p ps)) L β = count p L β * (kind_count β k * count_all ps L β)
  count (hole m) L β = length (bound_term β m)
  count (one_of ps) L β = count_each ps L β
  count (some_local m) L β = length (L m)

  pub count_all : Templates → Locals → Bindings → ℕ
  count_all no_templates L β = 1
  count_all (template_and p no_templates) L β = count p L β
  count_all (template_and p (template_and q ps)) L β =
      count p L β * count_all (template_and q ps) L β

  pub count_each : Templates → Locals → Bindings → ℕ
  count_each no_templates L β = 0
  count_each (template_and p ps) L β = count p L β + count_each ps L β

abbrev pub no_draft : Draft
no_draft = node_draft no_drafts kind.List

abbrev pub of_kind : Option Kind → Drafts → Draft
of_kind None ds = no_draft
of_kind (Some k) ds = node_draft ds k

abbrev pub of_bound : Bool → List Tree → Draft
of_bound primed [] = no_draft
of_bound true (t ∷ ts) = again t
of_bound false (t ∷ ts) = draft_of t

abbrev pub of_local : Option (List ℕ) → Draft
of_local None = no_draft
of_local (Some x) = local_draft x

abbrev mutual
  pub resolution : Template → Locals → Bindings → ℕ → Draft
  resolution (made (exactly k) ps) L β r = node_draft (resolution_all ps L β r) k
  resolution (made k no_templates) L β r = of_kind (kind_at β k r) no_drafts
  resolution (made k (template_and p ps)) L β r =
      of_kind (kind_at β k (r / count_all ps L β % kind_count β k))
      (draft_and (resolution p L β (r / count_all ps L β / kind_count β k))
      (resolution_all ps L β (r % count_all ps L β)))
  resolution (hole m) L β r = of_bound m.primed (bound_term β m)
  resolution (one_of ps) L β r = resolution_of ps L β r
  resolution (some_local m) L β r = of_local (slice_get (L m) r)

  pub resolution_all : Templates → Locals → Bindings → ℕ → Drafts
  resolution_all no_templates L β r = no_drafts
  resolution_all (template_and p no_templates) L β r = draft_and (resolution p L β r) no_drafts
  resolution_all (template_and p (template_and q ps)) L β r =
      draft_and (resolution p L β (r / count_all (template_and q ps) L β))
      (resolution_all (template_and q ps) L β (r % count_all (template_and q ps) L β))

  -- of the elements of a set
  pub resolution_of : Templates → Locals → Bindings → ℕ → Draft
  resolution_of no_templates L β r = no_draft
  resolution_of (template_and p ps) L β r =
      if nat_lt r (count p L β) then resolution p L β r else resolution_of ps L β (r - count p L β)

-- how deep a side of a rule is
abbrev mutual
  pub depth : Template → ℕ
  depth (made k ps) = suc (depths ps)
  depth (hole m) = 1
  depth (one_of ps) = suc (depths ps)
  depth (some_local m) = 1

  pub depths : Templates → ℕ
  depths no_templates = 0
  depths (template_and p ps) = max (depth p) (depths ps)
