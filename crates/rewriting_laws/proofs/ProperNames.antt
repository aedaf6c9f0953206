-- The locals of a proper program are names, and so are the targets of its statements.
use Rattle.std.proofs.Common.{◌≡◌, ◌⊎◌, ℕ, zero, suc, Bool, true, false, ◌||◌, List, [], ◌∷◌}
use Rattle.std.proofs.Common.{refl, sym, ap, ◌∙◌, inl, inr, subst}
use lib.Pointwise.{bytes_decides}
use Rattle.mpy_tree.specs.Locals.{assigned, is_among, locals, site_assigned}
use Rattle.mpy_tree.specs.Shapes.{action_shape, arms_shapes, last_shapes, routine_shapes}
use Rattle.mpy_tree.specs.Shapes.{statement_shapes}
use Rattle.mpy_tree.specs.Sites as program
use Rattle.mpy_tree.specs.Sites.{in_arms, in_last, inside, sites}
use Rattle.mpy_tree.specs.Syntax.{Action, Block, Branches, MaybeBlock, Routine, a_block, arm}
use Rattle.mpy_tree.specs.Syntax.{arm_and, at, end, no_arms, no_block, step}
use Rattle.mpy_tree.specs.Syntax as ast
use Rattle.mpy_tree.specs.Trees as kind
use Rattle.mpy_tree.specs.Trees.{Kind, Trees}
use Rattle.mpy_tree.specs.Values.{same_bytes}
use Rattle.choice_tree.specs.Contexts.{Context, Setting, Site, at_assign, at_for, below, scope_in}
use Rattle.choice_tree.specs.Contexts.{site_below}
use Rattle.choice_tree.specs.Rewriting.{In}
use Rattle.choice_tree.specs.Typing.{Scope, locals_of}
use Rattle.choice_tree.proofs.Lists.{Each, each_append, each_flat_map}
use Rattle.mpy_round_trip.specs.Proper.{AreProperTrees, IsName, IsProper, IsProperNode}
use Rattle.mpy_round_trip.specs.Proper.{IsProperTree}
use Rattle.input_space.proofs.Elements.{all_each}
use Rattle.rewriting_laws.proofs.Locals.{assigned_in, local_names}

-- WHAT IS ASSIGNED

abbrev AssignsNames : program.Site → Type 0
AssignsNames s = Each IsName (site_assigned s)

own_name : (loop : Bool) (line : ℕ) (act : Action) → IsProperTree loop (action_shape act line)
    → Each IsName (assigned act)
own_name loop line (ast.Assign x e) h = (h.0, tt)
own_name loop line (ast.Augment x op e) h = (h.0.0, tt)
own_name loop line (ast.For x e body) h = (h.0, tt)
own_name loop line _ h = tt

mutual
  sites_assign : (loop : Bool) (b : Block) → AreProperTrees loop (statement_shapes b)
      → Each AssignsNames (sites b)
  sites_assign loop end h = tt
  sites_assign loop (step (at line act) rest) h = (
    own_name loop line act h.0,
    each_append AssignsNames (inside act) (sites rest) (inside_assign loop line act h.0)
        (sites_assign loop rest h.1),
  )

  inside_assign : (loop : Bool) (line : ℕ) (act : Action)
      → IsProperTree loop (action_shape act line) → Each AssignsNames (inside act)
  inside_assign loop line (ast.If arms last) h =
      let both = arms_assign loop arms (last_shapes last) h.1 in
      each_append AssignsNames (in_arms arms) (in_last last) both.0 (last_assign loop last both.1)
  inside_assign loop line (ast.While e body) h = sites_assign true body h.1.1.0.1
  inside_assign loop line (ast.For x e body) h = sites_assign true body h.1.1.0.1
  inside_assign loop line _ h = tt

  arms_assign : (loop : Bool) (arms : Branches) (ts : Trees)
      → AreProperTrees loop (arms_shapes arms ts)
      → Each AssignsNames (in_arms arms) × AreProperTrees loop ts
  arms_assign loop no_arms ts h = (tt, h)
  arms_assign loop (arm_and (arm line e body) rest) ts h =
      let more = arms_assign loop rest ts h.1 in (
        (
          tt,
          each_append AssignsNames (sites body) (in_arms rest)
              (sites_assign loop body h.0.1.1.0.1) more.0,
        ),
        more.1,
      )

  last_assign : (loop : Bool) (last : MaybeBlock) → AreProperTrees loop (last_shapes last)
      → Each AssignsNames (in_last last)
  last_assign loop no_block h = tt
  last_assign loop (a_block body) h = sites_assign loop body h.0.1

-- LOCALS

there_too : (a b : Bool) → b ≡ true → a || b ≡ true
there_too true b h = refl
there_too false b h = h

one_or_other : (a b : Bool) → a || b ≡ true → (a ≡ true) ⊎ (b ≡ true)
one_or_other true b h = inl refl
one_or_other false b h = inr h

listed_among : (xs : List (List ℕ)) (x : List ℕ) → In x xs → is_among xs x ≡ true
listed_among [] x i = absurd i
listed_among (y ∷ ys) x i = elim i [
  | inl same ↦ ap (λ b. b || is_among ys x) ((bytes_decides x y).1 same)
  | inr later ↦ there_too (same_bytes x y) (is_among ys x) (listed_among ys x later)
]

name_among : (xs : List (List ℕ)) (x : List ℕ) → Each IsName xs → is_among xs x ≡ true
    → IsName x
name_among [] x all h = absurd (let z : false ≡ true = h in cc)
name_among (y ∷ ys) x all h = elim (one_or_other (same_bytes x y) (is_among ys x) h) [
  | inl same ↦ subst IsName (sym ((bytes_decides x y).0 same)) all.0
  | inr later ↦ name_among ys x all.1 later
]

local_is_name : (r : Routine) → Each IsName r.params → Each IsName (assigned_in r)
    → (x : List ℕ) → In x (locals r) → IsName x
local_is_name r params assigned x i =
    elim (one_or_other (is_among r.params x) (is_among (assigned_in r) x)
    (sym (local_names x r) ∙ listed_among (locals r) x i)) [
      | inl h ↦ name_among r.params x params h
      | inr h ↦ name_among (assigned_in r) x assigned h
    ]

locals_are_names : (rs : List Routine) (i : ℕ) → AreProperTrees false (routine_shapes rs)
    → (x : List ℕ) → In x (locals_of rs i) → IsName x
locals_are_names [] i h x j = absurd j
locals_are_names (r ∷ rs) zero h x j =
    local_is_name r (all_each IsName r.params h.0.0.1)
    (each_flat_map AssignsNames IsName site_assigned (sites r.body) (λ s named. named)
    (sites_assign false r.body h.0.1.0.1)) x j
locals_are_names (r ∷ rs) (suc i) h x j = locals_are_names rs i h.1 x j

-- WHERE A NODE STANDS

abbrev pub HasNames : Scope → Type 0
HasNames σ = (x : List ℕ) → In x (locals_of σ.program σ.number) → IsName x

pub names_in : (g : Setting) → IsProper g.program → (i : ℕ) → HasNames (scope_in g i)
names_in g h i = locals_are_names g.program i h.1

pub names_below : (g : Setting) (k : Kind) (i : ℕ) (c : Context)
    → ((j : ℕ) → HasNames (scope_in g j)) → HasNames c.scope → HasNames (below g k i c).scope
names_below g kind.Program i c all h = all i
names_below g _ i c all h = h

-- the target of a statement
abbrev pub HasTarget : Site → Type 0
HasTarget (at_assign x) = IsName x
HasTarget (at_for x) = IsName x
HasTarget _ = Unit {0}

pub target_below : (loop : Bool) (k : Kind) (ts : Trees) → IsProperNode loop k ts
    → HasTarget (site_below k)
target_below loop (kind.Assign line x) ts h = h
target_below loop (kind.For line x) ts h = h
target_below loop _ ts h = tt
