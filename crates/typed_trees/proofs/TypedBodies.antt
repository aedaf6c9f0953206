-- The weighted tree of a body is typed where its statements are.
use Rattle.std.proofs.Common.{◌≡◌, ℕ, suc, Bool, true, false, refl, sym}
use Rattle.std.proofs.Common.{ap, ◌∙◌, subst, ◌&&◌, Option, Some, None, IsSome, IsTrue, is_some}
use Rattle.mpy_tree.specs.declared.operators.ArithOp.{ArithOp}
use Rattle.mpy_tree.specs.declared.typing.Ty.{Ty}
use Rattle.mpy_tree.specs.declared.typing.Ty.TheVariants as ty
use Rattle.mpy_tree.specs.Rules.{augment_obeys, is_type, type_in}
use Rattle.mpy_tree.specs.Shapes.{action_shape, arms_shapes, block_shape, last_shapes, shape}
use Rattle.mpy_tree.specs.Shapes.{statement_shapes}
use Rattle.mpy_tree.specs.Sites.{Site as Place, asks, does, in_arms, in_last, inside, sites}
use Rattle.mpy_tree.specs.Syntax.{Action, Block, Branches, MaybeBlock, Term, a_block, a_term, arm}
use Rattle.mpy_tree.specs.Syntax.{arm_and, at, end, no_arms, no_block, no_term, step}
use Rattle.mpy_tree.specs.Syntax as ast
use Rattle.mpy_tree.specs.Trees as kind
use Rattle.mpy_tree.specs.Trees.{Kind, Trees, no_trees, node, one, two}
use Rattle.choice_tree.specs.Contexts.{Context, Setting, Site, at_assign, at_for, at_if, at_return}
use Rattle.choice_tree.specs.Contexts.{at_while, below, copies, elsewhere}
use Rattle.choice_tree.specs.Growing.{grown, parts_grown}
use Rattle.choice_tree.specs.Typing.{Scope, same_type}
use Rattle.choice_tree.specs.Typing as trees
use Rattle.choice_tree.specs.WeightedTrees.{plainly}
use Rattle.choice_tree.proofs.ShapeTypes.{shape_type}
use Rattle.choice_tree.proofs.Types.{both_true}
use Rattle.mpy_types.proofs.Every.{Every, every_front, every_rest}
use Rattle.sym_nodes.specs.Plain.{type_of}
use Rattle.typed_trees.specs.TypedStatements.{AreTyped, IsTyped, appends, goes_over, local_type}
use Rattle.typed_trees.specs.TypedStatements.{puts, result_type}
use Rattle.typed_trees.specs.Wholes.{MakeWholes}
use Rattle.typed_trees.proofs.GrownStatements.{statement_grown}
use Rattle.typed_trees.proofs.GrownTypes.{grown_keeps}
use Rattle.typed_trees.proofs.PartTypes.{number_there}
use Rattle.typed_trees.proofs.WholeShapes.{shape_whole}

-- the type of a term in the function
abbrev pub term_type : Scope → Term → Option Ty
term_type σ e = type_in σ.slots σ.program σ.number e

-- the terms of a statement, without those inside of it, have the types that its rule asks, and what
-- it assigns or returns has that of its slot
abbrev pub is_typed_act : Scope → Action → Bool
is_typed_act σ (ast.Assign x e) = same_type (term_type σ e) (local_type σ x)
is_typed_act σ (ast.Augment x op e) = augment_obeys op (local_type σ x) (term_type σ e)
is_typed_act σ (ast.Put x i e) = puts (local_type σ x) (term_type σ i) (term_type σ e)
is_typed_act σ (ast.AugmentAt x i op e) = puts (local_type σ x) (term_type σ i) (term_type σ e)
is_typed_act σ (ast.Append x e) = appends (local_type σ x) (term_type σ e)
is_typed_act σ (ast.Print e) = is_some (term_type σ e)
is_typed_act σ (ast.Return no_term) = true
is_typed_act σ (ast.Return (a_term e)) = same_type (term_type σ e) (result_type σ)
is_typed_act σ ast.Pass = true
is_typed_act σ ast.Break = true
is_typed_act σ ast.Continue = true
is_typed_act σ (ast.If arms last) = true
is_typed_act σ (ast.While e body) = is_some (term_type σ e)
is_typed_act σ (ast.For x e body) = goes_over (local_type σ x) (term_type σ e)

abbrev pub is_typed_place : Scope → Place → Bool
is_typed_place σ (does line act) = is_typed_act σ act
is_typed_place σ (asks line e) = is_some (term_type σ e)

abbrev pub IsTypedPlace : Scope → Place → Type 0
IsTypedPlace σ s = IsTrue (is_typed_place σ s)

-- a rule that holds asks for a type
same_there : (o q : Option Ty) → same_type o q ≡ true → IsSome o
same_there None q h = cc
same_there (Some t) q h = refl

pub augment_there : (op : ArithOp) (o q : Option Ty) → augment_obeys op o q ≡ true → IsSome q
augment_there op None q h = cc
augment_there op (Some t) None h = cc
augment_there op (Some t) (Some u) h = refl

member_there : (x o : Option Ty) → goes_over x o ≡ true → IsSome o
member_there x None h = cc
member_there x (Some t) h = refl

puts_there : (x i e : Option Ty) → puts x i e ≡ true → IsSome i × IsSome e
puts_there x i e h =
    let list = is_type ty.List x in
    let all = both_true (list && is_type ty.Int i) (is_type ty.Int e) h in
    (number_there i (both_true list (is_type ty.Int i) all.0).1, number_there e all.1)

appends_there : (x e : Option Ty) → appends x e ≡ true → IsSome e
appends_there x e h =
    number_there e (both_true (is_type ty.List x) (is_type ty.Int e) h).1

module _ (g : Setting) (wholes : MakeWholes g.rules) where
  -- the weighted tree of a term has its type
  term_grown : (m : ℕ) (s : Site) (c : Context) (e : Term) → IsSome (term_type c.scope e)
      → type_of c.scope (grown g m s c (shape e)) ≡ term_type c.scope e
  term_grown m s c e h =
      let same = shape_type c.scope e in
      grown_keeps g wholes m s c (shape e) (shape_whole e, ap is_some same ∙ h) ∙ same

  -- so a test passes that its type passes
  passes : (test : Option Ty → Bool) (m : ℕ) (s : Site) (c : Context) (e : Term)
      → IsSome (term_type c.scope e) → test (term_type c.scope e) ≡ true
      → test (type_of c.scope (grown g m s c (shape e))) ≡ true
  passes test m s c e h f = ap test (term_grown m s c e h) ∙ f

  -- a statement over the weighted trees of its parts
  pub over_parts : (n : ℕ) (s : Site) (c : Context) (k : Kind) (ts : Trees)
      → trees.type_of c.scope (node k ts) ≡ None → copies c (node k ts) ≡ false
      → ((m : ℕ) → IsTyped c.scope (plainly k (parts_grown g (grown g m) ts k 0 c)))
      → IsTyped c.scope (grown g n s c (node k ts))
  over_parts n s c k ts none apart h =
      let w = statement_grown g n s c k ts none apart in
      subst (IsTyped c.scope) (sym w.1) (h w.0)

  mutual
    pub statements_grown : (b : Block) (m i : ℕ) (c : Context)
        → Every (IsTypedPlace c.scope) (sites b)
        → AreTyped c.scope (parts_grown g (grown g m) (statement_shapes b) kind.Block i c)
    statements_grown end m i c h = tt
    statements_grown (step (at line act) rest) m i c h = (
      act_grown act line m elsewhere (below g kind.Block i c) h.0
          (every_front (IsTypedPlace c.scope) (inside act) (sites rest) h.1),
      statements_grown rest m (suc i) c
          (every_rest (IsTypedPlace c.scope) (inside act) (sites rest) h.1),
    )

    act_grown : (act : Action) (line n : ℕ) (s : Site) (c : Context)
        → is_typed_act c.scope act ≡ true → Every (IsTypedPlace c.scope) (inside act)
        → IsTyped c.scope (grown g n s c (action_shape act line))
    act_grown (ast.Assign x e) line n s c f h =
        let k = kind.Assign line x in
        let local = local_type c.scope x in
        over_parts n s c k (one (shape e)) refl refl
        (λ m. passes (λ o. same_type o local) m (at_assign x) (below g k 0 c) e
        (same_there (term_type c.scope e) local f) f)
    act_grown (ast.Augment x op e) line n s c f h =
        let k = kind.Augment line x op in
        let local = local_type c.scope x in
        over_parts n s c k (one (shape e)) refl refl
        (λ m. passes (augment_obeys op local) m elsewhere (below g k 0 c) e
        (augment_there op local (term_type c.scope e) f) f)
    act_grown (ast.Put x i e) line n s c f h =
        let k = kind.Put line x in
        let local = local_type c.scope x in
        let there = puts_there local (term_type c.scope i) (term_type c.scope e) f in
        over_parts n s c k (two (shape i) (shape e)) refl refl
        (λ m. (λ j. puts local
        (term_grown m elsewhere (below g k 0 c) i there.0 j)
        (term_grown m elsewhere (below g k 1 c) e there.1 j)) ∙ f)
    act_grown (ast.AugmentAt x i op e) line n s c f h =
        let k = kind.AugmentAt line x op in
        let local = local_type c.scope x in
        let there = puts_there local (term_type c.scope i) (term_type c.scope e) f in
        over_parts n s c k (two (shape i) (shape e)) refl refl
        (λ m. (λ j. puts local
        (term_grown m elsewhere (below g k 0 c) i there.0 j)
        (term_grown m elsewhere (below g k 1 c) e there.1 j)) ∙ f)
    act_grown (ast.Append x e) line n s c f h =
        let k = kind.Append line x in
        let local = local_type c.scope x in
        over_parts n s c k (one (shape e)) refl refl
        (λ m. passes (appends local) m elsewhere (below g k 0 c) e
        (appends_there local (term_type c.scope e) f) f)
    act_grown (ast.Print e) line n s c f h =
        let k = kind.Print line in
        over_parts n s c k (one (shape e)) refl refl
        (λ m. passes is_some m elsewhere (below g k 0 c) e f f)
    act_grown (ast.Return no_term) line n s c f h =
        over_parts n s c (kind.Return line) no_trees refl refl (λ m. refl)
    act_grown (ast.Return (a_term e)) line n s c f h =
        let k = kind.Return line in
        let result = result_type c.scope in
        over_parts n s c k (one (shape e)) refl refl
        (λ m. passes (λ o. same_type o result) m at_return (below g k 0 c) e
        (same_there (term_type c.scope e) result f) f)
    act_grown ast.Pass line n s c f h =
        over_parts n s c (kind.Pass line) no_trees refl refl (λ m. refl)
    act_grown ast.Break line n s c f h =
        over_parts n s c (kind.Break line) no_trees refl refl (λ m. refl)
    act_grown ast.Continue line n s c f h =
        over_parts n s c (kind.Continue line) no_trees refl refl (λ m. refl)
    act_grown (ast.If arms last) line n s c f h =
        let ends = every_rest (IsTypedPlace c.scope) (in_arms arms) (in_last last) h in
        over_parts n s c (kind.If line) (arms_shapes arms (last_shapes last)) refl refl
        (λ m. arms_grown arms line m 0 c (last_shapes last)
        (every_front (IsTypedPlace c.scope) (in_arms arms) (in_last last) h)
        (λ i. last_grown last line m i c ends))
    act_grown (ast.While e body) line n s c f h =
        let k = kind.While line in
        over_parts n s c k (two (shape e) (block_shape body)) refl refl
        (λ m. (
          passes is_some m at_while (below g k 0 c) e f f,
          over_parts m at_while (below g k 1 c) kind.Block (statement_shapes body) refl refl
              (λ j. statements_grown body j 0 (below g k 1 c) h),
        ))
    act_grown (ast.For x e body) line n s c f h =
        let k = kind.For line x in
        let local = local_type c.scope x in
        over_parts n s c k (two (shape e) (block_shape body)) refl refl
        (λ m. (
          passes (goes_over local) m (at_for x) (below g k 0 c) e
              (member_there local (term_type c.scope e) f) f,
          over_parts m (at_for x) (below g k 1 c) kind.Block (statement_shapes body) refl refl
              (λ j. statements_grown body j 0 (below g k 1 c) h),
        ))

    -- before other parts
    arms_grown : (arms : Branches) (line m i : ℕ) (c : Context) (ts : Trees)
        → Every (IsTypedPlace c.scope) (in_arms arms)
        → ((j : ℕ) → AreTyped c.scope (parts_grown g (grown g m) ts (kind.If line) j c))
        → AreTyped c.scope (parts_grown g (grown g m) (arms_shapes arms ts) (kind.If line) i c)
    arms_grown no_arms line m i c ts h rest = rest i
    arms_grown (arm_and (arm on e body) arms) line m i c ts h rest =
        let d = below g (kind.If line) i c in
        let k = kind.Arm on in (
          over_parts m elsewhere d k (two (shape e) (block_shape body)) refl refl
              (λ j. (
                passes is_some j at_if (below g k 0 d) e h.0 h.0,
                over_parts j at_if (below g k 1 d) kind.Block (statement_shapes body) refl refl
                    (λ q. statements_grown body q 0 (below g k 1 d)
                    (every_front (IsTypedPlace c.scope) (sites body) (in_arms arms) h.1)),
              )),
          arms_grown arms line m (suc i) c ts
              (every_rest (IsTypedPlace c.scope) (sites body) (in_arms arms) h.1) rest,
        )

    last_grown : (last : MaybeBlock) (line m i : ℕ) (c : Context)
        → Every (IsTypedPlace c.scope) (in_last last)
        → AreTyped c.scope (parts_grown g (grown g m) (last_shapes last) (kind.If line) i c)
    last_grown no_block line m i c h = tt
    last_grown (a_block body) line m i c h =
        let d = below g (kind.If line) i c in (
          over_parts m elsewhere d kind.Block (statement_shapes body) refl refl
              (λ j. statements_grown body j 0 d h),
          tt,
        )
