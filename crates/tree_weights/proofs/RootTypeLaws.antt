-- The type that is read off a root is that of the rules of typing.
use Rattle.std.proofs.Common.{◌≡◌, ℕ, ◌+◌, Bool, true, false, ◌&&◌, if◌then◌else◌, List, [], ◌∷◌, map}
use Rattle.std.proofs.Common.{Option, Some, None, refl, sym, ap, ◌∙◌, subst}
use Rattle.mpy_tree.specs.declared.builtins.Builtin.{Builtin}
use Rattle.mpy_tree.specs.declared.operators.ArithOp.{ArithOp}
use Rattle.mpy_tree.specs.declared.operators.ArithOp.TheVariants as arith
use Rattle.mpy_tree.specs.declared.operators.CmpOp.{CmpOp}
use Rattle.mpy_tree.specs.declared.operators.CmpOp.TheVariants as cmp
use Rattle.mpy_tree.specs.declared.typing.Fact.{Fact}
use Rattle.mpy_tree.specs.declared.typing.Slot.TheVariants as slot
use Rattle.mpy_tree.specs.declared.typing.Ty.{Ty}
use Rattle.mpy_tree.specs.declared.typing.Ty.TheVariants as ty
use Rattle.mpy_tree.specs.Builtins.{builtin_of}
use Rattle.mpy_tree.specs.Options.{◌>>=◌}
use Rattle.mpy_tree.specs.Rules.{all_numbers, are_arguments, arith_type, both_are}
use Rattle.mpy_tree.specs.Rules.{call_type, choice_type, compare_type, index_type, member_of}
use Rattle.mpy_tree.specs.Rules.{member_type, negative_type, order_type, product_type, same_type}
use Rattle.mpy_tree.specs.Rules.{single}
use Rattle.mpy_tree.specs.Rules.{slice_type, sum_type, type_if}
use Rattle.mpy_tree.specs.SetTypes.{Callee, called, called_from, callee}
use Rattle.mpy_tree.specs.Shapes.{program_shape, routine_shapes}
use Rattle.mpy_tree.specs.Syntax.{Routine}
use Rattle.mpy_tree.specs.Trees as kind
use Rattle.mpy_tree.specs.Trees.{Kind}
use Rattle.mpy_tree.specs.Typings.{set_of}
use Rattle.mpy_tree.specs.Values.{same_bytes}
use Rattle.choice_tree.specs.declared.tree.WFunc.{WFunc}
use Rattle.choice_tree.specs.declared.tree.WProg.{WProg}
use Rattle.choice_tree.specs.StatementViews.{weighted_func, weighted_prog}
use Rattle.choice_tree.specs.Typing.{node_type, of_one, of_two, of_three, types_of, type_of}
use Rattle.choice_tree.specs.WeightedTrees.{Weighted, Weighteds, plainly, pick, no_weighted}
use Rattle.choice_tree.specs.WeightedTrees.{weighted_and, base_of, bases_of}
use Rattle.choice_tree.specs.WeightedViews.{weighteds}
use Rattle.tree_weights.specs.Functions.{function, function_from, function_of}
use Rattle.tree_weights.specs.RootTypes.{called_type, first_type, result_type, root_type, type_at}
use Rattle.tree_weights.specs.TypeLaws.{functions_of, plain_scope, weighted_scope}

-- what a rule gives
type_if_is : (b : Bool) (u t : Ty) → type_if b u ≡ Some t → Some u ≡ Some t
type_if_is true u t h = h
type_if_is false u t h = cc

if_is : (b : Bool) (o : Option Ty) (t : Ty) → (if b then o else None) ≡ Some t → o ≡ Some t
if_is true o t h = h
if_is false o t h = cc

sum_first : (a b t : Ty) → sum_type a b ≡ Some t → Some a ≡ Some t
sum_first ty.Int ty.Int t h = h
sum_first ty.List ty.List t h = h
sum_first ty.Text ty.Text t h = h
sum_first _ _ t h = cc

product_first : (a b t : Ty) → product_type a b ≡ Some t → Some a ≡ Some t
product_first ty.Int ty.Int t h = h
product_first ty.List ty.Int t h = h
product_first ty.Text ty.Int t h = h
product_first _ _ t h = cc

slice_first : (a t : Ty) → slice_type a ≡ Some t → Some a ≡ Some t
slice_first ty.List t h = h
slice_first ty.Text t h = h
slice_first _ t h = cc

index_first : (a b t : Ty) → index_type a b ≡ Some t → member_of a ≡ Some t
index_first a ty.Int t h = h
index_first a _ t h = cc

member_is_bool : (a b t : Ty) → member_type a b ≡ Some t → Some ty.Bool ≡ Some t
member_is_bool ty.Int ty.List t h = h
member_is_bool ty.Text ty.Text t h = h
member_is_bool _ _ t h = cc

order_is_bool : (a b t : Ty) → order_type a b ≡ Some t → Some ty.Bool ≡ Some t
order_is_bool ty.Int ty.Int t h = h
order_is_bool _ _ t h = cc

compare_is_bool : (op : CmpOp) (a b t : Ty) → compare_type op a b ≡ Some t → Some ty.Bool ≡ Some t
compare_is_bool cmp.Eq a b t h = if_is (same_type a b) (Some ty.Bool) t h
compare_is_bool cmp.Ne a b t h = if_is (same_type a b) (Some ty.Bool) t h
compare_is_bool cmp.Member a b t h = member_is_bool a b t h
compare_is_bool cmp.NotMember a b t h = member_is_bool a b t h
compare_is_bool _ a b t h = order_is_bool a b t h

both_give : (u a b t : Ty) → both_are u a b ≡ Some t → Some u ≡ Some t
both_give u a b t h = by_test (same_type u a) (same_type u b) h
  where
    by_test : (x y : Bool) → (if x && y then Some u else None) ≡ Some t → Some u ≡ Some t
    by_test true true e = e
    by_test true false e = cc
    by_test false y e = cc

-- the type of the first part, if it has one
abbrev FirstIs : List (Option Ty) → Option Ty → Type 0
FirstIs [] o = Unit {0}
FirstIs (r ∷ rs) o = (t : Ty) → r ≡ Some t → o ≡ Some t

first_is : (os : List (Option Ty)) (o : Option Ty) (a : Ty) (rest : List (Option Ty))
    → os ≡ Some a ∷ rest → FirstIs os o → o ≡ Some a
first_is os o a rest e first = (subst (λ xs. FirstIs xs o) e first) a refl

-- of a node that has a type, with one part, with two, and with three
record One (f : Ty → Option Ty) (os : List (Option Ty)) (t : Ty) : Type 0 where
  a : Ty
  are : os ≡ Some a ∷ []
  gives : f a ≡ Some t

one_part : (f : Ty → Option Ty) (os : List (Option Ty)) (t : Ty) → of_one f os ≡ Some t
    → One f os t
one_part f [] t h = cc
one_part f (None ∷ []) t h = cc
one_part f (Some a ∷ []) t h = record { a = a; are = refl; gives = h }
one_part f (o ∷ q ∷ os) t h = cc

record Two (f : Ty → Ty → Option Ty) (os : List (Option Ty)) (t : Ty) : Type 0 where
  a : Ty
  b : Ty
  are : os ≡ Some a ∷ Some b ∷ []
  gives : f a b ≡ Some t

two_parts : (f : Ty → Ty → Option Ty) (os : List (Option Ty)) (t : Ty) → of_two f os ≡ Some t
    → Two f os t
two_parts f [] t h = cc
two_parts f (o ∷ []) t h = cc
two_parts f (None ∷ q ∷ []) t h = cc
two_parts f (Some a ∷ None ∷ []) t h = cc
two_parts f (Some a ∷ Some b ∷ []) t h = record { a = a; b = b; are = refl; gives = h }
two_parts f (o ∷ q ∷ r ∷ os) t h = cc

record Three (f : Ty → Ty → Ty → Option Ty) (os : List (Option Ty)) (t : Ty) : Type 0 where
  a : Ty
  b : Ty
  c : Ty
  are : os ≡ Some a ∷ Some b ∷ Some c ∷ []
  gives : f a b c ≡ Some t

three_parts : (f : Ty → Ty → Ty → Option Ty) (os : List (Option Ty)) (t : Ty)
    → of_three f os ≡ Some t → Three f os t
three_parts f [] t h = cc
three_parts f (o ∷ []) t h = cc
three_parts f (o ∷ q ∷ []) t h = cc
three_parts f (None ∷ q ∷ r ∷ []) t h = cc
three_parts f (Some a ∷ None ∷ r ∷ []) t h = cc
three_parts f (Some a ∷ Some b ∷ None ∷ []) t h = cc
three_parts f (Some a ∷ Some b ∷ Some c ∷ []) t h =
    record { a = a; b = b; c = c; are = refl; gives = h }
three_parts f (o ∷ q ∷ r ∷ s ∷ os) t h = cc

negative_is : (a t : Ty) → negative_type a ≡ Some t → Some ty.Int ≡ Some t
negative_is ty.Int t h = h
negative_is _ t h = cc

module _ (facts : List Fact) (p : List Routine) (w : WProg) (entry i : ℕ) where
  abbrev given : Option Callee → Option Ty
  given None = None
  given (Some g) = single (set_of facts) g.number slot.Result

  -- a call, by what the name is
  call_gives : (own : Option Ty) (b : Option Builtin) (g : Option Callee) (os : List (Option Ty))
      (r : Option Ty) (t : Ty) → given g ≡ r
      → call_type (single (set_of facts)) own b g os ≡ Some t → called_type b r ≡ Some t
  call_gives (Some u) b g os r t e h = cc
  call_gives None (Some b) g os r t e h = type_if_is _ _ t h
  call_gives None None None os r t e h = cc
  call_gives None None (Some g) os r t e h =
      sym e ∙ if_is (are_arguments (single (set_of facts)) g.number g.routine.params os)
      (single (set_of facts) g.number slot.Result) t h

  -- the functions of both programs have one order
  same_result : (rs : List Routine) (fs : List WFunc) (f : List ℕ) (n : ℕ)
      → routine_shapes rs ≡ bases_of (weighteds (map weighted_func fs))
      → given (called_from rs f n)
      ≡ result_type (weighted_scope facts w entry i)
      (function_from (weighteds (map weighted_func fs)) f n)
  same_result [] [] f n h = refl
  same_result [] (x ∷ fs) f n h = cc
  same_result (r ∷ rs) [] f n h = cc
  same_result (r ∷ rs) (x ∷ fs) f n h =
      let name : r.name ≡ x.name = cc in
      let rest : routine_shapes rs ≡ bases_of (weighteds (map weighted_func fs)) = cc in
      by_name (same_bytes f r.name) (same_bytes f x.name) (ap (same_bytes f) name)
      (same_result rs fs f (n + 1) rest)
    where
      by_name : (a b : Bool) → a ≡ b
          → given (called_from rs f (n + 1))
          ≡ result_type (weighted_scope facts w entry i)
          (function_from (weighteds (map weighted_func fs)) f (n + 1))
          → given (if a then Some (callee n r) else called_from rs f (n + 1))
          ≡ result_type (weighted_scope facts w entry i)
          (if b then Some (function n (weighted_func x))
          else function_from (weighteds (map weighted_func fs)) f (n + 1))
      by_name true true e rest = refl
      by_name true false e rest = cc
      by_name false true e rest = cc
      by_name false false e rest = rest

  -- an operator, by the types of its operands
  op_gives : (op : ArithOp) (a b t : Ty) (o : Option Ty) → o ≡ Some a → arith_type op a b ≡ Some t
      → root_type (weighted_scope facts w entry i) (kind.Arith op) o ≡ Some t
  op_gives arith.Add a b t o e h = e ∙ sum_first a b t h
  op_gives arith.Mul a b t o e h = e ∙ product_first a b t h
  op_gives _ a b t o e h = both_give ty.Int a b t h

  module _ (same : program_shape p ≡ base_of (weighted_prog w)) where
    by_root : (k : Kind) (os : List (Option Ty)) (o : Option Ty) (t : Ty) → FirstIs os o
        → node_type (plain_scope facts p i) k os ≡ Some t
        → root_type (weighted_scope facts w entry i) k o ≡ Some t
    by_root (kind.Int n) os o t first h = h
    by_root (kind.Bool b) os o t first h = h
    by_root (kind.Text cs) os o t first h = h
    by_root (kind.Name x) os o t first h = h
    by_root kind.List os o t first h = type_if_is (all_numbers os) ty.List t h
    by_root kind.Neg os o t first h =
        let r = one_part negative_type os t h in negative_is r.a t r.gives
    by_root kind.Not os o t first h =
        let r = one_part (λ u. Some ty.Bool) os t h in r.gives
    by_root (kind.Arith op) os o t first h =
        let r = two_parts (arith_type op) os t h in
        op_gives op r.a r.b t o (first_is os o r.a (Some r.b ∷ []) r.are first) r.gives
    by_root (kind.Cmp op) os o t first h =
        let r = two_parts (compare_type op) os t h in compare_is_bool op r.a r.b t r.gives
    by_root kind.And os o t first h =
        let r = two_parts (both_are ty.Bool) os t h in both_give ty.Bool r.a r.b t r.gives
    by_root kind.Or os o t first h =
        let r = two_parts (both_are ty.Bool) os t h in both_give ty.Bool r.a r.b t r.gives
    by_root kind.Cond os o t first h =
        let r = three_parts (λ yes test no. choice_type yes no) os t h in
        first_is os o r.a (Some r.b ∷ Some r.c ∷ []) r.are first
        ∙ if_is (same_type r.a r.c) (Some r.a) t r.gives
    by_root kind.Index os o t first h =
        let r = two_parts index_type os t h in
        ap (λ q. q >>= member_of) (first_is os o r.a (Some r.b ∷ []) r.are first)
        ∙ index_first r.a r.b t r.gives
    by_root (kind.Slice from to) (Some a ∷ ends) o t first h =
        first a refl ∙ slice_first a t (if_is (all_numbers ends) (slice_type a) t h)
    by_root (kind.Slice from to) _ o t first h = cc
    by_root (kind.Call f) os o t first h =
        let shapes : routine_shapes p ≡ bases_of (functions_of w) = cc in
        call_gives (single (set_of facts) i (slot.Local f)) (builtin_of f) (called p f) os
        (result_type (weighted_scope facts w entry i) (function_of (functions_of w) f)) t
        (same_result p w.funcs.items.items f 0 shapes) h
    by_root _ os o t first h = cc

    mutual
      typed : (e : Weighted) (t : Ty) → type_of (plain_scope facts p i) (base_of e) ≡ Some t
          → type_at (weighted_scope facts w entry i) e ≡ Some t
      typed (plainly k ws) t h =
          by_root k (types_of (plain_scope facts p i) (bases_of ws))
          (first_type (weighted_scope facts w entry i) ws) t (first_typed ws) h
      typed (pick number base os) t h = typed base t h

      first_typed : (ws : Weighteds) → FirstIs (types_of (plain_scope facts p i) (bases_of ws))
          (first_type (weighted_scope facts w entry i) ws)
      first_typed no_weighted = tt
      first_typed (weighted_and e ws) = λ t h. typed e t h

    pub root_typed : (e : Weighted) (t : Ty) → type_of (plain_scope facts p i) (base_of e) ≡ Some t
        → type_at (weighted_scope facts w entry i) e ≡ Some t
    root_typed e t h = typed e t h
