-- What flows from an expression that has a type is that type.
use Rattle.std.proofs.Common.{◌≡◌, ℕ, Bool, true, false, ◌&&◌, List, Option, Some, None, if◌then◌else◌, IsTrue, refl, sym, ap, ◌∙◌, subst}
use Rattle.std.specs.Prelude.{is_some, length}
use Rattle.mpy_tree.specs.declared.operators.ArithOp.{ArithOp}
use Rattle.mpy_tree.specs.declared.operators.ArithOp.TheVariants.{Add, Sub, Mul, Floor, Rem, Power}
use Rattle.mpy_tree.specs.declared.builtins.Builtin.{Builtin}
use Rattle.mpy_tree.specs.declared.typing.Ty.{Ty}
use Rattle.mpy_tree.specs.declared.typing.Ty.TheVariants as ty
use Rattle.mpy_tree.specs.declared.typing.Slot.TheVariants as slot
use Rattle.mpy_tree.specs.declared.typing.TypeSet.{TypeSet}
use Rattle.mpy_tree.specs.Syntax.{Term, Terms, MaybeTerm, Routine}
use Rattle.mpy_tree.specs.Syntax as ast
use Rattle.mpy_tree.specs.Builtins.{builtin_of, takes}
use Rattle.mpy_tree.specs.TypeSets.{has, just, join, members, only, only_of, IsWithin}
use Rattle.mpy_tree.specs.SetTypes.{FactSet, types_in, arith_types, call_types, Callee, called, builtin_gives}
use Rattle.mpy_tree.specs.Options.{◌>>=◌ as ◌>?◌}
use Rattle.mpy_tree.specs.Rules.{single, type_in, same_type, member_of, arith_type, sum_type, product_type, both_are, negative_type, compare_type, index_type, slice_type, choice_type, are_operands, called_type, are_arguments, all_numbers, all_types, end_types}
use Rattle.mpy_type_laws.proofs.WholeFacts.{join_same}
use Rattle.typed_programs.proofs.Operators.{truth_is}
use Rattle.typed_programs.proofs.Arguments.{if_given}
use Rattle.typed_programs.proofs.Expressions.{truths, first_of, if_some, not_local}

-- a set with the one type t is the set of t
only_just : (a b c d : Bool) (t : Ty) → only_of a b c d ≡ Some t → record { int = a; bool = b; list = c; text = d } ≡ just t
only_just true false false false ty.Int e = refl
only_just true false false false ty.Bool e = absurd (cc)
only_just true false false false ty.List e = absurd (cc)
only_just true false false false ty.Text e = absurd (cc)
only_just false true false false ty.Bool e = refl
only_just false true false false ty.Int e = absurd (cc)
only_just false true false false ty.List e = absurd (cc)
only_just false true false false ty.Text e = absurd (cc)
only_just false false true false ty.List e = refl
only_just false false true false ty.Int e = absurd (cc)
only_just false false true false ty.Bool e = absurd (cc)
only_just false false true false ty.Text e = absurd (cc)
only_just false false false true ty.Text e = refl
only_just false false false true ty.Int e = absurd (cc)
only_just false false false true ty.Bool e = absurd (cc)
only_just false false false true ty.List e = absurd (cc)
only_just true true c d t e = absurd (cc)
only_just true false true d t e = absurd (cc)
only_just true false false true t e = absurd (cc)
only_just false true true d t e = absurd (cc)
only_just false true false true t e = absurd (cc)
only_just false false true true t e = absurd (cc)
only_just false false false false t e = absurd (cc)

pub set_is : (s : TypeSet) (t : Ty) → only s ≡ Some t → s ≡ just t
set_is s t e = only_just s.int s.bool s.list s.text t e

-- a type within the set of one type is that type
is_one : (t u : Ty) → IsTrue (has (just u) t) → t ≡ u
is_one ty.Int ty.Int h = refl
is_one ty.Bool ty.Bool h = refl
is_one ty.List ty.List h = refl
is_one ty.Text ty.Text h = refl
is_one _ _ h = absurd (cc)

pub has_one : (t : Ty) → IsTrue (has (just t) t)
has_one ty.Int = refl
has_one ty.Bool = refl
has_one ty.List = refl
has_one ty.Text = refl

one_within : (s w : TypeSet) (t u : Ty) → s ≡ just t → IsWithin s w → only w ≡ Some u → t ≡ u
one_within s w t u e h k =
    let P : TypeSet → Type 0 = λ x. IsTrue (has x t) in
    is_one t u (subst P (set_is w u k) (h t (subst P (sym e) (has_one t))))

pub some_type : (o : Option Ty) → IsTrue (is_some o) → (t : Ty) × (o ≡ Some t)
some_type None h = absurd (cc)
some_type (Some t) h = (t, refl)

-- where a set with the one type t flows into a set with one type, that is t
pub settled : (s w : TypeSet) (t : Ty) → s ≡ just t → IsWithin s w → IsTrue (is_some (only w)) → only w ≡ Some t
settled s w t e h k =
    let u = some_type (only w) k in
    u.1 ∙ ap Some (sym (one_within s w t u.0 e h u.1))

-- the types of an expression that has one type
bind_some : (o : Option Ty) (f : Ty → Option Ty) (t : Ty) → (o >? f) ≡ Some t → (a : Ty) × (o ≡ Some a) × (f a ≡ Some t)
bind_some None f t e = absurd (cc)
bind_some (Some a) f t e = (a, refl, e)

joined : (s w : TypeSet) (a b t : Ty) → s ≡ just a → w ≡ just b → a ≡ t → b ≡ t → join s w ≡ just t
joined s w a b t e f g h =
    ap (λ x. join x w) (e ∙ ap just g) ∙ ap (join (just t)) (f ∙ ap just h) ∙ join_same t

sum_is : (a b t : Ty) → sum_type a b ≡ Some t → (a ≡ t) × (b ≡ t)
sum_is ty.Int ty.Int t e = (cc, cc)
sum_is ty.List ty.List t e = (cc, cc)
sum_is ty.Text ty.Text t e = (cc, cc)
sum_is _ _ t e = absurd (cc)

product_is : (a b t : Ty) → product_type a b ≡ Some t → a ≡ t
product_is ty.Int ty.Int t e = cc
product_is ty.List ty.Int t e = cc
product_is ty.Text ty.Int t e = cc
product_is _ _ t e = absurd (cc)

numbers_are : (a b t : Ty) → both_are ty.Int a b ≡ Some t → ty.Int ≡ t
numbers_are ty.Int ty.Int t e = cc
numbers_are _ _ t e = absurd (cc)

arith_is : (op : ArithOp) (s w : TypeSet) (a b t : Ty) → s ≡ just a → w ≡ just b → arith_type op a b ≡ Some t → arith_types op s w ≡ just t
arith_is Add s w a b t e f h = let k = sum_is a b t h in joined s w a b t e f k.0 k.1
arith_is Mul s w a b t e f h = e ∙ ap just (product_is a b t h)
arith_is Sub s w a b t e f h = ap just (numbers_are a b t h)
arith_is Floor s w a b t e f h = ap just (numbers_are a b t h)
arith_is Rem s w a b t e f h = ap just (numbers_are a b t h)
arith_is Power s w a b t e f h = ap just (numbers_are a b t h)

negative_is : (a t : Ty) → negative_type a ≡ Some t → ty.Int ≡ t
negative_is ty.Int t e = cc
negative_is _ t e = absurd (cc)

pub member_just : (a t : Ty) → member_of a ≡ Some t → members (just a) ≡ just t
member_just ty.List t e = ap just (let h : ty.Int ≡ t = cc in h)
member_just ty.Text t e = ap just (let h : ty.Text ≡ t = cc in h)
member_just ty.Int t e = absurd (cc)
member_just ty.Bool t e = absurd (cc)

index_is : (a b t : Ty) → index_type a b ≡ Some t → member_of a ≡ Some t
index_is a ty.Int t e = e
index_is a ty.Bool t e = absurd (cc)
index_is a ty.List t e = absurd (cc)
index_is a ty.Text t e = absurd (cc)

slice_is : (a t : Ty) → slice_type a ≡ Some t → a ≡ t
slice_is ty.List t e = cc
slice_is ty.Text t e = cc
slice_is ty.Int t e = absurd (cc)
slice_is ty.Bool t e = absurd (cc)

module _ (F : FactSet) (p : List Routine) (i : ℕ) where
  call_is : (b : Option Builtin) (g : Option Callee) (os : List (Option Ty)) (t : Ty) → called_type (single F) b g os ≡ Some t → call_types F b g ≡ just t
  call_is (Some b) g os t e = ap just (if_given (takes b (length os) && are_operands b os) (builtin_gives b) t e).1
  call_is None None os t e = absurd (cc)
  call_is None (Some g) os t e = set_is (F g.number slot.Result) t (if_some (are_arguments (single F) g.number g.routine.params os) (single F g.number slot.Result) t e).1

  abbrev type : Term → Option Ty
  type = type_in (single F) p i

  pub types_are : (e : Term) (t : Ty) → type e ≡ Some t → types_in F p i e ≡ just t
  types_are (ast.Int n) t e = ap just (let h : ty.Int ≡ t = cc in h)
  types_are (ast.Bool b) t e = ap just (let h : ty.Bool ≡ t = cc in h)
  types_are (ast.Text cs) t e = ap just (let h : ty.Text ≡ t = cc in h)
  types_are (ast.Name x) t e = set_is (F i (slot.Local x)) t e
  types_are (ast.List es) t e = ap just (if_given (all_numbers (all_types (single F) p i es)) ty.List t e).1
  types_are (ast.Neg b) t e = let k = bind_some (type b) negative_type t e in ap just (negative_is k.0 t k.2)
  types_are (ast.Not b) t e = let k = bind_some (type b) (λ u. Some ty.Bool) t e in ap just (let h : Some ty.Bool ≡ Some t = k.2 in let m : ty.Bool ≡ t = cc in m)
  types_are (ast.Arith op a b) t e =
      let k = bind_some (type a) (λ u. type b >? λ w. arith_type op u w) t e in
      let m = bind_some (type b) (arith_type op k.0) t k.2 in
      arith_is op _ _ k.0 m.0 t (types_are a k.0 k.1) (types_are b m.0 m.1) m.2
  types_are (ast.Cmp op a b) t e =
      let k = bind_some (type a) (λ u. type b >? λ w. compare_type op u w) t e in
      let m = bind_some (type b) (compare_type op k.0) t k.2 in
      ap just (truth_is k.0 m.0 t op m.2)
  types_are (ast.And a b) t e =
      let k = bind_some (type a) (λ u. type b >? λ w. both_are ty.Bool u w) t e in
      let m = bind_some (type b) (both_are ty.Bool k.0) t k.2 in
      ap just (sym (truths k.0 m.0 t m.2).2)
  types_are (ast.Or a b) t e =
      let k = bind_some (type a) (λ u. type b >? λ w. both_are ty.Bool u w) t e in
      let m = bind_some (type b) (both_are ty.Bool k.0) t k.2 in
      ap just (sym (truths k.0 m.0 t m.2).2)
  types_are (ast.Cond c a b) t e =
      let n = bind_some (type c) (λ r. type a >? λ u. type b >? λ w. choice_type u w) t e in
      let k = bind_some (type a) (λ u. type b >? λ w. choice_type u w) t n.2 in
      let m = bind_some (type b) (choice_type k.0) t k.2 in
      let f = first_of k.0 m.0 t (same_type k.0 m.0) refl m.2 in
      joined _ _ k.0 m.0 t (types_are a k.0 k.1) (types_are b m.0 m.1) f.0 f.1
  types_are (ast.Index a b) t e =
      let k = bind_some (type a) (λ u. type b >? λ w. index_type u w) t e in
      let m = bind_some (type b) (index_type k.0) t k.2 in
      ap members (types_are a k.0 k.1) ∙ member_just k.0 t (index_is k.0 m.0 t m.2)
  types_are (ast.Slice a from to) t e =
      let ends = all_numbers (end_types (single F) p i from) && all_numbers (end_types (single F) p i to) in
      let k = bind_some (type a) (λ u. if ends then slice_type u else None) t e in
      types_are a k.0 k.1 ∙ ap just (slice_is k.0 t (if_some ends (slice_type k.0) t k.2).1)
  types_are (ast.Call f es) t e =
      let os = all_types (single F) p i es in
      call_is (builtin_of f) (called p f) os t (not_local (single F) (single F i (slot.Local f)) (builtin_of f) (called p f) os t e)
