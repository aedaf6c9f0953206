-- Nodes that are no picks, by their heads.
use Rattle.std.proofs.Common.{◌≡◌, ℕ, Bool, List, [], ◌∷◌, All, refl, sym, ap, ◌∙◌, subst, Option, Some, None}
use Rattle.std.proofs.lemmas.List.Elements.{All-head, All-tail}
use Rattle.std.specs.declared.result.Result.{Result}
use Rattle.mpy_tree.specs.declared.builtins.Builtin.{Builtin}
use Rattle.mpy_tree.specs.declared.limits.Limits.{Limits}
use Rattle.mpy_tree.specs.declared.typing.Ty.{Ty}
use Rattle.mpy_tree.specs.declared.typing.Ty.TheVariants as ty
use Rattle.mpy_tree.specs.declared.value.Value.{Value}
use Rattle.mpy_tree.specs.declared.outcome.Halted.{Halted}
use Rattle.mpy_tree.specs.Builtins.{builtin_of}
use Rattle.mpy_tree.specs.Expressions.{Calls, called}
use Rattle.mpy_tree.specs.Rules.{Slots, both_are, call_type, choice_type}
use Rattle.mpy_tree.specs.Trees.{Kind}
use Rattle.mpy_tree.specs.Trees as kind
use Rattle.mpy_tree.specs.Values.{◌>>=◌, Locals, on_line}
use Rattle.choice_tree.specs.declared.head.Head.{Head}
use Rattle.choice_tree.specs.declared.head.Head.TheVariants as head
use Rattle.choice_tree.specs.Heads.{head_kind}
use Rattle.choice_tree.specs.Typing.{node_type, of_two, of_three}
use Rattle.sym_values.specs.declared.value.SymOutcome.{SymOutcome}
use Rattle.sym_values.specs.Forms.{form_for}
use Rattle.sym_values.specs.Reading.{OutcomeReads}
use Rattle.sym_values.specs.Results.{IsOutcomeIn}
use Rattle.sym_nodes.specs.declared.env.Env.{Env}
use Rattle.sym_nodes.specs.Environments.{scope_of}
use Rattle.sym_nodes.specs.Nodes.{built, built_type, node_result, operation, operation_type, strict_result}
use Rattle.sym_nodes.specs.Nodes as nodes
use Rattle.sym_nodes.specs.Operands.{ArePartsIn, IsPartIn, PartsRead, ty_of, types_of}
use Rattle.sym_nodes.proofs.TypeRules.{both_truth, choice_is}

-- a call that has a type where the program has no function is one of a builtin
call_is : (S : Slots) (o : Option Ty) (b : Option Builtin) (os : List (Option Ty)) (t : Ty) → call_type S o b None os ≡ Some t → built_type b os ≡ Some t
call_is S None None os t e = absurd cc
call_is S None (Some b) os t e = e
call_is S (Some u) b os t e = absurd cc

-- a node that needs the values of all its parts has the type of its operation
pub strict_type : {B : Type 0} (env : Env B) (h : Head) (os : List (Option Ty)) (t : Ty) → ((x : _) → h ≡ head.Name x → ⊥) → (h ≡ head.And → ⊥) → (h ≡ head.Or → ⊥) → (h ≡ head.Cond → ⊥)
    → node_type (scope_of env) (head_kind h) os ≡ Some t → operation_type (head_kind h) os ≡ Some t
strict_type env (head.Int n) os t p q r u e = e
strict_type env (head.Bool b) os t p q r u e = e
strict_type env (head.Text cs) os t p q r u e = e
strict_type env (head.Name x) os t p q r u e = absurd (p x refl)
strict_type env head.List os t p q r u e = e
strict_type env head.Neg os t p q r u e = e
strict_type env head.Not os t p q r u e = e
strict_type env (head.Arith op) os t p q r u e = e
strict_type env (head.Cmp op) os t p q r u e = e
strict_type env head.And os t p q r u e = absurd (q refl)
strict_type env head.Or os t p q r u e = absurd (r refl)
strict_type env head.Cond os t p q r u e = absurd (u refl)
strict_type env head.Index os t p q r u e = e
strict_type env (head.Slice from to) os t p q r u e = e
strict_type env (head.Call f) os t p q r u e = call_is (scope_of env).slots _ (builtin_of f.now) os t e

call_result : (l : Limits) (calls : Calls) (line : ℕ) (b : Option Builtin) (f : List ℕ) (os : List (Option Ty)) (t : Ty) (r : Result (List Value) Halted) → built_type b os ≡ Some t
    → (r >>= λ vs. called l calls b f vs line) ≡ (r >>= λ vs. on_line line (built l b vs))
call_result l calls line None f os t r e = absurd cc
call_result l calls line (Some b) f os t r e = refl

-- and gives that on the values of its parts
pub strict_node : (l : Limits) (calls : Calls) (s : Locals) (line : ℕ) (k : Kind) (os : List (Option Ty)) (t : Ty) (rs : List (Result Value Halted)) → operation_type k os ≡ Some t
    → strict_result line (operation l k) rs ≡ node_result l calls s line k rs
strict_node l calls s line (kind.Name x) os t rs e = absurd cc
strict_node l calls s line kind.And os t rs e = absurd cc
strict_node l calls s line kind.Or os t rs e = absurd cc
strict_node l calls s line kind.Cond os t rs e = absurd cc
strict_node l calls s line (kind.Call f) os t rs e = sym (call_result l calls line (builtin_of f) f os t (nodes.all_of rs) e)
strict_node l calls s line k os t rs e = refl

-- two parts, and three
module _ {S B : Type 0} {owns : S → B → Type 0} {s : S} where
  pub two_in : (l : Limits) (parts : List (SymOutcome B)) (a b : SymOutcome B) → ArePartsIn owns s l parts → parts ≡ a ∷ b ∷ [] → IsPartIn owns s l a × IsPartIn owns s l b
  two_in l parts a b h e =
      let both = subst (All (IsPartIn owns s l)) e h.each in
      (All-head (IsPartIn owns s l) a (b ∷ []) both, All-head (IsPartIn owns s l) b [] (All-tail (IsPartIn owns s l) a (b ∷ []) both))

  pub three_in : (l : Limits) (parts : List (SymOutcome B)) (a b d : SymOutcome B) → ArePartsIn owns s l parts → parts ≡ a ∷ b ∷ d ∷ [] → IsPartIn owns s l a × IsPartIn owns s l b × IsPartIn owns s l d
  three_in l parts a b d h e =
      let all = subst (All (IsPartIn owns s l)) e h.each in
      let rest = All-tail (IsPartIn owns s l) a (b ∷ d ∷ []) all in
      (All-head (IsPartIn owns s l) a (b ∷ d ∷ []) all, All-head (IsPartIn owns s l) b (d ∷ []) rest, All-head (IsPartIn owns s l) d [] (All-tail (IsPartIn owns s l) b (d ∷ []) rest))

  -- an outcome of a given type
  pub part_as : (l : Limits) (t : Ty) (o : SymOutcome B) → IsPartIn owns s l o → ty_of o.value ≡ t → IsOutcomeIn owns s (form_for l t) o
  part_as l t o h e = record { owned = h.owned; owned_fault = h.owned_fault; form = h.form ∙ ap (form_for l) e }

module _ {B : Type 0} (rd rd' : B → Bool) (o : SymOutcome B) (line : ℕ) where
  pub two_read : (parts : List (SymOutcome B)) (a b : SymOutcome B) (f : Result Value Halted → Result Value Halted → Result Value Halted) → parts ≡ a ∷ b ∷ []
      → ((x y : Result Value Halted) → OutcomeReads rd a x → OutcomeReads rd b y → OutcomeReads rd' o (f x y))
      → (rs : List (Result Value Halted)) → PartsRead rd parts rs → OutcomeReads rd' o (nodes.of_two line f rs)
  two_read parts a b f is h [] e = absurd (subst (λ (os : List (SymOutcome B)). PartsRead rd os []) is e)
  two_read parts a b f is h (x ∷ []) e = absurd (subst (λ (os : List (SymOutcome B)). PartsRead rd os (x ∷ [])) is e).1
  two_read parts a b f is h (x ∷ y ∷ []) e = let k = subst (λ (os : List (SymOutcome B)). PartsRead rd os (x ∷ y ∷ [])) is e in h x y k.0 k.1.0
  two_read parts a b f is h (x ∷ y ∷ z ∷ rs) e = absurd (subst (λ (os : List (SymOutcome B)). PartsRead rd os (x ∷ y ∷ z ∷ rs)) is e).1.1

  pub three_read : (parts : List (SymOutcome B)) (a b d : SymOutcome B) (f : Result Value Halted → Result Value Halted → Result Value Halted → Result Value Halted) → parts ≡ a ∷ b ∷ d ∷ []
      → ((x y z : Result Value Halted) → OutcomeReads rd a x → OutcomeReads rd b y → OutcomeReads rd d z → OutcomeReads rd' o (f x y z))
      → (rs : List (Result Value Halted)) → PartsRead rd parts rs → OutcomeReads rd' o (nodes.of_three line f rs)
  three_read parts a b d f is h [] e = absurd (subst (λ (os : List (SymOutcome B)). PartsRead rd os []) is e)
  three_read parts a b d f is h (x ∷ []) e = absurd (subst (λ (os : List (SymOutcome B)). PartsRead rd os (x ∷ [])) is e).1
  three_read parts a b d f is h (x ∷ y ∷ []) e = absurd (subst (λ (os : List (SymOutcome B)). PartsRead rd os (x ∷ y ∷ [])) is e).1.1
  three_read parts a b d f is h (x ∷ y ∷ z ∷ []) e = let k = subst (λ (os : List (SymOutcome B)). PartsRead rd os (x ∷ y ∷ z ∷ [])) is e in h x y z k.0 k.1.0 k.1.1.0
  three_read parts a b d f is h (x ∷ y ∷ z ∷ u ∷ rs) e = absurd (subst (λ (os : List (SymOutcome B)). PartsRead rd os (x ∷ y ∷ z ∷ u ∷ rs)) is e).1.1.1

-- the types of two parts, and of three
pub pair_types : {B : Type 0} (f : Ty → Ty → Option Ty) (parts : List (SymOutcome B)) (a b : SymOutcome B) → parts ≡ a ∷ b ∷ [] → of_two f (types_of parts) ≡ f (ty_of a.value) (ty_of b.value)
pair_types f parts a b is = ap (λ (os : List (SymOutcome _)). of_two f (types_of os)) is

pub triple_types : {B : Type 0} (f : Ty → Ty → Ty → Option Ty) (parts : List (SymOutcome B)) (a b d : SymOutcome B) → parts ≡ a ∷ b ∷ d ∷ [] → of_three f (types_of parts) ≡ f (ty_of a.value) (ty_of b.value) (ty_of d.value)
triple_types f parts a b d is = ap (λ (os : List (SymOutcome _)). of_three f (types_of os)) is

-- of two truth values, and of a conditional
pub truth_pair : {B : Type 0} (parts : List (SymOutcome B)) (a b : SymOutcome B) (t : Ty) → parts ≡ a ∷ b ∷ [] → of_two (both_are ty.Bool) (types_of parts) ≡ Some t → (ty_of a.value ≡ ty.Bool) × (ty_of b.value ≡ ty.Bool) × (t ≡ ty.Bool)
truth_pair parts a b t is e = both_truth (ty_of a.value) (ty_of b.value) t (sym (pair_types (both_are ty.Bool) parts a b is) ∙ e)

pub choice_triple : {B : Type 0} (parts : List (SymOutcome B)) (a b d : SymOutcome B) (t : Ty) → parts ≡ a ∷ b ∷ d ∷ [] → of_three (λ x y z. choice_type x z) (types_of parts) ≡ Some t → (ty_of d.value ≡ ty_of a.value) × (t ≡ ty_of a.value)
choice_triple parts a b d t is e = choice_is (ty_of a.value) (ty_of d.value) t (sym (triple_types (λ x y z. choice_type x z) parts a b d is) ∙ e)
