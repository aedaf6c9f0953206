-- A walk over the children of a weighted expression.
use Rattle.std.proofs.Common.{◌≡◌, ◌+◌, ◌<◌, ℕ, zero, suc, Bool, true, false, List, [], ◌∷◌, ◌++◌, All, map, take, length, slice_get, sym, ap, ◌∙◌, subst, refl, arith, Option, Some, None}
use Rattle.std.specs.Prelude.{if◌then◌else◌}
use Rattle.std.proofs.lemmas.List.{map_push}
use Rattle.std.proofs.lemmas.List.Elements.{All-push}
use Rattle.std.specs.declared.result.Result.{Result}
use Rattle.mpy_tree.specs.declared.limits.Limits.{Limits}
use Rattle.mpy_tree.specs.declared.typing.Ty.{Ty}
use Rattle.mpy_tree.specs.declared.value.Value.{Value}
use Rattle.mpy_tree.specs.declared.outcome.Halted.{Halted}
use Rattle.mpy_tree.specs.Syntax.{Term}
use Rattle.choice_tree.specs.WeightedTrees.{Weighted}
use Rattle.sym_values.specs.declared.value.SymValue.{SymValue}
use Rattle.sym_values.specs.declared.value.SymOutcome.{SymOutcome}
use Rattle.sym_values.specs.Forms.{form_for}
use Rattle.sym_values.specs.Results.{IsOutcomeIn}
use Rattle.sym_values.proofs.Held.{take_read}
use Rattle.sym_nodes.specs.Operands.{ArePartsIn, IsPartIn, ty_of, types_of, values_of}
use Rattle.sym_nodes.specs.Plain.{AllReadAsPlain, ReadsAsPlain}
use Rattle.sym_nodes.proofs.Members.{one_more}
use Rattle.sym_nodes.proofs.Typed.{type_is}

pub parts_push : {S B : Type 0} {owns : S → B → Type 0} {s : S} {l : Limits} (parts more : List (SymOutcome B)) (o : SymOutcome B) → ArePartsIn owns s l parts → IsPartIn owns s l o → more ≡ parts ++ o ∷ []
    → ArePartsIn owns s l more
parts_push {S} {B} {owns} {s} {l} parts more o h k e = record { each = subst (All (IsPartIn owns s l)) (sym e) (All-push (IsPartIn owns s l) parts o h.each k) }

types_pushed : {B : Type 0} (parts : List (SymOutcome B)) (o : SymOutcome B) → types_of (parts ++ o ∷ []) ≡ types_of parts ++ Some (ty_of o.value) ∷ []
types_pushed parts o =
    ap (map (λ (x : SymValue _). Some (ty_of x))) (map_push (λ (p : SymOutcome _). p.value) parts o) ∙ map_push (λ (x : SymValue _). Some (ty_of x)) (values_of parts) o.value

-- one child more
pub types_more : {B : Type 0} (f : Weighted → Option Ty) (kids : List Weighted) (i : ℕ) (kid : Weighted) (parts more : List (SymOutcome B)) (o : SymOutcome B) → slice_get kids i ≡ Some kid → f kid ≡ Some (ty_of o.value)
    → types_of parts ≡ map f (take i kids) → more ≡ parts ++ o ∷ [] → types_of more ≡ map f (take (i + 1) kids)
types_more f kids i kid parts more o at typed before e =
    let last : Some (ty_of o.value) ≡ f kid = sym typed in
    ap types_of e ∙ types_pushed parts o ∙ (λ j. before j ++ last j ∷ []) ∙ sym (ap (map f) (take_read kids i kid at) ∙ map_push f (take i kids) kid)

pub plain_more : {B : Type 0} (rd : B → Bool) (value : Term → Result Value Halted) (m : ℕ → ℕ) (kids : List Weighted) (i : ℕ) (kid : Weighted) (parts more : List (SymOutcome B)) (o : SymOutcome B) → slice_get kids i ≡ Some kid
    → AllReadAsPlain rd value m parts (take i kids) → ReadsAsPlain rd value m o kid → more ≡ parts ++ o ∷ [] → AllReadAsPlain rd value m more (take (i + 1) kids)
plain_more rd value m kids i kid parts more o at before now e =
    subst (λ (os : List (SymOutcome _)). AllReadAsPlain rd value m os (take (i + 1) kids)) (sym e)
    (subst (λ (ws : List Weighted). AllReadAsPlain rd value m (parts ++ o ∷ []) ws) (sym (take_read kids i kid at)) (one_more rd value m parts (take i kids) o kid before now))

-- the type of an outcome's value is that of its tree
pub own_type : {S B : Type 0} {owns : S → B → Type 0} {s : S} (l : Limits) (t : Ty) (r : Option Ty) (o : SymOutcome B) → r ≡ Some t → IsOutcomeIn owns s (form_for l t) o → r ≡ Some (ty_of o.value)
own_type l t r o e h = e ∙ ap Some (sym (type_is l t o.value h.form))

-- the child at a place, where there are so many
pub kid_at : (ws : List Weighted) (i : ℕ) → i < length ws → (w : Weighted) × (slice_get ws i ≡ Some w)
kid_at [] i h = absurd (omega (arith, h))
kid_at (w ∷ ws) zero h = (w, refl)
kid_at (w ∷ ws) (suc i) h = kid_at ws i (omega (arith, h))

pub no_kid : (ws : List Weighted) (i : ℕ) → None ≡ slice_get ws i → i < length ws → ⊥
no_kid ws i e h = let kid = kid_at ws i h in let same : None ≡ Some kid.0 = e ∙ kid.1 in cc

-- the arm that counts
pub arm_at : (known : Bool) (ws : List Weighted) (a b d : Weighted) (place : ℕ) → ws ≡ a ∷ b ∷ d ∷ [] → place ≡ (if known then 0 else 2) → slice_get ws place ≡ Some (if known then a else d)
arm_at true ws a b d place e p = (λ i. slice_get (e i) (p i))
arm_at false ws a b d place e p = (λ i. slice_get (e i) (p i))

pub arm_type : (f : Weighted → Option Ty) (known : Bool) (a d : Weighted) (t : Ty) → f a ≡ Some t → f d ≡ Some t → f (if known then a else d) ≡ Some t
arm_type f true a d t p q = p
arm_type f false a d t p q = q
