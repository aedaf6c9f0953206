-- The members of a pick have one type, and one of them is chosen.
use Rattle.std.proofs.Common.{◌≡◌, ◌+◌, ◌<◌, ℕ, zero, suc, Bool, true, false, List, [], ◌∷◌, map, length, get_or, slice_get, take, refl, sym, ap, ◌∙◌, subst, arith, cond, Option, Some, None, IsSome}
use Rattle.std.specs.Prelude.{nat_eq, nat_lt, ◌||◌}
use Rattle.std.proofs.lemmas.Bool.Decides.{nat_tests}
use Rattle.std.proofs.lemmas.Bool.{eqb-true}
use Rattle.std.proofs.lemmas.List.{get_or-map, length-map}
use Rattle.std.proofs.lemmas.List.Elements.{All-cons, All-head, All-nil, All-tail}
use Rattle.bit_words.specs.Logic.{OwnsAll}
use Rattle.mpy_tree.specs.declared.limits.Limits.{Limits}
use Rattle.mpy_tree.specs.declared.typing.Ty.{Ty}
use Rattle.mpy_tree.specs.Options.{◌>>=◌}
use Rattle.mpy_tree.specs.Rules.{choice_type}
use Rattle.sym_values.specs.declared.value.SymOutcome.{SymOutcome}
use Rattle.sym_values.specs.Forms.{form_for}
use Rattle.sym_values.specs.Results.{IsOutcomeIn}
use Rattle.sym_nodes.specs.Operands.{ArePartsIn, IsPartIn, any_true, faults_of, ty_of, types_of}
use Rattle.sym_nodes.specs.Members.{common, common_type, place_chosen}
use Rattle.sym_nodes.proofs.TypeRules.{choice_is}

pub after_choice : (c : Option Ty) (u t : Ty) (os : List (Option Ty)) → (c >>= λ w. common u os) ≡ Some t → (w : Ty) × (c ≡ Some w) × (common u os ≡ Some t)
after_choice None u t os e = absurd cc
after_choice (Some w) u t os e = (w, refl, e)

module _ {B : Type 0} where
  common_is : (u t : Ty) (parts : List (SymOutcome B)) → common u (types_of parts) ≡ Some t → t ≡ u
  common_is u t [] e = cc
  common_is u t (o ∷ parts) e = common_is u t parts (after_choice (choice_type u (ty_of o.value)) u t (types_of parts) e).2

  common_at : (u t : Ty) (parts : List (SymOutcome B)) (i : ℕ) (o : SymOutcome B) → common u (types_of parts) ≡ Some t → slice_get parts i ≡ Some o → ty_of o.value ≡ u
  common_at u t [] i o e f = absurd cc
  common_at u t (p ∷ parts) zero o e f =
      let same : o ≡ p = cc in
      let choice = after_choice (choice_type u (ty_of p.value)) u t (types_of parts) e in
      ap (λ (q : SymOutcome B). ty_of q.value) same ∙ (choice_is u (ty_of p.value) choice.0 choice.1).0
  common_at u t (p ∷ parts) (suc i) o e f =
      common_at u t parts i o (after_choice (choice_type u (ty_of p.value)) u t (types_of parts) e).2 f

  -- each member has the type of all
  pub member_type_is : (t : Ty) (parts : List (SymOutcome B)) (i : ℕ) (o : SymOutcome B) → common_type (types_of parts) ≡ Some t → slice_get parts i ≡ Some o → ty_of o.value ≡ t
  member_type_is t [] i o e f = absurd cc
  member_type_is t (p ∷ parts) zero o e f =
      let same : o ≡ p = cc in ap (λ (q : SymOutcome B). ty_of q.value) same ∙ sym (common_is (ty_of p.value) t parts e)
  member_type_is t (p ∷ parts) (suc i) o e f = common_at (ty_of p.value) t parts i o e f ∙ sym (common_is (ty_of p.value) t parts e)

  pub some_members : (parts : List (SymOutcome B)) → IsSome (common_type (types_of parts)) → 0 < length parts
  some_members [] e = absurd cc
  some_members (p ∷ parts) e = omega arith

pub part_at : {S B : Type 0} {owns : S → B → Type 0} {s : S} (l : Limits) (parts : List (SymOutcome B)) (i : ℕ) (o : SymOutcome B) → ArePartsIn owns s l parts → i < length parts → o ≡ get_or parts i o → IsPartIn owns s l o
part_at {S} {B} {owns} {s} l parts i o h k e = subst (IsPartIn owns s l) (sym e) (h.each i o k)

-- a member is an outcome of that type
pub member_in : {S B : Type 0} {owns : S → B → Type 0} {s : S} (l : Limits) (t : Ty) (parts : List (SymOutcome B)) (i : ℕ) (o : SymOutcome B) → ArePartsIn owns s l parts → i < length parts → o ≡ get_or parts i o → ty_of o.value ≡ t
    → IsOutcomeIn owns s (form_for l t) o
member_in l t parts i o h k e same =
    let part = part_at l parts i o h k e in
    record { owned = part.owned; owned_fault = part.owned_fault; form = part.form ∙ ap (form_for l) same }

-- the place that is chosen, with one member more
pub place_here : (n i : ℕ) → nat_eq n i ≡ true → place_chosen n (i + 1) ≡ i
place_here n i e =
    let same : n ≡ i = eqb-true n i e in
    let below : nat_lt n (i + 1) ≡ true = grind (arith, nat_tests) in
    ap (λ (b : Bool). cond b n 0) below ∙ same

pub place_other : (n i : ℕ) → nat_eq n i ≡ false → place_chosen n (i + 1) ≡ place_chosen n i
place_other n i e =
    let below : nat_lt n (i + 1) ≡ nat_lt n i = grind (arith, nat_tests) in
    ap (λ (b : Bool). cond b n 0) below

pub place_is : (n i count : ℕ) → nat_eq n i ≡ true → i < count → place_chosen n count ≡ i
place_is n i count e h =
    let same : n ≡ i = eqb-true n i e in
    let below : nat_lt n count ≡ true = grind (arith, nat_tests) in
    ap (λ (b : Bool). cond b n 0) below ∙ same

pub first_place : (n : ℕ) → place_chosen n 1 ≡ 0
first_place zero = refl
first_place (suc n) =
    let above : nat_lt (suc n) 1 ≡ false = grind (arith, nat_tests) in
    ap (λ (b : Bool). cond b (suc n) 0) above

or_false : (b : Bool) → b || false ≡ b
or_false true = refl
or_false false = refl

or_assoc : (a b d : Bool) → a || (b || d) ≡ ((a || b) || d)
or_assoc true b d = refl
or_assoc false b d = refl

-- the fault bit of one part
pub fault_owned : {S B : Type 0} {owns : S → B → Type 0} {s : S} (parts : List (SymOutcome B)) (i : ℕ) (o : SymOutcome B) → OwnsAll owns s (faults_of parts) → i < length parts → o ≡ get_or parts i o → owns s o.fault
fault_owned {S} {B} {owns} {s} parts i o h k e =
    let many : length (faults_of parts) ≡ length parts = length-map parts (λ o. o.fault) in
    let at = get_or-map (λ (p : SymOutcome B). p.fault) parts i o o.fault k in
    subst (owns s) (at ∙ ap (λ (p : SymOutcome B). p.fault) (sym e)) (h.each i o.fault (omega arith))

pub faults_owned : {S B : Type 0} {owns : S → B → Type 0} {s : S} {l : Limits} (parts : List (SymOutcome B)) → ArePartsIn owns s l parts → OwnsAll owns s (faults_of parts)
faults_owned {S} {B} {owns} {s} [] h = record { each = All-nil (owns s) }
faults_owned {S} {B} {owns} {s} {l} (o ∷ parts) h =
    let first = All-head (IsPartIn owns s l) o parts h.each in
    let rest = faults_owned {owns = owns} {s = s} {l = l} parts (record { each = All-tail (IsPartIn owns s l) o parts h.each }) in
    record { each = All-cons (owns s) o.fault (faults_of parts) first.owned_fault rest.each }

-- the faults of one part more
pub faults_more : {B : Type 0} (rd : B → Bool) (parts : List (SymOutcome B)) (i : ℕ) (o : SymOutcome B) → i < length parts → o ≡ get_or parts i o
    → any_true (map rd (faults_of (take (i + 1) parts))) ≡ (any_true (map rd (faults_of (take i parts))) || rd o.fault)
faults_more rd [] i o h e = absurd (omega arith)
faults_more rd (p ∷ parts) zero o h e =
    let none : take 0 parts ≡ [] = refl in
    let same : rd o.fault ≡ rd p.fault = ap (λ (q : SymOutcome _). rd q.fault) e in
    or_false (rd p.fault) ∙ sym same
faults_more rd (p ∷ parts) (suc i) o h e =
    let step : suc i + 1 ≡ suc (i + 1) = omega arith in
    let rest = faults_more rd parts i o (omega arith) e in
    rw step (ap (λ (b : Bool). rd p.fault || b) rest ∙ or_assoc (rd p.fault) _ (rd o.fault))
