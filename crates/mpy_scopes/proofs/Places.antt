-- Equal slots.
use Rattle.std.proofs.Common.{◌≡◌, ℕ, ◌==◌, Bool, true, false, ◌&&◌, IsTrue, List, map, refl, sym, ◌∙◌, ap, subst}
use Rattle.std.proofs.lemmas.Bool.{eqb-true, eq-eqb}
use lib.Pointwise.{bytes_decides}
use Rattle.std.proofs.lemmas.Simd.{map-map}
use Rattle.mpy_tree.specs.declared.tree.Func.{Func}
use Rattle.mpy_tree.specs.View.{routine_of}
use Rattle.mpy_scopes.specs.declared.scope.Scope.{Scope}
use Rattle.mpy_scopes.specs.Views.{scope_routine}
use Rattle.mpy_tree.specs.declared.typing.Slot.{Slot}
use Rattle.mpy_tree.specs.declared.typing.Slot.TheVariants.{Local, Result}
use Rattle.mpy_tree.specs.SetTypes.{same_slot, same_place}

slot_is : (x y : Slot) → IsTrue (same_slot x y) → x ≡ y
slot_is (Local x) (Local y) h = ap Local ((bytes_decides x y).0 h)
slot_is (Local x) Result h = absurd (cc)
slot_is Result (Local y) h = absurd (cc)
slot_is Result Result h = refl

slot_same : (x : Slot) → IsTrue (same_slot x x)
slot_same (Local x) = (bytes_decides x x).1 refl
slot_same Result = refl

number_part : (a b : Bool) → IsTrue (a && b) → IsTrue a
number_part true b h = refl
number_part false b h = h

slot_part : (a b : Bool) → IsTrue (a && b) → IsTrue b
slot_part true b h = h
slot_part false b h = absurd (cc)

-- what holds of one slot holds of an equal one
pub at_place : (P : ℕ → Slot → Type 0) (i : ℕ) (x : Slot) (j : ℕ) (y : Slot) → IsTrue (same_place i x j y) → P i x → P j y
at_place P i x j y h p =
    let e : i ≡ j = eqb-true i j (number_part (i == j) (same_slot x y) h) in
    let f : x ≡ y = slot_is x y (slot_part (i == j) (same_slot x y) h) in
    let Q : Slot → Type 0 = λ z. P j z in
    let R : ℕ → Type 0 = λ n. P n x in
    subst Q f (subst R e p)

pub place_same : (i : ℕ) (x : Slot) → same_place i x i x ≡ true
place_same i x = ap (λ b. b && same_slot x x) (eq-eqb i i refl) ∙ slot_same x

-- the routines of scopes are those of their functions
pub scoped : (items : List Scope) (funcs : List Func) → map (λ s. s.func.now) items ≡ funcs → map routine_of funcs ≡ map scope_routine items
scoped items funcs e = ap (map routine_of) (sym e) ∙ map-map routine_of (λ s. s.func.now) items
