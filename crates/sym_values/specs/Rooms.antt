-- How many items a value has room for.
use Rattle.std.specs.Prelude.{◌≡◌, ◌≤◌, ℕ, List, length, replicate}
use Rattle.std.proofs.Common.{ap, ◌∙◌, arith}
use Rattle.std.proofs.lemmas.List.{length-map, length-replicate}
use Rattle.mpy_tree.specs.declared.limits.Limits.{Limits}
use Rattle.mpy_tree.specs.declared.typing.Ty.{Ty}
use Rattle.mpy_tree.specs.declared.typing.Ty.TheVariants as ty
use Rattle.sym_values.specs.declared.value.SymValue.{SymValue}
use Rattle.sym_values.specs.declared.value.SymValue.TheVariants as sym
use Rattle.sym_values.specs.Forms.{form_for, form_of, lengths}

-- the places for items of a list or a text
abbrev pub room_of : {B : Type 0} → SymValue B → ℕ
room_of (sym.Int w) = 0
room_of (sym.Bool b) = 0
room_of (sym.List len items) = length items
room_of (sym.Text len items) = length items

rooms : (l : Limits) (n : ℕ) (ns : List ℕ) (m : ℕ) → ns ≡ replicate l.cap m → length ns ≡ n → n ≤ 16
rooms l n ns m e f =
    let cap = l.cap_range.1 in
    let long : length ns ≡ l.cap = ap length e ∙ length-replicate l.cap m in
    omega arith

-- values of a type have room for 16 items at most
pub short_room : {B : Type 0} (l : Limits) (t : Ty) (x : SymValue B) → form_of x ≡ form_for l t
    → room_of x ≤ 16
short_room l t (sym.Int w) e = omega arith
short_room l t (sym.Bool b) e = omega arith
short_room l ty.Int (sym.List len items) e = absurd cc
short_room l ty.Bool (sym.List len items) e = absurd cc
short_room l ty.List (sym.List len items) e =
    let same : lengths items ≡ replicate l.cap l.width = cc in
    rooms l (length items) (lengths items) l.width same (length-map items length)
short_room l ty.Text (sym.List len items) e = absurd cc
short_room l ty.Int (sym.Text len items) e = absurd cc
short_room l ty.Bool (sym.Text len items) e = absurd cc
short_room l ty.List (sym.Text len items) e = absurd cc
short_room l ty.Text (sym.Text len items) e =
    let same : lengths items ≡ replicate l.cap 7 = cc in
    rooms l (length items) (lengths items) 7 same (length-map items length)
