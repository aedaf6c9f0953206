-- The types of slots by their numbers.
use Rattle.std.proofs.Common.{◌≡◌, ℕ, ◌+◌, ◌<◌, Bool, true, false, ◌||◌, List, [], ◌∷◌, ◌++◌, append_assoc, length, map, get_or, Option, Some, if◌then◌else◌, IsTrue, refl, sym, ap, ◌∙◌, arith, suc}
use Rattle.std.proofs.lemmas.List.{length-append}
use Rattle.std.proofs.Math.Seq.{get_or-append_seam}
use Rattle.mpy_tree.specs.declared.typing.Slot.{Slot}
use Rattle.mpy_tree.specs.declared.typing.TypeSet.{TypeSet}
use Rattle.mpy_tree.specs.TypeSets.{no_types}
use Rattle.mpy_tree.specs.Syntax.{Routine}
use Rattle.mpy_tree.specs.SetTypes.{FactSet, same_place}
use Rattle.mpy_tree.specs.Faults.{Place, slots}
use Rattle.mpy_scopes.specs.Numbers.{number_from, number}
use Rattle.mpy_types.specs.Tables.{type_at}
use Rattle.mpy_scopes.proofs.Places.{at_place}
use Rattle.mpy_types.proofs.Targets.{stands_among}

either_way : (b r : Bool) (c : ℕ) (o : Option ℕ) → (IsTrue r → (k : ℕ) × (o ≡ Some k)) → IsTrue (b || r) → (k : ℕ) × ((if b then Some c else o) ≡ Some k)
either_way true r c o f h = (c, refl)
either_way false r c o f h = f h

-- a slot of a list has a number
has_number : (ss : List Place) (c j : ℕ) (y : Slot) → IsTrue (stands_among ss j y) → (k : ℕ) × (number_from c ss j y ≡ Some k)
has_number [] c j y h = absurd (cc)
has_number (s ∷ ss) c j y h = either_way (same_place s.func s.slot j y) (stands_among ss j y) c (number_from (c + 1) ss j y) (has_number ss (c + 1) j y) h

pub slot_number : (p : List Routine) (j : ℕ) (y : Slot) → IsTrue (stands_among (slots p) j y) → (k : ℕ) × (number p j y ≡ Some k)
unfolding number
slot_number p j y h = has_number (slots p) 0 j y h

-- the types that a set of facts gives slots, by their numbers
abbrev pub types_by : FactSet → List Place → List TypeSet
types_by G ss = map (λ s. G s.func s.slot) ss

module _ (G : FactSet) where
  -- at this place, or at one of those behind it
  this_or_next : (s : Place) (ss : List Place) (xs : List TypeSet) (j : ℕ) (y : Slot) (k : ℕ) (b : Bool) → same_place s.func s.slot j y ≡ b → (if b then Some (length xs) else number_from (length xs + 1) ss j y) ≡ Some k → (number_from (length (xs ++ G s.func s.slot ∷ [])) ss j y ≡ Some k → (k < length (xs ++ G s.func s.slot ∷ []) + length ss) × (get_or ((xs ++ G s.func s.slot ∷ []) ++ types_by G ss) k no_types ≡ G j y)) → (k < length xs + suc (length ss)) × (get_or (xs ++ G s.func s.slot ∷ types_by G ss) k no_types ≡ G j y)
  this_or_next s ss xs j y k true b e f =
      let m : length xs ≡ k = cc in
      let P : ℕ → Slot → Type 0 = λ i x. G s.func s.slot ≡ G i x in
      (omega arith, ap (λ i. get_or (xs ++ G s.func s.slot ∷ types_by G ss) i no_types) (sym m) ∙ get_or-append_seam xs (G s.func s.slot) (types_by G ss) no_types ∙ at_place P s.func s.slot j y b refl)
  this_or_next s ss xs j y k false b e f =
      let m : length xs + 1 ≡ length (xs ++ G s.func s.slot ∷ []) = sym (length-append xs (G s.func s.slot ∷ [])) in
      let g = f (ap (λ c. number_from c ss j y) (sym m) ∙ e) in
      (omega (arith, g.0), ap (λ vs. get_or vs k no_types) (sym (append_assoc xs (G s.func s.slot ∷ []) (types_by G ss))) ∙ g.1)

  number_at : (ss : List Place) (xs : List TypeSet) (j : ℕ) (y : Slot) (k : ℕ) → number_from (length xs) ss j y ≡ Some k → (k < length xs + length ss) × (get_or (xs ++ types_by G ss) k no_types ≡ G j y)
  number_at [] xs j y k e = absurd (cc)
  number_at (s ∷ ss) xs j y k e = this_or_next s ss xs j y k (same_place s.func s.slot j y) refl e (λ m. number_at ss (xs ++ G s.func s.slot ∷ []) j y k m)

  -- a number is below that of the slots, and there stand the types of its slot
  pub type_of_number : (p : List Routine) (j : ℕ) (y : Slot) (k : ℕ) → number p j y ≡ Some k → (k < length (slots p)) × (type_at (types_by G (slots p)) k ≡ G j y)
  unfolding number
  type_of_number p j y k e =
      let h = number_at (slots p) [] j y k e in
      let l : k < length (slots p) = omega (arith, h.0) in
      (l, h.1)
