-- What is kept of printed values, behind the values of the locals.
use Rattle.std.proofs.Common.{◌≡◌, ℕ, zero, suc, Bool, false, List, [], ◌∷◌, ◌++◌, length}
use Rattle.std.proofs.Common.{map, drop, inl, inr, Some, None, refl, sym, ap, ◌∙◌}
use Rattle.std.specs.Prelude.{◌==◌}
use Rattle.std.proofs.lemmas.Bool.{false_from_ne_true}
use Rattle.std.proofs.lemmas.Bool.Decides.{Decides-eqb}
use Rattle.std.proofs.lemmas.List.{drop-map, length-map}
use Rattle.std.proofs.Math.Seq.{drop-append_seam}
use Rattle.mpy_tree.specs.declared.value.Value.{Value}
use Rattle.mpy_tree.specs.declared.limits.Limits.{Limits}
use Rattle.bit_words.specs.Logic.{OwnsAll}
use Rattle.bit_words.specs.Later.{owns_second}
use Rattle.sym_values.specs.declared.value.SymValue.{SymValue}
use Rattle.sym_values.specs.Forms.{bits_of, form_of, form_for, forms_of, values_bits}
use Rattle.sym_values.specs.Reading.{map_bits}
use Rattle.sym_paths.specs.declared.slots.Slots.{Slots}
use Rattle.sym_paths.specs.declared.path.Path.{Path}
use Rattle.sym_paths.specs.Slots.{KeepsByLimits, local_forms, print_forms, slot_forms}
use Rattle.sym_paths.specs.Paths.{HoldsPath, kept_on, printed_in, way}

module _ {B : Type 0} where
  -- the forms of what is kept
  pub kept_forms : (slots : Slots) (values : List (SymValue B))
      → forms_of values ≡ slot_forms slots
      → forms_of (drop (length slots.types) values) ≡ print_forms slots.limits slots.prints
  kept_forms slots values e =
      let n = length slots.types in
      let kept = print_forms slots.limits slots.prints in
      sym (drop-map form_of n values)
      ∙ ap (drop n) e
      ∙ ap (λ m. drop m (local_forms slots ++ kept))
      (sym (length-map slots.types (form_for slots.limits)))
      ∙ drop-append_seam (local_forms slots) kept

  -- it stands behind the locals in what is read too
  pub kept_read : (slots : Slots) (rd : B → Bool) (path : Path B)
      → map (map_bits rd) (drop (length slots.types) path.values) ≡ kept_on slots (way rd path)
  kept_read slots rd path = sym (drop-map (map_bits rd) (length slots.types) path.values)

module _ {S B : Type 0} {owns : S → B → Type 0} where
  pub owns_drop : {s : S} (n : ℕ) (values : List (SymValue B)) → OwnsAll owns s (values_bits values)
      → OwnsAll owns s (values_bits (drop n values))
  owns_drop zero values h = h
  owns_drop (suc n) [] h = h
  owns_drop (suc n) (v ∷ vs) h =
      owns_drop n vs (owns_second (bits_of v) (values_bits vs) h)

pub not_zero : (n : ℕ) → (n ≡ 0 → ⊥) → (n == 0) ≡ false
not_zero n h = false_from_ne_true (n == 0) (λ e. h ((Decides-eqb n 0).0 e))

-- values are kept as the limits say, where any are
pub keeps_all : (slots : Slots) → KeepsByLimits slots → (slots.prints ≡ 0 → ⊥)
    → slots.prints ≡ slots.limits.prints
keeps_all slots (inl e) h = absurd (h e)
keeps_all slots (inr e) h = e

none_in : {B : Type 0} (rd : B → Bool) (l : Limits) (n : ℕ) (xs : List (SymValue B))
    → forms_of xs ≡ print_forms l n → n ≡ 0 → printed_in l (map (map_bits rd) xs) ≡ None
none_in rd l n [] e z = refl
none_in rd l zero (x ∷ xs) e z = absurd cc
none_in rd l (suc n) (x ∷ xs) e z = absurd cc

some_in : {B : Type 0} (rd : B → Bool) (l : Limits) (n : ℕ) (xs : List (SymValue B))
    → forms_of xs ≡ print_forms l n → (n == 0) ≡ false
    → (vs : List Value) × (printed_in l (map (map_bits rd) xs) ≡ Some vs)
some_in rd l zero xs e z = absurd cc
some_in rd l (suc n) [] e z = absurd cc
some_in rd l (suc n) (x ∷ xs) e z = (_, refl)

-- on a path values are kept, or none are, as its forms say
pub keeps_none : {S B : Type 0} {owns : S → B → Type 0} {s : S} (slots : Slots) (path : Path B)
    (rd : B → Bool) → HoldsPath owns s (slot_forms slots) path → slots.prints ≡ 0
    → printed_in slots.limits (kept_on slots (way rd path)) ≡ None
keeps_none slots path rd h z =
    let kept = drop (length slots.types) path.values in
    ap (printed_in slots.limits) (sym (kept_read slots rd path))
    ∙ none_in rd slots.limits slots.prints kept (kept_forms slots path.values h.forms_are) z

pub keeps_some : {S B : Type 0} {owns : S → B → Type 0} {s : S} (slots : Slots) (path : Path B)
    (rd : B → Bool) → HoldsPath owns s (slot_forms slots) path → (slots.prints == 0) ≡ false
    → (vs : List Value) × (printed_in slots.limits (kept_on slots (way rd path)) ≡ Some vs)
keeps_some slots path rd h z =
    let kept = drop (length slots.types) path.values in
    let some = some_in rd slots.limits slots.prints kept
    (kept_forms slots path.values h.forms_are) z in
    (some.0, ap (printed_in slots.limits) (sym (kept_read slots rd path)) ∙ some.1)
