-- The values of an input, and the members of a selection, as constant bits, one after another.
use Rattle.std.proofs.Common.{◌≡◌, ◌∙◌, ℕ, zero, suc, Bool, true, List, []}
use Rattle.std.proofs.Common.{◌∷◌, ◌++◌, map, Some, refl, sym, ap, subst, slice_get}
use Rattle.std.specs.Prelude.{All}
use Rattle.std.proofs.lemmas.Bool.{and_parts}
use Rattle.std.proofs.lemmas.List.{map_push}
use Rattle.std.proofs.lemmas.List.Elements.{All-append, All-cons, All-nil}
use Rattle.mpy_tree.specs.declared.limits.Limits.{Limits}
use Rattle.mpy_tree.specs.declared.typing.Ty.{Ty}
use Rattle.mpy_tree.specs.declared.value.Value.{Value}
use Rattle.mpy_tree.specs.Fitting.{all_fit_as, fits_as, type_of, value_fits}
use Rattle.mpy_tree.specs.Rules.{same_type}
use Rattle.typed_programs.proofs.Operators.{same_is}
use Rattle.sym_values.specs.declared.value.SymValue.{SymValue}
use Rattle.sym_values.specs.Forms.{form_for}
use Rattle.sym_values.specs.Reading.{read, sure}
use Rattle.sym_values.specs.Results.{IsValueIn}
use Rattle.sym_nodes.specs.Operands.{IsTypedIn, ty_of}
use Rattle.sym_nodes.proofs.Typed.{type_is}

-- values that fit as values of types have these, and each fits
pub fit_types : (l : Limits) (ts : List Ty) (vs : List Value) → all_fit_as l ts vs ≡ true
    → map type_of vs ≡ ts
fit_types l [] [] e = refl
fit_types l [] (v ∷ vs) e = absurd cc
fit_types l (t ∷ ts) [] e = absurd cc
fit_types l (t ∷ ts) (v ∷ vs) e =
    let both = and_parts (fits_as l t v) (all_fit_as l ts vs) e in
    let own = and_parts (same_type t (type_of v)) (value_fits l v) both.0 in
    let head = sym (same_is t (type_of v) own.0) in
    let tail = fit_types l ts vs both.1 in
    λ i. head i ∷ tail i

pub each_fits : (l : Limits) (ts : List Ty) (vs : List Value) (i : ℕ) (v : Value)
    → all_fit_as l ts vs ≡ true → slice_get vs i ≡ Some v → value_fits l v ≡ true
each_fits l [] [] i v e is = absurd cc
each_fits l [] (w ∷ vs) i v e is = absurd cc
each_fits l (t ∷ ts) [] i v e is = absurd cc
each_fits l (t ∷ ts) (w ∷ vs) zero v e is =
    let both = and_parts (fits_as l t w) (all_fit_as l ts vs) e in
    let own = and_parts (same_type t (type_of w)) (value_fits l w) both.0 in
    let same : w ≡ v = cc in subst (λ x. value_fits l x ≡ true) same own.1
each_fits l (t ∷ ts) (w ∷ vs) (suc i) v e is =
    each_fits l ts vs i v (and_parts (fits_as l t w) (all_fit_as l ts vs) e).1 is

-- The first of these values as bits: of their types, and under all truth values they read as they.
pub record AreFirst {S B : Type 0} (owns : S → B → Type 0) (reads : S → List Bool → B → Bool)
    (s : S) (l : Limits) (values : List Value) (args : List (SymValue B)) : Type 0 where
  pub each : All (IsTypedIn owns s l) args
  pub types : map (λ x. ty_of x) args ≡ map type_of values
  pub read : (vs : List Bool) → map (read (reads s vs)) args ≡ map sure values

module _ {S B : Type 0} {owns : S → B → Type 0} {reads : S → List Bool → B → Bool} {s : S}
    (l : Limits) where
  pub no_first : AreFirst owns reads s l [] []
  no_first = record { each = All-nil (IsTypedIn owns s l); types = refl; read = λ vs. refl }

  -- and one value more
  pub one_more : (values : List Value) (v : Value) (args : List (SymValue B)) (x : SymValue B)
      → AreFirst owns reads s l values args → IsValueIn owns s (form_for l (type_of v)) x
      → ((vs : List Bool) → read (reads s vs) x ≡ sure v)
      → AreFirst owns reads s l (values ++ v ∷ []) (args ++ x ∷ [])
  one_more values v args x before made is =
      let type = type_is l (type_of v) x made.form in
      let typed : IsTypedIn owns s l x = record {
        owned = made.owned;
        form = made.form ∙ ap (form_for l) (sym type);
      } in
      let P = IsTypedIn owns s l in
      record {
        each = All-append P args (x ∷ []) before.each (All-cons P x [] typed (All-nil P));
        types = map_push (λ y. ty_of y) args x
            ∙ (λ i. before.types i ++ type i ∷ []) ∙ sym (map_push type_of values v);
        read = λ vs. map_push (read (reads s vs)) args x
            ∙ (λ i. before.read vs i ++ is vs i ∷ []) ∙ sym (map_push sure values v);
      }
