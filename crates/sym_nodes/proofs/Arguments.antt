-- The arguments of builtins and the numbers of lists: how many there are, and their types.
use Rattle.std.proofs.Common.{◌≡◌, ◌+◌, ◌<◌, ◌≤◌, ℕ, zero, suc, Bool, true, false, List, [], ◌∷◌, ◌++◌, length, map, take, get_or, refl, sym, ap, ◌∙◌, subst, arith, Some, IsSome}
use Rattle.std.specs.Prelude.{◌&&◌}
use Rattle.std.proofs.lemmas.List.{length-map, map_push, take_all, take_more}
use Rattle.mpy_tree.specs.Builtins.{takes}
use Rattle.mpy_tree.specs.declared.builtins.Builtin.{Builtin}
use Rattle.mpy_tree.specs.declared.typing.Ty.{Ty}
use Rattle.mpy_tree.specs.declared.typing.Ty.TheVariants as ty
use Rattle.mpy_tree.specs.declared.value.Value.{Value}
use Rattle.mpy_tree.specs.declared.value.Value.TheVariants as val
use Rattle.mpy_tree.specs.Rules.{all_numbers, all_sequences, are_operands, builtin_type, same_type, type_if}
use Rattle.mpy_tree.specs.SetTypes.{builtin_gives}
use Rattle.bit_words.specs.Words.{int_of}
use Rattle.sym_values.specs.declared.value.SymValue.{SymValue}
use Rattle.sym_values.specs.declared.value.SymValue.TheVariants as sym_value
use Rattle.sym_values.specs.declared.value.SymOutcome.{SymOutcome}
use Rattle.sym_values.specs.Reading.{Reading, read, sure}
use Rattle.sym_nodes.specs.Operands.{ty_of, types_of, values_of}
use Rattle.sym_nodes.proofs.TypeRules.{IsSequenceType}

pub int_type : (t : Ty) → same_type ty.Int t ≡ true → t ≡ ty.Int
int_type ty.Int e = refl
int_type ty.Bool e = absurd cc
int_type ty.List e = absurd cc
int_type ty.Text e = absurd cc

pub both_hold : (a b : Bool) → a && b ≡ true → (a ≡ true) × (b ≡ true)
both_hold true b e = (refl, e)
both_hold false b e = absurd cc

pub condition_holds : (b : Bool) (t : Ty) → IsSome (type_if b t) → b ≡ true
condition_holds true t e = refl
condition_holds false t e = absurd cc

pub type_given : (b : Bool) (t u : Ty) → type_if b t ≡ Some u → u ≡ t
type_given true t u e = cc
type_given false t u e = absurd cc

module _ {B : Type 0} where
  -- numbers
  pub number_at : (parts : List (SymOutcome B)) (i : ℕ) (o : SymOutcome B) → all_numbers (types_of parts) ≡ true → i < length parts → o ≡ get_or parts i o → ty_of o.value ≡ ty.Int
  number_at [] i o e h is = absurd (omega arith)
  number_at (p ∷ parts) zero o e h is = ap (λ (q : SymOutcome B). ty_of q.value) is ∙ int_type (ty_of p.value) (both_hold _ _ e).0
  number_at (p ∷ parts) (suc i) o e h is = number_at parts i o (both_hold _ _ e).1 (omega arith) is

  pub one_number : (parts : List (SymOutcome B)) (x : SymValue B) → all_numbers (types_of parts) ≡ true → values_of parts ≡ x ∷ [] → ty_of x ≡ ty.Int
  one_number parts x e is =
      let all = subst (λ (xs : List (SymValue B)). all_numbers (map (λ x. Some (ty_of x)) xs) ≡ true) is e in int_type (ty_of x) (both_hold _ _ all).0

  pub two_numbers : (parts : List (SymOutcome B)) (x y : SymValue B) → all_numbers (types_of parts) ≡ true → values_of parts ≡ x ∷ y ∷ [] → (ty_of x ≡ ty.Int) × (ty_of y ≡ ty.Int)
  two_numbers parts x y e is =
      let all = subst (λ (xs : List (SymValue B)). all_numbers (map (λ x. Some (ty_of x)) xs) ≡ true) is e in
      let rest = (both_hold _ _ all).1 in
      (int_type (ty_of x) (both_hold _ _ all).0, int_type (ty_of y) (both_hold _ _ rest).0)

  pub three_numbers : (parts : List (SymOutcome B)) (x y z : SymValue B) → all_numbers (types_of parts) ≡ true → values_of parts ≡ x ∷ y ∷ z ∷ [] → (ty_of x ≡ ty.Int) × (ty_of y ≡ ty.Int) × (ty_of z ≡ ty.Int)
  three_numbers parts x y z e is =
      let all = subst (λ (xs : List (SymValue B)). all_numbers (map (λ x. Some (ty_of x)) xs) ≡ true) is e in
      let rest = (both_hold _ _ all).1 in
      let last = (both_hold _ _ rest).1 in
      (int_type (ty_of x) (both_hold _ _ all).0, int_type (ty_of y) (both_hold _ _ rest).0, int_type (ty_of z) (both_hold _ _ last).0)

  pub one_sequence : (parts : List (SymOutcome B)) (x : SymValue B) → all_sequences (types_of parts) ≡ true → values_of parts ≡ x ∷ [] → IsSequenceType (ty_of x)
  one_sequence parts x e is =
      let all = subst (λ (xs : List (SymValue B)). all_sequences (map (λ x. Some (ty_of x)) xs) ≡ true) is e in (both_hold _ _ all).0

  pub many_types : (parts : List (SymOutcome B)) → length (types_of parts) ≡ length parts
  many_types parts = length-map (values_of parts) (λ x. Some (ty_of x)) ∙ length-map parts (λ o. o.value)

  -- a builtin takes so many arguments, of its types
  pub arguments : (b : Builtin) (parts : List (SymOutcome B)) → IsSome (builtin_type b (types_of parts)) → (takes b (length parts) ≡ true) × (are_operands b (types_of parts) ≡ true)
  arguments b parts h =
      let both = both_hold _ _ (condition_holds (takes b (length (types_of parts)) && are_operands b (types_of parts)) (builtin_gives b) h) in
      (ap (takes b) (sym (many_types parts)) ∙ both.0, both.1)

  -- numbers that are read
  pub numbers_read : (rd : B → Bool) (numbers : List (List B)) (xs : List (SymValue B)) (ws : List Value) → xs ≡ map sym_value.Int numbers → map (read rd) xs ≡ map sure ws
      → map (λ w. val.Int (int_of (map rd w))) numbers ≡ ws
  numbers_read rd [] xs [] is e = refl
  numbers_read rd [] xs (w ∷ ws) is e = let f : [] ≡ sure w ∷ map sure ws = sym (ap (map (read rd)) is) ∙ e in absurd cc
  numbers_read rd (n ∷ numbers) xs [] is e = let f : sure (val.Int (int_of (map rd n))) ∷ map (read rd) (map sym_value.Int numbers) ≡ [] = sym (ap (map (read rd)) is) ∙ e in absurd cc
  numbers_read rd (n ∷ numbers) xs (w ∷ ws) is e =
      let f : sure (val.Int (int_of (map rd n))) ∷ map (read rd) (map sym_value.Int numbers) ≡ sure w ∷ map sure ws = sym (ap (map (read rd)) is) ∙ e in
      let first : sure (val.Int (int_of (map rd n))) ≡ sure w = cc in
      let head : val.Int (int_of (map rd n)) ≡ w = ap (λ (r : Reading). r.value) first in
      let rest : map (read rd) (map sym_value.Int numbers) ≡ map sure ws = cc in
      let tail = numbers_read rd numbers (map sym_value.Int numbers) ws refl rest in
      cc

  -- the values of one part more, and of all
  pub numbers_more : (parts : List (SymOutcome B)) (i : ℕ) (o : SymOutcome B) (v w : List B) (numbers more : List (List B)) → i < length parts → o ≡ get_or parts i o → o.value ≡ sym_value.Int v → w ≡ v
      → values_of (take i parts) ≡ map sym_value.Int numbers → more ≡ numbers ++ w ∷ [] → values_of (take (i + 1) parts) ≡ map sym_value.Int more
  numbers_more parts i o v w numbers more h at is same before e =
      let last : (get_or parts i o).value ≡ sym_value.Int w = ap (λ (p : SymOutcome B). p.value) (sym at) ∙ is ∙ ap sym_value.Int (sym same) in
      ap values_of (take_more parts i o h) ∙ map_push (λ (p : SymOutcome B). p.value) (take i parts) (get_or parts i o)
      ∙ (λ j. before j ++ last j ∷ []) ∙ sym (ap (map sym_value.Int) e ∙ map_push sym_value.Int numbers w)

  pub values_all : (parts : List (SymOutcome B)) (i : ℕ) (numbers : List (List B)) → length parts ≤ i → values_of (take i parts) ≡ map sym_value.Int numbers → values_of parts ≡ map sym_value.Int numbers
  values_all parts i numbers h e = ap values_of (sym (take_all i parts h)) ∙ e
