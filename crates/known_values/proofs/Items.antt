-- Lists and texts whose items are known as far as their length.
use Rattle.std.proofs.Common.{◌≡◌, ◌∙◌, ℕ, ◌+◌, ◌≤◌, Bool, true, List, [], ◌∷◌, ◌++◌, length, map}
use Rattle.std.proofs.Common.{take, Some, to_z, of_z, w32, refl, ap, sym, subst, arith}
use Rattle.std.specs.Prelude.{slice_get, nat_le, ℤ, FitsSigned}
use Rattle.std.proofs.lemmas.Bool.Decides.{nat_tests}
use Rattle.std.proofs.lemmas.Int.{to_z-of_z}
use Rattle.std.proofs.lemmas.List.{length-map, map_push, take-map}
use Rattle.std.proofs.lemmas.List.Elements.{All-push}
use Rattle.bit_words.specs.Words.{int_of, nat_of}
use Rattle.mpy_tree.specs.declared.value.Value.{Value}
use Rattle.mpy_tree.specs.declared.value.Value.TheVariants as val
use Rattle.mpy_tree.specs.Printable.{ArePrintable}
use Rattle.sym_values.specs.declared.value.SymValue.{SymValue}
use Rattle.sym_values.specs.declared.value.SymValue.TheVariants as sym_value
use Rattle.sym_values.specs.Reading.{Reading, read, sure}
use Rattle.sym_values.proofs.Held.{take_read}

-- one item more
pub item_known : {A C : Type 0} (f : A → C) (xs : List A) (i : ℕ) (x : A) (so_far more : List C)
    (one : C) → slice_get xs i ≡ Some x → map f (take i xs) ≡ so_far → f x ≡ one
    → more ≡ so_far ++ one ∷ [] → map f (take (i + 1) xs) ≡ more
item_known f xs i x so_far more one at before now e =
    ap (map f) (take_read xs i x at) ∙ map_push f (take i xs) x
    ∙ ap (λ v. v ++ f x ∷ []) before ∙ ap (λ v. so_far ++ v ∷ []) now ∙ sym e

maps : {A B C : Type 0} (f : B → C) (h : A → B) (xs : List A)
    → map f (map h xs) ≡ map (λ x. f (h x)) xs
maps f h [] = refl
maps f h (x ∷ xs) = ap (λ v. f (h x) ∷ v) (maps f h xs)

front : {A B C : Type 0} (f : B → C) (h : A → B) (n : ℕ) (xs : List A)
    → take n (map f (map h xs)) ≡ map (λ x. f (h x)) (take n xs)
front f h n xs =
    take-map f n (map h xs) ∙ ap (map f) (take-map h n xs) ∙ maps f h (take n xs)

abbrev reading : Bool → Value → Reading
reading p v = record { proper = p; value = v }

proper_is : (n m : ℕ) {A B : Type 0} (h : A → B) (xs : List A) → m ≡ n → n ≤ length xs
    → nat_le m (length (map h xs)) ≡ true
proper_is n m h xs e k = let long = length-map xs h in rw (long, e) (grind (arith, nat_tests))

-- a list and a text whose length and items are known
module _ {B : Type 0} (rd : B → Bool) (x : SymValue B) (len : List B) (items : List (List B))
    (n : ℕ) where
  pub list_known : (zs : List ℤ) → x ≡ sym_value.List len items → nat_of (map rd len) ≡ n
      → n ≤ length items → map (λ w. int_of (map rd w)) (take n items) ≡ zs
      → read rd x ≡ sure (val.List zs)
  list_known zs is e k h =
      let m : ℕ = nat_of (map rd len) in
      let numbers : List ℤ = map int_of (map (map rd) items) in
      let same : take m numbers ≡ zs =
      ap (λ (i : ℕ). take i numbers) e ∙ front int_of (map rd) n items ∙ h in
      let proper = proper_is n m (map rd) items e k in
      ap (read rd) is ∙ ap (λ (p : Bool). reading p (val.List (take m numbers))) proper
      ∙ ap (λ (v : List ℤ). sure (val.List v)) same

  pub text_known : (cs : List ℕ) → x ≡ sym_value.Text len items → nat_of (map rd len) ≡ n
      → n ≤ length items → map (λ w. nat_of (map rd w)) (take n items) ≡ cs
      → read rd x ≡ sure (val.Text cs)
  text_known cs is e k h =
      let m : ℕ = nat_of (map rd len) in
      let characters : List ℕ = map nat_of (map (map rd) items) in
      let same : take m characters ≡ cs =
      ap (λ (i : ℕ). take i characters) e ∙ front nat_of (map rd) n items ∙ h in
      let proper = proper_is n m (map rd) items e k in
      ap (read rd) is ∙ ap (λ (p : Bool). reading p (val.Text (take m characters))) proper
      ∙ ap (λ (v : List ℕ). sure (val.Text v)) same

-- one character more
pub printable_more : (cs more : List ℕ) (c : ℕ) → more ≡ cs ++ c ∷ [] → ArePrintable cs
    → (32 ≤ c) × (c ≤ 126) → ArePrintable more
printable_more cs more c e h k =
    subst ArePrintable (sym e) (All-push (λ (x : ℕ). (32 ≤ x) × (x ≤ 126)) cs c h k)

-- one number more, which is pushed as it is held
pub number_more : (zs more : List ℤ) (z : ℤ) → more ≡ zs ++ to_z w32 (of_z w32 z) ∷ []
    → FitsSigned w32 z → more ≡ zs ++ z ∷ []
number_more zs more z e h = e ∙ ap (λ (y : ℤ). zs ++ y ∷ []) (to_z-of_z w32 z h)
