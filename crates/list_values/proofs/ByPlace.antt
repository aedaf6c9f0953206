-- The members of lists and texts by their places.
use Rattle.std.proofs.Common.{◌≡◌, ℕ, zero, suc, ◌+◌, ◌≤◌, Bool, not, List, [], ◌∷◌, length, map, take, refl, sym, ap, ◌∙◌, arith, Some, None, Option}
use Rattle.std.specs.Prelude.{nat_lt, option_map, slice_get}
use Rattle.std.proofs.lemmas.Bool.Decides.{nat_tests}
use Rattle.std.proofs.lemmas.List.{length-map, length-take-le}
use Rattle.std.proofs.lemmas.Option.{slice_get-map}
use Rattle.std.specs.declared.result.Result.TheVariants.{Ok}
use Rattle.mpy_tree.specs.declared.value.Value.{Value}
use Rattle.mpy_tree.specs.declared.value.Value.TheVariants as val
use Rattle.mpy_tree.specs.Operations.{members}
use Rattle.bit_words.specs.Words.{int_of, nat_of}
use Rattle.sym_values.specs.declared.value.SymValue.{SymValue}
use Rattle.sym_values.specs.declared.value.SymValue.TheVariants as sym_value
use Rattle.sym_values.specs.Forms.{HasLength}
use Rattle.sym_values.specs.Reading.{read, sure}
use Rattle.list_values.specs.Sequences.{item_of_kind, items_of, len_of}
use Rattle.list_values.proofs.Meanings.{proper, value_is, value_of_kind, words_of}

map_twice : {X Y Z : Type 0} (f : X → Y) (g : Y → Z) (xs : List X) → map (λ x. g (f x)) xs ≡ map g (map f xs)
map_twice f g [] = refl
map_twice f g (x ∷ xs) = ap (λ ys. g (f x) ∷ ys) (map_twice f g xs)

-- the members are the words within the length, as items
members_held : {B : Type 0} (x : SymValue B) (ws : List (List Bool)) (ms : List Value) → HasLength x → members (value_of_kind x ws) ≡ Ok ms → map (item_of_kind x) ws ≡ ms
members_held (sym_value.Int w) ws ms h e = absurd h
members_held (sym_value.Bool b) ws ms h e = absurd h
members_held (sym_value.List m xs) ws ms h e =
    let same : map val.Int (map int_of ws) ≡ ms = cc in
    map_twice int_of val.Int ws ∙ same
members_held (sym_value.Text m xs) ws ms h e =
    let same : map (λ c. val.Text (c ∷ [])) (map nat_of ws) ≡ ms = cc in
    map_twice nat_of (λ c. val.Text (c ∷ [])) ws ∙ same

members_are : {B : Type 0} (f : B → Bool) (x : SymValue B) (v : Value) (ms : List Value) → HasLength x → read f x ≡ sure v → members v ≡ Ok ms → map (item_of_kind x) (words_of f x) ≡ ms
members_are f x v ms h e k = members_held x (words_of f x) ms h (ap members (value_is f x v h e) ∙ k)

-- how many there are
pub member_count : {B : Type 0} (f : B → Bool) (x : SymValue B) (v : Value) (ms : List Value) → HasLength x → read f x ≡ sure v → members v ≡ Ok ms → length ms ≡ nat_of (map f (len_of x))
member_count f x v ms h e k =
    let within = proper f x v h e in
    let same = length-map (items_of x) (map f) in
    let fits : nat_of (map f (len_of x)) ≤ length (map (map f) (items_of x)) = omega arith in
    sym (ap length (members_are f x v ms h e k)) ∙ length-map (words_of f x) (item_of_kind x) ∙ length-take-le (nat_of (map f (len_of x))) (map (map f) (items_of x)) fits

-- there is one at a place where there aren't fewer
pub place_is_there : (place n m : ℕ) (short r : Bool) → short ≡ nat_lt n (place + 1) → r ≡ not short → m ≡ n → r ≡ nat_lt place m
place_is_there place n m short r e f g = grind (arith, nat_tests)

taken_at : {X : Type 0} (n : ℕ) (xs : List X) (k : ℕ) (x : X) → slice_get (take n xs) k ≡ Some x → slice_get xs k ≡ Some x
taken_at zero xs k x e = absurd cc
taken_at (suc n) [] k x e = absurd cc
taken_at (suc n) (y ∷ xs) zero x e = e
taken_at (suc n) (y ∷ xs) (suc k) x e = taken_at n xs k x e

shown : {X Y : Type 0} (g : X → Y) (o : Option X) (y : Y) → option_map g o ≡ Some y → (x : X) × (o ≡ Some x) × (g x ≡ y)
shown g None y e = absurd cc
shown g (Some x) y e = (x, refl, cc)

-- the one at a place
pub member_at : {B : Type 0} (f : B → Bool) (x : SymValue B) (v w : Value) (ms : List Value) (place : ℕ) (word : List B) → HasLength x → read f x ≡ sure v → members v ≡ Ok ms → slice_get ms place ≡ Some w
    → slice_get (items_of x) place ≡ Some word → item_of_kind x (map f word) ≡ w
member_at f x v w ms place word h e k at is =
    let there = shown (item_of_kind x) (slice_get (words_of f x) place) w
    (sym (slice_get-map (item_of_kind x) (words_of f x) place) ∙ ap (λ ns. slice_get ns place) (members_are f x v ms h e k) ∙ at) in
    let whole = taken_at (nat_of (map f (len_of x))) (map (map f) (items_of x)) place there.0 there.1 in
    let here = sym (slice_get-map (map f) (items_of x) place ∙ ap (option_map (map f)) is) ∙ whole in
    let same : map f word ≡ there.0 = cc in
    ap (item_of_kind x) same ∙ there.2
