-- Padded lists, and items made one by one.
use Rattle.std.proofs.Common.{◌≡◌, ℕ, zero, suc, ◌+◌, ◌-◌, ◌^◌, ◌≤◌, ◌<◌, Bool, true, false, List, [], ◌∷◌, ◌++◌, length, map, take, get_or, refl, sym, ap, ◌∙◌, subst, arith}
use Rattle.std.specs.Prelude.{replicate, nat_le, ◌&&◌, ℤ, pos}
use Rattle.std.specs.List.{list_all}
use Rattle.std.proofs.lemmas.List.{map_push}
use Rattle.std.proofs.lemmas.Nat.{pow_pos}
use Rattle.std.proofs.lemmas.Bool.Decides.{nat_tests}
use Rattle.mpy_tree.specs.declared.limits.Limits.{Limits}
use Rattle.mpy_tree.specs.Operations.{fits}
use Rattle.std.proofs.lemmas.Bool.{leb-true}
use Rattle.std.proofs.lemmas.List.{length-map}
use Rattle.mpy_tree.specs.declared.value.Value.{Value}
use Rattle.mpy_tree.specs.declared.value.Value.TheVariants as val
use Rattle.mpy_tree.specs.Fitting.{type_of, value_fits}
use Rattle.sym_values.specs.declared.value.SymValue.TheVariants as sym_value
use Rattle.sym_values.specs.Forms.{IntForm, ListForm, TextForm, form_for, form_of, lengths}
use Rattle.sym_values.specs.Reading.{Reading, spelled, sure}
use Rattle.bit_words.specs.Words.{Holds, int_of, nat_of, fits as bit_fits}
use Rattle.sym_values.specs.Constants.{padded}
use Rattle.sym_values.proofs.Numbers.{same_fits}

-- one element more
pub padded_more : {A : Type 0} (z : A) (k : ℕ) (xs : List A) → padded z (k + 1) xs ≡ padded z k xs ++ get_or xs k z ∷ []
padded_more z zero [] = refl
padded_more z zero (x ∷ xs) = refl
padded_more z (suc k) [] =
    let rest : padded z (k + 1) [] ≡ padded z k [] ++ z ∷ [] = padded_more z k [] in
    let step : suc k + 1 ≡ suc (k + 1) = omega arith in
    rw step (ap (λ w. z ∷ w) rest)
padded_more z (suc k) (x ∷ xs) =
    let rest : padded z (k + 1) xs ≡ padded z k xs ++ get_or xs k z ∷ [] = padded_more z k xs in
    let step : suc k + 1 ≡ suc (k + 1) = omega arith in
    rw step (ap (λ w. x ∷ w) rest)

-- what stands before the padding
pub padded_front : {A : Type 0} (z : A) (k : ℕ) (xs : List A) → length xs ≤ k → take (length xs) (padded z k xs) ≡ xs
padded_front z k [] h = refl
padded_front z zero (x ∷ xs) h = absurd (omega arith)
padded_front z (suc k) (x ∷ xs) h = ap (λ w. x ∷ w) (padded_front z k xs (omega arith))

pub alike_more : {A : Type 0} (k : ℕ) (x : A) → replicate (k + 1) x ≡ replicate k x ++ x ∷ []
alike_more zero x = refl
alike_more (suc k) x =
    let rest : replicate (k + 1) x ≡ replicate k x ++ x ∷ [] = alike_more k x in
    let step : suc k + 1 ≡ suc (k + 1) = omega arith in
    rw step (ap (λ w. x ∷ w) rest)

first : (a b : Bool) → (a && b) ≡ true → a ≡ true
first true b h = refl
first false b h = h

second : (a b : Bool) → (a && b) ≡ true → b ≡ true
second true b h = h
second false b h = absurd cc

-- what holds of all holds at a place, and past the end of what stands for it there
pub all_at : {A : Type 0} (p : A → Bool) (z : A) (xs : List A) (i : ℕ) → list_all p xs ≡ true → p z ≡ true → p (get_or xs i z) ≡ true
all_at p z [] i h k = k
all_at p z (x ∷ xs) zero h k = first (p x) (list_all p xs) h
all_at p z (x ∷ xs) (suc i) h k = all_at p z xs i (second (p x) (list_all p xs) h) k

-- one word more in items that are read
pub item_more : {A B C : Type 0} (f : B → C) (h : A → B) (ws ws' : List A) (w : A) (so_far : List C) (one : C) → map f (map h ws) ≡ so_far → f (h w) ≡ one → ws' ≡ ws ++ w ∷ []
    → map f (map h ws') ≡ so_far ++ one ∷ []
item_more f h ws ws' w so_far one p q e =
    ap (λ v. map f (map h v)) e ∙ ap (map f) (map_push h ws w) ∙ map_push f (map h ws) (h w) ∙ ap (λ v. v ++ f (h w) ∷ []) p ∙ ap (λ v. so_far ++ v ∷ []) q

pub zero_fits : (l : Limits) → fits l (pos 0) ≡ true
zero_fits l = let some = pow_pos (l.width - 1) in grind (arith, nat_tests)

-- a number of a list that fits is what its word reads as
pub number_holds : (l : Limits) (numbers : List ℤ) (i : ℕ) (z given : ℤ) → list_all (fits l) numbers ≡ true → given ≡ get_or numbers i (pos 0) → Holds z l.width given → z ≡ get_or numbers i (pos 0)
number_holds l numbers i z given h e k =
    let fit : fits l given ≡ true = ap (fits l) e ∙ all_at (fits l) (pos 0) numbers i h (zero_fits l) in
    k (same_fits l.width given ∙ fit) ∙ e

pub room_small : (l : Limits) (n : ℕ) → nat_le n l.cap ≡ true → n < 2 ^ 5
room_small l n h = let e = leb-true n l.cap h in let m = l.cap_range.1 in omega arith

padded_long : {A : Type 0} (z : A) (k : ℕ) (xs : List A) → length (padded z k xs) ≡ k
padded_long z zero xs = refl
padded_long z (suc k) [] = ap suc (padded_long z k [])
padded_long z (suc k) (x ∷ xs) = ap suc (padded_long z k xs)

abbrev reading : Bool → Value → Reading
reading p v = record { proper = p; value = v }

reading_is : (p : Bool) (v w u : Value) → p ≡ true → v ≡ w → u ≡ w → reading p v ≡ sure u
reading_is true v w u e f h = ap sure (f ∙ sym h)
reading_is false v w u e f h = absurd cc

-- a list and a text that are padded read as what stands before the padding
pub list_read : (l : Limits) (len : List Bool) (items : List (List Bool)) (zs : List ℤ) (v : Value) → nat_of len ≡ length zs → map int_of items ≡ padded (pos 0) l.cap zs
    → nat_le (length zs) l.cap ≡ true → v ≡ val.List zs → spelled (sym_value.List len items) ≡ sure v
list_read l len items zs v n e h is =
    let long : length items ≡ l.cap = sym (length-map items int_of) ∙ ap length e ∙ padded_long (pos 0) l.cap zs in
    let proper : nat_le (nat_of len) (length items) ≡ true = rw (n, long) h in
    let front : take (nat_of len) (map int_of items) ≡ zs = rw (n, e) (padded_front (pos 0) l.cap zs (leb-true (length zs) l.cap h)) in
    reading_is (nat_le (nat_of len) (length items)) (val.List (take (nat_of len) (map int_of items))) (val.List zs) v proper (ap val.List front) is

pub text_read : (l : Limits) (len : List Bool) (items : List (List Bool)) (cs : List ℕ) (v : Value) → nat_of len ≡ length cs → map nat_of items ≡ padded 0 l.cap cs
    → nat_le (length cs) l.cap ≡ true → v ≡ val.Text cs → spelled (sym_value.Text len items) ≡ sure v
text_read l len items cs v n e h is =
    let long : length items ≡ l.cap = sym (length-map items nat_of) ∙ ap length e ∙ padded_long 0 l.cap cs in
    let proper : nat_le (nat_of len) (length items) ≡ true = rw (n, long) h in
    let front : take (nat_of len) (map nat_of items) ≡ cs = rw (n, e) (padded_front 0 l.cap cs (leb-true (length cs) l.cap h)) in
    reading_is (nat_le (nat_of len) (length items)) (val.Text (take (nat_of len) (map nat_of items))) (val.Text cs) v proper (ap val.Text front) is

pub list_room : (l : Limits) (zs : List ℤ) (v : Value) → v ≡ val.List zs → value_fits l v ≡ true → (nat_le (length zs) l.cap ≡ true) × (list_all (fits l) zs ≡ true)
list_room l zs v e h =
    let k : (nat_le (length zs) l.cap && list_all (fits l) zs) ≡ true = subst (λ (u : Value). value_fits l u ≡ true) e h in
    (first (nat_le (length zs) l.cap) (list_all (fits l) zs) k, second (nat_le (length zs) l.cap) (list_all (fits l) zs) k)

pub text_room : (l : Limits) (cs : List ℕ) (v : Value) → v ≡ val.Text cs → value_fits l v ≡ true → nat_le (length cs) l.cap ≡ true
text_room l cs v e h = subst (λ (u : Value). value_fits l u ≡ true) e h

pub int_room : (l : Limits) (z : ℤ) (v : Value) → v ≡ val.Int z → value_fits l v ≡ true → bit_fits l.width z ≡ true
int_room l z v e h = let k : fits l z ≡ true = subst (λ (u : Value). value_fits l u ≡ true) e h in same_fits l.width z ∙ k

pub list_form : {B : Type 0} (l : Limits) (len : List B) (items : List (List B)) (zs : List ℤ) (v : Value) → v ≡ val.List zs → length len ≡ 5 → lengths items ≡ replicate l.cap l.width
    → form_of (sym_value.List len items) ≡ form_for l (type_of v)
list_form l len items zs v e n h = let p : ListForm (length len) (lengths items) ≡ ListForm 5 (replicate l.cap l.width) = cc in p ∙ ap (λ (u : Value). form_for l (type_of u)) (sym e)

pub text_form : {B : Type 0} (l : Limits) (len : List B) (items : List (List B)) (cs : List ℕ) (v : Value) → v ≡ val.Text cs → length len ≡ 5 → lengths items ≡ replicate l.cap 7
    → form_of (sym_value.Text len items) ≡ form_for l (type_of v)
text_form l len items cs v e n h = let p : TextForm (length len) (lengths items) ≡ TextForm 5 (replicate l.cap 7) = cc in p ∙ ap (λ (u : Value). form_for l (type_of u)) (sym e)

pub int_form : {B : Type 0} (l : Limits) (word : List B) (z : ℤ) (v : Value) → v ≡ val.Int z → length word ≡ l.width → form_of (sym_value.Int word) ≡ form_for l (type_of v)
int_form l word z v e n = let p : IntForm (length word) ≡ IntForm l.width = cc in p ∙ ap (λ (u : Value). form_for l (type_of u)) (sym e)
