-- What lists and texts as bits read as, and what the language's operations give on them.
use Rattle.std.proofs.Common.{◌≡◌, ℕ, zero, suc, ◌-◌, ◌≤◌, Bool, true, false, not, List, [], ◌∷◌, ◌++◌, length, map, take, drop, refl, sym, ap, ◌∙◌, arith, cond, Option}
use Rattle.std.specs.Prelude.{ℤ, nat_le}
use Rattle.std.proofs.lemmas.Bool.{le-leb, leb-true}
use Rattle.std.proofs.lemmas.List.{drop-map, length-map, map-append, take-map}
use Rattle.std.specs.declared.result.Result.{Result}
use Rattle.std.specs.declared.result.Result.TheVariants.{Ok, Err}
use Rattle.mpy_tree.specs.declared.limits.Limits.{Limits}
use Rattle.mpy_tree.specs.declared.value.Value.{Value}
use Rattle.mpy_tree.specs.declared.value.Value.TheVariants as val
use Rattle.mpy_tree.specs.declared.outcome.FaultKind.TheVariants as kind
use Rattle.mpy_tree.specs.declared.outcome.Halt.{Halt}
use Rattle.mpy_tree.specs.declared.outcome.Halt.TheVariants.{Fault}
use Rattle.mpy_tree.specs.Operations.{append, copies, copy_count, cut, end_or, list_within, product, repeated, slice, sum, text_within}
use Rattle.bit_words.specs.Words.{int_of, nat_of}
use Rattle.bit_lists.specs.Lists.{ReadsWithin}
use Rattle.sym_values.specs.declared.value.SymValue.{SymValue}
use Rattle.sym_values.specs.declared.value.SymValue.TheVariants as sym_value
use Rattle.sym_values.specs.Forms.{form_of, HasLength}
use Rattle.sym_values.specs.Reading.{IsOutcome, read, Reading, sure}
use Rattle.list_values.specs.Sequences.{IsWordFor, items_of, len_of, of_kind}

-- the items within the length of a list or a text
abbrev pub words_of : {B : Type 0} → (B → Bool) → SymValue B → List (List Bool)
words_of f x = take (nat_of (map f (len_of x))) (map (map f) (items_of x))

-- what words are together, as a value of a kind
abbrev pub value_of_kind : {B : Type 0} → SymValue B → List (List Bool) → Value
value_of_kind (sym_value.Text len items) ws = val.Text (map nat_of ws)
value_of_kind x ws = val.List (map int_of ws)

few : {B : Type 0} (f : B → Bool) (n : ℕ) (items : List (List B)) → nat_le n (length (map (map f) items)) ≡ true → n ≤ length items
few f n items h =
    let least = leb-true n (length (map (map f) items)) h in
    let long : length (map (map f) items) ≡ length items = simp length-map refl in
    omega arith

pub proper : {B : Type 0} (f : B → Bool) (x : SymValue B) (v : Value) → HasLength x → read f x ≡ sure v → nat_of (map f (len_of x)) ≤ length (items_of x)
proper f (sym_value.Int w) v h e = absurd h
proper f (sym_value.Bool b) v h e = absurd h
proper f (sym_value.List len items) v h e = few f (nat_of (map f len)) items (ap (λ (r : Reading). r.proper) e)
proper f (sym_value.Text len items) v h e = few f (nat_of (map f len)) items (ap (λ (r : Reading). r.proper) e)

pub value_is : {B : Type 0} (f : B → Bool) (x : SymValue B) (v : Value) → HasLength x → read f x ≡ sure v → value_of_kind x (words_of f x) ≡ v
value_is f (sym_value.Int w) v h e = absurd h
value_is f (sym_value.Bool b) v h e = absurd h
value_is f (sym_value.List len items) v h e = ap val.List (sym (take-map int_of (nat_of (map f len)) (map (map f) items))) ∙ ap (λ (r : Reading). r.value) e
value_is f (sym_value.Text len items) v h e = ap val.Text (sym (take-map nat_of (nat_of (map f len)) (map (map f) items))) ∙ ap (λ (r : Reading). r.value) e

abbrev reading : Bool → Value → Reading
reading p v = record { proper = p; value = v }

reading_is : (p : Bool) (v u : Value) → p ≡ true → v ≡ u → reading p v ≡ sure u
reading_is true v u e f = ap sure f
reading_is false v u e f = absurd cc

fits_in : {B : Type 0} (f : B → Bool) (n : ℕ) (items : List (List B)) → n ≤ length items → nat_le n (length (map (map f) items)) ≡ true
fits_in f n items h =
    let long : length (map (map f) items) ≡ length items = simp length-map refl in
    le-leb n (length (map (map f) items)) (omega arith)

pub reads_like : {B : Type 0} (f : B → Bool) (x : SymValue B) (len : List B) (items : List (List B)) → HasLength x → nat_of (map f len) ≤ length items
    → read f (of_kind x len items) ≡ sure (value_of_kind x (take (nat_of (map f len)) (map (map f) items)))
reads_like f (sym_value.Int w) len items h l = absurd h
reads_like f (sym_value.Bool b) len items h l = absurd h
reads_like f (sym_value.List m xs) len items h l =
    reading_is (nat_le (nat_of (map f len)) (length (map (map f) items))) (val.List (take (nat_of (map f len)) (map int_of (map (map f) items)))) _ (fits_in f (nat_of (map f len)) items l)
    (ap val.List (take-map int_of (nat_of (map f len)) (map (map f) items)))
reads_like f (sym_value.Text m xs) len items h l =
    reading_is (nat_le (nat_of (map f len)) (length (map (map f) items))) (val.Text (take (nat_of (map f len)) (map nat_of (map (map f) items)))) _ (fits_in f (nat_of (map f len)) items l)
    (ap val.Text (take-map nat_of (nat_of (map f len)) (map (map f) items)))

-- words as a value of a kind, or Length
abbrev pub held : {B : Type 0} → Limits → SymValue B → List (List Bool) → Result Value Halt
held l x ws = cond (nat_le (length ws) l.cap) (Ok (value_of_kind x ws)) (Err (Fault kind.Length))

pub chosen : (b fault : Bool) (r : Reading) (v : Value) (h : Halt) → fault ≡ not b → (b ≡ true → r ≡ sure v) → IsOutcome fault r (cond b (Ok v) (Err h))
chosen true fault r v h e k = (e, k refl)
chosen false fault r v h e k = e

pub held_is : {B : Type 0} (l : Limits) (f : B → Bool) (x value : SymValue B) (len : List B) (items : List (List B)) (fault : Bool) (ws : List (List Bool)) (cap : ℕ) → HasLength x → l.cap ≡ cap
    → value ≡ of_kind x len items → nat_of (map f len) ≤ length items → ReadsWithin cap fault (take (nat_of (map f len)) (map (map f) items)) ws → IsOutcome fault (read f value) (held l x ws)
held_is l f x value len items fault ws cap h e same fine r =
    let test : nat_le (length ws) l.cap ≡ nat_le (length ws) cap = ap (nat_le (length ws)) e in
    chosen (nat_le (length ws) l.cap) fault (read f value) (value_of_kind x ws) (Fault kind.Length) (r.passes ∙ ap not (sym test))
    (λ k. ap (read f) same ∙ reads_like f x len items h fine ∙ ap (λ (v : List (List Bool)). sure (value_of_kind x v)) (r.reads_as (sym test ∙ k)))

pub list_held : (l : Limits) (ws : List (List Bool)) → list_within l (map int_of ws) ≡ cond (nat_le (length ws) l.cap) (Ok (val.List (map int_of ws))) (Err (Fault kind.Length))
list_held l ws = ap (λ (n : ℕ). cond (nat_le n l.cap) (Ok (val.List (map int_of ws))) (Err (Fault kind.Length))) (length-map ws int_of)

text_held : (l : Limits) (ws : List (List Bool)) → text_within l (map nat_of ws) ≡ cond (nat_le (length ws) l.cap) (Ok (val.Text (map nat_of ws))) (Err (Fault kind.Length))
text_held l ws = ap (λ (n : ℕ). cond (nat_le n l.cap) (Ok (val.Text (map nat_of ws))) (Err (Fault kind.Length))) (length-map ws nat_of)

-- the operations on the words of lists and texts
pub sum_held : {B : Type 0} (l : Limits) (x y : SymValue B) (ws us : List (List Bool)) → HasLength x → form_of y ≡ form_of x → held l x (ws ++ us) ≡ sum l (value_of_kind x ws) (value_of_kind y us)
sum_held l (sym_value.Int w) y ws us h e = absurd h
sum_held l (sym_value.Bool b) y ws us h e = absurd h
sum_held l (sym_value.List m xs) (sym_value.Int w) ws us h e = absurd cc
sum_held l (sym_value.List m xs) (sym_value.Bool b) ws us h e = absurd cc
sum_held l (sym_value.List m xs) (sym_value.List n ys) ws us h e = sym (list_held l (ws ++ us)) ∙ ap (list_within l) (map-append int_of ws us)
sum_held l (sym_value.List m xs) (sym_value.Text n ys) ws us h e = absurd cc
sum_held l (sym_value.Text m xs) (sym_value.Int w) ws us h e = absurd cc
sum_held l (sym_value.Text m xs) (sym_value.Bool b) ws us h e = absurd cc
sum_held l (sym_value.Text m xs) (sym_value.List n ys) ws us h e = absurd cc
sum_held l (sym_value.Text m xs) (sym_value.Text n ys) ws us h e = sym (text_held l (ws ++ us)) ∙ ap (text_within l) (map-append nat_of ws us)

map_copies : {X Y : Type 0} (f : X → Y) (n : ℕ) (xs : List X) → map f (copies n xs) ≡ copies n (map f xs)
map_copies f zero xs = refl
map_copies f (suc n) xs = map-append f xs (copies n xs) ∙ ap (λ v. map f xs ++ v) (map_copies f n xs)

pub product_held : {B : Type 0} (l : Limits) (x : SymValue B) (ws : List (List Bool)) (z : ℤ) → HasLength x → held l x (repeated ws z) ≡ product l (value_of_kind x ws) (val.Int z)
product_held l (sym_value.Int w) ws z h = absurd h
product_held l (sym_value.Bool b) ws z h = absurd h
product_held l (sym_value.List m xs) ws z h = sym (list_held l (repeated ws z)) ∙ ap (list_within l) (map_copies int_of (copy_count z) ws)
product_held l (sym_value.Text m xs) ws z h = sym (text_held l (repeated ws z)) ∙ ap (text_within l) (map_copies nat_of (copy_count z) ws)

pub append_held : {B : Type 0} (l : Limits) (x : SymValue B) (ws : List (List Bool)) (word : List B) (w : List Bool) → IsWordFor word x → held l x (ws ++ w ∷ []) ≡ append l (value_of_kind x ws) (val.Int (int_of w))
append_held l (sym_value.Int v) ws word w h = absurd h
append_held l (sym_value.Bool b) ws word w h = absurd h
append_held l (sym_value.List m xs) ws word w h = sym (list_held l (ws ++ w ∷ [])) ∙ ap (list_within l) (map-append int_of ws (w ∷ []))
append_held l (sym_value.Text m xs) ws word w h = absurd h

map_cut : {X Y : Type 0} (f : X → Y) (xs : List X) (a b : Option ℤ) → map f (cut xs a b) ≡ cut (map f xs) a b
map_cut f xs a b =
    let n = length xs in
    let from = end_or 0 a n in
    sym (take-map f (end_or n b n - from) (drop from xs)) ∙ ap (take (end_or n b n - from)) (sym (drop-map f from xs))
    ∙ ap (λ (k : ℕ). take (end_or k b k - end_or 0 a k) (drop (end_or 0 a k) (map f xs))) (sym (length-map xs f))

pub slice_held : {B : Type 0} (x : SymValue B) (ws : List (List Bool)) (a b : Option ℤ) → HasLength x → Ok (value_of_kind x (cut ws a b)) ≡ slice (value_of_kind x ws) a b
slice_held (sym_value.Int w) ws a b h = absurd h
slice_held (sym_value.Bool t) ws a b h = absurd h
slice_held (sym_value.List m xs) ws a b h = ap (λ (v : List ℤ). Ok (val.List v)) (map_cut int_of ws a b)
slice_held (sym_value.Text m xs) ws a b h = ap (λ (v : List ℕ). Ok (val.Text v)) (map_cut nat_of ws a b)
