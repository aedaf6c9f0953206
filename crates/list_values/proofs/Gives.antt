-- What a call on the parts of lists and texts gives, as the language's operation on the values.
use Rattle.std.proofs.Common.{◌≡◌, ◌≤◌, Bool, false, List, [], ◌∷◌, ◌++◌, length, map, take, ap, ◌∙◌, subst, Option}
use Rattle.std.specs.Prelude.{ℤ}
use Rattle.std.specs.declared.result.Result.{Result}
use Rattle.mpy_tree.specs.declared.limits.Limits.{Limits}
use Rattle.mpy_tree.specs.declared.value.Value.{Value}
use Rattle.mpy_tree.specs.declared.value.Value.TheVariants as val
use Rattle.mpy_tree.specs.declared.outcome.Halt.{Halt}
use Rattle.mpy_tree.specs.Operations.{append, cut, index, index_in, product, put, repeated, slice, sum}
use Rattle.bit_words.specs.Words.{int_of, nat_of}
use Rattle.bit_lists.specs.Lists.{ReadsWithin}
use Rattle.bit_lists.specs.Places.{ItemIs, PutIs}
use Rattle.sym_values.specs.declared.value.SymValue.{SymValue}
use Rattle.sym_values.specs.Forms.{form_of, HasLength}
use Rattle.sym_values.specs.Reading.{IsOutcome, read, sure}
use Rattle.list_values.specs.Sequences.{IsWordFor, item_of_kind, items_of, len_of, of_kind}
use Rattle.list_values.proofs.Meanings.{append_held, held, held_is, product_held, proper, reads_like, slice_held, sum_held, value_is, value_of_kind, words_of}
use Rattle.list_values.proofs.Places.{item_is, put_is}

module _ {B : Type 0} (f f' : B → Bool) (x value : SymValue B) (l : Limits) (v : Value) (len m : List B) (items xs : List (List B)) (fault : Bool)
    (sized : HasLength x) (digits : m ≡ len_of x) (words : xs ≡ items_of x) (cap : l.cap ≡ length (items_of x)) (reads : read f x ≡ sure v) where
  -- a list or a text that the items hold, or Length
  held_gives : (F : List (List Bool) → List (List Bool)) (r : Result Value Halt) → value ≡ of_kind x len items → nat_of (map f' len) ≤ length items
      → (nat_of (map f m) ≤ length xs → ReadsWithin (length xs) fault (take (nat_of (map f' len)) (map (map f') items)) (F (take (nat_of (map f m)) (map (map f) xs))))
      → held l x (F (words_of f x)) ≡ r → IsOutcome fault (read f' value) r
  held_gives F r same fine within is =
      let whole = rw (digits, words) at within in
      subst (λ (r : Result Value Halt). IsOutcome fault (read f' value) r) is
      (held_is l f' x value len items fault (F (words_of f x)) (length (items_of x)) sized cap same fine (whole (proper f x v sized reads)))

  pub product_gives : (z : ℤ) → value ≡ of_kind x len items → nat_of (map f' len) ≤ length items
      → (nat_of (map f m) ≤ length xs → ReadsWithin (length xs) fault (take (nat_of (map f' len)) (map (map f') items)) (repeated (take (nat_of (map f m)) (map (map f) xs)) z))
      → IsOutcome fault (read f' value) (product l v (val.Int z))
  product_gives z same fine within =
      held_gives (λ (ws : List (List Bool)). repeated ws z) _ same fine within
      (product_held l x (words_of f x) z sized ∙ ap (λ (u : Value). product l u (val.Int z)) (value_is f x v sized reads))

  pub append_gives : (word : List B) (w : List Bool) → IsWordFor word x → value ≡ of_kind x len items → nat_of (map f' len) ≤ length items
      → (nat_of (map f m) ≤ length xs → ReadsWithin (length xs) fault (take (nat_of (map f' len)) (map (map f') items)) (take (nat_of (map f m)) (map (map f) xs) ++ w ∷ []))
      → IsOutcome fault (read f' value) (append l v (val.Int (int_of w)))
  append_gives word w alike same fine within =
      held_gives (λ (ws : List (List Bool)). ws ++ w ∷ []) _ same fine within
      (append_held l x (words_of f x) word w alike ∙ ap (λ (u : Value). append l u (val.Int (int_of w))) (value_is f x v sized reads))

  pub sum_gives : (y : SymValue B) (w : Value) (n : List B) (ys : List (List B)) → HasLength y → form_of y ≡ form_of x → n ≡ len_of y → ys ≡ items_of y → read f y ≡ sure w
      → value ≡ of_kind x len items → nat_of (map f' len) ≤ length items
      → (nat_of (map f m) ≤ length xs → nat_of (map f n) ≤ length ys → ReadsWithin (length xs) fault (take (nat_of (map f' len)) (map (map f') items))
      (take (nat_of (map f m)) (map (map f) xs) ++ take (nat_of (map f n)) (map (map f) ys)))
      → IsOutcome fault (read f' value) (sum l v w)
  sum_gives y w n ys also alike also_digits also_words also_reads same fine within =
      let whole = rw (also_digits, also_words) at within in
      held_gives (λ (ws : List (List Bool)). ws ++ words_of f y) _ same fine (λ (h : nat_of (map f m) ≤ length xs). whole h (proper f y w also also_reads))
      (sum_held l x y (words_of f x) (words_of f y) sized alike ∙ ap (λ (u : Value). sum l u (value_of_kind y (words_of f y))) (value_is f x v sized reads) ∙ ap (sum l v) (value_is f y w also also_reads))

module _ {B : Type 0} (f f' : B → Bool) (x value : SymValue B) (v : Value) (m : List B) (xs : List (List B)) (fault : Bool)
    (sized : HasLength x) (digits : m ≡ len_of x) (words : xs ≡ items_of x) (reads : read f x ≡ sure v) where
  pub slice_gives : (len : List B) (items : List (List B)) (a b : Option ℤ) → fault ≡ false → value ≡ of_kind x len items → (nat_of (map f m) ≤ length xs → nat_of (map f' len) ≤ length items)
      → (nat_of (map f m) ≤ length xs → take (nat_of (map f' len)) (map (map f') items) ≡ cut (take (nat_of (map f m)) (map (map f) xs)) a b)
      → IsOutcome fault (read f' value) (slice v a b)
  slice_gives len items a b none same fine are =
      let within = proper f x v sized reads in
      let whole = rw (digits, words) at are in
      let also = rw (digits, words) at fine in
      let is = slice_held x (words_of f x) a b sized ∙ ap (λ (u : Value). slice u a b) (value_is f x v sized reads) in
      let out = ap (read f') same ∙ reads_like f' x len items sized (also within) ∙ ap (λ (ws : List (List Bool)). sure (value_of_kind x ws)) (whole within) in
      subst (λ (r : Result Value Halt). IsOutcome fault (read f' value) r) is (none, out)

  pub put_gives : (len : List B) (items : List (List B)) (word : List B) (w : List Bool) (z : ℤ) → IsWordFor word x → value ≡ of_kind x len items → (nat_of (map f m) ≤ length xs → nat_of (map f' len) ≤ length items)
      → (nat_of (map f m) ≤ length xs → PutIs fault (take (nat_of (map f' len)) (map (map f') items)) (take (nat_of (map f m)) (map (map f) xs)) w (index_in z (length (take (nat_of (map f m)) (map (map f) xs)))))
      → IsOutcome fault (read f' value) (put v (val.Int z) (val.Int (int_of w)))
  put_gives len items word w z alike same fine are =
      let within = proper f x v sized reads in
      let whole = rw (digits, words) at are in
      let also = rw (digits, words) at fine in
      let out = ap (read f') same ∙ reads_like f' x len items sized (also within) in
      subst (λ (u : Value). IsOutcome fault (read f' value) (put u (val.Int z) (val.Int (int_of w)))) (value_is f x v sized reads)
      (put_is x (words_of f x) _ word w z fault (read f' value) alike (whole within) out)

  pub item_gives : (w : List Bool) (z : ℤ) → read f' value ≡ sure (item_of_kind x w)
      → (nat_of (map f m) ≤ length xs → ItemIs fault w (take (nat_of (map f m)) (map (map f) xs)) (index_in z (length (take (nat_of (map f m)) (map (map f) xs)))))
      → IsOutcome fault (read f' value) (index v (val.Int z))
  item_gives w z is are =
      let within = proper f x v sized reads in
      let whole = rw (digits, words) at are in
      subst (λ (u : Value). IsOutcome fault (read f' value) (index u (val.Int z))) (value_is f x v sized reads)
      (item_is x (words_of f x) w z fault (read f' value) sized (whole within) is)
