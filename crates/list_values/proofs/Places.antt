-- The items at places, as the language's operations have them.
use Rattle.std.proofs.Common.{◌≡◌, ℕ, zero, suc, ◌-◌, ◌<◌, Bool, true, false, List, [], ◌∷◌, length, map, refl, sym, ap, ◌∙◌, subst, arith, cond, get_or, Some, None, Option, ltb}
use Rattle.std.specs.Prelude.{ℤ, pos, negsuc, slice_get}
use Rattle.std.proofs.lemmas.Bool.{ltb-true}
use Rattle.std.proofs.lemmas.List.{length-map, map-set}
use Rattle.std.specs.declared.result.Result.TheVariants.{Ok}
use Rattle.mpy_tree.specs.declared.value.Value.{Value}
use Rattle.mpy_tree.specs.declared.value.Value.TheVariants as val
use Rattle.mpy_tree.specs.Operations.{element, index, index_in, put, replaced}
use Rattle.mpy_tree.specs.Values.{◌>>=◌}
use Rattle.bit_words.specs.Words.{int_of, nat_of}
use Rattle.bit_lists.specs.Places.{ItemIs, PutIs}
use Rattle.sym_values.specs.declared.value.SymValue.{SymValue}
use Rattle.sym_values.specs.declared.value.SymValue.TheVariants as sym_value
use Rattle.sym_values.specs.Forms.{HasLength}
use Rattle.sym_values.specs.Reading.{IsOutcome, Reading, sure}
use Rattle.list_values.specs.Sequences.{IsWordFor, item_of_kind}
use Rattle.list_values.proofs.Meanings.{value_of_kind}

-- a list with another number at a place
replaced_is : (o : Option ℕ) (ws new : List (List Bool)) (w : List Bool) (fault : Bool) (r : Reading) → PutIs fault new ws w o → r ≡ sure (val.List (map int_of new))
    → IsOutcome fault r (replaced (map int_of ws) (val.Int (int_of w)) o)
replaced_is None ws new w fault r h e = h
replaced_is (Some k) ws new w fault r h e = (h.0, e ∙ ap (λ (v : List ℤ). sure (val.List v)) (ap (map int_of) h.1 ∙ map-set int_of ws k w))

pub put_is : {B : Type 0} (x : SymValue B) (ws new : List (List Bool)) (word : List B) (w : List Bool) (z : ℤ) (fault : Bool) (r : Reading) → IsWordFor word x → PutIs fault new ws w (index_in z (length ws))
    → r ≡ sure (value_of_kind x new) → IsOutcome fault r (put (value_of_kind x ws) (val.Int z) (val.Int (int_of w)))
put_is (sym_value.Int v) ws new word w z fault r h p e = absurd h
put_is (sym_value.Bool b) ws new word w z fault r h p e = absurd h
put_is (sym_value.List m xs) ws new word w z fault r h p e =
    subst (λ (n : ℕ). IsOutcome fault r (replaced (map int_of ws) (val.Int (int_of w)) (index_in z n))) (sym (length-map ws int_of)) (replaced_is (index_in z (length ws)) ws new w fault r p e)
put_is (sym_value.Text m xs) ws new word w z fault r h p e = absurd h

-- a place that an index says lies within the list
placed : (b : Bool) (n k p : ℕ) → (b ≡ true → p < n) → cond b (Some p) None ≡ Some k → k < n
placed true n k p h e = let same : p ≡ k = cc in let lt : p < n = h refl in omega arith
placed false n k p h e = absurd cc

place_within : (z : ℤ) (n k : ℕ) → index_in z n ≡ Some k → k < n
place_within (pos i) n k e = placed (ltb i n) n k i (ltb-true i n) e
place_within (negsuc i) n k e = placed (ltb i n) n k (n - suc i) (λ h. let lt = ltb-true i n h in omega arith) e

read_at : {X Y : Type 0} (f : X → Y) (xs : List X) (k : ℕ) (d : X) → k < length xs → slice_get (map f xs) k ≡ Some (f (get_or xs k d))
read_at f [] k d h = absurd (omega arith)
read_at f (x ∷ xs) zero d h = refl
read_at f (x ∷ xs) (suc k) d h = read_at f xs k d (omega arith)

-- the item at a place
element_is : {X : Type 0} (f : List Bool → X) (out : X → Value) (o : Option ℕ) (ws : List (List Bool)) (w : List Bool) (fault : Bool) (r : Reading) → ((k : ℕ) → o ≡ Some k → k < length ws)
    → ItemIs fault w ws o → r ≡ sure (out (f w)) → IsOutcome fault r (element o (map f ws) >>= λ x. Ok (out x))
element_is f out None ws w fault r within h e = h
element_is f out (Some k) ws w fault r within h e =
    let here = read_at f ws k [] (within k refl) in
    rw here (h.0, e ∙ ap (λ (v : List Bool). sure (out (f v))) h.1)

pub item_is : {B : Type 0} (x : SymValue B) (ws : List (List Bool)) (w : List Bool) (z : ℤ) (fault : Bool) (r : Reading) → HasLength x → ItemIs fault w ws (index_in z (length ws))
    → r ≡ sure (item_of_kind x w) → IsOutcome fault r (index (value_of_kind x ws) (val.Int z))
item_is (sym_value.Int v) ws w z fault r h p e = absurd h
item_is (sym_value.Bool b) ws w z fault r h p e = absurd h
item_is (sym_value.List m xs) ws w z fault r h p e =
    subst (λ (n : ℕ). IsOutcome fault r (element (index_in z n) (map int_of ws) >>= λ i. Ok (val.Int i))) (sym (length-map ws int_of))
    (element_is int_of val.Int (index_in z (length ws)) ws w fault r (place_within z (length ws)) p e)
item_is (sym_value.Text m xs) ws w z fault r h p e =
    subst (λ (n : ℕ). IsOutcome fault r (element (index_in z n) (map nat_of ws) >>= λ c. Ok (val.Text (c ∷ [])))) (sym (length-map ws nat_of))
    (element_is nat_of (λ (c : ℕ). val.Text (c ∷ [])) (index_in z (length ws)) ws w fault r (place_within z (length ws)) p e)
