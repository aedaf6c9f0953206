-- What operations on words, lists and texts give, as operations on values of given types.
use Rattle.std.proofs.Common.{◌≡◌, Bool, List, length, map, refl, sym, ap, ◌∙◌, subst, Option, Some, None}
use denote.Ref.{Bor}
use Rattle.std.specs.Prelude.{option_map}
use Rattle.std.specs.declared.result.Result.{Result}
use Rattle.std.specs.declared.result.Result.TheVariants.{Ok}
use Rattle.mpy_tree.specs.Expressions.{end_of, slice_of}
use Rattle.mpy_tree.specs.Operations.{slice, whole}
use Rattle.mpy_tree.specs.Values.{◌>>=◌}
use Rattle.bit_lists.specs.Slices.{end_read}
use Rattle.mpy_tree.specs.declared.limits.Limits.{Limits}
use Rattle.mpy_tree.specs.declared.typing.Ty.{Ty}
use Rattle.mpy_tree.specs.declared.typing.Ty.TheVariants as ty
use Rattle.mpy_tree.specs.declared.value.Value.{Value}
use Rattle.mpy_tree.specs.declared.value.Value.TheVariants as val
use Rattle.mpy_tree.specs.declared.outcome.Halt.{Halt}
use Rattle.mpy_tree.specs.Rules.{member_of}
use Rattle.bit_words.specs.Words.{int_of}
use Rattle.sym_values.specs.declared.value.SymValue.{SymValue}
use Rattle.sym_values.specs.declared.value.SymValue.TheVariants as sym_value
use Rattle.sym_values.specs.declared.value.SymOutcome.{SymOutcome}
use Rattle.sym_values.specs.Forms.{form_for, form_of}
use Rattle.sym_values.specs.Operations.{NumberGives, NumbersGive, ValueGives, ValuesGive, number_read}
use Rattle.sym_values.specs.Reading.{OutcomeReads, Reading, read, sure}
use Rattle.list_values.specs.Operations.{SequenceGives}
use Rattle.list_values.specs.Sequences.{IsSequenceIn, item_form, items_of}
use Rattle.list_values.specs.Typed.{list_item_form, list_room, list_sequence, text_item_form, text_room, text_sequence}
use Rattle.sym_nodes.specs.Operands.{EndReads, IsTypedIn, ty_of}
use Rattle.sym_nodes.proofs.TypeRules.{IsSequenceType}

-- the value that a number reads as
pub number_is_read : {B : Type 0} (rd : B → Bool) (x : SymValue B) (w : List B) (u : Value) → x ≡ sym_value.Int w → read rd x ≡ sure u → val.Int (int_of (map rd w)) ≡ u
number_is_read rd x w u is e = ap (λ (r : Reading). r.value) (subst (λ (y : SymValue _). read rd y ≡ sure u) is e)

-- values of the types that have items
module _ {S B : Type 0} {owns : S → B → Type 0} where
  pub sequence_in : {s : S} (l : Limits) (x : SymValue B) → IsTypedIn owns s l x → IsSequenceType (ty_of x) → IsSequenceIn owns s x
  sequence_in l (sym_value.Int w) h k = absurd cc
  sequence_in l (sym_value.Bool b) h k = absurd cc
  sequence_in l (sym_value.List m xs) h k = list_sequence l (sym_value.List m xs) h.owned h.form
  sequence_in l (sym_value.Text m xs) h k = text_sequence l (sym_value.Text m xs) h.owned h.form

pub sequence_room : {B : Type 0} (l : Limits) (x : SymValue B) → form_of x ≡ form_for l (ty_of x) → IsSequenceType (ty_of x) → l.cap ≡ length (items_of x)
sequence_room l (sym_value.Int w) h k = absurd cc
sequence_room l (sym_value.Bool b) h k = absurd cc
sequence_room l (sym_value.List m xs) h k = list_room l (sym_value.List m xs) h
sequence_room l (sym_value.Text m xs) h k = text_room l (sym_value.Text m xs) h

pub item_form_is : {B : Type 0} (l : Limits) (x : SymValue B) (t : Ty) → form_of x ≡ form_for l (ty_of x) → member_of (ty_of x) ≡ Some t → item_form x ≡ form_for l t
item_form_is l (sym_value.Int w) t h k = absurd cc
item_form_is l (sym_value.Bool b) t h k = absurd cc
item_form_is l (sym_value.List m xs) t h k = let same : ty.Int ≡ t = cc in list_item_form l (sym_value.List m xs) h ∙ ap (form_for l) same
item_form_is l (sym_value.Text m xs) t h k = let same : ty.Text ≡ t = cc in text_item_form l (sym_value.Text m xs) h ∙ ap (form_for l) same

module _ {S B : Type 0} (reads : S → List Bool → B → Bool) (old new : S) where
  pub number_gives : (x : SymValue B) (w : List B) (o : SymOutcome B) (op : Limits → Value → Result Value Halt) (l : Limits)
      → x ≡ sym_value.Int w → l.width ≡ length w → NumberGives reads old new w o op → ValueGives reads old new x o (op l)
  number_gives x w o op l is e h vs v k =
      subst (λ (u : Value). OutcomeReads (reads new vs) o (op l u)) (number_is_read (reads old vs) x w v is k) (h vs l e)

  pub numbers_give : (x y : SymValue B) (v w : List B) (o : SymOutcome B) (op : Limits → Value → Value → Result Value Halt) (l : Limits)
      → x ≡ sym_value.Int v → y ≡ sym_value.Int w → l.width ≡ length v → NumbersGive reads old new v w o op → ValuesGive reads old new x y o (op l)
  numbers_give x y v w o op l is also e h vs a b k m =
      subst (λ (u : Value). OutcomeReads (reads new vs) o (op l u b)) (number_is_read (reads old vs) x v a is k)
      (subst (λ (u : Value). OutcomeReads (reads new vs) o (op l (val.Int (int_of (map (reads old vs) v))) u)) (number_is_read (reads old vs) y w b also m) (h vs l e))

  -- a list or a text and a number
  pub sequence_gives : (x y : SymValue B) (w : List B) (o : SymOutcome B) (op : Limits → Value → Value → Result Value Halt) (l : Limits)
      → y ≡ sym_value.Int w → l.cap ≡ length (items_of x) → SequenceGives reads old new x o (λ vs l v. op l v (number_read reads old vs w)) → ValuesGive reads old new x y o (op l)
  sequence_gives x y w o op l is e h vs a b k m =
      subst (λ (u : Value). OutcomeReads (reads new vs) o (op l a u)) (number_is_read (reads old vs) y w b is m) (h vs l a e k)

-- the end of a slice that a word gives
pub end_is : {S B : Type 0} (reads : S → List Bool → B → Bool) (s : S) (vs : List Bool) (end : Option (Bor (SymValue B))) (word : Option (Bor (List B))) (x : Option Value)
    → option_map (λ x. x.now) end ≡ option_map (λ w. sym_value.Int w.now) word → EndReads (reads s vs) end x → end_of x ≡ Ok (end_read reads s vs word)
end_is reads s vs None None None e h = refl
end_is reads s vs None None (Some v) e h = absurd h
end_is reads s vs None (Some w) x e h = absurd cc
end_is reads s vs (Some a) None x e h = absurd cc
end_is reads s vs (Some a) (Some w) None e h = absurd h
end_is reads s vs (Some a) (Some w) (Some v) e h =
    let is : a.now ≡ sym_value.Int w.now = cc in
    ap (λ (u : Value). whole u >>= λ z. Ok (Some z)) (sym (number_is_read (reads s vs) a.now w.now v is h))

pub slice_gives : {S B : Type 0} (reads : S → List Bool → B → Bool) (old new : S) (a : SymValue B) (from to : Option (Bor (SymValue B))) (low high : Option (Bor (List B))) (o : SymOutcome B) (l : Limits)
    → option_map (λ x. x.now) from ≡ option_map (λ w. sym_value.Int w.now) low → option_map (λ x. x.now) to ≡ option_map (λ w. sym_value.Int w.now) high
    → l.cap ≡ length (items_of a) → SequenceGives reads old new a o (λ vs l v. slice v (end_read reads old vs low) (end_read reads old vs high))
    → (vs : List Bool) (v : Value) (x y : Option Value) → read (reads old vs) a ≡ sure v → EndReads (reads old vs) from x → EndReads (reads old vs) to y → OutcomeReads (reads new vs) o (slice_of v x y)
slice_gives reads old new a from to low high o l e f cap h vs v x y k p q =
    let first : end_of x ≡ Ok (end_read reads old vs low) = end_is reads old vs from low x e p in
    let second : end_of y ≡ Ok (end_read reads old vs high) = end_is reads old vs to high y f q in
    let same : slice_of v x y ≡ slice v (end_read reads old vs low) (end_read reads old vs high) = (λ i. first i >>= λ p. second i >>= λ q. slice v p q) in
    subst (λ (r : Result Value Halt). OutcomeReads (reads new vs) o r) (sym same) (h vs l v cap k)
