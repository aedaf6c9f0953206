-- Lists that are changed, by their types.
use Rattle.std.proofs.Common.{◌≡◌, Bool, List, length, subst}
use Rattle.std.specs.declared.result.Result.{Result}
use Rattle.mpy_tree.specs.declared.limits.Limits.{Limits}
use Rattle.mpy_tree.specs.declared.typing.Ty.TheVariants as ty
use Rattle.mpy_tree.specs.declared.value.Value.{Value}
use Rattle.mpy_tree.specs.declared.outcome.Halt.{Halt}
use Rattle.sym_values.specs.declared.value.SymValue.{SymValue}
use Rattle.sym_values.specs.declared.value.SymValue.TheVariants as sym_value
use Rattle.sym_values.specs.declared.value.SymOutcome.{SymOutcome}
use Rattle.sym_values.specs.Forms.{IntForm, form_for, form_of}
use Rattle.sym_values.specs.Operations.{number_read}
use Rattle.sym_values.specs.Reading.{OutcomeReads, read, sure}
use Rattle.list_values.specs.Operations.{SequenceGives}
use Rattle.list_values.specs.Sequences.{IsWordFor}
use Rattle.list_values.specs.Typed.{list_item_form, list_room}
use Rattle.sym_nodes.proofs.Giving.{number_is_read}

pub width_of : {B : Type 0} (l : Limits) (w : List B) (x : SymValue B) → x ≡ sym_value.Int w → form_of x ≡ form_for l ty.Int → length w ≡ l.width
width_of l w x e f =
    let form : IntForm (length w) ≡ IntForm l.width = subst (λ (y : SymValue _). form_of y ≡ form_for l ty.Int) e f in cc

-- a number for a list
pub word_for : {B : Type 0} (l : Limits) (a : SymValue B) (w : List B) → form_of a ≡ form_for l ty.List → length w ≡ l.width → IsWordFor w a
word_for l (sym_value.Int v) w f e = absurd cc
word_for l (sym_value.Bool b) w f e = absurd cc
word_for l (sym_value.List len items) w f e =
    let form = list_item_form l (sym_value.List len items) f in cc
word_for l (sym_value.Text len items) w f e = absurd cc

module _ {S B : Type 0} (reads : S → List Bool → B → Bool) (old new : S) where
  -- an operation on a list and a number
  pub extension_gives : (a y : SymValue B) (w : List B) (o : SymOutcome B) (op : Limits → Value → Value → Result Value Halt) (l : Limits) → form_of a ≡ form_for l ty.List → y ≡ sym_value.Int w
      → SequenceGives reads old new a o (λ vs l v. op l v (number_read reads old vs w))
      → (vs : List Bool) (v u : Value) → read (reads old vs) a ≡ sure v → read (reads old vs) y ≡ sure u → OutcomeReads (reads new vs) o (op l v u)
  extension_gives a y w o op l f is h vs v u p q =
      subst (λ (i : Value). OutcomeReads (reads new vs) o (op l v i)) (number_is_read (reads old vs) y w u is q) (h vs l v (list_room l a f) p)

  -- and on an index besides
  pub replacement_gives : (a x y : SymValue B) (k w : List B) (o : SymOutcome B) (op : Value → Value → Value → Result Value Halt) (l : Limits) → form_of a ≡ form_for l ty.List → x ≡ sym_value.Int k → y ≡ sym_value.Int w
      → SequenceGives reads old new a o (λ vs l v. op v (number_read reads old vs k) (number_read reads old vs w))
      → (vs : List Bool) (v i u : Value) → read (reads old vs) a ≡ sure v → read (reads old vs) x ≡ sure i → read (reads old vs) y ≡ sure u → OutcomeReads (reads new vs) o (op v i u)
  replacement_gives a x y k w o op l f at is h vs v i u p q r =
      subst (λ (j : Value). OutcomeReads (reads new vs) o (op v j u)) (number_is_read (reads old vs) x k i at q)
      (subst (λ (j : Value). OutcomeReads (reads new vs) o (op v (number_read reads old vs k) j)) (number_is_read (reads old vs) y w u is r) (h vs l v (list_room l a f) p))
