-- What a printed value of any type reads as, and how a run ends, as bits.
use Rattle.std.specs.Prelude.{◌≡◌, ℕ, zero, suc, ◌+◌, ◌*◌, Bool, true, false, List, [], ◌∷◌, length}
use Rattle.std.specs.Prelude.{◌++◌, map, take, drop, get_or, max, Option, Some, None, option_map}
use Rattle.std.specs.Prelude.{option_to_list}
use Rattle.std.specs.List.{All}
use Rattle.bit_words.specs.Logic.{OwnsAll}
use Rattle.sym_values.specs.Forms.{Form, bits_of, form_of, gathered}
use Rattle.std.specs.declared.result.Result.{Result}
use Rattle.std.specs.declared.result.Result.TheVariants.{Ok, Err}
use Rattle.mpy_tree.specs.declared.limits.Limits.{Limits}
use Rattle.mpy_tree.specs.declared.typing.Ty.{Ty}
use Rattle.mpy_tree.specs.declared.typing.Ty.TheVariants as ty
use Rattle.mpy_tree.specs.declared.value.Value.{Value}
use Rattle.mpy_tree.specs.Running.{Done}
use Rattle.bit_words.specs.Words.{nat_of}
use Rattle.sym_values.specs.declared.value.SymValue.{SymValue}
use Rattle.sym_values.specs.declared.value.SymValue.TheVariants as sym
use Rattle.sym_values.specs.declared.done.PrintSlot.{PrintSlot}
use Rattle.sym_values.specs.declared.done.SymDone.{SymDone}
use Rattle.sym_values.specs.Reading.{Reading, read, spelled, sure}

-- how many bits a value of a type has
abbrev pub room : Limits → Ty → ℕ
room l ty.Int = l.width
room l ty.Bool = 1
room l ty.List = l.cap * l.width + 5
room l ty.Text = l.cap * 7 + 5

-- how many bits a printed value has: two for its type, and room for the largest one
abbrev pub print_width : Limits → ℕ
print_width l = 2 + max (room l ty.List) (room l ty.Text)

abbrev pub kind_of : Ty → ℕ
kind_of ty.Int = 0
kind_of ty.Bool = 1
kind_of ty.List = 2
kind_of ty.Text = 3

-- the type of a number
abbrev pub type_of_kind : ℕ → Ty
type_of_kind zero = ty.Int
type_of_kind (suc zero) = ty.Bool
type_of_kind (suc (suc zero)) = ty.List
type_of_kind (suc (suc (suc n))) = ty.Text

-- so many words of a width
abbrev pub cut : {A : Type 0} → ℕ → ℕ → List A → List (List A)
cut width zero bs = []
cut width (suc n) bs = take width bs ∷ cut width n (drop width bs)

-- the value of a type that bits have, the lowest places first
abbrev pub value_within : Limits → Ty → List Bool → SymValue Bool
value_within l ty.Int bs = sym.Int (take l.width bs)
value_within l ty.Bool bs = sym.Bool (get_or bs 0 false)
value_within l ty.List bs = sym.List (take 5 bs) (cut l.width l.cap (drop 5 bs))
value_within l ty.Text bs = sym.Text (take 5 bs) (cut 7 l.cap (drop 5 bs))

-- what the word of a printed value spells: the number of its type, and then its bits
abbrev pub word_spelled : Limits → List Bool → Reading
word_spelled l w = spelled (value_within l (type_of_kind (nat_of (take 2 w))) (drop 2 w))

-- the same of its two parts
abbrev pub slot_read : {B : Type 0} → Limits → (B → Bool) → PrintSlot B → Reading
slot_read l rd s =
    spelled (value_within l (type_of_kind (nat_of (map rd s.kind))) (map rd s.bits))

-- whether there is a value, and which it is
abbrev pub ValueReads : {B : Type 0} → (B → Bool) → SymDone B → Option Value → Type 0
ValueReads rd d None = rd d.has ≡ false
ValueReads rd d (Some v) = (rd d.has ≡ true) × (option_map (read rd) d.value ≡ Some (sure v))

-- an end as bits reads as a value, or none, with the printed values, or as a fault
abbrev pub DoneReads : {B E : Type 0} → Limits → (B → Bool) → SymDone B → Result Done E → Type 0
DoneReads l rd d (Ok r) =
    (rd d.fault ≡ false) × ValueReads rd d r.value
    × (nat_of (map rd d.len) ≡ length r.printed)
    × (map (slot_read l rd) (take (nat_of (map rd d.len)) d.slots) ≡ map sure r.printed)
DoneReads l rd d (Err e) = rd d.fault ≡ true

-- the bits of printed values
abbrev pub slots_bits : {B : Type 0} → List (PrintSlot B) → List B
slots_bits = gathered (λ s. s.kind ++ s.bits)

-- printed values of the widths that the limits say
abbrev pub HaveWidths : {B : Type 0} → Limits → List (PrintSlot B) → Type 0
HaveWidths l ss = All (λ s. (length s.kind ≡ 2) × (2 + length s.bits ≡ print_width l)) ss

-- a printed value whose bits belong to a state of the logic, of the widths that the limits say
pub record IsSlotIn {S B : Type 0} (owns : S → B → Type 0) (s : S) (l : Limits)
    (slot : PrintSlot B) : Type 0 where
  pub owned_kind : OwnsAll owns s slot.kind
  pub owned_bits : OwnsAll owns s slot.bits
  pub kind : length slot.kind ≡ 2
  pub bits : 2 + length slot.bits ≡ print_width l

-- An end whose bits belong to a state of the logic, with a value of a form, or with none where
-- there is no form, and as many printed values as the limits keep.
pub record IsDoneIn {S B : Type 0} (owns : S → B → Type 0) (s : S) (l : Limits)
    (f : Option Form) (d : SymDone B) : Type 0 where
  pub owned : OwnsAll owns s (gathered bits_of (option_to_list d.value))
  pub owned_has : owns s d.has
  pub owned_fault : owns s d.fault
  pub owned_len : OwnsAll owns s d.len
  pub owned_slots : OwnsAll owns s (slots_bits d.slots)
  pub form : option_map form_of d.value ≡ f
  pub long : length d.len ≡ 5
  pub many : length d.slots ≡ l.prints
  pub widths : HaveWidths l d.slots
