-- What a value as bits reads as.
use Rattle.std.specs.Prelude.{◌≡◌, Bool, true, false, length, map, take, nat_le}
use Rattle.std.specs.declared.result.Result.{Result}
use Rattle.std.specs.declared.result.Result.TheVariants.{Ok, Err}
use Rattle.mpy_tree.specs.declared.value.Value.{Value}
use Rattle.mpy_tree.specs.declared.value.Value.TheVariants as val
use Rattle.bit_words.specs.Words.{nat_of, int_of}
use Rattle.sym_values.specs.declared.value.SymValue.{SymValue}
use Rattle.sym_values.specs.declared.value.SymValue.TheVariants as sym
use Rattle.sym_values.specs.declared.value.SymOutcome.{SymOutcome}

-- a value with other bits in the places of its own
abbrev pub map_bits : {B C : Type 0} → (B → C) → SymValue B → SymValue C
map_bits rd (sym.Int w) = sym.Int (map rd w)
map_bits rd (sym.Bool b) = sym.Bool (rd b)
map_bits rd (sym.List len items) = sym.List (map rd len) (map (map rd) items)
map_bits rd (sym.Text len items) = sym.Text (map rd len) (map (map rd) items)

-- a value, and whether its length is one that the items allow
pub record Reading : Type 0 where
  pub proper : Bool
  pub value : Value

abbrev pub sure : Value → Reading
sure v = record { proper = true; value = v }

-- what truth values spell; items past the length aren't looked at
abbrev pub spelled : SymValue Bool → Reading
spelled (sym.Int w) = sure (val.Int (int_of w))
spelled (sym.Bool b) = sure (val.Bool b)
spelled (sym.List len items) = record {
  proper = nat_le (nat_of len) (length items);
  value = val.List (take (nat_of len) (map int_of items));
}
spelled (sym.Text len items) = record {
  proper = nat_le (nat_of len) (length items);
  value = val.Text (take (nat_of len) (map nat_of items));
}

-- what a value reads as, where each bit reads as `rd` says
abbrev pub read : {B : Type 0} → (B → Bool) → SymValue B → Reading
read rd x = spelled (map_bits rd x)

-- a fault bit and a reading are those of a value, or of a fault, of whatever kind and line
abbrev pub IsOutcome : {E : Type 0} → Bool → Reading → Result Value E → Type 0
IsOutcome fault reading (Ok v) = (fault ≡ false) × (reading ≡ sure v)
IsOutcome fault reading (Err e) = fault ≡ true

-- an outcome reads as a value or as a fault
abbrev pub OutcomeReads : {B E : Type 0} → (B → Bool) → SymOutcome B → Result Value E → Type 0
OutcomeReads rd o r = IsOutcome (rd o.fault) (read rd o.value) r
