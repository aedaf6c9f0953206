-- What values in a part of a split read as.
use Rattle.std.proofs.Common.{◌≡◌, ◌∙◌, ℕ, ◌≤◌, Bool, true, List, length, map, take, ap, sym, arith, length-take}
use Rattle.std.specs.Prelude.{nat_le}
use Rattle.std.proofs.lemmas.Bool.{leb-true}
use Rattle.std.proofs.lemmas.List.{length-map}
use Rattle.mpy_tree.specs.declared.value.Value.{Value}
use Rattle.bit_words.specs.Words.{int_of, nat_of}
use Rattle.sym_values.specs.Reading.{Reading, spelled, sure}
use Rattle.sym_values.specs.declared.value.SymValue.TheVariants as sym_value
use Rattle.input_bits.specs.declared.parts.Split.{Split}
use Rattle.input_bits.specs.Cases.{has_length_of, is_in_part}

proper_of : (r : Reading) (v : Value) → r ≡ sure v → (r.proper ≡ true) × (v ≡ r.value)
proper_of r v e = (ap (λ (x : Reading). x.proper) e, sym (ap (λ (x : Reading). x.value) e))

read_length : {A : Type 0} (n : ℕ) (ws : List (List Bool)) (f : List Bool → A) → nat_le n (length ws) ≡ true → length (take n (map f ws)) ≡ n
read_length n ws f h =
    let le : n ≤ length ws = leb-true n (length ws) h in
    let many = length-map ws f in
    length-take n (map f ws) ∙ omega arith

-- a list or a text that is read has its length
pub list_part : (s : Split) (part : ℕ) (v : Value) (len : List Bool) (ws : List (List Bool)) → spelled (sym_value.List len ws) ≡ sure v
    → has_length_of s part (nat_of len) ≡ is_in_part s part v
list_part s part v len ws e =
    let r = proper_of (spelled (sym_value.List len ws)) v e in
    ap (has_length_of s part) (sym (read_length (nat_of len) ws int_of r.0)) ∙ sym (ap (is_in_part s part) r.1)

pub text_part : (s : Split) (part : ℕ) (v : Value) (len : List Bool) (ws : List (List Bool)) → spelled (sym_value.Text len ws) ≡ sure v
    → has_length_of s part (nat_of len) ≡ is_in_part s part v
text_part s part v len ws e =
    let r = proper_of (spelled (sym_value.Text len ws)) v e in
    ap (has_length_of s part) (sym (read_length (nat_of len) ws nat_of r.0)) ∙ sym (ap (is_in_part s part) r.1)

pub number_part : (s : Split) (part : ℕ) (v : Value) (w : List Bool) → spelled (sym_value.Int w) ≡ sure v → true ≡ is_in_part s part v
number_part s part v w e = sym (ap (is_in_part s part) (proper_of (spelled (sym_value.Int w)) v e).1)

pub truth_part : (s : Split) (part : ℕ) (v : Value) (b : Bool) → spelled (sym_value.Bool b) ≡ sure v → true ≡ is_in_part s part v
truth_part s part v b e = sym (ap (is_in_part s part) (proper_of (spelled (sym_value.Bool b)) v e).1)
