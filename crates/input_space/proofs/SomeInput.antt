-- Within bounds there is an input.
use Rattle.std.proofs.Common.{◌≡◌, ℕ, zero, suc, ◌+◌, ◌-◌, ◌*◌, ◌<◌, Bool, true, List, [], ◌∷◌, map, length, ℤ, pos, arith}
use Rattle.std.proofs.Math.Nat.{one-le-pow}
use Rattle.std.proofs.lemmas.List.{length-map}
use Rattle.mpy_tree.specs.declared.limits.Limits.{Limits}
use Rattle.mpy_tree.specs.declared.value.Value.TheVariants as value
use Rattle.bounds_reader.specs.declared.params.Param.{Param}
use Rattle.bounds_reader.specs.declared.params.Param.TheVariants as param
use Rattle.bounds_reader.specs.Forms.{form_of}
use Rattle.bounds_reader.specs.Ranges.{are_in_range, are_lengths, are_numbers, is_alphabet, is_in_range}
use Rattle.input_space.specs.Counts.{lists_count}
use Rattle.input_space.specs.Inputs.{inputs, lists_over, numbers, span, values_of}
use Rattle.input_space.proofs.Blocks.{length_tuples}
use Rattle.input_space.proofs.Membership.{both}
use Rattle.input_space.proofs.Totals.{length_lists, length_numbers}

some_count : (base least n : ℕ) → 0 < base → 0 < n → 0 < lists_count base least n
some_count base least zero h k = absurd (omega (arith, k))
some_count base least (suc n) h k = let one = one-le-pow (least + n) base h in omega arith

some_span : (width : ℕ) (low high : ℤ) → are_numbers width low high ≡ true → 0 < span low high
some_span width low high h = grind arith

some_numbers : (width : ℕ) (low high : ℤ) → are_numbers width low high ≡ true → 0 < length (numbers low high)
some_numbers width low high h = rw (length_numbers low high) (some_span width low high h)

some_lists : {A : Type 0} (cap least most : ℕ) (xs : List A) → are_lengths cap (pos least) (pos most) ≡ true → 0 < length xs → 0 < length (lists_over least most xs)
some_lists cap least most xs h some =
    let lengths : 0 < suc most - least = grind arith in
    rw (length_lists least most xs) (some_count (length xs) least (suc most - least) some lengths)

some_letters : (cs : List ℕ) → is_alphabet cs ≡ true → 0 < length cs
some_letters [] h = cc
some_letters (c ∷ cs) h = omega arith

some_values : (l : Limits) (p : Param) → is_in_range l.width l.cap (form_of p) ≡ true → 0 < length (values_of p)
some_values l (param.Int low high) h = rw (length-map (numbers low high) value.Int) (some_numbers l.width low high h)
some_values l param.Bool h = omega arith
some_values l (param.List least most low high) h =
    let ranges = both (are_lengths l.cap (pos least) (pos most)) (are_numbers l.width low high) h in
    rw (length-map (lists_over least most (numbers low high)) value.List) (some_lists l.cap least most (numbers low high) ranges.0 (some_numbers l.width low high ranges.1))
some_values l (param.Text least most alphabet) h =
    let ranges = both (are_lengths l.cap (pos least) (pos most)) (is_alphabet alphabet) h in
    rw (length-map (lists_over least most alphabet) value.Text) (some_lists l.cap least most alphabet ranges.0 (some_letters alphabet ranges.1))

positive : (m n : ℕ) → 0 < m → 0 < n → 0 < m * n
positive m n h k = grind arith

pub some_inputs : (l : Limits) (ps : List Param) → are_in_range l ps ≡ true → 0 < length (inputs ps)
some_inputs l [] h = omega arith
some_inputs l (p ∷ ps) h =
    let ranges = both (is_in_range l.width l.cap (form_of p)) (are_in_range l ps) h in
    rw (length_tuples (values_of p) (map values_of ps)) (positive (length (values_of p)) (length (inputs ps)) (some_values l p ranges.0) (some_inputs l ps ranges.1))
