-- Values within the ranges of the bounds fit the limits.
use Rattle.std.proofs.Common.{◌≡◌, ℕ, true, ◌==◌, nat_le, List, [], ◌∷◌, map, length, ℤ, pos, negsuc, refl, arith}
use Rattle.std.specs.List.{list_all, list_any}
use Rattle.mpy_tree.specs.declared.limits.Limits.{Limits}
use Rattle.mpy_tree.specs.declared.value.Value.{Value}
use Rattle.mpy_tree.specs.declared.value.Value.TheVariants as value
use Rattle.mpy_tree.specs.Fitting.{all_fit_as, fits_as}
use Rattle.mpy_tree.specs.Operations.{fits_width}
use Rattle.bounds_reader.specs.declared.params.Param.{Param}
use Rattle.bounds_reader.specs.declared.params.Param.TheVariants as param
use Rattle.bounds_reader.specs.Forms.{form_of}
use Rattle.bounds_reader.specs.Ranges.{are_in_range, are_lengths, are_numbers, is_alphabet, is_in_range}
use Rattle.input_space.specs.Inputs.{are_within, has_length, is_between, is_within, param_type}
use Rattle.input_space.proofs.Membership.{both, two}

-- a number between two of the width is one of the width
number_fits : (width : ℕ) (low high z : ℤ) → are_numbers width low high ≡ true → is_between low high z ≡ true → fits_width width z ≡ true
number_fits width (pos a) (pos b) (pos c) h g = grind arith
number_fits width (pos a) (pos b) (negsuc c) h g = grind arith
number_fits width (pos a) (negsuc b) z h g = grind arith
number_fits width (negsuc a) (pos b) (pos c) h g = grind arith
number_fits width (negsuc a) (pos b) (negsuc c) h g = grind arith
number_fits width (negsuc a) (negsuc b) (pos c) h g = grind arith
number_fits width (negsuc a) (negsuc b) (negsuc c) h g = grind arith

numbers_fit : (width : ℕ) (low high : ℤ) (zs : List ℤ) → are_numbers width low high ≡ true → list_all (is_between low high) zs ≡ true → list_all (fits_width width) zs ≡ true
numbers_fit width low high [] h g = refl
numbers_fit width low high (z ∷ zs) h g =
    let r = both (is_between low high z) (list_all (is_between low high) zs) g in
    two (fits_width width z) (list_all (fits_width width) zs) (number_fits width low high z h r.0) (numbers_fit width low high zs h r.1)

-- a list that isn't longer than the longest is within the cap
length_fits : {A : Type 0} (cap least most : ℕ) (xs : List A) → are_lengths cap (pos least) (pos most) ≡ true → has_length least most xs ≡ true → nat_le (length xs) cap ≡ true
length_fits cap least most xs h g = grind arith

value_fits_as : (l : Limits) (p : Param) (v : Value) → is_in_range l.width l.cap (form_of p) ≡ true → is_within p v ≡ true → fits_as l (param_type p) v ≡ true
value_fits_as l (param.Int low high) (value.Int z) h g = number_fits l.width low high z h g
value_fits_as l param.Bool (value.Bool b) h g = refl
value_fits_as l (param.List least most low high) (value.List zs) h g =
    let ranges = both (are_lengths l.cap (pos least) (pos most)) (are_numbers l.width low high) h in
    let parts = both (has_length least most zs) (list_all (is_between low high) zs) g in
    two (nat_le (length zs) l.cap) (list_all (fits_width l.width) zs) (length_fits l.cap least most zs ranges.0 parts.0) (numbers_fit l.width low high zs ranges.1 parts.1)
value_fits_as l (param.Text least most alphabet) (value.Text cs) h g =
    let ranges = both (are_lengths l.cap (pos least) (pos most)) (is_alphabet alphabet) h in
    let parts = both (has_length least most cs) (list_all (λ c. list_any (λ d. d == c) alphabet) cs) g in
    length_fits l.cap least most cs ranges.0 parts.0
value_fits_as l _ _ h g = absurd (cc)

pub within_fit : (l : Limits) (ps : List Param) (vs : List Value) → are_in_range l ps ≡ true → are_within ps vs ≡ true → all_fit_as l (map param_type ps) vs ≡ true
within_fit l [] [] h g = refl
within_fit l [] (v ∷ vs) h g = absurd (cc)
within_fit l (p ∷ ps) [] h g = absurd (cc)
within_fit l (p ∷ ps) (v ∷ vs) h g =
    let ranges = both (is_in_range l.width l.cap (form_of p)) (are_in_range l ps) h in
    let parts = both (is_within p v) (are_within ps vs) g in
    two (fits_as l (param_type p) v) (all_fit_as l (map param_type ps) vs) (value_fits_as l p v ranges.0 parts.0) (within_fit l ps vs ranges.1 parts.1)
