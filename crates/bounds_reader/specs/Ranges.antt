-- The ranges that numbers of the bounds have to keep.
use Rattle.std.specs.Prelude.{ℕ, ◌==◌, ℤ, pos, int_le, Bool, true, false, not, ◌&&◌, ◌||◌, List, []}
use Rattle.std.specs.Prelude.{◌∷◌}
use Rattle.std.specs.List.{list_all, list_any}
use Rattle.mpy_tree.specs.declared.limits.Limits.{Limits}
use Rattle.mpy_tree.specs.Operations.{fits_width}
use Rattle.bounds_reader.specs.declared.params.Param.{Param}
use Rattle.bounds_reader.specs.Forms.{Form, int, bool, list, text, form_of}

-- a range that isn't empty, of numbers of the width
abbrev pub are_numbers : ℕ → ℤ → ℤ → Bool
are_numbers width low high = int_le low high && fits_width width low && fits_width width high

-- a range that isn't empty, of lengths up to the cap
abbrev pub are_lengths : ℕ → ℤ → ℤ → Bool
are_lengths cap least most = int_le (pos 0) least && int_le least most && int_le most (pos cap)

abbrev pub has_twice : List ℕ → Bool
has_twice [] = false
has_twice (c ∷ cs) = list_any (λ d. d == c) cs || has_twice cs

-- characters, and none twice
abbrev pub is_alphabet : List ℕ → Bool
is_alphabet [] = false
is_alphabet (c ∷ cs) = not (has_twice (c ∷ cs))

-- whether each number of a form is in its range
abbrev pub is_in_range : ℕ → ℕ → Form → Bool
is_in_range width cap (int low high) = are_numbers width low high
is_in_range width cap bool = true
is_in_range width cap (list least most low high) =
    are_lengths cap least most && are_numbers width low high
is_in_range width cap (text least most alphabet) =
    are_lengths cap least most && is_alphabet alphabet

abbrev pub are_in_range : Limits → List Param → Bool
are_in_range l ps = list_all (λ p. is_in_range l.width l.cap (form_of p)) ps
