-- The values that truth values spell from a place on, the lowest bit of a number first.
use Rattle.std.specs.Prelude.{ℕ, zero, suc, ◌+◌, ◌*◌, nat_le, Bool, false, ◌&&◌, List, []}
use Rattle.std.specs.Prelude.{◌∷◌, length, map, take, Option, Some, None, option_map}
use Rattle.std.specs.Prelude.{if◌then◌else◌, slice_index_or}
use Rattle.std.specs.List.{list_all}
use Rattle.mpy_tree.specs.declared.limits.Limits.{Limits}
use Rattle.mpy_tree.specs.declared.typing.Ty.{Ty}
use Rattle.mpy_tree.specs.declared.typing.Ty.TheVariants as ty
use Rattle.mpy_tree.specs.declared.value.Value.{Value}
use Rattle.mpy_tree.specs.declared.value.Value.TheVariants as value
use Rattle.mpy_tree.specs.Options.{◌>>=◌}
use Rattle.bit_words.specs.Later.{values_from}
use Rattle.bit_words.specs.Words.{nat_of, int_of}

-- so many words of a width, one after another
abbrev pub words_from : List Bool → ℕ → ℕ → ℕ → List (List Bool)
words_from vs start width zero = []
words_from vs start width (suc n) =
    values_from vs start width ∷ words_from vs (start + width) width n

-- how many bits a value of a type has
abbrev pub bits_for : Limits → Ty → ℕ
bits_for l ty.Int = l.width
bits_for l ty.Bool = 1
bits_for l ty.List = 5 + l.cap * l.width
bits_for l ty.Text = 5 + l.cap * 7

-- the first so many, if there are so many
abbrev pub first : {A : Type 0} → ℕ → List A → Option (List A)
first n xs = if nat_le n (length xs) then Some (take n xs) else None

-- characters, if they are from 32 to 126
abbrev pub printable : List ℕ → Option (List ℕ)
printable cs = if list_all (λ c. nat_le 32 c && nat_le c 126) cs then Some cs else None

-- the value of a type; of a list or a text the length comes first, and what is past it isn't
-- looked at
abbrev pub value_at : Limits → Ty → List Bool → ℕ → Option Value
value_at l ty.Int vs start = Some (value.Int (int_of (values_from vs start l.width)))
value_at l ty.Bool vs start = Some (value.Bool (slice_index_or vs start false))
value_at l ty.List vs start =
    option_map value.List (first (nat_of (values_from vs start 5))
    (map int_of (words_from vs (start + 5) l.width l.cap)))
value_at l ty.Text vs start =
    option_map value.Text (first (nat_of (values_from vs start 5))
    (map nat_of (words_from vs (start + 5) 7 l.cap)) >>= printable)

-- values of these types, one after another
abbrev pub values_at : Limits → List Ty → List Bool → ℕ → Option (List Value)
values_at l [] vs start = Some []
values_at l (t ∷ ts) vs start =
    value_at l t vs start
    >>= λ v. option_map (λ rest. v ∷ rest) (values_at l ts vs (start + bits_for l t))

-- how many bits they have together
abbrev pub all_bits_for : Limits → List Ty → ℕ
all_bits_for l [] = 0
all_bits_for l (t ∷ ts) = bits_for l t + all_bits_for l ts
