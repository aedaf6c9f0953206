-- The bits of the values of an input, in their places.
use Rattle.std.specs.Prelude.{ℕ, ◌+◌, Bool, true, false, ◌&&◌, List, [], ◌∷◌, slice_index_or}
use Rattle.std.specs.Prelude.{Option, Some, None, if◌then◌else◌, nat_le}
use Rattle.std.specs.List.{list_all}
use Rattle.mpy_tree.specs.declared.limits.Limits.{Limits}
use Rattle.mpy_tree.specs.declared.typing.Ty.{Ty}
use Rattle.mpy_tree.specs.declared.typing.Ty.TheVariants as ty
use Rattle.mpy_tree.specs.declared.value.Value.{Value}
use Rattle.mpy_tree.specs.declared.value.Value.TheVariants as value
use Rattle.bit_words.specs.Later.{values_from}
use Rattle.sym_values.specs.declared.value.SymValue.{SymValue}
use Rattle.sym_values.specs.declared.value.SymValue.TheVariants as sym
use Rattle.sym_values.specs.Reading.{Reading}
use Rattle.input_space.specs.ValueBits.{bits_for, words_from}

-- truth values from a place on, as those of a value's bits
abbrev pub laid_out : Limits → Ty → List Bool → ℕ → SymValue Bool
laid_out l ty.Int vs start = sym.Int (values_from vs start l.width)
laid_out l ty.Bool vs start = sym.Bool (slice_index_or vs start false)
laid_out l ty.List vs start =
    sym.List (values_from vs start 5) (words_from vs (start + 5) l.width l.cap)
laid_out l ty.Text vs start = sym.Text (values_from vs start 5) (words_from vs (start + 5) 7 l.cap)

-- and of the bits of several values
abbrev pub all_laid_out : Limits → List Ty → List Bool → ℕ → List (SymValue Bool)
all_laid_out l [] vs start = []
all_laid_out l (t ∷ ts) vs start =
    laid_out l t vs start ∷ all_laid_out l ts vs (start + bits_for l t)

-- a text has characters alone
abbrev pub has_characters : Value → Bool
has_characters (value.Text cs) = list_all (λ c. nat_le 32 c && nat_le c 126) cs
has_characters _ = true

-- the value that is read, if its length is right and its characters are
abbrev pub decoded : Reading → Option Value
decoded r = if r.proper && has_characters r.value then Some r.value else None
