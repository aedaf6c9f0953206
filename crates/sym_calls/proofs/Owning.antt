-- The bits of arguments.
use Rattle.std.proofs.Common.{List, [], ◌∷◌, All}
use Rattle.std.proofs.lemmas.List.Elements.{All-head, All-nil, All-tail}
use Rattle.mpy_tree.specs.declared.limits.Limits.{Limits}
use Rattle.bit_words.specs.Logic.{OwnsAll}
use Rattle.bit_words.specs.Later.{owns_both}
use Rattle.sym_values.specs.declared.value.SymValue.{SymValue}
use Rattle.sym_values.specs.Forms.{values_bits}
use Rattle.sym_nodes.specs.Operands.{IsTypedIn}

pub arguments_owned : {S B : Type 0} {owns : S → B → Type 0} {s : S} (l : Limits)
    (args : List (SymValue B)) → All (IsTypedIn owns s l) args → OwnsAll owns s (values_bits args)
arguments_owned {S} {B} {owns} {s} l [] h = record { each = All-nil (owns s) }
arguments_owned {S} {B} {owns} {s} l (a ∷ args) h =
    owns_both (All-head (IsTypedIn owns s l) a args h).owned
    (arguments_owned l args (All-tail (IsTypedIn owns s l) a args h))
