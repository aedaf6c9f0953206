-- Where a node has a type, each of its parts has one.
use Rattle.std.proofs.Common.{◌≡◌, ℕ, Bool, true, false, List, [], ◌∷◌, refl}
use Rattle.std.proofs.Common.{Option, Some, None, IsSome}
use Rattle.std.specs.Prelude.{if◌then◌else◌, ◌&&◌, length}
use Rattle.mpy_tree.specs.declared.builtins.Builtin.{Builtin}
use Rattle.mpy_tree.specs.declared.builtins.Builtin.TheVariants.{Len, Abs, Min, Max, Range}
use Rattle.mpy_tree.specs.declared.typing.Slot.TheVariants as slot
use Rattle.mpy_tree.specs.declared.typing.Ty.{Ty}
use Rattle.mpy_tree.specs.declared.typing.Ty.TheVariants as ty
use Rattle.mpy_tree.specs.Builtins.{builtin_of, takes}
use Rattle.mpy_tree.specs.Rules.{Slots, all_numbers, all_sequences, are_arguments, are_operands}
use Rattle.mpy_tree.specs.Rules.{arith_type, both_are, call_type, called_type}
use Rattle.mpy_tree.specs.Rules.{choice_type, compare_type, index_type, is_argument}
use Rattle.mpy_tree.specs.Rules.{is_sequence, is_type, negative_type, slice_type}
use Rattle.mpy_tree.specs.SetTypes.{Callee, builtin_gives, called}
use Rattle.mpy_tree.specs.Trees as kind
use Rattle.mpy_tree.specs.Trees.{Kind, Trees, node, no_trees, tree_and}
use Rattle.choice_tree.specs.Heads.{HasParts}
use Rattle.choice_tree.specs.Typing.{Scope, of_one, of_two, of_three, sliced}
use Rattle.choice_tree.specs.Typing as trees
use Rattle.choice_tree.proofs.Lists.{Each}
use Rattle.choice_tree.proofs.Types.{both_true}
use Rattle.typed_trees.specs.Wholes.{part_count}

-- each has a type
abbrev pub AllThere : List (Option Ty) → Type 0
AllThere os = Each IsSome os

pub number_there : (o : Option Ty) → is_type ty.Int o ≡ true → IsSome o
number_there None h = cc
number_there (Some t) h = refl

pub sequence_there : (o : Option Ty) → is_sequence o ≡ true → IsSome o
sequence_there None h = cc
sequence_there (Some t) h = refl

numbers_there : (os : List (Option Ty)) → all_numbers os ≡ true → AllThere os
numbers_there [] h = tt
numbers_there (o ∷ os) h =
    let both = both_true (is_type ty.Int o) (all_numbers os) h in
    (number_there o both.0, numbers_there os both.1)

sequences_there : (os : List (Option Ty)) → all_sequences os ≡ true → AllThere os
sequences_there [] h = tt
sequences_there (o ∷ os) h =
    let both = both_true (is_sequence o) (all_sequences os) h in
    (sequence_there o both.0, sequences_there os both.1)

argument_there : (s o : Option Ty) → is_argument s o ≡ true → IsSome o
argument_there None o h = cc
argument_there (Some t) None h = cc
argument_there (Some t) (Some u) h = refl

arguments_there : (S : Slots) (j : ℕ) (xs : List (List ℕ)) (os : List (Option Ty))
    → are_arguments S j xs os ≡ true → AllThere os
arguments_there S j [] [] h = tt
arguments_there S j [] (o ∷ os) h = cc
arguments_there S j (x ∷ xs) [] h = tt
arguments_there S j (x ∷ xs) (o ∷ os) h =
    let both = both_true (is_argument (S j (slot.Local x)) o) (are_arguments S j xs os) h in
    (argument_there (S j (slot.Local x)) o both.0, arguments_there S j xs os both.1)

-- a condition under which there is a type holds
condition : (b : Bool) (o : Option Ty) (u : Ty) → (if b then o else None) ≡ Some u → b ≡ true
condition true o u h = refl
condition false o u h = cc

one_there : (f : Ty → Option Ty) (os : List (Option Ty)) (u : Ty) → of_one f os ≡ Some u
    → AllThere os
one_there f [] u h = cc
one_there f (None ∷ []) u h = cc
one_there f (Some a ∷ []) u h = (refl, tt)
one_there f (o ∷ r ∷ os) u h = cc

two_there : (f : Ty → Ty → Option Ty) (os : List (Option Ty)) (u : Ty) → of_two f os ≡ Some u
    → AllThere os
two_there f [] u h = cc
two_there f (o ∷ []) u h = cc
two_there f (None ∷ r ∷ []) u h = cc
two_there f (Some a ∷ None ∷ []) u h = cc
two_there f (Some a ∷ Some b ∷ []) u h = (refl, (refl, tt))
two_there f (o ∷ r ∷ s ∷ os) u h = cc

three_there : (f : Ty → Ty → Ty → Option Ty) (os : List (Option Ty)) (u : Ty)
    → of_three f os ≡ Some u → AllThere os
three_there f [] u h = cc
three_there f (o ∷ []) u h = cc
three_there f (o ∷ r ∷ []) u h = cc
three_there f (None ∷ r ∷ s ∷ []) u h = cc
three_there f (Some a ∷ None ∷ s ∷ []) u h = cc
three_there f (Some a ∷ Some b ∷ None ∷ []) u h = cc
three_there f (Some a ∷ Some b ∷ Some c ∷ []) u h = (refl, (refl, (refl, tt)))
three_there f (o ∷ r ∷ s ∷ q ∷ os) u h = cc

slice_there : (os : List (Option Ty)) (u : Ty) → sliced os ≡ Some u → AllThere os
slice_there [] u h = cc
slice_there (None ∷ ends) u h = cc
slice_there (Some t ∷ ends) u h =
    (refl, numbers_there ends (condition (all_numbers ends) (slice_type t) u h))

operands_there : (b : Builtin) (os : List (Option Ty)) → are_operands b os ≡ true → AllThere os
operands_there Len os h = sequences_there os h
operands_there Abs os h = numbers_there os h
operands_there Min os h = numbers_there os h
operands_there Max os h = numbers_there os h
operands_there Range os h = numbers_there os h

called_there : (S : Slots) (b : Option Builtin) (g : Option Callee) (os : List (Option Ty)) (u : Ty)
    → called_type S b g os ≡ Some u → AllThere os
called_there S (Some b) g os u h =
    let holds =
    condition (takes b (length os) && are_operands b os) (Some (builtin_gives b)) u h in
    operands_there b os (both_true (takes b (length os)) (are_operands b os) holds).1
called_there S None None os u h = cc
called_there S None (Some g) os u h =
    arguments_there S g.number g.routine.params os
    (condition (are_arguments S g.number g.routine.params os) (S g.number slot.Result) u h)

call_there : (S : Slots) (l : Option Ty) (b : Option Builtin) (g : Option Callee)
    (os : List (Option Ty)) (u : Ty) → call_type S l b g os ≡ Some u → AllThere os
call_there S None b g os u h = called_there S b g os u h
call_there S (Some t) b g os u h = cc

none_there : (σ : Scope) (ts : Trees) → part_count ts ≡ 0 → AllThere (trees.types_of σ ts)
none_there σ no_trees h = tt
none_there σ (tree_and t ts) h = cc

pub parts_there : (σ : Scope) (k : Kind) (ts : Trees) (u : Ty) → HasParts k (part_count ts)
    → trees.type_of σ (node k ts) ≡ Some u → AllThere (trees.types_of σ ts)
parts_there σ (kind.Int n) ts u h e = none_there σ ts h
parts_there σ (kind.Bool b) ts u h e = none_there σ ts h
parts_there σ (kind.Text cs) ts u h e = none_there σ ts h
parts_there σ (kind.Name x) ts u h e = none_there σ ts h
parts_there σ kind.List ts u h e =
    let os = trees.types_of σ ts in
    numbers_there os (condition (all_numbers os) (Some ty.List) u e)
parts_there σ kind.Neg ts u h e = one_there negative_type (trees.types_of σ ts) u e
parts_there σ kind.Not ts u h e = one_there (λ t. Some ty.Bool) (trees.types_of σ ts) u e
parts_there σ (kind.Arith op) ts u h e = two_there (arith_type op) (trees.types_of σ ts) u e
parts_there σ (kind.Cmp op) ts u h e = two_there (compare_type op) (trees.types_of σ ts) u e
parts_there σ kind.And ts u h e = two_there (both_are ty.Bool) (trees.types_of σ ts) u e
parts_there σ kind.Or ts u h e = two_there (both_are ty.Bool) (trees.types_of σ ts) u e
parts_there σ kind.Cond ts u h e =
    three_there (λ yes test no. choice_type yes no) (trees.types_of σ ts) u e
parts_there σ kind.Index ts u h e = two_there index_type (trees.types_of σ ts) u e
parts_there σ (kind.Slice from to) ts u h e = slice_there (trees.types_of σ ts) u e
parts_there σ (kind.Call f) ts u h e =
    call_there σ.slots (σ.slots σ.number (slot.Local f)) (builtin_of f) (called σ.program f)
    (trees.types_of σ ts) u e
parts_there σ _ ts u h e = absurd h
