-- Worked runs and texts, each closed by computing it.
use Rattle.std.proofs.Common.{◌≡◌, ℕ, suc, List, [], ◌∷◌, Option, Some, None, refl, pos, negsuc, false, codes, lit≤}
use Rattle.std.specs.declared.result.Result.{Result}
use Rattle.std.specs.declared.result.Result.TheVariants.{Ok, Err}
use Rattle.mpy_tree.specs.declared.limits.Limits.{Limits}
use Rattle.mpy_tree.specs.declared.value.Value.{Value}
use Rattle.mpy_tree.specs.declared.value.Value.TheVariants.{Int, Bool as Truth, List as Items, Text}
use Rattle.mpy_tree.specs.declared.operators.ArithOp.TheVariants.{Add, Sub, Mul, Floor, Rem, Power}
use Rattle.mpy_tree.specs.declared.operators.CmpOp.TheVariants.{Eq, Lt}
use Rattle.mpy_tree.specs.Syntax.{Term, no_terms, term_and, no_term, a_term, at, Action, Block, end, step, no_block, a_block, arm, no_arms, arm_and, Routine}
use Rattle.mpy_tree.specs.Syntax as ast
use Rattle.mpy_tree.specs.declared.outcome.FaultKind.TheVariants.{Overflow, Divisor, Index, Unset, Turns, Depth, Length, NoValue}
use Rattle.mpy_tree.specs.declared.outcome.Halted.{Halted}
use Rattle.mpy_tree.specs.Values.{fault, stuck}
use Rattle.std.specs.Fmt.{digits}
use Rattle.mpy_tree.specs.Running.{Done, evaluated}
use Rattle.mpy_tree.specs.Printing.{text_of, program_text, values_text}

abbrev wide : Limits
wide = record { width = 6; turns = 4; depth = 2; cap = 4; prints = 0; width_range = (lit≤ tt, lit≤ tt); turns_range = (lit≤ tt, lit≤ tt); depth_range = (lit≤ tt, lit≤ tt); cap_range = (lit≤ tt, lit≤ tt); prints_range = lit≤ tt }

abbrev narrow : Limits
narrow = record { width = 4; turns = 4; depth = 2; cap = 4; prints = 0; width_range = (lit≤ tt, lit≤ tt); turns_range = (lit≤ tt, lit≤ tt); depth_range = (lit≤ tt, lit≤ tt); cap_range = (lit≤ tt, lit≤ tt); prints_range = lit≤ tt }

abbrev returns : List (List ℕ) → Term → List Routine
returns xs e = record { line = 1; name = codes "f"; params = xs; body = step (at 2 (ast.Return (a_term e))) end } ∷ []

abbrev x : List ℕ
x = codes "x"

abbrev a : List ℕ
a = codes "a"

abbrev b : List ℕ
b = codes "b"

abbrev v : List ℕ
v = codes "v"

abbrev i : List ℕ
i = codes "i"

-- the run ends with this value
abbrev returned : Value → Result Done Halted
returned v = Ok (record { value = Some v; printed = [] })

abbrev on : Limits → List (List ℕ) → Term → List Value → Result Done Halted
on l xs e vs = evaluated l (returns xs e) (codes "f") vs

-- quotients and remainders round towards minus infinity
floor_of_negative : on wide (a ∷ b ∷ []) (ast.Arith Floor (ast.Name a) (ast.Name b)) (Int (negsuc 6) ∷ Int (pos 2) ∷ []) ≡ returned (Int (negsuc 3))
floor_of_negative = refl

floor_by_negative : on wide (a ∷ b ∷ []) (ast.Arith Floor (ast.Name a) (ast.Name b)) (Int (pos 7) ∷ Int (negsuc 1) ∷ []) ≡ returned (Int (negsuc 3))
floor_by_negative = refl

floor_by_zero : on wide (a ∷ b ∷ []) (ast.Arith Floor (ast.Name a) (ast.Name b)) (Int (pos 7) ∷ Int (pos 0) ∷ []) ≡ Err (fault Divisor 2)
floor_by_zero = refl

remainder_of_negative : on wide (a ∷ b ∷ []) (ast.Arith Rem (ast.Name a) (ast.Name b)) (Int (negsuc 6) ∷ Int (pos 2) ∷ []) ≡ returned (Int (pos 1))
remainder_of_negative = refl

remainder_by_negative : on wide (a ∷ b ∷ []) (ast.Arith Rem (ast.Name a) (ast.Name b)) (Int (pos 7) ∷ Int (negsuc 1) ∷ []) ≡ returned (Int (negsuc 0))
remainder_by_negative = refl

-- numbers of four bits run from -8 to 7
negation_overflows : on narrow (x ∷ []) (ast.Neg (ast.Name x)) (Int (negsuc 7) ∷ []) ≡ Err (fault Overflow 2)
negation_overflows = refl

quotient_overflows : on narrow (x ∷ []) (ast.Arith Floor (ast.Name x) (ast.Neg (ast.Int 1))) (Int (negsuc 7) ∷ []) ≡ Err (fault Overflow 2)
quotient_overflows = refl

least_number : on narrow (x ∷ []) (ast.Arith Add (ast.Name x) (ast.Int 0)) (Int (negsuc 7) ∷ []) ≡ returned (Int (negsuc 7))
least_number = refl

remainder_does_not_overflow : on narrow (x ∷ []) (ast.Arith Rem (ast.Name x) (ast.Neg (ast.Int 1))) (Int (negsuc 7) ∷ []) ≡ returned (Int (pos 0))
remainder_does_not_overflow = refl

literal_overflows : on narrow (x ∷ []) (ast.Int 8) (Int (negsuc 7) ∷ []) ≡ Err (fault Overflow 2)
literal_overflows = refl

-- `and` evaluates its right side where the left is true
abbrev short_list : List Value
short_list = Items (pos 1 ∷ pos 2 ∷ []) ∷ Int (pos 2) ∷ []

abbrev in_list : Term
in_list = ast.Cmp Lt (ast.Name i) (ast.Call (codes "len") (term_and (ast.Name v) no_terms))

abbrev is_nought : Term
is_nought = ast.Cmp Eq (ast.Index (ast.Name v) (ast.Name i)) (ast.Int 0)

and_stops_at_false : on wide (v ∷ i ∷ []) (ast.And in_list is_nought) short_list ≡ returned (Truth false)
and_stops_at_false = refl

and_from_the_left : on wide (v ∷ i ∷ []) (ast.And is_nought in_list) short_list ≡ Err (fault Index 2)
and_from_the_left = refl

-- a loop may make four turns
abbrev counts : List Routine
counts = record { line = 1; name = codes "f"; params = x ∷ []; body = step (at 2 (ast.Assign i (ast.Int 0))) (step (at 3 (ast.While (ast.Cmp Lt (ast.Name i) (ast.Name x)) (step (at 4 (ast.Assign i (ast.Arith Add (ast.Name i) (ast.Int 1)))) end))) (step (at 5 (ast.Return (a_term (ast.Name i)))) end)) } ∷ []

as_many_turns : evaluated wide counts (codes "f") (Int (pos 4) ∷ []) ≡ returned (Int (pos 4))
as_many_turns = refl

one_turn_too_many : evaluated wide counts (codes "f") (Int (pos 5) ∷ []) ≡ Err (fault Turns 3)
one_turn_too_many = refl

-- an index may count from the end; the ends of a slice are clamped
abbrev two : List Value
two = Items (pos 1 ∷ pos 2 ∷ []) ∷ []

abbrev none : List Value
none = Items [] ∷ []

index_from_the_end : on wide (v ∷ []) (ast.Index (ast.Name v) (ast.Neg (ast.Int 1))) two ≡ returned (Int (pos 2))
index_from_the_end = refl

slice_clamps_its_ends : on wide (v ∷ []) (ast.Slice (ast.Name v) (a_term (ast.Neg (ast.Int 3))) (a_term (ast.Int 9))) two ≡ returned (Items (pos 1 ∷ pos 2 ∷ []))
slice_clamps_its_ends = refl

slice_may_be_empty : on wide (v ∷ []) (ast.Slice (ast.Name v) (a_term (ast.Int 2)) (a_term (ast.Int 1))) two ≡ returned (Items [])
slice_may_be_empty = refl

index_of_empty : on wide (v ∷ []) (ast.Index (ast.Name v) (ast.Neg (ast.Int 1))) none ≡ Err (fault Index 2)
index_of_empty = refl

slice_of_empty : on wide (v ∷ []) (ast.Slice (ast.Name v) (a_term (ast.Neg (ast.Int 3))) (a_term (ast.Int 9))) none ≡ returned (Items [])
slice_of_empty = refl

-- the power and the range at their edges
zero_to_zero : on wide [] (ast.Arith Power (ast.Int 0) (ast.Int 0)) [] ≡ returned (Int (pos 1))
zero_to_zero = refl

range_down : on wide [] (ast.Call (codes "range") (term_and (ast.Int 5) (term_and (ast.Int 0) (term_and (ast.Neg (ast.Int 2)) no_terms)))) [] ≡ returned (Items (pos 5 ∷ pos 3 ∷ pos 1 ∷ []))
range_down = refl

range_of_the_cap : on wide [] (ast.Call (codes "range") (term_and (ast.Int 4) no_terms)) [] ≡ returned (Items (pos 0 ∷ pos 1 ∷ pos 2 ∷ pos 3 ∷ []))
range_of_the_cap = refl

range_past_the_cap : on wide [] (ast.Call (codes "range") (term_and (ast.Int 5) no_terms)) [] ≡ Err (fault Length 2)
range_past_the_cap = refl

-- operands of another type, and arguments that no function takes, stop a run otherwise than a fault does
sum_of_two_types : on wide (v ∷ []) (ast.Arith Add (ast.Name v) (ast.Int 1)) two ≡ Err (stuck 2)
sum_of_two_types = refl

call_without_its_argument : evaluated wide counts (codes "f") [] ≡ Err (stuck 1)
call_without_its_argument = refl

-- one action on each line from the second on, of a function of the list v and the number x
abbrev lines : ℕ → List Action → Block
lines k [] = end
lines k (act ∷ rest) = step (at k act) (lines (suc k) rest)

abbrev runs : List Action → List Value → Result Done Halted
runs acts vs = evaluated wide (record { line = 1; name = codes "f"; params = v ∷ x ∷ []; body = lines 2 acts } ∷ []) (codes "f") vs

abbrev gives : Term → Action
gives e = ast.Return (a_term e)

abbrev some : List Value
some = Items (pos 1 ∷ pos 2 ∷ pos 3 ∷ []) ∷ Int (pos 2) ∷ []

appended : runs (ast.Append v (ast.Name x) ∷ gives (ast.Name v) ∷ []) some ≡ returned (Items (pos 1 ∷ pos 2 ∷ pos 3 ∷ pos 2 ∷ []))
appended = refl

appended_past_the_cap : runs (ast.Append v (ast.Name x) ∷ ast.Append v (ast.Name x) ∷ gives (ast.Name v) ∷ []) some ≡ Err (fault Length 3)
appended_past_the_cap = refl

-- what is printed is evaluated and dropped; its fault is the run's
printed : runs (ast.Print (ast.Name x) ∷ gives (ast.Name x) ∷ []) some ≡ returned (Int (pos 2))
printed = refl

printed_by_zero : runs (ast.Print (ast.Arith Floor (ast.Int 1) (ast.Int 0)) ∷ gives (ast.Name x) ∷ []) some ≡ Err (fault Divisor 2)
printed_by_zero = refl

printed_before_it_is_set : runs (ast.Print (ast.Name i) ∷ ast.Assign i (ast.Int 1) ∷ gives (ast.Name i) ∷ []) some ≡ Err (fault Unset 2)
printed_before_it_is_set = refl

augmented : runs (ast.Augment x Mul (ast.Int 3) ∷ gives (ast.Name x) ∷ []) some ≡ returned (Int (pos 6))
augmented = refl

put : runs (ast.Put v (ast.Neg (ast.Int 1)) (ast.Int 7) ∷ gives (ast.Name v) ∷ []) some ≡ returned (Items (pos 1 ∷ pos 2 ∷ pos 7 ∷ []))
put = refl

augmented_at : runs (ast.AugmentAt v (ast.Int 0) Sub (ast.Name x) ∷ gives (ast.Name v) ∷ []) some ≡ returned (Items (negsuc 0 ∷ pos 2 ∷ pos 3 ∷ []))
augmented_at = refl

-- the sum of the members, and the last member, which the loop leaves in its local
abbrev sums : List Action
sums =
    ast.Assign i (ast.Int 0)
    ∷ ast.For a (ast.Name v) (step (at 4 (ast.Augment i Add (ast.Name a))) end)
    ∷ gives (ast.List (term_and (ast.Name i) (term_and (ast.Name a) no_terms)))
    ∷ []

summed : runs sums some ≡ returned (Items (pos 6 ∷ pos 3 ∷ []))
summed = refl

no_member : runs sums (Items [] ∷ Int (pos 2) ∷ []) ≡ Err (fault Unset 4)
no_member = refl

-- the first test that holds decides
abbrev tests : List Action
tests =
    ast.If
    (arm_and (arm 2 (ast.Cmp Lt (ast.Name x) (ast.Int 2)) (step (at 3 (gives (ast.Int 1))) end))
    (arm_and (arm 4 (ast.Cmp Lt (ast.Name x) (ast.Int 4)) (step (at 5 (gives (ast.Int 2))) end)) no_arms))
    (a_block (step (at 7 (ast.Return no_term)) end))
    ∷ []

first_test : runs tests (Items [] ∷ Int (pos 1) ∷ []) ≡ returned (Int (pos 1))
first_test = refl

second_test : runs tests (Items [] ∷ Int (pos 3) ∷ []) ≡ returned (Int (pos 2))
second_test = refl

no_test : runs tests (Items [] ∷ Int (pos 4) ∷ []) ≡ Err (fault NoValue 7)
no_test = refl

no_return : runs (ast.Pass ∷ []) some ≡ Err (fault NoValue 1)
no_return = refl

-- calls go two deep here: the entry, and one call from it
abbrev falls : List Routine
falls =
    record {
      line = 1;
      name = codes "f";
      params = x ∷ [];
      body =
          step (at 2 (gives (ast.Cond (ast.Cmp Lt (ast.Name x) (ast.Int 1)) (ast.Int 9) (ast.Call (codes "f") (term_and (ast.Arith Sub (ast.Name x) (ast.Int 1)) no_terms))))) end;
    }
    ∷ []

called_once : evaluated wide falls (codes "f") (Int (pos 1) ∷ []) ≡ returned (Int (pos 9))
called_once = refl

called_too_deep : evaluated wide falls (codes "f") (Int (pos 2) ∷ []) ≡ Err (fault Depth 2)
called_too_deep = refl

-- two printed values are kept here, of the entry's own statements alone
abbrev keeping : Limits
keeping = record { width = 6; turns = 4; depth = 2; cap = 4; prints = 2; width_range = (lit≤ tt, lit≤ tt); turns_range = (lit≤ tt, lit≤ tt); depth_range = (lit≤ tt, lit≤ tt); cap_range = (lit≤ tt, lit≤ tt); prints_range = lit≤ tt }

abbrev next_number : Term
next_number = ast.Arith Add (ast.Name x) (ast.Int 1)

abbrev prints : List Action → List Value → Result Done Halted
prints acts vs = evaluated keeping (record { line = 1; name = codes "f"; params = x ∷ []; body = lines 2 acts } ∷ []) (codes "f") vs

abbrev ended : Option Value → List Value → Result Done Halted
ended v vs = Ok (record { value = v; printed = vs })

kept_in_order : prints (ast.Print (ast.Name x) ∷ ast.Print next_number ∷ []) (Int (pos 4) ∷ []) ≡ ended None (Int (pos 4) ∷ Int (pos 5) ∷ [])
kept_in_order = refl

kept_to_a_return : prints (ast.Print (ast.Name x) ∷ gives next_number ∷ ast.Print (ast.Name x) ∷ []) (Int (pos 4) ∷ []) ≡ ended (Some (Int (pos 5))) (Int (pos 4) ∷ [])
kept_to_a_return = refl

kept_to_a_return_alone : prints (ast.Print (ast.Name x) ∷ ast.Return no_term ∷ ast.Print (ast.Name x) ∷ []) (Int (pos 4) ∷ []) ≡ ended None (Int (pos 4) ∷ [])
kept_to_a_return_alone = refl

-- what doesn't fit any more is evaluated first
one_print_too_many : prints (ast.Print (ast.Name x) ∷ ast.Print next_number ∷ ast.Print (ast.Name x) ∷ []) (Int (pos 4) ∷ []) ≡ Err (fault Length 4)
one_print_too_many = refl

print_too_many_faults : prints (ast.Print (ast.Name x) ∷ ast.Print next_number ∷ ast.Print (ast.Arith Floor (ast.Int 1) (ast.Int 0)) ∷ []) (Int (pos 4) ∷ []) ≡ Err (fault Divisor 4)
print_too_many_faults = refl

-- a callee that prints, and the entry called again
abbrev calls_printers : List Routine
calls_printers =
    record { line = 1; name = codes "f"; params = x ∷ []; body = step (at 2 (ast.Print (ast.Name x))) (step (at 3 (gives (ast.Call (codes "g") (term_and (ast.Name x) no_terms)))) end) }
    ∷ record { line = 4; name = codes "g"; params = a ∷ []; body = step (at 5 (ast.Print (ast.Name a))) (step (at 6 (gives (ast.Name a))) end) }
    ∷ []

print_of_a_callee_is_dropped : evaluated keeping calls_printers (codes "f") (Int (pos 4) ∷ []) ≡ ended (Some (Int (pos 4))) (Int (pos 4) ∷ [])
print_of_a_callee_is_dropped = refl

abbrev calls_itself : List Routine
calls_itself =
    record { line = 1; name = codes "f"; params = x ∷ []; body = step (at 2 (ast.Print (ast.Name x))) (step (at 3 (gives (ast.Cond (ast.Cmp Lt (ast.Name x) (ast.Int 1)) (ast.Int 9) (ast.Call (codes "f") (term_and (ast.Int 0) no_terms))))) end) } ∷ []

print_of_the_entry_called_again_is_dropped : evaluated keeping calls_itself (codes "f") (Int (pos 4) ∷ []) ≡ ended (Some (Int (pos 9))) (Int (pos 4) ∷ [])
print_of_the_entry_called_again_is_dropped = refl

-- a callee gives a value also where the entry need not
abbrev calls_for_nothing : List Routine
calls_for_nothing =
    record { line = 1; name = codes "f"; params = x ∷ []; body = step (at 2 (ast.Print (ast.Call (codes "g") (term_and (ast.Name x) no_terms)))) end }
    ∷ record { line = 3; name = codes "g"; params = a ∷ []; body = step (at 4 (ast.Return no_term)) end }
    ∷ []

callee_without_a_value : evaluated keeping calls_for_nothing (codes "f") (Int (pos 4) ∷ []) ≡ Err (fault NoValue 4)
callee_without_a_value = refl

-- parentheses stand where a part's level is below the one asked for
power_of_negative : text_of (ast.Arith Power (ast.Neg (ast.Int 2)) (ast.Int 2)) ≡ codes "(-2) ** 2"
unfolding digits
power_of_negative = refl

negative_of_power : text_of (ast.Neg (ast.Arith Power (ast.Int 2) (ast.Int 2))) ≡ codes "-2 ** 2"
unfolding digits
negative_of_power = refl

sum_on_the_right : text_of (ast.Arith Sub (ast.Name x) (ast.Arith Add (ast.Name x) (ast.Int 1))) ≡ codes "x - (x + 1)"
unfolding digits
sum_on_the_right = refl

sum_on_the_left : text_of (ast.Arith Sub (ast.Arith Add (ast.Name x) (ast.Int 1)) (ast.Name x)) ≡ codes "x + 1 - x"
unfolding digits
sum_on_the_left = refl

sum_in_a_product : text_of (ast.Arith Mul (ast.Arith Add (ast.Name x) (ast.Int 1)) (ast.Int 2)) ≡ codes "(x + 1) * 2"
unfolding digits
sum_in_a_product = refl

counting_text : program_text counts ≡ codes "def f(x):\n    i = 0\n    while i < x:\n        i = i + 1\n    return i\n"
unfolding digits
counting_text = refl

printing_text : program_text (record { line = 1; name = codes "f"; params = x ∷ []; body = step (at 2 (ast.Print (ast.Cmp Lt (ast.Name x) (ast.Int 2)))) end } ∷ []) ≡ codes "def f(x):\n    print(x < 2)\n"
unfolding digits
printing_text = refl

input_text : values_text (Items (pos 1 ∷ negsuc 1 ∷ []) ∷ Truth false ∷ Text (codes "it's") ∷ []) ≡ codes "[1, -2], False, 'it\\'s'"
unfolding digits
input_text = refl
