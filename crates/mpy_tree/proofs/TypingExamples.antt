-- Worked programs: their faults, slots, flows and shared lists, each closed by computing it.
use Rattle.std.proofs.Common.{◌≡◌, ℕ, Bool, true, false, List, [], ◌∷◌, Some, None, refl, codes}
use Rattle.mpy_tree.specs.declared.operators.ArithOp.TheVariants.{Mul}
use Rattle.mpy_tree.specs.declared.refusal.Cause.TheVariants as cause
use Rattle.mpy_tree.specs.declared.typing.Ty.TheVariants as ty
use Rattle.mpy_tree.specs.declared.typing.Slot.TheVariants as slot
use Rattle.mpy_tree.specs.Syntax.{Term, no_terms, term_and, no_term, a_term, at, end, step, Action, Routine}
use Rattle.mpy_tree.specs.Syntax as ast
use Rattle.mpy_tree.specs.declared.typing.Slot.{Slot}
use Rattle.mpy_tree.specs.declared.typing.TypeSet.{TypeSet}
use Rattle.mpy_tree.specs.declared.typing.TypeError.TheVariants.{Fault, Conflict}
use Rattle.mpy_tree.specs.Entries.{Entry, valued}
use Rattle.mpy_tree.specs.TypeSets.{no_types, just, join}
use Rattle.mpy_tree.specs.SetTypes.{FactSet, types_in}
use Rattle.mpy_tree.specs.Flows.{flows, flow, given, value, each, source_types}
use Rattle.mpy_tree.specs.Typings.{set_of}
use Rattle.mpy_tree.specs.Sharing.{shared}
use Rattle.mpy_tree.specs.Locals.{locals}
use Rattle.mpy_tree.specs.Leasts.{least}
use Rattle.mpy_tree.specs.Rules.{single, type_in}
use Rattle.mpy_tree.specs.Faults.{names_fault, slots_fault, nodes_fault, slots, facts_at, fact, free_function}

abbrev x : List ℕ
x = codes "x"

abbrev y : List ℕ
y = codes "y"

abbrev f : List ℕ
f = codes "f"

abbrev g : List ℕ
g = codes "g"

-- def f(x): return e
abbrev returns : Term → List Routine
returns e = record { line = 1; name = f; params = x ∷ []; body = step (at 2 (ast.Return (a_term e))) end } ∷ []

-- a name that isn't there, two arguments for `len`
unknown_name : names_fault (returns (ast.Name y)) ≡ Some (Fault cause.Name 2)
unfolding least
unknown_name = refl

wrong_count : names_fault (returns (ast.Call (codes "len") (term_and (ast.Name x) (term_and (ast.Name x) no_terms)))) ≡ Some (Fault cause.Arity 2)
unfolding least
wrong_count = refl

no_name_fault : names_fault (returns (ast.Name x)) ≡ None
unfolding least
no_name_fault = refl

-- every slot is a number
abbrev numbers : FactSet
numbers = λ i s. just ty.Int

length_of_number : nodes_fault (single numbers) (returns (ast.Call (codes "len") (term_and (ast.Int 1) no_terms))) ≡ Some (Fault cause.TypeFault 2)
unfolding least
length_of_number = refl

-- def f(x): return g(x), then def g(y): return g(y)
abbrev circle : List Routine
circle =
    record { line = 1; name = f; params = x ∷ []; body = step (at 2 (ast.Return (a_term (ast.Call g (term_and (ast.Name x) no_terms))))) end }
    ∷ record { line = 3; name = g; params = y ∷ []; body = step (at 4 (ast.Return (a_term (ast.Call g (term_and (ast.Name y) no_terms))))) end }
    ∷ []

-- the entry f on a number
abbrev on_number : Bool → Entry
on_number free = record { name = f; types = ty.Int ∷ []; free_result = free }

flows_of_circle : flows circle (valued f (ty.Int ∷ [])) ≡
    flow 0 (slot.Local x) (given ty.Int)
    ∷ flow 0 slot.Result (value 0 (ast.Call g (term_and (ast.Name x) no_terms)))
    ∷ flow 1 (slot.Local y) (value 0 (ast.Name x))
    ∷ flow 1 slot.Result (value 1 (ast.Call g (term_and (ast.Name y) no_terms)))
    ∷ flow 1 (slot.Local y) (value 1 (ast.Name y))
    ∷ []
flows_of_circle = refl

-- the results have no type; that of the first function is answered, at its `def`
abbrev parameter_type : Slot → TypeSet
parameter_type (slot.Local z) = just ty.Int
parameter_type slot.Result = no_types

abbrev parameters_alone : FactSet
parameters_alone = λ i s. parameter_type s

no_result : slots_fault None parameters_alone (slots circle) ≡ Some (Fault cause.Undetermined 1)
no_result = refl

-- an entry's result may have none, where the entry says so, but not that of another function
no_result_of_a_callee : slots_fault (free_function circle (on_number true)) parameters_alone (slots circle) ≡ Some (Fault cause.Undetermined 3)
no_result_of_a_callee = refl

-- def f(x): print(e)
abbrev prints : Term → List Routine
prints e = record { line = 1; name = f; params = x ∷ []; body = step (at 2 (ast.Print e)) end } ∷ []

no_result_of_the_entry : slots_fault (free_function (prints (ast.Name x)) (on_number true)) parameters_alone (slots (prints (ast.Name x))) ≡ None
no_result_of_the_entry = refl

no_value_of_the_entry : slots_fault (free_function (prints (ast.Name x)) (on_number false)) parameters_alone (slots (prints (ast.Name x))) ≡ Some (Fault cause.Undetermined 1)
no_value_of_the_entry = refl

-- `print` is a statement's name: no function has it, a local may have it, but then its function
-- prints nothing, and in an expression it is called in vain
print_is_printed : names_fault (prints (ast.Name x)) ≡ None
unfolding least
print_is_printed = refl

print_in_an_expression : names_fault (prints (ast.Call (codes "print") (term_and (ast.Name x) no_terms))) ≡ Some (Fault cause.Name 2)
unfolding least
print_in_an_expression = refl

-- def f(print): s, on line 2
abbrev takes_print : Action → List Routine
takes_print act = record { line = 1; name = f; params = codes "print" ∷ []; body = step (at 2 act) end } ∷ []

print_is_a_local : names_fault (takes_print (ast.Print (ast.Int 1))) ≡ Some (Fault cause.Name 2)
unfolding least
print_is_a_local = refl

local_is_returned : names_fault (takes_print (ast.Return (a_term (ast.Name (codes "print"))))) ≡ None
unfolding least
local_is_returned = refl

print_is_defined : names_fault (record { line = 1; name = codes "print"; params = x ∷ []; body = step (at 2 (ast.Return (a_term (ast.Name x)))) end } ∷ []) ≡ Some (Fault cause.Name 1)
unfolding least
print_is_defined = refl

-- a value of any type is printed, and what has no type is not
text_is_printed : nodes_fault (single numbers) (prints (ast.Text [])) ≡ None
unfolding least
text_is_printed = refl

length_of_number_printed : nodes_fault (single numbers) (prints (ast.Call (codes "len") (term_and (ast.Int 1) no_terms))) ≡ Some (Fault cause.TypeFault 2)
unfolding least
length_of_number_printed = refl

-- the locals in the order in which they are written: def f(x): y = g if x else x; g *= y
abbrev ordered : Routine
ordered = record { line = 1; name = f; params = x ∷ []; body = step (at 2 (ast.Assign y (ast.Cond (ast.Name x) (ast.Name g) (ast.Name x)))) (step (at 3 (ast.Augment g Mul (ast.Name y))) end) }

locals_in_order : locals ordered ≡ x ∷ y ∷ g ∷ []
locals_in_order = refl

-- `*=` gives no type
flows_in_order : flows (ordered ∷ []) (valued f []) ≡ flow 0 (slot.Local y) (value 0 (ast.Cond (ast.Name x) (ast.Name g) (ast.Name x))) ∷ []
flows_in_order = refl

-- two types of one slot, in the order of the types
both_types : slots_fault None (λ i s. join (just ty.Text) (just ty.Bool)) (slots (returns (ast.Name x))) ≡ Some (Conflict 1 ty.Bool ty.Text)
both_types = refl

facts_of_one : facts_at numbers (slots (returns (ast.Name x))) ≡ fact 0 (slot.Local x) ty.Int ∷ fact 0 slot.Result ty.Int ∷ []
facts_of_one = refl

-- the facts as a set
set_of_facts : set_of (facts_at numbers (slots (returns (ast.Name x)))) 0 slot.Result ≡ just ty.Int
set_of_facts = refl

-- a `for` over a text gives its local Text, and over a list Int
abbrev texts : FactSet
texts = λ i s. just ty.Text

members_of_text : source_types texts (returns (ast.Name x)) (each 0 (ast.Name x)) ≡ just ty.Text
members_of_text = refl

members_of_list : source_types texts (returns (ast.Name x)) (each 0 (ast.List no_terms)) ≡ just ty.Int
members_of_list = refl

-- the types are a set, before any rule is looked at: `x[0:1]` of a number has the number's type
part_of_number : types_in numbers (returns (ast.Name x)) 0 (ast.Slice (ast.Name x) (a_term (ast.Int 0)) (a_term (ast.Int 1))) ≡ just ty.Int
part_of_number = refl

part_breaks_its_rule : type_in (single numbers) (returns (ast.Name x)) 0 (ast.Slice (ast.Name x) (a_term (ast.Int 0)) (a_term (ast.Int 1))) ≡ None
part_breaks_its_rule = refl

-- a number on the left of `*` takes no list
number_times_list : type_in (single numbers) (returns (ast.Name x)) 0 (ast.Arith Mul (ast.Int 2) (ast.List no_terms)) ≡ None
number_times_list = refl

list_times_number : type_in (single numbers) (returns (ast.Name x)) 0 (ast.Arith Mul (ast.List no_terms) (ast.Int 2)) ≡ Some ty.List
list_times_number = refl

-- every slot is a list; def f(x): y = e
abbrev lists : FactSet
lists = λ i s. just ty.List

abbrev sets_y : Term → List Routine
sets_y e = record { line = 1; name = f; params = x ∷ []; body = step (at 2 (ast.Assign y e)) end } ∷ []

name_is_shared : shared (single lists) (sets_y (ast.Name x)) ≡ 2 ∷ []
name_is_shared = refl

arm_is_shared : shared (single lists) (sets_y (ast.Cond (ast.Name x) (ast.List no_terms) (ast.Name y))) ≡ 2 ∷ []
arm_is_shared = refl

copy_is_not_shared : shared (single lists) (sets_y (ast.Slice (ast.Name x) no_term no_term)) ≡ []
copy_is_not_shared = refl

number_is_not_shared : shared (single numbers) (sets_y (ast.Name x)) ≡ []
number_is_not_shared = refl

-- def f(x): for y in e: x.append(1)
abbrev goes_over : Term → List Routine
goes_over e = record { line = 1; name = f; params = x ∷ []; body = step (at 2 (ast.For y e (step (at 3 (ast.Append x (ast.Int 1))) end))) end } ∷ []

change_in_its_loop : shared (single lists) (goes_over (ast.Name x)) ≡ 3 ∷ []
change_in_its_loop = refl

change_in_a_loop_over_a_copy : shared (single lists) (goes_over (ast.Slice (ast.Name x) no_term no_term)) ≡ []
change_in_a_loop_over_a_copy = refl
