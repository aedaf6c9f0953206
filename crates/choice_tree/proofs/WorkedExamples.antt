-- Rewritings of small programs, computed.
use Rattle.std.proofs.Common.{◌≡◌, ℕ, ◌==◌, if◌then◌else◌, List, [], ◌∷◌, Option, Some}
use Rattle.std.proofs.Common.{None, true, false, refl}
use Rattle.mpy_tree.specs.declared.typing.Ty.{Ty}
use Rattle.mpy_tree.specs.declared.typing.Ty.TheVariants as ty
use Rattle.mpy_tree.specs.declared.typing.Slot.TheVariants as slot
use Rattle.mpy_tree.specs.declared.operators.ArithOp.TheVariants as arith
use Rattle.mpy_tree.specs.declared.operators.CmpOp.TheVariants as cmp
use Rattle.mpy_tree.specs.Syntax.{Term, a_term, no_term, at, end, step, Routine}
use Rattle.mpy_tree.specs.Syntax.{arm, arm_and, no_arms, no_block}
use Rattle.mpy_tree.specs.Syntax as ast
use Rattle.mpy_tree.specs.Rules.{Slots}
use Rattle.mpy_tree.specs.Trees as kind
use Rattle.mpy_tree.specs.Shapes.{shape, program_shape}
use Rattle.choice_tree.specs.Contexts.{setting_with}
use Rattle.choice_tree.specs.Templates.{exactly, one_arith, one_comparison}
use Rattle.choice_tree.specs.Templates.{Template, Templates, made, hole, one_of, some_local}
use Rattle.choice_tree.specs.Templates.{no_templates, template_and, Correction}
use Rattle.choice_tree.specs.declared.rules.Meta.{Meta}
use Rattle.choice_tree.specs.declared.rules.Place.{Place}
use Rattle.choice_tree.specs.declared.rules.Place.TheVariants as place
use Rattle.choice_tree.specs.WeightedTrees.{Weighted, size}
use Rattle.choice_tree.specs.Growing.{weighted_program}
use Rattle.choice_tree.specs.Selections.{plain, cost, edits, choices, most_cost}

abbrev name_x : List ℕ
name_x = 120 ∷ []

abbrev name_v : List ℕ
name_v = 118 ∷ []

abbrev name_w : List ℕ
name_w = 119 ∷ []

-- v and w are lists, and x a number
abbrev type_of_name : List ℕ → Option Ty
type_of_name (c ∷ []) =
    if c == 120 then Some ty.Int
    else if c == 118 then Some ty.List else if c == 119 then Some ty.List else None
type_of_name _ = None

abbrev types : Slots
types i (slot.Local y) = type_of_name y
types i slot.Result = None

-- def f(x, v, w): return e
abbrev returning : Term → List Routine
returning e =
    record {
      line = 1;
      name = 102 ∷ [];
      params = name_x ∷ name_v ∷ name_w ∷ [];
      body = step (at 2 (ast.Return (a_term e))) end;
    } ∷ []

abbrev tree_by : List Correction → Term → Weighted
tree_by rules e =
    weighted_program (setting_with rules (returning e) types) (returning e)

abbrev rule : Place → ℕ → Template → Template → Correction
rule p cost left right =
    record {
      line = 1;
      name = [];
      cost = cost;
      place = p;
      left = left;
      right_place = p;
      right = right;
      say = None;
    }

abbrev meta : Meta
meta = record { letter = 97; digit = None; primed = false }

abbrev primed : Meta
primed = record { letter = 97; digit = None; primed = true }

abbrev x : Term
x = ast.Name name_x

abbrev plus : Term → ℕ → Term
plus e n = ast.Arith arith.Add e (ast.Int n)

abbrev one_part : Template → Templates
one_part p = template_and p no_templates

abbrev literal : ℕ → Template
literal n = made (exactly (kind.Int n)) no_templates

abbrev name_template : List ℕ → Template
name_template y = made (exactly (kind.Name y)) no_templates

abbrev sum : Template → Template → Template
sum p q = made (one_arith (arith.Add ∷ [])) (template_and p (one_part q))

-- return $a => return $a + 2; return $a => return $a' + 1; x => x + 1
abbrev three_rules : Weighted
three_rules =
    tree_by (rule place.Return 3 (hole meta) (sum (hole meta) (literal 2))
    ∷ rule place.Return 1 (hole meta) (sum (hole primed) (literal 1))
    ∷ rule place.Anywhere 1 (name_template name_x) (sum (name_template name_x) (literal 1)) ∷ []) x

-- the pick 0 takes its second member, the pick 2 its first
abbrev chosen : ℕ → ℕ
chosen p = if p == 0 then 2 else if p == 2 then 1 else 0

nested_plain : plain chosen three_rules ≡ program_shape (returning (plus (plus x 1) 1))
nested_plain = refl

nested_cost : cost chosen three_rules ≡ 2
nested_cost = refl

nested_edits : edits chosen three_rules 0
    ≡ record { line = 2; rule = 1; old = shape x; new = shape (plus (plus x 1) 1) }
    ∷ record { line = 2; rule = 2; old = shape x; new = shape (plus x 1) } ∷ []
nested_edits = refl

-- there are picks of three, two and two members; the first rule alone costs most
all_choices : choices three_rules ≡ 12
all_choices = refl

greatest : most_cost three_rules ≡ 3
greatest = refl

-- the outer pick; the inner one with x and x + 1; x + 2; and a sum of a pick of that kind and 1
whole_size : size three_rules ≡ 16
whole_size = refl

abbrev first : ℕ → ℕ
first p = if p == 0 then 1 else 0

-- the name of a list is copied in an alternative at a sharing place, and stays bare outside of one
abbrev v : Term
v = ast.Name name_v

abbrev w : Term
w = ast.Name name_w

abbrev copy : Term → Term
copy e = ast.Slice e no_term no_term

abbrev x_is_0 : Term
x_is_0 = ast.Cmp cmp.Eq x (ast.Int 0)

abbrev w_for_v : Correction
w_for_v = rule place.Anywhere 1 (name_template name_v) (name_template name_w)

copied_arm : plain first (tree_by (w_for_v ∷ []) (ast.Cond x_is_0 v w))
    ≡ program_shape (returning (ast.Cond x_is_0 (copy w) w))
copied_arm = refl

copied_under_no_edit : plain first
    (tree_by (rule place.Return 1 (hole meta) (hole primed) ∷ w_for_v ∷ []) v)
    ≡ program_shape (returning (copy v))
copied_under_no_edit = refl

-- def f(x, v, w):
--     if True:
--         print(e)
abbrev printing : Term → List Routine
printing e =
    record {
      line = 1;
      name = 102 ∷ [];
      params = name_x ∷ name_v ∷ name_w ∷ [];
      body =
          step (at 2 (ast.If (arm_and (arm 2 (ast.Bool true) (step (at 3 (ast.Print e)) end))
          no_arms) no_block)) end;
    } ∷ []

abbrev printed_by : List Correction → Term → Weighted
printed_by rules e = weighted_program (setting_with rules (printing e) types) (printing e)

-- An edit in a print has the print's line, and not that of the block in which it stands. Rules with
-- a place aren't tried there.
printed_edits : edits first
    (printed_by (rule place.Return 1 (hole meta) (literal 5)
    ∷ rule place.Anywhere 1 (name_template name_x) (sum (name_template name_x) (literal 1)) ∷ [])
    x) 0
    ≡ record { line = 3; rule = 1; old = shape x; new = shape (plus x 1) } ∷ []
printed_edits = refl

-- what is printed shares no list
printed_list : plain first (printed_by (w_for_v ∷ []) v) ≡ program_shape (printing w)
printed_list = refl

-- an instance of another type is no alternative: here is no pick
not_typed : tree_by (rule place.Anywhere 1 (hole meta) (made (exactly (kind.Bool true)) no_templates)
    ∷ []) x ≡ tree_by [] x
not_typed = refl

-- $a0 < $a1 => $a0 {<, <=} ?$a1 with the numbers of the function: x alone
abbrev sets : Weighted
sets =
    tree_by (rule place.Anywhere 1
    (made (one_comparison (cmp.Lt ∷ [])) (template_and (literal 0) (one_part (hole meta))))
    (made (one_comparison (cmp.Lt ∷ cmp.Le ∷ []))
    (template_and (one_of (template_and (literal 1) (one_part (literal 2))))
    (one_part (some_local meta)))) ∷ []) (ast.Cmp cmp.Lt (ast.Int 0) (ast.Int 7))

abbrev member : ℕ → ℕ → ℕ
member i p = if p == 0 then i else 0

-- the leftmost set varies slowest, and an operator stands behind its first operand
second_of_four : plain (member 2) sets
    ≡ program_shape (returning (ast.Cmp cmp.Le (ast.Int 1) x))
second_of_four = refl

third_of_four : plain (member 3) sets
    ≡ program_shape (returning (ast.Cmp cmp.Lt (ast.Int 2) x))
third_of_four = refl

four_members : choices sets ≡ 5
four_members = refl
