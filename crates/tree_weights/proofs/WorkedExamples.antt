-- Weights of small programs, computed.
use Rattle.std.proofs.Common.{◌≡◌, ℕ, List, [], ◌∷◌, codes, lit≤, refl}
use Rattle.mpy_tree.specs.declared.limits.Limits.{Limits}
use Rattle.mpy_tree.specs.declared.operators.ArithOp.TheVariants.{Add, Sub}
use Rattle.mpy_tree.specs.declared.operators.CmpOp.TheVariants.{Lt, Member, Ne}
use Rattle.mpy_tree.specs.declared.typing.Fact.{Fact}
use Rattle.mpy_tree.specs.declared.typing.Slot.{Slot}
use Rattle.mpy_tree.specs.declared.typing.Slot.TheVariants.{Local, Result}
use Rattle.mpy_tree.specs.declared.typing.Ty.{Ty}
use Rattle.mpy_tree.specs.declared.typing.Ty.TheVariants as ty
use Rattle.mpy_tree.specs.Syntax.{Term, no_terms, term_and, no_term, a_term, at, end, step}
use Rattle.mpy_tree.specs.Syntax.{no_block, arm, no_arms, arm_and, Block, Routine}
use Rattle.mpy_tree.specs.Syntax as ast
use Rattle.mpy_tree.specs.Shapes.{program_shape}
use Rattle.mpy_tree.specs.Trees as kind
use Rattle.choice_tree.specs.WeightedTrees.{Weighted, lifted, no_others, no_weighted, other_and}
use Rattle.choice_tree.specs.WeightedTrees.{pick, plainly}
use Rattle.choice_tree.specs.WeightedViews.{one, two}
use Rattle.tree_weights.specs.Weights.{program_weight}

abbrev wide : Limits
wide =
    record {
      width = 6;
      turns = 4;
      depth = 2;
      cap = 4;
      prints = 0;
      width_range = (lit≤ tt, lit≤ tt);
      turns_range = (lit≤ tt, lit≤ tt);
      depth_range = (lit≤ tt, lit≤ tt);
      cap_range = (lit≤ tt, lit≤ tt);
      prints_range = lit≤ tt;
    }

abbrev deep : Limits
deep =
    record {
      width = 6;
      turns = 3;
      depth = 3;
      cap = 4;
      prints = 0;
      width_range = (lit≤ tt, lit≤ tt);
      turns_range = (lit≤ tt, lit≤ tt);
      depth_range = (lit≤ tt, lit≤ tt);
      cap_range = (lit≤ tt, lit≤ tt);
      prints_range = lit≤ tt;
    }

abbrev narrow : Limits
narrow =
    record {
      width = 5;
      turns = 2;
      depth = 2;
      cap = 3;
      prints = 0;
      width_range = (lit≤ tt, lit≤ tt);
      turns_range = (lit≤ tt, lit≤ tt);
      depth_range = (lit≤ tt, lit≤ tt);
      cap_range = (lit≤ tt, lit≤ tt);
      prints_range = lit≤ tt;
    }

abbrev fact : ℕ → Slot → Ty → Fact
fact i s t = record { func = i; slot = s; ty = t }

abbrev local : List ℕ → Slot
local x = Local x

abbrev routine : List ℕ → List (List ℕ) → Block → Routine
routine f xs body = record { line = 1; name = f; params = xs; body = body }

abbrev f : List ℕ
f = codes "f"

abbrev x : Term
x = ast.Name (codes "x")

-- def f(x): return x + 1
abbrev one_sum : List Routine
one_sum =
    routine f (codes "x" ∷ [])
    (step (at 2 (ast.Return (a_term (ast.Arith Add x (ast.Int 1))))) end) ∷ []

abbrev number_facts : List Fact
number_facts = fact 0 (local (codes "x")) ty.Int ∷ fact 0 Result ty.Int ∷ []

-- the statement 2 * (6 + 1), the sum 8 * 6, and its operands
sum_weight : program_weight wide number_facts f (lifted (program_shape one_sum)) ≡ 64
sum_weight = refl

-- def f(x): print(x)
abbrev one_print : List Routine
one_print = routine f (codes "x" ∷ []) (step (at 2 (ast.Print x)) end) ∷ []

-- a print weighs as any statement, 2 * (6 + 1), and what is printed
print_weight : program_weight wide number_facts f (lifted (program_shape one_print)) ≡ 15
print_weight = refl

-- two printed values are kept
abbrev keeping : Limits
keeping =
    record {
      width = 6;
      turns = 4;
      depth = 2;
      cap = 4;
      prints = 2;
      width_range = (lit≤ tt, lit≤ tt);
      turns_range = (lit≤ tt, lit≤ tt);
      depth_range = (lit≤ tt, lit≤ tt);
      cap_range = (lit≤ tt, lit≤ tt);
      prints_range = lit≤ tt;
    }

-- They have 5 + 2 * (2 + 33) = 75 bits. A statement of the entry has these too, 2 * (7 + 75), and a
-- print adds a value to them, 4 * 75.
kept_weight : program_weight keeping number_facts f (lifted (program_shape one_print)) ≡ 465
kept_weight = refl

-- def f(x): return g(x)
-- def g(x):
--     print(x)
--     return x
abbrev printing_below : List Routine
printing_below =
    routine f (codes "x" ∷ [])
    (step (at 2 (ast.Return (a_term (ast.Call (codes "g") (term_and x no_terms))))) end)
    ∷ routine (codes "g") (codes "x" ∷ [])
    (step (at 4 (ast.Print x)) (step (at 5 (ast.Return (a_term x))) end)) ∷ []

abbrev below_facts : List Fact
below_facts =
    fact 0 (local (codes "x")) ty.Int ∷ fact 0 Result ty.Int ∷ fact 1 (local (codes "x")) ty.Int
    ∷ fact 1 Result ty.Int ∷ []

-- what a called function prints isn't kept: its statements weigh 2 * 7 each
below_weight : program_weight keeping below_facts f (lifted (program_shape printing_below)) ≡ 196
below_weight = refl

-- def f(x): return x, with a pick of x and x + 1
abbrev one_pick : Weighted
one_pick =
    plainly kind.Program (one (plainly (kind.Function 1 f (codes "x" ∷ []))
    (one (plainly kind.Block (one (plainly (kind.Return 2)
    (one (pick 0 (plainly (kind.Name (codes "x")) no_weighted)
    (other_and 0 1 (plainly (kind.Arith Add) (two (plainly (kind.Name (codes "x")) no_weighted)
    (plainly (kind.Int 1) no_weighted))) no_others)))))))))

-- the statement, the pick 4 * 6 * 2, and its members
pick_weight : program_weight wide number_facts f one_pick ≡ 113
pick_weight = refl

abbrev h_of : Term
h_of =
    ast.Call (codes "h") (term_and (ast.Arith Sub (ast.Name (codes "n")) (ast.Int 1)) no_terms)

abbrev the_range : Term
the_range = ast.Call (codes "range") (term_and (ast.Int 0) (term_and (ast.Int 4) no_terms))

-- def h(n):
--     if n < 1: return 1
--     return h(n - 1) + h(n - 1)
-- def f(x):
--     t = 0
--     for i in range(0, 4): t = h(x)
--     return t
abbrev calling : List Routine
calling =
    routine (codes "h") (codes "n" ∷ [])
    (step (at 2 (ast.If (arm_and (arm 2 (ast.Cmp Lt (ast.Name (codes "n")) (ast.Int 1))
    (step (at 3 (ast.Return (a_term (ast.Int 1)))) end)) no_arms) no_block))
    (step (at 4 (ast.Return (a_term (ast.Arith Add h_of h_of)))) end))
    ∷ routine f (codes "x" ∷ [])
    (step (at 6 (ast.Assign (codes "t") (ast.Int 0)))
    (step (at 7 (ast.For (codes "i") the_range
    (step (at 8 (ast.Assign (codes "t") (ast.Call (codes "h") (term_and x no_terms)))) end)))
    (step (at 9 (ast.Return (a_term (ast.Name (codes "t"))))) end))) ∷ []

abbrev calling_facts : List Fact
calling_facts =
    fact 0 (local (codes "n")) ty.Int ∷ fact 0 Result ty.Int ∷ fact 1 (local (codes "x")) ty.Int
    ∷ fact 1 (local (codes "t")) ty.Int ∷ fact 1 (local (codes "i")) ty.Int
    ∷ fact 1 Result ty.Int ∷ []

-- a loop of three turns, with a call in it that may call two levels deeper
calls_weight : program_weight deep calling_facts f (lifted (program_shape calling)) ≡ 2959
calls_weight = refl

abbrev w : Term
w = ast.Name (codes "w")

abbrev s : Term
s = ast.Name (codes "s")

abbrev v : Term
v = ast.Name (codes "v")

-- def f(v, s):
--     w = v + [1]
--     w[0] += len(s)
--     w.append(w[1])
--     while s != 'a' and 2 in w: s = s[1:]
--     return w[0:2] if 'b' in s else v
abbrev lists : List Routine
lists =
    routine f (codes "v" ∷ codes "s" ∷ [])
    (step (at 2 (ast.Assign (codes "w") (ast.Arith Add v (ast.List (term_and (ast.Int 1)
    no_terms)))))
    (step (at 3 (ast.AugmentAt (codes "w") (ast.Int 0) Add
    (ast.Call (codes "len") (term_and s no_terms))))
    (step (at 4 (ast.Append (codes "w") (ast.Index w (ast.Int 1))))
    (step (at 5 (ast.While (ast.And (ast.Cmp Ne s (ast.Text (codes "a")))
    (ast.Cmp Member (ast.Int 2) w))
    (step (at 6 (ast.Assign (codes "s") (ast.Slice s (a_term (ast.Int 1)) no_term))) end)))
    (step (at 7 (ast.Return (a_term (ast.Cond (ast.Cmp Member (ast.Text (codes "b")) s)
    (ast.Slice w (a_term (ast.Int 0)) (a_term (ast.Int 2))) v)))) end))))) ∷ []

abbrev list_facts : List Fact
list_facts =
    fact 0 (local (codes "v")) ty.List ∷ fact 0 (local (codes "s")) ty.Text
    ∷ fact 0 (local (codes "w")) ty.List ∷ fact 0 Result ty.List ∷ []

-- operators on lists and texts, and the test of a `while` before each turn
lists_weight : program_weight narrow list_facts f (lifted (program_shape lists)) ≡ 4335
lists_weight = refl
