-- Programs at their limits, and one beyond.
use Rattle.std.proofs.Common.{◌≡◌, ℕ, zero, suc, List, [], ◌∷◌, refl, true}
use Rattle.mpy_tree.specs.Syntax.{Term, no_terms, at, arm, arm_and, no_arms, Block, end, step, a_block, Routine}
use Rattle.mpy_tree.specs.Syntax as ast
use Rattle.mpy_limits.specs.Limits.{limit_lines}

abbrev function : List (List ℕ) → Block → Routine
function xs b = record { line = 1; name = 102 ∷ []; params = xs; body = b }

abbrev of_one : Block → List ℕ
of_one b = limit_lines (function [] b ∷ [])

-- a block with this many loops in one another
abbrev nested : ℕ → Block
nested zero = step (at 9 ast.Pass) end
nested (suc n) = step (at 5 (ast.While (ast.Bool true) (nested n))) end

eight_blocks : of_one (nested 7) ≡ []
eight_blocks = refl

nine_blocks : of_one (nested 8) ≡ 9 ∷ []
nine_blocks = refl

eleven_blocks : of_one (nested 10) ≡ 5 ∷ 5 ∷ 9 ∷ []
eleven_blocks = refl

-- an `else` that holds so many blocks
abbrev below_else : ℕ → Block
below_else n = step (at 2 (ast.If (arm_and (arm 2 (ast.Bool true) (step (at 3 ast.Pass) end)) no_arms) (a_block (nested n)))) end

eight_below_else : of_one (below_else 6) ≡ []
eight_below_else = refl

nine_below_else : of_one (below_else 7) ≡ 9 ∷ []
nine_below_else = refl

-- so many minus signs
abbrev minus : ℕ → Term
minus zero = ast.Int 1
minus (suc n) = ast.Neg (minus n)

depth_of_32 : of_one (step (at 2 (ast.Assign (120 ∷ []) (minus 31))) end) ≡ []
depth_of_32 = refl

depth_of_33 : of_one (step (at 2 (ast.Assign (120 ∷ []) (minus 32))) end) ≡ 2 ∷ []
depth_of_33 = refl

depth_of_33_printed : of_one (step (at 2 (ast.Print (minus 32))) end) ≡ 2 ∷ []
depth_of_33_printed = refl

-- so many statements, each on a line of its own, numbered downwards
abbrev rows : ℕ → Block
rows zero = end
rows (suc n) = step (at n ast.Pass) (rows n)

statements_200 : of_one (rows 200) ≡ []
statements_200 = refl

statements_202 : of_one (rows 202) ≡ 1 ∷ []
statements_202 = refl

-- a name of so many bytes
abbrev letters : ℕ → List ℕ
letters zero = []
letters (suc n) = 120 ∷ letters n

name_of_40 : of_one (step (at 2 (ast.Assign (letters 40) (ast.Call (letters 40) no_terms))) end) ≡ []
name_of_40 = refl

name_of_41 : of_one (step (at 2 (ast.Assign (letters 40) (ast.Call (letters 41) no_terms))) end) ≡ 2 ∷ []
name_of_41 = refl

abbrev names : ℕ → List (List ℕ)
names zero = []
names (suc n) = (120 ∷ []) ∷ names n

six_parameters : limit_lines (function (names 6) end ∷ []) ≡ []
six_parameters = refl

seven_parameters : limit_lines (function (names 7) end ∷ []) ≡ 1 ∷ []
seven_parameters = refl

-- so many functions, numbered downwards
abbrev functions : ℕ → List Routine
functions zero = []
functions (suc n) = record { line = n; name = 102 ∷ []; params = []; body = end } ∷ functions n

eight_functions : limit_lines (functions 8) ≡ []
eight_functions = refl

ten_functions : limit_lines (functions 10) ≡ 1 ∷ []
ten_functions = refl
