-- Faults of names and of numbers of arguments, each with the line on which it stands.
use Rattle.std.specs.Prelude.{ℕ, ◌+◌, ◌==◌, Bool, true, false, not, ◌&&◌, ◌||◌, List, [], ◌∷◌, ◌++◌}
use Rattle.std.specs.Prelude.{length, Option, Some, None, is_some, if◌then◌else◌, codes}
use Rattle.std.specs.List.{list_any}
use Rattle.mpy_tree.specs.declared.builtins.Builtin.{Builtin}
use Rattle.mpy_tree.specs.Syntax.{Term, Terms, no_terms, term_and, Action, Routine}
use Rattle.mpy_tree.specs.Syntax as ast
use Rattle.mpy_tree.specs.Builtins.{builtin_of, takes}
use Rattle.mpy_tree.specs.Running.{found}
use Rattle.mpy_tree.specs.Sites.{Site, does, asks, line_of, sites, site_nodes}
use Rattle.mpy_tree.specs.Locals.{is_among, site_changed, locals}
use Rattle.mpy_tree.specs.Values.{same_bytes}

abbrev pub is_builtin : List ℕ → Bool
is_builtin f = is_some (builtin_of f)

-- whether it is the name of the statement `print(e)`
abbrev pub is_print : List ℕ → Bool
is_print f = same_bytes f (codes "print")

-- the names that no function of a program may have
abbrev pub is_taken : List ℕ → Bool
is_taken f = is_builtin f || is_print f

abbrev pub count : Terms → ℕ
count no_terms = 0
count (term_and e es) = 1 + count es

-- of a name that isn't there nothing is asked
abbrev pub takes_params : Option Routine → ℕ → Bool
takes_params None n = true
takes_params (Some r) n = n == length r.params

abbrev pub takes_so_many : Option Builtin → Option Routine → ℕ → Bool
takes_so_many (Some b) r n = takes b n
takes_so_many None r n = takes_params r n

-- In a function with the locals xs: a name that isn't a local, and a call of a local, or of a name
-- that is neither a builtin's nor a function's.
abbrev pub is_name_fault : List Routine → List (List ℕ) → Term → Bool
is_name_fault p xs (ast.Name x) = not (is_among xs x)
is_name_fault p xs (ast.Call f es) = is_among xs f || not (is_builtin f || is_some (found p f))
is_name_fault p xs _ = false

-- A call with a number of arguments that the builtin or the function doesn't take. Of two functions
-- of one name the first counts.
abbrev pub is_arity_fault : List Routine → Term → Bool
is_arity_fault p (ast.Call f es) = not (takes_so_many (builtin_of f) (found p f) (count es))
is_arity_fault p _ = false

abbrev pub act_prints : Action → Bool
act_prints (ast.Assign x e) = false
act_prints (ast.Augment x op e) = false
act_prints (ast.Put x i e) = false
act_prints (ast.AugmentAt x i op e) = false
act_prints (ast.Append x e) = false
act_prints (ast.Print e) = true
act_prints (ast.Return e) = false
act_prints ast.Pass = false
act_prints ast.Break = false
act_prints ast.Continue = false
act_prints (ast.If arms last) = false
act_prints (ast.While e body) = false
act_prints (ast.For x e body) = false

-- whether a statement itself prints
abbrev pub site_prints : Site → Bool
site_prints (does line act) = act_prints act
site_prints (asks line e) = false

-- A list that is changed in place has the name of a local, too. A statement `print(e)` stands where
-- `print` is no local.
abbrev pub has_name_fault : List Routine → List (List ℕ) → Site → Bool
has_name_fault p xs s =
    list_any (λ x. not (is_among xs x)) (site_changed s)
    || site_prints s && list_any is_print xs
    || list_any (is_name_fault p xs) (site_nodes s)

abbrev pub has_arity_fault : List Routine → Site → Bool
has_arity_fault p s = list_any (is_arity_fault p) (site_nodes s)

-- the lines of the statements that a test finds
abbrev pub lines_of : (Site → Bool) → List Site → List ℕ
lines_of test [] = []
lines_of test (s ∷ ss) = if test s then line_of s ∷ lines_of test ss else lines_of test ss

abbrev pub has_twice : List (List ℕ) → Bool
has_twice [] = false
has_twice (x ∷ xs) = is_among xs x || has_twice xs

-- the line of a `def` whose name is an earlier one's, a builtin's or `print`, or that has a
-- parameter twice
abbrev pub header_lines : List (List ℕ) → Routine → List ℕ
header_lines before r =
    if is_among before r.name || is_taken r.name || has_twice r.params then r.line ∷ [] else []

-- the lines of functions with faults of names, where functions of the names `before` come earlier
abbrev pub name_lines_from : List Routine → List (List ℕ) → List Routine → List ℕ
name_lines_from p before [] = []
name_lines_from p before (r ∷ rs) =
    header_lines before r
    ++ lines_of (has_name_fault p (locals r)) (sites r.body)
    ++ name_lines_from p (before ++ r.name ∷ []) rs

abbrev pub name_lines : List Routine → List ℕ
name_lines p = name_lines_from p [] p

abbrev pub arity_lines_from : List Routine → List Routine → List ℕ
arity_lines_from p [] = []
arity_lines_from p (r ∷ rs) = lines_of (has_arity_fault p) (sites r.body) ++ arity_lines_from p rs

abbrev pub arity_lines : List Routine → List ℕ
arity_lines p = arity_lines_from p p
