-- Reading the item of a logical line, all of its terminals.
use Rattle.std.specs.Prelude.{ℕ, Bool, List, [], ◌∷◌, nat_eq, Option, Some, None, if◌then◌else◌}
use Rattle.std.specs.Prelude.{codes}
use Rattle.std.specs.Cmp.Lexicographic.{pointwise}
use Rattle.mpy_tree.specs.Syntax.{Term, no_term, a_term, Action}
use Rattle.mpy_tree.specs.Syntax as ast
use Rattle.mpy_tree.specs.Names.{is_print}
use Rattle.mpy_tree.specs.declared.operators.ArithOp.{ArithOp}
use Rattle.mpy_tree.specs.declared.levels.Level.TheVariants as level
use Rattle.mpy_expressions.specs.Programs.{programs}
use Rattle.mpy_expressions.specs.declared.words.Word.{Word}
use Rattle.mpy_expressions.specs.declared.words.Word.TheVariants as word
use Rattle.mpy_expressions.specs.declared.terminals.Terminal.{Terminal}
use Rattle.mpy_expressions.specs.declared.terminals.Terminal.TheVariants as terminal
use Rattle.mpy_tree.specs.Options.{◌>>=◌}
use Rattle.mpy_expressions.specs.Reading.{reading, behind_closing_bracket}
use Rattle.mpy_expressions.specs.Reading.{behind_closing_paren, behind_colon}
use Rattle.mpy_parser.specs.Items.{Opening, function, when, else_when, otherwise, while, for_each}
use Rattle.mpy_parser.specs.Items.{LineItem, simple, headed, augmented}

-- what was read, where nothing is left
abbrev pub ended : {A : Type 0} → A → List (Terminal Unit) → Option A
ended a [] = Some a
ended a (t ∷ ts) = None

-- the expression that all terminals spell
abbrev pub whole : List (Terminal Unit) → Option Term
whole ts = reading programs level.Conditional ts >>= λ e. ended e.0 e.1

-- the operator and the right side of an augmented assignment
abbrev pub augmenting : Word → List (Terminal Unit) → Option (ArithOp × Term)
augmenting w ts = augmented w >>= λ op. whole ts >>= λ e. Some (op, e)

-- an augmented assignment, behind the target in brackets
abbrev pub augmented_at : List ℕ → Term → Word → List (Terminal Unit) → Option Action
augmented_at x i w ts = augmenting w ts >>= λ a. Some (ast.AugmentAt x i a.0 a.1)

-- behind the target in brackets
abbrev pub assigned : List ℕ → Term → List (Terminal Unit) → Option Action
assigned x i (terminal.Word word.Assign ∷ ts) = whole ts >>= λ e. Some (ast.Put x i e)
assigned x i (terminal.Word w ∷ ts) = augmented_at x i w ts
assigned x i _ = None

abbrev pub at_place : List ℕ → List (Terminal Unit) → Option Action
at_place x ts = do
  i ← reading programs level.Conditional ts
  rest ← behind_closing_bracket i.1
  assigned x i.0 rest

abbrev pub is_append : List ℕ → Bool
is_append f = pointwise nat_eq f (codes "append")

-- the expression that all terminals spell but the last, a closing parenthesis
abbrev pub argument : List (Terminal Unit) → Option Term
argument ts = do
  e ← reading programs level.Conditional ts
  rest ← behind_closing_paren e.1
  ended e.0 rest

abbrev pub appending : List ℕ → List (Terminal Unit) → Option Action
appending x ts = argument ts >>= λ e. Some (ast.Append x e)

abbrev pub method : List ℕ → List (Terminal Unit) → Option Action
method x (terminal.Name f ∷ terminal.Word word.LeftParen ∷ ts) =
    if is_append f then appending x ts else None
method x _ = None

abbrev pub printing : List (Terminal Unit) → Option Action
printing ts = argument ts >>= λ e. Some (ast.Print e)

-- behind a name and a parenthesis
abbrev pub called : List ℕ → List (Terminal Unit) → Option Action
called f ts = if is_print f then printing ts else None

-- behind a name and a word
abbrev pub behind_name : List ℕ → Word → List (Terminal Unit) → Option Action
behind_name x word.Assign ts = whole ts >>= λ e. Some (ast.Assign x e)
behind_name x word.LeftBracket ts = at_place x ts
behind_name x word.Dot ts = method x ts
behind_name x word.LeftParen ts = called x ts
behind_name x w ts = augmenting w ts >>= λ a. Some (ast.Augment x a.0 a.1)

abbrev pub given_at : List (Terminal Unit) → Option Action
given_at [] = Some (ast.Return no_term)
given_at (t ∷ ts) = whole (t ∷ ts) >>= λ e. Some (ast.Return (a_term e))

abbrev pub simple_at : List (Terminal Unit) → Option Action
simple_at (terminal.Word word.Pass ∷ ts) = ended ast.Pass ts
simple_at (terminal.Word word.Break ∷ ts) = ended ast.Break ts
simple_at (terminal.Word word.Continue ∷ ts) = ended ast.Continue ts
simple_at (terminal.Word word.Return ∷ ts) = given_at ts
simple_at (terminal.Name x ∷ terminal.Word w ∷ ts) = behind_name x w ts
simple_at _ = None

-- names joined by commas, and the closing parenthesis
abbrev pub names_at : List (Terminal Unit) → Option (List (List ℕ) × List (Terminal Unit))
names_at (terminal.Name x ∷ terminal.Word word.RightParen ∷ ts) = Some (x ∷ [], ts)
names_at (terminal.Name x ∷ terminal.Word word.Comma ∷ ts) =
    names_at ts >>= λ xs. Some (x ∷ xs.0, xs.1)
names_at _ = None

abbrev pub parameters_at : List (Terminal Unit) → Option (List (List ℕ) × List (Terminal Unit))
parameters_at (terminal.Word word.RightParen ∷ ts) = Some ([], ts)
parameters_at ts = names_at ts

abbrev pub function_at : List (Terminal Unit) → Option (Opening × List (Terminal Unit))
function_at (terminal.Name f ∷ terminal.Word word.LeftParen ∷ ts) =
    parameters_at ts >>= λ xs. Some (function f xs.0, xs.1)
function_at _ = None

abbrev pub each_at : List (Terminal Unit) → Option (Opening × List (Terminal Unit))
each_at (terminal.Name x ∷ terminal.Word word.In ∷ ts) =
    (reading programs) level.Conditional ts >>= λ e. Some (for_each x e.0, e.1)
each_at _ = None

-- the header of a test, by its word
abbrev pub test_of : Word → Term → Opening
test_of word.If e = when e
test_of word.Elif e = else_when e
test_of _ e = while e

abbrev pub tested_at : Word → List (Terminal Unit) → Option (Opening × List (Terminal Unit))
tested_at w ts = reading programs level.Conditional ts >>= λ e. Some (test_of w e.0, e.1)

-- a header up to its colon, and what stands behind it
abbrev pub header_at : List (Terminal Unit) → Option (Opening × List (Terminal Unit))
header_at (terminal.Word word.Def ∷ ts) = function_at ts
header_at (terminal.Word word.If ∷ ts) = tested_at word.If ts
header_at (terminal.Word word.Elif ∷ ts) = tested_at word.Elif ts
header_at (terminal.Word word.Else ∷ ts) = Some (otherwise, ts)
header_at (terminal.Word word.While ∷ ts) = tested_at word.While ts
header_at (terminal.Word word.For ∷ ts) = each_at ts
header_at _ = None

abbrev pub body_at : List (Terminal Unit) → Option (Option Action)
body_at [] = Some None
body_at (t ∷ ts) = simple_at (t ∷ ts) >>= λ act. Some (Some act)

-- behind a header: its colon, and what may follow
abbrev pub body_behind : List (Terminal Unit) → Option (Option Action)
body_behind ts = behind_colon ts >>= λ rest. body_at rest

abbrev pub headed_at : Opening × List (Terminal Unit) → Option LineItem
headed_at h = body_behind h.1 >>= λ body. Some (headed h.0 body)

unfoldable pub item_at : List (Terminal Unit) → Option LineItem
item_at ts = elim (header_at ts) [
  | Some h ↦ headed_at h
  | None ↦ (simple_at ts >>= λ act. Some (simple act))
]
