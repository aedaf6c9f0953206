-- The plain things of which a weighted statement stands, and how they run.
use Rattle.std.specs.Prelude.{◌≡◌, ℕ, List, Some}
use Rattle.mpy_tree.specs.declared.limits.Limits.{Limits}
use Rattle.mpy_tree.specs.declared.operators.ArithOp.{ArithOp}
use Rattle.mpy_tree.specs.Expressions.{Calls}
use Rattle.mpy_tree.specs.Operations.{append, arith, members}
use Rattle.mpy_tree.specs.Shapes.{shape, statement_shape, block_shape, arms_shapes, arm_shape}
use Rattle.mpy_tree.specs.Shapes.{last_shapes, shape_and}
use Rattle.mpy_tree.specs.Statements.{Ran, Returned, give, given, printed, store, set_at, value_at}
use Rattle.mpy_tree.specs.Statements.{set_at_by, set_by}
use Rattle.mpy_tree.specs.Statements.{while_turns, for_turns, run_action, run_arms, run_block}
use Rattle.mpy_tree.specs.Statements.{run_else, tested}
use Rattle.mpy_tree.specs.Syntax.{Term, Statement, at, Block, Branch, Branches, MaybeBlock}
use Rattle.mpy_tree.specs.Syntax.{MaybeTerm, arm}
use Rattle.mpy_tree.specs.Trees.{no_trees}
use Rattle.mpy_tree.specs.Values.{◌>>=◌, State, on_line}
use Rattle.choice_tree.specs.Selections.{plain, plains}
use Rattle.choice_tree.specs.StatementViews.{arms_before}
use Rattle.choice_tree.specs.WeightedTrees.{Weighted, Weighteds}

-- things that are those of weighted trees under the members that are chosen
abbrev pub IsPlainTerm : Weighted → (ℕ → ℕ) → Term → Type 0
IsPlainTerm w m t = shape t ≡ plain m w

-- an expression that may be missing
abbrev pub IsPlainMaybe : Weighteds → (ℕ → ℕ) → MaybeTerm → Type 0
IsPlainMaybe ws m t = shape_and t no_trees ≡ plains m ws

abbrev pub ArePlainTerms : Weighted → Weighted → (ℕ → ℕ) → Term × Term → Type 0
ArePlainTerms v w m p = (shape p.0 ≡ plain m v) × (shape p.1 ≡ plain m w)

abbrev pub IsPlainBlock : Weighted → (ℕ → ℕ) → Block → Type 0
IsPlainBlock w m b = block_shape b ≡ plain m w

abbrev pub IsPlainStatement : Weighted → (ℕ → ℕ) → Statement → Type 0
IsPlainStatement w m a = statement_shape a ≡ plain m w

abbrev pub IsPlainElse : Weighteds → (ℕ → ℕ) → MaybeBlock → Type 0
IsPlainElse ws m b = last_shapes b ≡ plains m ws

-- the arms of an `if` and its last body
abbrev pub IsPlainIf : List Weighted → Weighteds → (ℕ → ℕ) → Branches × MaybeBlock → Type 0
IsPlainIf arms last m p =
    arms_shapes p.0 (last_shapes p.1) ≡ plains m (arms_before arms last)

-- an expression and a body
abbrev pub IsPlainLoop : Weighted → Weighted → (ℕ → ℕ) → Term × Block → Type 0
IsPlainLoop v w m p = (shape p.0 ≡ plain m v) × (block_shape p.1 ≡ plain m w)

module _ (l : Limits) (calls : Calls) where
  abbrev pub run_statement : Statement → State → Ran
  run_statement (at line act) = run_action l calls act line

  -- one arm, before what runs where its test doesn't hold
  abbrev pub run_arm : Branch → (State → Ran) → State → Ran
  run_arm (arm line e body) other s =
      tested (value_at l calls s line e) (run_block l calls body s) (other s)

  abbrev pub run_if : Branches × MaybeBlock → State → Ran
  run_if p s = run_arms l calls p.0 (run_else l calls p.1 s) s

-- statements on a line
module _ (line : ℕ) where
  abbrev pub run_assign : List ℕ → Limits → Calls → Term → State → Ran
  run_assign x l calls t s = store s x (value_at l calls s line t)

  abbrev pub run_augment : List ℕ → ArithOp → Limits → Calls → Term → State → Ran
  run_augment x op l calls t s = store s x (set_by l calls s line x (arith l op) t)

  abbrev pub run_append : List ℕ → Limits → Calls → Term → State → Ran
  run_append x l calls t s = store s x (set_by l calls s line x (append l) t)

  -- an index and a value
  abbrev pub run_put : List ℕ → Limits → Calls → Term × Term → State → Ran
  run_put x l calls p s = store s x (set_at l calls s line x p.0 p.1)

  abbrev pub run_augment_at : List ℕ → ArithOp → Limits → Calls → Term × Term → State → Ran
  run_augment_at x op l calls p s =
      store s x (set_at_by l calls s line x p.0 (arith l op) p.1)

  abbrev pub run_print : Limits → Calls → Term → State → Ran
  run_print l calls t s = given (value_at l calls s line t) (printed l.prints line s)

  abbrev pub run_return : Limits → Calls → Term → State → Ran
  run_return l calls t s = given (value_at l calls s line t) (λ v. Returned (Some v) s)

  abbrev pub run_give : Limits → Calls → MaybeTerm → State → Ran
  run_give l calls t s = give l calls s line t

  -- a test and a body
  abbrev pub run_while : Limits → Calls → Term × Block → State → Ran
  run_while l calls p =
      while_turns l.turns (λ s. value_at l calls s line p.0) (run_block l calls p.1) line

  -- what is gone over, and a body
  abbrev pub run_for : List ℕ → Limits → Calls → Term × Block → State → Ran
  run_for x l calls p s =
      given (value_at l calls s line p.0 >>= λ v. on_line line (members v))
      (λ vs. for_turns vs l.turns x (run_block l calls p.1) line s)

-- a thing of a kind, and a line, by which it is a run
pub record IsRunOf {A : Type 0} (IsPlain : A → Type 0) (runs : ℕ → A → State → Ran)
    (run : State → Ran) : Type 0 where
  pub line : ℕ
  pub part : A
  pub plain : IsPlain part
  pub same : run ≡ runs line part
