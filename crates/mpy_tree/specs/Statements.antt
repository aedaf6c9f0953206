-- What a statement does to a state.
use Rattle.std.specs.Prelude.{ℕ, zero, suc, List, [], ◌∷◌, ◌++◌, length, Option, Some, None}
use Rattle.std.specs.Prelude.{nat_lt, if◌then◌else◌}
use Rattle.std.specs.declared.result.Result.{Result}
use Rattle.std.specs.declared.result.Result.TheVariants.{Ok, Err}
use Rattle.mpy_tree.specs.declared.limits.Limits.{Limits}
use Rattle.mpy_tree.specs.declared.value.Value.{Value}
use Rattle.mpy_tree.specs.Syntax.{Term, MaybeTerm, no_term, a_term, at, Action, Block, end, step}
use Rattle.mpy_tree.specs.Syntax.{MaybeBlock, no_block, a_block, arm, Branches, no_arms, arm_and}
use Rattle.mpy_tree.specs.Syntax as ast
use Rattle.mpy_tree.specs.declared.outcome.FaultKind.TheVariants.{Turns, Length, NoValue}
use Rattle.mpy_tree.specs.declared.outcome.Halt.{Halt}
use Rattle.mpy_tree.specs.declared.outcome.Halted.{Halted}
use Rattle.mpy_tree.specs.Values.{◌>>=◌, fault, on_line, Locals, State, assign}
use Rattle.mpy_tree.specs.Values.{set_or_fault}
use Rattle.mpy_tree.specs.Operations.{arith, holds, index, put, append, members}
use Rattle.mpy_tree.specs.Expressions.{Calls, value_of}

-- how statements end
pub data Ran : Type 0 where
  Next : (s : State) → Ran
  Broke : (s : State) → Ran
  Continued : (s : State) → Ran
  Returned : (v : Option Value) (s : State) → Ran
  Failed : (h : Halted) → Ran

-- goes on with a value, or ends without one
abbrev pub given : {A : Type 0} → Result A Halted → (A → Ran) → Ran
given (Ok a) k = k a
given (Err h) k = Failed h

-- the next statement, where one ran to its end
abbrev pub then_on : Ran → (State → Ran) → Ran
then_on (Next s) k = k s
then_on (Broke s) k = Broke s
then_on (Continued s) k = Continued s
then_on (Returned v s) k = Returned v s
then_on (Failed h) k = Failed h

-- the next turn of a loop
abbrev pub then_turn : Ran → (State → Ran) → Ran
then_turn (Next s) k = k s
then_turn (Broke s) k = Next s
then_turn (Continued s) k = k s
then_turn (Returned v s) k = Returned v s
then_turn (Failed h) k = Failed h

-- a local is set to what was computed
abbrev pub store : State → List ℕ → Result Value Halted → Ran
store s x r = given r (λ v. Next (assign s x v))

-- goes on by the value of a test
abbrev pub tested : Result Value Halted → Ran → Ran → Ran
tested (Ok v) here other = if holds v then here else other
tested (Err h) here other = Failed h

-- a `while` on a line, with so many turns left; its test is evaluated before each turn
abbrev pub while_turns : ℕ → (State → Result Value Halted) → (State → Ran) → ℕ → State → Ran
while_turns zero test body line s = tested (test s) (Failed (fault Turns line)) (Next s)
while_turns (suc n) test body line s =
    tested (test s) (then_turn (body s) (while_turns n test body line)) (Next s)

-- a `for` on a line, with so many turns left
abbrev pub for_turns : List Value → ℕ → List ℕ → (State → Ran) → ℕ → State → Ran
for_turns [] n x body line s = Next s
for_turns (v ∷ vs) zero x body line s = Failed (fault Turns line)
for_turns (v ∷ vs) (suc n) x body line s =
    then_turn (body (assign s x v)) (for_turns vs n x body line)

-- a value behind those that are kept, of which there may be so many
abbrev pub kept_behind : ℕ → ℕ → Locals → List Value → Value → Ran
kept_behind most line s vs v =
    if nat_lt (length vs) most then Next (record { locals = s; printed = Some (vs ++ v ∷ []) })
    else Failed (fault Length line)

-- where nothing is kept, the value is dropped
abbrev pub kept_in : ℕ → ℕ → State → Option (List Value) → Value → Ran
kept_in most line s None v = Next s
kept_in most line s (Some vs) v = kept_behind most line s.locals vs v

-- what a statement on a line does with a value that it prints, where so many may be kept
abbrev pub printed : ℕ → ℕ → State → Value → Ran
printed most line s v = kept_in most line s s.printed v

-- `return` alone: it ends a run whose printed values are kept, and is else a fault
abbrev pub ended_by : ℕ → State → Option (List Value) → Ran
ended_by line s None = Failed (fault NoValue line)
ended_by line s (Some vs) = Returned None s

module _ (l : Limits) (calls : Calls) where
  -- an expression, and a local, in a statement on a line
  abbrev pub value_at : State → ℕ → Term → Result Value Halted
  value_at s line e = value_of l calls s.locals line e

  abbrev pub local_at : State → ℕ → List ℕ → Result Value Halted
  local_at s line x = on_line line (set_or_fault (s.locals x))

  -- x op= e
  abbrev pub set_by : State → ℕ → List ℕ → (Value → Value → Result Value Halt) → Term
      → Result Value Halted
  set_by s line x op e = do
    v ← local_at s line x
    w ← value_at s line e
    on_line line (op v w)

  -- x[i] = e
  abbrev pub set_at : State → ℕ → List ℕ → Term → Term → Result Value Halted
  set_at s line x i e = do
    w ← value_at s line e
    v ← local_at s line x
    k ← value_at s line i
    on_line line (put v k w)

  -- x[i] op= e
  abbrev pub set_at_by : State → ℕ → List ℕ → Term → (Value → Value → Result Value Halt) → Term
      → Result Value Halted
  set_at_by s line x i op e = do
    v ← local_at s line x
    k ← value_at s line i
    old ← on_line line (index v k)
    w ← value_at s line e
    new ← on_line line (op old w)
    on_line line (put v k new)

  abbrev pub give : State → ℕ → MaybeTerm → Ran
  give s line no_term = ended_by line s s.printed
  give s line (a_term e) = given (value_at s line e) (λ v. Returned (Some v) s)

  abbrev mutual
    pub run_block : Block → State → Ran
    run_block end s = Next s
    run_block (step (at line act) rest) s = then_on (run_action act line s) (run_block rest)

    pub run_action : Action → ℕ → State → Ran
    run_action (ast.Assign x e) line s = store s x (value_at s line e)
    run_action (ast.Augment x op e) line s = store s x (set_by s line x (arith l op) e)
    run_action (ast.Put x i e) line s = store s x (set_at s line x i e)
    run_action (ast.AugmentAt x i op e) line s = store s x (set_at_by s line x i (arith l op) e)
    run_action (ast.Append x e) line s = store s x (set_by s line x (append l) e)
    run_action (ast.Print e) line s = given (value_at s line e) (printed l.prints line s)
    run_action (ast.Return e) line s = give s line e
    run_action ast.Pass line s = Next s
    run_action ast.Break line s = Broke s
    run_action ast.Continue line s = Continued s
    run_action (ast.If arms last) line s = run_arms arms (run_else last s) s
    run_action (ast.While e body) line s =
        while_turns l.turns (λ s. value_at s line e) (run_block body) line s
    run_action (ast.For x e body) line s =
        given (value_at s line e >>= λ v. on_line line (members v))
        (λ vs. for_turns vs l.turns x (run_block body) line s)

    -- the first arm whose test holds, or else what the last body gives
    pub run_arms : Branches → Ran → State → Ran
    run_arms no_arms other s = other
    run_arms (arm_and (arm line e body) rest) other s =
        tested (value_at s line e) (run_block body s) (run_arms rest other s)

    pub run_else : MaybeBlock → State → Ran
    run_else no_block s = Next s
    run_else (a_block body) s = run_block body s
