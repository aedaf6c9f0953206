-- The steps of the induction over a body: one statement, one arm of an `if` and one turn of a
-- `while`, seen from the ways that lead out of them.
--
-- In each, `x` is what is seen of what came before, `o` the state that is reached then, and `y`
-- what is seen with the step's own ways out. What is left then shows the rest of the whole.
use Rattle.std.specs.Prelude.{◌≡◌, ◌<◌, ◌-◌, ℕ, zero, suc, Option, refl}
use Rattle.std.proofs.Common.{◌∙◌, ap, sym, arith}
use Rattle.std.specs.declared.result.Result.{Result}
use Rattle.mpy_tree.specs.declared.value.Value.{Value}
use Rattle.mpy_tree.specs.declared.outcome.Halted.{Halted}
use Rattle.mpy_tree.specs.declared.outcome.FaultKind.TheVariants.{Turns}
use Rattle.mpy_tree.specs.Values.{State, fault}
use Rattle.mpy_tree.specs.Statements.{Ran, Next, Failed, then_on, then_turn, tested, while_turns}
use Rattle.sym_paths.specs.Endings.{Seen, seen_from, and_seen, ended, turned}
use Rattle.sym_paths.specs.Sights.{and_assoc, and_nothing, onward, again, on_is, turn_is}
use Rattle.sym_paths.specs.Sights.{halt_shows}
use Rattle.sym_paths.specs.Sides.{passes, misses, sides, sides_turned}

-- a statement, and those after it
pub block_step : (x y : Seen) (o : Option State) (run after : State → Ran)
    → y ≡ and_seen x (ended (seen_from o run))
    → and_seen y (seen_from (onward o run) after)
    ≡ and_seen x (seen_from o (λ s. then_on (run s) after))
block_step x y o run after e =
    ap (λ (z : Seen). and_seen z (seen_from (onward o run) after)) e
    ∙ and_assoc x (ended (seen_from o run)) (seen_from (onward o run) after)
    ∙ ap (and_seen x) (on_is o run after)

-- an arm, and what runs where its test doesn't hold
pub arm_step : (x y : Seen) (o : Option State) (test : State → Result Value Halted)
    (body rest : State → Ran)
    → y ≡ and_seen x (seen_from (passes o test) body)
    → and_seen y (seen_from (misses o test) rest)
    ≡ and_seen x (seen_from o (λ s. tested (test s) (body s) (rest s)))
arm_step x y o test body rest e =
    ap (λ (z : Seen). and_seen z (seen_from (misses o test) rest)) e
    ∙ and_assoc x (seen_from (passes o test) body) (seen_from (misses o test) rest)
    ∙ ap (and_seen x) (sides o test body rest)

-- a turn of a `while`, and those after it
pub turn_step : (x y : Seen) (o : Option State) (test : State → Result Value Halted)
    (body : State → Ran) (n line : ℕ)
    → y ≡ and_seen (and_seen x (seen_from (misses o test) Next))
    (turned (seen_from (passes o test) body))
    → and_seen y (seen_from (again (passes o test) body) (while_turns n test body line))
    ≡ and_seen x (seen_from o (while_turns (suc n) test body line))
turn_step x y o test body n line e =
    let leave = seen_from (misses o test) Next in
    let turn = turned (seen_from (passes o test) body) in
    let rest = seen_from (again (passes o test) body) (while_turns n test body line) in
    ap (λ (z : Seen). and_seen z rest) e
    ∙ and_assoc (and_seen x leave) turn rest
    ∙ ap (and_seen (and_seen x leave)) (turn_is (passes o test) body (while_turns n test body line))
    ∙ and_assoc x leave
    (seen_from (passes o test) (λ s. then_turn (body s) (while_turns n test body line)))
    ∙ ap (and_seen x)
    (sides_turned o test (λ s. then_turn (body s) (while_turns n test body line)) Next)

-- the same, by how many turns are left
pub turn_more : (x y : Seen) (o : Option State) (test : State → Result Value Halted)
    (body : State → Ran) (n line : ℕ) → 0 < n
    → y ≡ and_seen (and_seen x (seen_from (misses o test) Next))
    (turned (seen_from (passes o test) body))
    → and_seen y (seen_from (again (passes o test) body) (while_turns (n - 1) test body line))
    ≡ and_seen x (seen_from o (while_turns n test body line))
turn_more x y o test body zero line h e = absurd (omega arith)
turn_more x y o test body (suc n) line h e =
    let same : suc n - 1 ≡ n = omega arith in
    let next = again (passes o test) body in
    ap (λ (m : ℕ). and_seen y (seen_from next (while_turns m test body line))) same
    ∙ turn_step x y o test body n line e

-- the test of a `while` after its last turn: where it holds there is Turns
pub last_turn : (x y : Seen) (o : Option State) (test : State → Result Value Halted)
    (body : State → Ran) (line : ℕ)
    → y ≡ and_seen x (seen_from (misses o test) Next)
    → y ≡ and_seen x (seen_from o (while_turns 0 test body line))
last_turn x y o test body line e =
    let leave = seen_from (misses o test) Next in
    let halt = λ (s : State). Failed (fault Turns line) in
    e ∙ ap (and_seen x) (sym (and_nothing leave)
    ∙ ap (and_seen leave) (halt_shows (passes o test) halt (λ s. refl))
    ∙ sides_turned o test halt Next)
