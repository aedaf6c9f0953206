-- What is seen after a statement, an arm and a turn, with what is left.
use Rattle.std.proofs.Common.{◌≡◌, ◌∙◌, ◌<◌, ◌-◌, ℕ, Option, Some, None, refl, sym, ap}
use Rattle.std.specs.declared.result.Result.{Result}
use Rattle.mpy_tree.specs.declared.limits.Limits.{Limits}
use Rattle.mpy_tree.specs.declared.outcome.Halted.{Halted}
use Rattle.mpy_tree.specs.declared.value.Value.{Value}
use Rattle.mpy_tree.specs.Expressions.{Calls}
use Rattle.mpy_tree.specs.Shapes.{arm_shape, block_shape, last_shapes, shape}
use Rattle.mpy_tree.specs.Statements.{Ran, Next, run_block, run_else, then_on, while_turns, value_at}
use Rattle.mpy_tree.specs.Syntax.{Block, Branch, Branches, MaybeBlock, Term, a_block, arm, arm_and, no_arms, no_block}
use Rattle.mpy_tree.specs.Trees as kind
use Rattle.mpy_tree.specs.Values.{State}
use Rattle.choice_tree.specs.declared.tree.WStmts.{WStmts}
use Rattle.choice_tree.specs.Selections.{plain, plains}
use Rattle.choice_tree.specs.StatementViews.{weighted_body, weighted_else}
use Rattle.choice_tree.specs.WeightedTrees.{Weighted, Weighteds, plainly}
use Rattle.choice_tree.specs.WeightedViews.{two}
use Rattle.sym_paths.specs.Endings.{Seen, and_seen, ended, nothing_seen, seen_from, turned}
use Rattle.sym_paths.specs.Sides.{misses, passes}
use Rattle.sym_paths.specs.Sights.{again, and_assoc, onward}
use Rattle.sym_paths.specs.Steps.{arm_step, block_step, last_turn, turn_more}
use Rattle.sym_blocks.specs.Runs.{run_arm, run_if, run_statement}
use Rattle.sym_blocks.proofs.Blocks.{FirstArm, FirstOf, block_step_is}

module _ (l : Limits) (calls : Calls) (m : ℕ → ℕ) where
  -- a statement, and those that are left
  pub statement_goes : (start out mid one whole : Seen) (n : Option State) (r : Block) (w : Weighted) (ws : Weighteds) (first : FirstOf m r w ws)
      → out ≡ and_seen mid (ended one) → mid ≡ start → one ≡ seen_from n (run_statement l calls first.first) → and_seen start (seen_from n (run_block l calls r)) ≡ whole
      → and_seen out (seen_from (onward n (run_statement l calls first.first)) (run_block l calls first.rest)) ≡ whole
  statement_goes start out mid one whole n r w ws first e f h k =
      let run = run_statement l calls first.first in
      let shown : out ≡ and_seen start (ended (seen_from n run)) = e ∙ (λ i. and_seen (f i) (ended (h i))) in
      let same : run_block l calls r ≡ (λ s. then_on (run s) (run_block l calls first.rest)) = ap (run_block l calls) first.is ∙ block_step_is l calls first.first first.rest in
      block_step start out n run (run_block l calls first.rest) shown ∙ ap (λ (f : State → Ran). and_seen start (seen_from n f)) (sym same) ∙ k

  if_is : (a : Branch) (rest : Branches) (last : MaybeBlock) → run_if l calls (arm_and a rest, last) ≡ run_arm l calls a (run_if l calls (rest, last))
  if_is (arm line t b) rest last = refl

  -- an arm, and those that are left
  pub arm_goes : (start out mid part whole : Seen) (n k : Option State) (bs : Branches) (last : MaybeBlock) (w : Weighted) (ws : Weighteds) (first : FirstArm m bs last w ws)
      → out ≡ and_seen mid part → mid ≡ start → ((rest : State → Ran) → and_seen part (seen_from k rest) ≡ seen_from n (run_arm l calls first.first rest))
      → and_seen start (seen_from n (run_if l calls (bs, last))) ≡ whole
      → and_seen out (seen_from k (run_if l calls (first.rest, last))) ≡ whole
  arm_goes start out mid part whole n k bs last w ws first e f h g =
      let rest = run_if l calls (first.rest, last) in
      let same : run_if l calls (bs, last) ≡ run_arm l calls first.first rest = ap (λ (x : Branches). run_if l calls (x, last)) first.is ∙ if_is first.first first.rest last in
      ap (λ (x : Seen). and_seen x (seen_from k rest)) (e ∙ ap (λ (x : Seen). and_seen x part) f)
      ∙ and_assoc start part (seen_from k rest) ∙ ap (and_seen start) (h rest)
      ∙ ap (λ (f : State → Ran). and_seen start (seen_from n f)) (sym same) ∙ g

  -- what follows where no test holds
  pub last_goes : (start out mid part whole : Seen) (n : Option State) (bs : Branches) (last : MaybeBlock) → bs ≡ no_arms
      → out ≡ and_seen mid part → mid ≡ start → part ≡ seen_from n (run_else l calls last) → and_seen start (seen_from n (run_if l calls (bs, last))) ≡ whole → out ≡ whole
  last_goes start out mid part whole n bs last none e f h g =
      e ∙ (λ i. and_seen (f i) (h i)) ∙ ap (λ (x : Branches). and_seen start (seen_from n (run_if l calls (x, last)))) (sym none) ∙ g

  -- the parts of an arm
  pub arm_parts : (a : Branch) (line : ℕ) (v b : Weighted) → arm_shape a ≡ plain m (plainly (kind.Arm line) (two v b))
      → (k : ℕ) × (t : Term) × (body : Block) × (shape t ≡ plain m v) × (block_shape body ≡ plain m b) × (a ≡ arm k t body)
  arm_parts (arm k t body) line v b e =
      let first : shape t ≡ plain m v = cc in
      let second : block_shape body ≡ plain m b = cc in
      (k, t, body, first, second, refl)

  pub one_arm : (a : Branch) (k : ℕ) (t : Term) (body : Block) (part : Seen) (o : Option State) (rest : State → Ran) → a ≡ arm k t body
      → part ≡ seen_from (passes o (λ s. value_at l calls s k t)) (run_block l calls body)
      → and_seen part (seen_from (misses o (λ s. value_at l calls s k t)) rest) ≡ seen_from o (run_arm l calls a rest)
  one_arm a k t body part o rest is e =
      arm_step nothing_seen part o (λ s. value_at l calls s k t) (run_block l calls body) rest e
      ∙ ap (λ (x : Branch). seen_from o (run_arm l calls x rest)) (sym is)

  pub else_none : (w : Option WStmts) (b : MaybeBlock) → w ≡ None → last_shapes b ≡ plains m (weighted_else w) → run_else l calls b ≡ Next
  else_none None no_block e h = refl
  else_none None (a_block body) e h = absurd cc
  else_none (Some x) b e h = absurd cc

  pub else_some : (w : Option WStmts) (x : WStmts) (b : MaybeBlock) → w ≡ Some x → last_shapes b ≡ plains m (weighted_else w)
      → (body : Block) × (block_shape body ≡ plain m (weighted_body x)) × (run_else l calls b ≡ run_block l calls body)
  else_some None x b e h = absurd cc
  else_some (Some y) x no_block e h = absurd cc
  else_some (Some y) x (a_block body) e h =
      let first : block_shape body ≡ plain m (weighted_body y) = cc in
      let same : y ≡ x = cc in
      (body, first ∙ ap (λ (z : WStmts). plain m (weighted_body z)) same, refl)

-- a turn, and those that are left
pub turn_goes : (start left out mid one whole : Seen) (n : Option State) (test : State → Result Value Halted) (body : State → Ran) (k line : ℕ) → 0 < k
    → left ≡ and_seen start (seen_from (misses n test) Next) → out ≡ and_seen mid (turned one) → mid ≡ left → one ≡ seen_from (passes n test) body
    → and_seen start (seen_from n (while_turns k test body line)) ≡ whole
    → and_seen out (seen_from (again (passes n test) body) (while_turns (k - 1) test body line)) ≡ whole
turn_goes start left out mid one whole n test body k line some a e f h g =
    let shown : out ≡ and_seen (and_seen start (seen_from (misses n test) Next)) (turned (seen_from (passes n test) body)) = e ∙ (λ i. and_seen (f i) (turned (h i))) ∙ ap (λ (x : Seen). and_seen x (turned (seen_from (passes n test) body))) a in
    turn_more start out n test body k line some shown ∙ g

-- where no turn is left
pub last_turn_goes : (start left whole : Seen) (n : Option State) (test : State → Result Value Halted) (body : State → Ran) (k line : ℕ) → k ≡ 0
    → left ≡ and_seen start (seen_from (misses n test) Next) → and_seen start (seen_from n (while_turns k test body line)) ≡ whole → left ≡ whole
last_turn_goes start left whole n test body k line none a g =
    last_turn start left n test body line a ∙ ap (λ (i : ℕ). and_seen start (seen_from n (while_turns i test body line))) (sym none) ∙ g
