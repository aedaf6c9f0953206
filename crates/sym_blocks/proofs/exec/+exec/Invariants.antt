use Rattle.std.proofs.Common.{◌≡◌, ◌≤◌, ◌+◌, ◌*◌, ℕ, Bool, List, [], ◌∷◌, Option, map, drop}
use Rattle.bit_words.specs.Logic.{Extends}
use Rattle.mpy_tree.specs.declared.value.Value.{Value}
use Rattle.mpy_tree.specs.Expressions.{Calls}
use Rattle.mpy_tree.specs.Shapes.{arms_shapes, last_shapes, statement_shapes}
use Rattle.mpy_tree.specs.Statements.{for_turns, run_block, while_turns, value_at}
use Rattle.mpy_tree.specs.Syntax.{Block, Branches, MaybeBlock, Term}
use Rattle.mpy_tree.specs.Values.{State}
use Rattle.choice_tree.specs.Selections.{plains}
use Rattle.choice_tree.specs.StatementViews.{arms_before, weighted_arm, weighted_arms, weighted_body, weighted_else, weighted_stmt}
use Rattle.choice_tree.specs.WeightedTrees.{nodes, nodes_in}
use Rattle.choice_tree.specs.WeightedViews.{weighted_of, weighteds}
use Rattle.sym_nodes.specs.Environments.{AllHavePicks}
use Rattle.sym_paths.specs.Endings.{HoldsOut, and_seen, see, seen_from}
use Rattle.sym_paths.specs.Paths.{HoldsPath, gone_way, reached, way}
use Rattle.sym_paths.specs.Slots.{slot_forms}
use Rattle.typed_trees.specs.TypedStatements.{AreTyped}
use Rattle.sym_blocks.specs.Bodies.{AreChosen, scope_in}
use Rattle.sym_blocks.specs.Runs.{IsPlainBlock, IsPlainIf, IsPlainLoop, run_if, run_while}
use Rattle.sym_blocks.specs.Turns.{ItemsRead}
use Rattle.sym_blocks.proofs.exec.+exec.Given as goal

abbrev pub decreases-exec_side : goal.decreases-exec_side
decreases-exec_side g l = 4 * nodes (weighted_body l.body.now) + 1

abbrev pub decreases-exec_live : goal.decreases-exec_live
decreases-exec_live g l = 4 * nodes (weighted_body l.body.now)

abbrev pub decreases-exec_stmt : goal.decreases-exec_stmt
decreases-exec_stmt g l = 4 * nodes (weighted_stmt l.s.now) + 1

abbrev pub decreases-exec_if : goal.decreases-exec_if
decreases-exec_if g l = 4 * nodes_in (arms_before (weighted_arms l.arms.now) (weighted_else l.last.now)) + 4

abbrev pub decreases-exec_arm : goal.decreases-exec_arm
decreases-exec_arm g l = 4 * nodes (weighted_arm l.arm.now)

abbrev pub decreases-exec_else : goal.decreases-exec_else
decreases-exec_else g l = 4 * nodes_in (weighted_else l.last.now) + 1

abbrev pub decreases-exec_while : goal.decreases-exec_while
decreases-exec_while g l = 4 * nodes (weighted_body l.body.now) + 2

abbrev pub decreases-exec_for : goal.decreases-exec_for
decreases-exec_for g l = 4 * nodes (weighted_body l.body.now) + 3

abbrev pub decreases-exec_items : goal.decreases-exec_items
decreases-exec_items g l = 4 * nodes (weighted_body l.body.now) + 2

abbrev pub decreases-exec_item : goal.decreases-exec_item
decreases-exec_item g l = 4 * nodes (weighted_body l.body.now) + 1

-- what led out so far, and what the statements that are left show, is what the body shows
abbrev pub invariant-exec_live-loop-s : goal.invariant-exec_live-loop-s
invariant-exec_live-loop-s g l =
    let reads = g.L.Logic.reads in
    let owns = g.L.Logic.owns in
    let run = l.run in
    let slots = run.slots.now in
    let functions = run.functions.now in
    let left = weighteds (map weighted_stmt (drop l.s-index l.s-items)) in
    record {
      extends : Extends owns reads g.L.Logic.count l.fn.g l.g;
      here : HoldsPath owns l.g (slot_forms slots) l.here;
      out : HoldsOut owns l.g slots l.out;
      typed : AreTyped (scope_in (g.C.Functions.signatures functions) run) left;
      picks : AllHavePicks run.picks.now left;
      value : (vs : List Bool) (m : ℕ → ℕ) (calls : Calls) (o : Option State) (b : Block)
          → AreChosen reads (g.C.Functions.are_calls functions) l.fn.g vs run m calls
          → gone_way slots (way (reads l.fn.g vs) l.fn.path ∷ []) ≡ reached o → IsPlainBlock (weighted_body l.body) m b
          → (n : Option State) × (r : Block) × (gone_way slots (way (reads l.g vs) l.here ∷ []) ≡ reached n) × (statement_shapes r ≡ plains m left)
          × (and_seen (see (reads l.g vs) slots l.out) (seen_from n (run_block slots.limits calls r)) ≡ seen_from o (run_block slots.limits calls b));
    }

-- the same of the arms that are left and what follows them
abbrev pub invariant-exec_if-loop-arm : goal.invariant-exec_if-loop-arm
invariant-exec_if-loop-arm g l =
    let reads = g.L.Logic.reads in
    let owns = g.L.Logic.owns in
    let run = l.run in
    let slots = run.slots.now in
    let functions = run.functions.now in
    let left = arms_before (map weighted_arm (drop l.arm-index l.arm-items)) (weighted_else l.last) in
    record {
      extends : Extends owns reads g.L.Logic.count l.fn.g l.g;
      here : HoldsPath owns l.g (slot_forms slots) l.here;
      out : HoldsOut owns l.g slots l.out;
      typed : AreTyped (scope_in (g.C.Functions.signatures functions) run) left;
      picks : AllHavePicks run.picks.now left;
      value : (vs : List Bool) (m : ℕ → ℕ) (calls : Calls) (o : Option State) (p : Branches × MaybeBlock)
          → AreChosen reads (g.C.Functions.are_calls functions) l.fn.g vs run m calls
          → gone_way slots (way (reads l.fn.g vs) l.fn.path ∷ []) ≡ reached o → IsPlainIf (weighted_arms l.arms) (weighted_else l.last) m p
          → (n : Option State) × (bs : Branches) × (gone_way slots (way (reads l.g vs) l.here ∷ []) ≡ reached n) × (arms_shapes bs (last_shapes p.1) ≡ plains m left)
          × (and_seen (see (reads l.g vs) slots l.out) (seen_from n (run_if slots.limits calls (bs, p.1))) ≡ seen_from o (run_if slots.limits calls p));
    }

-- the same of the turns that are left
abbrev pub invariant-exec_while-turns : goal.invariant-exec_while-turns
invariant-exec_while-turns g l =
    let reads = g.L.Logic.reads in
    let owns = g.L.Logic.owns in
    let run = l.run in
    let slots = run.slots.now in
    let functions = run.functions.now in
    record {
      extends : Extends owns reads g.L.Logic.count l.fn.g l.g;
      here : HoldsPath owns l.g (slot_forms slots) l.here;
      out : HoldsOut owns l.g slots l.out;
      value : (vs : List Bool) (m : ℕ → ℕ) (calls : Calls) (o : Option State) (line : ℕ) (p : Term × Block)
          → AreChosen reads (g.C.Functions.are_calls functions) l.fn.g vs run m calls
          → gone_way slots (way (reads l.fn.g vs) l.fn.path ∷ []) ≡ reached o → IsPlainLoop (weighted_of l.e) (weighted_body l.body) m p
          → (n : Option State) × (gone_way slots (way (reads l.g vs) l.here ∷ []) ≡ reached n)
          × (and_seen (see (reads l.g vs) slots l.out) (seen_from n (while_turns l.left (λ s. value_at slots.limits calls s line p.0) (run_block slots.limits calls p.1) line))
          ≡ seen_from o (run_while line slots.limits calls p));
    }

abbrev pub decreases-exec_while-turns : goal.decreases-exec_while-turns
decreases-exec_while-turns g l = l.left

-- the same of the items that are left
abbrev pub invariant-exec_items-items : goal.invariant-exec_items-items
invariant-exec_items-items g l =
    let reads = g.L.Logic.reads in
    let owns = g.L.Logic.owns in
    let run = l.run in
    let slots = run.slots.now in
    let functions = run.functions.now in
    let list = l.over.list.now in
    let name = l.over.name.now in
    record {
      extends : Extends owns reads g.L.Logic.count l.fn.g l.g;
      here : HoldsPath owns l.g (slot_forms slots) l.here;
      out : HoldsOut owns l.g slots l.out;
      place : l.place ≤ slots.limits.cap;
      value : (vs : List Bool) (m : ℕ → ℕ) (calls : Calls) (o : Option State) (b : Block) (ms : List Value) (line : ℕ)
          → AreChosen reads (g.C.Functions.are_calls functions) l.fn.g vs run m calls
          → gone_way slots (way (reads l.fn.g vs) l.fn.path ∷ []) ≡ reached o → ItemsRead (reads l.fn.g vs) list o ms → IsPlainBlock (weighted_body l.body) m b
          → (n : Option State) × (gone_way slots (way (reads l.g vs) l.here ∷ []) ≡ reached n) × ItemsRead (reads l.fn.g vs) list n ms
          × (and_seen (see (reads l.g vs) slots l.out) (seen_from n (for_turns (drop l.place ms) l.turns name (run_block slots.limits calls b) line))
          ≡ seen_from o (for_turns ms slots.limits.turns name (run_block slots.limits calls b) line));
    }

abbrev pub decreases-exec_items-items : goal.decreases-exec_items-items
decreases-exec_items-items g l = l.turns
