-- The parts of which the weight of a node is made, as the code takes them one after another.
use Rattle.std.specs.Prelude.{ℕ, ◌+◌, ◌*◌, Bool, true, false, if◌then◌else◌, List, Option, Some}
use Rattle.std.specs.Prelude.{None}
use denote.Ref.{Bor}
use Rattle.mpy_tree.specs.declared.limits.Limits.{Limits}
use Rattle.mpy_tree.specs.Trees as kind
use Rattle.choice_tree.specs.Selections.{count_others}
use Rattle.choice_tree.specs.StatementViews.{weighted_body}
use Rattle.choice_tree.specs.WeightedTrees.{Weighted, plainly, pick, no_weighted, weighted_and}
use Rattle.choice_tree.specs.WeightedViews.{weighted_of}
use Rattle.tree_weights.specs.RootTypes.{WeightedScope, type_at}
use Rattle.tree_weights.specs.Weights.{Bodies, called_weight, own_weight, pick_weight}
use Rattle.tree_weights.specs.declared.loops.Loop.{Loop}

-- a node itself
abbrev pub root_weight : Limits → WeightedScope → Weighted → ℕ
root_weight l σ (plainly k ws) = own_weight l σ k ws
root_weight l σ (pick number base os) = pick_weight l (type_at σ base) (count_others os)

-- the body that it runs, if it is a call
abbrev pub run_weight : Bodies → Weighted → ℕ
run_weight bodies (plainly k ws) = called_weight bodies k
run_weight bodies (pick number base os) = 0

-- the body of the function that is called by a name, if one is
abbrev pub called_by : Bodies → Option (Bor (List ℕ)) → ℕ
called_by bodies None = 0
called_by bodies (Some f) = bodies f.now

-- a loop, taken apart: its test or its list, whether that is done before each turn, and its body
pub record LoopForm : Type 0 where
  pub head : Weighted
  pub again : Bool
  pub body : Weighted

abbrev pub own_loop : Weighted → Option LoopForm
own_loop (plainly (kind.While line) (weighted_and t (weighted_and b no_weighted))) =
    Some (record { head = t; again = true; body = b })
own_loop (plainly (kind.For line x) (weighted_and e (weighted_and b no_weighted))) =
    Some (record { head = e; again = false; body = b })
own_loop _ = None

abbrev pub loop_seen : Loop → LoopForm
loop_seen r =
    record { head = weighted_of r.head.now; again = r.again; body = weighted_body r.body.now }

-- the parts of a loop whose head and body weigh so much
abbrev pub loop_weight : Limits → ℕ → Bool → ℕ → ℕ → ℕ
loop_weight l step again head body =
    head + l.turns * (step + (if again then head else 0) + body)
