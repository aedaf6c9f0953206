-- The live selections of a task, and what is answered of them.
use Rattle.std.proofs.Common.{◌≡◌, ◌≢◌, ℕ, ◌<◌, List, length, ap, ◌∙◌, arith, subst, Result, Ok, Err, IfOk}
use Rattle.std.specs.Prelude.{AllPairs, min}
use Rattle.mpy_tree.specs.Shapes.{program_shape}
use Rattle.choice_tree.specs.declared.selection.Choice.{Choice}
use Rattle.choice_tree.specs.Contexts.{elsewhere, outermost}
use Rattle.choice_tree.specs.Growing.{grown, steps}
use Rattle.choice_tree.specs.WeightedTrees.{Weighted, numbered}
use Rattle.cost_levels.specs.Counts.{count_most}
use Rattle.cost_levels.specs.Levels.{level}
use Rattle.cost_levels.specs.Live.{LevelsRise}
use Rattle.input_space.specs.Tasks.{Task, setting, tree_of}
use Rattle.least_all.specs.declared.answer.Best.{Best}
use Rattle.least_all.specs.declared.answer.Best.TheVariants.{Listed, Many, Spent, NoMemory}
use Rattle.least_all.specs.Answers.{AreMany, IsAnswer, IsBestOf, live_at}
use Rattle.least_all.proofs.Stepping.{all_apart}

-- none stands twice
pub live_apart : ((u : Weighted) → LevelsRise (numbered u 0)) → (k : Task) (n : ℕ) → AllPairs (λ r s. r ≢ s) (live_at k n)
live_apart rise k n =
    let t = program_shape k.submission in
    all_apart (live_at k n) (rise (grown (setting k) (steps t) elsewhere (outermost (setting k)) t) n)

-- they are the level of the task's tree
pub live_are : (k : Task) (w : Weighted) (n : ℕ) (ss : List (List Choice)) → ss ≡ level w n → w ≡ tree_of k → ss ≡ live_at k n
live_are k w n ss is same = is ∙ ap (λ u. level u n) same

pub few_live : (k : Task) (w : Weighted) (n count : ℕ) → count ≡ min (length (level w n)) count_most → w ≡ tree_of k → count < count_most → AreMany k n → ⊥
few_live k w n count is same few many =
    let e : length (level w n) ≡ length (live_at k n) = ap (λ u. length (level u n)) same in omega arith

answer_is : (k : Task) (cost most budget : ℕ) (b : Best) → (AreMany k cost → ⊥) → IsAnswer k (live_at k cost) most budget b → IsBestOf k cost most budget b
answer_is k cost most budget (Listed picks whole) few is = (few, is)
answer_is k cost most budget Many few is = absurd is
answer_is k cost most budget (Spent sessions) few is = (few, is)
answer_is k cost most budget NoMemory few is = tt

pub best_is : {E : Type 0} (k : Task) (cost most budget : ℕ) (ss : List (List Choice)) (r : Result Best E) → ss ≡ live_at k cost → (AreMany k cost → ⊥)
    → IfOk r (IsAnswer k ss most budget) → IfOk r (IsBestOf k cost most budget)
best_is k cost most budget ss (Ok b) are few is = answer_is k cost most budget b few (subst (λ rs. IsAnswer k rs most budget b) are is)
best_is k cost most budget ss (Err e) are few is = tt
