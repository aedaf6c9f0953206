-- The live selections of a task fit its tree, and so do the best.
use Rattle.std.proofs.Common.{ℕ, Bool, List, [], ◌∷◌, get_or}
use Rattle.std.specs.Prelude.{All, filter, not, take}
use Rattle.std.proofs.lemmas.List.Elements.{All-cons, All-filter, All-head, All-nil, All-tail, All-take, Contains-get_or}
use Rattle.mpy_tree.specs.Shapes.{program_shape}
use Rattle.choice_tree.specs.Contexts.{elsewhere, outermost}
use Rattle.choice_tree.specs.Growing.{grown, steps}
use Rattle.choice_tree.specs.Selections.{Fits}
use Rattle.cost_levels.specs.Levels.{AreLevels}
use Rattle.cost_levels.proofs.Levelled.{are_levels}
use Rattle.input_space.specs.Tasks.{Task, setting, tree_of}
use Rattle.least_all.specs.Answers.{live_at}
use Rattle.least_all.specs.BestLists.{Tests, best_of, firsts}

-- a task's tree has levels
pub levels : (k : Task) → AreLevels (tree_of k)
levels k = let t = program_shape k.submission in are_levels (grown (setting k) (steps t) elsewhere (outermost (setting k)) t)

pub live_fit : (k : Task) (n : ℕ) → All (Fits (tree_of k)) (live_at k n)
live_fit k n = λ i d within. (levels k).each_fits n (get_or (live_at k n) i d) (Contains-get_or (live_at k n) i d within)

-- what holds of each holds of those that are kept
all_firsts : {A : Type 0} (P : A → Type 0) (same : A → A → Bool) (xs : List A) → All P xs → All P (firsts same xs)
all_firsts P same [] all = All-nil P
all_firsts P same (x ∷ xs) all =
    All-cons P x (filter (λ y. not (same x y)) (firsts same xs)) (All-head P x xs all)
    (All-filter (λ y. not (same x y)) P (firsts same xs) (all_firsts P same xs (All-tail P x xs all)))

pub best_fit : (k : Task) (n most : ℕ) (t : Tests) → All (Fits (tree_of k)) (take most (best_of t (live_at k n)))
best_fit k n most t =
    let P = Fits (tree_of k) in
    All-take P most (best_of t (live_at k n))
    (all_firsts P t.same (filter t.agrees (live_at k n)) (All-filter t.agrees P (live_at k n) (live_fit k n)))
