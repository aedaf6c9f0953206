-- What is left of the size, and the number of the next pick, while weighted trees are built.
use Rattle.std.specs.Prelude.{◌≡◌, ℕ, ◌+◌, ◌<◌, map, Result}
use Rattle.std.specs.declared.result.Result.TheVariants.{Ok, Err}
use Rattle.std.specs.declared.vec.Vec.{Vec}
use Rattle.std.specs.declared.alloc.Global.{Global}
use Rattle.choice_tree.specs.declared.tree.WExpr.{WExpr}
use Rattle.choice_tree.specs.WeightedTrees.{Weighted, Weighteds, Others, size, sizes, other_sizes}
use Rattle.choice_tree.specs.WeightedTrees.{picks, picks_in, picks_in_others, numbered}
use Rattle.choice_tree.specs.WeightedTrees.{numbered_all, numbered_others}
use Rattle.choice_tree.specs.WeightedViews.{weighted_of, weighteds}
use Rattle.eml_rewrite.specs.declared.counter.Counter.{Counter}
use Rattle.eml_rewrite.specs.declared.error.RewriteError.{RewriteError}
use Rattle.eml_rewrite.specs.declared.error.RewriteError.TheVariants as stop

-- the numbers and the size that were taken
pub record Took (old new : Counter) (picks size : ℕ) : Type 0 where
  pub next : new.next ≡ old.next + picks
  pub left : old.left ≡ new.left + size

-- The tree was built, with its picks numbered from the next number on; or it is larger than what
-- was left.
abbrev pub Built :
    {A : Type 0} → (A → Weighted) → Result A RewriteError → Weighted → Counter → Counter → Type 0
Built view (Ok a) tree old new =
    (view a ≡ numbered tree old.next) × Took old new (picks tree) (size tree)
Built view (Err stop.Large) tree old new = old.left < size tree
Built view (Err stop.NoMemory) tree old new = Unit {0}

-- the same of trees one after another
abbrev pub BuiltAll :
    {A : Type 0} → (A → Weighteds) → Result A RewriteError → Weighteds → Counter → Counter → Type 0
BuiltAll view (Ok a) trees old new =
    (view a ≡ numbered_all trees old.next) × Took old new (picks_in trees) (sizes trees)
BuiltAll view (Err stop.Large) trees old new = old.left < sizes trees
BuiltAll view (Err stop.NoMemory) trees old new = Unit {0}

-- and of the members of a pick
abbrev pub BuiltOthers :
    {A : Type 0} → (A → Others) → Result A RewriteError → Others → Counter → Counter → Type 0
BuiltOthers view (Ok a) os old new =
    (view a ≡ numbered_others os old.next)
    × Took old new (picks_in_others os) (other_sizes os)
BuiltOthers view (Err stop.Large) os old new = old.left < other_sizes os
BuiltOthers view (Err stop.NoMemory) os old new = Unit {0}

-- the trees of expressions in a list
abbrev pub parts_of : Vec WExpr Global → Weighteds
parts_of v = weighteds (map weighted_of v.items)
