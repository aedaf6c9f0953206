-- A draft without a part that is rewritten again is the term as it is written.
use Rattle.std.proofs.Common.{◌≡◌, ℕ, suc, Bool, true, false, if◌then◌else◌, refl, ap, ◌∙◌}
use Rattle.mpy_tree.specs.Trees.{Kind, Tree, Trees, node, no_trees, tree_and}
use Rattle.choice_tree.specs.Typing.{copy_of}
use Rattle.choice_tree.specs.Contexts.{Setting, Context, below, copies}
use Rattle.choice_tree.specs.Drafts.{draft_of, drafts_of, filled, filled_all}
use Rattle.choice_tree.specs.Rewriting.{written, written_all}
use Rattle.choice_tree.specs.WeightedTrees.{Weighteds, plainly, weighted_and, lifted}
use Rattle.choice_tree.specs.WeightedTrees.{lifted_all}
use Rattle.choice_tree.specs.Growing.{Growing, draft_grown, drafts_grown}

mutual
  filled_is : (t : Tree) → filled (draft_of t) ≡ t
  filled_is (node k ts) = ap (node k) (filled_are ts)

  filled_are : (ts : Trees) → filled_all (drafts_of ts) ≡ ts
  filled_are no_trees = refl
  filled_are (tree_and t ts) = λ i. tree_and (filled_is t i) (filled_are ts i)

either_lifted : (b : Bool) (t u : Tree)
    → (if b then lifted t else lifted u) ≡ lifted (if b then t else u)
either_lifted true t u = refl
either_lifted false t u = refl

either_way : (c : Context) (k : Kind) (ts us : Trees) (ws : Weighteds) (vs : Trees) → us ≡ ts
    → ws ≡ lifted_all vs
    → (if copies c (node k us) then lifted (copy_of (node k us)) else plainly k ws)
    ≡ lifted (if copies c (node k ts) then copy_of (node k ts) else node k vs)
either_way c k ts us ws vs e h =
    (λ i. if copies c (node k (e i)) then lifted (copy_of (node k (e i))) else plainly k (h i))
    ∙ either_lifted (copies c (node k ts)) (copy_of (node k ts)) (node k vs)

mutual
  pub as_it_stands : (g : Setting) (grow : Growing) (t : Tree) (c : Context)
      → draft_grown g grow (draft_of t) c ≡ lifted (written g t c)
  as_it_stands g grow (node k ts) c =
      either_way c k ts (filled_all (drafts_of ts)) (drafts_grown g grow (drafts_of ts) k 0 c)
      (written_all g ts k 0 c) (filled_are ts) (all_as_they_stand g grow ts k 0 c)

  all_as_they_stand : (g : Setting) (grow : Growing) (ts : Trees) (k : Kind) (i : ℕ) (c : Context)
      → drafts_grown g grow (drafts_of ts) k i c ≡ lifted_all (written_all g ts k i c)
  all_as_they_stand g grow no_trees k i c = refl
  all_as_they_stand g grow (tree_and t ts) k i c =
      λ j. weighted_and (as_it_stands g grow t (below g k i c) j)
      (all_as_they_stand g grow ts k (suc i) c j)
