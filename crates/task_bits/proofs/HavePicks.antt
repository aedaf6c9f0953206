-- The picks of a tree have numbers below their number.
use Rattle.std.proofs.Common.{◌≡◌, ℕ, suc, ◌+◌, ◌≤◌, Bool, List, [], ◌∷◌, length, arith, refl}
use Rattle.mpy_tree.specs.Shapes.{program_shape}
use Rattle.mpy_tree.specs.Syntax.{Routine}
use Rattle.mpy_tree.specs.Trees.{Tree, Trees, node, no_trees, tree_and}
use Rattle.choice_tree.specs.Contexts.{Setting, elsewhere, outermost}
use Rattle.choice_tree.specs.Growing.{grown, steps, weighted_program}
use Rattle.choice_tree.specs.WeightedTrees.{Weighted, Weighteds, Others, plainly, pick, no_weighted}
use Rattle.choice_tree.specs.WeightedTrees.{weighted_and, no_others, other_and, lifted, lifted_all}
use Rattle.choice_tree.specs.WeightedTrees.{numbered, numbered_all, numbered_others, picks}
use Rattle.choice_tree.specs.WeightedTrees.{picks_in, picks_in_others}
use Rattle.sym_nodes.specs.Environments.{AllHavePicks, HasPicks, OthersHavePicks, PicksRead}

-- numbers change no number of picks
mutual
  picks_numbered : (w : Weighted) (from : ℕ) → picks (numbered w from) ≡ picks w
  picks_numbered (plainly k ws) from = parts_numbered ws from
  picks_numbered (pick number base os) from =
      let one = picks_numbered base (suc from) in
      let rest = others_numbered os (suc from + picks base) in
      λ i. suc (one i + rest i)

  parts_numbered : (ws : Weighteds) (from : ℕ) → picks_in (numbered_all ws from) ≡ picks_in ws
  parts_numbered no_weighted from = refl
  parts_numbered (weighted_and w ws) from =
      let one = picks_numbered w from in
      let rest = parts_numbered ws (from + picks w) in
      λ i. one i + rest i

  others_numbered : (os : Others) (from : ℕ)
      → picks_in_others (numbered_others os from) ≡ picks_in_others os
  others_numbered no_others from = refl
  others_numbered (other_and rule cost w os) from =
      let one = picks_numbered w from in
      let rest = others_numbered os (from + picks w) in
      λ i. one i + rest i

module _ {B : Type 0} (ps : List (List B)) where
  -- a tree without picks
  mutual
    pub lifted_has : (t : Tree) → HasPicks ps (lifted t)
    lifted_has (node k ts) = lifted_have ts

    lifted_have : (ts : Trees) → AllHavePicks ps (lifted_all ts)
    lifted_have no_trees = tt
    lifted_have (tree_and t ts) = (lifted_has t, lifted_have ts)

  -- a tree whose picks are numbered
  mutual
    pub numbered_has : (w : Weighted) (from : ℕ) → from + picks w ≤ length ps
        → HasPicks ps (numbered w from)
    numbered_has (plainly k ws) from h = parts_have ws from h
    numbered_has (pick number base os) from h = (
      omega (arith, h),
      numbered_has base (suc from) (omega (arith, h)),
      others_have os (suc from + picks base) (omega (arith, h)),
    )

    parts_have : (ws : Weighteds) (from : ℕ) → from + picks_in ws ≤ length ps
        → AllHavePicks ps (numbered_all ws from)
    parts_have no_weighted from h = tt
    parts_have (weighted_and w ws) from h = (
      numbered_has w from (omega (arith, h)),
      parts_have ws (from + picks w) (omega (arith, h)),
    )

    others_have : (os : Others) (from : ℕ) → from + picks_in_others os ≤ length ps
        → OthersHavePicks ps (numbered_others os from)
    others_have no_others from h = tt
    others_have (other_and rule cost w os) from h = (
      numbered_has w from (omega (arith, h)),
      others_have os (from + picks w) (omega (arith, h)),
    )

  -- the weighted tree of a program, whose picks are as many
  pub all_there : (g : Setting) (p : List Routine) → length ps ≡ picks (weighted_program g p)
      → HasPicks ps (weighted_program g p)
  all_there g p many =
      let t = program_shape p in
      let w = grown g (steps t) elsewhere (outermost g) t in
      let e = picks_numbered w 0 in numbered_has w 0 (omega arith)

-- no picks read as any members
pub none_read : {B : Type 0} (ps : List (List B)) (rd : B → Bool) (m : ℕ → ℕ) → ps ≡ []
    → PicksRead rd ps m
none_read [] rd m e = record { member = λ i bits is. absurd cc }
none_read (bits ∷ ps) rd m e = absurd cc
