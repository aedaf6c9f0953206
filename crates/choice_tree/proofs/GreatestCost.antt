-- No selection costs more than the greatest cost, and one that fits costs that.
use Rattle.std.proofs.Common.{◌≡◌, ℕ, zero, suc, ◌+◌, ◌≤◌, ◌<◌, max, List, [], ◌∷◌, ◌++◌, length}
use Rattle.std.proofs.Common.{get_or, refl, sym, ◌∙◌, arith, ◌⊎◌, inl, inr}
use Rattle.mpy_tree.specs.Syntax.{Routine}
use Rattle.mpy_tree.specs.Trees.{Tree, Trees, node, no_trees, tree_and}
use Rattle.mpy_tree.specs.Shapes.{program_shape}
use Rattle.choice_tree.specs.Choices.{member_of}
use Rattle.choice_tree.specs.Contexts.{Setting, elsewhere, outermost, line_below}
use Rattle.choice_tree.specs.Rewriting.{Edit, edit_by}
use Rattle.choice_tree.specs.WeightedTrees.{Weighted, Weighteds, Others, plainly, pick, no_weighted}
use Rattle.choice_tree.specs.WeightedTrees.{weighted_and, no_others, other_and, base_of}
use Rattle.choice_tree.specs.WeightedTrees.{numbered, numbered_all, numbered_others}
use Rattle.choice_tree.specs.WeightedTrees.{picks}
use Rattle.choice_tree.specs.Growing.{grown, steps, weighted_program}
use Rattle.choice_tree.specs.Selections.{cost, costs, other_costs, most_cost, most_costs}
use Rattle.choice_tree.specs.Selections.{other_most_cost, IsGreatestCost}
use Rattle.choice_tree.proofs.CostLaws.{chosen_within}
use Rattle.choice_tree.proofs.Giving.{Gives, GivesAll, GivesOther, Parts, Inner}
use Rattle.choice_tree.proofs.Numbers.{selected}

mutual
  pub cost_below : (m : ℕ → ℕ) (w : Weighted) → cost m w ≤ most_cost w
  cost_below m (plainly k ws) = costs_below m ws
  cost_below m (pick number base os) =
      let b = cost_below m base in
      chosen_within (m number) (cost m base) 0 (other_costs m os)
      (max (most_cost base) (other_most_cost os)) (omega arith)
      (λ k d below. let one = other_below m os k d below in omega arith)

  costs_below : (m : ℕ → ℕ) (ws : Weighteds) → costs m ws ≤ most_costs ws
  costs_below m no_weighted = omega arith
  costs_below m (weighted_and w ws) =
      let a = cost_below m w in let b = costs_below m ws in omega arith

  other_below : (m : ℕ → ℕ) (os : Others) (k d : ℕ) → k < length (other_costs m os)
      → get_or (other_costs m os) k d ≤ other_most_cost os
  other_below m no_others k d below = absurd (omega arith)
  other_below m (other_and rule c w os) zero d below = let a = cost_below m w in omega arith
  other_below m (other_and rule c w os) (suc k) d below =
      let a = other_below m os k d (omega arith) in omega arith

-- numbers don't change the greatest cost
mutual
  most_numbered : (w : Weighted) (k : ℕ) → most_cost (numbered w k) ≡ most_cost w
  most_numbered (plainly kind ws) k = mosts_numbered ws k
  most_numbered (pick number base os) k =
      λ i. max (most_numbered base (suc k) i) (other_numbered os (suc k + picks base) i)

  mosts_numbered : (ws : Weighteds) (k : ℕ) → most_costs (numbered_all ws k) ≡ most_costs ws
  mosts_numbered no_weighted k = refl
  mosts_numbered (weighted_and w ws) k =
      λ i. most_numbered w k i + mosts_numbered ws (k + picks w) i

  other_numbered : (os : Others) (k : ℕ) → other_most_cost (numbered_others os k)
      ≡ other_most_cost os
  other_numbered no_others k = refl
  other_numbered (other_and rule c w os) k =
      λ i. max (c + most_numbered w k i) (other_numbered os (k + picks w) i)

-- something of this cost that a tree gives
record Found (w : Weighted) (line n : ℕ) : Type 0 where
  pub tree : Tree
  pub edits : List Edit
  pub gives : Gives w line tree n edits

record FoundAll (ws : Weighteds) (line n : ℕ) : Type 0 where
  pub trees : Trees
  pub edits : List Edit
  pub gives : GivesAll ws line trees n edits

record FoundOther (os : Others) (line : ℕ) (old : Tree) (n : ℕ) : Type 0 where
  pub tree : Tree
  pub edits : List Edit
  pub gives : GivesOther os line old tree n edits

greater : (a b : ℕ) → (max a b ≡ a) ⊎ (max a b ≡ b)
greater zero b = inr (omega arith)
greater (suc a) zero = inl (omega arith)
greater (suc a) (suc b) = elim (greater a b) [
  | inl h ↦ inl (omega (arith, h))
  | inr h ↦ inr (omega (arith, h))
]

by_first : (rule c : ℕ) (w : Weighted) (os : Others) (line : ℕ) (old : Tree) (n : ℕ)
    → n ≡ c + most_cost w → Found w line (most_cost w)
    → FoundOther (other_and rule c w os) line old n
by_first rule c w os line old n e f =
    let inner : Inner = record { cost = most_cost w; edits = f.edits } in
    record {
      tree = f.tree;
      edits = edit_by line rule old f.tree ∷ f.edits;
      gives = inl (inner, e, refl, f.gives);
    }

by_later : (rule c : ℕ) (w : Weighted) (os : Others) (line : ℕ) (old : Tree) (n : ℕ)
    → n ≡ other_most_cost os → FoundOther os line old (other_most_cost os)
    → FoundOther (other_and rule c w os) line old n
by_later rule c w os line old n e f =
    record { tree = f.tree; edits = f.edits; gives = inr (rw e f.gives) }

-- the dearest member besides the base, where there is one
abbrev FoundIn : Others → ℕ → Tree → Type 0
FoundIn os line old = (os ≡ no_others) ⊎ FoundOther os line old (other_most_cost os)

dearer : (rule c : ℕ) (w : Weighted) (os : Others) (line : ℕ) (old : Tree)
    → Found w line (most_cost w) → FoundIn os line old
    → FoundOther (other_and rule c w os) line old (max (c + most_cost w) (other_most_cost os))
dearer rule c w os line old f (inl none) =
    by_first rule c w os line old (max (c + most_cost w) (other_most_cost os))
    (rw none (omega arith)) f
dearer rule c w os line old f (inr more) =
    elim (greater (c + most_cost w) (other_most_cost os)) [
      | inl h ↦ by_first rule c w os line old (max (c + most_cost w) (other_most_cost os)) h f
      | inr h ↦ by_later rule c w os line old (max (c + most_cost w) (other_most_cost os)) h more
    ]

of_pick : (number : ℕ) (base : Weighted) (os : Others) (line : ℕ)
    → Found base line (most_cost base) → FoundIn os line (base_of base)
    → Found (pick number base os) line (max (most_cost base) (other_most_cost os))
of_pick number base os line f (inl none) =
    let e : max (most_cost base) (other_most_cost os) ≡ most_cost base = rw none (omega arith) in
    record { tree = f.tree; edits = f.edits; gives = rw e (inl f.gives) }
of_pick number base os line f (inr more) =
    elim (greater (most_cost base) (other_most_cost os)) [
      | inl h ↦ record { tree = f.tree; edits = f.edits; gives = rw h (inl f.gives) }
      | inr h ↦ record { tree = more.tree; edits = more.edits; gives = rw h (inr more.gives) }
    ]

mutual
  found : (w : Weighted) (line : ℕ) → Found w line (most_cost w)
  found (plainly k ws) line =
      let f = found_all ws (line_below k line) in
      record { tree = node k f.trees; edits = f.edits; gives = (f.trees, refl, f.gives) }
  found (pick number base os) line =
      of_pick number base os line (found base line) (found_in os line (base_of base))

  found_all : (ws : Weighteds) (line : ℕ) → FoundAll ws line (most_costs ws)
  found_all no_weighted line =
      record { trees = no_trees; edits = []; gives = (refl, refl, refl) }
  found_all (weighted_and w ws) line =
      let f = found w line in
      let r = found_all ws line in
      let parts : Parts =
      record {
        tree = f.tree;
        trees = r.trees;
        cost = most_cost w;
        costs = most_costs ws;
        edits = f.edits;
        more = r.edits;
      } in
      record {
        trees = tree_and f.tree r.trees;
        edits = f.edits ++ r.edits;
        gives = (parts, refl, refl, refl, f.gives, r.gives);
      }

  found_in : (os : Others) (line : ℕ) (old : Tree) → FoundIn os line old
  found_in no_others line old = inl refl
  found_in (other_and rule c w os) line old =
      inr (dearer rule c w os line old (found w line) (found_in os line old))

pub is_greatest : (g : Setting) (s : List Routine) → IsGreatestCost (weighted_program g s)
is_greatest g s =
    let t = program_shape s in
    let w = grown g (steps t) elsewhere (outermost g) t in
    let f = found w 0 in
    let a = selected w 0 0 f.tree (most_cost w) f.edits f.gives in
    let x = a.gives (member_of a.selection) (λ p lo hi. refl) in
    record {
      below = λ u. cost_below (member_of u) (numbered w 0);
      reached = (a.selection, (a.rises, a.names), x.1 ∙ sym (most_numbered w 0));
    }
