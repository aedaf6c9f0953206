-- What a weighted tree gives, by some choice of members, whatever the numbers of its picks.
use Rattle.std.proofs.Common.{◌≡◌, ◌⊎◌, ℕ, ◌+◌, List, [], ◌∷◌, ◌++◌, refl, ap, ◌∙◌, inl, inr}
use Rattle.mpy_tree.specs.Trees.{Tree, Trees, node, no_trees, tree_and}
use Rattle.choice_tree.specs.Contexts.{line_below}
use Rattle.choice_tree.specs.Rewriting.{Edit, edit_by}
use Rattle.choice_tree.specs.WeightedTrees.{Weighted, Weighteds, Others, plainly, pick, no_weighted}
use Rattle.choice_tree.specs.WeightedTrees.{weighted_and, no_others, other_and, lifted, lifted_all}
use Rattle.choice_tree.specs.WeightedTrees.{base_of}
use Rattle.choice_tree.specs.Growing.{picked}

-- what the first part gives, and what the others give
pub record Parts : Type 0 where
  pub tree : Tree
  pub trees : Trees
  pub cost : ℕ
  pub costs : ℕ
  pub edits : List Edit
  pub more : List Edit

-- what is given inside of a member
pub record Inner : Type 0 where
  pub cost : ℕ
  pub edits : List Edit

abbrev mutual
  pub Gives : Weighted → ℕ → Tree → ℕ → List Edit → Type 0
  Gives (plainly k ws) line t n es = (ts : Trees) × (t ≡ node k ts)
      × GivesAll ws (line_below k line) ts n es
  Gives (pick number w os) line t n es = Gives w line t n es ⊎ GivesOther os line (base_of w) t n es

  pub GivesAll : Weighteds → ℕ → Trees → ℕ → List Edit → Type 0
  GivesAll no_weighted line ts n es = (ts ≡ no_trees) × (n ≡ 0) × (es ≡ [])
  GivesAll (weighted_and w ws) line ts n es = (p : Parts) × (ts ≡ tree_and p.tree p.trees)
      × (n ≡ p.cost + p.costs) × (es ≡ p.edits ++ p.more) × Gives w line p.tree p.cost p.edits
      × GivesAll ws line p.trees p.costs p.more

  pub GivesOther : Others → ℕ → Tree → Tree → ℕ → List Edit → Type 0
  GivesOther no_others line old t n es = ⊥
  GivesOther (other_and rule cost w os) line old t n es =
      ((i : Inner) × (n ≡ cost + i.cost) × (es ≡ edit_by line rule old t ∷ i.edits)
      × Gives w line t i.cost i.edits) ⊎ GivesOther os line old t n es

-- a tree without picks gives itself alone
mutual
  pub lifted_gives : (u : Tree) (line : ℕ) (t : Tree) (n : ℕ) (es : List Edit)
      → Gives (lifted u) line t n es → (t ≡ u) × (n ≡ 0) × (es ≡ [])
  lifted_gives (node k ts) line t n es h =
      let r = lifted_all_give ts (line_below k line) h.0 n es h.2 in
      (h.1 ∙ ap (node k) r.0, r.1, r.2)

  pub lifted_all_give : (us : Trees) (line : ℕ) (ts : Trees) (n : ℕ) (es : List Edit)
      → GivesAll (lifted_all us) line ts n es → (ts ≡ us) × (n ≡ 0) × (es ≡ [])
  lifted_all_give no_trees line ts n es h = h
  lifted_all_give (tree_and u us) line ts n es h =
      let p = h.0 in
      let a = lifted_gives u line p.tree p.cost p.edits h.4 in
      let b = lifted_all_give us line p.trees p.costs p.more h.5 in (
        h.1 ∙ (λ i. tree_and (a.0 i) (b.0 i)),
        h.2 ∙ (λ i. a.1 i + b.1 i),
        h.3 ∙
            (λ i. a.2 i ++ b.2 i),
      )

mutual
  pub lifted_given : (u : Tree) (line : ℕ) → Gives (lifted u) line u 0 []
  lifted_given (node k ts) line = (ts, refl, lifted_all_given ts (line_below k line))

  pub lifted_all_given : (us : Trees) (line : ℕ) → GivesAll (lifted_all us) line us 0 []
  lifted_all_given no_trees line = (refl, refl, refl)
  lifted_all_given (tree_and u us) line = (
    record { tree = u; trees = us; cost = 0; costs = 0; edits = []; more = [] },
    refl,
    refl,
    refl,
    lifted_given u line,
    lifted_all_given us line,
  )

mutual
  pub base_lifted : (u : Tree) → base_of (lifted u) ≡ u
  base_lifted (node k ts) = ap (node k) (bases_lifted ts)

  bases_lifted : (us : Trees) → Rattle.choice_tree.specs.WeightedTrees.bases_of (lifted_all us) ≡ us
  bases_lifted no_trees = refl
  bases_lifted (tree_and u us) = λ i. tree_and (base_lifted u i) (bases_lifted us i)

-- a pick is left out where it has no other member
pub picked_gives : (w : Weighted) (os : Others) (line : ℕ) (t : Tree) (n : ℕ) (es : List Edit)
    → Gives (picked w os) line t n es → Gives w line t n es ⊎ GivesOther os line (base_of w) t n es
picked_gives w no_others line t n es h = inl h
picked_gives w (other_and rule cost v os) line t n es h = h

pub picked_base : (w : Weighted) (os : Others) (line : ℕ) (t : Tree) (n : ℕ) (es : List Edit)
    → Gives w line t n es → Gives (picked w os) line t n es
picked_base w no_others line t n es h = h
picked_base w (other_and rule cost v os) line t n es h = inl h

pub picked_other : (w : Weighted) (os : Others) (line : ℕ) (t : Tree) (n : ℕ) (es : List Edit)
    → GivesOther os line (base_of w) t n es → Gives (picked w os) line t n es
picked_other w no_others line t n es h = absurd h
picked_other w (other_and rule cost v os) line t n es h = inr h

pub base_picked : (w : Weighted) (os : Others) → base_of (picked w os) ≡ base_of w
base_picked w no_others = refl
base_picked w (other_and rule cost v os) = refl
