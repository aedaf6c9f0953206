-- The picks at which a selection chooses another member than the base rise in a numbered tree.
use Rattle.std.proofs.Common.{ℕ, zero, suc, ◌+◌, ◌<◌, ◌≤◌, List, [], ◌∷◌, ◌++◌, arith}
use Rattle.choice_tree.specs.Selections.{chosen, edited_picks, other_picks, picks_in}
use Rattle.choice_tree.specs.WeightedTrees.{Weighted, Weighteds, Others, plainly, pick, no_weighted}
use Rattle.choice_tree.specs.WeightedTrees.{weighted_and, no_others, other_and, numbered}
use Rattle.choice_tree.specs.WeightedTrees.{numbered_all, numbered_others, picks}
use Rattle.choice_tree.specs.WeightedTrees.{picks_in as count_in, picks_in_others}

-- the numbers rise from one on, and are below another
abbrev pub RisesTo : ℕ → List ℕ → ℕ → Type 0
RisesTo from [] to = from ≤ to
RisesTo from (x ∷ xs) to = (from ≤ x) × RisesTo (suc x) xs to

pub earlier : (a b : ℕ) (xs : List ℕ) (to : ℕ) → a ≤ b → RisesTo b xs to → RisesTo a xs to
earlier a b [] to h r = omega arith
earlier a b (x ∷ xs) to h r = let first = r.0 in (omega arith, r.1)

pub later : (from : ℕ) (xs : List ℕ) (a b : ℕ) → a ≤ b → RisesTo from xs a → RisesTo from xs b
later from [] a b h r = omega arith
later from (x ∷ xs) a b h r = (r.0, later (suc x) xs a b h r.1)

joined : (a b c : ℕ) (xs ys : List ℕ) → RisesTo a xs b → RisesTo b ys c → RisesTo a (xs ++ ys) c
joined a b c [] ys r q = earlier a b ys c r q
joined a b c (x ∷ xs) ys r q = (r.0, joined (suc x) b c xs ys r.1 q)

mutual
  pub rise : (m : ℕ → ℕ) (w : Weighted) (from : ℕ) → RisesTo from (edited_picks m (numbered w from)) (from + picks w)
  rise m (plainly k ws) from = rise_in m ws from
  rise m (pick number w os) from =
      rise_by m os from (suc from + picks w) (m from) (edited_picks m (numbered w (suc from))) (from + picks (pick number w os))
      (omega arith) (omega arith)
      (earlier from (suc from) _ _ (omega arith) (later (suc from) _ (suc from + picks w) _ (omega arith) (rise m w (suc from))))

  rise_in : (m : ℕ → ℕ) (ws : Weighteds) (from : ℕ) → RisesTo from (picks_in m (numbered_all ws from)) (from + count_in ws)
  rise_in m no_weighted from = omega arith
  rise_in m (weighted_and w ws) from =
      later from _ (from + picks w + count_in ws) _ (omega arith)
      (joined from (from + picks w) _ _ _ (rise m w from) (rise_in m ws (from + picks w)))

  -- the picks of a base or of the member that is chosen
  rise_by : (m : ℕ → ℕ) (os : Others) (number from i : ℕ) (base : List ℕ) (to : ℕ) → number < from → from + picks_in_others os ≤ to
      → RisesTo number base to → RisesTo number (chosen i base (other_picks m (numbered_others os from) number)) to
  rise_by m os number from zero base to h k r = r
  rise_by m no_others number from (suc i) base to h k r = r
  rise_by m (other_and rule cost w os) number from (suc zero) base to h k r =
      (omega arith, earlier (suc number) from _ to (omega arith) (later from _ (from + picks w) to (omega arith) (rise m w from)))
  rise_by m (other_and rule cost w os) number from (suc (suc i)) base to h k r =
      rise_by m os number (from + picks w) (suc i) base to (omega arith) (omega arith) r
