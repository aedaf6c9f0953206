-- The levels of a tree whose picks are numbered.
use Rattle.std.proofs.Common.{◌≡◌, ℕ, zero, suc, ◌+◌, List, [], refl, sym, subst, arith}
use Rattle.std.specs.List.{Contains}
use Rattle.std.proofs.lemmas.List.Elements.{All-contains}
use Rattle.choice_tree.specs.declared.selection.Choice.{Choice}
use Rattle.choice_tree.specs.Choices.{member_of, Rises, NamesBy}
use Rattle.choice_tree.specs.WeightedTrees.{Weighted, numbered, picks}
use Rattle.choice_tree.specs.Selections.{cost, has_member}
use Rattle.cost_levels.specs.Levels.{AreLevels, level}
use Rattle.cost_levels.specs.Plans.{done, listed}
use Rattle.cost_levels.proofs.Beginning.{Begins, begins}
use Rattle.cost_levels.proofs.Making.{makes}

-- where the plan ends nothing is chosen
at_end : (n : ℕ) (s : List Choice) → Contains (listed done n) s → (n ≡ 0) × (s ≡ [])
at_end zero s (zero, below, is) = (refl, sym is)
at_end zero s (suc k, below, is) = absurd (omega arith)
at_end (suc n) s (k, below, is) = absurd (omega arith)

pub are_levels : (u : Weighted) → AreLevels (numbered u 0)
are_levels u =
    let w = numbered u 0 in
    let at : (n : ℕ) (s : List Choice) → Contains (level w n) s → Begins u 0 done n s =
    λ n s c. All-contains (Begins u 0 done n) (level w n) s (begins u 0 done n) c in
    record {
      each_fits = λ n s c.
          let a = at n s c in
          let end = at_end a.left a.rest a.there in (
            a.leads.rises (subst (Rises (0 + picks u)) (sym end.1) tt),
            a.leads.named (has_member w) (λ q i h. h) (subst (NamesBy (has_member w)) (sym end.1) tt),
          );
      each_costs = λ n s c.
          let a = at n s c in
          let end = at_end a.left a.rest a.there in
          let none = end.0 in
          let all =
          a.costs_so (subst (Rises (0 + picks u)) (sym end.1) tt) (member_of s) (λ q on. refl) in
          omega (arith, none, all);
      each_made = λ s.
          let a = makes u 0 (member_of s) done 0 [] (0, omega arith, refl) in
          let all : cost (member_of s) w + 0 ≡ cost (member_of s) w = omega arith in
          record {
            selection = a.selection;
            there = subst (λ k. Contains (level w k) a.selection) all a.there;
            tree = a.tree tt (member_of a.selection) (λ q on. refl);
          };
    }
