-- The levels of a small tree, computed.
use Rattle.std.proofs.Common.{◌≡◌, ℕ, zero, suc, List, [], ◌∷◌, refl, arith}
use Rattle.std.specs.List.{Contains}
use Rattle.mpy_tree.specs.Trees as kind
use Rattle.choice_tree.specs.declared.selection.Choice.{Choice}
use Rattle.choice_tree.specs.Choices.{member_of}
use Rattle.choice_tree.specs.WeightedTrees.{Weighted, pick, plainly, no_weighted, weighted_and}
use Rattle.choice_tree.specs.WeightedTrees.{no_others, other_and}
use Rattle.cost_levels.specs.Counts.{counted}
use Rattle.cost_levels.specs.Levels.{level}
use Rattle.cost_levels.specs.Live.{Before, reached}

abbrev number : ℕ → Weighted
number n = plainly (kind.Int n) no_weighted

-- 0, or 1 at the cost 1
abbrev one_or_none : ℕ → Weighted
one_or_none n = pick n (number 0) (other_and 2 1 (number 1) no_others)

-- one of these; or 2 at the cost 3; or the negation of another one at the cost 1
abbrev nested : Weighted
nested =
    pick 0 (one_or_none 1) (other_and 0 3 (number 2)
    (other_and 1 1 (plainly kind.Neg (weighted_and (one_or_none 2) no_weighted)) no_others))

-- two beside one another
abbrev beside : Weighted
beside = plainly kind.List (weighted_and (one_or_none 0) (weighted_and (one_or_none 1) no_weighted))

abbrev choice : ℕ → ℕ → Choice
choice p i = record { pick = p; member = i }

abbrev in_base : List Choice
in_base = choice 1 1 ∷ []

abbrev second_member : List Choice
second_member = choice 0 2 ∷ []

-- a pick in a member that isn't chosen
abbrev not_live : List Choice
not_live = choice 0 2 ∷ choice 1 1 ∷ []

reached_by_none : reached (member_of []) nested ≡ 0 ∷ 1 ∷ []
reached_by_none = refl

reached_by_second : reached (member_of second_member) nested ≡ 0 ∷ 2 ∷ []
reached_by_second = refl

reached_beside : reached (member_of (choice 0 1 ∷ [])) beside ≡ 0 ∷ 1 ∷ []
reached_beside = refl

is_not_reached : Contains (reached (member_of not_live) nested) 1 → ⊥
is_not_reached (zero, below, is) = omega (arith, is)
is_not_reached (suc zero, below, is) = omega (arith, is)
is_not_reached (suc (suc k), below, is) = omega (arith, below)

cheapest : level nested 0 ≡ [] ∷ []
cheapest = refl

of_cost_1 : level nested 1 ≡ in_base ∷ second_member ∷ []
of_cost_1 = refl

in_order : Before in_base second_member
in_order = record {
  pick = 0;
  less = omega arith;
  same = λ q below. absurd (omega (arith, below));
}

of_cost_2 : level nested 2 ≡ (choice 0 2 ∷ choice 2 1 ∷ []) ∷ []
of_cost_2 = refl

of_cost_3 : level nested 3 ≡ (choice 0 1 ∷ []) ∷ []
of_cost_3 = refl

of_cost_4 : level nested 4 ≡ []
of_cost_4 = refl

second_first : level beside 1 ≡ (choice 1 1 ∷ []) ∷ (choice 0 1 ∷ []) ∷ []
second_first = refl

two : counted (level nested 1) ≡ 2
two = refl
