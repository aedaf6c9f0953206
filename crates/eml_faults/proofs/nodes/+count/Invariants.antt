use Rattle.std.proofs.Common.{◌≡◌, ◌≤◌, ◌+◌, ◌-◌, ◌*◌, drop, length, min}
use Rattle.choice_tree.specs.RuleViews.{template_of}
use Rattle.eml_faults.specs.Sides.{side_parts}
use Rattle.eml_faults.specs.Walks.{operators, product_of_counts, sum_of_counts}
use Rattle.eml_faults.proofs.Walks.{size}
use Rattle.eml_faults.proofs.nodes.+count.Given as goal

-- the sum so far, and that of the parts that are left
abbrev pub invariant-count_of_any-parts : goal.invariant-count_of_any-parts
invariant-count_of_any-parts l =
    (l.sum ≤ 65) × (min 65 (sum_of_counts (side_parts (template_of l.e)))
    ≡ min 65 (l.sum + sum_of_counts (drop l.i (side_parts (template_of l.e)))))

-- the product so far, and that of the parts that are left
abbrev pub invariant-count_of_all-parts : goal.invariant-count_of_all-parts
invariant-count_of_all-parts l =
    (l.product ≤ 65) × (min 65 (operators (template_of l.e)
    * product_of_counts (side_parts (template_of l.e)))
    ≡ min 65 (l.product * product_of_counts (drop l.i (side_parts (template_of l.e)))))

abbrev pub decreases-set_count : goal.decreases-set_count
decreases-set_count l = 2 * size (template_of l.e.now) + 1

abbrev pub decreases-count_of_any : goal.decreases-count_of_any
decreases-count_of_any l = 2 * size (template_of l.e.now)

abbrev pub decreases-count_of_all : goal.decreases-count_of_all
decreases-count_of_all l = 2 * size (template_of l.e.now)

abbrev pub decreases-count_of_any-parts : goal.decreases-count_of_any-parts
decreases-count_of_any-parts l = length (side_parts (template_of l.e)) - l.i

abbrev pub decreases-count_of_all-parts : goal.decreases-count_of_all-parts
decreases-count_of_all-parts l = length (side_parts (template_of l.e)) - l.i
