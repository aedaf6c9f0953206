-- The rules by which edits are made.
use Rattle.std.specs.Prelude.{◌≡◌, ℕ, ◌<◌, List, All, length, slice_get}
use Rattle.std.specs.List.{sum_by}
use Rattle.std.specs.Option.{option_map_or}
use Rattle.choice_tree.specs.Templates.{Correction}
use Rattle.feedback_text.specs.Answers.{Edit}

-- the cost of the rule of an edit, and 0 where it names none
abbrev pub rule_cost : List Correction → Edit → ℕ
rule_cost rules e = option_map_or (λ r. r.cost) (slice_get rules e.rule) 0

-- each edit names one of the rules, and the costs of the rules that are named add up to the cost
pub record AreByRules (rules : List Correction) (cost : ℕ) (edits : List Edit) : Type 0 where
  pub named : All (λ e. e.rule < length rules) edits
  pub costs_add_up : sum_by (rule_cost rules) edits ≡ cost
