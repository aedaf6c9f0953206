-- What an operator of rules builds of its parts.
use Rattle.choice_tree.specs.declared.forms.Operator.{Operator}
use Rattle.choice_tree.specs.declared.forms.Operator.TheVariants as operator
use Rattle.choice_tree.specs.Templates.{Template}
use Rattle.choice_tree.specs.RuleViews.{arith_template, comparison_template}
use Rattle.choice_tree.specs.Sides.{binary}

abbrev pub operation_of : Operator → Template → Template → Template
operation_of (operator.Arith op) = binary (arith_template op)
operation_of (operator.Cmp op) = binary (comparison_template op)
