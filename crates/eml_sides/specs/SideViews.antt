-- The code's sides as mathematics.
use Rattle.choice_tree.specs.declared.rules.Pattern.{Pattern}
use Rattle.choice_tree.specs.declared.rules.Place.{Place}
use Rattle.choice_tree.specs.declared.rules.Right.{Right}
use Rattle.choice_tree.specs.RuleViews.{template_of}
use Rattle.choice_tree.specs.Templates.{Template}

abbrev pub pattern_of : Pattern → Place × Template
pattern_of p = (p.place, template_of p.term)

abbrev pub replacement_of : Right → Place × Template
replacement_of r = (r.place, template_of r.term)
