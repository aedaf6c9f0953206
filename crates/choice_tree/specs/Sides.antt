-- The expressions of rules, as the grammar builds them: those of programs, metavariables, sets, and
-- sets of operators.
use Rattle.std.specs.Prelude.{Bool, true, false, List, [], ◌∷◌, Option, Some, None}
use Rattle.mpy_tree.specs.Trees as kind
use Rattle.mpy_expressions.specs.Forms.{Forms}
use Rattle.choice_tree.specs.declared.forms.Mark.{Mark}
use Rattle.choice_tree.specs.declared.forms.Mark.TheVariants as mark
use Rattle.choice_tree.specs.Templates.{NodeTemplate, exactly, one_arith, one_comparison}
use Rattle.choice_tree.specs.Templates.{some_arith, some_comparison, Template, Templates, made}
use Rattle.choice_tree.specs.Templates.{hole, one_of, some_local, no_templates, template_and}
use Rattle.choice_tree.specs.RuleViews.{templates, one_template, two_templates, template_end}
use Rattle.choice_tree.specs.WeightedViews.{has_end}

-- a node without parts, with one, and with two
abbrev leaf : kind.Kind → Template
leaf k = made (exactly k) no_templates

abbrev unary : kind.Kind → Template → Template
unary k p = made (exactly k) (one_template p)

abbrev pub binary : NodeTemplate → Template → Template → Template
binary k p q = made k (two_templates p q)

-- $a, $v, $n and ?$a
abbrev pub side_hole : Mark → Option Template
side_hole (mark.Meta m) = Some (hole m)
side_hole (mark.Local m) = Some (some_local m)
side_hole _ = None

-- {e1, .., ek}, of one expression at least
abbrev pub side_set : List Template → Option Template
side_set [] = None
side_set (e ∷ es) = Some (one_of (templates (e ∷ es)))

-- $o and {+, -}
abbrev pub side_operator : Mark → Option (Template → Template → Template)
side_operator (mark.Meta m) = Some (binary (some_arith m))
side_operator (mark.Ariths ops) = Some (binary (one_arith ops))
side_operator _ = None

-- $c and {<, <=}
abbrev pub side_comparator : Mark → Option (Template → Template → Template)
side_comparator (mark.Meta m) = Some (binary (some_comparison m))
side_comparator (mark.Comparisons ops) = Some (binary (one_comparison ops))
side_comparator _ = None

abbrev pub sides : Forms Mark Template
sides = record {
  Int = λ n. leaf (kind.Int n);
  Text = λ cs. leaf (kind.Text cs);
  Name = λ x. leaf (kind.Name x);
  Neg = unary kind.Neg;
  Not = unary kind.Not;
  Arith = λ op. binary (one_arith (op ∷ []));
  Cmp = λ op. binary (one_comparison (op ∷ []));
  And = binary (exactly kind.And);
  Or = binary (exactly kind.Or);
  Cond = λ test yes no. made (exactly kind.Cond) (template_and yes (two_templates test no));
  Index = binary (exactly kind.Index);
  Slice = λ v from to.
      made (exactly (kind.Slice (has_end from) (has_end to)))
      (template_and v (template_end (λ e. e) from (template_end (λ e. e) to no_templates)));
  Call = λ f es. made (exactly (kind.Call f)) (templates es);
  Hole = side_hole;
  Set = side_set;
  Operator = side_operator;
  Comparator = side_comparator;
  Bool = λ b. leaf (kind.Bool b);
  List = λ es. made (exactly kind.List) (templates es);
}
