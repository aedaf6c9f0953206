-- What the code's rules are as mathematics: one step for each kind of node.
use Rattle.std.specs.Prelude.{List, [], ◌∷◌, map, Option, Some, None}
use Rattle.choice_tree.specs.declared.rules.PExpr.{PExpr}
use Rattle.choice_tree.specs.declared.rules.PExprs.{PExprs}
use Rattle.choice_tree.specs.declared.rules.PExpr.TheOpen as F
use Rattle.choice_tree.specs.declared.rules.PExpr.TheFolds.{fold-PExpr, fold-PExprs}
use Rattle.choice_tree.specs.declared.rules.PArith.{PArith}
use Rattle.choice_tree.specs.declared.rules.PArith.TheVariants as arith
use Rattle.choice_tree.specs.declared.rules.PCmp.{PCmp}
use Rattle.choice_tree.specs.declared.rules.PCmp.TheVariants as cmp
use Rattle.choice_tree.specs.declared.rules.Rule.{Rule}
use Rattle.choice_tree.specs.declared.rules.Rules.{Rules}
use Rattle.mpy_tree.specs.Trees as kind
use Rattle.choice_tree.specs.Templates.{NodeTemplate, exactly, one_arith, one_comparison}
use Rattle.choice_tree.specs.Templates.{some_arith, some_comparison, Template, Templates, made}
use Rattle.choice_tree.specs.Templates.{hole, one_of, some_local, no_templates, template_and}
use Rattle.choice_tree.specs.Templates.{Correction}
use Rattle.choice_tree.specs.WeightedViews.{has_end}

abbrev pub templates : List Template → Templates
templates [] = no_templates
templates (p ∷ ps) = template_and p (templates ps)

abbrev pub one_template : Template → Templates
one_template p = template_and p no_templates

abbrev pub two_templates : Template → Template → Templates
two_templates p q = template_and p (one_template q)

-- an end of a slice, which may be missing, before other parts
abbrev pub template_end : {B : Type 0} → (B → Template) → Option B → Templates → Templates
template_end f None ps = ps
template_end f (Some b) ps = template_and (f b) ps

abbrev pub arith_template : PArith → NodeTemplate
arith_template (arith.Ops ops) = one_arith ops
arith_template (arith.Meta m) = some_arith m

abbrev pub comparison_template : PCmp → NodeTemplate
comparison_template (cmp.Ops ops) = one_comparison ops
comparison_template (cmp.Meta m) = some_comparison m

abbrev pub pexpr_step : F.PExpr-F Template Templates → Template
pexpr_step (F.Int n) = made (exactly (kind.Int n)) no_templates
pexpr_step (F.Bool b) = made (exactly (kind.Bool b)) no_templates
pexpr_step (F.Text t) = made (exactly (kind.Text t)) no_templates
pexpr_step (F.Name x) = made (exactly (kind.Name x)) no_templates
pexpr_step (F.List es) = made (exactly kind.List) es
pexpr_step (F.Neg e) = made (exactly kind.Neg) (one_template e.value)
pexpr_step (F.Not e) = made (exactly kind.Not) (one_template e.value)
pexpr_step (F.Arith op a b) = made (arith_template op) (two_templates a.value b.value)
pexpr_step (F.Cmp op a b) = made (comparison_template op) (two_templates a.value b.value)
pexpr_step (F.And a b) = made (exactly kind.And) (two_templates a.value b.value)
pexpr_step (F.Or a b) = made (exactly kind.Or) (two_templates a.value b.value)
pexpr_step (F.Cond t y n) =
    made (exactly kind.Cond) (template_and y.value (two_templates t.value n.value))
pexpr_step (F.Index a b) = made (exactly kind.Index) (two_templates a.value b.value)
pexpr_step (F.Slice a f t) =
    made (exactly (kind.Slice (has_end f) (has_end t)))
    (template_and a.value
    (template_end (λ b. b.value) f (template_end (λ b. b.value) t no_templates)))
pexpr_step (F.Call x es) = made (exactly (kind.Call x)) es
pexpr_step (F.Meta m) = hole m
pexpr_step (F.Set es) = one_of es
pexpr_step (F.Local m) = some_local m

abbrev pub pexprs_step : F.PExprs-F Template Templates → Templates
pexprs_step es = templates es.items.items

abbrev pub template_of : PExpr → Template
template_of = fold-PExpr Template Templates pexpr_step pexprs_step

abbrev pub templates_of : PExprs → Templates
templates_of = fold-PExprs Template Templates pexpr_step pexprs_step

abbrev pub correction_of : Rule → Correction
correction_of r =
    record {
      line = r.line;
      name = r.name;
      cost = r.cost;
      place = r.left.place;
      left = template_of r.left.term;
      right_place = r.right.place;
      right = template_of r.right.term;
      say = r.say;
    }

abbrev pub corrections_of : Rules → List Correction
corrections_of rs = map correction_of rs.items.items
