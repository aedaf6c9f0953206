-- The right sides of the code's rules have all their parts.
use Rattle.std.proofs.Common.{List, [], ◌∷◌, map, refl, sym, subst, Some, None}
use Rattle.std.proofs.lemmas.List.Elements.{All-cons, All-nil}
use Rattle.choice_tree.specs.declared.rules.PArith.{PArith}
use Rattle.choice_tree.specs.declared.rules.PArith.TheVariants as arith
use Rattle.choice_tree.specs.declared.rules.PCmp.{PCmp}
use Rattle.choice_tree.specs.declared.rules.PCmp.TheVariants as cmp
use Rattle.choice_tree.specs.declared.rules.PExpr.{PExpr, map-PExpr}
use Rattle.choice_tree.specs.declared.rules.PExprs.{PExprs, map-PExprs}
use Rattle.choice_tree.specs.declared.rules.PExpr.TheOpen as F
use Rattle.choice_tree.specs.declared.rules.PExpr.TheFolds.{fold-roll-PExpr, fold-roll-PExprs}
use Rattle.choice_tree.specs.declared.rules.PExpr.TheFolds.{ind-PExpr}
use Rattle.choice_tree.specs.declared.rules.Rule.{Rule}
use Rattle.choice_tree.specs.declared.rules.Rules.{Rules}
use Rattle.choice_tree.specs.RuleViews.{arith_template, comparison_template, correction_of}
use Rattle.choice_tree.specs.RuleViews.{corrections_of, pexpr_step, pexprs_step, template_of}
use Rattle.choice_tree.specs.RuleViews.{templates, templates_of}
use Rattle.choice_tree.specs.Templates.{Template, Templates}
use Rattle.typed_trees.specs.Wholes.{AreWholeSides, IsWholeSide, MakeWholes, TemplateHasParts}

abbrev Whole : PExpr → Type 0
Whole e = IsWholeSide (template_of e)

abbrev Wholes : PExprs → Type 0
Wholes es = AreWholeSides (templates_of es)

-- an expression with a proof, and expressions
abbrev Known : Type 0
Known = (e : PExpr) × Whole e

abbrev AllKnown : Type 0
AllKnown = (es : PExprs) × Wholes es

arith_parts : (op : PArith) → TemplateHasParts (arith_template op) 2
arith_parts (arith.Ops ops) = refl
arith_parts (arith.Meta m) = refl

comparison_parts : (op : PCmp) → TemplateHasParts (comparison_template op) 2
comparison_parts (cmp.Ops ops) = refl
comparison_parts (cmp.Meta m) = refl

-- one layer, whose parts are whole
abbrev side_of : F.PExpr-F Known AllKnown → Template
side_of y =
    pexpr_step (map-PExpr PExpr PExprs Template Templates template_of templates_of
    (map-PExpr Known AllKnown PExpr PExprs (λ e. e.0) (λ es. es.0) y))

layer_whole : (y : F.PExpr-F Known AllKnown) → IsWholeSide (side_of y)
layer_whole (F.Int n) = (refl, tt)
layer_whole (F.Bool b) = (refl, tt)
layer_whole (F.Text t) = (refl, tt)
layer_whole (F.Name x) = (refl, tt)
layer_whole (F.List es) = (tt, es.1)
layer_whole (F.Neg e) = (refl, (e.value.1, tt))
layer_whole (F.Not e) = (refl, (e.value.1, tt))
layer_whole (F.Arith op a b) = (arith_parts op, (a.value.1, (b.value.1, tt)))
layer_whole (F.Cmp op a b) = (comparison_parts op, (a.value.1, (b.value.1, tt)))
layer_whole (F.And a b) = (refl, (a.value.1, (b.value.1, tt)))
layer_whole (F.Or a b) = (refl, (a.value.1, (b.value.1, tt)))
layer_whole (F.Cond t y n) = (refl, (y.value.1, (t.value.1, (n.value.1, tt))))
layer_whole (F.Index a b) = (refl, (a.value.1, (b.value.1, tt)))
layer_whole (F.Slice a None None) = (refl, (a.value.1, tt))
layer_whole (F.Slice a (Some f) None) = (refl, (a.value.1, (f.value.1, tt)))
layer_whole (F.Slice a None (Some t)) = (refl, (a.value.1, (t.value.1, tt)))
layer_whole (F.Slice a (Some f) (Some t)) = (refl, (a.value.1, (f.value.1, (t.value.1, tt))))
layer_whole (F.Call x es) = (tt, es.1)
layer_whole (F.Meta m) = tt
layer_whole (F.Set es) = es.1
layer_whole (F.Local m) = tt

each_whole : (es : List Known) → AreWholeSides (templates (map template_of (map (λ e. e.0) es)))
each_whole [] = tt
each_whole (e ∷ es) = (e.1, each_whole es)

side_whole : (e : PExpr) → Whole e
side_whole =
    ind-PExpr Whole Wholes
    (λ x y is. subst IsWholeSide
    (sym (fold-roll-PExpr Template Templates pexpr_step pexprs_step x))
    (subst (λ z. IsWholeSide (pexpr_step
    (map-PExpr PExpr PExprs Template Templates template_of templates_of z))) is (layer_whole y)))
    (λ x y is. subst AreWholeSides
    (sym (fold-roll-PExprs Template Templates pexpr_step pexprs_step x))
    (subst (λ z. AreWholeSides (pexprs_step
    (map-PExprs PExpr PExprs Template Templates template_of templates_of z))) is
    (each_whole y.items.items)))

all_whole : (rs : List Rule) → MakeWholes (map correction_of rs)
all_whole [] = All-nil (λ r. IsWholeSide r.right)
all_whole (r ∷ rs) =
    All-cons (λ q. IsWholeSide q.right) (correction_of r) (map correction_of rs)
    (side_whole r.right.term) (all_whole rs)

pub rules_whole : (rules : Rules) → MakeWholes (corrections_of rules)
rules_whole rules = all_whole rules.items.items
