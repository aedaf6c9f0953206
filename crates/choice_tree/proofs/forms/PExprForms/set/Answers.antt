use Rattle.std.proofs.Common.{◌≡◌, ◌==◌, ℕ, zero, suc, false, ◌∷◌, [], map, length, List, Some}
use Rattle.std.proofs.Common.{arith, refl, ap, ◌∙◌}
use Rattle.choice_tree.specs.declared.rules.PExpr.{PExpr}
use Rattle.choice_tree.specs.Templates.{one_of}
use Rattle.choice_tree.specs.RuleViews.{template_of, templates}
use Rattle.choice_tree.specs.Sides.{side_set}
use Rattle.choice_tree.proofs.forms.PExprForms.set.Goals as goal

-- a set of one expression at least
some_set : (xs : List PExpr) (n : ℕ) → length xs ≡ n → false ≡ (n == 0)
    → Some (one_of (templates (map template_of xs))) ≡ side_set (map template_of xs)
some_set [] n h e = absurd (none n h e)
  where
    none : (n : ℕ) → 0 ≡ n → false ≡ (n == 0) → ⊥
    none zero h e = cc
    none (suc n) h e = omega arith
some_set (x ∷ xs) n h e = refl

pub returns : goal.returns
returns c =
    let n : length c.args.items.items ≡ c.args.items.len = omega arith in
    ap Some c.set_of.ensures ∙ some_set c.args.items.items c.args.items.len n c.if-is_empty.ensures
