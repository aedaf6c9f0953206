-- What is counted of statements before their weighted trees are built, computed.
use Rattle.std.proofs.Common.{◌≡◌, ℕ, List, [], ◌∷◌, Some, None, refl}
use Rattle.mpy_tree.specs.declared.operators.ArithOp.TheVariants.{Add}
use Rattle.mpy_tree.specs.declared.typing.Ty.TheVariants.{Int}
use Rattle.mpy_tree.specs.Rules.{Slots}
use Rattle.mpy_tree.specs.Syntax.{Action, Term, a_term, no_term}
use Rattle.mpy_tree.specs.Syntax as ast
use Rattle.mpy_tree.specs.Trees as kind
use Rattle.choice_tree.specs.declared.rules.Place.TheVariants.{Anywhere}
use Rattle.choice_tree.specs.Contexts.{Setting, outermost, setting_with}
use Rattle.choice_tree.specs.Templates.{Correction, Template, exactly, made, no_templates}
use Rattle.choice_tree.specs.Templates.{one_arith, template_and}
use Rattle.choice_tree.specs.WeightedTrees.{size}
use Rattle.eml_rewrite.specs.LeastSizes.{action_least}
use Rattle.eml_rewrite.specs.Statements.{action_grown}

abbrev name_x : List ℕ
name_x = 120 ∷ []

abbrev x : Term
x = ast.Name name_x

-- all that has a name is a number
abbrev numbers : Slots
numbers i s = Some Int

abbrev leaf : kind.Kind → Template
leaf k = made (exactly k) no_templates

-- x => x + 1
abbrev one_more : Correction
one_more =
    record {
      line = 1;
      name = [];
      cost = 1;
      place = Anywhere;
      left = leaf (kind.Name name_x);
      right_place = Anywhere;
      right =
          made (one_arith (Add ∷ []))
          (template_and (leaf (kind.Name name_x)) (template_and (leaf (kind.Int 1)) no_templates));
      say = None;
    }

abbrev setting : Setting
setting = setting_with (one_more ∷ []) [] numbers

abbrev counted : Action → ℕ
counted act = action_least setting (outermost setting) act

-- the name, the pick of it, and three nodes of the sum
printed : counted (ast.Print x) ≡ 5
printed = refl

-- as many as are built
built : size (action_grown setting (outermost setting) (ast.Print x) 2) ≡ 5
built = refl

returned : counted (ast.Return (a_term x)) ≡ 5
returned = refl

-- what has no expression
nothing_returned : counted (ast.Return no_term) ≡ 0
nothing_returned = refl

passed : counted ast.Pass ≡ 0
passed = refl
