-- The types of small weighted trees, computed.
use Rattle.std.proofs.Common.{◌≡◌, ℕ, true, false, if◌then◌else◌, List, [], ◌∷◌, Option}
use Rattle.std.proofs.Common.{Some, None, refl}
use Rattle.std.specs.Prelude.{◌==◌}
use Rattle.mpy_tree.specs.declared.typing.Slot.TheVariants as slot
use Rattle.mpy_tree.specs.declared.typing.Ty.{Ty}
use Rattle.mpy_tree.specs.declared.typing.Ty.TheVariants as ty
use Rattle.mpy_tree.specs.Rules.{Slots}
use Rattle.mpy_tree.specs.Trees as kind
use Rattle.mpy_tree.specs.Trees.{Kind, leaf}
use Rattle.choice_tree.specs.declared.rules.Place.TheVariants as place
use Rattle.choice_tree.specs.Contexts.{Setting, elsewhere, outermost, scope_in, setting_with}
use Rattle.choice_tree.specs.Growing.{grown}
use Rattle.choice_tree.specs.Templates.{Correction, Template, exactly, made, no_templates}
use Rattle.choice_tree.specs.Templates.{template_and}
use Rattle.choice_tree.specs.Typing.{Scope}
use Rattle.choice_tree.specs.WeightedTrees.{Weighted, no_others, no_weighted, other_and, pick}
use Rattle.choice_tree.specs.WeightedTrees.{plainly}
use Rattle.choice_tree.specs.WeightedViews.{one, two}
use Rattle.sym_nodes.specs.Plain.{type_of}
use Rattle.typed_trees.specs.TypedStatements.{IsTyped}

abbrev name_x : List ℕ
name_x = 120 ∷ []

abbrev type_of_name : List ℕ → Option Ty
type_of_name (c ∷ []) = if c == 120 then Some ty.Int else None
type_of_name _ = None

-- x is a number, and so is what the function gives
abbrev types : Slots
types i (slot.Local y) = type_of_name y
types i slot.Result = Some ty.Int

abbrev side : Kind → Template
side k = made (exactly k) no_templates

-- the number 1 may be written as something else
abbrev rule : Template → Correction
rule right =
    record {
      line = 1;
      name = [];
      cost = 1;
      place = place.Anywhere;
      left = side (kind.Int 1);
      right_place = place.Anywhere;
      right = right;
      say = None;
    }

abbrev setting : Template → Setting
setting right = setting_with (rule right ∷ []) [] types

-- the type of the weighted tree of 1
abbrev type_by : Template → Option Ty
type_by right =
    let g = setting right in
    type_of (scope_in g 0) (grown g 1 elsewhere (outermost g) (leaf (kind.Int 1)))

-- 1 => x, and 1 => True, which is no alternative
by_a_number : type_by (side (kind.Name name_x)) ≡ Some ty.Int
by_a_number = refl

by_a_truth_value : type_by (side (kind.Bool true)) ≡ Some ty.Int
by_a_truth_value = refl

-- a number that has a part: what stands there has no type
by_a_part : type_by (made (exactly (kind.Int 0)) (template_and (side (kind.Name [])) no_templates))
    ≡ None
by_a_part = refl

-- statements over trees with a pick
abbrev scope : Scope
scope = record { slots = types; program = []; number = 0 }

abbrev number : Weighted
number = plainly (kind.Int 0) no_weighted

abbrev text : Weighted
text = plainly (kind.Text []) no_weighted

abbrev name : Weighted
name = plainly (kind.Name name_x) no_weighted

abbrev either : Weighted → Weighted
either w = pick 0 number (other_and 0 1 w no_others)

returned : IsTyped scope (plainly (kind.Return 1) (one (either name)))
returned = refl

two_types_returned : IsTyped scope (plainly (kind.Return 1) (one (either text))) → ⊥
two_types_returned h = cc

-- a value of any type is printed, but one that has none is not
text_printed : IsTyped scope (plainly (kind.Print 1) (one text))
text_printed = refl

either_printed : IsTyped scope (plainly (kind.Print 1) (one (either name)))
either_printed = refl

two_types_printed : IsTyped scope (plainly (kind.Print 1) (one (either text))) → ⊥
two_types_printed h = cc

text_assigned : IsTyped scope (plainly (kind.Assign 1 name_x) (one text)) → ⊥
text_assigned h = cc

gone_over_a_number : IsTyped scope (plainly (kind.For 1 name_x) (two name
    (plainly kind.Block no_weighted))) → ⊥
gone_over_a_number h = let e : false ≡ true = h.0 in absurd cc
