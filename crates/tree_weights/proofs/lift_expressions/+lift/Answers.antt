use Rattle.std.proofs.Common.{◌+◌, [], ◌∷◌, map, ap, ◌∙◌, refl, arith}
use Rattle.std.proofs.lemmas.List.{map-append}
use Rattle.mpy_tree.specs.View.{term_of}
use Rattle.mpy_tree.specs.Shapes.{shape}
use Rattle.choice_tree.specs.WeightedTrees.{lifted, plainly}
use Rattle.choice_tree.specs.WeightedViews.{weighted_of, weighteds}
use Rattle.choice_tree.proofs.Walking.{is_place}
use Rattle.eml_match.specs.Parts.{parts}
use Rattle.tree_weights.proofs.LiftedTrees.{if_ok, lifted_node, made_all, made_next}
use Rattle.tree_weights.proofs.LiftedTrees.{part_less_deep}
use Rattle.tree_weights.proofs.lift_expressions.+lift.Goals as goal

pub lift_parts-parts-init : goal.lift_parts-parts-init
lift_parts-parts-init t c = rw c.new-made.ensures.items refl

pub lift_parts-returns-in-None : goal.lift_parts-returns-in-None
lift_parts-returns-in-None t c =
    made_all lifted (parts (shape (term_of c.args.e.now))) c.parts.i
    (map weighted_of c.parts.made.items) c.in-None.ensures.part c.parts.invariant

pub lift_parts-parts-smaller : goal.lift_parts-parts-smaller
lift_parts-parts-smaller t c =
    let below =
    is_place (parts (shape (term_of c.args.e.now))) c.parts.i (shape (term_of c.in-Some.d.now))
    c.in-Some.ensures.part in
    omega (arith, below)

pub lift_parts-lift_expr-requires : goal.lift_parts-lift_expr-requires
lift_parts-lift_expr-requires t c =
    let less =
    part_less_deep (shape (term_of c.args.e.now)) (shape (term_of c.in-Some.d.now)) c.parts.i
    c.in-Some.ensures.part in
    (omega (arith, less), tt)

pub lift_parts-parts-preserved : goal.lift_parts-parts-preserved
lift_parts-parts-preserved t c =
    made_next lifted (parts (shape (term_of c.args.e.now))) c.parts.i (c.parts.i + 1)
    (shape (term_of c.in-Some.d.now)) (weighted_of c.in_ok-lift_expr-in-Some.field-0)
    (map weighted_of c.parts.made.items) (map weighted_of c.push.new.self.items) (omega arith)
    c.in-Some.ensures.part c.in_ok-lift_expr-in-Some.ensures
    (ap (map weighted_of) c.in_ok-push-in-Some.ensures.items
    ∙ map-append weighted_of c.parts.made.items (c.in_ok-lift_expr-in-Some.field-0 ∷ []))
    c.parts.invariant

pub lift_expr-returns : goal.lift_expr-returns
lift_expr-returns t c =
    if_ok c.weighted_node.result
    (λ w e. e
    ∙ (λ i. plainly (c.head_of.ensures i) (weighteds (c.in_ok-parts.ensures i)))
    ∙ lifted_node (shape (term_of c.args.e.now)))
    c.weighted_node.ensures
