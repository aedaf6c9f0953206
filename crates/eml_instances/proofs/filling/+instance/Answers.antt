use Rattle.std.proofs.Common.{◌≡◌, ◌+◌, arith, ap, ◌∙◌, sym, length, [], ◌∷◌}
use Rattle.mpy_tree.specs.View.{term_of}
use Rattle.mpy_tree.specs.Shapes.{shape}
use Rattle.mpy_tree.specs.Trees.{node}
use Rattle.choice_tree.specs.Drafts.{filled}
use Rattle.choice_tree.specs.Heads.{head_kind}
use Rattle.choice_tree.specs.RuleViews.{template_of}
use Rattle.choice_tree.proofs.Walking.{is_place}
use Rattle.eml_match.specs.Parts.{template_parts}
use Rattle.eml_match.proofs.Places.{if_ok}
use Rattle.eml_instances.specs.Substitutions.{bindings_in, locals_in}
use Rattle.eml_instances.proofs.AlternativeLists.{joined_length}
use Rattle.eml_instances.proofs.Depths.{part_shallower}
use Rattle.eml_instances.proofs.Instances.{all_made, filled_back, made_and_left, none_made}
use Rattle.eml_instances.proofs.Instances.{one_made}
use Rattle.eml_instances.proofs.PartNumbers.{beyond}
use Rattle.eml_instances.proofs.filling.+instance.Goals as goal

pub instance-returns-in-Again : goal.instance-returns-in-Again
instance-returns-in-Again t c =
    if_ok c.copy_expr.result (λ x h. ap shape h ∙ sym (ap filled c.in-Again.ensures))
    c.copy_expr.ensures

pub instance-returns-in-Term : goal.instance-returns-in-Term
instance-returns-in-Term t c =
    if_ok c.copy_expr-in-Term.result
    (λ x h. ap shape h ∙ sym (filled_back (shape (term_of c.in-Term.e.now)))
    ∙ sym (ap filled c.in-Term.ensures))
    c.copy_expr-in-Term.ensures

pub instance-returns-in-Element : goal.instance-returns-in-Element
instance-returns-in-Element t c =
    if_ok c.instance.result (λ x h. h ∙ sym (ap filled c.in-Element.ensures.0)) c.instance.ensures

pub instance-returns-in-Node : goal.instance-returns-in-Node
instance-returns-in-Node t c =
    if_ok c.node_instance.result (λ x h. h ∙ sym (ap filled c.in-Node.ensures.0))
    c.node_instance.ensures

pub node_instance-plain_node-requires : goal.node_instance-plain_node-requires
node_instance-plain_node-requires t c =
    let qs = template_parts (template_of c.args.p.now) in
    let over = beyond qs c.places.i c.in-None.ensures.part in
    let many = c.places.invariant.many in
    let within = c.places.invariant.within in
    let same : length c.places.made.items ≡ length qs = omega (arith, over, many, within) in
    rw same c.requires.parts

pub node_instance-returns-in-None : goal.node_instance-returns-in-None
node_instance-returns-in-None t c =
    let p = template_of c.args.p.now in
    let all =
    c.places.invariant.trees
    ∙ all_made p (locals_in c.args.s.now) (bindings_in c.args.s.now) c.args.r c.places.i
    c.places.made.items c.in-None.ensures.part in
    if_ok c.plain_node.result (λ x h. h ∙ ap (node (head_kind c.args.head)) (sym all))
    c.plain_node.ensures

pub node_instance-places-init : goal.node_instance-places-init
node_instance-places-init t c =
    let p = template_of c.args.p.now in
    let L = locals_in c.args.s.now in
    let β = bindings_in c.args.s.now in
    let none = c.new-made.ensures.items in
    let many = ap length none in
    record {
      trees = none_made p L β c.args.r
          ∙ ap (λ xs. made_and_left p L β c.args.r xs 0) (sym none);
      many = omega (arith, many);
      within = omega arith;
    }

pub node_instance-places-smaller : goal.node_instance-places-smaller
node_instance-places-smaller t c =
    let below =
    is_place (template_parts (template_of c.args.p.now)) c.places.i (template_of c.in-Some.q.now)
    c.in-Some.ensures.part in
    omega (arith, below)

pub node_instance-places-preserved : goal.node_instance-places-preserved
node_instance-places-preserved t c =
    let p = template_of c.args.p.now in
    let q = template_of c.in-Some.q.now in
    let put = c.in_ok-push-in-Some.ensures.items in
    let more = ap length put in
    let sum = joined_length c.places.made.items (c.in_ok-e-in-Some.e ∷ []) in
    let many = c.places.invariant.many in
    let below = is_place (template_parts p) c.places.i q c.in-Some.ensures.part in
    record {
      trees = c.places.invariant.trees
          ∙ one_made p q (locals_in c.args.s.now) (bindings_in c.args.s.now) c.args.r c.places.i
          (c.places.i + 1) c.part_number-number.result c.in_ok-e-in-Some.e c.places.made.items
          c.push.new.self.items (omega arith) c.in-Some.ensures.part
          c.part_number-number.ensures.number c.in_ok-e-in-Some.ensures put;
      many = omega (arith, more, sum, many);
      within = omega (arith, below);
    }

pub node_instance-instance-requires : goal.node_instance-instance-requires
node_instance-instance-requires t c =
    let q = template_of c.in-Some.q.now in
    let less =
    part_shallower (template_of c.args.p.now) q c.places.i c.in-Some.ensures.part in (
      omega (arith, less),
      (
        c.part_number-number.ensures.below q (sym c.in-Some.ensures.part),
        c.part_number-number.ensures.near,
      ),
    )

pub node_instance-part_number-number-requires : goal.node_instance-part_number-number-requires
node_instance-part_number-number-requires t c = record {
  within = c.requires.within;
  near = c.requires.near;
  place = is_place (template_parts (template_of c.args.p.now)) c.places.i
      (template_of c.in-Some.q.now) c.in-Some.ensures.part;
}

pub instance-instance-requires : goal.instance-instance-requires
instance-instance-requires t c = (
  omega (arith, c.in-Element.ensures.3),
  (c.in-Element.ensures.1, c.in-Element.ensures.2),
)

pub instance-node_instance-requires : goal.instance-node_instance-requires
instance-node_instance-requires t c = (
  omega arith,
  (c.requires.within, (c.requires.near, c.in-Node.ensures.1)),
)
