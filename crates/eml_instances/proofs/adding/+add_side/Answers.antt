use Rattle.std.proofs.Common.{◌+◌, Some, None, arith}
use Rattle.choice_tree.specs.RuleViews.{template_of}
use Rattle.choice_tree.proofs.Walking.{is_place}
use Rattle.eml_match.specs.Parts.{set_elements}
use Rattle.eml_instances.specs.Alternatives.{has_type}
use Rattle.eml_instances.specs.Searches.{rule_in, scope_in}
use Rattle.eml_instances.proofs.Depths.{element_shallower}
use Rattle.eml_instances.proofs.PartNumbers.{beyond}
use Rattle.eml_instances.proofs.SideLists.{all_sided, none_sided, one_sided, set_adds}
use Rattle.eml_instances.proofs.SideLists.{too_many_sided}
use Rattle.eml_instances.proofs.adding.+add_side.Goals as goal

pub add_elements-elements-init : goal.add_elements-elements-init
add_elements-elements-init g t c =
    let s = c.args.search.now in
    let σ = scope_in g.K.Known.gives s in
    none_sided σ (has_type σ s.wanted.ty) (rule_in s) (set_elements (template_of c.args.side.now))
    c.args.before.items s.wanted.most c.requires.before

pub add_elements-returns-in-None : goal.add_elements-returns-in-None
add_elements-returns-in-None g t c =
    let s = c.args.search.now in
    let σ = scope_in g.K.Known.gives s in
    let f = has_type σ s.wanted.ty in
    let p = template_of c.args.side.now in
    set_adds σ f (rule_in s) p c.args.before.items (Some c.elements.found) s.wanted.most
    c.requires.set
    (all_sided σ f (rule_in s) (set_elements p) c.args.before.items c.elements.found s.wanted.most
    c.elements.i c.elements.invariant (beyond (set_elements p) c.elements.i c.in-None.ensures.part))

pub add_elements-returns-in-None-2 : goal.add_elements-returns-in-None-2
add_elements-returns-in-None-2 g t c =
    let s = c.args.search.now in
    let σ = scope_in g.K.Known.gives s in
    let f = has_type σ s.wanted.ty in
    let p = template_of c.args.side.now in
    set_adds σ f (rule_in s) p c.args.before.items None s.wanted.most c.requires.set
    (too_many_sided σ f (rule_in s) (set_elements p) c.args.before.items c.elements.found.items
    c.in_ok-add_side-in-Some.field-0 (template_of c.in-Some.q.now) s.wanted.most c.elements.i
    c.elements.invariant c.in-Some.ensures.part c.in-None-2.is c.in_ok-add_side-in-Some.ensures)

pub add_elements-add_side-requires : goal.add_elements-add_side-requires
add_elements-add_side-requires g t c κs within =
    let less =
    element_shallower (template_of c.args.side.now) (template_of c.in-Some.q.now) c.elements.i
    c.in-Some.ensures.part in
    let deep = c.requires.deep in (
      omega (arith, less),
      (
        within,
        (c.requires.search, (omega (arith, less, deep), c.elements.invariant.numbered)),
      ),
    )

pub add_elements-elements-smaller : goal.add_elements-elements-smaller
add_elements-elements-smaller g t c =
    let below =
    is_place (set_elements (template_of c.args.side.now)) c.elements.i
    (template_of c.in-Some.q.now) c.in-Some.ensures.part in
    omega (arith, below)

pub add_elements-elements-preserved : goal.add_elements-elements-preserved
add_elements-elements-preserved g t c =
    let s = c.args.search.now in
    let σ = scope_in g.K.Known.gives s in
    one_sided σ (has_type σ s.wanted.ty) (rule_in s) (set_elements (template_of c.args.side.now))
    c.args.before.items c.elements.found.items c.in-Some-2.more c.in_ok-add_side-in-Some.field-0
    (template_of c.in-Some.q.now) s.wanted.most c.elements.i (c.elements.i + 1)
    c.elements.invariant (omega arith) c.in-Some.ensures.part c.in-Some-2.is
    c.in_ok-add_side-in-Some.ensures
