use Rattle.std.proofs.Common.{◌+◌, ◌-◌, arith, ap}
use Rattle.choice_tree.specs.RuleViews.{template_of}
use Rattle.eml_instances.specs.Substitutions.{bindings_in, locals_in}
use Rattle.eml_instances.proofs.Depths.{element_shallower}
use Rattle.eml_instances.proofs.PartNumbers.{set_begins, set_ends, set_found, set_goes_on}
use Rattle.eml_instances.proofs.standings.Substitution.element_root.Goals as goal

pub elements-init : goal.elements-init
elements-init c =
    set_begins (template_of c.args.p.now) (locals_in c.args.self.now) (bindings_in c.args.self.now)
    c.args.r c.requires.set c.requires.within c.requires.near

pub unreachable-requires : goal.unreachable-requires
unreachable-requires c =
    set_ends (template_of c.args.p.now) (locals_in c.args.self.now) (bindings_in c.args.self.now)
    c.args.r c.elements.i c.elements.n c.elements.invariant c.in-None.ensures.part

pub returns-then-n-count : goal.returns-then-n-count
returns-then-n-count c =
    let below = c.if-n-count.true in
    let made = c.count-count.ensures in
    let found =
    set_found (template_of c.args.p.now) (template_of c.in-Some.q.now) (locals_in c.args.self.now)
    (bindings_in c.args.self.now) c.args.r c.elements.i c.elements.n c.elements.invariant
    c.in-Some.ensures.part (omega (arith, below, made)) in (
      found.0,
      found.1,
      c.elements.invariant.near,
      element_shallower (template_of c.args.p.now) (template_of c.in-Some.q.now) c.elements.i
          c.in-Some.ensures.part,
    )

pub elements-preserved : goal.elements-preserved
elements-preserved c =
    let above = c.if-n-count.false in
    let made = c.count-count.ensures in
    set_goes_on (template_of c.args.p.now) (template_of c.in-Some.q.now) (locals_in c.args.self.now)
    (bindings_in c.args.self.now) c.args.r c.elements.i (c.elements.i + 1) c.elements.n
    (c.elements.n - c.count-count.result) c.elements.invariant (omega arith) c.in-Some.ensures.part
    (omega (arith, above, made)) (ap (λ x. c.elements.n - x) made)
