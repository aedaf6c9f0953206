use Rattle.std.proofs.Common.{◌≡◌, ◌+◌, ◌/◌, ◌%◌, ◌<◌, arith, ◌∙◌, subst, Some}
use Rattle.choice_tree.specs.RuleViews.{template_of}
use Rattle.eml_match.specs.Parts.{template_parts}
use Rattle.eml_match.specs.Resolutions.{count}
use Rattle.eml_instances.specs.Resolving.{part_number}
use Rattle.eml_instances.specs.Substitutions.{bindings_in, locals_in}
use Rattle.eml_instances.proofs.PartNumbers.{beyond, part_digit}
use Rattle.eml_instances.proofs.standings.Substitution.part_number.Goals as goal

pub unreachable-requires : goal.unreachable-requires
unreachable-requires c =
    let over = beyond (template_parts (template_of c.args.p.now)) c.args.i c.in-None.ensures.part in
    let within = c.requires.place in
    omega (arith, over, within)

pub nonzero_div-above : goal.nonzero_div-above
nonzero_div-above c =
    let p = template_of c.args.p.now in
    let q = template_of c.in-Some.q.now in
    let L = locals_in c.args.self.now in
    let β = bindings_in c.args.self.now in
    let d =
    part_digit p q L β c.args.i (c.args.i + 1) c.args.r (omega arith) c.in-Some.ensures.part
    c.requires.within c.requires.near in
    let some = d.behind in
    let made = c.count_from-behind.ensures in
    omega (arith, some, made)

pub nonzero_rem-result : goal.nonzero_rem-result
nonzero_rem-result c =
    let p = template_of c.args.p.now in
    let q = template_of c.in-Some.q.now in
    let L = locals_in c.args.self.now in
    let β = bindings_in c.args.self.now in
    let d =
    part_digit p q L β c.args.i (c.args.i + 1) c.args.r (omega arith) c.in-Some.ensures.part
    c.requires.within c.requires.near in
    let some = d.own in
    let made = c.count-own.ensures in
    omega (arith, some, made)

pub returns-then-i-eq0-clause-number : goal.returns-then-i-eq0-clause-number
returns-then-i-eq0-clause-number c =
    let p = template_of c.args.p.now in
    let q = template_of c.in-Some.q.now in
    let L = locals_in c.args.self.now in
    let β = bindings_in c.args.self.now in
    let d =
    part_digit p q L β c.args.i (c.args.i + 1) c.args.r (omega arith) c.in-Some.ensures.part
    c.requires.within c.requires.near in
    (λ k. (c.args.r / c.count_from-behind.ensures k) / c.kinds_of-kinds.ensures k) ∙ d.first
    c.if-i-eq0.true

pub returns-then-i-eq0-clause-below : goal.returns-then-i-eq0-clause-below
returns-then-i-eq0-clause-below c =
    λ x at.
    let p = template_of c.args.p.now in
    let q = template_of c.in-Some.q.now in
    let L = locals_in c.args.self.now in
    let β = bindings_in c.args.self.now in
    let d =
    part_digit p q L β c.args.i (c.args.i + 1) c.args.r (omega arith) c.in-Some.ensures.part
    c.requires.within c.requires.near in
    let e : q ≡ x = (let s : Some q ≡ Some x = c.in-Some.ensures.part ∙ at in cc) in
    let number : c.args.r / c.count_from-behind.result / c.kinds_of-kinds.result ≡ part_number p L
    β c.args.i c.args.r =
    (λ k. (c.args.r / c.count_from-behind.ensures k) / c.kinds_of-kinds.ensures k) ∙ d.first
    c.if-i-eq0.true in
    rw number (subst (λ y. part_number p L β c.args.i c.args.r < count y L β) e d.below)

pub returns-else-i-eq0-clause-number : goal.returns-else-i-eq0-clause-number
returns-else-i-eq0-clause-number c =
    let p = template_of c.args.p.now in
    let q = template_of c.in-Some.q.now in
    let L = locals_in c.args.self.now in
    let β = bindings_in c.args.self.now in
    let d =
    part_digit p q L β c.args.i (c.args.i + 1) c.args.r (omega arith) c.in-Some.ensures.part
    c.requires.within c.requires.near in
    (λ k. (c.args.r / c.count_from-behind.ensures k) % c.count-own.ensures k) ∙ d.later (omega
    (arith, c.if-i-eq0.false))

pub returns-else-i-eq0-clause-below : goal.returns-else-i-eq0-clause-below
returns-else-i-eq0-clause-below c =
    λ x at.
    let p = template_of c.args.p.now in
    let q = template_of c.in-Some.q.now in
    let L = locals_in c.args.self.now in
    let β = bindings_in c.args.self.now in
    let d =
    part_digit p q L β c.args.i (c.args.i + 1) c.args.r (omega arith) c.in-Some.ensures.part
    c.requires.within c.requires.near in
    let e : q ≡ x = (let s : Some q ≡ Some x = c.in-Some.ensures.part ∙ at in cc) in
    let number : c.args.r / c.count_from-behind.result % c.count-own.result ≡ part_number p L β
    c.args.i c.args.r =
    (λ k. (c.args.r / c.count_from-behind.ensures k) % c.count-own.ensures k) ∙ d.later (omega
    (arith, c.if-i-eq0.false)) in
    rw number (subst (λ y. part_number p L β c.args.i c.args.r < count y L β) e d.below)
