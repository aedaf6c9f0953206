use Rattle.std.proofs.Common.{◌≡◌, ◌+◌, ◌*◌, arith, ap, ◌∙◌, sym, drop}
use Rattle.std.proofs.Math.Nat.{mul-one}
use Rattle.choice_tree.specs.RuleViews.{template_of}
use Rattle.choice_tree.proofs.Walking.{is_place}
use Rattle.eml_match.specs.Parts.{set_elements, template_parts}
use Rattle.eml_match.specs.Resolutions.{count}
use Rattle.eml_instances.specs.Resolving.{counts_product, stopped, template_kinds}
use Rattle.eml_instances.specs.Substitutions.{bindings_in, locals_in}
use Rattle.eml_instances.proofs.Counts.{counted_at_root, product_end, product_next, stop_step}
use Rattle.eml_instances.proofs.Counts.{stop_times, sum_end, sum_next}
use Rattle.eml_instances.proofs.Depths.{element_shallower, part_shallower}
use Rattle.eml_instances.proofs.standings.Substitution.+count.Goals as goal

pub node_count-returns : goal.node_count-returns
node_count-returns t c =
    let p = template_of c.args.p.now in
    let L = locals_in c.args.self.now in
    let β = bindings_in c.args.self.now in
    c.times.ensures
    ∙ (λ i. stopped (c.kinds_of.ensures i * c.count_from.ensures i))
    ∙ stop_times (template_kinds p β) (counts_product (template_parts p) L β)

pub count_from-returns-in-None : goal.count_from-returns-in-None
count_from-returns-in-None t c =
    let L = locals_in c.args.self.now in
    let β = bindings_in c.args.self.now in
    let none =
    product_end (template_parts (template_of c.args.p.now)) c.parts.i L β c.in-None.ensures.part in
    let few = c.parts.invariant.few in
    let left : stopped (c.parts.total
    * counts_product (drop c.parts.i (template_parts (template_of c.args.p.now))) L β)
    ≡ c.parts.total = rw (none, mul-one c.parts.total) (omega (arith, few)) in
    sym (c.parts.invariant.whole ∙ left)

pub count_from-root_count-requires : goal.count_from-root_count-requires
count_from-root_count-requires t c =
    let less =
    part_shallower (template_of c.args.p.now) (template_of c.in-Some.q.now) c.parts.i
    c.in-Some.ensures.part in
    (omega (arith, less), tt)

pub count_from-parts-smaller : goal.count_from-parts-smaller
count_from-parts-smaller t c =
    let below =
    is_place (template_parts (template_of c.args.p.now)) c.parts.i (template_of c.in-Some.q.now)
    c.in-Some.ensures.part in
    omega (arith, below)

pub count_from-parts-preserved : goal.count_from-parts-preserved
count_from-parts-preserved t c =
    let q = template_of c.in-Some.q.now in
    let qs = template_parts (template_of c.args.p.now) in
    let L = locals_in c.args.self.now in
    let β = bindings_in c.args.self.now in
    let made : c.times-total.result ≡ stopped (c.parts.total * stopped (count q L β)) =
    c.times-total.ensures
    ∙ ap (λ n. stopped (c.parts.total * n))
    (c.root_count.ensures ∙ ap stopped (sym (counted_at_root q L β))) in
    let next =
    product_next qs c.parts.i (c.parts.i + 1) q L β (omega arith) c.in-Some.ensures.part in
    let rest = counts_product (drop (c.parts.i + 1) qs) L β in
    record {
      whole = c.parts.invariant.whole
          ∙ ap (λ n. stopped (c.parts.total * n)) next
          ∙ sym (stop_step c.parts.total (count q L β) rest)
          ∙ ap (λ n. stopped (n * rest)) (sym made);
      few = omega (arith, made);
    }

pub count_each-returns-in-None : goal.count_each-returns-in-None
count_each-returns-in-None t c =
    let L = locals_in c.args.self.now in
    let β = bindings_in c.args.self.now in
    let none =
    sum_end (set_elements (template_of c.args.p.now)) c.elements.i L β c.in-None.ensures.part in
    let few = c.elements.invariant.few in
    let whole = c.elements.invariant.whole in
    omega (arith, none, few, whole)

pub count_each-root_count-requires : goal.count_each-root_count-requires
count_each-root_count-requires t c =
    let less =
    element_shallower (template_of c.args.p.now) (template_of c.in-Some.q.now) c.elements.i
    c.in-Some.ensures.part in
    (omega (arith, less), tt)

pub count_each-elements-smaller : goal.count_each-elements-smaller
count_each-elements-smaller t c =
    let below =
    is_place (set_elements (template_of c.args.p.now)) c.elements.i (template_of c.in-Some.q.now)
    c.in-Some.ensures.part in
    omega (arith, below)

pub count_each-elements-preserved : goal.count_each-elements-preserved
count_each-elements-preserved t c =
    let q = template_of c.in-Some.q.now in
    let qs = set_elements (template_of c.args.p.now) in
    let L = locals_in c.args.self.now in
    let β = bindings_in c.args.self.now in
    let counted : c.root_count.result ≡ stopped (count q L β) =
    c.root_count.ensures ∙ ap stopped (sym (counted_at_root q L β)) in
    let made = c.plus-total.ensures in
    let next =
    sum_next qs c.elements.i (c.elements.i + 1) q L β (omega arith) c.in-Some.ensures.part in
    let whole = c.elements.invariant.whole in
    record {
      whole = omega (arith, counted, made, next, whole);
      few = omega (arith, made);
    }
