use Rattle.std.proofs.Common.{◌≡◌, ◌+◌, ◌*◌}
use Rattle.std.proofs.Common.{arith, ap, sym, ◌∙◌}
use Rattle.std.proofs.Common.{drop, min}
use Rattle.choice_tree.specs.RuleViews.{template_of}
use Rattle.eml_faults.specs.Sides.{set_count, side_parts}
use Rattle.eml_faults.specs.Walks.{product_of_counts, sum_of_counts}
use Rattle.eml_match.proofs.Places.{is_place}
use Rattle.eml_faults.proofs.Walks.{count_of_node, count_of_set, part_smaller}
use Rattle.eml_faults.proofs.Walks.{product_end, product_next, rest_at, rest_end, sum_end, sum_next}
use Rattle.eml_faults.proofs.nodes.+count.Goals as goal

pub set_count-returns-then-is_set : goal.set_count-returns-then-is_set
set_count-returns-then-is_set t c =
    let p = template_of c.args.e.now in
    c.count_of_any.ensures
    ∙ ap (min 65) (sym (count_of_set p (sym c.is_set.ensures ∙ c.if-is_set.true)))

pub set_count-returns-else-is_set : goal.set_count-returns-else-is_set
set_count-returns-else-is_set t c =
    let p = template_of c.args.e.now in
    c.count_of_all.ensures
    ∙ ap (min 65) (sym (count_of_node p (sym c.is_set.ensures ∙ c.if-is_set.false)))

pub count_of_all-returns-in-None : goal.count_of_all-returns-in-None
count_of_all-returns-in-None t c =
    product_end 65 c.parts.product c.parts.invariant.0
    ∙ ap (λ qs. min 65 (c.parts.product * product_of_counts qs))
    (sym (rest_end (side_parts (template_of c.args.e.now)) c.parts.i c.in-None.ensures.part))
    ∙ sym c.parts.invariant.1

pub count_of_all-set_count-requires : goal.count_of_all-set_count-requires
count_of_all-set_count-requires t c =
    let less =
    part_smaller (template_of c.args.e.now) (template_of c.in-Some.part.now) c.parts.i
    c.in-Some.ensures.part in
    (omega (arith, less), tt)

pub count_of_all-parts-smaller : goal.count_of_all-parts-smaller
count_of_all-parts-smaller t c =
    let below =
    is_place (side_parts (template_of c.args.e.now)) c.parts.i
    (template_of c.in-Some.part.now) c.in-Some.ensures.part in
    omega (arith, below)

pub count_of_all-parts-preserved : goal.count_of_all-parts-preserved
count_of_all-parts-preserved t c =
    let ps = side_parts (template_of c.args.e.now) in
    let q = template_of c.in-Some.part.now in
    let rest = drop (c.parts.i + 1) ps in
    let now = c.parts.product in
    let new = c.min-product.result in
    let found : new ≡ min 65 (now * c.set_count.result) = omega arith in
    let parted = rest_at ps c.parts.i (c.parts.i + 1) q (omega arith) c.in-Some.ensures.part in
    let kept =
    c.parts.invariant.1
    ∙ ap (λ qs. min 65 (now * product_of_counts qs)) parted
    ∙ product_next 65 now (set_count q) (product_of_counts rest) c.set_count.result new c.set_count.ensures
    found in
    (omega arith, kept)

pub count_of_any-returns-in-None : goal.count_of_any-returns-in-None
count_of_any-returns-in-None t c =
    sum_end 65 c.parts.sum c.parts.invariant.0
    ∙ ap (λ qs. min 65 (c.parts.sum + sum_of_counts qs))
    (sym (rest_end (side_parts (template_of c.args.e.now)) c.parts.i c.in-None.ensures.part))
    ∙ sym c.parts.invariant.1

pub count_of_any-set_count-requires : goal.count_of_any-set_count-requires
count_of_any-set_count-requires t c =
    let less =
    part_smaller (template_of c.args.e.now) (template_of c.in-Some.part.now) c.parts.i
    c.in-Some.ensures.part in
    (omega (arith, less), tt)

pub count_of_any-parts-smaller : goal.count_of_any-parts-smaller
count_of_any-parts-smaller t c =
    let below =
    is_place (side_parts (template_of c.args.e.now)) c.parts.i
    (template_of c.in-Some.part.now) c.in-Some.ensures.part in
    omega (arith, below)

pub count_of_any-parts-preserved : goal.count_of_any-parts-preserved
count_of_any-parts-preserved t c =
    let ps = side_parts (template_of c.args.e.now) in
    let q = template_of c.in-Some.part.now in
    let rest = drop (c.parts.i + 1) ps in
    let now = c.parts.sum in
    let new = c.min-sum.result in
    let found : new ≡ min 65 (now + c.set_count.result) = omega arith in
    let parted = rest_at ps c.parts.i (c.parts.i + 1) q (omega arith) c.in-Some.ensures.part in
    let kept =
    c.parts.invariant.1
    ∙ ap (λ qs. min 65 (now + sum_of_counts qs)) parted
    ∙ sum_next 65 now (set_count q) (sum_of_counts rest) c.set_count.result new c.set_count.ensures
    found in
    (omega arith, kept)
