use Rattle.std.proofs.Common.{◌+◌, ◌∙◌, refl, ap, map, arith}
use Rattle.mpy_scopes.specs.Seen.{site_of}
use Rattle.mpy_tree.specs.View.{routine_of}
use Rattle.eml_rewrite.specs.LeastSizes.{line_least}
use Rattle.eml_rewrite.specs.Spots.{context_at, setting_at}
use Rattle.eml_rewrite.proofs.LeastPrograms.{lines_counted}
use Rattle.eml_rewrite.proofs.LeastSizes.{one_more}
use Rattle.eml_rewrite.proofs.Trunks.{some_at}
use Rattle.eml_rewrite.proofs.least_program.count_func.Goals as goal

pub returns-then-nodes-gt-MOST : goal.returns-then-nodes-gt-MOST
returns-then-nodes-gt-MOST g c =
    let here = context_at c.args.spot.now in
    let one = line_least (setting_at c.args.spot.now) here in
    let xs = c.deref-line-items.result.now in
    let front =
    one_more (λ s. one (site_of s)) xs c.loop-line.line-index (c.loop-line.line-index + 1)
    c.line-item.result c.loop-line.nodes c.in_ok-more.more c.saturating_add-nodes.result _
    (omega arith) (some_at xs c.loop-line.line-index c.line-item.result c.loop-line-test.true
    c.line-item.is) c.in_ok-more.ensures.nodes (omega arith) c.loop-line.invariant in
    lines_counted (setting_at c.args.spot.now) c.requires here (routine_of c.args.func.now) xs
    c.saturating_add-nodes.result
    (ap (map site_of) c.deref-line-items.ensures.value
    ∙ c.in_ok-push_sites.ensures
    ∙ rw c.new-lines.ensures.items refl) (omega arith)

pub returns : goal.returns
returns g c =
    let front = c.loop-line.invariant in
    let xs = c.deref-line-items.result.now in
    lines_counted (setting_at c.args.spot.now) c.requires (context_at c.args.spot.now)
    (routine_of c.args.func.now) xs c.loop-line.nodes
    (ap (map site_of) c.deref-line-items.ensures.value
    ∙ c.in_ok-push_sites.ensures
    ∙ rw c.new-lines.ensures.items refl) (omega arith)
