use Rattle.std.proofs.Common.{◌+◌, ◌<◌, length, arith}
use Rattle.std.proofs.lemmas.Grind.{common_steps}
use Rattle.eml_instances.specs.Alternatives.{alternative_seen}
use Rattle.eml_rewrite.specs.LeastSizes.{draft_least}
use Rattle.eml_rewrite.specs.Spots.{context_at}
use Rattle.eml_rewrite.proofs.LeastSizes.{members_begin, one_more}
use Rattle.eml_rewrite.proofs.Trunks.{some_at}
use Rattle.eml_rewrite.proofs.least_size.count_members.Goals as goal

pub loop-a-init : goal.loop-a-init
loop-a-init g c = λ least h.
    let some : 0 < length c.args.found.now = grind (arith, common_steps) in
    members_begin least (alternative_seen (context_at c.args.spot.now).scope) c.args.found.now some

pub returns-then-nodes-gt-MOST : goal.returns-then-nodes-gt-MOST
returns-then-nodes-gt-MOST g c = λ least h.
    let seen = alternative_seen (context_at c.args.spot.now).scope in
    let front =
    one_more (λ a. draft_least least (seen a).draft) c.args.found.now c.loop-a.a-index
    (c.loop-a.a-index + 1) c.a-item.result c.loop-a.nodes c.in_ok-more.more
    c.saturating_add-nodes.result _ (omega arith)
    (some_at c.args.found.now c.loop-a.a-index c.a-item.result c.loop-a-test.true c.a-item.is)
    (c.in_ok-more.ensures least h) (omega arith) (c.loop-a.invariant least h) in
    omega arith

pub loop-a-preserved : goal.loop-a-preserved
loop-a-preserved g c = λ least h.
    let seen = alternative_seen (context_at c.args.spot.now).scope in
    one_more (λ a. draft_least least (seen a).draft) c.args.found.now c.loop-a.a-index
    (c.loop-a.a-index + 1) c.a-item.result c.loop-a.nodes c.in_ok-more.more
    c.saturating_add-nodes.result _ (omega arith)
    (some_at c.args.found.now c.loop-a.a-index c.a-item.result c.loop-a-test.true c.a-item.is)
    (c.in_ok-more.ensures least h) (omega arith) (c.loop-a.invariant least h)

pub returns : goal.returns
returns g c = λ least h. let front = c.loop-a.invariant least h in omega arith
