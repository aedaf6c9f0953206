use Rattle.std.proofs.Common.{◌≤◌, ◌∙◌, ◌++◌, Some, ap, arith, drop, length, sym}
use Rattle.std.proofs.lemmas.List.{append-nil, drop_all}
use Rattle.sym_paths.proofs.Kept.{behind_more}
use Rattle.sym_paths.proofs.printed.printed_on.Goals as goal

pub loop-i-init : goal.loop-i-init
loop-i-init g c =
    let values = c.args.path.now.values in
    ap (λ w. w ++ drop c.count-i.result values) c.new-printed.ensures
    ∙ ap (λ n. drop n values) c.count-i.ensures

pub loop-i-preserved : goal.loop-i-preserved
loop-i-preserved g c =
    behind_more c.args.path.now.values c.loop-i.printed c.push.new.self _ c.loop-i.i
    c.in_ok-value.value c.loop-i.invariant (c.at.ensures ∙ ap Some (sym c.in_ok-value.ensures))
    c.in_ok-push.ensures.ok

pub returns : goal.returns
returns g c =
    let values = c.args.path.now.values in
    let i = c.loop-i.i in
    let past : length values ≤ i = omega arith in
    sym (append-nil c.loop-i.printed)
    ∙ ap (λ w. c.loop-i.printed ++ w) (sym (drop_all i values past))
    ∙ c.loop-i.invariant
