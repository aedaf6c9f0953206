use Rattle.std.proofs.Common.{◌≡◌, ◌∙◌, ◌-◌, ◌++◌, arith, ap, false, length, map, max, replicate}
use Rattle.bit_words.proofs.Kept.{reads_kept}
use Rattle.sym_cost.proofs.members.member_or.Goals as goal

pub returns-clause-value : goal.returns-clause-value
returns-clause-value g c vs =
    let rd = g.L.Logic.reads c.args.g.now vs in
    let one = c.is_place.ensures.extends in
    let test = c.in_ok-chosen.ensures.value vs in
    let wide : c.max-width.result ≡ max (length c.args.member) (length c.args.other) =
    omega (arith, c.max-width.ensures) in
    let yes = reads_kept one c.in_ok-first.ensures.made.owned vs ∙ c.in_ok-first.ensures.value vs
    ∙ ap (λ k. map rd c.args.member ++ replicate (k - length c.args.member) false) wide in
    let no = reads_kept one c.in_ok-second.ensures.made.owned vs ∙ c.in_ok-second.ensures.value vs
    ∙ ap (λ k. map rd c.args.other ++ replicate (k - length c.args.other) false) wide in
    rw (test, yes, no) at (c.in_ok-word.ensures.value vs)
