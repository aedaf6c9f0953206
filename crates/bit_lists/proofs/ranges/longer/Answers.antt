use Rattle.std.proofs.Common.{◌∙◌, ◌+◌, ap, ℕ, arith}
use Rattle.bit_lists.proofs.Ranging.{fits_longer}
use Rattle.bit_lists.proofs.ranges.longer.Goals as goal

pub returns-clause-value : goal.returns-clause-value
returns-clause-value g c vs = c.in_ok-wide.ensures.value vs (fits_longer (g.L.Logic.reads c.args.g.now vs) c.args.word.now _ c.len.ensures (omega (arith, c.len.ensures, c.requires.some)))

pub returns-clause-made : goal.returns-clause-made
returns-clause-made g c =
    let made = c.in_ok-wide.ensures.made in
    record { owned = made.owned; width = made.width ∙ ap (λ (n : ℕ). n + 1) c.len.ensures }
