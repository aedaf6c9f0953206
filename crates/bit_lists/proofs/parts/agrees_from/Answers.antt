use Rattle.std.proofs.Common.{◌≤◌, ◌+◌, ◌∙◌, ap, arith, not, List, length, map, ltb}
use Rattle.bit_words.specs.Words.{nat_of, nat_read}
use Rattle.bit_lists.proofs.Held.{word_is}
use Rattle.bit_lists.proofs.Within.{agrees_past}
use Rattle.bit_lists.proofs.parts.agrees_from.Goals as goal

pub is_past-requires : goal.is_past-requires
is_past-requires g c =
    let needs = c.requires.1.1 in
    let number = word_is c.as_slice.ensures needs.1.0.length_of in
    record { small = omega (arith, needs.0, needs.1.1.1.1); owned = number.owned }

pub returns-clause-value : goal.returns-clause-value
returns-clause-value g c vs proper =
    let reads = g.L.Logic.reads in
    let past = c.in_ok-past.ensures.value vs ∙ ap (λ (w : List _). not (ltb c.args.place (nat_of (map (reads c.args.g.now vs) w)))) c.as_slice.ensures in
    let fits : nat_read reads c.args.g.now vs c.args.text.now.len.now ≤ length c.args.text.now.items.now = proper in
    agrees_past _ (nat_read reads c.args.g.now vs c.args.text.now.len.now) c.args.place (c.args.start + c.args.place) _ _ past (omega (arith, fits, c.len.ensures))
