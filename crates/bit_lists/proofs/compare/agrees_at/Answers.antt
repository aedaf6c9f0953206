use Rattle.std.proofs.Common.{◌∙◌, ap, not, List, map, ltb}
use Rattle.bit_words.specs.Words.{nat_of}
use Rattle.bit_words.proofs.Kept.{reads_kept}
use Rattle.bit_lists.proofs.compare.agrees_at.Goals as goal

pub returns-clause-value : goal.returns-clause-value
returns-clause-value g c vs =
    let reads = g.L.Logic.reads in
    let within = c.equal_bits.ensures.extends.same _ c.in_ok-within.ensures.owned vs ∙ c.in_ok-within.ensures.value vs ∙ ap (λ (w : List _). ltb c.args.place (nat_of (map (reads c.args.g.now vs) w))) c.as_slice.ensures in
    let past = c.not-past.ensures.value vs ∙ ap not within in
    let left = ap (λ (w : List _). nat_of (map (reads c.is_below.new.g vs) w)) c.as_slice-2.ensures ∙ ap nat_of (reads_kept c.is_below.ensures.extends c.requires.left vs) in
    let right = ap (λ (w : List _). nat_of (map (reads c.is_below.new.g vs) w)) c.as_slice-3.ensures ∙ ap nat_of (reads_kept c.is_below.ensures.extends c.requires.right vs) in
    let same = rw (left, right) at (c.in_ok-same.ensures.value vs) in
    rw (past, same) at (c.in_ok-agrees.ensures.value vs)
