use Rattle.std.proofs.Common.{◌∙◌, ◌+◌, ◌==◌, ◌||◌, ap, sym}
use Rattle.std.proofs.lemmas.Bool.{eq-eqb, ne_eqb, or_left}
use Rattle.bit_words.specs.Words.{nat_read}
use Rattle.input_bits.proofs.cases.sequence_part.Goals as goal

pub returns-then-is_whole-clause-within : goal.returns-then-is_whole-clause-within
returns-then-is_whole-clause-within g c vs =
    let n = nat_read g.L.Logic.reads c.args.g.now vs c.args.len.now in
    c.constant-within.ensures.value vs ∙ sym (or_left (c.args.split.parts == 1) (n == c.args.split.first + c.args.part) (eq-eqb c.args.split.parts 1 c.if-is_whole.true))

pub returns-clause-within : goal.returns-clause-within
returns-clause-within g c vs =
    let n = nat_read g.L.Logic.reads c.args.g.now vs c.args.len.now in
    c.in_ok-known.ensures.within vs ∙ sym (ap (λ b. b || n == c.args.split.first + c.args.part) (ne_eqb c.args.split.parts 1 c.if-is_whole.false))
