use Rattle.std.proofs.Common.{◌∙◌, ap, sym, arith, not}
use Rattle.bit_words.proofs.Decided.{read_fits}
use Rattle.bit_words.proofs.resize.resize.Goals as goal

pub returns-clause-over : goal.returns-clause-over
returns-clause-over g c vs =
    let fit = read_fits (g.L.Logic.reads c.args.g.now vs) c.in_ok-word.word c.args.width (omega (arith, c.in_ok-word.ensures.made.width)) c.requires.wide in
    c.constant-over.ensures.value vs ∙ ap not (sym (rw (c.in_ok-word.ensures.value vs) at fit))
