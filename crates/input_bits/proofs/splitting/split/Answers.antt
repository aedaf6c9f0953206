use Rattle.std.proofs.Common.{subst, sym}
use Rattle.input_bits.specs.Cases.{Covers}
use Rattle.input_bits.proofs.CaseLaws.{covers_all, covers_lists, covers_texts}
use Rattle.input_bits.proofs.splitting.split.Goals as goal

pub returns-in-List-clause-covers : goal.returns-in-List-clause-covers
returns-in-List-clause-covers c = subst (Covers c.lengths.result) (sym c.in-List.is) (covers_lists c.lengths.result _ _ _ _ c.lengths.ensures.covers)

pub returns-in-Text-clause-covers : goal.returns-in-Text-clause-covers
returns-in-Text-clause-covers c = subst (Covers c.lengths-in-Text.result) (sym c.in-Text.is) (covers_texts c.lengths-in-Text.result _ _ _ c.lengths-in-Text.ensures.covers)

pub returns-in_default-clause-covers : goal.returns-in_default-clause-covers
returns-in_default-clause-covers c = covers_all c.undivided.result c.args.param.now c.undivided.ensures
