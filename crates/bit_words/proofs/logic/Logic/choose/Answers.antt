use Rattle.bit_words.specs.Logic.{extends_trans}
use Rattle.bit_words.proofs.logic.Logic.choose.Goals as goal

pub and-requires-2 : goal.and-requires-2
and-requires-2 g c = record { left = c.and.ensures.extends.kept _ c.not-other.ensures.owned; right = c.and.ensures.extends.kept _ c.requires.no }

pub returns-in_err-second-clause-extends : goal.returns-in_err-second-clause-extends
returns-in_err-second-clause-extends g c = extends_trans c.and.ensures.extends c.and-2.ensures.extends

pub not-not_first-requires : goal.not-not_first-requires
not-not_first-requires g c = c.and-2.ensures.extends.kept _ c.in_ok-first.ensures.owned

pub and-requires-3 : goal.and-requires-3
and-requires-3 g c = record { left = c.not-not_first.ensures.owned; right = c.not-not_second.ensures.owned }

pub returns-in_err-neither-clause-extends : goal.returns-in_err-neither-clause-extends
returns-in_err-neither-clause-extends g c = extends_trans c.and.ensures.extends (extends_trans c.and-2.ensures.extends c.and-3.ensures.extends)

pub returns-clause-extends : goal.returns-clause-extends
returns-clause-extends g c = extends_trans c.and.ensures.extends (extends_trans c.and-2.ensures.extends c.and-3.ensures.extends)

pub returns-clause-owned : goal.returns-clause-owned
returns-clause-owned g c = c.not.ensures.owned
