use Rattle.bit_words.specs.Logic.{extends_trans}
use Rattle.bit_words.proofs.compare.less_digit.Goals as goal

pub and-requires-2 : goal.and-requires-2
and-requires-2 g c = record { left = c.and.ensures.extends.kept _ c.requires.left; right = c.and.ensures.extends.kept _ c.not-not_right.ensures.owned }

pub returns-in_err-above-clause-extends : goal.returns-in_err-above-clause-extends
returns-in_err-above-clause-extends g c = extends_trans c.and.ensures.extends c.and-2.ensures.extends

pub and-requires-3 : goal.and-requires-3
and-requires-3 g c = record { left = c.not-not_above.ensures.owned; right = (extends_trans c.and.ensures.extends c.and-2.ensures.extends).kept _ c.requires.before }

pub returns-in_err-still-clause-extends : goal.returns-in_err-still-clause-extends
returns-in_err-still-clause-extends g c = extends_trans c.and.ensures.extends (extends_trans c.and-2.ensures.extends c.and-3.ensures.extends)

pub or-requires : goal.or-requires
or-requires g c = record { left = (extends_trans c.and-2.ensures.extends c.and-3.ensures.extends).kept _ c.in_ok-below.ensures.owned; right = c.in_ok-still.ensures.owned }

pub returns-clause-extends : goal.returns-clause-extends
returns-clause-extends g c = extends_trans c.and.ensures.extends (extends_trans c.and-2.ensures.extends (extends_trans c.and-3.ensures.extends c.or.ensures.extends))

pub returns-clause-owned : goal.returns-clause-owned
returns-clause-owned g c = c.or.ensures.owned
