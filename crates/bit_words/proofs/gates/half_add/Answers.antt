use Rattle.bit_words.specs.Logic.{extends_trans}
use Rattle.bit_words.proofs.gates.half_add.Goals as goal

pub xor-requires : goal.xor-requires
xor-requires g c = record { left = c.and.ensures.extends.kept _ c.requires.left; right = c.and.ensures.extends.kept _ c.requires.right }

pub returns-in_err-one-clause-extends : goal.returns-in_err-one-clause-extends
returns-in_err-one-clause-extends g c = extends_trans c.and.ensures.extends c.xor.ensures.extends

pub returns-clause-extends : goal.returns-clause-extends
returns-clause-extends g c = extends_trans c.and.ensures.extends c.xor.ensures.extends

pub returns-clause-owned_both : goal.returns-clause-owned_both
returns-clause-owned_both g c = c.xor.ensures.extends.kept _ c.in_ok-both.ensures.owned

pub returns-clause-owned_one : goal.returns-clause-owned_one
returns-clause-owned_one g c = c.in_ok-one.ensures.owned
