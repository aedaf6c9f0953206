use Rattle.bit_words.proofs.logic.Logic.xor.Goals as goal

pub not-not_a-requires : goal.not-not_a-requires
not-not_a-requires g c = c.and.ensures.extends.kept _ c.requires.left

pub not-not_b-requires : goal.not-not_b-requires
not-not_b-requires g c = c.and.ensures.extends.kept _ c.requires.right

pub not-not_both-requires : goal.not-not_both-requires
not-not_both-requires g c = c.and-2.ensures.extends.kept _ c.in_ok-both.ensures.owned
