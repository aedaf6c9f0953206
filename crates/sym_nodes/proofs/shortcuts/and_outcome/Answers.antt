use Rattle.bit_words.specs.Logic.{extends_trans}
use Rattle.sym_values.specs.Owned.{truth_owned}
use Rattle.sym_nodes.proofs.shortcuts.and_outcome.Goals as goal

pub and-requires-2-clause-left : goal.and-requires-2-clause-left
and-requires-2-clause-left g c = (extends_trans c.and.ensures.extends c.or.ensures.extends).kept _ (truth_owned c.requires.left.owned c.truth_of-v.ensures)
