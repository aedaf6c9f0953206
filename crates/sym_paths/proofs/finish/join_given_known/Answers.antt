use Rattle.sym_paths.proofs.finish.join_given_known.Goals as goal

pub known-requires : goal.known-requires
known-requires g c = c.requires.first.bit
