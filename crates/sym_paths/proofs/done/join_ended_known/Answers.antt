use Rattle.sym_paths.proofs.done.join_ended_known.Goals as goal

pub known-requires : goal.known-requires
known-requires g c = c.requires.first.bit
