use Rattle.sym_paths.specs.Later.{path_bit}
use Rattle.sym_paths.proofs.join.join_known.Goals as goal

pub known-requires : goal.known-requires
known-requires g c = path_bit c.requires.first
