use Rattle.sym_paths.specs.Later.{path_values, path_set, holds_path}
use Rattle.sym_paths.proofs.split.with_bit.Goals as goal

pub returns-clause-held : goal.returns-clause-held
returns-clause-held g c =
    let h = c.requires.held in
    holds_path _ c.requires.bit (path_values h) (path_set h) h.forms_are h.long
