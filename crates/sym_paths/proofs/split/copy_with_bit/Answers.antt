use Rattle.std.proofs.Common.{◌∙◌, ◌∷◌, [], ap, refl, map, length}
use Rattle.sym_values.specs.Forms.{forms_of}
use Rattle.sym_values.specs.Reading.{map_bits}
use Rattle.sym_paths.specs.Later.{path_values, path_set, holds_path}
use Rattle.sym_paths.specs.Paths.{Way, gone_way}
use Rattle.sym_paths.proofs.Joins.{same_way}
use Rattle.sym_paths.proofs.split.copy_with_bit.Goals as goal

pub returns-clause-held : goal.returns-clause-held
returns-clause-held g c =
    let h = c.requires.held in
    let values = c.in_ok-values.ensures in
    let set = c.in_ok-set.ensures in
    holds_path _ c.requires.bit (rw values (path_values h)) (rw set (path_set h))
    (ap forms_of values ∙ h.forms_are) (ap length set ∙ h.long)

pub returns-clause-value : goal.returns-clause-value
returns-clause-value g c vs =
    let rd = g.L.Logic.reads c.args._g.now vs in
    let values = ap (map (map_bits rd)) c.in_ok-values.ensures in
    let set = ap (map rd) c.in_ok-set.ensures in
    ap (λ (w : Way). gone_way c.args._slots.now (w ∷ [])) (same_way refl values set)
