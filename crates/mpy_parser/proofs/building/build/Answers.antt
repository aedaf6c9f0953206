use Rattle.std.proofs.Common.{[], ◌≡◌, sym, ap, ◌∙◌, subst}
use Rattle.std.proofs.lemmas.Result.{IfOk-weaker}
use Rattle.mpy_tree.specs.View.{routines_of}
use Rattle.mpy_parser.specs.Nesting.{AreRoutines}
use Rattle.mpy_parser.specs.Piles.{heap, with_lines}
use Rattle.mpy_parser.specs.Views.{lines_of}
use Rattle.mpy_parser.proofs.Fine.{fine_lines}
use Rattle.mpy_parser.proofs.Nests.{nests}
use Rattle.mpy_parser.proofs.Piled.{routines_put}
use Rattle.mpy_parser.proofs.building.build.Goals as goal

pub returns : goal.returns
returns c =
    let ls = lines_of c.args.entries.items in
    let n = nests ls (fine_lines [] ls c.requires.columns c.requires.blocks) in
    IfOk-weaker c.assemble.result (λ p. routines_of p ≡ (with_lines ls (heap [] [])).made) (λ p. AreRoutines ls (routines_of p))
    (λ p e. subst (AreRoutines ls) (sym (e ∙ ap (λ h. h.made) (routines_put n.1))) n.1) c.assemble.ensures
