use Rattle.std.proofs.lemmas.Bool.Decides.{Decides-at}
use Rattle.mpy_tree.specs.View.{routines_of}
use Rattle.mpy_tree.proofs.Sameness.{routines_decides}
use Rattle.mpy_tree.proofs.equality.same.Goals as goal

pub returns : goal.returns
returns c = Decides-at c.same_funcs.result _ c.same_funcs.ensures (routines_decides (routines_of c.args.a.now) (routines_of c.args.b.now))
