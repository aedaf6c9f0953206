use Rattle.std.proofs.lemmas.Bool.Decides.{Decides-at}
use Rattle.mpy_tree.specs.View.{term_of}
use Rattle.mpy_tree.proofs.Sameness.{term_decides}
use Rattle.mpy_tree.proofs.equality.same_expr.Goals as goal

pub returns : goal.returns
returns c = Decides-at c.equal.result _ c.equal.ensures (term_decides (term_of c.args.a.now) (term_of c.args.b.now))
