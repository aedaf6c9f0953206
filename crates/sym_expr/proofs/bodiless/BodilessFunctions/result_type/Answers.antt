use Rattle.sym_expr.proofs.Faults.{bodiless_gives}
use Rattle.sym_expr.proofs.bodiless.BodilessFunctions.result_type.Goals as goal

pub returns : goal.returns
returns g c = bodiless_gives c.args.self.now c.args._f.now c.requires
