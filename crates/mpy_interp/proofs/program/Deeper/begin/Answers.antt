use Rattle.mpy_interp.proofs.program.Deeper.begin.Goals as goal

pub returns-in-Some : goal.returns-in-Some
returns-in-Some g c = rw (rw c.in-Some.is at c.func_named.ensures) c.begin.ensures
