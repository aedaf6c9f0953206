use Rattle.std.proofs.Common.{◌≡◌, ◌++◌}
use Rattle.std.specs.Prelude.{codes}
use Rattle.sample_maker.specs.Samples.{blocks_text}
use Rattle.sample_maker.specs.Versions.{operator_of}
use Rattle.sample_maker.proofs.program.program.Given as goal

-- the blocks so far stand behind the first lines
abbrev pub invariant-loop-place : goal.invariant-loop-place
invariant-loop-place l = l.text.items ≡ codes "def f(x):\n    t = 0\n" ++ blocks_text (operator_of l.version l.number) l.number l.place
