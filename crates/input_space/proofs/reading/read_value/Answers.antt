use Rattle.std.proofs.Common.{sym, ◌∙◌}
use Rattle.input_space.proofs.ReadValues.{no_value}
use Rattle.input_space.proofs.reading.read_value.Goals as goal

pub returns-in-None : goal.returns-in-None
returns-in-None c =
    no_value c.args.text.now (sym c.in_ok-characters.ensures ∙ c.in_default.is) (rw c.in_default-2.is at c.in_ok-numbers.ensures) c.in_default-truth.ensures c.in-None.ensures
