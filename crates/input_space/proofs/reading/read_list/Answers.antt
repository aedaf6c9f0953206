use Rattle.std.proofs.lemmas.Result.{IfOk-weaker}
use Rattle.input_space.specs.Cases.{SpellsEach, SpellsNumber, SpellsNumbers}
use Rattle.clause_base.specs.Readings.{IsReading}
use Rattle.input_space.proofs.ReadValues.{list_reading, no_list}
use Rattle.input_space.proofs.reading.read_list.Goals as goal

pub returns-in-Some : goal.returns-in-Some
returns-in-Some c =
    IfOk-weaker c.read_numbers.result (IsReading (SpellsEach SpellsNumber c.in-Some.inner.now)) (IsReading (SpellsNumbers c.args.text.now))
    (λ o h. list_reading c.args.text.now c.in-Some.inner.now o c.in-Some.ensures h)
    c.read_numbers.ensures

pub returns-in-None : goal.returns-in-None
returns-in-None c = no_list c.args.text.now c.in-None.ensures
