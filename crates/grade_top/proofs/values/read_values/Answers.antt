-- a value more, one that is refused, and the end
use Rattle.std.proofs.Common.{map, arith}
use Rattle.std.specs.String.{string_bytes}
use Rattle.file_commands.proofs.Stopping.{stopped}
use Rattle.grade_top.proofs.ReadingLaws.{all_read, item_at, mapped_at, read_on, value_refused}
use Rattle.grade_top.proofs.values.read_values.Goals as goal

pub returns-in_err-value : goal.returns-in_err-value
returns-in_err-value c =
    stopped _ _ _ c.from_residual.result c.in_err-value.field-0.0 c.from_residual.ensures.1 c.in_err-value.ensures
    (value_refused c.args.params.now (map string_bytes c.args.words.now) c.loop-i.i c.loop-i.values.items c.index-params-i.result c.deref.result.now
    (item_at c.args.params.now c.loop-i.i c.index-params-i.result (omega arith) c.index-params-i.is)
    (rw c.deref.ensures (mapped_at string_bytes c.args.words.now c.loop-i.i c.index-words-i.result (omega (arith, c.requires.same)) c.index-words-i.is))
    c.loop-i.invariant)

pub loop-i-preserved : goal.loop-i-preserved
loop-i-preserved c = rw c.in_ok-push.ensures
    (read_on c.args.params.now (map string_bytes c.args.words.now) c.loop-i.i c.loop-i.values.items c.index-params-i.result c.deref.result.now c.in_ok-value.value
    (item_at c.args.params.now c.loop-i.i c.index-params-i.result (omega arith) c.index-params-i.is)
    (rw c.deref.ensures (mapped_at string_bytes c.args.words.now c.loop-i.i c.index-words-i.result (omega (arith, c.requires.same)) c.index-words-i.is))
    c.in_ok-value.ensures c.loop-i.invariant)

pub returns : goal.returns
returns c = rw c.from_vec.ensures
    (all_read c.args.params.now (map string_bytes c.args.words.now) c.loop-i.i c.loop-i.values.items c.loop-i-test.false c.loop-i.invariant)
