-- A put adds the next bytes of the text.
use Rattle.std.proofs.Common.{arith, length, length-drop, ◌∙◌}
use Rattle.grade_io.proofs.Added.{put_more, rest_length}
use Rattle.grade_io.proofs.Putting.{all_put, go_on, stop_at, stopped_so}
use Rattle.grade_io.proofs.text.write_text.Goals as goal

pub put-preserved : goal.put-preserved
put-preserved g c =
    let some = c.put-test.true in
    record {
      within = omega (arith, length-drop c.put.done c.args.text.now, c.in_ok-done.ensures.most);
      written = put_more _ _ _ c.args.text.now c.put.done c.in_ok-done.field-0 c.put.invariant.written c.in_ok-done.ensures.written;
      still = c.in_ok-done.ensures.faults ∙ c.put.invariant.still;
      puts = λ p share e s. go_on share p (length c.args.text.now) c.put.done c.in_ok-done.field-0 _ _ _ (omega (arith, some)) (rest_length c.put.done c.args.text.now) c.in_ok-done.ensures.most c.in_ok-done.ensures.plan c.in_ok-done.ensures.same_share c.in_ok-done.ensures.fails c.in_ok-done.ensures.share (c.put.invariant.puts p share e s);
    }

pub returns-in_err-done-clause-puts : goal.returns-in_err-done-clause-puts
returns-in_err-done-clause-puts g c p share e s =
    let some = c.put-test.true in
    stopped_so share p c.args.text.now _ _ c.in_err-done.field-0.0 c.from_residual.result c.from_residual.ensures.1
    (stop_at share p c.args.text.now _ _ _ c.put.done _ _ (omega (arith, some)) (rest_length c.put.done c.args.text.now) c.put.invariant.written c.in_err-done.ensures.kept c.in_err-done.ensures.plan c.in_err-done.ensures.fails (c.put.invariant.puts p share e s))

pub returns-clause-puts : goal.returns-clause-puts
returns-clause-puts g c p share e s =
    let none = c.put-test.false in
    all_put share p c.args.text.now _ _ c.put.done (omega (arith, none)) c.put.invariant.written (c.put.invariant.puts p share e s) c.put.invariant.within
