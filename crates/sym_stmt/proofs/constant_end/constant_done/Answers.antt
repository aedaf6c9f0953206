use Rattle.std.proofs.Common.{◌∙◌, [], ap, arith, length, map, subst, sym, take}
use Rattle.sym_values.specs.declared.done.SymDone.{SymDone}
use Rattle.sym_values.specs.Printed.{ValueReads, slot_read}
use Rattle.sym_values.specs.Reading.{sure}
use Rattle.sym_stmt.proofs.Arguments.{same_many}
use Rattle.sym_stmt.proofs.ConstantEnds.{value_there}
use Rattle.sym_stmt.proofs.constant_end.constant_done.Goals as goal

pub fill_up-requires-clause-few : goal.fill_up-requires-clause-few
fill_up-requires-clause-few g c =
    let rd = g.L.Logic.reads c.args.g.now [] in
    let slots = rw c.in-Some.is at c.in_ok-slots.ensures.value in
    let many = same_many (slot_read c.args.limits.now rd) sure c.in-Some.slots c.args.printed.now
    (slots []) in
    omega (arith, many)

pub returns-clause-value : goal.returns-clause-value
returns-clause-value g c vs d value printed =
    let l = c.args.limits.now in
    let rd = g.L.Logic.reads c.args.g.now vs in
    let given = rw c.in-Some.is at c.in_ok-slots.ensures.value in
    let result = rw c.in-Some-2.is at c.in_ok-result.ensures in
    let slots = c.in-Some.slots in
    let all = c.fill_up.new.slots in
    let many = same_many (slot_read l rd) sure slots c.args.printed.now (given vs) in
    let len = c.in_ok-len.ensures.value vs in
    let done : SymDone _ = record {
      value = c.in-Some-2.result;
      has = c.constant.result;
      fault = c.constant-2.result;
      len = c.in_ok-len.len;
      slots = all;
    } in (
      c.constant-2.ensures.value vs,
      subst (ValueReads rd done) (sym value)
          (value_there rd done c.args.value.now (c.constant.ensures.value vs ∙ c.is_some.ensures)
          (result.read_as vs)),
      len ∙ ap length (sym printed),
      ap (λ n. map (slot_read l rd) (take n all)) (len ∙ sym many)
          ∙ ap (map (slot_read l rd)) c.in_ok-fill_up.ensures.first ∙ given vs
          ∙ ap (map sure) (sym printed),
    )
