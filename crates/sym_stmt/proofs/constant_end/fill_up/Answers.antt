use Rattle.std.proofs.Common.{◌∙◌, ap, arith, length, length-append, take, sym}
use Rattle.std.proofs.lemmas.List.{take-append-le, take_all}
use Rattle.sym_stmt.proofs.ConstantEnds.{more_slots}
use Rattle.sym_stmt.proofs.constant_end.fill_up.Goals as goal

pub loop-init : goal.loop-init
loop-init g c =
    let slots = c.args.slots.now in
    record {
      held = c.requires.held;
      many = sym c.len-counter.ensures;
      first = take_all (length slots) slots (omega arith);
    }

pub loop-preserved : goal.loop-preserved
loop-preserved g c =
    let before = c.loop.invariant in
    let slots = c.loop.slots in
    let first = c.args.slots.now in
    let slot = c.in_ok-open_slot.field-0 in
    let pushed = c.in_ok-push.ensures.ok in
    record {
      held = more_slots slots _ slot before.held c.in_ok-open_slot.ensures pushed;
      many = ap length pushed ∙ length-append slots _ ∙ omega (arith, before.many);
      first = ap (take (length first)) pushed
          ∙ take-append-le (length first) slots _ (omega (arith, before.many))
          ∙ before.first;
    }
