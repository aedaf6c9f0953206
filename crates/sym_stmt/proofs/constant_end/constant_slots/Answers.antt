use Rattle.std.proofs.Common.{◌∙◌, ap, arith, length, map, refl, sym}
use Rattle.std.proofs.lemmas.List.{map_push, take_all}
use Rattle.std.proofs.lemmas.Option.{slice_get_read}
use Rattle.known_values.proofs.Items.{item_known}
use Rattle.sym_values.specs.Printed.{slot_read}
use Rattle.sym_values.specs.Reading.{sure}
use Rattle.sym_stmt.proofs.ConstantEnds.{more_slots, no_slots}
use Rattle.sym_stmt.proofs.constant_end.constant_slots.Goals as goal

pub loop-value-init : goal.loop-value-init
loop-value-init g c = record {
  made = rw c.new-slots.ensures no_slots;
  value = λ vs. rw c.new-slots.ensures refl;
}

pub loop-value-preserved : goal.loop-value-preserved
loop-value-preserved g c =
    let printed = c.args.printed.now in
    let l = c.args.limits.now in
    let i = c.loop-value.value-index in
    let value = c.value-item.result in
    let slots = c.loop-value.slots in
    let slot = c.in-Some.slot in
    let pushed = c.in_ok-push-in-Some.ensures.ok in
    let made = rw c.in-Some.is at c.in_ok-constant_slot.ensures.made in
    let read = rw c.in-Some.is at c.in_ok-constant_slot.ensures.value in
    let at = slice_get_read printed (length printed) i value refl (omega arith) c.value-item.is in
    record {
      made = more_slots slots _ slot c.loop-value.invariant.made made pushed;
      value = λ vs.
          let rd = slot_read l (g.L.Logic.reads c.args.g.now vs) in
          item_known sure printed i value (map rd slots) _ (rd slot) at
          (c.loop-value.invariant.value vs) (sym (read vs))
          (ap (map rd) pushed ∙ map_push rd slots slot);
    }

pub returns-clause-made : goal.returns-clause-made
returns-clause-made g c = c.loop-value.invariant.made

pub returns-clause-value : goal.returns-clause-value
returns-clause-value g c vs =
    let all = take_all c.loop-value.value-index c.args.printed.now (omega arith) in
    sym (c.loop-value.invariant.value vs) ∙ ap (map sure) all
