-- what is chosen for programs, where the reference ends on some input
use Rattle.std.proofs.Common.{◌∙◌}
use Rattle.test_picker.specs.Programs.{inputs_of}
use Rattle.test_picker.proofs.PickAll.{choice_of, ends_there}
use Rattle.test_picker.proofs.picking.pick_all.Goals as goal

pub returns : goal.returns
returns c =
    let b = c.args.bounds.now in
    let r = c.args.reference.now in
    let other = c.in_ok-reference.reference.typed.now in
    let same = c.in_ok-reference.ensures.typed in
    let qs = c.in_ok-programs.programs.items in
    let others = c.args.others.now in
    let typed = c.in_ok-programs.ensures.typed ∙ c.items.ensures in
    let f = c.in_ok-found.found in
    let found = rw c.deref.ensures.value at c.in_ok-found.ensures in
    let choice = rw c.deref-2.ensures.value at c.in_ok-chosen.ensures in (
      choice_of b r other same qs others typed f found (inputs_of c.in_ok-chosen.chosen.cases)
          c.in_ok-chosen.chosen.marks choice,
      ends_there b r other same qs others typed f found c.if-not-found.false,
    )
