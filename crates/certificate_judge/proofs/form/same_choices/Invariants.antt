use Rattle.std.proofs.Common.{◌≡◌, take}
use Rattle.certificate_judge.proofs.form.same_choices.Given as goal

abbrev pub invariant-loop-i : goal.invariant-loop-i
invariant-loop-i l = take l.i l.first ≡ take l.i l.second
