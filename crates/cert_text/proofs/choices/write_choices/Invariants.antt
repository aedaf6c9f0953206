use Rattle.std.proofs.Common.{◌≡◌, ◌++◌, take}
use Rattle.cert_text.specs.LineForms.{choices_text}
use Rattle.cert_text.proofs.choices.write_choices.Given as goal

abbrev pub invariant-loop-c : goal.invariant-loop-c
invariant-loop-c l = l.out.items ≡ l.fn.out.items ++ choices_text (take l.c-index l.choices)
