use Rattle.std.specs.Prelude.{◌≡◌, length}
use Rattle.choice_tree.specs.Choices.{Rises}
use Rattle.cert_text.specs.Limits.{is_choice}
use Rattle.cert_text.specs.LineForms.{choice_text}
use Rattle.step_lines.proofs.Rows.{Words}
use Rattle.cert_text.proofs.Rising.{behind_picks}
use Rattle.cert_text.proofs.choices.choices.Given as goal

abbrev pub invariant-words : goal.invariant-words
invariant-words l = record {
  words : Words choice_text is_choice l.text l.found.items l.rest;
  rising : Rises 0 l.found.items;
  least : l.least ≡ behind_picks 0 l.found.items;
}

abbrev pub decreases-words : goal.decreases-words
decreases-words l = length l.rest
