use Rattle.std.proofs.Common.{◌≡◌, ◌≤◌, true, take}
use Rattle.std.specs.List.{list_all}
use Rattle.choice_tree.specs.Choices.{Rises}
use Rattle.cert_text.proofs.Rising.{behind_picks}
use Rattle.cert_text.specs.Limits.{is_choice}
use Rattle.search_certificates.proofs.limits.keep_choices.Given as goal

abbrev pub invariant-loop-choice : goal.invariant-loop-choice
invariant-loop-choice l =
    Rises 0 (take l.choice-index l.choices) × (list_all is_choice (take l.choice-index l.choices) ≡ true)
    × (behind_picks 0 (take l.choice-index l.choices) ≡ l.least) × (l.least ≤ 2147483648)
