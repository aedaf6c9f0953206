-- Rules whose right sides call builtins alone.
use Rattle.std.specs.Prelude.{◌≡◌, false, List}
use Rattle.std.specs.List.{All, list_any}
use Rattle.choice_tree.specs.Templates.{Correction}
use Rattle.eml_faults.specs.MeaningFaults.{is_unknown_call}
use Rattle.eml_faults.specs.Sides.{nodes}

-- no node of a right side calls another name; others are refused
abbrev pub CallBuiltinsAlone : List Correction → Type 0
CallBuiltinsAlone rules = All (λ r. list_any is_unknown_call (nodes r.right) ≡ false) rules
