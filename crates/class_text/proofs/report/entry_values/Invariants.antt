use Rattle.std.proofs.Common.{◌≡◌, map}
use Rattle.serde_json.specs.View.{view}
use Rattle.class_text.specs.EntryViews.{entry_of}
use Rattle.class_text.specs.Reports.{entry_data}
use Rattle.class_text.proofs.report.entry_values.Given as goal

-- the objects so far are those of the entries so far
abbrev pub invariant-loop-entry : goal.invariant-loop-entry
invariant-loop-entry l = map view l.values.items ≡ map entry_data (map entry_of l.yielded)
