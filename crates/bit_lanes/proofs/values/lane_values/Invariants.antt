use Rattle.std.proofs.Common.{◌≡◌, Bool, List, Some, map, take}
use Rattle.input_space.specs.declared.case.Case.{Case}
use Rattle.sym_values.specs.Reading.{read, sure}
use Rattle.bit_lanes.specs.Lane.{lane_of, reads_table}
use Rattle.bit_lanes.specs.LaneCases.{AreTabled, case_in, first_types}
use Rattle.bit_lanes.proofs.values.lane_values.Given as goal

abbrev pub invariant-loop-place : goal.invariant-loop-place
invariant-loop-place l = record {
  made : AreTabled l.l l.values.items (take l.place (first_types l.cases));
  value : (vs : List Bool) (c : Case) → case_in l.cases (lane_of 6 vs) ≡ Some c
      → map (read (reads_table vs)) l.values.items ≡ map sure (take l.place c.values);
}
