use Rattle.std.proofs.Common.{◌≡◌, take}
use Rattle.std.specs.Prelude.{All}
use Rattle.test_picker.specs.Settings.{IsWhole, typed_in}
use Rattle.test_picker.proofs.picking.programs_of.Given as goal

-- the programs up to here
abbrev pub invariant-loop-typed : goal.invariant-loop-typed
invariant-loop-typed l =
    (typed_in l.programs.items ≡ take l.typed-index l.others) × All IsWhole l.programs.items
