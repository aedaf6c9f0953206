use Rattle.std.proofs.Common.{◌≡◌, map, drop, take}
use Rattle.std.specs.String.{string_bytes}
use Rattle.grade_io.specs.Devices.{Devices, Fetch, added, devices}
use Rattle.grade_io.specs.declared.status.Status.{Status}
use Rattle.grade_io.specs.declared.status.Status.TheVariants as status
use Rattle.mpy_format.specs.Files.{EndInTurn}
use Rattle.mpy_format.proofs.files.format_files.Given as goal

-- how the files that are left end is how all do; each file so far was fetched once
abbrev pub invariant-loop-i : goal.invariant-loop-i
invariant-loop-i g l = record {
  ends : (last : Devices) (r : Status)
      → EndInTurn l.status (map string_bytes (drop l.i l.files)) (devices (g.S.Shelf.seen l.shelf) (g.K.Sink.seen l.out)) last r
      → EndInTurn status.Usage (map string_bytes l.files) (devices (g.S.Shelf.seen l.fn.shelf) (g.K.Sink.seen l.fn.out)) last r;
  files : (g.S.Shelf.seen l.shelf).holds ≡ (g.S.Shelf.seen l.fn.shelf).holds;
  fetched : (g.S.Shelf.seen l.shelf).calls
      ≡ added (g.S.Shelf.seen l.fn.shelf).calls (take l.i (map Fetch (map string_bytes l.files)));
}
