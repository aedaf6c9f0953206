-- What comes of several files in turn, and the status of all.
use Rattle.std.specs.Prelude.{◌≡◌, ℕ, Bool, true, false, List, [], ◌∷◌, map, take}
use Rattle.grade_io.specs.Devices.{Devices, ShelfState, Fetch, added}
use Rattle.grade_io.specs.declared.status.Status.{Status}
use Rattle.grade_io.specs.declared.status.Status.TheVariants as status
use Rattle.mpy_format.specs.Ends.{Ends}

-- whether the next file is read behind one that ended so
abbrev pub goes_on : Status → Bool
goes_on status.Correct = true
goes_on status.Refused = true
goes_on _ = false

-- the status of the files so far and of one more
abbrev pub joined : Status → Status → Status
joined status.Refused status.Correct = status.Refused
joined before said = said

-- The files end one after the other, up to the first that stops; the first status is that of the
-- files before.
pub data EndInTurn : Status → List (List ℕ) → Devices → Devices → Status → Type 0 where
  no_more : {s : Status} {d : Devices} → EndInTurn s [] d d s
  stopped : (said : Status) {s : Status} {file : List ℕ} {files : List (List ℕ)} {d e : Devices}
      → Ends file d e said → goes_on said ≡ false → EndInTurn s (file ∷ files) d e (joined s said)
  next : (said : Status) {s r : Status} {file : List ℕ} {files : List (List ℕ)} {d last : Devices}
      (e : Devices) → Ends file d e said → goes_on said ≡ true
      → EndInTurn (joined s said) files e last r → EndInTurn s (file ∷ files) d last r

-- the calls that were made are fetches of the first files, in order, each once
abbrev pub FetchedInOrder : List (List ℕ) → ShelfState → ShelfState → Type 0
FetchedInOrder files before after =
    (n : ℕ) × (after.calls ≡ added before.calls (take n (map Fetch files)))
