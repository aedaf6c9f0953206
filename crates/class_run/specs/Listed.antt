-- The entries of listed files, each by a fetch of its own.
use Rattle.std.specs.Prelude.{◌≡◌, ◌⊎◌, ℕ, ◌<◌, ◌≤◌, List, [], ◌∷◌, length, map, take, Some}
use Rattle.grade_io.specs.Devices.{ShelfState, Fetch, Rose, added}
use Rattle.grade_io.specs.Kept.{Holds}
use Rattle.mpy_tree.specs.declared.refusal.Source.TheVariants as source
use Rattle.source_files.specs.Files.{limit_of}
use Rattle.source_files.specs.Texts.{Fits, TookTooMuch}
use Rattle.class_text.specs.Entries.{Entry}
use Rattle.class_run.specs.Classes.{Class, Got, Unread, TooLong, Bytes, Shared, Tells}

-- one byte more was taken than a submission may have; and the file is longer, where it is told
pub record GaveTooMuch (first : ShelfState) (name : List ℕ) (before after : ShelfState)
    : Type 0 where
  pub taken : TookTooMuch source.Submission after
  pub told : (text : List ℕ) → first.holds name ≡ Some text
      → limit_of source.Submission < length text
  pub still : after.faults ≡ before.faults

-- these are the bytes of the file, where it is told
pub record GaveBytes (first : ShelfState) (name text : List ℕ) (before after : ShelfState)
    : Type 0 where
  pub fits : Fits source.Submission text
  pub held : Holds first name text
  pub still : after.faults ≡ before.faults

-- What the fetch of a file gave. Files stay, so that what they hold is what they held at first.
abbrev pub Gave : ShelfState → List ℕ → Got → ShelfState → ShelfState → Type 0
Gave first name Unread before after = Rose before.faults after.faults
Gave first name TooLong before after = GaveTooMuch first name before after
Gave first name (Bytes text) before after = GaveBytes first name text before after

-- no fault was counted; or one was, and the one call that was made is the fetch of the file
abbrev pub CountsIn : List ℕ → ShelfState → ShelfState → Type 0
CountsIn name before after =
    (after.faults ≡ before.faults)
    ⊎ (Rose before.faults after.faults × (after.calls ≡ added before.calls (Fetch name ∷ [])))

-- no fault was counted; or one was, and so many fetches, which were made, are at least one
abbrev pub FaultsIn : ℕ → ShelfState → ShelfState → Type 0
FaultsIn n before after =
    (after.faults ≡ before.faults) ⊎ ((0 < n) × Rose before.faults after.faults)

-- The first of the files were fetched, up to some point. Where none was, no fault was counted.
pub record FetchesFirst (names : List (List ℕ)) (before after : ShelfState) : Type 0 where
  pub count : ℕ
  pub within : count ≤ length names
  pub made : after.calls ≡ added before.calls (take count (map Fetch names))
  pub faults : FaultsIn count before after

-- the entry of a name, by one fetch of its file
pub record IsEntry (c : Class) (t : Shared) (first : ShelfState) (name : List ℕ) (x : Entry)
    (before after : ShelfState) : Type 0 where
  pub got : Got
  pub gave : Gave first name got before after
  pub call : after.calls ≡ added before.calls (Fetch name ∷ [])
  pub file_is : x.file ≡ name
  pub tells : Tells c t name got x

-- one entry for each name, in order
abbrev pub AreEntries : Class → Shared → ShelfState → List (List ℕ) → List Entry → ShelfState
    → ShelfState → Type 0
AreEntries c t first [] [] before after = after ≡ before
AreEntries c t first [] (x ∷ xs) before after = ⊥
AreEntries c t first (n ∷ ns) [] before after = ⊥
AreEntries c t first (n ∷ ns) (x ∷ xs) before after =
    (now : ShelfState)
    × (IsEntry c t first n x before now × AreEntries c t first ns xs now after)
