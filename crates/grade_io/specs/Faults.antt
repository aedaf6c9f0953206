-- The count of faults and the plan of failures beside what a call answers.
use Rattle.std.specs.Prelude.{◌≡◌, ℕ, Result, Ok, Err}
use Rattle.grade_io.specs.Devices.{Fetched, StoreEnd, Rose}
use Rattle.grade_io.specs.declared.devices.FetchError.TheVariants as fetch_error
use Rattle.grade_io.specs.declared.devices.StoreError.TheVariants as store_error
use Rattle.grade_io.specs.declared.devices.PutError as put_error

-- the count rose where the answer is `Failed`, and is as it was where it is another
abbrev pub FetchFaults : Fetched → ℕ → ℕ → Type 0
FetchFaults (Err fetch_error.Failed) before after = Rose before after
FetchFaults (Ok x) before after = after ≡ before
FetchFaults (Err fetch_error.Long) before after = after ≡ before
FetchFaults (Err fetch_error.NoMemory) before after = after ≡ before

abbrev pub StoreFaults : StoreEnd → ℕ → ℕ → Type 0
StoreFaults (Err store_error.Failed) before after = Rose before after
StoreFaults (Ok x) before after = after ≡ before
StoreFaults (Err store_error.NoMemory) before after = after ≡ before

abbrev pub PutFaults : {T : Type 0} → Result T put_error.PutError → ℕ → ℕ → Type 0
PutFaults (Err put_error.TheVariants.Failed) before after = Rose before after
PutFaults (Ok x) before after = after ≡ before
PutFaults (Err put_error.TheVariants.NoMemory) before after = after ≡ before

-- the answer is `Failed` exactly where the call is to fail; want of memory may come in its place
abbrev pub FetchFails : Fetched → Type 0 → Type 0
FetchFails (Err fetch_error.Failed) IsDue = IsDue
FetchFails (Ok x) IsDue = IsDue → ⊥
FetchFails (Err fetch_error.Long) IsDue = IsDue → ⊥
FetchFails (Err fetch_error.NoMemory) IsDue = Unit {0}

abbrev pub StoreFails : StoreEnd → Type 0 → Type 0
StoreFails (Err store_error.Failed) IsDue = IsDue
StoreFails (Ok x) IsDue = IsDue → ⊥
StoreFails (Err store_error.NoMemory) IsDue = Unit {0}

abbrev pub PutFails : {T : Type 0} → Result T put_error.PutError → Type 0 → Type 0
PutFails (Err put_error.TheVariants.Failed) IsDue = IsDue
PutFails (Ok x) IsDue = IsDue → ⊥
PutFails (Err put_error.TheVariants.NoMemory) IsDue = Unit {0}
