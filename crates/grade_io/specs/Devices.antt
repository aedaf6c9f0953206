-- What is known of a shelf and of a sink at one moment, and how a call changes it.
use Rattle.std.specs.Prelude.{◌≡◌, ◌⊎◌, ℕ, ◌≤◌, Bool, List, [], ◌∷◌, ◌++◌, Option, None, Some}
use Rattle.std.specs.Prelude.{Result, Ok, Err, Vec}
use Rattle.std.specs.declared.alloc.Global.{Global}
use Rattle.grade_io.specs.Plans.{Plan, one_more}
use Rattle.grade_io.specs.declared.devices.FetchError as fetch_error
use Rattle.grade_io.specs.declared.devices.StoreError as store_error

-- a call of a shelf, with the name that it was given
pub data ShelfCall : Type 0 where
  Fetch : List ℕ → ShelfCall
  Store : List ℕ → ShelfCall

-- What is known of a shelf: what each name holds and the calls so far, each where the shelf tells
-- it, how many faults there were, how many bytes the last fetch took, which calls are to fail,
-- where the shelf tells its plan, and which names are known to have no file.
pub record ShelfState : Type 0 where
  pub holds : List ℕ → Option (List ℕ)
  pub calls : Option (List ShelfCall)
  pub faults : ℕ
  pub taken : ℕ
  pub plan : Option Plan
  pub absent : List ℕ → Bool

-- What is known of a sink: the bytes written, where it tells them, how many faults there were,
-- which puts of pieces that aren't empty are to fail, and how many bytes a put takes of a piece of
-- a length, each of the last two where the sink tells it.
pub record SinkState : Type 0 where
  pub written : Option (List ℕ)
  pub faults : ℕ
  pub plan : Option Plan
  pub share : Option (ℕ → ℕ)

-- a shelf and a sink at one moment
pub record Devices : Type 0 where
  pub shelf : ShelfState
  pub sink : SinkState

abbrev pub devices : ShelfState → SinkState → Devices
devices shelf sink = record { shelf = shelf; sink = sink }

-- The count rose. It stands at the last value of a u64 once it is there.
abbrev pub Rose : ℕ → ℕ → Type 0
Rose before now = one_more before ≤ now

-- a list that is told, with more at its end
abbrev pub added : {A : Type 0} → Option (List A) → List A → Option (List A)
added None more = None
added (Some xs) more = Some (xs ++ more)

-- what a fetch, a store and a put answer
abbrev pub Fetched : Type 0
Fetched = Result (Vec ℕ Global) fetch_error.FetchError

abbrev pub StoreEnd : Type 0
StoreEnd = Result (Unit {0}) store_error.StoreError

-- the call was added to the list; one that found no memory may be left out
abbrev pub FetchCalls : Fetched → ShelfCall → Option (List ShelfCall) → Option (List ShelfCall)
    → Type 0
FetchCalls (Ok x) call old new = new ≡ added old (call ∷ [])
FetchCalls (Err fetch_error.TheVariants.Failed) call old new = new ≡ added old (call ∷ [])
FetchCalls (Err fetch_error.TheVariants.Long) call old new = new ≡ added old (call ∷ [])
FetchCalls (Err fetch_error.TheVariants.NoMemory) call old new =
    (new ≡ added old (call ∷ [])) ⊎ (new ≡ old)

abbrev pub StoreCalls : StoreEnd → ShelfCall → Option (List ShelfCall) → Option (List ShelfCall)
    → Type 0
StoreCalls (Ok x) call old new = new ≡ added old (call ∷ [])
StoreCalls (Err store_error.TheVariants.Failed) call old new = new ≡ added old (call ∷ [])
StoreCalls (Err store_error.TheVariants.NoMemory) call old new =
    (new ≡ added old (call ∷ [])) ⊎ (new ≡ old)
