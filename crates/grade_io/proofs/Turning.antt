-- Calls of the system that are made again, and those of several answers in a row.
use Rattle.std.proofs.Common.{◌≡◌, ℕ, ◌<◌, List, [], ◌∷◌, ◌++◌, Option, Ok, Err, Some, None, Result, IsErr, IsErrAnd, ap, refl, sym, ◌∙◌, inl}
use Rattle.std.proofs.lemmas.List.{append-nil}
use Rattle.grade_io.specs.Devices.{added}
use Rattle.grade_io.specs.Turns.{AreOfFault, EndsBy, Moved, ReadsBy, Stopped, Turn, WritesBy, and_then, interrupted, most_tries, no_calls}
use Rattle.grade_io.specs.declared.devices.FetchError.{FetchError}
use Rattle.grade_io.specs.declared.devices.FetchError.TheVariants as fetch_error
use Rattle.grade_io.specs.declared.system.Stall.{Stall}
use Rattle.grade_io.specs.declared.system.Stall.TheVariants as stall
use Rattle.grade_io.proofs.Added.{added-added}

-- calls behind calls
behind : (first mid new : Option (List Turn)) (before more : List Turn) → mid ≡ added first before → new ≡ added mid more → new ≡ added first (before ++ more)
behind first mid new before more was now = now ∙ ap (λ o. added o more) was ∙ added-added first before more

-- the call behind those that were interrupted
pub ends : (t : Turn) (first mid new : Option (List Turn)) (n : ℕ) → n < most_tries → mid ≡ added first (interrupted n) → new ≡ added mid (t ∷ [])
    → (turns : List Turn) × EndsBy t turns × (new ≡ added first turns)
ends t first mid new n few was now = (interrupted n ++ t ∷ [], (n, few, refl), behind first mid new (interrupted n) (t ∷ []) was now)

pub fails : (s : Stall) (first mid new : Option (List Turn)) (n : ℕ) → s ≡ stall.Failed → n < most_tries → mid ≡ added first (interrupted n) → new ≡ added mid (Err s ∷ [])
    → (turns : List Turn) × AreOfFault turns × (new ≡ added first turns)
fails s first mid new n is few was now =
    let one : new ≡ added mid (Err stall.Failed ∷ []) = now ∙ ap (λ x. added mid (Err x ∷ [])) is in
    (interrupted n ++ Err stall.Failed ∷ [], inl (n, few, refl), behind first mid new (interrupted n) (Err stall.Failed ∷ []) was one)

-- the calls of one answer more
pub moves : (first mid new : Option (List Turn)) (n : ℕ) → Moved first mid → (turns : List Turn) × EndsBy (Ok n) turns × (new ≡ added mid turns) → Moved first new
moves first mid new n (turns, move, was) (more, by, now) =
    (turns ++ more, and_then turns more n move by, behind first mid new turns more was now)

pub stops : (first mid new : Option (List Turn)) → Moved first mid → (turns : List Turn) × AreOfFault turns × (new ≡ added mid turns) → Stopped first new
stops first mid new (turns, move, was) (more, fault, now) =
    (turns ++ more, record { before = turns; tries = more; move = move; fault = fault; is = refl }, behind first mid new turns more was now)

added_nothing : (o : Option (List Turn)) → o ≡ added o []
added_nothing None = refl
added_nothing (Some xs) = ap Some (sym (append-nil xs))

pub none_yet : (o : Option (List Turn)) → Moved o o
none_yet o = ([], no_calls, added_nothing o)

-- the fault is answered, and want of memory makes no call
pub write_stops : {T E : Type 0} (r : Result T E) (first mid new : Option (List Turn)) → IsErr r → Moved first mid
    → (turns : List Turn) × AreOfFault turns × (new ≡ added mid turns) → WritesBy r first new
write_stops (Ok x) first mid new is was now = absurd cc
write_stops (Err e) first mid new is was now = stops first mid new was now

pub read_stops : {T : Type 0} (r : Result T FetchError) (first mid new : Option (List Turn)) → IsErrAnd r (λ x. x ≡ fetch_error.Failed) → Moved first mid
    → (turns : List Turn) × AreOfFault turns × (new ≡ added mid turns) → ReadsBy r first new
read_stops (Ok x) first mid new is was now = absurd is
read_stops (Err fetch_error.Failed) first mid new is was now = stops first mid new was now
read_stops (Err fetch_error.Long) first mid new is was now = absurd cc
read_stops (Err fetch_error.NoMemory) first mid new is was now = absurd cc

pub read_lacks : {T : Type 0} (r : Result T FetchError) (first new : Option (List Turn)) → IsErrAnd r (λ x. x ≡ fetch_error.NoMemory) → Moved first new → ReadsBy r first new
read_lacks (Ok x) first new is was = absurd is
read_lacks (Err fetch_error.Failed) first new is was = absurd cc
read_lacks (Err fetch_error.Long) first new is was = was
read_lacks (Err fetch_error.NoMemory) first new is was = was
