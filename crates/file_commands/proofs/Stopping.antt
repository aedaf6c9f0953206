-- A call that stops because one that it made did.
use Rattle.std.proofs.Common.{◌≡◌, sym, subst, Result, Ok, Err, IsErrAnd, MatchResult}
use Rattle.mpy_tree.specs.declared.refusal.Refusal.{Refusal}
use Rattle.source_files.specs.Fetches.{StopsAs}
use Rattle.source_files.specs.declared.stop.Stop.{Stop}
use Rattle.source_files.specs.declared.stop.Stop.TheVariants as stop

-- what a step refuses is refused by all of it
stops_in : (P Q : Refusal → Type 0) → ((r : Refusal) → P r → Q r) → (s : Stop) → StopsAs P s → StopsAs Q s
stops_in P Q more (stop.Refused r) h = more r h
stops_in P Q more stop.Failed h = h
stops_in P Q more stop.NoMemory h = h

-- a step of a call that stopped
pub stopped : {T : Type 0} (X : T → Type 0) (P Q : Refusal → Type 0) (r : Result T Stop) (s : Stop) → IsErrAnd r (λ t. t ≡ s) → StopsAs P s → ((q : Refusal) → P q → Q q) → MatchResult r X (StopsAs Q)
stopped X P Q (Ok x) s is h more = absurd is
stopped X P Q (Err t) s is h more = subst (StopsAs Q) (sym is) (stops_in P Q more s h)
