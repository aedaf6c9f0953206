-- The list of calls that a run of fetches makes.
use Rattle.std.proofs.Common.{◌≡◌, ◌⊎◌, ℕ, suc, List, [], ◌∷◌, ◌++◌, take, ap, sym, ◌∙◌, inl, inr, Err}
use Rattle.std.specs.Prelude.{Option}
use Rattle.grade_io.specs.Devices.{ShelfCall, FetchCalls, added}
use Rattle.grade_io.specs.declared.devices.FetchError.{FetchError}
use Rattle.grade_io.specs.declared.devices.FetchError.TheVariants as error
use Rattle.grade_io.proofs.Added.{added-added}

-- a fetch that gave the bytes
pub go_on : (first old new : Option (List ShelfCall)) (front : List ShelfCall) (call : ShelfCall) → old ≡ added first front → new ≡ added old (call ∷ []) → new ≡ added first (front ++ call ∷ [])
go_on first old new front call before now = now ∙ ap (λ o. added o (call ∷ [])) before ∙ added-added first front (call ∷ [])

-- a fetch that gave an error was added, or was left out
either : (e : FetchError) (call : ShelfCall) (old new : Option (List ShelfCall)) → FetchCalls (Err e) call old new → (new ≡ added old (call ∷ [])) ⊎ (new ≡ old)
either error.Failed call old new h = inl h
either error.Long call old new h = inl h
either error.NoMemory call old new h = h

-- a fetch that stops the run, behind n fetches
pub stop_at : (e : FetchError) (call : ShelfCall) (first old new : Option (List ShelfCall)) (front all : List ShelfCall) (n : ℕ)
    → take n all ≡ front → take (suc n) all ≡ front ++ call ∷ [] → old ≡ added first front → FetchCalls (Err e) call old new
    → (m : ℕ) × (new ≡ added first (take m all))
stop_at e call first old new front all n done more before h = elim (either e call old new h) [
  | inl now ↦ (suc n, go_on first old new front call before now ∙ ap (added first) (sym more))
  | inr same ↦ (n, same ∙ before ∙ ap (added first) (sym done))
]
