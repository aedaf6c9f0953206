-- The calls that a command makes are the first of those that it may make.
use Rattle.std.proofs.Common.{◌≡◌, ℕ, zero, suc, List, [], ◌∷◌, ◌++◌, take, length, refl, sym, ap, ◌∙◌, None, Some, Result, Ok, Err, OnOk, inl, inr, append-nil}
use Rattle.std.specs.Prelude.{Option}
use lib.Seq.{take-length}
use Rattle.grade_io.specs.Devices.{Devices, ShelfState, Store, StoreEnd, added, devices}
use Rattle.grade_io.specs.declared.devices.StoreError.TheVariants as store_error
use Rattle.grade_io.proofs.Added.{added-added}
use Rattle.grade_io.specs.declared.status.Status.{Status}
use Rattle.source_files.specs.Fetches.{FetchedAll, FetchesInOrder}
use Rattle.source_files.specs.Files.{fetches}
use Rattle.source_files.specs.declared.stop.Stop.{Stop}
use Rattle.file_commands.specs.Calls.{CallsInOrder, calls_of, stores}
use Rattle.file_commands.specs.Commands.{FileCommand}
use Rattle.file_commands.specs.Keeping.{Keeps}
use Rattle.file_commands.specs.Reports.{IsKeptAndWritten, bytes_of}
use Rattle.file_commands.specs.declared.report.Report.{Report}

-- the first of a list are the first of one that goes on
first_of : {X : Type 0} (n : ℕ) (xs ys : List X) → (m : ℕ) × (take n xs ≡ take m (xs ++ ys))
first_of zero xs ys = (0, refl)
first_of (suc n) [] ys = (0, refl)
first_of (suc n) (x ∷ xs) ys = let rest = first_of n xs ys in (suc rest.0, ap (λ zs. x ∷ zs) rest.1)

nothing_added : {X : Type 0} (o : Option (List X)) → o ≡ added o []
nothing_added None = refl
nothing_added (Some xs) = ap Some (sym (append-nil xs))

pub no_calls : {A : Type 0} (c : FileCommand A) (shelf : ShelfState) → CallsInOrder c shelf shelf
no_calls c shelf = (0, nothing_added shelf.calls)

module _ {A : Type 0} (c : FileCommand A) (before : ShelfState) where
  only_fetches : (after : ShelfState) → FetchesInOrder c.files before after → CallsInOrder c before after
  only_fetches after calls =
      let first = first_of calls.0 (fetches c.files) (stores c.place) in
      (first.0, calls.1 ∙ ap (added before.calls) first.1)

  -- all fetches, and then the store
  and_store : (read after : ShelfState) (name : List ℕ) → c.place ≡ Some name → FetchedAll c.files before read → after.calls ≡ added read.calls (Store name ∷ [])
      → CallsInOrder c before after
  and_store read after name at all call =
      let whole : fetches c.files ++ Store name ∷ [] ≡ calls_of c = ap (λ p. fetches c.files ++ stores p) (sym at) in (
        length (calls_of c),
        call ∙ ap (λ o. added o (Store name ∷ [])) all ∙ added-added before.calls (fetches c.files) (Store name ∷ [])
            ∙ ap (added before.calls) (whole ∙ sym (take-length (calls_of c))),
      )

  module _ (read after : ShelfState) (calls : FetchesInOrder c.files before read) (all : FetchedAll c.files before read) where
    unchanged : after ≡ read → CallsInOrder c before after
    unchanged same = rw same (only_fetches read calls)

    kept_calls : (place kept : Option (List ℕ)) (e : StoreEnd) → c.place ≡ place → Keeps place kept e read after → CallsInOrder c before after
    kept_calls None kept e at keeps = unchanged keeps.same
    kept_calls (Some name) None e at keeps = unchanged keeps.same
    kept_calls (Some name) (Some bytes) (Ok x) at keeps = and_store read after name at all keeps.call
    kept_calls (Some name) (Some bytes) (Err store_error.Failed) at keeps = and_store read after name at all keeps.call
    kept_calls (Some name) (Some bytes) (Err store_error.NoMemory) at keeps = elim keeps.call [
      | inl made ↦ and_store read after name at all made
      | inr none ↦ (let fetched = only_fetches read calls in (fetched.0, none ∙ fetched.1))
    ]

pub calls_at_end : {A : Type 0} (c : FileCommand A) (before after : Devices) (read : ShelfState) (found : Result Report Stop) (s : Status)
    → FetchesInOrder c.files before.shelf read → OnOk found (FetchedAll c.files before.shelf read)
    → IsKeptAndWritten c.place c.line found (devices read before.sink) after s → CallsInOrder c before.shelf after.shelf
calls_at_end c before after read (Ok r) s calls all ends = kept_calls c before.shelf read after.shelf calls all c.place (bytes_of r) ends.store refl ends.keeps
calls_at_end c before after read (Err e) s calls all ends = rw ends.shelf (only_fetches c before.shelf read calls)
