-- What is found behind the texts of the four files.
use Rattle.std.proofs.Common.{◌≡◌, ℕ, List, map, Ok, Err, IsErrAnd, refl, sym, subst, inr}
use Rattle.grade_io.specs.Devices.{ShelfState}
use Rattle.class_text.specs.Faults.{IsFaultOf}
use Rattle.class_text.specs.Listings.{Lists}
use Rattle.class_text.specs.declared.listing.ListFault.{ListFault}
use Rattle.class_text.specs.declared.listing.ListFault.TheVariants as fault
use Rattle.class_run.specs.Classes.{Class, Shared, texts_with}
use Rattle.class_run.specs.Found.{CallsBehind, IsListed}
use Rattle.class_run.specs.Listed.{FetchesFirst}
use Rattle.class_run.specs.Stops.{Found, fault_of}

module _ (c : Class) (ts : List (List ℕ)) (t : Shared) (list : List ℕ) (is : ts ≡ texts_with t list) (before : ShelfState) where
  fault_listed : (f : ListFault) → IsFaultOf list f → IsListed c ts (Err (fault_of f)) before before
  fault_listed (fault.Line line) stops = record { shared = t; list = list; texts_are = is; stops = stops; same = refl }
  fault_listed fault.NoMemory stops = tt

  -- a list that stops to be one
  pub list_stopped : (f : ListFault) (found : Found) → IsErrAnd found (λ x. x ≡ fault_of f) → IsFaultOf list f → IsListed c ts found before before
  list_stopped f (Ok v) same stops = absurd same
  list_stopped f (Err x) same stops = subst (λ y. IsListed c ts (Err y) before before) (sym same) (fault_listed f stops)

-- the fetches of names that were read
pub calls_listed : {S : Type 0} (bytes : S → List ℕ) (ts : List (List ℕ)) (t : Shared) (list : List ℕ) (names vs : List S) (before after : ShelfState) → ts ≡ texts_with t list
    → Lists list (map bytes names) → vs ≡ names → FetchesFirst (map bytes vs) before after → CallsBehind ts before after
calls_listed bytes ts t list names vs before after is listed same fetched = inr (record {
  shared = t;
  list = list;
  texts_are = is;
  names = map bytes names;
  listed = listed;
  fetched = subst (λ xs. FetchesFirst (map bytes xs) before after) same fetched;
})
