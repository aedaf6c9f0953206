-- Which sessions refute a question of a kind.
use Rattle.std.specs.Prelude.{ℕ, ◌+◌, ◌==◌, ◌&&◌, Bool, true, false, if◌then◌else◌, List, [], ◌∷◌}
use Rattle.std.specs.Prelude.{◌≡◌, Option, Some, None}
use Rattle.std.specs.List.{Contains}
use Rattle.input_space.specs.declared.session.Query.{Query}
use Rattle.input_space.specs.declared.session.Query.TheVariants as query
use Rattle.input_space.specs.declared.session.Session.{Session}
use Rattle.input_space.specs.Sessions.{is_refuted}
use Rattle.search_certificates.specs.declared.places.Wanted.{Wanted}
use Rattle.search_certificates.specs.declared.places.Wanted.TheVariants as wanted

-- two bounds, each of which may be missing, are the same
abbrev pub same_bound : Option ℕ → Option ℕ → Bool
same_bound (Some a) (Some b) = a == b
same_bound (Some a) None = false
same_bound None (Some b) = false
same_bound None None = true

-- the question asks for this
abbrev pub is_asked : Wanted → Query → Bool
is_asked wanted.Failure query.First = false
is_asked wanted.Failure (query.Low most cases) = false
is_asked wanted.Failure (query.Fail s) = true
is_asked (wanted.Low bound over) query.First = false
is_asked (wanted.Low bound over) (query.Low most cases) = same_bound bound most && (over == cases)
is_asked (wanted.Low bound over) (query.Fail s) = false

-- and the session refutes that there is such a thing
abbrev pub refutes : Wanted → Session → Bool
refutes w x = is_asked w x.query && is_refuted x.log.steps

-- The place of the first session that passes a test, where the first of these has this place.
abbrev pub first_place : (Session → Bool) → ℕ → List Session → Option ℕ
first_place test i [] = None
first_place test i (x ∷ xs) = if test x then Some i else first_place test (i + 1) xs

-- some session refutes that there is such a thing
pub record Refuting (w : Wanted) (xs : List Session) : Type 0 where
  pub session : Session
  pub among : Contains xs session
  pub refutes_it : refutes w session ≡ true

-- one of the sessions, by itself, that does
pub record IsSessionOf (w : Wanted) (xs ys : List Session) : Type 0 where
  pub by : Refuting w xs
  pub alone : ys ≡ by.session ∷ []
