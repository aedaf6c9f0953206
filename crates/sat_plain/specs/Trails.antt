-- Trails: the literals that are true, with the newest first, and why.
use Rattle.std.specs.Prelude.{◌≡◌, ℕ, ◌+◌, ◌-◌, ◌<◌, ◌≤◌, Bool, true, false, List, [], ◌∷◌, length}
use Rattle.std.specs.Prelude.{map, drop, slice_index_or, if◌then◌else◌, Option, Some, None, ◌⊎◌}
use Rattle.std.specs.Bool.{beq}
use Rattle.std.specs.Option.{option_map_or}
use Rattle.std.specs.List.{list_any, sum_by}
use Rattle.clause_base.specs.declared.lit.Lit.{Lit}
use Rattle.clause_base.specs.declared.clause.Clause.{Clause}
use Rattle.clause_base.specs.Formulas.{in_range}
use Rattle.clause_base.specs.Literals.{same_literal}
use Rattle.clause_base.specs.Follows.{is_false, literals_at, open_literals}
use Rattle.sat_plain.specs.declared.trail.Entry.{Entry}
use Rattle.sat_plain.specs.declared.trail.Scan.{Scan}
use Rattle.sat_plain.specs.declared.trail.Scan.TheVariants.{Closed, One, Other}

-- how many variables there are, and the literals that are true, with the newest first
pub record Path : Type 0 where
  pub vars : ℕ
  pub entries : List Entry

abbrev pub literals_of : List Entry → List Lit
literals_of entries = map (λ e. e.lit) entries

abbrev pub is_among : Lit → List Lit → Bool
is_among l known = list_any (same_literal l) known

-- whether a literal is true or false
abbrev pub standing : List Lit → Lit → Option Bool
standing known l = if is_among l known then Some true
    else (if is_false known l then Some false else None)

abbrev pub IsValued : List Lit → ℕ → Type 0
IsValued known v = (is_among (record { var = v; positive = true }) known ≡ true)
    ⊎ (is_among (record { var = v; positive = false }) known ≡ true)

-- the literals that were decided
abbrev pub decided : List Entry → List Lit
decided [] = []
decided (e ∷ older) = option_map_or (λ number. decided older) e.reason (e.lit ∷ decided older)

-- no variable has two entries
abbrev pub IsOrdered : ℕ → List Entry → Type 0
IsOrdered vars [] = Unit {0}
IsOrdered vars (e ∷ older) = (in_range vars e.lit ≡ true)
    × (standing (literals_of older) e.lit ≡ None) × IsOrdered vars older

-- a literal that wasn't decided is the one open literal of a known clause, under the literals
-- before it
abbrev pub IsImplied : List Clause → List Lit → Lit → Option ℕ → Type 0
IsImplied known before l None = Unit {0}
IsImplied known before l (Some number) = (0 < number) × (number ≤ length known)
    × (open_literals before (literals_at known (number - 1)) ≡ l ∷ [])

abbrev pub IsTrail : List Clause → List Entry → Type 0
IsTrail known [] = Unit {0}
IsTrail known (e ∷ older) = IsImplied known (literals_of older) e.lit e.reason × IsTrail known older

-- a known clause whose literals are all false
pub record IsConflict (known : List Clause) (entries : List Entry) (number : ℕ) : Type 0 where
  pub some : 0 < number
  pub within : number ≤ length known
  pub closed : open_literals (literals_of entries) (literals_at known (number - 1)) ≡ []

-- the oldest so many of a list with the newest first
abbrev pub oldest : ℕ → List Lit → List Lit
oldest n lits = drop (length lits - n) lits

-- the clause has a true literal, or two that none of the handled ones makes false
abbrev pub IsWatched : List Lit → List Lit → List Lit → Type 0
IsWatched known handled lits =
    (list_any (λ l. is_among l known) lits ≡ true) ⊎ (2 ≤ length (open_literals handled lits))

-- what a look over a clause finds
abbrev pub IsScan : List Lit → List Lit → Scan → Type 0
IsScan known lits Closed = open_literals known lits ≡ []
IsScan known lits (One l) = (open_literals known lits ≡ l ∷ []) × (standing known l ≡ None)
IsScan known lits Other = IsWatched known known lits

abbrev pub value_at : List (Option Bool) → ℕ → Option Bool
value_at values v = slice_index_or values (v - 1) None

abbrev pub says : Lit → Option Bool → Bool
says l value = option_map_or (λ b. beq b l.positive) value false

-- one for a variable without a value
abbrev pub is_open : Option Bool → ℕ
is_open value = option_map_or (λ b. 0) value 1

-- the values are those of the literals that are true
pub record AreTrue (values : List (Option Bool)) (entries : List Entry) : Type 0 where
  pub agree : (l : Lit) → 0 < l.var → l.var ≤ length values
      → says l (value_at values l.var) ≡ is_among l (literals_of entries)
  pub ordered : IsOrdered (length values) entries
  pub counted : length entries + sum_by is_open values ≡ length values

abbrev pub is_wanted : List Bool → ℕ → Bool
is_wanted wanted v = slice_index_or wanted (v - 1) false
