-- What a look over a clause says of the state.
use Rattle.std.proofs.Common.{◌≡◌, ℕ, ◌<◌, ◌≤◌, true, List, [], ◌∷◌, slice_get, Some, refl, sym, ap, ◌∙◌, subst, inl, inr}
use Rattle.std.specs.Prelude.{nat_lt, nat_le}
use Rattle.std.proofs.lemmas.Bool.{and_from, cases_Bool, lt-ltb, le-leb}
use Rattle.clause_base.specs.declared.lit.Lit.{Lit}
use Rattle.clause_base.specs.declared.clause.Clause.{Clause}
use Rattle.clause_base.specs.Formulas.{in_range}
use Rattle.clause_base.specs.Literals.{IsCovered, has_no_variable_twice}
use Rattle.clause_base.specs.Follows.{is_false, literals_at, open_literals}
use Rattle.sat_watch.specs.declared.trail.Entry.{Entry}
use Rattle.sat_watch.specs.declared.trail.Scan.{Scan}
use Rattle.sat_watch.specs.declared.trail.Scan.TheVariants.{Closed, One, Other}
use Rattle.sat_watch.specs.Trails.{IsOrdered, IsScan, IsValued, is_among, literals_of}
use Rattle.sat_watch.specs.Searching.{IsUnitAt}
use Rattle.sat_watch.proofs.Literals.{among_here, among_there, literals_is}
use Rattle.sat_watch.proofs.Ordered.{consistent}
use Rattle.sat_watch.proofs.Members.{lit_of}
use Rattle.sat_watch.proofs.Quiet.{quiet_closed, quiet_one, quiet_other}

pub covered_among : (vars : ℕ) (lits : List Lit) (l : Lit) → IsCovered vars lits → is_among l lits ≡ true → in_range vars l ≡ true
covered_among vars lits l covered h =
    let range = lit_of (λ k. (0 < k.var) × (k.var ≤ vars)) lits l covered.each h in
    and_from (nat_lt 0 l.var) (nat_le l.var vars) (lt-ltb 0 l.var range.0) (le-leb l.var vars range.1)

pub open_among : (known lits : List Lit) (l : Lit) → open_literals known lits ≡ l ∷ [] → is_among l lits ≡ true
open_among known [] l h = cc
open_among known (k ∷ ks) l h = elim (cases_Bool (is_false known k)) [
  | inl down ↦ among_there l k ks (open_among known ks l (rw down at h))
  | inr up ↦
      let here : k ∷ open_literals known ks ≡ l ∷ [] = rw up at h in
      let same : k ≡ l = cc in
      ap (λ (x : Lit). is_among l (x ∷ ks)) same ∙ among_here l ks
]

pub covered_one : (vars : ℕ) (known lits : List Lit) (l : Lit) → IsCovered vars lits → open_literals known lits ≡ l ∷ [] → in_range vars l ≡ true
covered_one vars known lits l covered one = covered_among vars lits l covered (open_among known lits l one)

-- a look that didn't find a literal of the variable as the one that is open
abbrev pub FindsNone : ℕ → Scan → Type 0
FindsNone v scan = (l : Lit) → scan ≡ One l → l.var ≡ v → ⊥

-- then the clause doesn't give the variable its value
pub scan_quiet : (vars v : ℕ) (es : List Entry) (lits : List Lit) (scan : Scan) → IsOrdered vars es → (IsValued (literals_of es) v → ⊥) → has_no_variable_twice lits ≡ true
    → IsScan (literals_of es) lits scan → FindsNone v scan → IsUnitAt v (literals_of es) lits → ⊥
scan_quiet vars v es lits Closed ordered unset distinct closed none = quiet_closed v (literals_of es) lits unset closed
scan_quiet vars v es lits (One l) ordered unset distinct one none = quiet_one v (literals_of es) lits l unset one.0 (none l refl)
scan_quiet vars v es lits (Other l place) ordered unset distinct other none = quiet_other v (literals_of es) lits (λ k h. consistent vars es k ordered h) unset distinct other.0

-- what doesn't give the variable its value is the clause at a place
pub quiet_at : (clauses : List Clause) (k v : ℕ) (c : Clause) (known lits : List Lit) → slice_get clauses k ≡ Some c → lits ≡ c.lits → (has_no_variable_twice lits ≡ true → IsUnitAt v known lits → ⊥)
    → IsUnitAt v known (literals_at clauses k) → ⊥
quiet_at clauses k v c known lits at same quiet unit =
    let distinct : has_no_variable_twice lits ≡ true = ap has_no_variable_twice same ∙ c.distinct in
    quiet distinct (subst (IsUnitAt v known) (literals_is clauses k c at ∙ sym same) unit)
