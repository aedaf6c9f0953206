-- What marks of variables say of literals.
use Rattle.std.specs.Prelude.{◌≡◌, ℕ, ◌-◌, ◌==◌, ◌<◌, ◌≤◌, Bool, false, ◌&&◌, List, [], ◌∷◌}
use Rattle.std.specs.Prelude.{slice_index_or, slice_get, Some, All, length}
use Rattle.std.specs.Bool.{beq}
use Rattle.clause_base.specs.declared.lit.Lit.{Lit}
use Rattle.std.specs.List.{list_any}
use Rattle.clause_base.specs.declared.clause.Clause.{Clause}
use Rattle.clause_base.specs.Literals.{same_literal}
use Rattle.derivation_check.specs.declared.marks.Mark.{Mark}
use Rattle.derivation_check.specs.declared.marks.Scan.{Scan}
use Rattle.derivation_check.specs.declared.marks.Scan.TheVariants.{Closed, One, Many}

abbrev pub mark_at : List Mark → ℕ → Mark
mark_at marks var = slice_index_or marks (var - 1) (record { stamp = 0; positive = false })

-- a literal is true where its variable has this mark and this sign
abbrev pub mark_true : List Mark → ℕ → Lit → Bool
mark_true marks stamp l = ((mark_at marks l.var).stamp == stamp)
    && beq (mark_at marks l.var).positive l.positive

-- the variables are from 1 to so many
abbrev pub Covers : ℕ → List Lit → Type 0
Covers vars lits = All (λ l. (0 < l.var) × (l.var ≤ vars)) lits

abbrev pub scan_of : List Lit → Scan
scan_of [] = Closed
scan_of (l ∷ []) = One l
scan_of (l ∷ m ∷ ls) = Many

-- no mark is of this step or a later one
pub record AllBefore (stamp : ℕ) (marks : List Mark) : Type 0 where
  pub positive : 0 < stamp
  pub each : All (λ m. m.stamp < stamp) marks

pub record ClausesCovered (vars : ℕ) (clauses : List Clause) : Type 0 where
  pub each : (k : ℕ) (c : Clause) → slice_get clauses k ≡ Some c → Covers vars c.lits

-- the marks of a step are those of the literals that are true
pub record Agrees (marks : List Mark) (stamp : ℕ) (known : List Lit) : Type 0 where
  pub each : (l : Lit) → 0 < l.var → l.var ≤ length marks
      → mark_true marks stamp l ≡ list_any (same_literal l) known
