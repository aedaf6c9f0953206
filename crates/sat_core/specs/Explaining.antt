-- What a conflict shows.
use Rattle.std.specs.Prelude.{◌≡◌, ◌≢◌, ℕ, ◌+◌, ◌-◌, ◌<◌, ◌≤◌, Bool, true, false, List, []}
use Rattle.std.specs.Prelude.{◌∷◌, ◌++◌, All, None, length, slice_index_or}
use Rattle.std.specs.List.{list_all}
use Rattle.clause_base.specs.declared.lit.Lit.{Lit}
use Rattle.clause_base.specs.Literals.{has_no_variable_twice, opposite}
use Rattle.sat_watch.specs.declared.trail.Entry.{Entry}
use Rattle.clause_base.specs.declared.answer.StepAnswer.TheVariants.{Good}
use Rattle.clause_base.specs.Formulas.{in_range}
use Rattle.clause_base.specs.Follows.{answer_of, hinted}
use Rattle.clause_base.specs.Logs.{Refutes}
use Rattle.sat_watch.specs.Searching.{Base, NoneRefutes, all_of}
use Rattle.sat_watch.specs.Trails.{decided, is_among}

abbrev pub is_wanted : List Bool → ℕ → Bool
is_wanted wanted v = slice_index_or wanted (v - 1) false

-- each literal is the opposite of a decision
pub record Opposes (lits : List Lit) (entries : List Entry) : Type 0 where
  pub each : (l : Lit) → is_among l lits ≡ true → is_among (opposite l) (decided entries) ≡ true

-- one of the literals is the opposite of a decision of a later level
pub record GoesBelow (level : ℕ) (lits : List Lit) (entries : List Entry) : Type 0 where
  pub newer : List Entry
  pub e : Entry
  pub older : List Entry
  pub is : entries ≡ newer ++ e ∷ older
  pub by_choice : e.reason ≡ None
  pub stands : is_among (opposite e.lit) lits ≡ true
  pub below : level < e.level

-- one step more was logged; whether its clause is empty
pub record IsLearnt (old new : Base) (refuted : Bool) : Type 0 where
  pub vars : new.vars ≡ old.vars
  pub clauses : new.clauses ≡ old.clauses
  pub many : length new.steps ≡ length old.steps + 1
  pub going : refuted ≡ false → NoneRefutes new.steps
  pub refutes : refuted ≡ true → Refutes new.steps

-- what a walk over the trail finds: a clause that follows, and the level to go back to
pub record IsWalked (base : Base) (entries : List Entry) (lits : List Lit) (hints : List ℕ)
    (level : ℕ) : Type 0 where
  pub distinct : has_no_variable_twice lits ≡ true
  pub within : list_all (in_range base.vars) lits ≡ true
  pub named : All (λ h. (0 < h) × (h ≤ length (all_of base))) hints
  pub good : answer_of lits (hinted (all_of base) hints) ≡ Good
  pub opposes : Opposes lits entries
  pub below : lits ≢ [] → GoesBelow level lits entries
