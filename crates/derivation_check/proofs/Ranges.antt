-- Variables in range, by the tests and place by place.
use Rattle.std.proofs.Common.{◌≡◌, ℕ, zero, suc, ◌<◌, ◌≤◌, true, List, [], ◌∷◌, slice_get, Some}
use Rattle.std.specs.List.{list_all}
use Rattle.std.proofs.lemmas.Bool.{and_parts, ltb-true, leb-true}
use Rattle.std.proofs.lemmas.List.Elements.{All-nil, All-cons}
use Rattle.std.specs.Prelude.{nat_lt, nat_le}
use Rattle.clause_base.specs.declared.lit.Lit.{Lit}
use Rattle.clause_base.specs.declared.clause.Clause.{Clause}
use Rattle.clause_base.specs.Formulas.{in_range, clauses_in_range}
use Rattle.derivation_check.specs.Marks.{Covers, ClausesCovered}

pub covers_range : (vars : ℕ) (lits : List Lit) → list_all (in_range vars) lits ≡ true → Covers vars lits
covers_range vars [] h = All-nil (λ l. (0 < l.var) × (l.var ≤ vars))
covers_range vars (l ∷ ls) h =
    let parts = and_parts (in_range vars l) (list_all (in_range vars) ls) h in
    let bounds = and_parts (nat_lt 0 l.var) (nat_le l.var vars) parts.0 in
    All-cons (λ l. (0 < l.var) × (l.var ≤ vars)) l ls (ltb-true 0 l.var bounds.0, leb-true l.var vars bounds.1) (covers_range vars ls parts.1)

clause_in_range : (vars : ℕ) (clauses : List Clause) (k : ℕ) (c : Clause) → clauses_in_range vars clauses ≡ true → slice_get clauses k ≡ Some c → list_all (in_range vars) c.lits ≡ true
clause_in_range vars [] k c h e = cc
clause_in_range vars (d ∷ ds) zero c h e =
    let same : d ≡ c = cc in
    let here = (and_parts (list_all (in_range vars) d.lits) (clauses_in_range vars ds) h).0 in
    cc
clause_in_range vars (d ∷ ds) (suc k) c h e = clause_in_range vars ds k c (and_parts (list_all (in_range vars) d.lits) (clauses_in_range vars ds) h).1 e

pub all_covered : (vars : ℕ) (clauses : List Clause) → clauses_in_range vars clauses ≡ true → ClausesCovered vars clauses
all_covered vars clauses h = record { each = λ k c e. covers_range vars c.lits (clause_in_range vars clauses k c h e) }
