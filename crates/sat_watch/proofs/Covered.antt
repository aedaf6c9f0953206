-- Clauses whose variables are in range.
use Rattle.std.proofs.Common.{◌≡◌, ℕ, zero, suc, ◌<◌, ◌≤◌, true, List, [], ◌∷◌, ◌++◌, slice_get, Some, refl, ap, ◌∙◌, inl, inr}
use Rattle.std.specs.List.{list_all}
use Rattle.std.proofs.lemmas.Bool.{and_parts, and_from}
use Rattle.std.proofs.lemmas.List.Elements.{All-nil, All-cons}
use Rattle.clause_base.specs.declared.lit.Lit.{Lit}
use Rattle.clause_base.specs.declared.clause.Clause.{Clause}
use Rattle.clause_base.specs.Formulas.{in_range, clauses_in_range}
use Rattle.clause_base.specs.Literals.{IsCovered}
use Rattle.sat_watch.specs.Trails.{is_among}
use Rattle.sat_watch.proofs.Literals.{among_cases}
use Rattle.sat_watch.proofs.Ordered.{range_parts}

pub covered : (vars : ℕ) (lits : List Lit) → list_all (in_range vars) lits ≡ true → IsCovered vars lits
covered vars [] h = record { each = All-nil (λ l. (0 < l.var) × (l.var ≤ vars)) }
covered vars (l ∷ ls) h =
    let parts = and_parts (in_range vars l) (list_all (in_range vars) ls) h in
    record { each = All-cons (λ l. (0 < l.var) × (l.var ≤ vars)) l ls (range_parts vars l parts.0) (covered vars ls parts.1).each }

pub clause_in_range : (vars : ℕ) (clauses : List Clause) (k : ℕ) (c : Clause) → clauses_in_range vars clauses ≡ true → slice_get clauses k ≡ Some c → list_all (in_range vars) c.lits ≡ true
clause_in_range vars [] k c h e = cc
clause_in_range vars (d ∷ ds) zero c h e =
    let same : d ≡ c = cc in
    let here = (and_parts (list_all (in_range vars) d.lits) (clauses_in_range vars ds) h).0 in
    cc
clause_in_range vars (d ∷ ds) (suc k) c h e = clause_in_range vars ds k c (and_parts (list_all (in_range vars) d.lits) (clauses_in_range vars ds) h).1 e

pub covered_at : (vars : ℕ) (clauses : List Clause) (k : ℕ) (c : Clause) → slice_get clauses k ≡ Some c → clauses_in_range vars clauses ≡ true → IsCovered vars c.lits
covered_at vars clauses k c e h = covered vars c.lits (clause_in_range vars clauses k c h e)

pub in_range_push : (vars : ℕ) (clauses : List Clause) (c : Clause) → clauses_in_range vars clauses ≡ true → list_all (in_range vars) c.lits ≡ true → clauses_in_range vars (clauses ++ c ∷ []) ≡ true
in_range_push vars [] c h here = and_from (list_all (in_range vars) c.lits) true here refl
in_range_push vars (d ∷ ds) c h here =
    let parts = and_parts (list_all (in_range vars) d.lits) (clauses_in_range vars ds) h in
    and_from (list_all (in_range vars) d.lits) (clauses_in_range vars (ds ++ c ∷ [])) parts.0 (in_range_push vars ds c parts.1 here)

pub range_front : (vars : ℕ) (clauses more : List Clause) → clauses_in_range vars (clauses ++ more) ≡ true → clauses_in_range vars clauses ≡ true
range_front vars [] more h = refl
range_front vars (c ∷ cs) more h =
    let parts = and_parts (list_all (in_range vars) c.lits) (clauses_in_range vars (cs ++ more)) h in
    and_from (list_all (in_range vars) c.lits) (clauses_in_range vars cs) parts.0 (range_front vars cs more parts.1)

pub among_in_range : (vars : ℕ) (lits : List Lit) (l : Lit) → list_all (in_range vars) lits ≡ true → is_among l lits ≡ true → in_range vars l ≡ true
among_in_range vars [] l h here = cc
among_in_range vars (k ∷ ks) l h here =
    let parts = and_parts (in_range vars k) (list_all (in_range vars) ks) h in
    elim (among_cases l k ks here) [
      | inl same ↦ ap (in_range vars) same ∙ parts.0
      | inr later ↦ among_in_range vars ks l parts.1 later
    ]
