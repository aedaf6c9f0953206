-- Clauses without an empty one.
use Rattle.std.proofs.Common.{◌≢◌, List, [], ◌∷◌}
use Rattle.std.specs.Prelude.{All}
use Rattle.std.proofs.lemmas.List.Elements.{All-cons, All-head, All-nil, All-tail}
use Rattle.clause_base.specs.declared.clause.Clause.{Clause}
use Rattle.clause_base.specs.declared.lit.Lit.{Lit}
use Rattle.cnf_build.specs.Gates.{literals}

pub none_empty : (clauses : List Clause) → All (λ (lits : List Lit). lits ≢ []) (literals clauses)
    → All (λ (c : Clause). c.lits ≢ []) clauses
none_empty [] h = All-nil (λ (c : Clause). c.lits ≢ [])
none_empty (c ∷ clauses) h =
    let P = λ (lits : List Lit). lits ≢ [] in
    All-cons (λ (d : Clause). d.lits ≢ []) c clauses (All-head P c.lits (literals clauses) h)
    (none_empty clauses (All-tail P c.lits (literals clauses) h))
