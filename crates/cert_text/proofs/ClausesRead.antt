-- What the readers of clauses and steps give.
use Rattle.std.proofs.Common.{◌≡◌, ◌≢◌, ℕ, true, false, List, [], ◌∷◌, ◌++◌, Option, None, Some, MatchOption, IfOk, Result, Ok, Err, codes, refl, sym, ap, ◌∙◌, subst}
use Rattle.std.specs.List.{list_all}
use Rattle.clause_base.specs.Literals.{has_no_variable_twice}
use Rattle.clause_base.specs.declared.clause.Clause.{Clause}
use Rattle.clause_base.specs.declared.lit.Lit.{Lit}
use Rattle.clause_base.specs.Readings.{IsReading}
use Rattle.step_lines.proofs.Apart.{cons_tail}
use Rattle.step_lines.specs.Limits.{is_literal}
use Rattle.step_lines.specs.LineForms.{list_end, literals_text}
use Rattle.step_lines.specs.Words.{SpellsLiterals}
use Rattle.step_lines.proofs.ClausesRead.{one_literals, twice}
use Rattle.cert_text.specs.Drafts.{SpellsClause}

module _ (vars : ℕ) (line text : List ℕ) (e : line ≡ codes "f" ++ text) where
  literals_of : (c : Clause) → SpellsClause vars line c → SpellsLiterals vars text c.lits []
  literals_of c s = record {
    written = cons_tail 102 102 text (literals_text c.lits ++ list_end) (sym e ∙ s.written);
    apart = refl;
    kept = s.kept;
  }

  pub clause_none : (c : Clause) → SpellsClause vars line c → ((ls : List Lit) (b : List ℕ) → SpellsLiterals vars text ls b → ⊥) → ⊥
  clause_none c s none = none c.lits [] (literals_of c s)

  module _ (ls : List Lit) (b : List ℕ) (found : SpellsLiterals vars text ls b) where
    pub clause_behind : (c : Clause) → SpellsClause vars line c → b ≢ [] → ⊥
    clause_behind c s some = some (one_literals vars text ls c.lits b [] found (literals_of c s)).behind

    pub clause_read : {E : Type 0} (r : Result (Option Clause) E) → b ≡ [] → IfOk r (λ o. MatchOption o (has_no_variable_twice ls ≡ false) (λ c. c.lits ≡ ls)) → IfOk r (λ o. IsReading (SpellsClause vars line) o)
    clause_read (Err x) end h = h
    clause_read (Ok None) end h = λ c s. twice ls c (one_literals vars text ls c.lits b [] found (literals_of c s)).literals h
    clause_read (Ok (Some c)) end h = record {
      written = e ∙ ap (λ t. 102 ∷ t) (found.written ∙ ap (λ t. literals_text ls ++ (list_end ++ t)) end ∙ ap (λ t. literals_text t ++ list_end) (sym h));
      kept = subst (λ x. list_all (is_literal vars) x ≡ true) (sym h) found.kept;
    }
