-- When two formulas, sessions and choices are one.
use Rattle.std.proofs.Common.{◌≡◌, ℕ, true, List, refl, sym, ap, ◌∙◌}
use Rattle.std.proofs.Math.Bool.{Bool-set}
use Rattle.choice_tree.specs.declared.selection.Choice.{Choice}
use Rattle.clause_base.specs.Formulas.{clauses_in_range}
use Rattle.clause_base.specs.declared.clause.Clause.{Clause}
use Rattle.clause_base.specs.declared.formula.Formula.{Formula}
use Rattle.clause_base.specs.declared.log.Log.{Log}
use Rattle.clause_base.specs.declared.log.Step.{Step}
use Rattle.step_lines.proofs.Values.{over}
use Rattle.input_space.specs.declared.session.Query.{Query}
use Rattle.input_space.specs.declared.session.Session.{Session}
use Rattle.cert_text.specs.Drafts.{IsSession}

abbrev Parts : Type 0
Parts = ℕ × List Clause

abbrev AreInRange : Parts → Type 0
AreInRange p = clauses_in_range p.0 p.1 ≡ true

abbrev formula_with : (p : Parts) → AreInRange p → Formula
formula_with p r = record { vars = p.0; clauses = p.1; in_range = r }

one_range : (p : Parts) → IsProp (AreInRange p)
one_range p = hlevel Bool-set

same_parts : (v w : ℕ) (c d : List Clause) → v ≡ w → c ≡ d → ◌≡◌ {A = Parts} (v, c) (w, d)
same_parts v w c d e f = cc

pub same_formula : (f g : Formula) → f.vars ≡ g.vars → f.clauses ≡ g.clauses → f ≡ g
same_formula f g v c =
    over AreInRange formula_with one_range (f.vars, f.clauses) (g.vars, g.clauses)
    (same_parts f.vars g.vars f.clauses g.clauses v c) f.in_range g.in_range

abbrev log_with : List Step → Log
log_with steps = record { steps = steps }

same_log : (a b : Log) → a.steps ≡ b.steps → a ≡ b
same_log a b e = ap log_with e

abbrev session_with : Query → Formula → Log → Session
session_with q f l = record { query = q; formula = f; log = l }

pub same_session : (s t : Session) → s.query ≡ t.query → s.formula.vars ≡ t.formula.vars → s.formula.clauses ≡ t.formula.clauses → s.log.steps ≡ t.log.steps → s ≡ t
same_session s t q v c l =
    let f : s.formula ≡ t.formula = same_formula s.formula t.formula v c in
    let g : s.log ≡ t.log = same_log s.log t.log l in
    ap (λ x. session_with x s.formula s.log) q ∙ ap (λ x. session_with t.query x s.log) f ∙ ap (session_with t.query t.formula) g

-- the parts of a session tell which it is
pub one_session : (s t : Session) (q : Query) (vars : ℕ) (clauses : List Clause) (steps : List Step) → IsSession s q vars clauses steps → IsSession t q vars clauses steps → s ≡ t
one_session s t q vars clauses steps h g =
    same_session s t (h.asked ∙ sym g.asked) (h.number ∙ sym g.number) (h.clauses_are ∙ sym g.clauses_are) (h.steps_are ∙ sym g.steps_are)

-- a session of given parts
pub session_of : (q : Query) (vars : ℕ) (clauses : List Clause) (steps : List Step) → clauses_in_range vars clauses ≡ true → Session
session_of q vars clauses steps r = record {
  query = q;
  formula = record { vars = vars; clauses = clauses; in_range = r };
  log = record { steps = steps };
}

pub session_is : (q : Query) (vars : ℕ) (clauses : List Clause) (steps : List Step) (r : clauses_in_range vars clauses ≡ true) → IsSession (session_of q vars clauses steps r) q vars clauses steps
unfolding session_of
session_is q vars clauses steps r = record { asked = refl; number = refl; clauses_are = refl; steps_are = refl }

abbrev choice_with : ℕ → ℕ → Choice
choice_with p m = record { pick = p; member = m }

pub same_choice : (a b : Choice) → a.pick ≡ b.pick → a.member ≡ b.member → a ≡ b
same_choice a b p m = ap (λ x. choice_with x a.member) p ∙ ap (choice_with b.pick) m
