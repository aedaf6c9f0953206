-- What the readers of drafts give.
use Rattle.std.proofs.Common.{◌≡◌, ◌≢◌, inl, inr, ℕ, ◌<◌, List, [], ◌∷◌, ◌++◌, Option, None, Some, IfOk, Result, Ok, Err, length, refl, subst, arith}
use Rattle.clause_base.specs.declared.clause.Clause.{Clause}
use Rattle.clause_base.specs.declared.log.Step.{Step}
use Rattle.clause_base.specs.Readings.{IsReading}
use Rattle.step_lines.specs.Steps.{SpellsStep}
use Rattle.input_space.specs.declared.case.Case.{Case}
use Rattle.input_space.specs.declared.session.Query.{Query}
use Rattle.input_space.specs.declared.session.Session.{Session}
use Rattle.cert_text.specs.declared.cert.Cert.{Cert}
use Rattle.cert_text.specs.declared.cert.Claim.{Claim}
use Rattle.cert_text.specs.declared.cert.Claim.TheVariants as claim
use Rattle.cert_text.specs.declared.draft.Draft.{Draft}
use Rattle.cert_text.specs.declared.draft.Draft.TheVariants as draft
use Rattle.cert_text.specs.Drafts.{AddsVars, GoesOn, IsSession, Next, SpellsClause, SpellsQuery, SpellsVars, after_claim, bare, next_number, with_session}
use Rattle.cert_text.specs.LineForms.{SpellsCaseLine, last_line}

pub after_other : (k : Claim) → ((n : ℕ) → k ≡ claim.Cost n → ⊥) → draft.Cases (bare k []) ≡ after_claim k
after_other (claim.Cost n) other = absurd (other n refl)
after_other claim.Nothing other = refl
after_other (claim.Spent n) other = refl

-- behind whole sessions

pub no_more : (c : Cert) (line : List ℕ) → ((q : Query) → SpellsQuery (length c.cases) line q → ⊥) → (line ≡ last_line → ⊥) → (next : Draft) → GoesOn c line next → ⊥
no_more c line none end next (inl a) = none a.asked a.spelled
no_more c line none end next (inr a) = end a.written

-- cases

pub behind_cases : {E : Type 0} (c : Cert) (line : List ℕ) (r : Result (Option Draft) E) → ((k : Case) → SpellsCaseLine line k → ⊥) → IfOk r (λ o. IsReading (GoesOn c line) o) → IfOk r (λ o. IsReading (Next (draft.Cases c) line) o)
behind_cases c line (Err x) none h = h
behind_cases c line (Ok None) none h = λ x n. elim n [ inl a ↦ none a.added a.spelled | inr g ↦ h x g ]
behind_cases c line (Ok (Some d)) none h = inr h

-- sessions

pub vars_added : (c : Cert) (q : Query) (line : List ℕ) (v : ℕ) (s : Session) → SpellsVars line v → IsSession s q v [] [] → AddsVars c q line (draft.Inside c s)
vars_added c q line v s h is = record { vars = v; spelled = h; session = s; parts = is; gives = refl }

pub some_steps : {A : Type 0} (xs : List A) → 0 < length xs → xs ≡ [] → ⊥
some_steps [] h e = omega (arith, h)
some_steps (x ∷ xs) h e = cc

module _ (c : Cert) (s : Session) (line : List ℕ) where
  abbrev NoClause : Type 0
  NoClause = (k : Clause) → (s.log.steps ≡ []) × SpellsClause s.formula.vars line k → ⊥

  pub clause_added : (k : Clause) (t : Session) → s.log.steps ≡ [] → SpellsClause s.formula.vars line k → IsSession t s.query s.formula.vars (s.formula.clauses ++ k ∷ []) s.log.steps → Next (draft.Inside c s) line (draft.Inside c t)
  clause_added k t early h is = inl (record {
    early = early;
    clause = k;
    spelled = h;
    session = t;
    parts = subst (IsSession t s.query s.formula.vars (s.formula.clauses ++ k ∷ [])) early is;
    gives = refl;
  })

  pub no_first : NoClause → s.formula.clauses ≡ [] → (next : Draft) → Next (draft.Inside c s) line next → ⊥
  no_first none empty next (inl a) = none a.clause (a.early, a.spelled)
  no_first none empty next (inr (inl a)) = a.some empty
  no_first none empty next (inr (inr a)) = a.some empty

  pub step_added : (k : Step) (t : Session) → s.formula.clauses ≢ [] → SpellsStep s.formula.vars (next_number s) line k → IsSession t s.query s.formula.vars s.formula.clauses (s.log.steps ++ k ∷ []) → Next (draft.Inside c s) line (draft.Inside c t)
  step_added k t some h is = inr (inl (record { some = some; step = k; spelled = h; session = t; parts = is; gives = refl }))

  pub closed_behind : {E : Type 0} (r : Result (Option Draft) E) → NoClause → s.formula.clauses ≢ [] → ((k : Step) → SpellsStep s.formula.vars (next_number s) line k → ⊥) → IfOk r (λ o. IsReading (GoesOn (with_session c s) line) o) → IfOk r (λ o. IsReading (Next (draft.Inside c s) line) o)
  closed_behind (Err x) none some no_step h = h
  closed_behind (Ok None) none some no_step h = λ x n. elim n [
    | inl a ↦ none a.clause (a.early, a.spelled)
    | inr b ↦ elim b [ inl a ↦ no_step a.step a.spelled | inr a ↦ h x a.goes_on ]
  ]
  closed_behind (Ok (Some d)) none some no_step h = inr (inr (record { some = some; goes_on = h }))
