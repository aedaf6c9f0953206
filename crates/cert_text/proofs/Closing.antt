-- Each draft can go on to a whole certificate.
use Rattle.std.proofs.Common.{◌≡◌, ◌≢◌, inl, inr, ℕ, List, [], ◌∷◌, ◌++◌, refl, sym, ◌∙◌, subst, arith, append_assoc}
use Rattle.std.proofs.lemmas.List.{append-nil}
use Rattle.clause_base.specs.declared.clause.Clause.{Clause}
use Rattle.input_space.specs.declared.session.Query.{Query}
use Rattle.input_space.specs.declared.session.Session.{Session}
use Rattle.cert_text.specs.declared.cert.Cert.{Cert}
use Rattle.cert_text.specs.declared.cert.Claim.TheVariants as claim
use Rattle.cert_text.specs.declared.draft.Draft.{Draft}
use Rattle.cert_text.specs.declared.draft.Draft.TheVariants as draft
use Rattle.cert_text.specs.Certificates.{CanGoOn}
use Rattle.cert_text.specs.Drafts.{IsSession, Next, bare, with_session}
use Rattle.cert_text.specs.LineForms.{claim_line, clause_line, first_line, last_line, selection_line, vars_line}
use Rattle.cert_text.proofs.Spelled.{Spelled, spelled_more}
use Rattle.cert_text.proofs.Steps.{Path}
use Rattle.cert_text.proofs.Values.{session_is, session_of}

pub record Finishes (d : Draft) : Type 0 where
  pub more : List (List ℕ)
  pub cert : Cert
  pub path : Path d more (draft.Whole cert)

along : (ls : List (List ℕ)) (d : Draft) (ms : List (List ℕ)) (e : Draft) → Spelled ls d → Path d ms e → Spelled (ls ++ ms) e
along ls d [] e h p = subst (λ x. Spelled x e) (sym (append-nil ls)) (subst (Spelled ls) p h)
along ls d (l ∷ ms) e h p =
    subst (λ x. Spelled x e) (append_assoc ls (l ∷ []) ms)
    (along (ls ++ l ∷ []) p.0 ms e (spelled_more ls d l p.0 h p.1) p.2)

-- with one line more
further : (d : Draft) (l : List ℕ) (e : Draft) → Next d l e → Finishes e → Finishes d
further d l e n f = record { more = l ∷ f.more; cert = f.cert; path = (e, n, f.path) }

whole : (c : Cert) → Finishes (draft.Whole c)
whole c = record { more = []; cert = c; path = refl }

cases_finish : (c : Cert) → Finishes (draft.Cases c)
cases_finish c = further (draft.Cases c) last_line (draft.Whole c) (inr (inr (record { written = refl; gives = refl }))) (whole c)

some_finish : (c : Cert) (s : Session) → s.formula.clauses ≢ [] → Finishes (draft.Inside c s)
some_finish c s some =
    further (draft.Inside c s) last_line (draft.Whole (with_session c s))
    (inr (inr (record { some = some; goes_on = inr (record { written = refl; gives = refl }) }))) (whole (with_session c s))

empty_clause : Clause
empty_clause = record { lits = []; distinct = refl }

-- a clause without literals
none_finish : (c : Cert) (s : Session) → s.formula.clauses ≡ [] → s.log.steps ≡ [] → Finishes (draft.Inside c s)
unfolding empty_clause
none_finish c s none early =
    let q = s.query in
    let v = s.formula.vars in
    let m = session_of q v (empty_clause ∷ []) [] refl in
    let is = session_is q v (empty_clause ∷ []) [] refl in
    further (draft.Inside c s) (clause_line empty_clause) (draft.Inside c m)
    (inl (record {
      early = early;
      clause = empty_clause;
      spelled = record { written = refl; kept = refl };
      session = m;
      parts = subst (λ x. IsSession m q v (x ++ empty_clause ∷ []) []) (sym none) is;
      gives = refl;
    }))
    (some_finish c m (λ e. let no : empty_clause ∷ [] ≡ [] = sym is.clauses_are ∙ e in cc))

inside_finish : (c : Cert) (s : Session) (cs : List Clause) → s.formula.clauses ≡ cs → (s.formula.clauses ≡ [] → s.log.steps ≡ []) → Finishes (draft.Inside c s)
inside_finish c s [] e early = none_finish c s e (early e)
inside_finish c s (k ∷ cs) e early = some_finish c s (λ none. cc (e, none))

asked_finish : (c : Cert) (q : Query) → Finishes (draft.Asked c q)
asked_finish c q =
    let s = session_of q 0 [] [] refl in
    let is = session_is q 0 [] [] refl in
    further (draft.Asked c q) (vars_line 0) (draft.Inside c s)
    (record { vars = 0; spelled = record { written = refl; kept = omega arith }; session = s; parts = is; gives = refl })
    (none_finish c s is.clauses_are is.steps_are)

opened_finish : Finishes draft.Opened
opened_finish =
    further draft.Opened (claim_line claim.Nothing) (draft.Cases (bare claim.Nothing []))
    (record { claimed = claim.Nothing; spelled = record { written = refl; kept = tt }; gives = refl }) (cases_finish (bare claim.Nothing []))

finishes : (ls : List (List ℕ)) (d : Draft) → Spelled ls d → Finishes d
finishes ls draft.Start h = further draft.Start first_line draft.Opened (refl, refl) opened_finish
finishes ls draft.Opened h = opened_finish
finishes ls (draft.Claimed n) h =
    further (draft.Claimed n) (selection_line []) (draft.Cases (bare (claim.Cost n) []))
    (record { choices = []; spelled = record { written = refl; kept = record { rising = tt; each = refl } }; gives = refl })
    (cases_finish (bare (claim.Cost n) []))
finishes ls (draft.Cases c) h = cases_finish c
finishes ls (draft.Asked c q) h = asked_finish c q
finishes ls (draft.Inside c s) h = inside_finish c s s.formula.clauses refl h.kept.early
finishes ls (draft.Whole c) h = whole c

pub can_go_on : (ls : List (List ℕ)) (d : Draft) → Spelled ls d → CanGoOn ls
can_go_on ls d h =
    let f = finishes ls d h in
    record { more = f.more; cert = f.cert; spelled = along ls d f.more (draft.Whole f.cert) h f.path }
