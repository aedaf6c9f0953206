-- Where lines spell a certificate, its drafts go along them.
use Rattle.std.proofs.Common.{◌≡◌, ◌≢◌, inl, inr, ℕ, suc, ◌+◌, ◌≤◌, true, List, [], ◌∷◌, ◌++◌, map, length, refl, sym, ap, ◌∙◌, subst, arith, append_assoc, length-append}
use Rattle.std.specs.List.{AllZip, list_all}
use Rattle.std.proofs.lemmas.List.{append-nil}
use Rattle.choice_tree.specs.declared.selection.Choice.{Choice}
use Rattle.clause_base.specs.Formulas.{clauses_in_range, in_range}
use Rattle.clause_base.specs.declared.clause.Clause.{Clause}
use Rattle.clause_base.specs.declared.lit.Lit.{Lit}
use Rattle.clause_base.specs.declared.log.Step.{Step}
use Rattle.input_space.specs.declared.case.Case.{Case}
use Rattle.input_space.specs.declared.session.Query.{Query}
use Rattle.input_space.specs.declared.session.Session.{Session}
use Rattle.cert_text.specs.declared.cert.Cert.{Cert}
use Rattle.cert_text.specs.declared.cert.Claim.{Claim}
use Rattle.cert_text.specs.declared.cert.Claim.TheVariants as claim
use Rattle.cert_text.specs.declared.draft.Draft.{Draft}
use Rattle.cert_text.specs.declared.draft.Draft.TheVariants as draft
use Rattle.cert_text.specs.Certificates.{SpellsCert, front_lines, session_lines, sessions_lines}
use Rattle.cert_text.specs.Drafts.{GoesOn, IsSession, Next, bare, next_number, with_case, with_session}
use Rattle.step_lines.proofs.Apart.{all_left, all_right, both, two}
use Rattle.step_lines.proofs.WordKinds.{number_is}
use Rattle.step_lines.specs.Limits.{KeepsStep, KeepsSteps, greatest_number, is_literal, is_number}
use Rattle.step_lines.specs.LineForms.{step_line}
use Rattle.cert_text.specs.Limits.{KeepsClaim, KeepsSession, KeepsSessions}
use Rattle.cert_text.specs.LineForms.{SpellsCaseLine, clause_line, last_line, query_line}
use Rattle.cert_text.proofs.Steps.{Path, joined}
use Rattle.cert_text.proofs.Values.{one_session, session_is, session_of}

front_path : (k : Claim) (s : List Choice) → KeepsClaim k s → Path draft.Start (front_lines k s) (draft.Cases (bare k s))
front_path (claim.Cost n) s h = (
  draft.Opened,
  (refl, refl),
  (
    draft.Claimed n,
    record { claimed = claim.Cost n; spelled = record { written = refl; kept = h.0 }; gives = refl },
    (draft.Cases (bare (claim.Cost n) s), record { choices = s; spelled = record { written = refl; kept = h.1 }; gives = refl }, refl),
  ),
)
front_path claim.Nothing s h = (
  draft.Opened,
  (refl, refl),
  (
    draft.Cases (bare claim.Nothing []),
    record { claimed = claim.Nothing; spelled = record { written = refl; kept = tt }; gives = refl },
    ap (λ x. draft.Cases (bare claim.Nothing x)) (sym h),
  ),
)
front_path (claim.Spent n) s h = (
  draft.Opened,
  (refl, refl),
  (
    draft.Cases (bare (claim.Spent n) []),
    record { claimed = claim.Spent n; spelled = record { written = refl; kept = (h.0, h.1) }; gives = refl },
    ap (λ x. draft.Cases (bare (claim.Spent n) x)) (sym h.2),
  ),
)

abbrev with_cases : Cert → List Case → Cert
with_cases c ks = record c { cases = ks }

cases_path : (c : Cert) (ls : List (List ℕ)) (ks : List Case) → AllZip SpellsCaseLine ls ks → Path (draft.Cases c) ls (draft.Cases (with_cases c (c.cases ++ ks)))
cases_path c [] [] h = ap (λ ks. draft.Cases (with_cases c ks)) (sym (append-nil c.cases))
cases_path c [] (k ∷ ks) h = absurd h
cases_path c (l ∷ ls) [] h = absurd h
cases_path c (l ∷ ls) (k ∷ ks) h = (
  draft.Cases (with_case c k),
  inl (record { added = k; spelled = h.0; gives = refl }),
  subst (λ x. Path (draft.Cases (with_case c k)) ls (draft.Cases (with_cases c x))) (append_assoc c.cases (k ∷ []) ks) (cases_path (with_case c k) ls ks h.1),
)

-- literals in range are literals of the form
pub literals_are : (vars : ℕ) (lits : List Lit) → vars ≤ greatest_number → list_all (in_range vars) lits ≡ true → list_all (is_literal vars) lits ≡ true
literals_are vars [] low h = refl
literals_are vars (l ∷ lits) low h =
    let r = both (in_range vars l) (list_all (in_range vars) lits) h in
    two (is_literal vars l) (list_all (is_literal vars) lits) (one_is vars l low r.0) (literals_are vars lits low r.1)
  where
    one_is : (vars : ℕ) (l : Lit) → vars ≤ greatest_number → in_range vars l ≡ true → is_literal vars l ≡ true
    one_is vars l low h = two (in_range vars l) (is_number l.var) h (number_is l.var (low_var vars l low h))
      where
        low_var : (vars : ℕ) (l : Lit) → vars ≤ greatest_number → in_range vars l ≡ true → l.var ≤ greatest_number
        low_var vars l low h = grind arith

pub parts_from : (s m : Session) (q : Query) (vars : ℕ) (cs : List Clause) (ts : List Step) (ds : List Clause) (us : List Step) → IsSession s q vars cs ts → IsSession m q vars (cs ++ ds) (ts ++ us) → IsSession m s.query s.formula.vars (s.formula.clauses ++ ds) (s.log.steps ++ us)
parts_from s m q vars cs ts ds us h g = record {
  asked = g.asked ∙ sym h.asked;
  number = g.number ∙ sym h.number;
  clauses_are = g.clauses_are ∙ ap (λ x. x ++ ds) (sym h.clauses_are);
  steps_are = g.steps_are ∙ ap (λ x. x ++ us) (sym h.steps_are);
}

clauses_path : (c : Cert) (q : Query) (vars : ℕ) (done more : List Clause) (s t : Session) → IsSession s q vars done [] → IsSession t q vars (done ++ more) [] → vars ≤ greatest_number → clauses_in_range vars (done ++ more) ≡ true → Path (draft.Inside c s) (map clause_line more) (draft.Inside c t)
clauses_path c q vars done [] s t h g low r =
    ap (draft.Inside c) (one_session s t q vars done [] h (subst (λ x. IsSession t q vars x []) (append-nil done) g))
clauses_path c q vars done (k ∷ more) s t h g low r =
    let flat : done ++ k ∷ more ≡ (done ++ k ∷ []) ++ more = sym (append_assoc done (k ∷ []) more) in
    let inside = λ (x : Clause). list_all (in_range vars) x.lits in
    let r_flat : clauses_in_range vars ((done ++ k ∷ []) ++ more) ≡ true = subst (λ x. clauses_in_range vars x ≡ true) flat r in
    let r_next : clauses_in_range vars (done ++ k ∷ []) ≡ true = all_left inside (done ++ k ∷ []) more r_flat in
    let r_k = both (inside k) (list_all inside more) (all_right inside done (k ∷ more) r) in
    let m = session_of q vars (done ++ k ∷ []) [] r_next in
    let is = session_is q vars (done ++ k ∷ []) [] r_next in
    let kept = subst (λ v. list_all (is_literal v) k.lits ≡ true) (sym h.number) (literals_are vars k.lits low r_k.0) in
    let parts = parts_from s m q vars done [] (k ∷ []) [] h is in (
      draft.Inside c m,
      inl (record {
        early = h.steps_are;
        clause = k;
        spelled = record { written = refl; kept = kept };
        session = m;
        parts = subst (λ x. IsSession m s.query s.formula.vars (s.formula.clauses ++ k ∷ []) x) (append-nil s.log.steps ∙ h.steps_are) parts;
        gives = refl;
      }),
      clauses_path c q vars (done ++ k ∷ []) more m t is (subst (λ x. IsSession t q vars x []) flat g) low r_flat,
    )

steps_path : (c : Cert) (q : Query) (vars : ℕ) (cs : List Clause) (r : clauses_in_range vars cs ≡ true) (done more : List Step) (s t : Session) → cs ≢ [] → IsSession s q vars cs done → IsSession t q vars cs (done ++ more) → KeepsSteps vars (suc (length cs) + length done) more → Path (draft.Inside c s) (map step_line more) (draft.Inside c t)
steps_path c q vars cs r done [] s t some h g k =
    ap (draft.Inside c) (one_session s t q vars cs done h (subst (λ x. IsSession t q vars cs x) (append-nil done) g))
steps_path c q vars cs r done (u ∷ more) s t some h g k =
    let flat : done ++ u ∷ more ≡ (done ++ u ∷ []) ++ more = sym (append_assoc done (u ∷ []) more) in
    let m = session_of q vars cs (done ++ u ∷ []) r in
    let is = session_is q vars cs (done ++ u ∷ []) r in
    let parts = parts_from s m q vars cs done [] (u ∷ []) h (subst (λ x. IsSession m q vars x (done ++ u ∷ [])) (sym (append-nil cs)) is) in
    let lengths : suc (length cs) + length done ≡ next_number s = ap (λ n. suc (length cs) + n) (ap length (sym h.steps_are)) ∙ ap (λ n. suc n + length s.log.steps) (ap length (sym h.clauses_are)) ∙ (omega arith) in
    let grown : suc (suc (length cs) + length done) ≡ suc (length cs) + length (done ++ u ∷ []) = omega (arith, length-append done (u ∷ [])) in
    let kept = subst (λ v. KeepsStep v (next_number s) u) (sym h.number) (subst (λ n. KeepsStep vars n u) lengths k.0) in (
      draft.Inside c m,
      inr (inl (record {
        some = λ none. some (sym h.clauses_are ∙ none);
        step = u;
        spelled = record { written = refl; kept = kept };
        session = m;
        parts = subst (λ x. IsSession m s.query s.formula.vars x (s.log.steps ++ u ∷ [])) (append-nil s.formula.clauses) parts;
        gives = refl;
      })),
      steps_path c q vars cs r (done ++ u ∷ []) more m t some is (subst (λ x. IsSession t q vars cs x) flat g) (subst (λ n. KeepsSteps vars n more) grown k.1),
    )

-- drafts behind which a session or the end may come
abbrev pub Closed : Draft → Cert → Type 0
Closed d c = (l : List ℕ) (e : Draft) → GoesOn c l e → Next d l e

session_path : (d : Draft) (c : Cert) (s : Session) → Closed d c → KeepsSession (length c.cases) s → Path d (session_lines s) (draft.Inside c s)
session_path d c s closed k =
    let q = s.query in
    let v = s.formula.vars in
    let cs = s.formula.clauses in
    let ts = s.log.steps in
    let none = session_of q v [] [] refl in
    let early = session_of q v cs [] s.formula.in_range in
    let none_is = session_is q v [] [] refl in
    let early_is = session_is q v cs [] s.formula.in_range in
    let whole : IsSession s q v cs ts = record { asked = refl; number = refl; clauses_are = refl; steps_are = refl } in
    let numbers : suc (length cs) ≡ suc (length cs) + 0 = omega arith in (
      draft.Asked c q,
      closed (query_line q) (draft.Asked c q) (inl (record { asked = q; spelled = record { written = refl; kept = k.asked }; gives = refl })),
      (
        draft.Inside c none,
        record { vars = v; spelled = record { written = refl; kept = k.number }; session = none; parts = none_is; gives = refl },
        joined (draft.Inside c none) (map clause_line cs) (draft.Inside c early) (map step_line ts) (draft.Inside c s)
            (clauses_path c q v [] cs none early none_is early_is k.number s.formula.in_range)
            (steps_path c q v cs s.formula.in_range [] ts early s k.some early_is whole (subst (λ n. KeepsSteps v n ts) numbers k.steps)),
      ),
    )

inside_closed : (c : Cert) (s : Session) → s.formula.clauses ≢ [] → Closed (draft.Inside c s) (with_session c s)
inside_closed c s some = λ l e g. inr (inr (record { some = some; goes_on = g }))

abbrev with_sessions : Cert → List Session → Cert
with_sessions c ss = record c { sessions = ss }

sessions_path : (d : Draft) (c : Cert) (ss : List Session) → Closed d c → KeepsSessions (length c.cases) ss → Path d (sessions_lines ss ++ last_line ∷ []) (draft.Whole (with_sessions c (c.sessions ++ ss)))
sessions_path d c [] closed k = (
  draft.Whole c,
  closed last_line (draft.Whole c) (inr (record { written = refl; gives = refl })),
  ap (λ x. draft.Whole (with_sessions c x)) (sym (append-nil c.sessions)),
)
sessions_path d c (s ∷ ss) closed k =
    let end = last_line ∷ [] in
    let rest = sessions_path (draft.Inside c s) (with_session c s) ss (inside_closed c s k.0.some) k.1 in
    let there = subst (λ x. Path (draft.Inside c s) (sessions_lines ss ++ end) (draft.Whole (with_sessions c x))) (append_assoc c.sessions (s ∷ []) ss) rest in
    subst (λ ls. Path d ls (draft.Whole (with_sessions c (c.sessions ++ s ∷ ss)))) (sym (append_assoc (session_lines s) (sessions_lines ss) end))
    (joined d (session_lines s) (draft.Inside c s) (sessions_lines ss ++ end) (draft.Whole (with_sessions c (c.sessions ++ s ∷ ss))) (session_path d c s closed k.0) there)

pub cases_closed : (c : Cert) → Closed (draft.Cases c) c
cases_closed c = λ l e g. inr g

pub complete : (ls : List (List ℕ)) (c : Cert) → SpellsCert ls c → Path draft.Start ls (draft.Whole c)
complete ls c h =
    let first = bare c.claim c.selection in
    let second = with_cases first c.cases in
    let tail = sessions_lines c.sessions ++ last_line ∷ [] in
    let behind = joined (draft.Cases first) h.case_lines (draft.Cases second) tail (draft.Whole c)
    (cases_path first h.case_lines c.cases h.cases)
    (sessions_path (draft.Cases second) second c.sessions (cases_closed second) h.kept.sessions) in
    subst (λ x. Path draft.Start x (draft.Whole c)) (sym h.written)
    (joined draft.Start (front_lines c.claim c.selection) (draft.Cases first) (h.case_lines ++ tail) (draft.Whole c)
    (front_path c.claim c.selection h.kept.claimed) behind)
