-- What the lines that were read spell.
use Rattle.std.proofs.Common.{◌≡◌, ◌≢◌, inl, inr, ℕ, suc, ◌+◌, ◌≤◌, List, [], ◌∷◌, ◌++◌, map, length, refl, sym, ap, ◌∙◌, subst, arith, append_assoc}
use Rattle.std.specs.List.{AllZip, flat_map}
use Rattle.std.proofs.lemmas.List.{append-nil, map_push}
use Rattle.clause_base.specs.declared.clause.Clause.{Clause}
use Rattle.clause_base.specs.declared.log.Step.{Step}
use Rattle.input_space.specs.declared.case.Case.{Case}
use Rattle.input_space.specs.declared.session.Query.{Query}
use Rattle.input_space.specs.declared.session.Session.{Session}
use Rattle.cert_text.specs.declared.cert.Cert.{Cert}
use Rattle.cert_text.specs.declared.cert.Claim.{Claim}
use Rattle.cert_text.specs.declared.cert.Claim.TheVariants as claim
use Rattle.cert_text.specs.declared.draft.Draft.{Draft}
use Rattle.cert_text.specs.declared.draft.Draft.TheVariants as draft
use Rattle.cert_text.specs.Certificates.{SpellsCert, front_lines, session_lines, sessions_lines}
use Rattle.cert_text.specs.Drafts.{AddsClause, AddsStep, GoesOn, IsSession, Next, SpellsClaim, after_claim, bare, with_case, with_session}
use Rattle.step_lines.specs.Limits.{KeepsStep, KeepsSteps, greatest_number}
use Rattle.step_lines.specs.LineForms.{step_line}
use Rattle.cert_text.specs.Limits.{KeepsClaim, KeepsForm, KeepsQuery, KeepsSession, KeepsSessions, greatest_cost}
use Rattle.cert_text.specs.LineForms.{SpellsCaseLine, claim_line, clause_line, first_line, last_line, query_line, vars_line}

-- whole sessions, or cases
pub record SpellsFront (ls : List (List ℕ)) (c : Cert) : Type 0 where
  pub case_lines : List (List ℕ)
  pub cases : AllZip SpellsCaseLine case_lines c.cases
  pub written : ls ≡ front_lines c.claim c.selection ++ (case_lines ++ sessions_lines c.sessions)
  pub kept : KeepsForm c

-- a session whose clauses may be missing
pub record KeepsOpen (count : ℕ) (s : Session) : Type 0 where
  pub asked : KeepsQuery count s.query
  pub number : s.formula.vars ≤ greatest_number
  pub early : s.formula.clauses ≡ [] → s.log.steps ≡ []
  pub steps : KeepsSteps s.formula.vars (suc (length s.formula.clauses)) s.log.steps

pub record SpellsInside (ls : List (List ℕ)) (c : Cert) (s : Session) : Type 0 where
  pub before : List (List ℕ)
  pub front : SpellsFront before c
  pub written : ls ≡ before ++ session_lines s
  pub kept : KeepsOpen (length c.cases) s

pub record SpellsAsked (ls : List (List ℕ)) (c : Cert) (q : Query) : Type 0 where
  pub before : List (List ℕ)
  pub front : SpellsFront before c
  pub written : ls ≡ before ++ query_line q ∷ []
  pub kept : KeepsQuery (length c.cases) q

abbrev pub Spelled : List (List ℕ) → Draft → Type 0
Spelled ls draft.Start = ls ≡ []
Spelled ls draft.Opened = ls ≡ first_line ∷ []
Spelled ls (draft.Claimed n) = (ls ≡ first_line ∷ claim_line (claim.Cost n) ∷ []) × (n ≤ greatest_cost)
Spelled ls (draft.Cases c) = SpellsFront ls c × (c.sessions ≡ [])
Spelled ls (draft.Asked c q) = SpellsAsked ls c q
Spelled ls (draft.Inside c s) = SpellsInside ls c s
Spelled ls (draft.Whole c) = SpellsCert ls c

-- lists that grow

pub zip_push : {A B : Type 0} (R : A → B → Type 0) (xs : List A) (ys : List B) (x : A) (y : B) → AllZip R xs ys → R x y → AllZip R (xs ++ x ∷ []) (ys ++ y ∷ [])
zip_push R [] [] x y h r = (r, tt)
zip_push R [] (z ∷ ys) x y h r = absurd h
zip_push R (z ∷ xs) [] x y h r = absurd h
zip_push R (z ∷ xs) (w ∷ ys) x y h r = (h.0, zip_push R xs ys x y h.1 r)

flat_push : {A B : Type 0} (f : A → List B) (xs : List A) (x : A) → flat_map f (xs ++ x ∷ []) ≡ flat_map f xs ++ f x
flat_push f [] x = append-nil (f x)
flat_push f (y ∷ xs) x = ap (λ t. f y ++ t) (flat_push f xs x) ∙ sym (append_assoc (f y) (flat_map f xs) (f x))

keeps_push : (count : ℕ) (sessions : List Session) (s : Session) → KeepsSessions count sessions → KeepsSession count s → KeepsSessions count (sessions ++ s ∷ [])
keeps_push count [] s h k = (k, tt)
keeps_push count (t ∷ sessions) s h k = (h.0, keeps_push count sessions s h.1 k)

steps_push : (vars number : ℕ) (steps : List Step) (s : Step) → KeepsSteps vars number steps → KeepsStep vars (number + length steps) s → KeepsSteps vars number (steps ++ s ∷ [])
steps_push vars number [] s h k = (let e : number + 0 ≡ number = omega arith in subst (λ n. KeepsStep vars n s) e k, tt)
steps_push vars number (t ∷ steps) s h k =
    let e : number + suc (length steps) ≡ suc number + length steps = omega arith in
    (h.0, steps_push vars (suc number) steps s h.1 (subst (λ n. KeepsStep vars n s) e k))

-- how many cases there are counts only where there are questions about them
no_sessions : (count : ℕ) (sessions : List Session) → sessions ≡ [] → KeepsSessions count sessions
no_sessions count sessions e = subst (KeepsSessions count) (sym e) tt

-- each kind of line

front_first : (c : Cert) (ls : List (List ℕ)) → KeepsClaim c.claim c.selection → c.cases ≡ [] → c.sessions ≡ [] → ls ≡ front_lines c.claim c.selection → SpellsFront ls c
front_first c ls k no_cases none e = record {
  case_lines = [];
  cases = subst (AllZip SpellsCaseLine []) (sym no_cases) tt;
  written = e ∙ sym (append-nil (front_lines c.claim c.selection)) ∙ ap (λ ss. front_lines c.claim c.selection ++ sessions_lines ss) (sym none);
  kept = record { claimed = k; sessions = no_sessions (length c.cases) c.sessions none };
}

add_claim : (ls : List (List ℕ)) (l : List ℕ) (k : Claim) → ls ≡ first_line ∷ [] → SpellsClaim l k → Spelled (ls ++ l ∷ []) (after_claim k)
add_claim ls l (claim.Cost n) e s = (ap (λ t. t ++ l ∷ []) e ∙ ap (λ t. first_line ∷ t ∷ []) s.written, s.kept)
add_claim ls l claim.Nothing e s =
    (front_first (bare claim.Nothing []) (ls ++ l ∷ []) refl refl refl (ap (λ t. t ++ l ∷ []) e ∙ ap (λ t. first_line ∷ t ∷ []) s.written), refl)
add_claim ls l (claim.Spent n) e s =
    (front_first (bare (claim.Spent n) []) (ls ++ l ∷ []) (s.kept.0, s.kept.1, refl) refl refl (ap (λ t. t ++ l ∷ []) e ∙ ap (λ t. first_line ∷ t ∷ []) s.written), refl)

add_case : (ls : List (List ℕ)) (l : List ℕ) (c : Cert) (k : Case) → SpellsFront ls c → c.sessions ≡ [] → SpellsCaseLine l k → SpellsFront (ls ++ l ∷ []) (with_case c k)
add_case ls l c k f none s = record {
  case_lines = f.case_lines ++ l ∷ [];
  cases = zip_push SpellsCaseLine f.case_lines c.cases l k f.cases s;
  written =
      (let front = front_lines c.claim c.selection in
      let bare_lines : ls ≡ front ++ (f.case_lines ++ []) = f.written ∙ ap (λ ss. front ++ (f.case_lines ++ sessions_lines ss)) none in
      let short : ls ≡ front ++ f.case_lines = bare_lines ∙ ap (λ t. front ++ t) (append-nil f.case_lines) in
      ap (λ t. t ++ l ∷ []) short ∙ append_assoc front f.case_lines (l ∷ [])
      ∙ ap (λ t. front ++ t) (sym (append-nil (f.case_lines ++ l ∷ [])))
      ∙ ap (λ ss. front ++ ((f.case_lines ++ l ∷ []) ++ sessions_lines ss)) (sym none));
  kept = record { claimed = f.kept.claimed; sessions = no_sessions (length (c.cases ++ k ∷ [])) c.sessions none };
}

add_session : (before : List (List ℕ)) (c : Cert) (s : Session) → SpellsFront before c → KeepsSession (length c.cases) s → SpellsFront (before ++ session_lines s) (with_session c s)
add_session before c s f k = record {
  case_lines = f.case_lines;
  cases = f.cases;
  written =
      (let front = front_lines c.claim c.selection in
      ap (λ t. t ++ session_lines s) f.written
      ∙ append_assoc front (f.case_lines ++ sessions_lines c.sessions) (session_lines s)
      ∙ ap (λ t. front ++ t) (append_assoc f.case_lines (sessions_lines c.sessions) (session_lines s))
      ∙ ap (λ t. front ++ (f.case_lines ++ t)) (sym (flat_push session_lines c.sessions s)));
  kept = record { claimed = f.kept.claimed; sessions = keeps_push (length c.cases) c.sessions s f.kept.sessions k };
}

pub add_end : (ls : List (List ℕ)) (c : Cert) → SpellsFront ls c → SpellsCert (ls ++ last_line ∷ []) c
add_end ls c f = record {
  case_lines = f.case_lines;
  cases = f.cases;
  written =
      (let front = front_lines c.claim c.selection in
      ap (λ t. t ++ last_line ∷ []) f.written
      ∙ append_assoc front (f.case_lines ++ sessions_lines c.sessions) (last_line ∷ [])
      ∙ ap (λ t. front ++ t) (append_assoc f.case_lines (sessions_lines c.sessions) (last_line ∷ [])));
  kept = f.kept;
}

add_more : (ls : List (List ℕ)) (l : List ℕ) (c : Cert) (e : Draft) → SpellsFront ls c → GoesOn c l e → Spelled (ls ++ l ∷ []) e
add_more ls l c e f (inl a) =
    subst (Spelled (ls ++ l ∷ [])) (sym a.gives)
    (record { before = ls; front = f; written = ap (λ t. ls ++ t ∷ []) a.spelled.written; kept = a.spelled.kept })
add_more ls l c e f (inr a) =
    subst (Spelled (ls ++ l ∷ [])) (sym a.gives)
    (subst (λ t. SpellsCert (ls ++ t ∷ []) c) (sym a.written) (add_end ls c f))

pub is_whole : (count : ℕ) (s : Session) → KeepsOpen count s → s.formula.clauses ≢ [] → KeepsSession count s
is_whole count s k some = record { asked = k.asked; number = k.number; some = some; steps = k.steps }

-- the lines of a session by its parts
abbrev part_lines : Query → ℕ → List Clause → List Step → List (List ℕ)
part_lines q vars clauses steps = query_line q ∷ vars_line vars ∷ (map clause_line clauses ++ map step_line steps)

session_parts : (s : Session) (q : Query) (vars : ℕ) (clauses : List Clause) (steps : List Step) → IsSession s q vars clauses steps → session_lines s ≡ part_lines q vars clauses steps
session_parts s q vars clauses steps h =
    ap (λ x. part_lines x s.formula.vars s.formula.clauses s.log.steps) h.asked
    ∙ ap (λ x. part_lines q x s.formula.clauses s.log.steps) h.number
    ∙ ap (λ x. part_lines q vars x s.log.steps) h.clauses_are
    ∙ ap (part_lines q vars clauses) h.steps_are

keeps_parts : (count : ℕ) (s : Session) (q : Query) (vars : ℕ) (clauses : List Clause) (steps : List Step) → IsSession s q vars clauses steps → KeepsQuery count q → vars ≤ greatest_number → (clauses ≡ [] → steps ≡ []) → KeepsSteps vars (suc (length clauses)) steps → KeepsOpen count s
keeps_parts count s q vars clauses steps h asked number early kept = record {
  asked = subst (KeepsQuery count) (sym h.asked) asked;
  number = subst (λ v. v ≤ greatest_number) (sym h.number) number;
  early = λ e. h.steps_are ∙ early (sym h.clauses_are ∙ e);
  steps =
      subst (λ v. KeepsSteps v (suc (length s.formula.clauses)) s.log.steps) (sym h.number)
      (subst (λ cs. KeepsSteps vars (suc (length cs)) s.log.steps) (sym h.clauses_are)
      (subst (KeepsSteps vars (suc (length clauses))) (sym h.steps_are) kept));
}

not_nil : {A : Type 0} (xs : List A) (x : A) → xs ++ x ∷ [] ≡ [] → ⊥
not_nil [] x e = cc
not_nil (y ∷ xs) x e = cc

add_clause : (ls : List (List ℕ)) (l : List ℕ) (c : Cert) (s : Session) (e : Draft) → SpellsInside ls c s → AddsClause c s l e → Spelled (ls ++ l ∷ []) e
add_clause ls l c s e h a =
    let old = session_parts s s.query s.formula.vars s.formula.clauses [] (record { asked = refl; number = refl; clauses_are = refl; steps_are = a.early }) in
    let new = session_parts a.session s.query s.formula.vars (s.formula.clauses ++ a.clause ∷ []) [] a.parts in
    let head : List (List ℕ) → List (List ℕ) = λ t. query_line s.query ∷ vars_line s.formula.vars ∷ t in
    let cs = map clause_line s.formula.clauses in
    let grown : session_lines s ++ l ∷ [] ≡ session_lines a.session =
    ap (λ t. t ++ l ∷ []) old ∙ ap (λ t. head (t ++ l ∷ [])) (append-nil cs)
    ∙ ap (λ t. head (cs ++ t ∷ [])) a.spelled.written
    ∙ ap head (sym (map_push clause_line s.formula.clauses a.clause))
    ∙ ap head (sym (append-nil (map clause_line (s.formula.clauses ++ a.clause ∷ [])))) ∙ sym new in
    subst (Spelled (ls ++ l ∷ [])) (sym a.gives)
    (record {
      before = h.before;
      front = h.front;
      written = ap (λ t. t ++ l ∷ []) h.written ∙ append_assoc h.before (session_lines s) (l ∷ []) ∙ ap (λ t. h.before ++ t) grown;
      kept = keeps_parts (length c.cases) a.session s.query s.formula.vars (s.formula.clauses ++ a.clause ∷ []) [] a.parts h.kept.asked h.kept.number (λ e. refl) tt;
    })

add_step : (ls : List (List ℕ)) (l : List ℕ) (c : Cert) (s : Session) (e : Draft) → SpellsInside ls c s → AddsStep c s l e → Spelled (ls ++ l ∷ []) e
add_step ls l c s e h a =
    let new = session_parts a.session s.query s.formula.vars s.formula.clauses (s.log.steps ++ a.step ∷ []) a.parts in
    let head : List (List ℕ) → List (List ℕ) = λ t. query_line s.query ∷ vars_line s.formula.vars ∷ t in
    let cs = map clause_line s.formula.clauses in
    let ts = map step_line s.log.steps in
    let grown : session_lines s ++ l ∷ [] ≡ session_lines a.session =
    ap head (append_assoc cs ts (l ∷ []))
    ∙ ap (λ t. head (cs ++ (ts ++ t ∷ []))) a.spelled.written
    ∙ ap (λ t. head (cs ++ t)) (sym (map_push step_line s.log.steps a.step)) ∙ sym new in
    let number : suc (length s.formula.clauses + length s.log.steps) ≡ suc (length s.formula.clauses) + length s.log.steps = omega arith in
    let kept = subst (λ n. KeepsStep s.formula.vars n a.step) number a.spelled.kept in
    subst (Spelled (ls ++ l ∷ [])) (sym a.gives)
    (record {
      before = h.before;
      front = h.front;
      written = ap (λ t. t ++ l ∷ []) h.written ∙ append_assoc h.before (session_lines s) (l ∷ []) ∙ ap (λ t. h.before ++ t) grown;
      kept = keeps_parts (length c.cases) a.session s.query s.formula.vars s.formula.clauses (s.log.steps ++ a.step ∷ []) a.parts h.kept.asked h.kept.number
          (λ none. absurd (a.some none)) (steps_push s.formula.vars (suc (length s.formula.clauses)) s.log.steps a.step h.kept.steps kept);
    })

-- one line more
pub spelled_more : (ls : List (List ℕ)) (d : Draft) (l : List ℕ) (e : Draft) → Spelled ls d → Next d l e → Spelled (ls ++ l ∷ []) e
spelled_more ls draft.Start l e h n = subst (Spelled (ls ++ l ∷ [])) (sym n.1) (ap (λ t. t ++ l ∷ []) h ∙ ap (λ t. t ∷ []) n.0)
spelled_more ls draft.Opened l e h n = subst (Spelled (ls ++ l ∷ [])) (sym n.gives) (add_claim ls l n.claimed h n.spelled)
spelled_more ls (draft.Claimed cost) l e h n =
    subst (Spelled (ls ++ l ∷ [])) (sym n.gives) (
      front_first (bare (claim.Cost cost) n.choices) (ls ++ l ∷ []) (h.1, n.spelled.kept) refl refl
          (ap (λ t. t ++ l ∷ []) h.0 ∙ ap (λ t. first_line ∷ claim_line (claim.Cost cost) ∷ t ∷ []) n.spelled.written),
      refl,
    )
spelled_more ls (draft.Cases c) l e h (inl a) = subst (Spelled (ls ++ l ∷ [])) (sym a.gives) (add_case ls l c a.added h.0 h.1 a.spelled, h.1)
spelled_more ls (draft.Cases c) l e h (inr a) = add_more ls l c e h.0 a
spelled_more ls (draft.Asked c q) l e h n =
    let new = session_parts n.session q n.vars [] [] n.parts in
    subst (Spelled (ls ++ l ∷ [])) (sym n.gives)
    (record {
      before = h.before;
      front = h.front;
      written = ap (λ t. t ++ l ∷ []) h.written ∙ append_assoc h.before (query_line q ∷ []) (l ∷ [])
          ∙ ap (λ t. h.before ++ (query_line q ∷ t ∷ [])) n.spelled.written ∙ ap (λ t. h.before ++ t) (sym new);
      kept = keeps_parts (length c.cases) n.session q n.vars [] [] n.parts h.kept n.spelled.kept (λ e. refl) tt;
    })
spelled_more ls (draft.Inside c s) l e h (inl a) = add_clause ls l c s e h a
spelled_more ls (draft.Inside c s) l e h (inr (inl a)) = add_step ls l c s e h a
spelled_more ls (draft.Inside c s) l e h (inr (inr a)) =
    let whole = add_session h.before c s h.front (is_whole (length c.cases) s h.kept a.some) in
    add_more ls l (with_session c s) e (subst (λ t. SpellsFront t (with_session c s)) (sym h.written) whole) a.goes_on
spelled_more ls (draft.Whole c) l e h n = absurd n
