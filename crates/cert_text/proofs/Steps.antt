-- A line makes one next draft at most.
use Rattle.std.proofs.Common.{◌≡◌, ◌≢◌, ◌⊎◌, inl, inr, ℕ, List, [], ◌∷◌, ◌++◌, length, refl, sym, ap, ◌∙◌, subst, arith}
use Rattle.clause_base.specs.declared.clause.Clause.{Clause}
use Rattle.clause_base.specs.declared.log.Step.{Step}
use Rattle.input_space.specs.CaseLaws.{OneCase}
use Rattle.input_space.specs.declared.session.Query.{Query}
use Rattle.input_space.specs.declared.session.Query.TheVariants as query
use Rattle.input_space.specs.declared.session.Session.{Session}
use Rattle.cert_text.specs.declared.cert.Cert.{Cert}
use Rattle.cert_text.specs.declared.cert.Claim.TheVariants as claim
use Rattle.cert_text.specs.declared.draft.Draft.{Draft}
use Rattle.cert_text.specs.declared.draft.Draft.TheVariants as draft
use Rattle.cert_text.specs.Drafts.{GoesOn, IsSession, Next, after_claim, bare, next_number, with_case, with_session}
use Rattle.cert_text.specs.LineForms.{query_line}
use Rattle.cert_text.proofs.LinesOf.{one_case_line, one_claim, one_clause, one_query, one_selection, one_step, one_vars}
use Rattle.cert_text.proofs.Values.{one_session}

-- the first byte tells of which kind a line is
abbrev initial : List ℕ → ℕ
initial [] = 0
initial (c ∷ cs) = c

query_initial : (q : Query) → initial (query_line q) ≡ 115
query_initial query.First = refl
query_initial (query.Low m c) = refl
query_initial (query.Fail s) = refl

goes_on_initial : (c : Cert) (l : List ℕ) (d : Draft) → GoesOn c l d → (initial l ≡ 115) ⊎ (initial l ≡ 101)
goes_on_initial c l d (inl a) = inl (ap initial a.spelled.written ∙ query_initial a.asked)
goes_on_initial c l d (inr a) = inr (ap initial a.written)

-- what goes on behind sessions begins with neither
goes_on_not : (b : ℕ) (c : Cert) (l : List ℕ) (d : Draft) → b ≢ 115 → b ≢ 101 → initial l ≡ b → GoesOn c l d → ⊥
goes_on_not b c l d n m e g = elim (goes_on_initial c l d g) [ inl f ↦ n (sym e ∙ f) | inr f ↦ m (sym e ∙ f) ]

one_goes_on : (c : Cert) (l : List ℕ) (d e : Draft) → GoesOn c l d → GoesOn c l e → d ≡ e
one_goes_on c l d e (inl a) (inl b) =
    a.gives ∙ ap (draft.Asked c) (one_query (length c.cases) l a.asked b.asked a.spelled b.spelled) ∙ sym b.gives
one_goes_on c l d e (inl a) (inr b) = absurd (let x = ap initial (sym a.spelled.written ∙ b.written) in let y = query_initial a.asked in omega arith)
one_goes_on c l d e (inr a) (inl b) = absurd (let x = ap initial (sym b.spelled.written ∙ a.written) in let y = query_initial b.asked in omega arith)
one_goes_on c l d e (inr a) (inr b) = a.gives ∙ sym b.gives

module _ (one : OneCase) where
  one_cases : (c : Cert) (l : List ℕ) (d e : Draft) → Next (draft.Cases c) l d → Next (draft.Cases c) l e → d ≡ e
  one_cases c l d e (inl a) (inl b) =
      a.gives ∙ ap (λ k. draft.Cases (with_case c k)) (one_case_line one l a.added b.added a.spelled b.spelled) ∙ sym b.gives
  one_cases c l d e (inl a) (inr b) = absurd (goes_on_not 99 c l e (λ h. omega arith) (λ h. omega arith) (ap initial a.spelled.written) b)
  one_cases c l d e (inr a) (inl b) = absurd (goes_on_not 99 c l d (λ h. omega arith) (λ h. omega arith) (ap initial b.spelled.written) a)
  one_cases c l d e (inr a) (inr b) = one_goes_on c l d e a b

  one_inside : (c : Cert) (s : Session) (l : List ℕ) (d e : Draft) → Next (draft.Inside c s) l d → Next (draft.Inside c s) l e → d ≡ e
  one_inside c s l d e (inl a) (inl b) =
      let same = one_clause s.formula.vars l a.clause b.clause a.spelled b.spelled in
      let parts = subst (λ (k : Clause). IsSession a.session s.query s.formula.vars (s.formula.clauses ++ k ∷ []) []) same a.parts in
      a.gives ∙ ap (draft.Inside c) (one_session a.session b.session s.query s.formula.vars (s.formula.clauses ++ b.clause ∷ []) [] parts b.parts) ∙ sym b.gives
  one_inside c s l d e (inl a) (inr (inl b)) = absurd (let x = ap initial (sym a.spelled.written ∙ b.spelled.written) in omega arith)
  one_inside c s l d e (inl a) (inr (inr b)) = absurd (goes_on_not 102 (with_session c s) l e (λ h. omega arith) (λ h. omega arith) (ap initial a.spelled.written) b.goes_on)
  one_inside c s l d e (inr (inl a)) (inl b) = absurd (let x = ap initial (sym a.spelled.written ∙ b.spelled.written) in omega arith)
  one_inside c s l d e (inr (inl a)) (inr (inl b)) =
      let same = one_step s.formula.vars (next_number s) l a.step b.step a.spelled b.spelled in
      let parts = subst (λ (k : Step). IsSession a.session s.query s.formula.vars s.formula.clauses (s.log.steps ++ k ∷ [])) same a.parts in
      a.gives ∙ ap (draft.Inside c) (one_session a.session b.session s.query s.formula.vars s.formula.clauses (s.log.steps ++ b.step ∷ []) parts b.parts) ∙ sym b.gives
  one_inside c s l d e (inr (inl a)) (inr (inr b)) = absurd (goes_on_not 108 (with_session c s) l e (λ h. omega arith) (λ h. omega arith) (ap initial a.spelled.written) b.goes_on)
  one_inside c s l d e (inr (inr a)) (inl b) = absurd (goes_on_not 102 (with_session c s) l d (λ h. omega arith) (λ h. omega arith) (ap initial b.spelled.written) a.goes_on)
  one_inside c s l d e (inr (inr a)) (inr (inl b)) = absurd (goes_on_not 108 (with_session c s) l d (λ h. omega arith) (λ h. omega arith) (ap initial b.spelled.written) a.goes_on)
  one_inside c s l d e (inr (inr a)) (inr (inr b)) = one_goes_on (with_session c s) l d e a.goes_on b.goes_on

  pub one_next : (d : Draft) (l : List ℕ) (m n : Draft) → Next d l m → Next d l n → m ≡ n
  one_next draft.Start l m n a b = a.1 ∙ sym b.1
  one_next draft.Opened l m n a b = a.gives ∙ ap after_claim (one_claim l a.claimed b.claimed a.spelled b.spelled) ∙ sym b.gives
  one_next (draft.Claimed cost) l m n a b =
      a.gives ∙ ap (λ s. draft.Cases (bare (claim.Cost cost) s)) (one_selection l a.choices b.choices a.spelled b.spelled) ∙ sym b.gives
  one_next (draft.Cases c) l m n a b = one_cases c l m n a b
  one_next (draft.Asked c q) l m n a b =
      let same = one_vars l a.vars b.vars a.spelled b.spelled in
      let parts = subst (λ v. IsSession a.session q v [] []) same a.parts in
      a.gives ∙ ap (draft.Inside c) (one_session a.session b.session q b.vars [] [] parts b.parts) ∙ sym b.gives
  one_next (draft.Inside c s) l m n a b = one_inside c s l m n a b
  one_next (draft.Whole c) l m n a b = absurd a

-- drafts along lines
abbrev pub Path : Draft → List (List ℕ) → Draft → Type 0
Path d [] e = d ≡ e
Path d (l ∷ ls) e = (m : Draft) × Next d l m × Path m ls e

pub joined : (d : Draft) (ls : List (List ℕ)) (m : Draft) (ms : List (List ℕ)) (e : Draft) → Path d ls m → Path m ms e → Path d (ls ++ ms) e
joined d [] m ms e p q = subst (λ x. Path x ms e) (sym p) q
joined d (l ∷ ls) m ms e p q = (p.0, p.1, joined p.0 ls m ms e p.2 q)

pub parted : (d : Draft) (ls ms : List (List ℕ)) (e : Draft) → Path d (ls ++ ms) e → (m : Draft) × Path d ls m × Path m ms e
parted d [] ms e p = (d, refl, p)
parted d (l ∷ ls) ms e p = let r = parted p.0 ls ms e p.2 in (r.0, (p.0, p.1, r.1), r.2)

pub one_more : (d : Draft) (ls : List (List ℕ)) (m : Draft) (l : List ℕ) (e : Draft) → Path d ls m → Next m l e → Path d (ls ++ l ∷ []) e
one_more d ls m l e p n = joined d ls m (l ∷ []) e p (e, n, refl)

pub one_path : OneCase → (d : Draft) (ls : List (List ℕ)) (m n : Draft) → Path d ls m → Path d ls n → m ≡ n
one_path one d [] m n p q = sym p ∙ q
one_path one d (l ∷ ls) m n p q =
    let same = one_next one d l p.0 q.0 p.1 q.1 in
    one_path one q.0 ls m n (subst (λ x. Path x ls m) same p.2) q.2
