-- What sessions that refute a question tell.
use Rattle.std.proofs.Common.{◌≡◌, ℕ, ◌-◌, ◌==◌, ◌&&◌, Bool, true, false, List, [], ◌∷◌, length, map, Option, Some, None, IsTrue, refl, sym, ap, ◌∙◌, subst}
use Rattle.std.specs.Prelude.{◌↔◌, IsSomeAnd, if◌then◌else◌, slice_get}
use Rattle.std.specs.List.{Contains}
use Rattle.std.specs.Option.{option_map_or}
use Rattle.std.proofs.lemmas.Bool.{eq-eqb, eqb-true, true≢false}
use Rattle.choice_tree.specs.declared.selection.Choice.{Choice}
use Rattle.clause_base.specs.declared.lit.Lit.{Lit}
use Rattle.clause_base.specs.declared.log.Step.{Step}
use Rattle.clause_base.specs.Logs.{Refutes}
use Rattle.step_lines.proofs.Apart.{both, two}
use Rattle.cegis_loop.specs.State.{Question, First, Low, Fail, Refuted, Open}
use Rattle.input_space.specs.declared.session.Query.{Query}
use Rattle.input_space.specs.declared.session.Query.TheVariants as query
use Rattle.input_space.specs.declared.session.Session.{Session}
use Rattle.input_space.specs.Sessions.{is_empty, is_refuted, question_of, told_of}
use Rattle.input_space.proofs.Elements.{contained_map, map_contains}
use Rattle.search_certificates.specs.declared.places.Wanted.TheVariants as wanted
use Rattle.search_certificates.specs.Places.{Refuting, is_asked, refutes, same_bound}

-- THE TEST ON A LOG

by_last : (o : Option Step) (b : Bool) → (IsTrue b ↔ IsSomeAnd o (λ x. x.clause.lits ≡ [])) → b ≡ option_map_or (λ (x : Step). is_empty x.clause.lits) o false
by_last None true h = absurd (h.0 refl)
by_last None false h = refl
by_last (Some x) b h = by_lits x.clause.lits b h
  where
    by_lits : (ls : List Lit) (b : Bool) → (IsTrue b ↔ ls ≡ []) → b ≡ is_empty ls
    by_lits [] b h = h.1 refl
    by_lits (l ∷ ls) true h = (let e = h.0 refl in absurd cc)
    by_lits (l ∷ ls) false h = refl

pub refuted_is : (steps : List Step) (b : Bool) → (IsTrue b ↔ Refutes steps) → b ≡ is_refuted steps
refuted_is steps b h = by_last (slice_get steps (length steps - 1)) b h

last_empty : (o : Option Step) → option_map_or (λ (x : Step). is_empty x.clause.lits) o false ≡ true → IsSomeAnd o (λ x. x.clause.lits ≡ [])
last_empty None e = true≢false (sym e)
last_empty (Some x) e = by_lits x.clause.lits e
  where
    by_lits : (ls : List Lit) → is_empty ls ≡ true → ls ≡ []
    by_lits [] e = refl
    by_lits (l ∷ ls) e = absurd cc

pub refutes_by : (steps : List Step) → is_refuted steps ≡ true → Refutes steps
refutes_by steps e = last_empty (slice_get steps (length steps - 1)) e

-- QUESTIONS THAT WERE ASKED

eq_of : (a b : ℕ) → (a == b) ≡ true → a ≡ b
eq_of a b e = eqb-true a b e

bound_of : (a b : Option ℕ) → same_bound a b ≡ true → a ≡ b
bound_of (Some a) (Some b) e = ap Some (eq_of a b e)
bound_of (Some a) None e = absurd cc
bound_of None (Some b) e = absurd cc
bound_of None None e = refl

pub failure_asked : (q : Query) → is_asked wanted.Failure q ≡ true → (s : List Choice) × (q ≡ query.Fail s)
failure_asked query.First e = absurd cc
failure_asked (query.Low most cases) e = absurd cc
failure_asked (query.Fail s) e = (s, refl)

pub low_asked : (most : Option ℕ) (cases : ℕ) (q : Query) → is_asked (wanted.Low most cases) q ≡ true → q ≡ query.Low most cases
low_asked most cases query.First e = absurd cc
low_asked most cases (query.Low bound over) e =
    let r = both (same_bound most bound) (cases == over) e in
    let m = bound_of most bound r.0 in
    let n = eq_of cases over r.1 in
    sym (λ i. query.Low (m i) (n i))
low_asked most cases (query.Fail s) e = absurd cc

same_bound_is : (a : Option ℕ) → same_bound a a ≡ true
same_bound_is (Some a) = eq-eqb a a refl
same_bound_is None = refl

eq_is : (a : ℕ) → (a == a) ≡ true
eq_is a = eq-eqb a a refl

-- WHAT SESSIONS TELL

told_by : (b : Bool) (x : Session) → is_refuted x.log.steps ≡ b → told_of x ≡ (if b then Refuted (question_of x.query) else Open (question_of x.query))
told_by b x e = ap (λ c. if c then Refuted (question_of x.query) else Open (question_of x.query)) e

pub tells_refuted : (x : Session) (q : Query) → x.query ≡ q → is_refuted x.log.steps ≡ true → told_of x ≡ Refuted (question_of q)
tells_refuted x q e h = told_by true x h ∙ ap (λ r. Refuted (question_of r)) e

pub told_among : (xs : List Session) (x : Session) (q : Query) → Contains xs x → x.query ≡ q → is_refuted x.log.steps ≡ true → Contains (map told_of xs) (Refuted (question_of q))
told_among xs x q c e h = subst (Contains (map told_of xs)) (tells_refuted x q e h) (map_contains told_of xs x c)

-- a session that tells a refuted question
record Tells (xs : List Session) (q : Question (List Choice)) : Type 0 where
  one : Session
  among : Contains xs one
  asks : question_of one.query ≡ q
  refuted : is_refuted one.log.steps ≡ true

by_test : (b : Bool) (p q : Question (List Choice)) → (if b then Refuted p else Open p) ≡ Refuted q → (b ≡ true) × (p ≡ q)
by_test true p q e = (refl, (cc))
by_test false p q e = absurd cc

tells : (xs : List Session) (q : Question (List Choice)) → Contains (map told_of xs) (Refuted q) → Tells xs q
tells xs q c =
    let r = contained_map told_of xs (Refuted q) c in
    let t = by_test (is_refuted r.0.log.steps) (question_of r.0.query) q r.2 in
    record { one = r.0; among = r.1; asks = t.1; refuted = t.0 }

asked_failure : (q : Query) (s : List Choice) → question_of q ≡ Fail s → is_asked wanted.Failure q ≡ true
asked_failure query.First s e = absurd cc
asked_failure (query.Low most cases) s e = absurd cc
asked_failure (query.Fail t) s e = refl

asked_low : (q : Query) (most : Option ℕ) (cases : ℕ) → question_of q ≡ Low most cases → is_asked (wanted.Low most cases) q ≡ true
asked_low query.First most cases e = absurd cc
asked_low (query.Low bound over) most cases e =
    let m : bound ≡ most = cc in
    let n : over ≡ cases = cc in
    subst (λ b. (same_bound most b && (cases == over)) ≡ true) (sym m)
    (subst (λ k. (same_bound most most && (cases == k)) ≡ true) (sym n) (two (same_bound most most) (cases == cases) (same_bound_is most) (eq_is cases)))
asked_low (query.Fail s) most cases e = absurd cc

pub failing_told : (xs : List Session) (s : List Choice) → Contains (map told_of xs) (Refuted (Fail s)) → Refuting wanted.Failure xs
failing_told xs s c =
    let t = tells xs (Fail s) c in
    record { session = t.one; among = t.among; refutes_it = two (is_asked wanted.Failure t.one.query) (is_refuted t.one.log.steps) (asked_failure t.one.query s t.asks) t.refuted }

pub low_told : (xs : List Session) (most : Option ℕ) (cases : ℕ) → Contains (map told_of xs) (Refuted (Low most cases)) → Refuting (wanted.Low most cases) xs
low_told xs most cases c =
    let t = tells xs (Low most cases) c in
    record { session = t.one; among = t.among; refutes_it = two (is_asked (wanted.Low most cases) t.one.query) (is_refuted t.one.log.steps) (asked_low t.one.query most cases t.asks) t.refuted }

-- a session that refutes that a selection fails
pub record Failing (x : Session) : Type 0 where
  pub selection : List Choice
  pub asks : x.query ≡ query.Fail selection
  pub refuted : is_refuted x.log.steps ≡ true

pub failing : (x : Session) → refutes wanted.Failure x ≡ true → Failing x
failing x e =
    let r = both (is_asked wanted.Failure x.query) (is_refuted x.log.steps) e in
    let q = failure_asked x.query r.0 in
    record { selection = q.0; asks = q.1; refuted = r.1 }

pub record Lower (most : Option ℕ) (cases : ℕ) (x : Session) : Type 0 where
  pub asks : x.query ≡ query.Low most cases
  pub refuted : is_refuted x.log.steps ≡ true

pub lower : (most : Option ℕ) (cases : ℕ) (x : Session) → refutes (wanted.Low most cases) x ≡ true → Lower most cases x
lower most cases x e =
    let r = both (is_asked (wanted.Low most cases) x.query) (is_refuted x.log.steps) e in
    record { asks = low_asked most cases x.query r.0; refuted = r.1 }
