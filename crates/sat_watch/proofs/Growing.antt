-- What holds of a search stays: with one entry more, and with one clause more.
use Rattle.std.proofs.Common.{◌≡◌, ℕ, ◌<◌, ◌≤◌, ◌-◌, ◌+◌, true, false, List, [], ◌∷◌, ◌++◌, length, Some, None, Option, arith, refl, sym, ap, ◌∙◌, subst, inl, inr, append_assoc, length-append}
use Rattle.std.proofs.lemmas.List.{length_push}
use Rattle.std.proofs.lemmas.List.Elements.{All-push, All-append}
use Rattle.clause_base.specs.declared.lit.Lit.{Lit}
use Rattle.clause_base.specs.declared.clause.Clause.{Clause}
use Rattle.clause_base.specs.declared.log.Step.{Step}
use Rattle.clause_base.specs.Formulas.{clauses_in_range}
use Rattle.clause_base.specs.Literals.{IsCovered}
use Rattle.clause_base.specs.Follows.{open_literals}
use Rattle.clause_base.specs.LogLaws.{FollowsPushed, FreshPushed, KnownPushed}
use Rattle.sat_watch.specs.declared.trail.Entry.{Entry}
use Rattle.sat_watch.specs.Trails.{IsImplied, IsTrail, IsValued, is_among, literals_of}
use Rattle.sat_watch.specs.Searching.{AreDecisions, Base, Grows, IfDecided, IsDecision, IsLogged, IsSearch, IsUnitAt, MayFollow, Spares, all_of}
use Rattle.sat_watch.specs.Watching.{Sizes}
use Rattle.sat_watch.proofs.Literals.{among_there}
use Rattle.sat_watch.proofs.Covered.{in_range_push}
use Rattle.sat_watch.proofs.Chains.{literals_front}

pub grows_one : (es : List Entry) (e : Entry) (new : List Entry) → new ≡ e ∷ es → Grows es new
grows_one es e new is = record { added = e ∷ []; is = is }

pub grows_on : (a b c : List Entry) → Grows a b → Grows b c → Grows a c
grows_on a b c first second = record {
  added = second.added ++ first.added;
  is = second.is ∙ ap (λ (es : List Entry). second.added ++ es) first.is ∙ sym (append_assoc second.added first.added a);
}

among_added : (added es : List Entry) (l : Lit) → is_among l (literals_of es) ≡ true → is_among l (literals_of (added ++ es)) ≡ true
among_added [] es l h = h
among_added (e ∷ added) es l h = among_there l e.lit (literals_of (added ++ es)) (among_added added es l h)

pub grows_among : (a b : List Entry) (l : Lit) → Grows a b → is_among l (literals_of a) ≡ true → is_among l (literals_of b) ≡ true
grows_among a b l grows h = ap (λ (es : List Entry). is_among l (literals_of es)) grows.is ∙ among_added grows.added a l h

pub grows_valued : (a b : List Entry) (v : ℕ) → Grows a b → IsValued (literals_of a) v → IsValued (literals_of b) v
grows_valued a b v grows h = elim h [
  | inl up ↦ inl (grows_among a b (record { var = v; positive = true }) grows up)
  | inr down ↦ inr (grows_among a b (record { var = v; positive = false }) grows down)
]

implied_more : (known more : List Clause) (before : List Lit) (l : Lit) (reason : Option ℕ) → IsImplied known before l reason → IsImplied (known ++ more) before l reason
implied_more known more before l None h = tt
implied_more known more before l (Some number) h =
    let long : length (known ++ more) ≡ length known + length more = length-append known more in
    let some : 0 < number = h.0 in
    let most : number ≤ length known = h.1 in
    let within : number - 1 < length known = omega arith in
    (some, omega arith, ap (open_literals before) (literals_front known more (number - 1) within) ∙ h.2)

pub trail_more : (known more : List Clause) (es : List Entry) → IsTrail known es → IsTrail (known ++ more) es
trail_more known more [] trail = tt
trail_more known more (e ∷ older) trail = (implied_more known more (literals_of older) e.lit e.reason trail.0, trail_more known more older trail.1)

decision_more : (known : List Clause) (c : Clause) (before : List Lit) (l : Lit) (reason : Option ℕ) → IfDecided reason (IsDecision known before l) → IfDecided reason (IsUnitAt l.var before c.lits → ⊥)
    → IfDecided reason (IsDecision (known ++ c ∷ []) before l)
decision_more known c before l (Some number) decision spare = tt
decision_more known c before l None decision spare = record {
  negative = decision.negative;
  least = decision.least;
  quiet = All-push (λ (x : Clause). IsUnitAt l.var before x.lits → ⊥) known c decision.quiet spare;
}

pub decisions_more : (known : List Clause) (c : Clause) (es : List Entry) → AreDecisions known es → Spares es c.lits → AreDecisions (known ++ c ∷ []) es
decisions_more known c [] decisions spares = tt
decisions_more known c (e ∷ older) decisions spares = (decision_more known c (literals_of older) e.lit e.reason decisions.0 spares.0, decisions_more known c older decisions.1 spares.1)

-- one more clause that spares the decisions
pub search_more : (known : KnownPushed) (base new : Base) (es : List Entry) (step : Step) → IsSearch (record { base = base; entries = es }) → Spares es step.clause.lits
    → new ≡ record base { steps = base.steps ++ step ∷ [] } → IsSearch (record { base = new; entries = es })
search_more known base new es step search spares is =
    let all : all_of new ≡ all_of base ++ step.clause ∷ [] = ap all_of is ∙ known base.clauses base.steps step in
    record {
      trail = subst (λ (cs : List Clause). IsTrail cs es) (sym all) (trail_more (all_of base) (step.clause ∷ []) es search.trail);
      decisions = subst (λ (cs : List Clause). AreDecisions cs es) (sym all) (decisions_more (all_of base) step.clause es search.decisions spares);
    }

-- a log with one step more
pub logged_push : (known : KnownPushed) (follows : FollowsPushed) (fresh : FreshPushed) (base : Base) (s : Step) → IsLogged base → length base.clauses + length base.steps < 2147483647 → MayFollow base s
    → IsLogged (record base { steps = base.steps ++ s ∷ [] })
logged_push known follows fresh base s logged room may =
    let long : length (base.steps ++ s ∷ []) ≡ length base.steps + 1 = length_push base.steps s in
    record {
      follows = (follows base.vars base.clauses base.steps s).1 (logged.follows, may.follows);
      in_range = subst (λ (cs : List Clause). clauses_in_range base.vars cs ≡ true) (sym (known base.clauses base.steps s)) (in_range_push base.vars (all_of base) s.clause logged.in_range may.follows.within);
      numbered = omega arith;
      fresh = λ some. (fresh base.clauses base.steps s).1 (logged.fresh some, may.fresh some);
      narrow = λ d led. All-append (λ (t : Step). IsCovered d t.clause.lits) base.steps (s ∷ []) (logged.narrow d led) (may.narrow d led);
    }

-- with one clause more, where the sizes were those of other numbers
pub sizes_more : (old new : Sizes) (v n m : ℕ) → old ≡ record { vars = v; clauses = n } → new.vars ≡ old.vars → new.clauses ≡ old.clauses + 1 → n + 1 ≡ m → new ≡ record { vars = v; clauses = m }
sizes_more old new v n m is vars clauses many =
    let a : new.vars ≡ v = vars ∙ ap (λ (z : Sizes). z.vars) is in
    let b : new.clauses ≡ m = clauses ∙ ap (λ (z : Sizes). z.clauses + 1) is ∙ many in
    subst (λ x. new ≡ record { vars = x; clauses = m }) a (subst (λ y. new ≡ record { vars = new.vars; clauses = y }) b refl)
