-- What a walk found may be logged, once the level is left.
use Rattle.std.proofs.Common.{◌≡◌, ℕ, zero, suc, ◌<◌, ◌≤◌, true, List, [], ◌∷◌, ◌++◌, All, length, Some, None, Option, refl, sym, ap, ◌∙◌, subst, slice_get}
use Rattle.std.specs.List.{list_all}
use Rattle.std.proofs.lemmas.Bool.{and_parts, and_from}
use Rattle.clause_base.specs.declared.lit.Lit.{Lit}
use Rattle.clause_base.specs.declared.clause.Clause.{Clause}
use Rattle.clause_base.specs.declared.log.Step.{Step}
use Rattle.clause_base.specs.Formulas.{clauses_in_range, in_range}
use Rattle.clause_base.specs.Literals.{opposite}
use Rattle.clause_base.specs.Follows.{answer_of, hinted}
use Rattle.clause_base.specs.Logs.{StepFollows}
use Rattle.sat_watch.specs.declared.trail.Entry.{Entry}
use Rattle.sat_watch.specs.Trails.{IsLevelled, IsOrdered, decided, is_among, literals_of, up_to}
use Rattle.sat_watch.specs.Searching.{AreDecisions, Base, IfDecided, IsLogged, IsUnitAt, MayFollow, NoneRefutes, Spares, all_of}
use Rattle.sat_watch.proofs.Deciding.{opposites_new}
use Rattle.sat_core.specs.Explaining.{IsWalked}
use Rattle.sat_core.proofs.Narrow.{step_narrow}
use Rattle.sat_core.proofs.Sparing.{spares}

get_front : (xs ys : List Clause) (k : ℕ) (c : Clause) → slice_get xs k ≡ Some c → slice_get (xs ++ ys) k ≡ Some c
get_front [] ys k c e = cc
get_front (x ∷ xs) ys zero c e = e
get_front (x ∷ xs) ys (suc k) c e = get_front xs ys k c e

range_front : (vars : ℕ) (xs ys : List Clause) → clauses_in_range vars (xs ++ ys) ≡ true → clauses_in_range vars xs ≡ true
range_front vars [] ys h = refl
range_front vars (x ∷ xs) ys h =
    let parts = and_parts (list_all (in_range vars) x.lits) (clauses_in_range vars (xs ++ ys)) h in
    and_from (list_all (in_range vars) x.lits) (clauses_in_range vars xs) parts.0 (range_front vars xs ys parts.1)

step_follows : (base : Base) (es : List Entry) (step : Step) (lits : List Lit) (hints : List ℕ) (level : ℕ) → IsWalked base es lits hints level → step.clause.lits ≡ lits → step.hints ≡ hints → StepFollows base.vars (all_of base) step
step_follows base es step lits hints level walked same hinted_by = record {
  within = ap (λ (ls : List Lit). list_all (in_range base.vars) ls) same ∙ walked.within;
  named = subst (λ (hs : List ℕ). All (λ h. (0 < h) × (h ≤ length (all_of base))) hs) (sym hinted_by) walked.named;
  good = ap (λ (ls : List Lit). answer_of ls (hinted (all_of base) step.hints)) same ∙ ap (λ (hs : List ℕ). answer_of lits (hinted (all_of base) hs)) hinted_by ∙ walked.good;
}

pub may_follow : (base : Base) (es : List Entry) (step : Step) (lits : List Lit) (hints : List ℕ) (level : ℕ) → IsLogged base → IsOrdered base.vars es → AreDecisions (all_of base) es → NoneRefutes base.steps
    → IsWalked base es lits hints level → step.clause.lits ≡ lits → step.hints ≡ hints → MayFollow base step
may_follow base es step lits hints level logged ordered decisions going walked same hinted_by =
    let follows = step_follows base es step lits hints level walked same hinted_by in
    let opposed : (l : Lit) → is_among l step.clause.lits ≡ true → is_among (opposite l) (decided es) ≡ true =
    λ l w. walked.opposes.each l (subst (λ (ls : List Lit). is_among l ls ≡ true) same w) in
    record {
      follows = follows;
      fresh = λ some. opposites_new base.vars base.clauses base.steps es step.clause ordered decisions opposed going some;
      narrow = λ d led. step_narrow d base.vars base.clauses (all_of base) es step led (range_front base.vars base.clauses _ logged.in_range) (get_front base.clauses _) ordered decisions follows.within opposed;
    }

none_by : (older : List Entry) (l : Lit) (reason : Option ℕ) → IfDecided reason (IsUnitAt l.var (literals_of older) [] → ⊥)
none_by older l (Some number) = tt
none_by older l None = λ unit. let clash = unit.stands in cc

spares_none : (es : List Entry) → Spares es []
spares_none [] = tt
spares_none (e ∷ older) = (none_by older e.lit e.reason, spares_none older)

pub spares_walked : (base : Base) (es : List Entry) (lits : List Lit) (hints : List ℕ) (level : ℕ) → IsOrdered base.vars es → IsLevelled es → AreDecisions (all_of base) es
    → IsWalked base es lits hints level → Spares (up_to level es) lits
spares_walked base es [] hints level ordered levelled decisions walked = spares_none (up_to level es)
spares_walked base es (m ∷ ms) hints level ordered levelled decisions walked =
    let goes = walked.below (λ none. cc) in
    let rest : List Entry = goes.newer ++ goes.e ∷ goes.older in
    subst (λ (xs : List Entry). Spares (up_to level xs) (m ∷ ms)) (sym goes.is)
    (spares base.vars (all_of base) level (m ∷ ms) goes.newer goes.e goes.older (subst (IsOrdered base.vars) goes.is ordered) (subst (AreDecisions (all_of base)) goes.is decisions) (subst IsLevelled goes.is levelled) goes.below goes.stands)
