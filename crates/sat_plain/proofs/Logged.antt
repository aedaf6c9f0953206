-- Logs that grow, and what the literals that are true say of the values.
use Rattle.std.proofs.Common.{◌≡◌, ℕ, ◌<◌, ◌≤◌, ◌-◌, ◌+◌, true, false, List, [], ◌∷◌, ◌++◌, map, All, length, Some, None, Option, arith, refl, sym, ap, ◌∙◌, subst, length-append, slice_get}
use Rattle.std.specs.List.{list_all}
use Rattle.std.specs.Prelude.{IsSomeAnd}
use Rattle.std.proofs.lemmas.List.{length_push}
use Rattle.clause_base.specs.declared.lit.Lit.{Lit}
use Rattle.clause_base.specs.declared.clause.Clause.{Clause}
use Rattle.clause_base.specs.declared.log.Step.{Step}
use Rattle.clause_base.specs.declared.answer.StepAnswer.TheVariants.{Good}
use Rattle.clause_base.specs.Formulas.{in_range, clauses_in_range}
use Rattle.clause_base.specs.Literals.{opposite}
use Rattle.clause_base.specs.Follows.{answer_of, hinted, is_false, literals_at, open_literals}
use Rattle.clause_base.specs.Logs.{IsNew, Refutes, StepFollows, known_of}
use Rattle.clause_base.specs.LogLaws.{FollowsPushed, FreshPushed, KnownPushed}
use Rattle.sat_plain.specs.declared.trail.Entry.{Entry}
use Rattle.sat_plain.specs.Trails.{IsImplied, IsOrdered, IsTrail, decided, is_among, literals_of}
use Rattle.sat_plain.specs.Searching.{IsLogged, NoneEmpty}
use Rattle.sat_plain.proofs.Covered.{in_range_push}
use Rattle.sat_plain.proofs.Growth.{literals_front}
use Rattle.sat_plain.proofs.Literals.{among_here, among_there, literals_is, opposite_back}
use Rattle.sat_plain.proofs.Ordered.{decided_among, decided_in_range}

implied_more : (known more : List Clause) (before : List Lit) (l : Lit) (reason : Option ℕ) → IsImplied known before l reason → IsImplied (known ++ more) before l reason
implied_more known more before l None h = tt
implied_more known more before l (Some number) h =
    let long : length (known ++ more) ≡ length known + length more = length-append known more in
    let some : 0 < number = h.0 in
    let most : number ≤ length known = h.1 in
    let within : number - 1 < length known = omega arith in
    (some, omega arith, ap (open_literals before) (literals_front known more (number - 1) within) ∙ h.2)

pub trail_more : (known more : List Clause) (es : List Entry) → IsTrail known es → IsTrail (known ++ more) es
trail_more known more [] trail = tt
trail_more known more (e ∷ older) trail = (implied_more known more (literals_of older) e.lit e.reason trail.0, trail_more known more older trail.1)

-- one step more
pub logged_push : (known : KnownPushed) (follows : FollowsPushed) (fresh : FreshPushed) (vars : ℕ) (clauses : List Clause) (steps : List Step) (s : Step)
    → IsLogged vars clauses steps → length clauses + length steps < 2147483647 → StepFollows vars (known_of clauses steps) s
    → (NoneEmpty clauses → IsNew (known_of clauses steps) s.clause) → IsLogged vars clauses (steps ++ s ∷ [])
logged_push known follows fresh vars clauses steps s logged room here new =
    let long : length (steps ++ s ∷ []) ≡ length steps + 1 = length_push steps s in
    record {
      follows = (follows vars clauses steps s).1 (logged.follows, here);
      in_range = subst (λ (cs : List Clause). clauses_in_range vars cs ≡ true) (sym (known clauses steps s)) (in_range_push vars (known_of clauses steps) s.clause logged.in_range here.within);
      numbered = omega arith;
      fresh = λ some. (fresh clauses steps s).1 (logged.fresh some, new some);
    }

-- the opposites of decisions are false
opposites_closed : (known ls : List Lit) → ((l : Lit) → is_among l ls ≡ true → is_among l known ≡ true) → open_literals known (map opposite ls) ≡ []
opposites_closed known [] h = refl
opposites_closed known (l ∷ ls) h =
    let here : is_false known (opposite l) ≡ true = ap (λ (k : Lit). is_among k known) (opposite_back l) ∙ h l (among_here l ls) in
    let rest = opposites_closed known ls (λ m w. h m (among_there m l ls w)) in
    rw (here, rest) refl

-- once its decision is taken back the opposite is what is left of the clause
pub left_over : (known ls : List Lit) (l : Lit) → is_among l known ≡ false → ((m : Lit) → is_among m ls ≡ true → is_among m known ≡ true) → open_literals known (map opposite (l ∷ ls)) ≡ opposite l ∷ []
left_over known ls l out h =
    let here : is_false known (opposite l) ≡ false = ap (λ (k : Lit). is_among k known) (opposite_back l) ∙ out in
    let rest = opposites_closed known ls h in
    rw (here, rest) refl

last_of : {X : Type 0} → (xs : List X) (x : X) → slice_get (xs ++ x ∷ []) (length xs) ≡ Some x
last_of [] x = refl
last_of (y ∷ ys) x = last_of ys x

pub refutes_push : (steps : List Step) (s : Step) → s.clause.lits ≡ [] → Refutes (steps ++ s ∷ [])
refutes_push steps s empty =
    let long : length (steps ++ s ∷ []) ≡ length steps + 1 = length_push steps s in
    let back : length (steps ++ s ∷ []) - 1 ≡ length steps = omega arith in
    let last : slice_get (steps ++ s ∷ []) (length (steps ++ s ∷ []) - 1) ≡ Some s = ap (slice_get (steps ++ s ∷ [])) back ∙ last_of steps s in
    subst (λ (o : Option Step). IsSomeAnd o (λ x. x.clause.lits ≡ [])) (sym last) empty

-- the step that was logged gives the opposite of the decision that was taken back
pub trail_taken : (known : List Clause) (entries : List Entry) (c : Clause) (ls : List Lit) (l : Lit) → IsTrail known entries → is_among l (literals_of entries) ≡ false
    → ls ≡ decided entries → c.lits ≡ map opposite (l ∷ ls) → IsTrail (known ++ c ∷ []) ((record { lit = opposite l; reason = Some (length known + 1) }) ∷ entries)
trail_taken known entries c ls l trail out same is =
    let long : length (known ++ c ∷ []) ≡ length known + 1 = length_push known c in
    let back : length known + 1 - 1 ≡ length known = omega arith in
    let at : literals_at (known ++ c ∷ []) (length known + 1 - 1) ≡ c.lits = ap (literals_at (known ++ c ∷ [])) back ∙ literals_is (known ++ c ∷ []) (length known) c (last_of known c) in
    let left : open_literals (literals_of entries) (map opposite (l ∷ ls)) ≡ opposite l ∷ [] = left_over (literals_of entries) ls l out (λ m h. decided_among entries m (subst (λ (ks : List Lit). is_among m ks ≡ true) same h)) in
    ((omega arith, omega arith, ap (open_literals (literals_of entries)) (at ∙ is) ∙ left), trail_more known (c ∷ []) entries trail)

-- the opposites of the decisions follow
pub explains : (vars : ℕ) (known : List Clause) (es : List Entry) (step : Step) (hints : List ℕ) → IsOrdered vars es → step.clause.lits ≡ map opposite (decided es) → step.hints ≡ hints
    → All (λ h. (0 < h) × (h ≤ length known)) hints → answer_of (map opposite (decided es)) (hinted known hints) ≡ Good → StepFollows vars known step
explains vars known es step hints ordered clause same named good = record {
  within = ap (λ (ls : List Lit). list_all (in_range vars) ls) clause ∙ decided_in_range vars es ordered;
  named = subst (λ (hs : List ℕ). All (λ h. (0 < h) × (h ≤ length known)) hs) (sym same) named;
  good = ap (λ (ls : List Lit). answer_of ls (hinted known step.hints)) clause ∙ ap (λ (hs : List ℕ). answer_of (map opposite (decided es)) (hinted known hs)) same ∙ good;
}

pub never_empty : (ls : List Lit) (l : Lit) → [] ≡ l ∷ ls → ⊥
never_empty ls l h = cc
