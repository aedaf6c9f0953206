-- What holds of a search stays, with one entry more and with a decision taken back.
use Rattle.std.proofs.Common.{◌≡◌, ◌≢◌, ℕ, ◌<◌, ◌≤◌, ◌+◌, ◌-◌, suc, true, false, List, [], ◌∷◌, ◌++◌, map, All, length, Some, None, refl, sym, ap, ◌∙◌, ◌==◌, eqb-true, subst, inl, inr, ◌⊎◌, arith, length-append}
use Rattle.std.specs.Option.{is_some}
use Rattle.std.proofs.lemmas.List.{append-nil, length-map}
use Rattle.std.proofs.lemmas.List.Elements.{All-nil, All-head, All-tail, All-push}
use Rattle.clause_base.specs.declared.lit.Lit.{Lit}
use Rattle.clause_base.specs.declared.clause.Clause.{Clause}
use Rattle.clause_base.specs.declared.log.Step.{Step}
use Rattle.clause_base.specs.Formulas.{clauses_in_range}
use Rattle.clause_base.specs.Literals.{opposite}
use Rattle.clause_base.specs.Follows.{literals_at, open_literals}
use Rattle.clause_base.specs.Logs.{StepFollows, known_of}
use Rattle.clause_base.specs.LogLaws.{FollowsPushed, FreshPushed, KnownCounted, KnownPushed}
use Rattle.sat_plain.specs.declared.trail.Entry.{Entry}
use Rattle.sat_plain.specs.Places.{Index, IsIndexOf}
use Rattle.sat_plain.specs.Trails.{IsOrdered, IsTrail, Path, decided, is_among, literals_of, oldest}
use Rattle.sat_plain.specs.Searching.{AllWatched, AreDecisions, Denies, GoesOn, IsDecision, IsGuarded, IsLogged, IsSearch, IsUndoneTo, NoneRefutes, State}
use Rattle.sat_plain.proofs.Growth.{literals_front}
use Rattle.sat_plain.proofs.Literals.{among_here, among_there}
use Rattle.sat_plain.proofs.Fresh.{decisions_new, opposites_among}
use Rattle.sat_plain.proofs.Logged.{logged_push, trail_more, trail_taken}
use Rattle.sat_plain.proofs.Ordered.{decided_implied, unset_parts}
use Rattle.sat_plain.proofs.Watching.{all_more, oldest_added, oldest_all}

-- a search before its first entry
pub search_start : (vars : ℕ) (clauses : List Clause) (index : Index) (steps : List Step) (path : Path) → IsIndexOf vars clauses index → clauses_in_range vars clauses ≡ true → length clauses ≤ 2147483647
    → steps ≡ [] → path ≡ record { vars = vars; entries = [] } → IsSearch (record { vars = vars; clauses = clauses; index = index; steps = steps; entries = path.entries })
search_start vars clauses index steps path places range few none is =
    let start : IsSearch (record { vars = vars; clauses = clauses; index = index; steps = []; entries = [] }) = record {
      index = places;
      logged = record { follows = tt; in_range = subst (λ (cs : List Clause). clauses_in_range vars cs ≡ true) (sym (append-nil clauses)) range; numbered = omega arith; fresh = λ some. tt };
      trail = tt;
      decisions = tt;
      guarded = All-nil (λ (t : Step). t.clause.lits ≢ [] → IsGuarded [] t.clause.lits);
    } in
    subst (λ (ss : List Step). IsSearch (record { vars = vars; clauses = clauses; index = index; steps = ss; entries = path.entries })) (sym none)
    (subst (λ (p : Path). IsSearch (record { vars = vars; clauses = clauses; index = index; steps = []; entries = p.entries })) (sym is) start)

guarded_more : (e : Entry) (es : List Entry) (steps : List Step) → All (λ t. t.clause.lits ≢ [] → IsGuarded es t.clause.lits) steps → All (λ t. t.clause.lits ≢ [] → IsGuarded (e ∷ es) t.clause.lits) steps
guarded_more e es steps guarded = λ k d within some. inr (guarded k d within some)

pub search_implied : (s : State) (l : Lit) (k : ℕ) → IsSearch s → k < length s.clauses → open_literals (literals_of s.entries) (literals_at s.clauses k) ≡ l ∷ []
    → IsSearch (record s { entries = (record { lit = l; reason = Some (k + 1) }) ∷ s.entries })
search_implied s l k search within unit =
    let logged : List Clause = map (λ (t : Step). t.clause) s.steps in
    let long : length (s.clauses ++ logged) ≡ length s.clauses + length logged = length-append s.clauses logged in
    let back : k + 1 - 1 ≡ k = omega arith in
    let at : literals_at (s.clauses ++ logged) (k + 1 - 1) ≡ literals_at s.clauses k = ap (literals_at (s.clauses ++ logged)) back ∙ literals_front s.clauses logged k within in
    record {
      index = search.index;
      logged = search.logged;
      trail = ((omega arith, omega arith, ap (open_literals (literals_of s.entries)) at ∙ unit), search.trail);
      decisions = (tt, search.decisions);
      guarded = guarded_more (record { lit = l; reason = Some (k + 1) }) s.entries s.steps search.guarded;
    }

pub search_decided : (s : State) (l : Lit) → IsSearch s → IsDecision s.clauses (literals_of s.entries) l → IsSearch (record s { entries = (record { lit = l; reason = None }) ∷ s.entries })
search_decided s l search decision = record {
  index = search.index;
  logged = search.logged;
  trail = (tt, search.trail);
  decisions = (decision, search.decisions);
  guarded = guarded_more (record { lit = l; reason = None }) s.entries s.steps search.guarded;
}

-- the implied entries that were taken away
pub decided_popped : (newer rest : List Entry) → All (λ e. is_some e.reason ≡ true) newer → decided (newer ++ rest) ≡ decided rest
decided_popped [] rest implied = refl
decided_popped (e ∷ newer) rest implied =
    let P : Entry → Type 0 = λ e. is_some e.reason ≡ true in
    decided_implied e (newer ++ rest) (All-head P e newer implied) ∙ decided_popped newer rest (All-tail P e newer implied)

trail_popped : (known : List Clause) (newer rest : List Entry) → IsTrail known (newer ++ rest) → IsTrail known rest
trail_popped known [] rest trail = trail
trail_popped known (e ∷ newer) rest trail = trail_popped known newer rest trail.1

decisions_popped : (clauses : List Clause) (newer rest : List Entry) → AreDecisions clauses (newer ++ rest) → AreDecisions clauses rest
decisions_popped clauses [] rest decisions = decisions
decisions_popped clauses (e ∷ newer) rest decisions = decisions_popped clauses newer rest decisions.1

guard_popped : (newer rest : List Entry) (c : List Lit) → All (λ e. is_some e.reason ≡ true) newer → IsGuarded (newer ++ rest) c → IsGuarded rest c ⊎ Denies rest c
guard_popped [] rest c implied guard = inl guard
guard_popped (e ∷ newer) rest c implied guard =
    let P : Entry → Type 0 = λ e. is_some e.reason ≡ true in
    let others = All-tail P e newer implied in
    elim guard [
      | inl here ↦
          let denies : Denies (newer ++ rest) c = here.2 in
          inr (record { each = λ l h. denies.each l (subst (λ (ds : List Lit). is_among l ds ≡ true) (sym (decided_popped newer rest others)) h) })
      | inr later ↦ guard_popped newer rest c others later
    ]

-- once the newest decision is taken back its opposite guards the clause
guard_taken : (newer rest : List Entry) (l : Lit) (number : ℕ) (c : List Lit) → All (λ e. is_some e.reason ≡ true) newer
    → IsGuarded (newer ++ (record { lit = l; reason = None }) ∷ rest) c → IsGuarded ((record { lit = opposite l; reason = Some number }) ∷ rest) c
guard_taken newer rest l number c implied guard =
    let d : Entry = record { lit = l; reason = None } in
    elim (guard_popped newer (d ∷ rest) c implied guard) [
      | inl stays ↦ elim stays [ inl here ↦ let no : is_some d.reason ≡ true = here.0 in cc | inr older ↦ inr older ]
      | inr denies ↦ inl (refl, denies.each l (among_here l (decided rest)), record { each = λ m h. denies.each m (among_there m l (decided rest) h) })
    ]

guard_new : (rest : List Entry) (l : Lit) (number : ℕ) (c : List Lit) → c ≡ map opposite (l ∷ decided rest) → IsGuarded ((record { lit = opposite l; reason = Some number }) ∷ rest) c
guard_new rest l number c is =
    let ds : List Lit = l ∷ decided rest in
    let has : (m : Lit) → is_among m ds ≡ true → is_among (opposite m) c ≡ true = λ m h. subst (λ (ks : List Lit). is_among (opposite m) ks ≡ true) (sym is) (opposites_among ds m h) in
    inl (refl, has l (among_here l (decided rest)), record { each = λ m h. has m (among_there m l (decided rest) h) })

guarded_taken : (newer rest : List Entry) (l : Lit) (number : ℕ) (steps : List Step) → All (λ e. is_some e.reason ≡ true) newer
    → All (λ t. t.clause.lits ≢ [] → IsGuarded (newer ++ (record { lit = l; reason = None }) ∷ rest) t.clause.lits) steps
    → All (λ t. t.clause.lits ≢ [] → IsGuarded ((record { lit = opposite l; reason = Some number }) ∷ rest) t.clause.lits) steps
guarded_taken newer rest l number steps implied guarded = λ k d within some. guard_taken newer rest l number _ implied (guarded k d within some)

-- a step that was logged
pub record IsStep (s : State) (step : Step) : Type 0 where
  pub room : length s.clauses + length s.steps < 2147483647
  pub lits : step.clause.lits ≡ map opposite (decided s.entries)
  pub follows : StepFollows s.vars (known_of s.clauses s.steps) step
  pub ordered : IsOrdered s.vars s.entries
  pub going : NoneRefutes s.steps

pub record Laws : Type 0 where
  pub known : KnownPushed
  pub counted : KnownCounted
  pub follows : FollowsPushed
  pub fresh : FreshPushed

pub log_pushed : (laws : Laws) (s : State) (step : Step) → IsSearch s → IsStep s step → IsLogged s.vars s.clauses (s.steps ++ step ∷ [])
log_pushed laws s step search is =
    logged_push laws.known laws.follows laws.fresh s.vars s.clauses s.steps step search.logged is.room is.follows
    (decisions_new s.vars s.clauses s.steps s.entries step.clause is.ordered search.decisions is.lits search.guarded is.going)

-- a search whose log refutes
pub search_refuted : (laws : Laws) (s : State) (step : Step) → IsSearch s → IsStep s step → step.clause.lits ≡ [] → IsSearch (record s { steps = s.steps ++ step ∷ [] })
search_refuted laws s step search is empty = record {
  index = search.index;
  logged = log_pushed laws s step search is;
  trail = subst (λ (cs : List Clause). IsTrail cs s.entries) (sym (laws.known s.clauses s.steps step)) (trail_more (known_of s.clauses s.steps) (step.clause ∷ []) s.entries search.trail);
  decisions = search.decisions;
  guarded = All-push (λ (t : Step). t.clause.lits ≢ [] → IsGuarded s.entries t.clause.lits) s.steps step search.guarded (λ some. absurd (some empty));
}

-- a search in which a decision was taken back
pub search_taken : (laws : Laws) (s : State) (step : Step) (old undone : Path) (l : Lit) → IsSearch s → IsStep s step → old ≡ record { vars = s.vars; entries = s.entries } → IsUndoneTo old undone l
    → IsSearch (record { vars = s.vars; clauses = s.clauses; index = s.index; steps = s.steps ++ step ∷ []; entries = (record { lit = opposite l; reason = Some (length s.clauses + length s.steps + 1) }) ∷ undone.entries })
search_taken laws s step old undone l search is path back =
    let rest : List Entry = undone.entries in
    let number : ℕ = length s.clauses + length s.steps + 1 in
    let d : Entry = record { lit = l; reason = None } in
    let e : Entry = record { lit = opposite l; reason = Some number } in
    let known : List Clause = known_of s.clauses s.steps in
    let was : s.entries ≡ back.newer ++ d ∷ rest = sym (ap (λ (p : Path). p.entries) path) ∙ back.is in
    let lits : step.clause.lits ≡ map opposite (l ∷ decided rest) = is.lits ∙ ap (λ (es : List Entry). map opposite (decided es)) was ∙ ap (map opposite) (decided_popped back.newer (d ∷ rest) back.implied) in
    let trail : IsTrail known rest = (trail_popped known back.newer (d ∷ rest) (subst (IsTrail known) was search.trail)).1 in
    let out = unset_parts (literals_of rest) l back.unset in
    let taken = trail_taken known rest step.clause (decided rest) l trail out.0 refl lits in
    let count : length known + 1 ≡ number = ap (λ n. n + 1) (laws.counted s.clauses s.steps) in
    let turned = subst (λ n. IsTrail (known ++ step.clause ∷ []) ((record { lit = opposite l; reason = Some n }) ∷ rest)) count taken in
    let decisions = decisions_popped s.clauses back.newer (d ∷ rest) (subst (AreDecisions s.clauses) was search.decisions) in
    record {
      index = search.index;
      logged = log_pushed laws s step search is;
      trail = subst (λ (cs : List Clause). IsTrail cs (e ∷ rest)) (sym (laws.known s.clauses s.steps step)) turned;
      decisions = (tt, decisions.1);
      guarded = All-push (λ (t : Step). t.clause.lits ≢ [] → IsGuarded (e ∷ rest) t.clause.lits) s.steps step
          (guarded_taken back.newer rest l number s.steps back.implied (subst (λ (es : List Entry). All (λ (t : Step). t.clause.lits ≢ [] → IsGuarded es t.clause.lits) s.steps) was search.guarded))
          (λ some. guard_new rest l number step.clause.lits lits);
    }

-- where it goes on from
pub goes_on : (s : State) (step : Step) (old undone : Path) (l : Lit) (number : ℕ) (new : State) → IsSearch s → IsStep s step → old ≡ record { vars = s.vars; entries = s.entries } → IsUndoneTo old undone l
    → new.clauses ≡ s.clauses → new.steps ≡ s.steps ++ step ∷ [] → new.entries ≡ (record { lit = opposite l; reason = Some number }) ∷ undone.entries → step.clause.lits ≢ []
    → GoesOn new (length undone.entries)
goes_on s step old undone l number new search is path back clauses steps entries some =
    let rest : List Entry = undone.entries in
    let known : List Lit = literals_of rest in
    let d : Entry = record { lit = l; reason = None } in
    let f : Entry → Lit = λ e. e.lit in
    let was : s.entries ≡ back.newer ++ d ∷ rest = sym (ap (λ (p : Path). p.entries) path) ∙ back.is in
    let decisions = decisions_popped s.clauses back.newer (d ∷ rest) (subst (AreDecisions s.clauses) was search.decisions) in
    let calm : AllWatched s.clauses known known = decisions.0.calm in
    let count : length known ≡ length rest = length-map rest f in
    let handled : oldest (length rest) (opposite l ∷ known) ≡ known = ap (λ n. oldest n (opposite l ∷ known)) (sym count) ∙ oldest_added (length known) (opposite l ∷ []) known (omega arith) ∙ oldest_all known in
    let settled : AllWatched s.clauses (opposite l ∷ known) (oldest (length rest) (opposite l ∷ known)) =
    subst (AllWatched s.clauses (opposite l ∷ known)) (sym handled) (all_more s.clauses known (opposite l ∷ known) known (λ m h. among_there m (opposite l) known h) calm) in
    let long : length new.entries ≡ suc (length rest) = ap length entries in
    record {
      within = omega arith;
      settled = subst (λ (cs : List Clause). AllWatched cs (literals_of new.entries) (oldest (length rest) (literals_of new.entries))) (sym clauses)
          (subst (λ (es : List Entry). AllWatched s.clauses (literals_of es) (oldest (length rest) (literals_of es))) (sym entries) settled);
      going = subst NoneRefutes (sym steps) (All-push (λ (t : Step). t.clause.lits ≢ []) s.steps step is.going some);
    }

pub empty_of : (lits : List Lit) → (length lits == 0) ≡ true → lits ≡ []
empty_of [] h = refl
empty_of (l ∷ ls) h = let none : suc (length ls) ≡ 0 = eqb-true (suc (length ls)) 0 h in absurd (omega arith)

pub filled_of : (lits : List Lit) → (length lits == 0) ≡ false → lits ≢ []
filled_of [] h = λ none. cc
filled_of (l ∷ ls) h = λ none. cc
