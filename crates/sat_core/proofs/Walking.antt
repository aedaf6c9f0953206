-- The walk from a conflict back over the trail: the clauses by which the decisions that took part lead to it.
use Rattle.std.proofs.Common.{◌≡◌, ℕ, suc, ◌<◌, ◌≤◌, ◌-◌, ◌+◌, Bool, true, false, not, ◌||◌, ◌==◌, List, [], ◌∷◌, ◌++◌, map, All, length, reverse, take, get_or, slice_get, Some, None, Option, arith, refl, sym, ap, ◌∙◌, subst, inl, inr, ◌⊎◌, append_assoc, ne_eqb, eqb}
use Rattle.std.specs.Option.{option_map_or}
use Rattle.std.specs.List.{list_any, list_all}
use Rattle.std.proofs.lemmas.Bool.{and_parts, and_from, cases_Bool, not-true}
use Rattle.std.proofs.lemmas.List.{reverse-append, take_more}
use Rattle.std.proofs.lemmas.List.Elements.{All-nil, All-cons}
use Rattle.clause_base.specs.declared.lit.Lit.{Lit}
use Rattle.clause_base.specs.declared.clause.Clause.{Clause}
use Rattle.clause_base.specs.declared.answer.StepAnswer.TheVariants.{Good}
use Rattle.clause_base.specs.Formulas.{in_range}
use Rattle.clause_base.specs.Literals.{has_no_variable_twice, opposite}
use Rattle.clause_base.specs.Follows.{answer_of, by_open, follow, hinted, is_false, literals_at, open_literals}
use Rattle.sat_watch.specs.declared.trail.Entry.{Entry}
use Rattle.sat_watch.specs.Trails.{IsConflict, IsImplied, IsLevelled, IsOrdered, IsTrail, IsValued, decided, is_among, literals_of}
use Rattle.sat_watch.specs.Searching.{Base, all_of}
use Rattle.sat_core.specs.Explaining.{GoesBelow, IsWalked, is_wanted}
use Rattle.sat_watch.proofs.Literals.{among_cases, among_here, among_open, among_there, literals_is, open_agree, opposite_back}
use Rattle.sat_watch.proofs.Ordered.{consistent, decided_among}
use Rattle.sat_watch.proofs.Deciding.{unset_var, valued_lit, valued_there}
use Rattle.sat_core.proofs.Sparing.{more_by}

-- true literals, among them the chosen ones and the wanted ones of the older entries
pub record Serves (all older chosen : List Lit) (wanted : List Bool) (assumed : List Lit) : Type 0 where
  pub within : (l : Lit) → is_among l assumed ≡ true → is_among l all ≡ true
  pub chosen_too : (l : Lit) → is_among l chosen ≡ true → is_among l assumed ≡ true
  pub has : (l : Lit) → is_among l older ≡ true → is_wanted wanted l.var ≡ true → is_among l assumed ≡ true

-- from such literals the hints come to a clause whose literals are all false
pub record Leads (known : List Clause) (all older chosen : List Lit) (wanted : List Bool) (hints : List ℕ) : Type 0 where
  pub ends : (assumed : List Lit) (place : ℕ) → Serves all older chosen wanted assumed → follow assumed place (hinted known hints) ≡ Good

-- the newest decision that took part is of a level above that to go back to, and above those still to come
pub record Tops (level : ℕ) (lits : List Lit) (all older : List Entry) : Type 0 where
  pub goes : GoesBelow level lits all
  pub rest : length (decided older) < goes.e.level

-- the entries from the newest on have been walked, up to the older ones
pub record IsWalk (vars : ℕ) (known : List Clause) (all older : List Entry) (wanted : List Bool) (hints : List ℕ) (lits : List Lit) (level : ℕ) : Type 0 where
  pub newer : List Entry
  pub is : all ≡ newer ++ older
  pub ordered : IsOrdered vars older
  pub levelled : IsLevelled older
  pub trail : IsTrail known older
  pub inside : (l : Lit) → is_among l (literals_of older) ≡ true → is_among l (literals_of all) ≡ true
  pub decisions : (l : Lit) → is_among l (decided older) ≡ true → is_among l (decided all) ≡ true
  pub named : All (λ h. (0 < h) × (h ≤ length known)) hints
  pub leads : Leads known (literals_of all) (literals_of older) (map opposite lits) wanted hints
  pub opposed : (l : Lit) → is_among l lits ≡ true → is_among (opposite l) (decided all) ≡ true
  pub apart : (l : Lit) → is_among l lits ≡ true → IsValued (literals_of older) l.var → ⊥
  pub distinct : has_no_variable_twice lits ≡ true
  pub tops : ((lits ≡ []) × (level ≡ 0)) ⊎ Tops level lits all older

-- under literals that serve, the same literals of a clause are false
same_false : (all older chosen : List Lit) (wanted : List Bool) (assumed : List Lit) (c : List Lit) (l : Lit)
    → Serves all older chosen wanted assumed → is_among l c ≡ true → is_wanted wanted l.var ≡ true
    → (is_false older l ≡ false → is_false all l ≡ false) → is_false assumed l ≡ is_false older l
same_false all older chosen wanted assumed c l serves here want up =
    elim (cases_Bool (is_false older l)) [
      | inl down ↦ serves.has (opposite l) down want ∙ sym down
      | inr none ↦
          elim (cases_Bool (is_false assumed l)) [
            | inr too ↦ too ∙ sym none
            | inl clash ↦ let was : is_false all l ≡ true = serves.within (opposite l) clash in let not_was = up none in cc
          ]
    ]

-- the last hint
leads_conflict : (known : List Clause) (all chosen : List Lit) (wanted : List Bool) (number : ℕ) → open_literals all (literals_at known (number - 1)) ≡ []
    → ((l : Lit) → is_among l (literals_at known (number - 1)) ≡ true → is_wanted wanted l.var ≡ true) → Leads known all all chosen wanted (number ∷ [])
leads_conflict known all chosen wanted number closed want = record {
  ends = λ assumed place serves.
      let c = literals_at known (number - 1) in
      let agree : open_literals assumed c ≡ open_literals all c = open_agree all assumed c (λ l here. same_false all all chosen wanted assumed c l serves here (want l here) (λ h. h)) in
      ap (λ o. by_open o place (λ l. follow (l ∷ assumed) (place + 1) [])) (agree ∙ closed);
}

-- one hint more
leads_hint : (known : List Clause) (all older chosen : List Lit) (wanted more : List Bool) (hints : List ℕ) (number : ℕ) (e : Lit)
    → ((l : Lit) → is_among l all ≡ true → is_false all l ≡ false) → ((l : Lit) → is_among l (e ∷ older) ≡ true → is_among l all ≡ true)
    → open_literals older (literals_at known (number - 1)) ≡ e ∷ []
    → ((v : ℕ) → is_wanted wanted v ≡ true → is_wanted more v ≡ true) → ((l : Lit) → is_among l (literals_at known (number - 1)) ≡ true → is_wanted more l.var ≡ true)
    → Leads known all (e ∷ older) chosen wanted hints → Leads known all older chosen more (number ∷ hints)
leads_hint known all older chosen wanted more hints number e once inside unit kept want leads = record {
  ends = λ assumed place serves.
      let c = literals_at known (number - 1) in
      let up : (l : Lit) → is_among l c ≡ true → is_false older l ≡ false → is_false all l ≡ false = λ l here none.
      let open_here : is_among l (e ∷ []) ≡ true = subst (λ (ls : List Lit). is_among l ls ≡ true) unit (among_open older c l here none) in
      elim (among_cases l e [] open_here) [
        | inl same ↦ ap (is_false all) same ∙ once e (inside e (among_here e older))
        | inr later ↦ cc
      ] in
      let agree : open_literals assumed c ≡ open_literals older c = open_agree older assumed c (λ l here. same_false all older chosen more assumed c l serves here (want l here) (up l here)) in
      let next : follow (e ∷ assumed) (place + 1) (hinted known hints) ≡ Good = leads.ends (e ∷ assumed) (place + 1) (record {
        within = λ l h. elim (among_cases l e assumed h) [
          | inl same ↦ subst (λ (k : Lit). is_among k all ≡ true) (sym same) (inside e (among_here e older))
          | inr later ↦ serves.within l later
        ];
        chosen_too = λ l h. among_there l e assumed (serves.chosen_too l h);
        has = λ l h want_it. elim (among_cases l e older h) [
          | inl same ↦ subst (λ (k : Lit). is_among k (e ∷ assumed) ≡ true) (sym same) (among_here e assumed)
          | inr later ↦ among_there l e assumed (serves.has l later (kept l.var want_it))
        ];
      }) in
      ap (λ o. by_open o place (λ l. follow (l ∷ assumed) (place + 1) (hinted known hints))) (agree ∙ unit) ∙ next;
}

pub walk_start : (vars : ℕ) (known : List Clause) (all : List Entry) (wanted : List Bool) (number : ℕ) → IsOrdered vars all → IsLevelled all → IsTrail known all → IsConflict known all number
    → ((l : Lit) → is_among l (literals_at known (number - 1)) ≡ true → is_wanted wanted l.var ≡ true) → IsWalk vars known all all wanted (number ∷ []) [] 0
walk_start vars known all wanted number ordered levelled trail conflict want = record {
  newer = [];
  is = refl;
  ordered = ordered;
  levelled = levelled;
  trail = trail;
  inside = λ l h. h;
  decisions = λ l h. h;
  named = All-cons (λ h. (0 < h) × (h ≤ length known)) number [] (conflict.some, conflict.within) (All-nil (λ h. (0 < h) × (h ≤ length known)));
  leads = leads_conflict known (literals_of all) [] wanted number conflict.closed want;
  opposed = λ l h. cc;
  apart = λ l h. let clash : is_among l [] ≡ true = h in cc;
  distinct = refl;
  tops = inl (refl, refl);
}

decided_there : (older : List Lit) (l k : Lit) (reason : Option ℕ) → is_among l older ≡ true → is_among l (option_map_or (λ number. older) reason (k ∷ older)) ≡ true
decided_there older l k (Some number) h = h
decided_there older l k None h = among_there l k older h

implied_by : (known : List Clause) (before : List Lit) (l : Lit) (reason : Option ℕ) (number : ℕ) → reason ≡ Some number → IsImplied known before l reason → IsImplied known before l (Some number)
implied_by known before l reason number is h = subst (IsImplied known before l) is h

next_newer : (newer : List Entry) (e : Entry) (older all : List Entry) → all ≡ newer ++ e ∷ older → all ≡ (newer ++ e ∷ []) ++ older
next_newer newer e older all is = is ∙ sym (append_assoc newer (e ∷ []) older)

tops_older : (level : ℕ) (lits : List Lit) (all older : List Entry) (e : Entry) → ((lits ≡ []) × (level ≡ 0)) ⊎ Tops level lits all (e ∷ older) → ((lits ≡ []) × (level ≡ 0)) ⊎ Tops level lits all older
tops_older level lits all older e tops = elim tops [
  | inl none ↦ inl none
  | inr some ↦
      let fewer : length (decided older) ≤ length (decided (e ∷ older)) = more_by older e.lit e.reason in
      let rest : length (decided (e ∷ older)) < some.goes.e.level = some.rest in
      inr (record { goes = some.goes; rest = omega arith })
]

pub walk_hint : (vars : ℕ) (known : List Clause) (all older : List Entry) (e : Entry) (wanted more : List Bool) (hints : List ℕ) (lits : List Lit) (level number : ℕ)
    → IsOrdered vars all → e.reason ≡ Some number
    → ((v : ℕ) → is_wanted wanted v ≡ true → is_wanted more v ≡ true) → ((l : Lit) → is_among l (literals_at known (number - 1)) ≡ true → is_wanted more l.var ≡ true)
    → IsWalk vars known all (e ∷ older) wanted hints lits level → IsWalk vars known all older more (number ∷ hints) lits level
walk_hint vars known all older e wanted more hints lits level number ordered reason kept want walk =
    let implied = implied_by known (literals_of older) e.lit e.reason number reason walk.trail.0 in
    record {
      newer = walk.newer ++ e ∷ [];
      is = next_newer walk.newer e older all walk.is;
      ordered = walk.ordered.2;
      levelled = walk.levelled.1;
      trail = walk.trail.1;
      inside = λ l h. walk.inside l (among_there l e.lit (literals_of older) h);
      decisions = λ l h. walk.decisions l (decided_there (decided older) l e.lit e.reason h);
      named = All-cons (λ h. (0 < h) × (h ≤ length known)) number hints (implied.0, implied.1) walk.named;
      leads = leads_hint known (literals_of all) (literals_of older) (map opposite lits) wanted more hints number e.lit
          (λ l h. consistent vars all l ordered h) walk.inside implied.2 kept want walk.leads;
      opposed = walk.opposed;
      apart = λ l h valued. walk.apart l h (valued_there e.lit (literals_of older) l.var valued);
      distinct = walk.distinct;
      tops = tops_older level lits all older e walk.tops;
    }

-- an entry that isn't wanted
pub walk_skip : (vars : ℕ) (known : List Clause) (all older : List Entry) (e : Entry) (wanted : List Bool) (hints : List ℕ) (lits : List Lit) (level : ℕ) → is_wanted wanted e.lit.var ≡ false
    → IsWalk vars known all (e ∷ older) wanted hints lits level → IsWalk vars known all older wanted hints lits level
walk_skip vars known all older e wanted hints lits level idle walk = record {
  newer = walk.newer ++ e ∷ [];
  is = next_newer walk.newer e older all walk.is;
  ordered = walk.ordered.2;
  levelled = walk.levelled.1;
  trail = walk.trail.1;
  inside = λ l h. walk.inside l (among_there l e.lit (literals_of older) h);
  decisions = λ l h. walk.decisions l (decided_there (decided older) l e.lit e.reason h);
  named = walk.named;
  leads = record {
    ends = λ assumed place serves. walk.leads.ends assumed place (record {
      within = serves.within;
      chosen_too = serves.chosen_too;
      has = λ l h want_it. elim (among_cases l e.lit (literals_of older) h) [
        | inr later ↦ serves.has l later want_it
        | inl same ↦ let clash : is_wanted wanted l.var ≡ false = ap (λ (k : Lit). is_wanted wanted k.var) same ∙ idle in cc
      ];
    });
  };
  opposed = walk.opposed;
  apart = λ l h valued. walk.apart l h (valued_there e.lit (literals_of older) l.var valued);
  distinct = walk.distinct;
  tops = tops_older level lits all older e walk.tops;
}

push_old : (ls : List Lit) (x l : Lit) → is_among l ls ≡ true → is_among l (ls ++ x ∷ []) ≡ true
push_old [] x l h = cc
push_old (k ∷ ks) x l h = elim (among_cases l k ks h) [
  | inl same ↦ ap (λ (y : Lit). is_among l (y ∷ (ks ++ x ∷ []))) (sym same) ∙ among_here l (ks ++ x ∷ [])
  | inr later ↦ among_there l k (ks ++ x ∷ []) (push_old ks x l later)
]

push_new : (ls : List Lit) (x : Lit) → is_among x (ls ++ x ∷ []) ≡ true
push_new [] x = among_here x []
push_new (k ∷ ks) x = among_there x k (ks ++ x ∷ []) (push_new ks x)

push_cases : (ls : List Lit) (x l : Lit) → is_among l (ls ++ x ∷ []) ≡ true → (is_among l ls ≡ true) ⊎ (l ≡ x)
push_cases [] x l h = elim (among_cases l x [] h) [ inl same ↦ inr same | inr later ↦ cc ]
push_cases (k ∷ ks) x l h = elim (among_cases l k (ks ++ x ∷ []) h) [
  | inl same ↦ inl (ap (λ (y : Lit). is_among l (y ∷ ks)) (sym same) ∙ among_here l ks)
  | inr later ↦ elim (push_cases ks x l later) [ inl old ↦ inl (among_there l k ks old) | inr new ↦ inr new ]
]

pub among_opposites : (ds : List Lit) (l : Lit) → is_among l (map opposite ds) ≡ true → is_among (opposite l) ds ≡ true
among_opposites [] l h = h
among_opposites (d ∷ ds) l h = elim (among_cases l (opposite d) (map opposite ds) h) [
  | inl same ↦ let is : opposite l ≡ d = ap opposite same ∙ opposite_back d in ap (λ (k : Lit). is_among k (d ∷ ds)) is ∙ among_here d ds
  | inr later ↦ among_there (opposite l) d ds (among_opposites ds l later)
]

pub opposites_among : (ds : List Lit) (l : Lit) → is_among l ds ≡ true → is_among (opposite l) (map opposite ds) ≡ true
opposites_among [] l h = h
opposites_among (d ∷ ds) l h = elim (among_cases l d ds h) [
  | inl same ↦ ap (λ (k : Lit). is_among (opposite k) (opposite d ∷ map opposite ds)) same ∙ among_here (opposite d) (map opposite ds)
  | inr later ↦ among_there (opposite l) (opposite d) (map opposite ds) (opposites_among ds l later)
]

-- a true literal is chosen where its opposite is among the clause's
chosen_of : (ls : List Lit) (l : Lit) → is_among (opposite l) ls ≡ true → is_among l (map opposite ls) ≡ true
chosen_of ls l h = subst (λ (k : Lit). is_among k (map opposite ls) ≡ true) (opposite_back l) (opposites_among ls (opposite l) h)

or_false : (a b : Bool) → a ≡ false → b ≡ false → (a || b) ≡ false
or_false true b h k = cc
or_false false b h k = k

none_more : (ls : List Lit) (v : ℕ) (x : Lit) → list_any (λ k. k.var == v) ls ≡ false → (x.var ≡ v → ⊥) → list_any (λ k. k.var == v) (ls ++ x ∷ []) ≡ false
none_more [] v x none apart = let other : eqb x.var v ≡ false = ne_eqb x.var v apart in rw other refl
none_more (l ∷ ls) v x none apart = elim (cases_Bool (eqb l.var v)) [
  | inl here ↦ let clash : list_any (λ k. k.var == v) (l ∷ ls) ≡ true = rw here refl in cc
  | inr out ↦ let rest : list_any (λ k. k.var == v) ls ≡ false = rw out at none in or_false (eqb l.var v) (list_any (λ k. k.var == v) (ls ++ x ∷ [])) out (none_more ls v x rest apart)
]

distinct_push : (ls : List Lit) (x : Lit) → has_no_variable_twice ls ≡ true → ((l : Lit) → is_among l ls ≡ true → x.var ≡ l.var → ⊥) → has_no_variable_twice (ls ++ x ∷ []) ≡ true
distinct_push [] x h apart = refl
distinct_push (l ∷ ls) x h apart =
    let parts = and_parts (not (list_any (λ k. k.var == l.var) ls)) (has_no_variable_twice ls) h in
    let none : list_any (λ k. k.var == l.var) ls ≡ false = not-true (list_any (λ k. k.var == l.var) ls) parts.0 in
    let here : list_any (λ k. k.var == l.var) (ls ++ x ∷ []) ≡ false = none_more ls l.var x none (apart l (among_here l ls)) in
    let rest : has_no_variable_twice (ls ++ x ∷ []) ≡ true = distinct_push ls x parts.1 (λ m w. apart m (among_there m l ls w)) in
    rw (here, rest) refl

decision_here : (older : List Entry) (e : Entry) → e.reason ≡ None → decided (e ∷ older) ≡ e.lit ∷ decided older
decision_here older e is = ap (λ (r : Option ℕ). option_map_or (λ number. decided older) r (e.lit ∷ decided older)) is

tops_decided : (level next : ℕ) (lits : List Lit) (newer : List Entry) (e : Entry) (older all : List Entry) → all ≡ newer ++ e ∷ older → e.reason ≡ None → e.level ≡ length (decided (e ∷ older))
    → ((next ≡ level) ⊎ (next ≡ e.level)) → (lits ≡ [] → next ≡ level) → ((lits ≡ []) × (level ≡ 0)) ⊎ Tops level lits all (e ∷ older) → Tops next (lits ++ opposite e.lit ∷ []) all older
tops_decided level next lits newer e older all is decision own either first tops =
    let count : length (decided (e ∷ older)) ≡ suc (length (decided older)) = ap length (decision_here older e decision) in
    elim tops [
      | inl none ↦
          let zero : next ≡ 0 = first none.0 ∙ none.1 in
          record {
            goes = record { newer = newer; e = e; older = older; is = is; by_choice = decision; stands = push_new lits (opposite e.lit); below = omega arith };
            rest = omega arith;
          }
      | inr some ↦
          let x : Entry = some.goes.e in
          let low : level < x.level = some.goes.below in
          let rest : length (decided (e ∷ older)) < x.level = some.rest in
          let now : next < x.level = elim either [ inl same ↦ omega arith | inr its ↦ omega arith ] in
          record {
            goes = record { newer = some.goes.newer; e = x; older = some.goes.older; is = some.goes.is; by_choice = some.goes.by_choice; stands = push_old lits (opposite e.lit) (opposite x.lit) some.goes.stands; below = now };
            rest = omega arith;
          }
    ]

-- a decision that took part
pub walk_decided : (vars : ℕ) (known : List Clause) (all older : List Entry) (e : Entry) (wanted : List Bool) (hints : List ℕ) (lits : List Lit) (level next : ℕ) → e.reason ≡ None
    → ((next ≡ level) ⊎ (next ≡ e.level)) → (lits ≡ [] → next ≡ level)
    → IsWalk vars known all (e ∷ older) wanted hints lits level → IsWalk vars known all older wanted hints (lits ++ opposite e.lit ∷ []) next
walk_decided vars known all older e wanted hints lits level next decision either first walk =
    let x : Lit = opposite e.lit in
    let known_there : List Lit = literals_of older in
    record {
      newer = walk.newer ++ e ∷ [];
      is = next_newer walk.newer e older all walk.is;
      ordered = walk.ordered.2;
      levelled = walk.levelled.1;
      trail = walk.trail.1;
      inside = λ l h. walk.inside l (among_there l e.lit known_there h);
      decisions = λ l h. walk.decisions l (decided_there (decided older) l e.lit e.reason h);
      named = walk.named;
      leads = record {
        ends = λ assumed place serves. walk.leads.ends assumed place (record {
          within = serves.within;
          chosen_too = λ l h. serves.chosen_too l (chosen_of (lits ++ x ∷ []) l (push_old lits x (opposite l) (among_opposites lits l h)));
          has = λ l h want_it. elim (among_cases l e.lit known_there h) [
            | inr later ↦ serves.has l later want_it
            | inl same ↦ serves.chosen_too l (chosen_of (lits ++ x ∷ []) l (subst (λ (k : Lit). is_among (opposite k) (lits ++ x ∷ []) ≡ true) (sym same) (push_new lits x)))
          ];
        });
      };
      opposed = λ l h. elim (push_cases lits x l h) [
        | inl old ↦ walk.opposed l old
        | inr new ↦
            let back : e.lit ≡ opposite l = sym (opposite_back e.lit) ∙ ap opposite (sym new) in
            let there : is_among e.lit (decided (e ∷ older)) ≡ true = subst (λ (ls : List Lit). is_among e.lit ls ≡ true) (sym (decision_here older e decision)) (among_here e.lit (decided older)) in
            subst (λ (k : Lit). is_among k (decided all) ≡ true) back (walk.decisions e.lit there)
      ];
      apart = λ l h valued. elim (push_cases lits x l h) [
        | inl old ↦ walk.apart l old (valued_there e.lit known_there l.var valued)
        | inr new ↦
            let same : l.var ≡ e.lit.var = ap (λ (k : Lit). k.var) new in
            unset_var known_there e.lit walk.ordered.1 (subst (IsValued known_there) same valued)
      ];
      distinct = distinct_push lits x walk.distinct (λ l w same.
          walk.apart l w (subst (IsValued (e.lit ∷ known_there)) same (valued_lit (e.lit ∷ known_there) e.lit (among_here e.lit known_there))));
      tops = inr (tops_decided level next lits walk.newer e older all walk.is decision walk.levelled.0 either first walk.tops);
    }

pub walk_good : (vars : ℕ) (known : List Clause) (all : List Entry) (wanted : List Bool) (hints : List ℕ) (lits : List Lit) (level : ℕ) → IsWalk vars known all [] wanted hints lits level → answer_of lits (hinted known hints) ≡ Good
walk_good vars known all wanted hints lits level walk = walk.leads.ends (map opposite lits) 1 (record {
  within = λ l h.
      let there = walk.opposed (opposite l) (among_opposites lits l h) in
      decided_among all l (subst (λ (k : Lit). is_among k (decided all) ≡ true) (opposite_back l) there);
  chosen_too = λ l h. h;
  has = λ l h want_it. cc;
})

all_in_range : (vars : ℕ) (ls : List Lit) → ((l : Lit) → is_among l ls ≡ true → in_range vars l ≡ true) → list_all (in_range vars) ls ≡ true
all_in_range vars [] h = refl
all_in_range vars (l ∷ ls) h = and_from (in_range vars l) (list_all (in_range vars) ls) (h l (among_here l ls)) (all_in_range vars ls (λ m w. h m (among_there m l ls w)))

entry_in_range : (vars : ℕ) (es : List Entry) (l : Lit) → IsOrdered vars es → is_among l (literals_of es) ≡ true → in_range vars l ≡ true
entry_in_range vars [] l ordered h = cc
entry_in_range vars (e ∷ older) l ordered h = elim (among_cases l e.lit (literals_of older) h) [
  | inl same ↦ ap (in_range vars) same ∙ ordered.0
  | inr later ↦ entry_in_range vars older l ordered.2 later
]

pub walk_in_range : (vars : ℕ) (known : List Clause) (all : List Entry) (wanted : List Bool) (hints : List ℕ) (lits : List Lit) (level : ℕ) → IsOrdered vars all
    → IsWalk vars known all [] wanted hints lits level → list_all (in_range vars) lits ≡ true
walk_in_range vars known all wanted hints lits level ordered walk =
    all_in_range vars lits (λ l w. entry_in_range vars all (opposite l) ordered (decided_among all (opposite l) (walk.opposed l w)))

pub walked : (base : Base) (all : List Entry) (wanted : List Bool) (hints : List ℕ) (lits : List Lit) (level : ℕ) → IsOrdered base.vars all
    → IsWalk base.vars (all_of base) all [] wanted hints lits level → IsWalked base all lits hints level
walked base all wanted hints lits level ordered walk = record {
  distinct = walk.distinct;
  within = walk_in_range base.vars (all_of base) all wanted hints lits level ordered walk;
  named = walk.named;
  good = walk_good base.vars (all_of base) all wanted hints lits level walk;
  opposes = record { each = walk.opposed };
  below = λ some. elim walk.tops [ inl none ↦ absurd (some none.0) | inr tops ↦ tops.goes ];
}

pub older_read : (xs : List Entry) (i : ℕ) (d : Entry) → 0 < i → i ≤ length xs → reverse (take i xs) ≡ get_or xs (i - 1) d ∷ reverse (take (i - 1) xs)
older_read xs i d some within =
    let back : i - 1 + 1 ≡ i = omega arith in
    let cut : take i xs ≡ take (i - 1) xs ++ get_or xs (i - 1) d ∷ [] = ap (λ n. take n xs) (sym back) ∙ take_more xs (i - 1) d (omega arith) in
    ap reverse cut ∙ reverse-append (take (i - 1) xs) (get_or xs (i - 1) d ∷ [])

pub wanted_at : (known : List Clause) (number : ℕ) (c : Clause) (lits : List Lit) (wanted : List Bool) → slice_get known (number - 1) ≡ Some c → lits ≡ c.lits
    → ((l : Lit) → is_among l lits ≡ true → is_wanted wanted l.var ≡ true) → (l : Lit) → is_among l (literals_at known (number - 1)) ≡ true → is_wanted wanted l.var ≡ true
wanted_at known number c lits wanted at same want l h =
    let is : literals_at known (number - 1) ≡ lits = literals_is known (number - 1) c at ∙ sym same in
    want l (subst (λ (ls : List Lit). is_among l ls ≡ true) is h)
