-- The clauses by which decisions lead to a conflict.
use Rattle.std.proofs.Common.{reverse, take, get_or, slice_get, ◌≡◌, ℕ, ◌<◌, ◌≤◌, ◌-◌, ◌+◌, Bool, true, false, List, [], ◌∷◌, ◌++◌, map, All, length, Some, None, Option, arith, sym, ap, ◌∙◌, subst, inl, inr, ◌⊎◌}
use Rattle.std.specs.Option.{is_some, option_map_or}
use Rattle.std.proofs.lemmas.Bool.{cases_Bool}
use Rattle.std.proofs.lemmas.List.{reverse-append, take_more}
use Rattle.std.proofs.lemmas.List.Elements.{All-nil, All-cons}
use Rattle.clause_base.specs.declared.lit.Lit.{Lit}
use Rattle.clause_base.specs.declared.clause.Clause.{Clause}
use Rattle.clause_base.specs.declared.answer.StepAnswer.TheVariants.{Good}
use Rattle.clause_base.specs.Literals.{opposite}
use Rattle.clause_base.specs.Follows.{answer_of, by_open, follow, hinted, is_false, literals_at, open_literals}
use Rattle.sat_plain.specs.declared.trail.Entry.{Entry}
use Rattle.sat_plain.specs.Trails.{IsConflict, IsImplied, IsOrdered, IsTrail, decided, is_among, is_wanted, literals_of}
use Rattle.sat_plain.proofs.Literals.{among_cases, among_here, among_open, among_there, literals_is, open_agree, opposites_back}
use Rattle.sat_plain.proofs.Ordered.{consistent, decided_among, decided_decision}

-- true literals, among them the decisions and the wanted ones of the older entries
pub record Serves (all older : List Lit) (decisions : List Lit) (wanted : List Bool) (assumed : List Lit) : Type 0 where
  pub within : (l : Lit) → is_among l assumed ≡ true → is_among l all ≡ true
  pub chosen : (l : Lit) → is_among l decisions ≡ true → is_among l assumed ≡ true
  pub has : (l : Lit) → is_among l older ≡ true → is_wanted wanted l.var ≡ true → is_among l assumed ≡ true

-- from such literals the hints come to a clause whose literals are all false
pub record Leads (known : List Clause) (all older : List Lit) (decisions : List Lit) (wanted : List Bool) (hints : List ℕ) : Type 0 where
  pub ends : (assumed : List Lit) (place : ℕ) → Serves all older decisions wanted assumed → follow assumed place (hinted known hints) ≡ Good

-- the entries from the newest on have been walked, up to the older ones
pub record IsWalk (known : List Clause) (all older : List Entry) (wanted : List Bool) (hints : List ℕ) : Type 0 where
  pub trail : IsTrail known older
  pub inside : (l : Lit) → is_among l (literals_of older) ≡ true → is_among l (literals_of all) ≡ true
  pub decisions : (l : Lit) → is_among l (decided older) ≡ true → is_among l (decided all) ≡ true
  pub named : All (λ h. (0 < h) × (h ≤ length known)) hints
  pub leads : Leads known (literals_of all) (literals_of older) (decided all) wanted hints

-- under literals that serve, the same literals of a clause are false
same_false : (known : List Clause) (all older decisions : List Lit) (wanted : List Bool) (assumed : List Lit) (c : List Lit) (l : Lit)
    → Serves all older decisions wanted assumed → is_among l c ≡ true → is_wanted wanted l.var ≡ true
    → (is_false older l ≡ false → is_false all l ≡ false) → is_false assumed l ≡ is_false older l
same_false known all older decisions wanted assumed c l serves here want up =
    elim (cases_Bool (is_false older l)) [
      | inl down ↦ serves.has (opposite l) down want ∙ sym down
      | inr none ↦
          elim (cases_Bool (is_false assumed l)) [
            | inr too ↦ too ∙ sym none
            | inl clash ↦ let was : is_false all l ≡ true = serves.within (opposite l) clash in let not_was = up none in cc
          ]
    ]

-- the last hint
leads_conflict : (known : List Clause) (all decisions : List Lit) (wanted : List Bool) (number : ℕ) → open_literals all (literals_at known (number - 1)) ≡ []
    → ((l : Lit) → is_among l (literals_at known (number - 1)) ≡ true → is_wanted wanted l.var ≡ true) → Leads known all all decisions wanted (number ∷ [])
leads_conflict known all decisions wanted number closed want = record {
  ends = λ assumed place serves.
      let c = literals_at known (number - 1) in
      let agree : open_literals assumed c ≡ open_literals all c = open_agree all assumed c (λ l here. same_false known all all decisions wanted assumed c l serves here (want l here) (λ h. h)) in
      ap (λ o. by_open o place (λ l. follow (l ∷ assumed) (place + 1) [])) (agree ∙ closed);
}

-- one hint more
leads_hint : (known : List Clause) (all older decisions : List Lit) (wanted more : List Bool) (hints : List ℕ) (number : ℕ) (e : Lit)
    → ((l : Lit) → is_among l all ≡ true → is_false all l ≡ false) → ((l : Lit) → is_among l (e ∷ older) ≡ true → is_among l all ≡ true)
    → open_literals older (literals_at known (number - 1)) ≡ e ∷ []
    → ((v : ℕ) → is_wanted wanted v ≡ true → is_wanted more v ≡ true) → ((l : Lit) → is_among l (literals_at known (number - 1)) ≡ true → is_wanted more l.var ≡ true)
    → Leads known all (e ∷ older) decisions wanted hints → Leads known all older decisions more (number ∷ hints)
leads_hint known all older decisions wanted more hints number e once inside unit kept want leads = record {
  ends = λ assumed place serves.
      let c = literals_at known (number - 1) in
      let up : (l : Lit) → is_among l c ≡ true → is_false older l ≡ false → is_false all l ≡ false = λ l here none.
      let open_here : is_among l (e ∷ []) ≡ true = subst (λ (ls : List Lit). is_among l ls ≡ true) unit (among_open older c l here none) in
      elim (among_cases l e [] open_here) [
        | inl same ↦ ap (is_false all) same ∙ once e (inside e (among_here e older))
        | inr later ↦ cc
      ] in
      let agree : open_literals assumed c ≡ open_literals older c = open_agree older assumed c (λ l here. same_false known all older decisions more assumed c l serves here (want l here) (up l here)) in
      let next : follow (e ∷ assumed) (place + 1) (hinted known hints) ≡ Good = leads.ends (e ∷ assumed) (place + 1) (record {
        within = λ l h. elim (among_cases l e assumed h) [
          | inl same ↦ subst (λ (k : Lit). is_among k all ≡ true) (sym same) (inside e (among_here e older))
          | inr later ↦ serves.within l later
        ];
        chosen = λ l h. among_there l e assumed (serves.chosen l h);
        has = λ l h want_it. elim (among_cases l e older h) [
          | inl same ↦ subst (λ (k : Lit). is_among k (e ∷ assumed) ≡ true) (sym same) (among_here e assumed)
          | inr later ↦ among_there l e assumed (serves.has l later (kept l.var want_it))
        ];
      }) in
      ap (λ o. by_open o place (λ l. follow (l ∷ assumed) (place + 1) (hinted known hints))) (agree ∙ unit) ∙ next;
}

pub walk_start : (known : List Clause) (all : List Entry) (wanted : List Bool) (number : ℕ) → IsTrail known all → IsConflict known all number
    → ((l : Lit) → is_among l (literals_at known (number - 1)) ≡ true → is_wanted wanted l.var ≡ true) → IsWalk known all all wanted (number ∷ [])
walk_start known all wanted number trail conflict want = record {
  trail = trail;
  inside = λ l h. h;
  decisions = λ l h. h;
  named = All-cons (λ h. (0 < h) × (h ≤ length known)) number [] (conflict.some, conflict.within) (All-nil (λ h. (0 < h) × (h ≤ length known)));
  leads = leads_conflict known (literals_of all) (decided all) wanted number conflict.closed want;
}

decided_there : (older : List Lit) (l k : Lit) (reason : Option ℕ) → is_among l older ≡ true → is_among l (option_map_or (λ number. older) reason (k ∷ older)) ≡ true
decided_there older l k (Some number) h = h
decided_there older l k None h = among_there l k older h

implied_by : (known : List Clause) (before : List Lit) (l : Lit) (reason : Option ℕ) (number : ℕ) → reason ≡ Some number → IsImplied known before l reason → IsImplied known before l (Some number)
implied_by known before l reason number is h = subst (IsImplied known before l) is h

pub walk_hint : (vars : ℕ) (known : List Clause) (all older : List Entry) (e : Entry) (wanted more : List Bool) (hints : List ℕ) (number : ℕ)
    → IsOrdered vars all → e.reason ≡ Some number
    → ((v : ℕ) → is_wanted wanted v ≡ true → is_wanted more v ≡ true) → ((l : Lit) → is_among l (literals_at known (number - 1)) ≡ true → is_wanted more l.var ≡ true)
    → IsWalk known all (e ∷ older) wanted hints → IsWalk known all older more (number ∷ hints)
walk_hint vars known all older e wanted more hints number ordered reason kept want walk =
    let implied = implied_by known (literals_of older) e.lit e.reason number reason walk.trail.0 in
    record {
      trail = walk.trail.1;
      inside = λ l h. walk.inside l (among_there l e.lit (literals_of older) h);
      decisions = λ l h. walk.decisions l (decided_there (decided older) l e.lit e.reason h);
      named = All-cons (λ h. (0 < h) × (h ≤ length known)) number hints (implied.0, implied.1) walk.named;
      leads = leads_hint known (literals_of all) (literals_of older) (decided all) wanted more hints number e.lit
          (λ l h. consistent vars all l ordered h) walk.inside implied.2 kept want walk.leads;
    }

-- an entry that is decided or isn't wanted
pub walk_skip : (known : List Clause) (all older : List Entry) (e : Entry) (wanted : List Bool) (hints : List ℕ) → (is_wanted wanted e.lit.var ≡ false) ⊎ (is_some e.reason ≡ false)
    → IsWalk known all (e ∷ older) wanted hints → IsWalk known all older wanted hints
walk_skip known all older e wanted hints skip walk = record {
  trail = walk.trail.1;
  inside = λ l h. walk.inside l (among_there l e.lit (literals_of older) h);
  decisions = λ l h. walk.decisions l (decided_there (decided older) l e.lit e.reason h);
  named = walk.named;
  leads = record {
    ends = λ assumed place serves. walk.leads.ends assumed place (record {
      within = serves.within;
      chosen = serves.chosen;
      has = λ l h want_it. elim (among_cases l e.lit (literals_of older) h) [
        | inr later ↦ serves.has l later want_it
        | inl same ↦ elim skip [
          | inl idle ↦ let clash : is_wanted wanted l.var ≡ false = ap (λ (k : Lit). is_wanted wanted k.var) same ∙ idle in cc
          | inr decision ↦
              let stands : is_among e.lit (decided (e ∷ older)) ≡ true = subst (λ (ls : List Lit). is_among e.lit ls ≡ true) (sym (decided_decision e older decision)) (among_here e.lit (decided older)) in
              subst (λ (k : Lit). is_among k assumed ≡ true) (sym same) (serves.chosen e.lit (walk.decisions e.lit stands))
        ]
      ];
    });
  };
}

pub walk_end : (known : List Clause) (all : List Entry) (wanted : List Bool) (hints : List ℕ) → IsWalk known all [] wanted hints → answer_of (map opposite (decided all)) (hinted known hints) ≡ Good
walk_end known all wanted hints walk =
    ap (λ (ls : List Lit). follow ls 1 (hinted known hints)) (opposites_back (decided all))
    ∙ walk.leads.ends (decided all) 1 (record {
      within = λ l h. decided_among all l h;
      chosen = λ l h. h;
      has = λ l h want_it. cc;
    })

pub older_read : (xs : List Entry) (i : ℕ) (d : Entry) → 0 < i → i ≤ length xs → reverse (take i xs) ≡ get_or xs (i - 1) d ∷ reverse (take (i - 1) xs)
older_read xs i d some within =
    let back : i - 1 + 1 ≡ i = omega arith in
    let cut : take i xs ≡ take (i - 1) xs ++ get_or xs (i - 1) d ∷ [] = ap (λ n. take n xs) (sym back) ∙ take_more xs (i - 1) d (omega arith) in
    ap reverse cut ∙ reverse-append (take (i - 1) xs) (get_or xs (i - 1) d ∷ [])

pub wanted_at : (known : List Clause) (number : ℕ) (c : Clause) (lits : List Lit) (wanted : List Bool) → slice_get known (number - 1) ≡ Some c → lits ≡ c.lits
    → ((l : Lit) → is_among l lits ≡ true → is_wanted wanted l.var ≡ true) → (l : Lit) → is_among l (literals_at known (number - 1)) ≡ true → is_wanted wanted l.var ≡ true
wanted_at known number c lits wanted at same want l h =
    let is : literals_at known (number - 1) ≡ lits = literals_is known (number - 1) c at ∙ sym same in
    want l (subst (λ (ls : List Lit). is_among l ls ≡ true) is h)
