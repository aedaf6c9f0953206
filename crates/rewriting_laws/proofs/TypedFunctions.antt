-- The functions of a rewriting are at no fault, and what flows in them is of the types of their
-- slots.
use Rattle.std.proofs.Common.{◌≡◌, ℕ, suc, ◌+◌, ◌==◌, Bool, true, false, not, ◌||◌, List, [], ◌∷◌}
use Rattle.std.proofs.Common.{◌++◌, length, Option, Some, None, if◌then◌else◌, refl, sym, ap, ◌∙◌}
use Rattle.std.proofs.Common.{subst, add-one, codes, ◌&&◌}
use Rattle.std.specs.Prelude.{⊤}
use Rattle.std.specs.List.{flat_map, list_any}
use Rattle.std.proofs.lemmas.Bool.{or_parts}
use lib.Pointwise.{bytes_decides}
use Rattle.mpy_tree.specs.declared.refusal.Cause.TheVariants as cause
use Rattle.mpy_tree.specs.declared.typing.Slot.{Slot}
use Rattle.mpy_tree.specs.declared.typing.Slot.TheVariants as slot
use Rattle.mpy_tree.specs.declared.typing.Ty.{Ty}
use Rattle.mpy_tree.specs.declared.typing.TypeError.TheVariants.{Fault}
use Rattle.mpy_tree.specs.Entries.{Entry}
use Rattle.mpy_tree.specs.Faults.{broken_from, entry_fault, free_function, number_of}
use Rattle.mpy_tree.specs.Flows.{Keeps, all_site_flows, entry_flows, flows_from, given_flows}
use Rattle.mpy_tree.specs.Flows.{node_flows, site_flows}
use Rattle.mpy_tree.specs.Locals.{is_among, locals, site_assigned, site_changed}
use Rattle.mpy_tree.specs.Names.{arity_lines_from, has_arity_fault, has_name_fault, has_twice}
use Rattle.mpy_tree.specs.Names.{header_lines, is_arity_fault, is_name_fault, is_print, is_taken}
use Rattle.mpy_tree.specs.Names.{lines_of, name_lines_from, site_prints}
use Rattle.mpy_tree.specs.Rules.{single, site_obeys}
use Rattle.mpy_tree.specs.Running.{found}
use Rattle.mpy_tree.specs.SetTypes.{Callee, FactSet, callee, called_from}
use Rattle.mpy_tree.specs.Sites.{Site, line_of, site_nodes, site_terms, sites}
use Rattle.mpy_tree.specs.Syntax.{Routine}
use Rattle.mpy_tree.specs.TypeSets.{no_types}
use Rattle.mpy_tree.specs.Values.{same_bytes}
use Rattle.mpy_types.proofs.Every.{Every, every_both, every_front, every_rest}
use Rattle.choice_tree.specs.Contexts.{Setting, scope_in}
use Rattle.choice_tree.specs.Typing.{Scope}
use Rattle.rewriting_laws.proofs.Alike.{AlikeFrom, AlikeSite, AlikeSites, nowhere, sites_alike}
use Rattle.rewriting_laws.proofs.Alike.{there}
use Rattle.rewriting_laws.proofs.Nothing.{nil_both}
use Rattle.rewriting_laws.proofs.OwnNames.{OwnNames}
use Rattle.rewriting_laws.proofs.Slots.{AloneFrom, IsSettled, SameHead, SameHeads, SettledFrom}
use Rattle.rewriting_laws.proofs.Slots.{is_slot, same_slots}
use Rattle.rewriting_laws.proofs.TypedNodes.{IsFine, terms_fine}
use Rattle.rewriting_laws.proofs.TypedSites.{flows_kept, same_assigned, same_changed, same_obeys}
use Rattle.rewriting_laws.proofs.TypedSites.{same_prints, site_typed}
use Rattle.mpy_type_laws.proofs.Nothing.{nil_left, nil_right}

-- statements that are alike, each with each
flat_alike : {g : Setting} {σ : Scope} {A : Type 0} (f : Site → List A)
    → ((s t : Site) → AlikeSite g σ s t → f t ≡ f s) → {ss ts : List Site}
    → AlikeSites g σ ss ts → flat_map f ts ≡ flat_map f ss
flat_alike f same nowhere = refl
flat_alike f same (there {s} {t} a rest) =
    λ i. same s t a i ++ flat_alike f same rest i

every_alike : {g : Setting} {σ : Scope} (P Q : Site → Type 0)
    → ((s t : Site) → AlikeSite g σ s t → P s → Q t) → {ss ts : List Site}
    → AlikeSites g σ ss ts → Every P ss → Every Q ts
every_alike P Q step nowhere h = tt
every_alike P Q step (there {s} {t} a rest) h =
    (step s t a h.0, every_alike P Q step rest h.1)

pub heads_alike : (g : Setting) (i : ℕ) (rs qs : List Routine) → AlikeFrom g i rs qs
    → SameHeads rs qs
heads_alike g i [] [] h = tt
heads_alike g i [] (q ∷ qs) h = absurd h
heads_alike g i (r ∷ rs) [] h = absurd h
heads_alike g i (r ∷ rs) (q ∷ qs) h = (
  record {
    line = h.0.line;
    name = h.0.name;
    params = h.0.params;
    assigned = flat_alike site_assigned same_assigned (sites_alike h.0.body);
  },
  heads_alike g (suc i) rs qs h.1,
)

-- no statement passes a test
none_listed : (test : Site → Bool) (ss : List Site) → Every (λ s. test s ≡ false) ss
    → lines_of test ss ≡ []
none_listed test [] h = refl
none_listed test (s ∷ ss) h =
    (λ i. if h.0 i then line_of s ∷ lines_of test ss else lines_of test ss)
    ∙ none_listed test ss h.1

unlisted : (b : Bool) (line : ℕ) (rest : List ℕ) → (if b then line ∷ rest else rest) ≡ []
    → (b ≡ false) × (rest ≡ [])
unlisted false line rest h = (refl, h)
unlisted true line rest h = cc

listed_none : (test : Site → Bool) (ss : List Site) → lines_of test ss ≡ []
    → Every (λ s. test s ≡ false) ss
listed_none test [] h = tt
listed_none test (s ∷ ss) h =
    let both = unlisted (test s) (line_of s) (lines_of test ss) h in
    (both.0, listed_none test ss both.1)

not_true : (b : Bool) → not b ≡ false → b ≡ true
not_true true h = refl
not_true false h = cc

-- tests that are one find the same
any_same : {A : Type 0} (f h : A → Bool) (xs : List A) → ((x : A) → f x ≡ h x)
    → list_any f xs ≡ list_any h xs
any_same f h [] e = refl
any_same f h (x ∷ xs) e = λ i. e x i || any_same f h xs e i

any_of_none : {A : Type 0} (f : A → Bool) (P : A → Type 0) → ((x : A) → P x → f x ≡ false)
    → (xs : List A) → Every P xs → list_any f xs ≡ false
any_of_none f P step [] h = refl
any_of_none f P step (x ∷ xs) h = λ i. step x h.0 i || any_of_none f P step xs h.1 i

flat_every : {A B : Type 0} (f : A → List B) (P : A → Type 0) (Q : B → Type 0)
    → ((x : A) → P x → Every Q (f x)) → (xs : List A) → Every P xs → Every Q (flat_map f xs)
flat_every f P Q step [] h = tt
flat_every f P Q step (x ∷ xs) h =
    every_both Q (f x) (flat_map f xs) (step x h.0) (flat_every f P Q step xs h.1)

-- a local is `print` in both functions or in neither
same_bytes_back : (x y : List ℕ) → same_bytes x y ≡ true → same_bytes y x ≡ true
same_bytes_back x y h = (bytes_decides y x).1 (sym ((bytes_decides x y).0 h))

both_or_neither : (a b : Bool) → (a ≡ true → b ≡ true) → (b ≡ true → a ≡ true) → a ≡ b
both_or_neither true b f h = sym (f refl)
both_or_neither false true f h = h refl
both_or_neither false false f h = refl

print_among : (xs : List (List ℕ)) → list_any is_print xs ≡ is_among xs (codes "print")
print_among xs =
    any_same is_print (same_bytes (codes "print")) xs
    (λ x. both_or_neither (is_print x) (same_bytes (codes "print") x)
    (same_bytes_back x (codes "print")) (same_bytes_back (codes "print") x))

prints_local : (r q : Routine) → SameHead r q
    → list_any is_print (locals q) ≡ list_any is_print (locals r)
prints_local r q head =
    print_among (locals q) ∙ same_slots r q head (slot.Local (codes "print"))
    ∙ sym (print_among (locals r))

-- p is a rewriting of a program whose slots have the types of these facts
module _ (g : Setting) (free : Option ℕ) (F : FactSet) (facts : g.slots ≡ single F)
    (p : List Routine) (alike : AlikeFrom g 0 g.program p) (own : OwnNames p) where
  -- a statement of the function q
  pub record IsFineSite (i : ℕ) (q : Routine) (s : Site) : Type 0 where
    pub named : has_name_fault p (locals q) s ≡ false
    pub counted : has_arity_fault p s ≡ false
    pub obeys : site_obeys (single F) p i s ≡ true
    pub keeps : Every (Keeps F p) (all_site_flows p i s)

  -- what is known of one of the program's
  record WasFine (i : ℕ) (r : Routine) (s : Site) : Type 0 where
    pub named : has_name_fault g.program (locals r) s ≡ false
    pub obeys : site_obeys g.slots g.program i s ≡ true
    pub keeps : Every (Keeps F g.program) (site_flows i s)

  abbrev Settled : ℕ → Routine → Type 0
  Settled i q = (y : Slot) → is_slot q y ≡ true → IsSettled free i y (F i y)

  abbrev Alone : ℕ → Routine → Type 0
  Alone i q = (x : List ℕ) → is_among (locals q) x ≡ false → F i (slot.Local x) ≡ no_types

  site_fine : (i : ℕ) (r q : Routine) → SameHead r q → Settled i q → Alone i q → (s t : Site)
      → AlikeSite g (scope_in g i) s t → WasFine i r s → IsFineSite i q t
  site_fine i r q head settled alone s t a h =
      let obeys = same_obeys g p alike i s t a ∙ h.obeys in
      let rules = subst (λ S. site_obeys S p i t ≡ true) facts obeys in
      let typed = site_typed (single F) p i t rules in
      let fine = terms_fine F p i own q free settled alone (site_terms t) typed in
      let strange : List (List ℕ) → List ℕ → Bool = λ xs x. not (is_among xs x) in
      let nodes_named = list_any (is_name_fault g.program (locals r)) (site_nodes s) in
      let changes = list_any (strange (locals r)) (site_changed s) in
      let printed = site_prints s && list_any is_print (locals r) in
      let was = or_parts changes printed (or_parts (changes || printed) nodes_named h.named).0 in
      let prints =
      (λ j. same_prints s t a j && prints_local r q head j) ∙ was.1 in
      let changed =
      (λ j. list_any (strange (locals q)) (same_changed s t a j))
      ∙ any_same (strange (locals q)) (strange (locals r)) (site_changed s)
      (λ x. ap not (same_slots r q head (slot.Local x))) ∙ was.0 in
      let nodes =
      any_of_none (is_name_fault p (locals q)) (IsFine F p i own q free settled alone)
      (λ m f. f.named) (site_nodes t) fine in
      record {
        named = λ j. changed j || prints j || nodes j;
        counted =
            any_of_none (is_arity_fault p) (IsFine F p i own q free settled alone)
            (λ m f. f.counted) (site_nodes t) fine;
        obeys = rules;
        keeps =
            every_both (Keeps F p) (site_flows i t) (flat_map (node_flows p i) (site_nodes t))
            (flows_kept g p alike i F facts s t a h.obeys h.keeps)
            (flat_every (node_flows p i) (IsFine F p i own q free settled alone) (Keeps F p)
            (λ m f. f.keeps) (site_nodes t) fine);
      }

  -- the functions from the number i on
  abbrev pub FineFrom : ℕ → List Routine → Type 0
  FineFrom i [] = ⊤
  FineFrom i (q ∷ qs) = Every (IsFineSite i q) (sites q.body) × FineFrom (i + 1) qs

  were_fine : (i : ℕ) (r : Routine) (ss : List Site)
      → Every (λ s. has_name_fault g.program (locals r) s ≡ false) ss
      → Every (λ s. not (site_obeys g.slots g.program i s) ≡ false) ss
      → Every (Keeps F g.program) (flat_map (all_site_flows g.program i) ss)
      → Every (WasFine i r) ss
  were_fine i r [] names rules flow = tt
  were_fine i r (s ∷ ss) names rules flow =
      let p' = g.program in
      let own' = site_flows i s in
      let calls = flat_map (node_flows p' i) (site_nodes s) in
      let later = flat_map (all_site_flows p' i) ss in (
        record {
          named = names.0;
          obeys = not_true (site_obeys g.slots p' i s) rules.0;
          keeps =
              every_front (Keeps F p') own' calls
              (every_front (Keeps F p') (own' ++ calls) later flow);
        },
        were_fine i r ss names.1 rules.1 (every_rest (Keeps F p') (own' ++ calls) later flow),
      )

  pub fine_from : (i : ℕ) (rs qs : List Routine) (first : List (List ℕ)) → AlikeFrom g i rs qs
      → SameHeads rs qs → SettledFrom free F i qs → AloneFrom F i qs
      → name_lines_from g.program first rs ≡ [] → broken_from g.slots g.program i rs ≡ []
      → Every (Keeps F g.program) (flows_from g.program i rs) → FineFrom i qs
  fine_from i [] [] first a heads settled alone names rules flow = tt
  fine_from i [] (q ∷ qs) first a heads settled alone names rules flow = absurd a
  fine_from i (r ∷ rs) [] first a heads settled alone names rules flow = absurd a
  fine_from i (r ∷ rs) (q ∷ qs) first a heads settled alone names rules flow =
      let p' = g.program in
      let ss = sites r.body in
      let head = header_lines first r in
      let named = lines_of (has_name_fault p' (locals r)) ss in
      let next = first ++ r.name ∷ [] in
      let later = name_lines_from p' next rs in
      let broken = lines_of (λ s. not (site_obeys g.slots p' i s)) ss in
      let more = broken_from g.slots p' (i + 1) rs in
      let here = flat_map (all_site_flows p' i) ss in
      let there' = flows_from p' (i + 1) rs in
      let was =
      were_fine i r ss
      (listed_none (has_name_fault p' (locals r)) ss
      (nil_right head named (nil_left (head ++ named) later names)))
      (listed_none (λ s. not (site_obeys g.slots p' i s)) ss (nil_left broken more rules))
      (every_front (Keeps F p') here there' flow) in (
        every_alike (WasFine i r) (IsFineSite i q)
            (site_fine i r q heads.0 settled.0 alone.0) (sites_alike a.0.body) was,
        fine_from (i + 1) rs qs next (subst (λ j. AlikeFrom g j rs qs) (sym (add-one i)) a.1)
            heads.1 settled.1 alone.1 (nil_right (head ++ named) later names)
            (nil_right broken more rules) (every_rest (Keeps F p') here there' flow),
      )

  every_map : {A : Type 0} (P Q : A → Type 0) → ((x : A) → P x → Q x) → (xs : List A) → Every P xs
      → Every Q xs
  every_map P Q step [] h = tt
  every_map P Q step (x ∷ xs) h = (step x h.0, every_map P Q step xs h.1)

  -- so nothing is listed
  pub none_broken : (i : ℕ) (qs : List Routine) → FineFrom i qs
      → broken_from (single F) p i qs ≡ []
  none_broken i [] h = refl
  none_broken i (q ∷ qs) h =
      let test : Site → Bool = λ s. not (site_obeys (single F) p i s) in
      nil_both (lines_of test (sites q.body)) (broken_from (single F) p (i + 1) qs)
      (none_listed test (sites q.body)
      (every_map (IsFineSite i q) (λ s. test s ≡ false) (λ s f. ap not f.obeys) (sites q.body) h.0))
      (none_broken (i + 1) qs h.1)

  pub none_miscounted : (i : ℕ) (qs : List Routine) → FineFrom i qs → arity_lines_from p qs ≡ []
  none_miscounted i [] h = refl
  none_miscounted i (q ∷ qs) h =
      let test = has_arity_fault p in
      nil_both (lines_of test (sites q.body)) (arity_lines_from p qs)
      (none_listed test (sites q.body)
      (every_map (IsFineSite i q) (λ s. test s ≡ false) (λ s f. f.counted) (sites q.body) h.0))
      (none_miscounted (i + 1) qs h.1)

  pub all_keep : (i : ℕ) (qs : List Routine) → FineFrom i qs
      → Every (Keeps F p) (flows_from p i qs)
  all_keep i [] h = tt
  all_keep i (q ∷ qs) h =
      every_both (Keeps F p) (flat_map (all_site_flows p i) (sites q.body))
      (flows_from p (i + 1) qs)
      (flat_every (all_site_flows p i) (IsFineSite i q) (Keeps F p) (λ s f. f.keeps)
      (sites q.body) h.0)
      (all_keep (i + 1) qs h.1)

  -- nor is a head
  same_header : (first : List (List ℕ)) (r q : Routine) → SameHead r q
      → header_lines first q ≡ header_lines first r
  same_header first r q h =
      λ j. if is_among first (h.name j) || is_taken (h.name j) || has_twice (h.params j)
      then h.line j ∷ [] else []

  pub none_named : (i : ℕ) (rs qs : List Routine) (first : List (List ℕ)) → SameHeads rs qs
      → FineFrom i qs → name_lines_from g.program first rs ≡ [] → name_lines_from p first qs ≡ []
  none_named i [] [] first heads h names = refl
  none_named i [] (q ∷ qs) first heads h names = absurd heads
  none_named i (r ∷ rs) [] first heads h names = absurd heads
  none_named i (r ∷ rs) (q ∷ qs) first heads h names =
      let p' = g.program in
      let head = header_lines first r in
      let named = lines_of (has_name_fault p' (locals r)) (sites r.body) in
      let later = name_lines_from p' (first ++ r.name ∷ []) rs in
      let test = has_name_fault p (locals q) in
      let next : List ℕ → List ℕ = λ x. name_lines_from p (first ++ x ∷ []) qs in
      let heads_none =
      same_header first r q heads.0 ∙ nil_left head named (nil_left (head ++ named) later names) in
      let body =
      none_listed test (sites q.body)
      (every_map (IsFineSite i q) (λ s. test s ≡ false) (λ s f. f.named) (sites q.body) h.0) in
      let rest =
      ap next heads.0.name
      ∙ none_named (i + 1) rs qs (first ++ r.name ∷ []) heads.1 h.1
      (nil_right (head ++ named) later names) in
      nil_both (header_lines first q ++ lines_of test (sites q.body)) (next q.name)
      (nil_both (header_lines first q) (lines_of test (sites q.body)) heads_none body) rest

-- the entry
entry_if : (b : Bool) (r q : Routine) (o u : Option Routine) (n : ℕ) → SameHead r q
    → entry_fault u n ≡ entry_fault o n
    → entry_fault (if b then Some q else u) n ≡ entry_fault (if b then Some r else o) n
entry_if true r q o u n h rest =
    λ j. if length (h.params j) == n then None else Some (Fault cause.Entry (h.line j))
entry_if false r q o u n h rest = rest

pub same_entry_fault : (rs qs : List Routine) (f : List ℕ) (n : ℕ) → SameHeads rs qs
    → entry_fault (found qs f) n ≡ entry_fault (found rs f) n
same_entry_fault [] [] f n h = refl
same_entry_fault [] (q ∷ qs) f n h = absurd h
same_entry_fault (r ∷ rs) [] f n h = absurd h
same_entry_fault (r ∷ rs) (q ∷ qs) f n h =
    (λ j. entry_fault (if same_bytes f (h.0.name j) then Some q else found qs f) n)
    ∙ entry_if (same_bytes f r.name) r q (found rs f) (found qs f) n h.0
    (same_entry_fault rs qs f n h.1)

flows_if : (b : Bool) (m : ℕ) (r q : Routine) (o u : Option Callee) (ts : List Ty) → SameHead r q
    → entry_flows u ts ≡ entry_flows o ts
    → entry_flows (if b then Some (callee m q) else u) ts
    ≡ entry_flows (if b then Some (callee m r) else o) ts
flows_if true m r q o u ts h rest = λ j. given_flows m (h.params j) ts
flows_if false m r q o u ts h rest = rest

pub same_entry_flows : (rs qs : List Routine) (f : List ℕ) (n : ℕ) (ts : List Ty)
    → SameHeads rs qs → entry_flows (called_from qs f n) ts ≡ entry_flows (called_from rs f n) ts
same_entry_flows [] [] f n ts h = refl
same_entry_flows [] (q ∷ qs) f n ts h = absurd h
same_entry_flows (r ∷ rs) [] f n ts h = absurd h
same_entry_flows (r ∷ rs) (q ∷ qs) f n ts h =
    (λ j. entry_flows
    (if same_bytes f (h.0.name j) then Some (callee n q) else called_from qs f (n + 1)) ts)
    ∙ flows_if (same_bytes f r.name) n r q (called_from rs f (n + 1)) (called_from qs f (n + 1)) ts
    h.0 (same_entry_flows rs qs f (n + 1) ts h.1)

-- its number
number_if : (b : Bool) (n : ℕ) (r q : Routine) (o u : Option Callee) → number_of u ≡ number_of o
    → number_of (if b then Some (callee n q) else u)
    ≡ number_of (if b then Some (callee n r) else o)
number_if true n r q o u rest = refl
number_if false n r q o u rest = rest

same_number : (rs qs : List Routine) (f : List ℕ) (n : ℕ) → SameHeads rs qs
    → number_of (called_from qs f n) ≡ number_of (called_from rs f n)
same_number [] [] f n h = refl
same_number [] (q ∷ qs) f n h = absurd h
same_number (r ∷ rs) [] f n h = absurd h
same_number (r ∷ rs) (q ∷ qs) f n h =
    (λ j. number_of
    (if same_bytes f (h.0.name j) then Some (callee n q) else called_from qs f (n + 1)))
    ∙ number_if (same_bytes f r.name) n r q (called_from rs f (n + 1)) (called_from qs f (n + 1))
    (same_number rs qs f (n + 1) h.1)

-- and whether its result may have no type
pub same_free : (s p : List Routine) (e : Entry) → SameHeads s p
    → free_function p e ≡ free_function s e
same_free s p e h = λ j. if e.free_result then same_number s p e.name 0 h j else None

given_keep : (F : FactSet) (s p : List Routine) (j : ℕ) (xs : List (List ℕ)) (ts : List Ty)
    → Every (Keeps F s) (given_flows j xs ts) → Every (Keeps F p) (given_flows j xs ts)
given_keep F s p j [] ts h = tt
given_keep F s p j (x ∷ xs) [] h = tt
given_keep F s p j (x ∷ xs) (t ∷ ts) h = (h.0, given_keep F s p j xs ts h.1)

pub entry_keeps : (F : FactSet) (s p : List Routine) (o : Option Callee) (ts : List Ty)
    → Every (Keeps F s) (entry_flows o ts) → Every (Keeps F p) (entry_flows o ts)
entry_keeps F s p None ts h = tt
entry_keeps F s p (Some c) ts h = given_keep F s p c.number c.routine.params ts h
