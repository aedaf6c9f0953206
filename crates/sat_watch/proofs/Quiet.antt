-- What gives a variable its value, and what doesn't.
use Rattle.std.proofs.Common.{◌≡◌, ℕ, ◌<◌, ◌≤◌, true, false, not, ◌||◌, ◌==◌, List, [], ◌∷◌, length, refl, sym, ap, ◌∙◌, subst, inl, inr, ◌⊎◌, arith}
use Rattle.std.specs.List.{list_any}
use Rattle.std.proofs.lemmas.Bool.{and_parts, cases_Bool, cases_lt, not-true}
use Rattle.clause_base.specs.declared.lit.Lit.{Lit}
use Rattle.clause_base.specs.Literals.{IsGreatest, has_no_variable_twice, opposite}
use Rattle.clause_base.specs.Follows.{is_false, open_literals}
use Rattle.sat_watch.specs.Trails.{IsValued, IsWatched, is_among}
use Rattle.sat_watch.specs.Searching.{IsUnitAt}
use Rattle.sat_watch.proofs.Literals.{among_cases, among_here, among_open, among_there}
use Rattle.sat_watch.proofs.Members.{lit_of, of_var, var_among}
use Rattle.sat_watch.proofs.Deciding.{valued_lit}

pub greatest_of : (v : ℕ) (known lits : List Lit) → IsUnitAt v known lits → IsGreatest v lits
greatest_of v known lits unit = record { most = unit.greatest; stands = inr unit.stands }

-- the literal of a variable without a value is open
open_of : (v : ℕ) (known lits : List Lit) → (IsValued known v → ⊥) → IsUnitAt v known lits → (m : Lit) × (is_among m (open_literals known lits) ≡ true) × (m.var ≡ v)
open_of v known lits unset unit =
    let found = of_var lits v unit.stands in
    let m : Lit = found.0 in
    let is : m.var ≡ v = found.2 in
    elim (cases_Bool (is_false known m)) [
      | inl down ↦ absurd (unset (subst (IsValued known) is (valued_lit known (opposite m) down)))
      | inr up ↦ (m, among_open known lits m found.1 up, is)
    ]

pub quiet_closed : (v : ℕ) (known lits : List Lit) → (IsValued known v → ⊥) → open_literals known lits ≡ [] → IsUnitAt v known lits → ⊥
quiet_closed v known lits unset closed unit =
    let found = open_of v known lits unset unit in
    let clash : is_among found.0 [] ≡ true = subst (λ (ls : List Lit). is_among found.0 ls ≡ true) closed found.1 in
    cc

pub quiet_one : (v : ℕ) (known lits : List Lit) (l : Lit) → (IsValued known v → ⊥) → open_literals known lits ≡ l ∷ [] → (l.var ≡ v → ⊥) → IsUnitAt v known lits → ⊥
quiet_one v known lits l unset one apart unit =
    let found = open_of v known lits unset unit in
    elim (among_cases found.0 l [] (subst (λ (ls : List Lit). is_among found.0 ls ≡ true) one found.1)) [
      | inl same ↦ apart (ap (λ (k : Lit). k.var) (sym same) ∙ found.2)
      | inr later ↦ cc
    ]

-- where all literals but that of one variable are false at most one is open
none_open : (known ls : List Lit) → ((m : Lit) → is_among m ls ≡ true → is_false known m ≡ true) → open_literals known ls ≡ []
none_open known [] h = refl
none_open known (l ∷ ls) h =
    let down = h l (among_here l ls) in
    let rest = none_open known ls (λ m w. h m (among_there m l ls w)) in
    rw (down, rest) refl

one_open : (known lits : List Lit) (v : ℕ) → has_no_variable_twice lits ≡ true → ((m : Lit) → is_among m lits ≡ true → (is_false known m ≡ true) ⊎ (m.var ≡ v)) → length (open_literals known lits) ≤ 1
one_open known [] v distinct h = omega arith
one_open known (l ∷ ls) v distinct h =
    let parts = and_parts (not (list_any (λ k. k.var == l.var) ls)) (has_no_variable_twice ls) distinct in
    let none : list_any (λ k. k.var == l.var) ls ≡ false = not-true (list_any (λ k. k.var == l.var) ls) parts.0 in
    let rest : length (open_literals known ls) ≤ 1 = one_open known ls v parts.1 (λ m w. h m (among_there m l ls w)) in
    elim (cases_Bool (is_false known l)) [
      | inl down ↦ rw down rest
      | inr up ↦
          let is : l.var ≡ v = elim (h l (among_here l ls)) [ inl clash ↦ cc | inr same ↦ same ] in
          let empty : open_literals known ls ≡ [] = none_open known ls (λ m w. elim (h m (among_there m l ls w)) [
            | inl down ↦ down
            | inr same ↦
                let var : m.var ≡ l.var = same ∙ sym is in
                let clash : list_any (λ k. k.var == l.var) ls ≡ true = subst (λ x. list_any (λ k. k.var == x) ls ≡ true) var (var_among ls m w) in
                cc
          ]) in
          rw (up, empty) (omega arith)
    ]

pub some_among : (known lits : List Lit) → list_any (λ l. is_among l known) lits ≡ true → (l : Lit) × (is_among l lits ≡ true) × (is_among l known ≡ true)
some_among known [] h = cc
some_among known (l ∷ ls) h = elim (cases_Bool (is_among l known)) [
  | inl here ↦ (l, among_here l ls, here)
  | inr other ↦
      let later : list_any (λ l. is_among l known) ls ≡ true = sym (ap (λ b. b || list_any (λ l. is_among l known) ls) other) ∙ h in
      let found = some_among known ls later in
      (found.0, among_there found.0 l ls found.1, found.2)
]

pub quiet_other : (v : ℕ) (known lits : List Lit) → ((l : Lit) → is_among l known ≡ true → is_false known l ≡ false) → (IsValued known v → ⊥) → has_no_variable_twice lits ≡ true
    → IsWatched known lits → IsUnitAt v known lits → ⊥
quiet_other v known lits once unset distinct watched unit =
    let cases : (m : Lit) → is_among m lits ≡ true → (is_false known m ≡ true) ⊎ (m.var ≡ v) = λ m w.
    let most : m.var ≤ v = lit_of (λ l. l.var ≤ v) lits m unit.greatest w in
    elim (cases_lt m.var v) [
      | inl less ↦ inl (lit_of (λ l. l.var < v → is_false known l ≡ true) lits m unit.others w less)
      | inr more ↦ inr (omega arith)
    ] in
    elim watched [
      | inl some ↦
          let found = some_among known lits some in
          elim (cases found.0 found.1) [
            | inl down ↦ let up = once found.0 found.2 in cc
            | inr same ↦ unset (subst (IsValued known) same (valued_lit known found.0 found.2))
          ]
      | inr two ↦ let one : length (open_literals known lits) ≤ 1 = one_open known lits v distinct cases in absurd (omega arith)
    ]
