-- Clauses by place, and how searches grow.
use Rattle.std.proofs.Common.{◌≡◌, ℕ, zero, suc, ◌<◌, ◌≤◌, ◌-◌, ◌+◌, true, false, List, [], ◌∷◌, ◌++◌, length, arith, refl, sym, ap, ◌∙◌, append_assoc, length-append, subst, inl, inr}
use Rattle.std.proofs.lemmas.List.{length-map}
use Rattle.std.specs.List.{list_all}
use Rattle.std.proofs.lemmas.Bool.{and_parts, cases_Bool}
use Rattle.clause_base.specs.declared.lit.Lit.{Lit}
use Rattle.clause_base.specs.declared.clause.Clause.{Clause}
use Rattle.clause_base.specs.Formulas.{in_range}
use Rattle.clause_base.specs.Follows.{is_false, literals_at, open_literals}
use Rattle.sat_plain.specs.declared.trail.Entry.{Entry}
use Rattle.sat_plain.specs.Trails.{IsConflict, IsValued, is_among, literals_of, oldest}
use Rattle.sat_plain.specs.Searching.{Grows, State}
use Rattle.sat_plain.proofs.Watching.{among_added, literals_added, oldest_added}

pub literals_front : (clauses logged : List Clause) (k : ℕ) → k < length clauses → literals_at (clauses ++ logged) k ≡ literals_at clauses k
literals_front [] logged k within = absurd (omega arith)
literals_front (c ∷ cs) logged zero within = refl
literals_front (c ∷ cs) logged (suc k) within = literals_front cs logged k (omega arith)

-- the one open literal of a clause in range is in range
pub one_in_range : (vars : ℕ) (known c : List Lit) (l : Lit) → list_all (in_range vars) c ≡ true → open_literals known c ≡ l ∷ [] → in_range vars l ≡ true
one_in_range vars known [] l h one = cc
one_in_range vars known (k ∷ ks) l h one =
    let parts = and_parts (in_range vars k) (list_all (in_range vars) ks) h in
    elim (cases_Bool (is_false known k)) [
      | inl down ↦ one_in_range vars known ks l parts.1 (rw down at one)
      | inr up ↦
          let here : k ∷ open_literals known ks ≡ l ∷ [] = rw up at one in
          let same : k ≡ l = cc in
          subst (λ (m : Lit). in_range vars m ≡ true) same parts.0
    ]

pub conflict_at : (clauses : List Clause) (entries : List Entry) (k : ℕ) → k < length clauses → open_literals (literals_of entries) (literals_at clauses k) ≡ [] → IsConflict clauses entries (k + 1)
conflict_at clauses entries k within closed =
    let back : k + 1 - 1 ≡ k = omega arith in
    record { some = omega arith; within = omega arith; closed = ap (λ n. open_literals (literals_of entries) (literals_at clauses n)) back ∙ closed }

pub grows_same : (a : State) → Grows a a
grows_same a = record { added = []; is = refl }

pub grows_on : (a b c : State) → Grows a b → Grows b c → Grows a c
grows_on a b c first second = record {
  added = second.added ++ first.added;
  is = second.is ∙ ap (λ (s : State). record s { entries = second.added ++ s.entries }) first.is ∙ ap (λ (es : List Entry). record a { entries = es }) (sym (append_assoc second.added first.added a.entries));
}

pub grows_one : (a b : State) (e : Entry) → b ≡ record a { entries = e ∷ a.entries } → Grows a b
grows_one a b e is = record { added = e ∷ []; is = is }

pub grows_more : (a b : State) (l : Lit) → Grows a b → is_among l (literals_of a.entries) ≡ true → is_among l (literals_of b.entries) ≡ true
grows_more a b l grows h = ap (λ (s : State). is_among l (literals_of s.entries)) grows.is ∙ among_added grows.added a.entries l h

pub grows_vars : (a b : State) → Grows a b → b.vars ≡ a.vars
grows_vars a b grows = ap (λ (s : State). s.vars) grows.is

pub grows_clauses : (a b : State) → Grows a b → b.clauses ≡ a.clauses
grows_clauses a b grows = ap (λ (s : State). s.clauses) grows.is

pub grows_index : (a b : State) → Grows a b → b.index ≡ a.index
grows_index a b grows = ap (λ (s : State). s.index) grows.is

pub grows_steps : (a b : State) → Grows a b → b.steps ≡ a.steps
grows_steps a b grows = ap (λ (s : State). s.steps) grows.is

pub grows_longer : (a b : State) → Grows a b → length a.entries ≤ length b.entries
grows_longer a b grows =
    let is : length b.entries ≡ length (grows.added ++ a.entries) = ap (λ (s : State). length s.entries) grows.is in
    let long : length (grows.added ++ a.entries) ≡ length grows.added + length a.entries = length-append grows.added a.entries in
    omega arith

pub grows_oldest : (a b : State) (n : ℕ) → Grows a b → n ≤ length a.entries → oldest n (literals_of b.entries) ≡ oldest n (literals_of a.entries)
grows_oldest a b n grows h =
    let f : Entry → Lit = λ e. e.lit in
    let long : length (literals_of a.entries) ≡ length a.entries = length-map a.entries f in
    ap (λ (s : State). oldest n (literals_of s.entries)) grows.is ∙ ap (oldest n) (literals_added grows.added a.entries) ∙ oldest_added n (literals_of grows.added) (literals_of a.entries) (omega arith)

pub valued_more : (a b : State) (v : ℕ) → Grows a b → IsValued (literals_of a.entries) v → IsValued (literals_of b.entries) v
valued_more a b v grows h = elim h [ inl up ↦ inl (grows_more a b (record { var = v; positive = true }) grows up) | inr down ↦ inr (grows_more a b (record { var = v; positive = false }) grows down) ]
