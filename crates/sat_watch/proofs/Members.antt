-- What holds of each member of a list, and of literals among others.
use Rattle.std.proofs.Common.{◌≡◌, ℕ, zero, suc, ◌+◌, ◌<◌, ◌≤◌, take, true, List, [], ◌∷◌, ◌++◌, All, length, slice_get, Some, refl, sym, ap, ◌∙◌, subst, inl, inr, ◌==◌, eq-eqb, eqb-true, arith}
use Rattle.std.specs.List.{list_any}
use Rattle.std.proofs.lemmas.Bool.{cases_Bool}
use Rattle.std.proofs.lemmas.List.{take_more}
use Rattle.std.proofs.lemmas.Option.{get_or_from_slice_get, slice_get_within}
use Rattle.std.proofs.lemmas.List.Elements.{All-nil, All-cons, All-head, All-tail}
use Rattle.clause_base.specs.declared.lit.Lit.{Lit}
use Rattle.clause_base.specs.declared.clause.Clause.{Clause}
use Rattle.clause_base.specs.Literals.{IsCovered, IsGreatest}
use Rattle.sat_watch.specs.Trails.{is_among}
use Rattle.sat_watch.proofs.Literals.{among_cases, among_here, among_there}

-- what holds of each literal that is among them
pub all_lits : (P : Lit → Type 0) (ls : List Lit) → ((l : Lit) → is_among l ls ≡ true → P l) → All P ls
all_lits P [] h = All-nil P
all_lits P (l ∷ ls) h = All-cons P l ls (h l (among_here l ls)) (all_lits P ls (λ m w. h m (among_there m l ls w)))

pub lit_of : (P : Lit → Type 0) (ls : List Lit) (l : Lit) → All P ls → is_among l ls ≡ true → P l
lit_of P [] l all h = cc
lit_of P (k ∷ ks) l all h = elim (among_cases l k ks h) [
  | inl same ↦ subst P (sym same) (All-head P k ks all)
  | inr later ↦ lit_of P ks l (All-tail P k ks all) later
]

pub clause_of : (P : Clause → Type 0) (cs : List Clause) (k : ℕ) (c : Clause) → All P cs → slice_get cs k ≡ Some c → P c
clause_of P [] k c all e = cc
clause_of P (d ∷ ds) zero c all e = let same : d ≡ c = cc in subst P same (All-head P d ds all)
clause_of P (d ∷ ds) (suc k) c all e = clause_of P ds k c (All-tail P d ds all) e

pub all_clauses : (P : Clause → Type 0) (cs : List Clause) → ((k : ℕ) (c : Clause) → slice_get cs k ≡ Some c → P c) → All P cs
all_clauses P [] h = All-nil P
all_clauses P (c ∷ cs) h = All-cons P c cs (h zero c refl) (all_clauses P cs (λ k d e. h (suc k) d e))

pub var_among : (ls : List Lit) (m : Lit) → is_among m ls ≡ true → list_any (λ k. k.var == m.var) ls ≡ true
var_among [] m h = h
var_among (l ∷ ls) m h = elim (among_cases m l ls h) [
  | inl same ↦ let here : (l.var == m.var) ≡ true = eq-eqb l.var m.var (ap (λ (k : Lit). k.var) (sym same)) in rw here refl
  | inr later ↦ let rest = var_among ls m later in elim (cases_Bool (l.var == m.var)) [ inl here ↦ rw here refl | inr other ↦ rw other rest ]
]

pub of_var : (ls : List Lit) (v : ℕ) → list_any (λ k. k.var == v) ls ≡ true → (m : Lit) × (is_among m ls ≡ true) × (m.var ≡ v)
of_var [] v h = cc
of_var (l ∷ ls) v h = elim (cases_Bool (l.var == v)) [
  | inl here ↦ (l, among_here l ls, eqb-true l.var v here)
  | inr other ↦ let later : list_any (λ k. k.var == v) ls ≡ true = rw other at h in let found = of_var ls v later in (found.0, among_there found.0 l ls found.1, found.2)
]

-- the greatest variable is in range
pub greatest_within : (vars v : ℕ) (lits : List Lit) → IsCovered vars lits → IsGreatest v lits → v ≤ vars
greatest_within vars v lits covered great = elim great.stands [
  | inl none ↦ omega arith
  | inr stands ↦
      let found = of_var lits v stands in
      let is : found.0.var ≡ v = found.2 in
      let range = lit_of (λ l. (0 < l.var) × (l.var ≤ vars)) lits found.0 covered.each found.1 in
      let most : found.0.var ≤ vars = range.1 in
      omega arith
]

pub take_push : (xs : List Clause) (k : ℕ) (c : Clause) → slice_get xs k ≡ Some c → take (k + 1) xs ≡ take k xs ++ c ∷ []
take_push xs k c e = take_more xs k c (slice_get_within xs k c e) ∙ ap (λ (d : Clause). take k xs ++ d ∷ []) (get_or_from_slice_get xs k c c e)

pub front_at : (xs ys : List Clause) (k : ℕ) (c : Clause) → k < length xs → slice_get (xs ++ ys) k ≡ Some c → slice_get xs k ≡ Some c
front_at [] ys k c within e = absurd (omega arith)
front_at (x ∷ xs) ys zero c within e = e
front_at (x ∷ xs) ys (suc k) c within e = front_at xs ys k c (omega arith) e

pub get_front : (xs ys : List Clause) (k : ℕ) (c : Clause) → slice_get xs k ≡ Some c → slice_get (xs ++ ys) k ≡ Some c
get_front [] ys k c e = cc
get_front (x ∷ xs) ys zero c e = e
get_front (x ∷ xs) ys (suc k) c e = get_front xs ys k c e

pub get_last : (xs : List Clause) (x : Clause) → slice_get (xs ++ x ∷ []) (length xs) ≡ Some x
get_last [] x = refl
get_last (y ∷ ys) x = get_last ys x
