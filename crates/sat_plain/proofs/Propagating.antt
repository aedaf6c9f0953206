-- One step of propagation: a clause that is looked at, a literal that is handled, a decision.
use Rattle.std.proofs.Common.{◌≡◌, ℕ, ◌<◌, ◌≤◌, ◌+◌, ◌*◌, Bool, true, false, ◌||◌, List, [], ◌∷◌, length, slice_get, Some, None, Option, refl, sym, ap, ◌∙◌, subst, inl, inr, arith, get_or}
use Rattle.std.specs.List.{list_any}
use Rattle.std.proofs.lemmas.Bool.{cases_lt, cases_eq, cases_Bool}
use Rattle.std.proofs.lemmas.List.{length-map}
use Rattle.std.proofs.lemmas.Option.{slice_get_within, get_or_from_slice_get}
use Rattle.clause_base.specs.declared.lit.Lit.{Lit}
use Rattle.clause_base.specs.declared.clause.Clause.{Clause}
use Rattle.std.specs.Prelude.{if◌then◌else◌}
use Rattle.clause_base.specs.Formulas.{in_range}
use Rattle.clause_base.specs.Literals.{opposite}
use Rattle.sat_plain.proofs.Ordered.{range_parts}
use Rattle.clause_base.specs.Follows.{is_false, literals_at, open_literals}
use Rattle.sat_plain.specs.declared.trail.Entry.{Entry}
use Rattle.sat_plain.specs.Places.{Index, IsIndexOf, list_of, start_of}
use Rattle.sat_plain.specs.Trails.{IsValued, IsWatched, is_among, literals_of, oldest}
use Rattle.sat_plain.specs.Searching.{AllWatched, Grows, IsSeen, State}
use Rattle.sat_plain.proofs.Growth.{grows_clauses, grows_more, grows_oldest, valued_more}
use Rattle.sat_plain.proofs.Literals.{among_cases, among_here, among_there, literals_is}
use Rattle.sat_plain.proofs.Watching.{all_more, among_oldest, oldest_added, oldest_all, settled_more, watched_fewer, watched_more}

open_among : (known lits : List Lit) (l : Lit) → open_literals known lits ≡ l ∷ [] → is_among l lits ≡ true
open_among known [] l h = cc
open_among known (k ∷ ks) l h = elim (cases_Bool (is_false known k)) [
  | inl down ↦ among_there l k ks (open_among known ks l (rw down at h))
  | inr up ↦
      let here : k ∷ open_literals known ks ≡ l ∷ [] = rw up at h in
      let same : k ≡ l = cc in
      ap (λ (x : Lit). is_among l (x ∷ ks)) same ∙ among_here l ks
]

or_right : (a b : Bool) → b ≡ true → (a || b) ≡ true
or_right true b h = refl
or_right false b h = h

some_of : (known lits : List Lit) (l : Lit) → is_among l lits ≡ true → is_among l known ≡ true → list_any (λ x. is_among x known) lits ≡ true
some_of known [] l here up = cc
some_of known (k ∷ ks) l here up = elim (among_cases l k ks here) [
  | inl same ↦ let is : is_among k known ≡ true = ap (λ (x : Lit). is_among x known) (sym same) ∙ up in rw is refl
  | inr later ↦ or_right (is_among k known) (list_any (λ x. is_among x known) ks) (some_of known ks l later up)
]

-- a unit clause has a true literal once that literal is
pub watched_implied : (s t : State) (k : ℕ) (l : Lit) (reason : Option ℕ) → open_literals (literals_of s.entries) (literals_at s.clauses k) ≡ l ∷ []
    → t ≡ record s { entries = (record { lit = l; reason = reason }) ∷ s.entries } → IsWatched (literals_of t.entries) (literals_of t.entries) (literals_at t.clauses k)
watched_implied s t k l reason unit is =
    let known : List Lit = literals_of s.entries in
    let here : list_any (λ x. is_among x (l ∷ known)) (literals_at s.clauses k) ≡ true = some_of (l ∷ known) (literals_at s.clauses k) l (open_among known (literals_at s.clauses k) l unit) (among_here l known) in
    inl (ap (λ (u : State). list_any (λ x. is_among x (literals_of u.entries)) (literals_at u.clauses k)) is ∙ here)

-- one clause more was looked at
pub seen_all : (s t : State) (place : ℕ) → Grows s t → ((k : ℕ) (c : Clause) → slice_get s.clauses k ≡ Some c → k < place → IsWatched (literals_of s.entries) [] c.lits)
    → IsWatched (literals_of t.entries) (literals_of t.entries) (literals_at t.clauses place)
    → (k : ℕ) (c : Clause) → slice_get t.clauses k ≡ Some c → k < place + 1 → IsWatched (literals_of t.entries) [] c.lits
seen_all s t place grows seen watched k c e h =
    elim (cases_lt k place) [
      | inl below ↦ watched_more (literals_of s.entries) (literals_of t.entries) [] c.lits (λ l up. grows_more s t l grows up)
          (seen k c (subst (λ (cs : List Clause). slice_get cs k ≡ Some c) (grows_clauses s t grows) e) below)
      | inr above ↦
          let is : place ≡ k = omega arith in
          let lits : literals_at t.clauses place ≡ c.lits = ap (literals_at t.clauses) is ∙ literals_is t.clauses k c e in
          watched_fewer (literals_of t.entries) [] (literals_of t.entries) c.lits (λ l up. cc) (subst (IsWatched (literals_of t.entries) (literals_of t.entries)) lits watched)
    ]

-- one clause of a list more was looked at
pub seen_list : (start s t : State) (from i place : ℕ) → Grows start s → Grows s t
    → ((at k : ℕ) → from ≤ at → at < i → slice_get start.index.places at ≡ Some k → IsWatched (literals_of s.entries) (literals_of start.entries) (literals_at start.clauses k))
    → slice_get start.index.places i ≡ Some place → IsWatched (literals_of t.entries) (literals_of t.entries) (literals_at t.clauses place)
    → (at k : ℕ) → from ≤ at → at < i + 1 → slice_get start.index.places at ≡ Some k → IsWatched (literals_of t.entries) (literals_of start.entries) (literals_at start.clauses k)
seen_list start s t from i place first grows seen here watched at k low high e =
    elim (cases_lt at i) [
      | inl below ↦ watched_more (literals_of s.entries) (literals_of t.entries) (literals_of start.entries) (literals_at start.clauses k) (λ l up. grows_more s t l grows up) (seen at k low below e)
      | inr above ↦
          let is : at ≡ i = omega arith in
          let both : slice_get start.index.places i ≡ Some k = ap (slice_get start.index.places) (sym is) ∙ e in
          let same : place ≡ k = cc in
          let clauses : t.clauses ≡ start.clauses = grows_clauses s t grows ∙ grows_clauses start s first in
          let lits : literals_at t.clauses place ≡ literals_at start.clauses k = ap (λ (cs : List Clause). literals_at cs place) clauses ∙ ap (literals_at start.clauses) same in
          watched_fewer (literals_of t.entries) (literals_of start.entries) (literals_of t.entries) (literals_at start.clauses k)
          (λ l up. grows_more s t l grows (grows_more start s l first up)) (subst (IsWatched (literals_of t.entries) (literals_of t.entries)) lits watched)
    ]

-- all clauses of a literal were looked at
pub seen_each : (start s : State) (l : Lit) (first i : ℕ) → Grows start s → IsIndexOf start.vars start.clauses start.index → first ≡ start_of start.index (list_of l) → start_of start.index (list_of l + 1) ≤ i
    → ((at k : ℕ) → start_of start.index (list_of l) ≤ at → at < i → slice_get start.index.places at ≡ Some k → IsWatched (literals_of s.entries) (literals_of start.entries) (literals_at start.clauses k))
    → IsSeen start s l
seen_each start s l first i grows index from to seen = record {
  each = λ k c e here.
      let was : slice_get start.clauses k ≡ Some c = subst (λ (cs : List Clause). slice_get cs k ≡ Some c) (grows_clauses start s grows) e in
      let stands = index.holds k c l was here in
      let after : start_of start.index (list_of l) ≤ stands.at = stands.after in
      let before : stands.at < start_of start.index (list_of l + 1) = stands.before in
      subst (IsWatched (literals_of s.entries) (literals_of start.entries)) (literals_is start.clauses k c was) (seen stands.at k after (omega arith) stands.is);
}

-- one literal more is handled
pub settled_next : (s t : State) (n : ℕ) (l m : Lit) → Grows s t → n < length s.entries → oldest (n + 1) (literals_of s.entries) ≡ l ∷ oldest n (literals_of s.entries) → m ≡ opposite l → IsSeen s t m
    → AllWatched s.clauses (literals_of s.entries) (oldest n (literals_of s.entries)) → AllWatched t.clauses (literals_of t.entries) (oldest (n + 1) (literals_of t.entries))
settled_next s t n l m grows within next is seen settled =
    let old : List Lit = literals_of s.entries in
    let new : List Lit = literals_of t.entries in
    let clauses : t.clauses ≡ s.clauses = grows_clauses s t grows in
    let all : AllWatched s.clauses new (l ∷ oldest n old) = settled_more s.clauses old new old (oldest n old) l (λ x up. grows_more s t x grows up)
    (λ x up. among_oldest (n + 1) old x (subst (λ (ls : List Lit). is_among x ls ≡ true) (sym next) up)) settled
    (λ k c e here. seen.each k c (subst (λ (cs : List Clause). slice_get cs k ≡ Some c) (sym clauses) e) (subst (λ (x : Lit). is_among x c.lits ≡ true) (sym is) here)) in
    let stays : oldest (n + 1) new ≡ l ∷ oldest n old = grows_oldest s t (n + 1) grows (omega arith) ∙ next in
    subst (λ (cs : List Clause). AllWatched cs new (oldest (n + 1) new)) (sym clauses) (subst (AllWatched s.clauses new) (sym stays) all)

-- a decision is the next literal to be handled
pub settled_decided : (s t : State) (place : ℕ) (l : Lit) → t ≡ record s { entries = (record { lit = l; reason = None }) ∷ s.entries } → place ≡ length s.entries
    → AllWatched s.clauses (literals_of s.entries) (literals_of s.entries) → AllWatched t.clauses (literals_of t.entries) (oldest place (literals_of t.entries))
settled_decided s t place l is at calm =
    let known : List Lit = literals_of s.entries in
    let f : Entry → Lit = λ e. e.lit in
    let count : place ≡ length known = at ∙ sym (length-map s.entries f) in
    let handled : oldest place (l ∷ known) ≡ known = ap (λ n. oldest n (l ∷ known)) count ∙ oldest_added (length known) (l ∷ []) known (omega arith) ∙ oldest_all known in
    subst (λ (u : State). AllWatched u.clauses (literals_of u.entries) (oldest place (literals_of u.entries))) (sym is)
    (subst (AllWatched s.clauses (l ∷ known)) (sym handled) (all_more s.clauses known (l ∷ known) known (λ m h. among_there m l known h) calm))

-- the variables up to a new decision have values
pub valued_decided : (s t u : State) (above : ℕ) → t ≡ record s { entries = (record { lit = record { var = above + 1; positive = false }; reason = None }) ∷ s.entries }
    → Grows t u → ((v : ℕ) → 0 < v → v ≤ above → IsValued (literals_of s.entries) v) → (v : ℕ) → 0 < v → v ≤ above + 1 → IsValued (literals_of u.entries) v
valued_decided s t u above is grows valued v some within =
    let l : Lit = record { var = above + 1; positive = false } in
    let e : Entry = record { lit = l; reason = None } in
    elim (cases_eq v (above + 1)) [
      | inl same ↦
          let here : is_among l (literals_of t.entries) ≡ true = ap (λ (x : State). is_among l (literals_of x.entries)) is ∙ among_here l (literals_of s.entries) in
          rw same (inr (grows_more t u l grows here))
      | inr other ↦ valued_more t u v grows (valued_more s t v (record { added = e ∷ []; is = is }) (valued v some (omega arith)))
    ]

pub place_within : (xs : List ℕ) (bound i x : ℕ) → ((k d : ℕ) → k < length xs → get_or xs k d < bound) → slice_get xs i ≡ Some x → x < bound
place_within xs bound i x all e = subst (λ n. n < bound) (get_or_from_slice_get xs i x 0 e) (all i 0 (slice_get_within xs i x e))

sign_small : (b : Bool) → (if b then 1 else 0) ≤ 1
sign_small true = omega arith
sign_small false = omega arith

pub list_fits : (vars : ℕ) (l : Lit) → in_range vars l ≡ true → list_of l + 1 < 2 * vars + 1
list_fits vars l range =
    let bounds = range_parts vars l range in
    let some : 0 < l.var = bounds.0 in
    let most : l.var ≤ vars = bounds.1 in
    let sign : (if l.positive then 1 else 0) ≤ 1 = sign_small l.positive in
    omega arith

-- what stands before the end of a literal's list is one of the places
pub list_within : (vars : ℕ) (clauses : List Clause) (index : Index) (l : Lit) (i : ℕ) → IsIndexOf vars clauses index → in_range vars l ≡ true → i < start_of index (list_of l + 1) → i < length index.places
list_within vars clauses index l i is range before =
    let fits : list_of l + 1 < 2 * vars + 1 = list_fits vars l range in
    let many : length index.starts ≡ 2 * vars + 1 = is.many in
    let end' : start_of index (list_of l + 1) ≤ length index.places = is.ends (list_of l + 1) 0 (omega arith) in
    omega arith
