-- Lists that are filled from their ends.
use Rattle.std.proofs.Common.{◌≡◌, ℕ, zero, suc, ◌<◌, ◌≤◌, ◌+◌, ◌-◌, ◌*◌, true, List, [], ◌∷◌, ◌++◌, take, drop, get_or, set, length, slice_get, Some, refl, sym, ap, ◌∙◌, subst, inl, inr, ◌⊎◌, arith, get_or-set_same, get_or-set_other, length-set, All}
use Rattle.std.proofs.lemmas.Bool.{cases_eq, cases_lt}
use Rattle.std.proofs.lemmas.List.{drop_more, take_all, take_more}
use Rattle.std.proofs.lemmas.List.Elements.{All-set}
use Rattle.std.proofs.lemmas.Option.{get_or_from_slice_get, slice_get_within}
use Rattle.clause_base.specs.declared.lit.Lit.{Lit}
use Rattle.clause_base.specs.declared.clause.Clause.{Clause}
use Rattle.clause_base.specs.Formulas.{clauses_in_range}
use Rattle.sat_plain.specs.Trails.{is_among}
use Rattle.sat_plain.specs.Places.{AreTotals, IsEmpty, IsIndexOf, count_of, list_of, sum_of, total_of}
use Rattle.sat_plain.proofs.Covered.{among_in_range, clause_in_range}
use Rattle.sat_plain.proofs.Literals.{among_cases, among_here, among_there}
use Rattle.sat_plain.proofs.Propagating.{list_fits}
use Rattle.sat_plain.proofs.Counting.{count_mine, count_other, sum_more, sum_up_to}

-- a place is in the list of a number, behind where that list has come to
pub record IsPlaced (counts starts places : List ℕ) (h k : ℕ) : Type 0 where
  pub fits : h < length starts
  pub at : ℕ
  pub low : get_or starts h 0 ≤ at
  pub high : at < sum_of (h + 1) counts
  pub is : get_or places at 0 ≡ k

-- the clauses up to one and some literals of that one are placed; the others are still to be
pub record IsFilling (clauses : List Clause) (starts places : List ℕ) (upto : ℕ) (done todo : List Lit) (rest : List Clause) : Type 0 where
  pub counts : List ℕ
  pub many : length counts ≡ length starts
  pub room : length places ≡ sum_of (length counts) counts
  pub lows : (h : ℕ) → h < length starts → get_or starts h 0 ≡ sum_of h counts + (count_of h todo + total_of h rest)
  pub highs : (h : ℕ) → h < length starts → get_or starts h 0 ≤ sum_of (h + 1) counts
  pub within : All (λ k. k < length clauses) places
  pub earlier : (k : ℕ) (c : Clause) (l : Lit) → k < upto → slice_get clauses k ≡ Some c → is_among l c.lits ≡ true → IsPlaced counts starts places (list_of l) k
  pub current : (l : Lit) → is_among l done ≡ true → IsPlaced counts starts places (list_of l) upto

pub filling_start : (clauses : List Clause) (sums places : List ℕ) → IsEmpty clauses sums places → IsFilling clauses sums places 0 [] [] clauses
filling_start clauses sums places empty =
    let counts : List ℕ = empty.counts in
    let many : length sums ≡ length counts = empty.are.many in
    let high : (h : ℕ) → h < length sums → get_or sums h 0 ≡ sum_of (h + 1) counts = λ h within. empty.are.each h (omega arith) in
    record {
      counts = counts;
      many = sym many;
      room = empty.room;
      lows = λ h within.
          let more : sum_of (h + 1) counts ≡ sum_of h counts + get_or counts h 0 = sum_more counts h (omega arith) in
          let mine : get_or counts h 0 ≡ total_of h clauses = empty.totals.each h (omega arith) in
          let at : get_or sums h 0 ≡ sum_of (h + 1) counts = high h within in
          omega arith;
      highs = λ h within. let at : get_or sums h 0 ≡ sum_of (h + 1) counts = high h within in omega arith;
      within = empty.within;
      earlier = λ k c l below e here. absurd (omega arith);
      current = λ l here. cc;
    }

-- the literal's list has a free place
pub free_place : (clauses : List Clause) (starts places : List ℕ) (upto : ℕ) (done todo : List Lit) (rest : List Clause) (l : Lit) → list_of l < length starts
    → IsFilling clauses starts places upto done (l ∷ todo) rest → (0 < get_or starts (list_of l) 0) × (get_or starts (list_of l) 0 - 1 < length places)
free_place clauses starts places upto done todo rest l fits filling =
    let h : ℕ = list_of l in
    let mine : count_of h (l ∷ todo) ≡ suc (count_of h todo) = count_mine h l todo refl in
    let low : get_or starts h 0 ≡ sum_of h filling.counts + (count_of h (l ∷ todo) + total_of h rest) = filling.lows h fits in
    let high : get_or starts h 0 ≤ sum_of (h + 1) filling.counts = filling.highs h fits in
    let many : length filling.counts ≡ length starts = filling.many in
    let room : length places ≡ sum_of (length filling.counts) filling.counts = filling.room in
    let all : sum_of (h + 1) filling.counts ≤ sum_of (length filling.counts) filling.counts = sum_up_to filling.counts (h + 1) (length filling.counts) (omega arith) in
    (omega arith, omega arith)

-- what was placed stays where it is
placed_stays : (clauses : List Clause) (starts places : List ℕ) (upto : ℕ) (done todo : List Lit) (rest : List Clause) (l : Lit) → list_of l < length starts
    → (filling : IsFilling clauses starts places upto done (l ∷ todo) rest) (h k : ℕ) → IsPlaced filling.counts starts places h k
    → IsPlaced filling.counts (set starts (list_of l) (get_or starts (list_of l) 0 - 1)) (set places (get_or starts (list_of l) 0 - 1) upto) h k
placed_stays clauses starts places upto done todo rest l fits filling h k placed =
    let j : ℕ = list_of l in
    let i : ℕ = get_or starts j 0 - 1 in
    let counts : List ℕ = filling.counts in
    let free = free_place clauses starts places upto done todo rest l fits filling in
    let some : 0 < get_or starts j 0 = free.0 in
    let inside : h < length starts = placed.fits in
    let long : length (set starts j i) ≡ length starts = length-set {A = ℕ} starts j i in
    let mine : count_of j (l ∷ todo) ≡ suc (count_of j todo) = count_mine j l todo refl in
    let low_j : get_or starts j 0 ≡ sum_of j counts + (count_of j (l ∷ todo) + total_of j rest) = filling.lows j fits in
    let high_j : get_or starts j 0 ≤ sum_of (j + 1) counts = filling.highs j fits in
    let low_h : get_or starts h 0 ≡ sum_of h counts + (count_of h (l ∷ todo) + total_of h rest) = filling.lows h inside in
    let low : get_or starts h 0 ≤ placed.at = placed.low in
    let high : placed.at < sum_of (h + 1) counts = placed.high in
    let apart : placed.at ≡ i → ⊥ = λ (e : placed.at ≡ i). elim (cases_lt h j) [
      | inl below ↦ let order : sum_of (h + 1) counts ≤ sum_of j counts = sum_up_to counts (h + 1) j (omega arith) in omega arith
      | inr above ↦ elim (cases_eq h j) [
        | inl same ↦ let at : get_or starts h 0 ≡ get_or starts j 0 = ap (λ n. get_or starts n 0) same in omega arith
        | inr other ↦ let order : sum_of (j + 1) counts ≤ sum_of h counts = sum_up_to counts (j + 1) h (omega arith) in omega arith
      ]
    ] in
    record {
      fits = omega arith;
      at = placed.at;
      low = elim (cases_eq h j) [
        | inl same ↦
            let at : get_or (set starts j i) h 0 ≡ i = ap (λ n. get_or (set starts j i) n 0) same ∙ get_or-set_same starts j i 0 fits in
            let was : get_or starts h 0 ≡ get_or starts j 0 = ap (λ n. get_or starts n 0) same in
            omega arith
        | inr other ↦ let at : get_or (set starts j i) h 0 ≡ get_or starts h 0 = get_or-set_other starts j h i 0 other in omega arith
      ];
      high = placed.high;
      is = get_or-set_other places i placed.at upto 0 apart ∙ placed.is;
    }

pub filling_more : (clauses : List Clause) (starts places : List ℕ) (upto : ℕ) (done more todo : List Lit) (rest : List Clause) (l : Lit) → list_of l < length starts → upto < length clauses
    → ((m : Lit) → is_among m more ≡ true → (m ≡ l) ⊎ (is_among m done ≡ true))
    → IsFilling clauses starts places upto done (l ∷ todo) rest
    → IsFilling clauses (set starts (list_of l) (get_or starts (list_of l) 0 - 1)) (set places (get_or starts (list_of l) 0 - 1) upto) upto more todo rest
filling_more clauses starts places upto done more todo rest l fits below cases filling =
    let j : ℕ = list_of l in
    let i : ℕ = get_or starts j 0 - 1 in
    let counts : List ℕ = filling.counts in
    let free = free_place clauses starts places upto done todo rest l fits filling in
    let some : 0 < get_or starts j 0 = free.0 in
    let room : i < length places = free.1 in
    let long : length (set starts j i) ≡ length starts = length-set {A = ℕ} starts j i in
    let wide : length (set places i upto) ≡ length places = length-set {A = ℕ} places i upto in
    let mine : count_of j (l ∷ todo) ≡ suc (count_of j todo) = count_mine j l todo refl in
    let low_j : get_or starts j 0 ≡ sum_of j counts + (count_of j (l ∷ todo) + total_of j rest) = filling.lows j fits in
    let high_j : get_or starts j 0 ≤ sum_of (j + 1) counts = filling.highs j fits in
    let here : get_or (set starts j i) j 0 ≡ i = get_or-set_same starts j i 0 fits in
    let stays : (h k : ℕ) → IsPlaced counts starts places h k → IsPlaced counts (set starts j i) (set places i upto) h k = placed_stays clauses starts places upto done todo rest l fits filling in
    record {
      counts = counts;
      many = filling.many ∙ sym long;
      room = wide ∙ filling.room;
      lows = λ h within. elim (cases_eq h j) [
        | inl same ↦ subst (λ n. get_or (set starts j i) n 0 ≡ sum_of n counts + (count_of n todo + total_of n rest)) (sym same) (omega arith)
        | inr other ↦
            let at : get_or (set starts j i) h 0 ≡ get_or starts h 0 = get_or-set_other starts j h i 0 other in
            let none : count_of h (l ∷ todo) ≡ count_of h todo = count_other h l todo other in
            let low_h : get_or starts h 0 ≡ sum_of h counts + (count_of h (l ∷ todo) + total_of h rest) = filling.lows h (omega arith) in
            omega arith
      ];
      highs = λ h within. elim (cases_eq h j) [
        | inl same ↦ subst (λ n. get_or (set starts j i) n 0 ≤ sum_of (n + 1) counts) (sym same) (omega arith)
        | inr other ↦
            let at : get_or (set starts j i) h 0 ≡ get_or starts h 0 = get_or-set_other starts j h i 0 other in
            let high_h : get_or starts h 0 ≤ sum_of (h + 1) counts = filling.highs h (omega arith) in
            omega arith
      ];
      within = All-set (λ k. k < length clauses) places i upto below filling.within;
      earlier = λ k c m under e has. stays (list_of m) k (filling.earlier k c m under e has);
      current = λ m has. elim (cases m has) [
        | inl same ↦ subst (λ (x : Lit). IsPlaced counts (set starts j i) (set places i upto) (list_of x) upto) (sym same) (record {
          fits = omega arith;
          at = i;
          low = omega arith;
          high = omega arith;
          is = get_or-set_same places i upto 0 room;
        })
        | inr earlier ↦ stays (list_of m) upto (filling.current m earlier)
      ];
    }

-- on to the literals of the next clause
pub filling_clause : (clauses : List Clause) (starts places : List ℕ) (upto : ℕ) (c : Clause) (rest : List Clause) → IsFilling clauses starts places upto [] [] (c ∷ rest) → IsFilling clauses starts places upto [] c.lits rest
filling_clause clauses starts places upto c rest filling = record {
  counts = filling.counts;
  many = filling.many;
  room = filling.room;
  lows = λ h within. let low : get_or starts h 0 ≡ sum_of h filling.counts + (0 + (count_of h c.lits + total_of h rest)) = filling.lows h within in omega arith;
  highs = filling.highs;
  within = filling.within;
  earlier = filling.earlier;
  current = filling.current;
}

-- the clause is done
pub filling_next : (clauses : List Clause) (starts places : List ℕ) (upto : ℕ) (c : Clause) (rest : List Clause) → slice_get clauses upto ≡ Some c → IsFilling clauses starts places upto c.lits [] rest → IsFilling clauses starts places (upto + 1) [] [] rest
filling_next clauses starts places upto c rest at filling = record {
  counts = filling.counts;
  many = filling.many;
  room = filling.room;
  lows = filling.lows;
  highs = filling.highs;
  within = filling.within;
  earlier = λ k d l under e has. elim (cases_lt k upto) [
    | inl below ↦ filling.earlier k d l below e has
    | inr above ↦
        let is : upto ≡ k = omega arith in
        let both : slice_get clauses upto ≡ Some d = ap (slice_get clauses) is ∙ e in
        let same : c ≡ d = cc in
        subst (λ n. IsPlaced filling.counts starts places (list_of l) n) is (filling.current l (subst (λ (x : Clause). is_among l x.lits ≡ true) (sym same) has))
  ];
  current = λ l has. cc;
}

default_same : (xs : List ℕ) (i d e : ℕ) → i < length xs → get_or xs i d ≡ get_or xs i e
default_same [] i d e h = absurd (omega arith)
default_same (x ∷ xs) zero d e h = refl
default_same (x ∷ xs) (suc i) d e h = default_same xs i d e (omega arith)

read_at : (xs : List ℕ) (i k : ℕ) → i < length xs → get_or xs i 0 ≡ k → slice_get xs i ≡ Some k
read_at [] i k h e = absurd (omega arith)
read_at (x ∷ xs) zero k h e = ap Some e
read_at (x ∷ xs) (suc i) k h e = read_at xs i k (omega arith) e

-- all lists are filled
pub filling_end : (vars : ℕ) (clauses : List Clause) (starts places : List ℕ) (upto : ℕ) → length starts ≡ 2 * vars + 1 → length clauses ≤ upto
    → ((k : ℕ) (c : Clause) (l : Lit) → slice_get clauses k ≡ Some c → is_among l c.lits ≡ true → (k < length clauses) × (list_of l + 1 < 2 * vars + 1))
    → IsFilling clauses starts places upto [] [] [] → IsIndexOf vars clauses (record { starts = starts; places = places })
filling_end vars clauses starts places upto long all fits filling =
    let counts : List ℕ = filling.counts in
    let many : length counts ≡ length starts = filling.many in
    let room : length places ≡ sum_of (length counts) counts = filling.room in
    let at : (h : ℕ) → h < length starts → get_or starts h 0 ≡ sum_of h counts = λ h within. let low : get_or starts h 0 ≡ sum_of h counts + (0 + 0) = filling.lows h within in omega arith in
    record {
      many = long;
      ends = λ h d within.
          let low : get_or starts h 0 ≡ sum_of h counts = at h within in
          let order : sum_of h counts ≤ sum_of (length counts) counts = sum_up_to counts h (length counts) (omega arith) in
          let same : get_or starts h d ≡ get_or starts h 0 = default_same starts h d 0 within in
          omega arith;
      within = filling.within;
      holds = λ k c l e has.
          let bounds = fits k c l e has in
          let below : k < length clauses = bounds.0 in
          let inside : list_of l + 1 < 2 * vars + 1 = bounds.1 in
          let placed = filling.earlier k c l (omega arith) e has in
          let next : get_or starts (list_of l + 1) 0 ≡ sum_of (list_of l + 1) counts = at (list_of l + 1) (omega arith) in
          let high : placed.at < sum_of (list_of l + 1) counts = placed.high in
          let order : sum_of (list_of l + 1) counts ≤ sum_of (length counts) counts = sum_up_to counts (list_of l + 1) (length counts) (omega arith) in
          record { at = placed.at; after = placed.low; before = omega arith; is = read_at places placed.at k (omega arith) placed.is };
    }

drop_all : {X : Type 0} (n : ℕ) (xs : List X) → length xs ≤ n → drop n xs ≡ []
drop_all zero [] h = refl
drop_all zero (x ∷ xs) h = absurd (omega arith)
drop_all (suc n) [] h = refl
drop_all (suc n) (x ∷ xs) h = drop_all n xs (omega arith)

among_push : (xs : List Lit) (m l : Lit) → is_among m (xs ++ l ∷ []) ≡ true → (m ≡ l) ⊎ (is_among m xs ≡ true)
among_push [] m l h = elim (among_cases m l [] h) [ inl same ↦ inl same | inr none ↦ inr none ]
among_push (x ∷ xs) m l h = elim (among_cases m x (xs ++ l ∷ []) h) [
  | inl same ↦ inr (ap (λ (k : Lit). is_among k (x ∷ xs)) same ∙ among_here x xs)
  | inr later ↦ elim (among_push xs m l later) [ inl is ↦ inl is | inr there ↦ inr (among_there m x xs there) ]
]

pub among_more : (lits : List Lit) (i : ℕ) (d m : Lit) → i < length lits → is_among m (take (i + 1) lits) ≡ true → (m ≡ get_or lits i d) ⊎ (is_among m (take i lits) ≡ true)
among_more lits i d m within h = among_push (take i lits) m (get_or lits i d) (subst (λ (ls : List Lit). is_among m ls ≡ true) (take_more lits i d within) h)

pub filling_todo : (clauses : List Clause) (starts places : List ℕ) (upto : ℕ) (lits : List Lit) (i : ℕ) (d : Lit) (rest : List Clause) → i < length lits
    → IsFilling clauses starts places upto (take i lits) (drop i lits) rest → IsFilling clauses starts places upto (take i lits) (get_or lits i d ∷ drop (i + 1) lits) rest
filling_todo clauses starts places upto lits i d rest within filling = subst (λ (todo : List Lit). IsFilling clauses starts places upto (take i lits) todo rest) (drop_more lits i d within) filling

pub filling_lits : (clauses : List Clause) (starts places : List ℕ) (upto : ℕ) (lits : List Lit) (i : ℕ) (c : Clause) (rest : List Clause) → length lits ≤ i → lits ≡ c.lits → slice_get clauses upto ≡ Some c
    → IsFilling clauses starts places upto (take i lits) (drop i lits) rest → IsFilling clauses starts places (upto + 1) [] [] rest
filling_lits clauses starts places upto lits i c rest all is at filling =
    filling_next clauses starts places upto c rest at
    (subst (λ (done : List Lit). IsFilling clauses starts places upto done [] rest) (take_all i lits all ∙ is)
    (subst (λ (todo : List Lit). IsFilling clauses starts places upto (take i lits) todo rest) (drop_all i lits all) filling))

pub filling_begin : (clauses : List Clause) (starts places : List ℕ) (upto : ℕ) (c : Clause) (lits : List Lit) → slice_get clauses upto ≡ Some c → lits ≡ c.lits
    → IsFilling clauses starts places upto [] [] (drop upto clauses) → IsFilling clauses starts places upto [] lits (drop (upto + 1) clauses)
filling_begin clauses starts places upto c lits at is filling =
    let within : upto < length clauses = slice_get_within clauses upto c at in
    let here : get_or clauses upto c ≡ c = get_or_from_slice_get clauses upto c c at in
    let next : drop upto clauses ≡ c ∷ drop (upto + 1) clauses = drop_more clauses upto c within ∙ ap (λ (x : Clause). x ∷ drop (upto + 1) clauses) here in
    subst (λ (todo : List Lit). IsFilling clauses starts places upto [] todo (drop (upto + 1) clauses)) (sym is)
    (filling_clause clauses starts places upto c (drop (upto + 1) clauses) (subst (IsFilling clauses starts places upto [] []) next filling))

list_in : (vars : ℕ) (clauses : List Clause) (k : ℕ) (c : Clause) (l : Lit) → clauses_in_range vars clauses ≡ true → slice_get clauses k ≡ Some c → is_among l c.lits ≡ true → list_of l + 1 < 2 * vars + 1
list_in vars clauses k c l range at has = list_fits vars l (among_in_range vars c.lits l (clause_in_range vars clauses k c range at) has)

pub filled : (vars : ℕ) (clauses : List Clause) (starts places : List ℕ) (upto : ℕ) → length starts ≡ 2 * vars + 1 → length clauses ≤ upto → clauses_in_range vars clauses ≡ true
    → IsFilling clauses starts places upto [] [] (drop upto clauses) → IsIndexOf vars clauses (record { starts = starts; places = places })
filled vars clauses starts places upto long all range filling =
    filling_end vars clauses starts places upto long all (λ k c l at has. (slice_get_within clauses k c at, list_in vars clauses k c l range at has))
    (subst (IsFilling clauses starts places upto [] []) (drop_all upto clauses all) filling)

total_none : (clauses : List Clause) (h : ℕ) → length clauses ≡ 0 → total_of h clauses ≡ 0
total_none [] h e = refl
total_none (c ∷ cs) h e = absurd (omega arith)

sum_none : (counts : List ℕ) (n : ℕ) → n ≤ length counts → ((h : ℕ) → h < length counts → get_or counts h 0 ≡ 0) → sum_of n counts ≡ 0
sum_none counts zero h none = refl
sum_none [] (suc n) h none = refl
sum_none (x ∷ xs) (suc n) h none =
    let first : x ≡ 0 = none 0 (omega arith) in
    let rest : sum_of n xs ≡ 0 = sum_none xs n (omega arith) (λ k within. none (suc k) (omega arith)) in
    omega arith

-- without a place nothing is to be shown, and with one there is a clause
pub none_placed : (clauses : List Clause) (counts places : List ℕ) → AreTotals clauses counts → length places ≡ sum_of (length counts) counts → ((k d : ℕ) → k < length places → get_or places k d ≡ 0) → All (λ k. k < length clauses) places
none_placed clauses counts places totals room zeros = λ k d within. elim (cases_eq (length clauses) 0) [
  | inl none ↦
      let empty : sum_of (length counts) counts ≡ 0 = sum_none counts (length counts) (omega arith) (λ h inside. totals.each h inside ∙ total_none clauses h none) in
      absurd (omega arith)
  | inr some ↦ let is : get_or places k d ≡ 0 = zeros k d within in omega arith
]

front : (xs ys : List ℕ) → take (length xs) (xs ++ ys) ≡ xs
front [] ys = refl
front (x ∷ xs) ys = ap (λ (zs : List ℕ). x ∷ zs) (front xs ys)

pub take_front : (n : ℕ) (xs ys : List ℕ) → n ≡ length xs → take n (xs ++ ys) ≡ xs
take_front n xs ys e = ap (λ k. take k (xs ++ ys)) e ∙ front xs ys
