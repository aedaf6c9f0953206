-- Counts of literals, and their sums.
use Rattle.std.proofs.Common.{◌≡◌, ℕ, zero, suc, ◌<◌, ◌≤◌, ◌+◌, true, false, List, [], ◌∷◌, ◌++◌, take, get_or, set, length, sym, ap, ◌∙◌, inl, inr, arith, eqb, eq-eqb, ne_eqb, get_or-set_same, get_or-set_other}
use Rattle.std.specs.Prelude.{if◌then◌else◌, ◌==◌}
use Rattle.std.proofs.lemmas.Bool.{cases_eq, cases_lt}
use Rattle.std.proofs.lemmas.List.{take_more}
use Rattle.clause_base.specs.declared.lit.Lit.{Lit}
use Rattle.clause_base.specs.declared.clause.Clause.{Clause}
use Rattle.sat_plain.specs.Places.{AreCounted, AreSums, AreTotals, count_of, list_of, sum_of, total_of}

one_of : (h : ℕ) (l : Lit) → ℕ
one_of h l = if list_of l == h then 1 else 0

pub count_mine : (h : ℕ) (l : Lit) (lits : List Lit) → h ≡ list_of l → count_of h (l ∷ lits) ≡ suc (count_of h lits)
count_mine h l lits is = let same : eqb (list_of l) h ≡ true = eq-eqb (list_of l) h (sym is) in rw same (omega arith)

pub count_other : (h : ℕ) (l : Lit) (lits : List Lit) → (h ≡ list_of l → ⊥) → count_of h (l ∷ lits) ≡ count_of h lits
count_other h l lits apart = let other : eqb (list_of l) h ≡ false = ne_eqb (list_of l) h (λ (e : list_of l ≡ h). apart (sym e)) in rw other (omega arith)

count_append : (h : ℕ) (xs ys : List Lit) → count_of h (xs ++ ys) ≡ count_of h xs + count_of h ys
count_append h [] ys = omega arith
count_append h (x ∷ xs) ys = let rest : count_of h (xs ++ ys) ≡ count_of h xs + count_of h ys = count_append h xs ys in omega arith

total_append : (h : ℕ) (xs ys : List Clause) → total_of h (xs ++ ys) ≡ total_of h xs + total_of h ys
total_append h [] ys = omega arith
total_append h (x ∷ xs) ys = let rest : total_of h (xs ++ ys) ≡ total_of h xs + total_of h ys = total_append h xs ys in omega arith

-- one literal more was counted
pub counted_more : (old counts : List ℕ) (lits : List Lit) (i : ℕ) (d : Lit) → i < length lits → length counts ≡ length old → list_of (get_or lits i d) < length counts
    → AreCounted old counts (take i lits) → AreCounted old (set counts (list_of (get_or lits i d)) (get_or counts (list_of (get_or lits i d)) 0 + 1)) (take (i + 1) lits)
counted_more old counts lits i d within same fits counted = record {
  each = λ h inside.
      let l : Lit = get_or lits i d in
      let k : ℕ = list_of l in
      let before : get_or counts h 0 ≡ get_or old h 0 + count_of h (take i lits) = counted.each h inside in
      let more : count_of h (take (i + 1) lits) ≡ count_of h (take i lits) + count_of h (l ∷ []) = ap (count_of h) (take_more lits i d within) ∙ count_append h (take i lits) (l ∷ []) in
      elim (cases_eq h k) [
        | inl is ↦
            let mine : count_of h (l ∷ []) ≡ 1 = count_mine h l [] is in
            let at : get_or (set counts k (get_or counts k 0 + 1)) k 0 ≡ get_or counts k 0 + 1 = get_or-set_same counts k (get_or counts k 0 + 1) 0 fits in
            let here : get_or (set counts k (get_or counts k 0 + 1)) h 0 ≡ get_or counts h 0 + 1 = ap (λ n. get_or (set counts k (get_or counts k 0 + 1)) n 0) is ∙ at ∙ ap (λ n. get_or counts n 0 + 1) (sym is) in
            omega arith
        | inr apart ↦
            let none : count_of h (l ∷ []) ≡ 0 = count_other h l [] apart in
            let here : get_or (set counts k (get_or counts k 0 + 1)) h 0 ≡ get_or counts h 0 = get_or-set_other counts k h (get_or counts k 0 + 1) 0 apart in
            omega arith
      ];
}

-- the literals of one clause more were counted
pub totals_more : (clauses : List Clause) (old new : List ℕ) (i : ℕ) (d : Clause) → i < length clauses → length new ≡ length old
    → AreTotals (take i clauses) old → AreCounted old new (get_or clauses i d).lits → AreTotals (take (i + 1) clauses) new
totals_more clauses old new i d within same totals counted = record {
  each = λ h inside.
      let c : Clause = get_or clauses i d in
      let fits : h < length old = omega arith in
      let here : get_or new h 0 ≡ get_or old h 0 + count_of h c.lits = counted.each h fits in
      let before : get_or old h 0 ≡ total_of h (take i clauses) = totals.each h fits in
      let more : total_of h (take (i + 1) clauses) ≡ total_of h (take i clauses) + (count_of h c.lits + 0) = ap (total_of h) (take_more clauses i d within) ∙ total_append h (take i clauses) (c ∷ []) in
      omega arith;
}

pub sum_more : (xs : List ℕ) (i : ℕ) → i < length xs → sum_of (i + 1) xs ≡ sum_of i xs + get_or xs i 0
sum_more [] i h = absurd (omega arith)
sum_more (x ∷ xs) zero h = omega arith
sum_more (x ∷ xs) (suc i) h =
    let z : suc i + 1 ≡ suc (i + 1) = omega arith in
    let rest : sum_of (i + 1) xs ≡ sum_of i xs + get_or xs i 0 = sum_more xs i (omega arith) in
    ap (λ n. sum_of n (x ∷ xs)) z ∙ omega arith

pub sum_up_to : (xs : List ℕ) (i j : ℕ) → i ≤ j → sum_of i xs ≤ sum_of j xs
sum_up_to xs zero j h = omega arith
sum_up_to [] (suc i) j h = omega arith
sum_up_to (x ∷ xs) (suc i) zero h = absurd (omega arith)
sum_up_to (x ∷ xs) (suc i) (suc j) h = let rest : sum_of i xs ≤ sum_of j xs = sum_up_to xs i j (omega arith) in omega arith

-- the sums so far, and the numbers that are left
pub record IsSumming (old counts : List ℕ) (sum i : ℕ) : Type 0 where
  pub total : sum ≡ sum_of i old
  pub sums : (h : ℕ) → h < i → get_or counts h 0 ≡ sum_of (h + 1) old
  pub left : (h : ℕ) → i ≤ h → get_or counts h 0 ≡ get_or old h 0

pub summing_more : (old counts : List ℕ) (sum i n : ℕ) → i < length counts → length counts ≡ length old → get_or counts i 0 ≡ n → IsSumming old counts sum i → IsSumming old (set counts i (sum + n)) (sum + n) (i + 1)
summing_more old counts sum i n within same is summing =
    let count : get_or counts i 0 ≡ get_or old i 0 = summing.left i (omega arith) in
    let more : sum_of (i + 1) old ≡ sum_of i old + get_or old i 0 = sum_more old i (omega arith) in
    let before : sum ≡ sum_of i old = summing.total in
    let now : sum + n ≡ sum_of (i + 1) old = omega arith in
    record {
      total = now;
      sums = λ h below. elim (cases_lt h i) [
        | inl early ↦ get_or-set_other counts i h (sum + n) 0 (λ (e : h ≡ i). omega arith) ∙ summing.sums h early
        | inr late ↦ let at : h ≡ i = omega arith in ap (λ k. get_or (set counts i (sum + n)) k 0) at ∙ get_or-set_same counts i (sum + n) 0 within ∙ now ∙ ap (λ k. sum_of (k + 1) old) (sym at)
      ];
      left = λ h above. get_or-set_other counts i h (sum + n) 0 (λ (e : h ≡ i). omega arith) ∙ summing.left h (omega arith);
    }

pub sums_all : (old counts : List ℕ) (sum i : ℕ) → length old ≤ i → length counts ≡ length old → IsSumming old counts sum i → AreSums old counts
sums_all old counts sum i all same summing = record { many = same; each = λ h within. summing.sums h (omega arith) }
