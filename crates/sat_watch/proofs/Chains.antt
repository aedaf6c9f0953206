-- The lists of clauses by greatest variable: how they are gone through, and how they grow.
use Rattle.std.proofs.Common.{◌≡◌, ℕ, zero, suc, ◌+◌, ◌-◌, ◌<◌, ◌≤◌, List, [], ◌∷◌, ◌++◌, length, take, set, slice_get, Some, refl, sym, ap, ◌∙◌, subst, inl, inr, ◌⊎◌, arith, get_or-set_same, get_or-set_other, length-set}
use Rattle.std.specs.Prelude.{slice_index_or}
use Rattle.std.specs.Option.{option_map_or}
use Rattle.std.proofs.lemmas.Bool.{cases_eq, cases_lt}
use Rattle.std.proofs.lemmas.List.{length_push}
use Rattle.std.proofs.lemmas.Option.{slice_get_within}
use lib.ListN.{get_or-append}
use Rattle.clause_base.specs.declared.lit.Lit.{Lit}
use Rattle.clause_base.specs.declared.clause.Clause.{Clause}
use Rattle.clause_base.specs.Literals.{IsGreatest}
use Rattle.clause_base.specs.Follows.{literals_at}
use Rattle.sat_watch.specs.Searching.{IsQuiet, IsUnitAt}
use Rattle.sat_watch.specs.Listing.{IsLast, IsListing, Lists, head_of, listed, next_of, unlisted}
use Rattle.sat_watch.proofs.Literals.{literals_is}
use Rattle.sat_watch.proofs.Members.{get_last, all_clauses, lit_of, of_var}
use Rattle.sat_watch.proofs.Quiet.{greatest_of}

pub literals_front : (clauses more : List Clause) (k : ℕ) → k < length clauses → literals_at (clauses ++ more) k ≡ literals_at clauses k
literals_front [] more k within = absurd (omega arith)
literals_front (c ∷ cs) more zero within = refl
literals_front (c ∷ cs) more (suc k) within = literals_front cs more k (omega arith)

get_take : (xs : List Clause) (n k : ℕ) → k < n → slice_get (take n xs) k ≡ slice_get xs k
get_take [] zero k within = refl
get_take [] (suc n) k within = refl
get_take (x ∷ xs) zero k within = absurd (omega arith)
get_take (x ∷ xs) (suc n) zero within = refl
get_take (x ∷ xs) (suc n) (suc k) within = get_take xs n k (omega arith)

literals_take : (xs : List Clause) (n k : ℕ) → k < n → literals_at (take n xs) k ≡ literals_at xs k
literals_take xs n k within = ap (λ o. option_map_or (λ (d : Clause). d.lits) o []) (get_take xs n k within)

take_few : (xs : List Clause) (n : ℕ) → length (take n xs) ≤ n
take_few [] zero = omega arith
take_few [] (suc n) = omega arith
take_few (x ∷ xs) zero = omega arith
take_few (x ∷ xs) (suc n) = let rest : length (take n xs) ≤ n = take_few xs n in omega arith

-- the clauses of a list that stand before a number's are still to come
pub record IsGoing (v : ℕ) (known : List Lit) (clauses : List Clause) (number : ℕ) : Type 0 where
  pub within : number ≤ length clauses
  pub is : 0 < number → IsGreatest v (literals_at clauses (number - 1))
  pub rest : (k : ℕ) (c : Clause) → slice_get clauses k ≡ Some c → number ≤ k → IsUnitAt v known c.lits → ⊥

pub going_last : (vars : ℕ) (clauses : List Clause) (lists : Lists) (known : List Lit) (v number next : ℕ) → IsListing vars clauses lists → 0 < v → 0 < number → IsGoing v known clauses number
    → next ≡ next_of lists number → IsLast v next (take (number - 1) clauses)
going_last vars clauses lists known v number next listing some more going is =
    let within : number ≤ length clauses = going.within in
    subst (λ n. IsLast v n (take (number - 1) clauses)) (sym is) (listing.nexts v (number - 1) some (omega arith) (going.is more))

pub going_less : (vars : ℕ) (clauses : List Clause) (lists : Lists) (known : List Lit) (v number next : ℕ) → IsListing vars clauses lists → 0 < v → 0 < number → IsGoing v known clauses number
    → next ≡ next_of lists number → next < number
going_less vars clauses lists known v number next listing some more going is =
    let last = going_last vars clauses lists known v number next listing some more going is in
    let here : next ≤ length (take (number - 1) clauses) = last.within in
    let few : length (take (number - 1) clauses) ≤ number - 1 = take_few clauses (number - 1) in
    omega arith

pub going_next : (vars : ℕ) (clauses : List Clause) (lists : Lists) (known : List Lit) (v number next : ℕ) → IsListing vars clauses lists → 0 < v → 0 < number → IsGoing v known clauses number
    → next ≡ next_of lists number → (IsUnitAt v known (literals_at clauses (number - 1)) → ⊥) → IsGoing v known clauses next
going_next vars clauses lists known v number next listing some more going is quiet =
    let last = going_last vars clauses lists known v number next listing some more going is in
    let less : next < number = going_less vars clauses lists known v number next listing some more going is in
    let within : number ≤ length clauses = going.within in
    record {
      within = omega arith;
      is = λ nonzero. subst (IsGreatest v) (literals_take clauses (number - 1) (next - 1) (omega arith)) (last.is nonzero);
      rest = λ k d e above unit. elim (cases_lt k number) [
        | inr later ↦ going.rest k d e later unit
        | inl before ↦ elim (cases_eq k (number - 1)) [
          | inl same ↦ quiet (subst (IsUnitAt v known) (sym (literals_is clauses (number - 1) d (ap (slice_get clauses) (sym same) ∙ e))) unit)
          | inr other ↦ last.none k d (get_take clauses (number - 1) k (omega arith) ∙ e) above (greatest_of v known d.lits unit)
        ]
      ];
    }

pub going_end : (v : ℕ) (known : List Lit) (clauses : List Clause) (number : ℕ) → IsGoing v known clauses number → number ≡ 0 → IsQuiet clauses known v
going_end v known clauses number going is = all_clauses (λ c. IsUnitAt v known c.lits → ⊥) clauses (λ k c e. going.rest k c e (omega arith))

push_cases : (xs : List Clause) (x y : Clause) (k : ℕ) → slice_get (xs ++ x ∷ []) k ≡ Some y → (slice_get xs k ≡ Some y) ⊎ ((k ≡ length xs) × (x ≡ y))
push_cases [] x y zero e = let same : x ≡ y = cc in inr (refl, same)
push_cases [] x y (suc k) e = cc
push_cases (z ∷ xs) x y zero e = inl e
push_cases (z ∷ xs) x y (suc k) e = elim (push_cases xs x y k e) [ inl old ↦ inl old | inr new ↦ let at : k ≡ length xs = new.0 in inr (ap suc at, new.1) ]

last_other : (w n : ℕ) (clauses : List Clause) (c : Clause) → IsLast w n clauses → (IsGreatest w c.lits → ⊥) → IsLast w n (clauses ++ c ∷ [])
last_other w n clauses c last apart =
    let long : length (clauses ++ c ∷ []) ≡ length clauses + 1 = length_push clauses c in
    let within : n ≤ length clauses = last.within in
    record {
      within = omega arith;
      is = λ some. subst (IsGreatest w) (sym (literals_front clauses (c ∷ []) (n - 1) (omega arith))) (last.is some);
      none = λ k d e above great. elim (push_cases clauses c d k e) [
        | inl old ↦ last.none k d old above great
        | inr new ↦ apart (subst (λ (x : Clause). IsGreatest w x.lits) (sym new.1) great)
      ];
    }

last_mine : (v : ℕ) (clauses : List Clause) (c : Clause) → IsGreatest v c.lits → IsLast v (length clauses + 1) (clauses ++ c ∷ [])
last_mine v clauses c great =
    let long : length (clauses ++ c ∷ []) ≡ length clauses + 1 = length_push clauses c in
    let back : length clauses + 1 - 1 ≡ length clauses = omega arith in
    record {
      within = omega arith;
      is = λ some. subst (IsGreatest v) (sym (ap (literals_at (clauses ++ c ∷ [])) back ∙ literals_is (clauses ++ c ∷ []) (length clauses) c (get_last clauses c))) great;
      none = λ k d e above other.
          let inside : k < length (clauses ++ c ∷ []) = slice_get_within (clauses ++ c ∷ []) k d e in
          absurd (omega arith);
    }

-- the greatest variable is one
pub greatest_same : (v w : ℕ) (lits : List Lit) → 0 < v → 0 < w → IsGreatest v lits → IsGreatest w lits → v ≡ w
greatest_same v w lits some other great too =
    let low : v ≤ w = elim great.stands [
      | inl none ↦ absurd (omega arith)
      | inr stands ↦ let found = of_var lits v stands in let is : found.0.var ≡ v = found.2 in let most : found.0.var ≤ w = lit_of (λ l. l.var ≤ w) lits found.0 too.most found.1 in omega arith
    ] in
    let high : w ≤ v = elim too.stands [
      | inl none ↦ absurd (omega arith)
      | inr stands ↦ let found = of_var lits w stands in let is : found.0.var ≡ w = found.2 in let most : found.0.var ≤ v = lit_of (λ l. l.var ≤ v) lits found.0 great.most found.1 in omega arith
    ] in
    omega arith

push_front : (xs : List ℕ) (x k : ℕ) → k < length xs → slice_index_or (xs ++ x ∷ []) k 0 ≡ slice_index_or xs k 0
push_front xs x k within = get_or-append xs (x ∷ []) 0 k within

push_last : (xs : List ℕ) (x : ℕ) → slice_index_or (xs ++ x ∷ []) (length xs) 0 ≡ x
push_last [] x = refl
push_last (y ∷ ys) x = push_last ys x

take_all : (xs : List Clause) (x : Clause) → take (length xs) (xs ++ x ∷ []) ≡ xs
take_all [] x = refl
take_all (y ∷ ys) x = ap (λ zs. y ∷ zs) (take_all ys x)

take_front : (xs : List Clause) (x : Clause) (k : ℕ) → k ≤ length xs → take k (xs ++ x ∷ []) ≡ take k xs
take_front [] x zero within = refl
take_front [] x (suc k) within = absurd (omega arith)
take_front (y ∷ ys) x zero within = refl
take_front (y ∷ ys) x (suc k) within = ap (λ zs. y ∷ zs) (take_front ys x k (omega arith))

-- what was listed stays so, and the new clause has the one before it
nexts_push : (vars : ℕ) (clauses : List Clause) (lists : Lists) (c : Clause) (n : ℕ) → IsListing vars clauses lists → ((w : ℕ) → 0 < w → IsGreatest w c.lits → IsLast w n clauses)
    → (w k : ℕ) → 0 < w → k < length (clauses ++ c ∷ []) → IsGreatest w (literals_at (clauses ++ c ∷ []) k) → IsLast w (slice_index_or (lists.nexts ++ n ∷ []) k 0) (take k (clauses ++ c ∷ []))
nexts_push vars clauses lists c n listing here w k some within great =
    let long : length (clauses ++ c ∷ []) ≡ length clauses + 1 = length_push clauses c in
    let each : length lists.nexts ≡ length clauses = listing.each in
    elim (cases_lt k (length clauses)) [
      | inl old ↦
          let was = listing.nexts w k some old (subst (IsGreatest w) (literals_front clauses (c ∷ []) k old) great) in
          let at : slice_index_or (lists.nexts ++ n ∷ []) k 0 ≡ slice_index_or lists.nexts k 0 = push_front lists.nexts n k (omega arith) in
          let cut : take k (clauses ++ c ∷ []) ≡ take k clauses = take_front clauses c k (omega arith) in
          subst (λ m. IsLast w m (take k (clauses ++ c ∷ []))) (sym at) (subst (IsLast w (slice_index_or lists.nexts k 0)) (sym cut) was)
      | inr new ↦
          let is : k ≡ length clauses = omega arith in
          let spot : k ≡ length lists.nexts = omega arith in
          let mine : IsGreatest w c.lits = subst (IsGreatest w) (ap (literals_at (clauses ++ c ∷ [])) is ∙ literals_is (clauses ++ c ∷ []) (length clauses) c (get_last clauses c)) great in
          let at : slice_index_or (lists.nexts ++ n ∷ []) k 0 ≡ n = ap (λ j. slice_index_or (lists.nexts ++ n ∷ []) j 0) spot ∙ push_last lists.nexts n in
          let cut : take k (clauses ++ c ∷ []) ≡ clauses = ap (λ j. take j (clauses ++ c ∷ [])) is ∙ take_all clauses c in
          subst (λ m. IsLast w m (take k (clauses ++ c ∷ []))) (sym at) (subst (IsLast w n) (sym cut) (here w some mine))
    ]

-- one clause more
pub listing_push : (vars : ℕ) (clauses : List Clause) (lists : Lists) (c : Clause) (v number : ℕ) → IsListing vars clauses lists → 0 < v → v ≤ vars → IsGreatest v c.lits → number ≡ length clauses + 1
    → IsListing vars (clauses ++ c ∷ []) (listed lists v number)
listing_push vars clauses lists c v number listing some most great is =
    let long : length (clauses ++ c ∷ []) ≡ length clauses + 1 = length_push clauses c in
    let longer : length (lists.nexts ++ head_of lists v ∷ []) ≡ length lists.nexts + 1 = length_push lists.nexts (head_of lists v) in
    let each : length lists.nexts ≡ length clauses = listing.each in
    let many : length lists.heads ≡ vars = listing.many in
    record {
      many = length-set lists.heads (v - 1) number ∙ many;
      each = omega arith;
      heads = λ w nonzero inside. elim (cases_eq w v) [
        | inl same ↦
            let at : slice_index_or (set lists.heads (v - 1) number) (w - 1) 0 ≡ number = ap (λ j. slice_index_or (set lists.heads (v - 1) number) (j - 1) 0) same ∙ get_or-set_same lists.heads (v - 1) number 0 (omega arith) in
            subst (λ j. IsLast w j (clauses ++ c ∷ [])) (sym (at ∙ is)) (subst (λ j. IsLast j (length clauses + 1) (clauses ++ c ∷ [])) (sym same) (last_mine v clauses c great))
        | inr apart ↦
            let at : slice_index_or (set lists.heads (v - 1) number) (w - 1) 0 ≡ head_of lists w = get_or-set_other lists.heads (v - 1) (w - 1) number 0 (λ (e : w - 1 ≡ v - 1). let clash : w ≡ v = omega arith in apart clash) in
            subst (λ j. IsLast w j (clauses ++ c ∷ [])) (sym at) (last_other w (head_of lists w) clauses c (listing.heads w nonzero inside) (λ its. apart (greatest_same w v c.lits nonzero some its great)))
      ];
      nexts = nexts_push vars clauses lists c (head_of lists v) listing (λ w nonzero its.
          let same : w ≡ v = greatest_same w v c.lits nonzero some its great in
          subst (λ j. IsLast j (head_of lists v) clauses) (sym same) (listing.heads v some most));
    }

-- one empty clause more
pub listing_none : (vars : ℕ) (clauses : List Clause) (lists : Lists) (c : Clause) → IsListing vars clauses lists → IsGreatest 0 c.lits → IsListing vars (clauses ++ c ∷ []) (unlisted lists)
listing_none vars clauses lists c listing great =
    let long : length (clauses ++ c ∷ []) ≡ length clauses + 1 = length_push clauses c in
    let longer : length (lists.nexts ++ 0 ∷ []) ≡ length lists.nexts + 1 = length_push lists.nexts 0 in
    let each : length lists.nexts ≡ length clauses = listing.each in
    let never : (w : ℕ) → 0 < w → IsGreatest w c.lits → ⊥ = λ w some its. elim its.stands [
      | inl none ↦ omega arith
      | inr stands ↦ let found = of_var c.lits w stands in let is : found.0.var ≡ w = found.2 in let most : found.0.var ≤ 0 = lit_of (λ l. l.var ≤ 0) c.lits found.0 great.most found.1 in omega arith
    ] in
    record {
      many = listing.many;
      each = omega arith;
      heads = λ w nonzero inside. last_other w (head_of lists w) clauses c (listing.heads w nonzero inside) (never w nonzero);
      nexts = nexts_push vars clauses lists c 0 listing (λ w nonzero its. absurd (never w nonzero its));
    }
