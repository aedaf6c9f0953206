-- Literals that stand once, and variables in both signs.
use Rattle.std.proofs.Common.{if◌then◌else◌, ◌+◌, ◌<◌, length, take, drop, get_or, ◌≡◌, ℕ, Bool, true, false, not, ◌&&◌, ◌||◌, ◌==◌, List, [], ◌∷◌, ◌++◌, refl, sym, ap, ◌∙◌, subst, arith}
use Rattle.std.specs.Bool.{beq}
use Rattle.std.specs.List.{list_all, list_any}
use Rattle.std.proofs.lemmas.List.{take-append-drop, take_more}
use Rattle.std.proofs.lemmas.List.Folds.{list_any-append}
use Rattle.clause_base.specs.Literals.{has_no_variable_twice, opposite, same_literal}
use Rattle.clause_base.specs.Formulas.{clauses_in_range, in_range}
use Rattle.clause_base.specs.declared.clause.Clause.{Clause}
use Rattle.clause_base.specs.declared.lit.Lit.{Lit}
use Rattle.step_lines.proofs.Apart.{all_append, both, clash, two}
use Rattle.step_lines.proofs.Values.{same_literal_value}
use Rattle.dimacs_text.specs.Tidy.{has_both, once_onto, stands}

same_bool : (a b : Bool) → beq a b ≡ true → a ≡ b
same_bool true true h = refl
same_bool true false h = absurd (cc)
same_bool false true h = absurd (cc)
same_bool false false h = refl

same_var : (m n : ℕ) → (m == n) ≡ true → m ≡ n
same_var m n h = grind arith

pub same_one : (k l : Lit) → same_literal k l ≡ true → k ≡ l
same_one k l h =
    let r = both (k.var == l.var) (beq k.positive l.positive) h in
    same_literal_value k l (same_var k.var l.var r.0) (same_bool k.positive l.positive r.1)

beq_refl : (a : Bool) → beq a a ≡ true
beq_refl true = refl
beq_refl false = refl

pub same_self : (l : Lit) → same_literal l l ≡ true
same_self l = let e : (l.var == l.var) ≡ true = grind arith in ap (λ b. b && beq l.positive l.positive) e ∙ beq_refl l.positive

or_false : (b : Bool) → (b || false) ≡ b
or_false true = refl
or_false false = refl

pub or_right : (a b : Bool) → b ≡ true → (a || b) ≡ true
or_right true b h = refl
or_right false b h = h

pub or_left : (a b : Bool) → a ≡ true → (a || b) ≡ true
or_left true b h = refl
or_left false b h = absurd (cc)

pub neither : (a b : Bool) → (a || b) ≡ false → (a ≡ false) × (b ≡ false)
neither true b h = absurd (cc)
neither false b h = (refl, h)

pub both_false : (a b : Bool) → a ≡ false → b ≡ false → (a || b) ≡ false
both_false true b h g = absurd (cc)
both_false false b h g = g

pub stands_push : (k l : Lit) (ls : List Lit) → stands k (ls ++ l ∷ []) ≡ (stands k ls || same_literal k l)
stands_push k l ls = list_any-append (same_literal k) ls (l ∷ []) ∙ ap (λ b. stands k ls || b) (or_false (same_literal k l))

-- by cases on a test
pub once_push : (kept ls : List Lit) (l : Lit) → once_onto kept (ls ++ l ∷ []) ≡ (if stands l (once_onto kept ls) then once_onto kept ls else once_onto kept ls ++ l ∷ [])
once_push kept [] l = refl
once_push kept (k ∷ ls) l = once_push (if stands k kept then kept else kept ++ k ∷ []) ls l

-- what is a fact of a literal is one of some literal that stands there
pub any_there : (p : Lit → Bool) (l : Lit) (ls : List Lit) → stands l ls ≡ true → p l ≡ true → list_any p ls ≡ true
any_there p l [] h g = absurd (cc)
any_there p l (k ∷ ls) h g = by_first (same_literal l k) refl h (λ there. any_there p l ls there g)
  where
    by_first : (b : Bool) → same_literal l k ≡ b → (b || stands l ls) ≡ true → (stands l ls ≡ true → list_any p ls ≡ true) → (p k || list_any p ls) ≡ true
    by_first true e there rest = or_left (p k) (list_any p ls) (ap p (sym (same_one l k e)) ∙ g)
    by_first false e there rest = or_right (p k) (list_any p ls) (rest there)

any_kept : (p : Lit → Bool) (l : Lit) (kept ls : List Lit) (t : Bool) → stands l kept ≡ t → (list_any p (if t then kept else kept ++ l ∷ []) || list_any p ls) ≡ (list_any p kept || (p l || list_any p ls))
any_kept p l kept ls true e = by_test (p l) refl
  where
    by_test : (b : Bool) → p l ≡ b → (list_any p kept || list_any p ls) ≡ (list_any p kept || (b || list_any p ls))
    by_test true h =
        let there = any_there p l kept e h in
        or_left (list_any p kept) (list_any p ls) there ∙ sym (or_left (list_any p kept) true there)
    by_test false h = refl
any_kept p l kept ls false e = ap (λ b. b || list_any p ls) (list_any-append p kept (l ∷ []) ∙ ap (λ b. list_any p kept || b) (or_false (p l))) ∙ or_assoc (list_any p kept) (p l) (list_any p ls)
  where
    or_assoc : (a b c : Bool) → ((a || b) || c) ≡ (a || (b || c))
    or_assoc true b c = refl
    or_assoc false b c = refl

pub any_once : (p : Lit → Bool) (kept ls : List Lit) → list_any p (once_onto kept ls) ≡ (list_any p kept || list_any p ls)
any_once p kept [] = sym (or_false (list_any p kept))
any_once p kept (l ∷ ls) = any_once p (if stands l kept then kept else kept ++ l ∷ []) ls ∙ any_kept p l kept ls (stands l kept) refl

pub stands_in_once : (k : Lit) (ls : List Lit) → stands k (once_onto [] ls) ≡ stands k ls
stands_in_once k ls = any_once (same_literal k) [] ls

-- opposites

pub opposite_twice : (l : Lit) → opposite (opposite l) ≡ l
opposite_twice l = same_literal_value (opposite (opposite l)) l refl (not_not l.positive)
  where
    not_not : (b : Bool) → not (not b) ≡ b
    not_not true = refl
    not_not false = refl

flipped : (k l : Lit) → same_literal (opposite k) l ≡ same_literal (opposite l) k
flipped k l = two_signs k.positive l.positive
  where
    vars : (k.var == l.var) ≡ (l.var == k.var)
    vars = grind arith

    two_signs : (p q : Bool) → ((k.var == l.var) && beq (not p) q) ≡ ((l.var == k.var) && beq (not q) p)
    two_signs true true = ap (λ b. b && false) vars
    two_signs true false = ap (λ b. b && true) vars
    two_signs false true = ap (λ b. b && true) vars
    two_signs false false = ap (λ b. b && false) vars

mixed : (a b c d : Bool) → ((a || b) || (c || d)) ≡ ((a || c) || (b || d))
mixed true b c d = refl
mixed false true true d = refl
mixed false true false d = refl
mixed false false true d = refl
mixed false false false d = refl

pub has_both_push : (ls : List Lit) (l : Lit) → has_both (ls ++ l ∷ []) ≡ (has_both ls || stands (opposite l) ls)
has_both_push [] l = refl
has_both_push (k ∷ ls) l =
    ap (λ b. b || has_both (ls ++ l ∷ [])) (stands_push (opposite k) l ls)
    ∙ ap (λ b. (stands (opposite k) ls || same_literal (opposite k) l) || b) (has_both_push ls l)
    ∙ mixed (stands (opposite k) ls) (same_literal (opposite k) l) (has_both ls) (stands (opposite l) ls)
    ∙ ap (λ b. (stands (opposite k) ls || has_both ls) || (b || stands (opposite l) ls)) (flipped k l)

-- a literal that stands where no variable stands in both signs
pub not_opposite : (l : Lit) (ls : List Lit) → has_both ls ≡ false → stands l ls ≡ true → stands (opposite l) ls ≡ false
not_opposite l [] h g = refl
not_opposite l (k ∷ ls) h g =
    let r = neither (stands (opposite k) ls) (has_both ls) h in
    by_first (same_literal l k) refl r.0 r.1 (λ there. not_opposite l ls r.1 there) g
  where
    differ : (k : Lit) → same_literal (opposite k) k ≡ false
    differ k = by_sign k.positive
      where
        by_sign : (p : Bool) → ((k.var == k.var) && beq (not p) p) ≡ false
        by_sign true = and_false (k.var == k.var)
          where
            and_false : (b : Bool) → (b && false) ≡ false
            and_false true = refl
            and_false false = refl
        by_sign false = and_false (k.var == k.var)
          where
            and_false : (b : Bool) → (b && false) ≡ false
            and_false true = refl
            and_false false = refl

    other : (b : Bool) → same_literal (opposite l) k ≡ b → stands (opposite k) ls ≡ false → stands l ls ≡ true → b ≡ false
    other true e none there =
        let is : opposite l ≡ k = same_one (opposite l) k e in
        let back : l ≡ opposite k = sym (opposite_twice l) ∙ ap opposite is in
        absurd (clash (stands l ls) (ap not (ap (λ x. stands x ls) back ∙ none)) there)
    other false e none there = refl

    by_first : (b : Bool) → same_literal l k ≡ b → stands (opposite k) ls ≡ false → has_both ls ≡ false → (stands l ls ≡ true → stands (opposite l) ls ≡ false) → (b || stands l ls) ≡ true → (same_literal (opposite l) k || stands (opposite l) ls) ≡ false
    by_first true e none fine rest there =
        let is : l ≡ k = same_one l k e in
        subst (λ x. (same_literal (opposite x) k || stands (opposite x) ls) ≡ false) (sym is) (both_false (same_literal (opposite k) k) (stands (opposite k) ls) (differ k) none)
    by_first false e none fine rest there =
        both_false (same_literal (opposite l) k) (stands (opposite l) ls) (other (same_literal (opposite l) k) refl none there) (rest there)

-- no literal of a variable that stands nowhere
pub no_sign : (l : Lit) (v : ℕ) (ls : List Lit) → l.var ≡ v → list_any (λ (k : Lit). k.var == v) ls ≡ false → stands l ls ≡ false
no_sign l v [] e h = refl
no_sign l v (k ∷ ls) e h =
    let r = neither (k.var == v) (list_any (λ (k : Lit). k.var == v) ls) h in
    both_false (same_literal l k) (stands l ls) (differs (same_literal l k) refl r.0) (no_sign l v ls e r.1)
  where
    differs : (b : Bool) → same_literal l k ≡ b → (k.var == v) ≡ false → b ≡ false
    differs true h g =
        let is : l.var ≡ k.var = ap (λ (x : Lit). x.var) (same_one l k h) in
        let there : (k.var == v) ≡ true = grind arith in
        absurd (clash (k.var == v) (ap not g) there)
    differs false h g = refl

-- a variable more, at the end
pub distinct_push : (ls : List Lit) (l : Lit) → has_no_variable_twice ls ≡ true → list_any (λ (k : Lit). k.var == l.var) ls ≡ false → has_no_variable_twice (ls ++ l ∷ []) ≡ true
distinct_push [] l h g = refl
distinct_push (k ∷ ls) l h g =
    let r = both (not (list_any (λ (m : Lit). m.var == k.var) ls)) (has_no_variable_twice ls) h in
    let n = neither (k.var == l.var) (list_any (λ (m : Lit). m.var == l.var) ls) g in
    let push : list_any (λ (m : Lit). m.var == k.var) (ls ++ l ∷ []) ≡ (list_any (λ (m : Lit). m.var == k.var) ls || ((l.var == k.var) || false)) = list_any-append (λ (m : Lit). m.var == k.var) ls (l ∷ []) in
    let here : (l.var == k.var) ≡ false = flip n.0 in
    let none : list_any (λ (m : Lit). m.var == k.var) (ls ++ l ∷ []) ≡ false = push ∙ both_false (list_any (λ (m : Lit). m.var == k.var) ls) ((l.var == k.var) || false) (not_is (list_any (λ (m : Lit). m.var == k.var) ls) r.0) (both_false (l.var == k.var) false here refl) in
    ap (λ b. not b && has_no_variable_twice (ls ++ l ∷ [])) none ∙ distinct_push ls l r.1 n.1
  where
    flip : (k.var == l.var) ≡ false → (l.var == k.var) ≡ false
    flip e = grind arith

    not_is : (b : Bool) → not b ≡ true → b ≡ false
    not_is true h = absurd (cc)
    not_is false h = refl

-- some variable stands in both signs in more literals too
pub has_both_left : (ls more : List Lit) → has_both ls ≡ true → has_both (ls ++ more) ≡ true
has_both_left [] more h = absurd (cc)
has_both_left (l ∷ ls) more h = by_first (stands (opposite l) ls) refl (λ e. has_both_left ls more e)
  where
    by_first : (b : Bool) → stands (opposite l) ls ≡ b → (has_both ls ≡ true → has_both (ls ++ more) ≡ true) → has_both ((l ∷ ls) ++ more) ≡ true
    by_first true e rest = or_left (stands (opposite l) (ls ++ more)) (has_both (ls ++ more)) (list_any-append (same_literal (opposite l)) ls more ∙ or_left (stands (opposite l) ls) (stands (opposite l) more) e)
    by_first false e rest = or_right (stands (opposite l) (ls ++ more)) (has_both (ls ++ more)) (rest (sym (ap (λ b. b || has_both ls) e) ∙ h))

-- what is a fact of each literal stays one
pub all_once : (p : Lit → Bool) (kept ls : List Lit) → list_all p kept ≡ true → list_all p ls ≡ true → list_all p (once_onto kept ls) ≡ true
all_once p kept [] h g = h
all_once p kept (l ∷ ls) h g =
    let r = both (p l) (list_all p ls) g in
    all_once p (if stands l kept then kept else kept ++ l ∷ []) ls (by_test (stands l kept) r.0) r.1
  where
    by_test : (b : Bool) → p l ≡ true → list_all p (if b then kept else kept ++ l ∷ []) ≡ true
    by_test true i = h
    by_test false i = all_append p kept (l ∷ []) h (two (p l) true i refl)

-- what is kept of literals that were taken
pub record Kept (taken kept : List Lit) : Type 0 where
  pub fine : has_both taken ≡ false
  pub once : kept ≡ once_onto [] taken
  pub distinct : has_no_variable_twice kept ≡ true

abbrev with_sign : Lit → Bool → Lit
with_sign l sign = record { var = l.var; positive = sign }

pub kept_none : Kept [] []
kept_none = record { fine = refl; once = refl; distinct = refl }

module _ (taken kept : List Lit) (l : Lit) (k : Kept taken kept) where
  stands_kept : (m : Lit) → stands m taken ≡ stands m kept
  stands_kept m = sym (stands_in_once m taken) ∙ ap (stands m) (sym k.once)

  pushed_once : (b : Bool) → stands l kept ≡ b → once_onto [] (taken ++ l ∷ []) ≡ (if b then kept else kept ++ l ∷ [])
  pushed_once b e =
      once_push [] taken l ∙ ap (λ t. if stands l t then t else t ++ l ∷ []) (sym k.once)
      ∙ ap (λ b. if b then kept else kept ++ l ∷ []) e

  -- a literal that stands already
  pub kept_same : (sign : Bool) → stands (with_sign l sign) kept ≡ true → sign ≡ l.positive → Kept (taken ++ l ∷ []) kept
  kept_same sign h e =
      let there : stands l kept ≡ true = ap (λ m. stands m kept) (same_literal_value l (with_sign l sign) refl (sym e)) ∙ h in
      let none = not_opposite l taken k.fine (stands_kept l ∙ there) in
      record {
        fine = has_both_push taken l ∙ both_false (has_both taken) (stands (opposite l) taken) k.fine none;
        once = sym (pushed_once true there);
        distinct = k.distinct;
      }

  -- one whose variable stands nowhere
  pub kept_new : list_any (λ (m : Lit). m.var == l.var) kept ≡ false → Kept (taken ++ l ∷ []) (kept ++ l ∷ [])
  kept_new none =
      let not_there = no_sign l l.var kept refl none in
      let other = no_sign (opposite l) l.var kept refl none in
      record {
        fine = has_both_push taken l ∙ both_false (has_both taken) (stands (opposite l) taken) k.fine (stands_kept (opposite l) ∙ other);
        once = sym (pushed_once false not_there);
        distinct = distinct_push kept l k.distinct none;
      }

  -- one whose opposite stands
  pub kept_both : (sign : Bool) (more : List Lit) → stands (with_sign l sign) kept ≡ true → (sign ≡ l.positive → ⊥) → has_both ((taken ++ l ∷ []) ++ more) ≡ true
  kept_both sign more h e =
      let there : stands (opposite l) kept ≡ true = ap (λ m. stands m kept) (same_literal_value (opposite l) (with_sign l sign) refl (sym (other sign l.positive e))) ∙ h in
      has_both_left (taken ++ l ∷ []) more (has_both_push taken l ∙ or_right (has_both taken) (stands (opposite l) taken) (stands_kept (opposite l) ∙ there))
    where
      other : (a b : Bool) → (a ≡ b → ⊥) → a ≡ not b
      other true true h = absurd (h refl)
      other true false h = refl
      other false true h = refl
      other false false h = absurd (h refl)

-- the turns of the loop over the literals
module _ (lits kept slice : List Lit) (i : ℕ) (k : Kept (take i lits) kept) (low : i < length lits) (is : slice ≡ kept) where
  abbrev lit : Lit
  lit = get_or lits i (record { var = 0; positive = false })

  one_more : take (i + 1) lits ≡ take i lits ++ lit ∷ []
  one_more = take_more lits i (record { var = 0; positive = false }) low

  pub turn_same : (sign : Bool) (next : List Lit) → stands (with_sign lit sign) slice ≡ true → not (beq sign lit.positive) ≡ false → next ≡ kept → Kept (take (i + 1) lits) next
  turn_same sign next h g e =
      subst (Kept (take (i + 1) lits)) (sym e) (subst (λ t. Kept t kept) (sym one_more)
      (kept_same (take i lits) kept lit k sign (ap (stands (with_sign lit sign)) (sym is) ∙ h) (same_bool sign lit.positive (not_false (beq sign lit.positive) g))))
    where
      not_false : (b : Bool) → not b ≡ false → b ≡ true
      not_false true h = refl
      not_false false h = absurd (cc)

  pub turn_new : (next : List Lit) → list_any (λ (m : Lit). m.var == lit.var) slice ≡ false → next ≡ kept ++ lit ∷ [] → Kept (take (i + 1) lits) next
  turn_new next h e =
      subst (Kept (take (i + 1) lits)) (sym e) (subst (λ t. Kept t (kept ++ lit ∷ [])) (sym one_more)
      (kept_new (take i lits) kept lit k (ap (list_any (λ (m : Lit). m.var == lit.var)) (sym is) ∙ h)))

  pub turn_both : (sign : Bool) → stands (with_sign lit sign) slice ≡ true → not (beq sign lit.positive) ≡ true → has_both lits ≡ true
  turn_both sign h g =
      ap has_both (sym (take-append-drop (i + 1) lits) ∙ ap (λ t. t ++ drop (i + 1) lits) one_more)
      ∙ kept_both (take i lits) kept lit k sign (drop (i + 1) lits) (ap (stands (with_sign lit sign)) (sym is) ∙ h) (λ e. clash (beq sign lit.positive) g (ap (beq sign) (sym e) ∙ beq_refl sign))

-- the clauses with one more, which was kept of literals in range
pub clauses_more : (vars : ℕ) (clauses : List Clause) (c : Clause) (lits : List Lit) → clauses_in_range vars clauses ≡ true → list_all (in_range vars) lits ≡ true → c.lits ≡ once_onto [] lits → clauses_in_range vars (clauses ++ c ∷ []) ≡ true
clauses_more vars clauses c lits h g e =
    all_append (λ (c : Clause). list_all (in_range vars) c.lits) clauses (c ∷ []) h
    (two (list_all (in_range vars) c.lits) true (ap (list_all (in_range vars)) e ∙ all_once (in_range vars) [] lits refl g) refl)
