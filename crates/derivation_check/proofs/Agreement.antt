-- Marks and the literals that they stand for.
use Rattle.std.proofs.Common.{◌≡◌, ℕ, zero, suc, ◌<◌, ◌≤◌, ◌+◌, ◌-◌, Bool, true, false, not, ◌&&◌, ◌||◌, List, [], ◌∷◌, ◌++◌, All, filter, map, take, get_or, set, length, refl, sym, ap, ◌∙◌, Some, arith, eqb, inl, inr, subst, get_or-set_same, get_or-set_other, length-set, ◌⊎◌, slice_get, ◌==◌}
use Rattle.std.specs.Bool.{beq}
use Rattle.std.specs.List.{list_any}
use Rattle.std.proofs.lemmas.Bool.{cases_eq, ne_eqb, eq-eqb, and_left, or_parts, and_parts, not-true}
use Rattle.std.proofs.lemmas.List.Elements.{All-head, All-tail, All-filter, filter_passes, All-set}
use Rattle.std.proofs.lemmas.List.{map_push}
use Rattle.clause_base.specs.declared.lit.Lit.{Lit}
use Rattle.clause_base.specs.Literals.{has_no_variable_twice, opposite, same_literal}
use Rattle.clause_base.specs.Follows.{is_false, open_literals, by_open}
use Rattle.derivation_check.specs.Marks.{Agrees, AllBefore, Covers, mark_at, mark_true, scan_of}
use Rattle.derivation_check.specs.declared.marks.Mark.{Mark}
use Rattle.clause_base.specs.declared.answer.StepAnswer.{StepAnswer}
use Rattle.clause_base.specs.declared.answer.StepAnswer.TheVariants.{Good, NotUnit}
use Rattle.derivation_check.specs.declared.marks.Scan.TheVariants.{Closed, One, Many}

-- before a step no literal is marked
pub agrees_none : (marks : List Mark) (stamp : ℕ) → AllBefore stamp marks → Agrees marks stamp []
agrees_none marks stamp before = record { each = λ l some within. and_left (eqb (mark_at marks l.var).stamp stamp) (beq (mark_at marks l.var).positive l.positive) (ne_eqb (mark_at marks l.var).stamp stamp (λ (e : (mark_at marks l.var).stamp ≡ stamp). let below : (mark_at marks l.var).stamp < stamp = before.each (l.var - 1) (record { stamp = 0; positive = false }) (omega arith) in omega arith)) }

or_turn : (a b c : Bool) → (a || (b || c)) ≡ (b || (a || c))
or_turn true true c = refl
or_turn true false c = refl
or_turn false true c = refl
or_turn false false c = refl

beq_same : (a : Bool) → beq a a ≡ true
beq_same true = refl
beq_same false = refl

same_sign : (a b : Bool) → (beq a b ≡ true) ⊎ (a ≡ not b)
same_sign true true = inl refl
same_sign true false = inr refl
same_sign false true = inr refl
same_sign false false = inl refl

beq_flip : (a b : Bool) → beq a b ≡ beq b a
beq_flip true true = refl
beq_flip true false = refl
beq_flip false true = refl
beq_flip false false = refl

beq_not : (b : Bool) → beq b (not b) ≡ (beq (not b) b || false)
beq_not true = refl
beq_not false = refl

literal_of : ℕ → Bool → Lit
literal_of v p = record { var = v; positive = p }

mark_same : (marks : List Mark) (v : ℕ) (m : Mark) → 0 < v → v ≤ length marks → mark_at (set marks (v - 1) m) v ≡ m
mark_same marks v m some within = get_or-set_same marks (v - 1) m (record { stamp = 0; positive = false }) (omega arith)

mark_other : (marks : List Mark) (v k : ℕ) (m : Mark) → 0 < v → 0 < k → (k ≡ v → ⊥) → mark_at (set marks (v - 1) m) k ≡ mark_at marks k
mark_other marks v k m some some' apart = get_or-set_other marks (v - 1) (k - 1) m (record { stamp = 0; positive = false }) (λ (e : k - 1 ≡ v - 1). apart (omega arith))

test : ℕ → Mark → Lit → Bool
test stamp m k = (eqb m.stamp stamp) && beq m.positive k.positive

-- the same variable: marked where it is the same literal
same_var : (stamp : ℕ) (known : List Lit) (k l : Lit) → k.var ≡ l.var → is_false known l ≡ false
    → test stamp (record { stamp = stamp; positive = l.positive }) k ≡ (same_literal k l || list_any (same_literal k) known)
unfolding test literal_of
same_var stamp known k l e open_here =
    let mine : eqb stamp stamp ≡ true = eq-eqb stamp stamp refl in
    let vars : eqb k.var l.var ≡ true = eq-eqb k.var l.var e in
    elim (same_sign k.positive l.positive) [
      | inl same ↦ rw (mine, vars, same) (beq_flip l.positive k.positive ∙ same)
      | inr flipped ↦
          let is : literal_of k.var k.positive ≡ literal_of l.var (not l.positive) = cc in
          let none : list_any (same_literal k) known ≡ false = ap (λ (o : Lit). list_any (same_literal o) known) is ∙ open_here in
          rw (mine, vars, none, flipped) (beq_not l.positive)
    ]

-- a literal that isn't false is marked
pub agrees_set : (marks : List Mark) (stamp : ℕ) (known : List Lit) (l : Lit) → Agrees marks stamp known → 0 < l.var → l.var ≤ length marks
    → is_false known l ≡ false → Agrees (set marks (l.var - 1) (record { stamp = stamp; positive = l.positive })) stamp (l ∷ known)
unfolding test
agrees_set marks stamp known l agrees some within open_here = record {
  each = λ k k_some k_within.
      let m : Mark = record { stamp = stamp; positive = l.positive } in
      elim (cases_eq k.var l.var) [
        | inl e ↦ ap (λ v. test stamp (mark_at (set marks (l.var - 1) m) v) k) e ∙ ap (λ x. test stamp x k) (mark_same marks l.var m some within) ∙ same_var stamp known k l e open_here
        | inr apart ↦
            let other : eqb k.var l.var ≡ false = ne_eqb k.var l.var apart in
            let w : k.var ≤ length marks = omega (arith, length-set {A = Mark}) in
            ap (λ x. test stamp x k) (mark_other marks l.var k.var m some k_some apart) ∙ agrees.each k k_some w ∙ rw other refl
      ];
}

-- where the marks agree, the same literals of a clause are open
pub open_same : (marks : List Mark) (stamp : ℕ) (known c : List Lit) → Agrees marks stamp known → Covers (length marks) c
    → filter (λ l. not (mark_true marks stamp (opposite l))) c ≡ open_literals known c
open_same marks stamp known [] agrees covers = refl
open_same marks stamp known (l ∷ ls) agrees covers =
    let P : Lit → Type 0 = λ l. (0 < l.var) × (l.var ≤ length marks) in
    let here : P l = All-head P l ls covers in
    let at : mark_true marks stamp (opposite l) ≡ is_false known l = agrees.each (opposite l) here.0 here.1 in
    let rest = open_same marks stamp known ls agrees (All-tail P l ls covers) in
    rw (at, rest) refl

-- what a look over a clause means for the rest
pub closed_open : (xs : List Lit) (place : ℕ) (next : Lit → StepAnswer) → Closed ≡ scan_of xs → Good ≡ by_open xs place next
closed_open [] place next h = refl
closed_open (l ∷ []) place next h = cc
closed_open (l ∷ m ∷ ls) place next h = cc

pub one_open : (xs : List Lit) (place : ℕ) (next : Lit → StepAnswer) (l : Lit) → One l ≡ scan_of xs → next l ≡ by_open xs place next
one_open [] place next l h = cc
one_open (m ∷ []) place next l h = let same : l ≡ m = cc in ap next same
one_open (m ∷ n ∷ ls) place next l h = cc

pub many_open : (xs : List Lit) (place : ℕ) (next : Lit → StepAnswer) → Many ≡ scan_of xs → NotUnit place ≡ by_open xs place next
many_open [] place next h = cc
many_open (l ∷ []) place next h = cc
many_open (l ∷ m ∷ ls) place next h = refl

-- the one open literal of a clause is open, and within the variables
pub filter_one : (p : Lit → Bool) (c : List Lit) (l : Lit) → filter p c ≡ l ∷ [] → p l ≡ true
filter_one p c l h = let P : Lit → Type 0 = λ x. p x ≡ true in All-head P l [] (subst (All P) h (filter_passes p c))

pub covers_one : (p : Lit → Bool) (vars : ℕ) (c : List Lit) (l : Lit) → Covers vars c → filter p c ≡ l ∷ [] → (0 < l.var) × (l.var ≤ vars)
covers_one p vars c l covers h = let P : Lit → Type 0 = λ l. (0 < l.var) × (l.var ≤ vars) in All-head P l [] (subst (All P) h (All-filter p P c covers))

pub one_of : (xs : List Lit) (l : Lit) → One l ≡ scan_of xs → xs ≡ l ∷ []
one_of [] l h = cc
one_of (m ∷ []) l h = cc
one_of (m ∷ n ∷ ls) l h = cc

-- a variable that stands before in no literal
no_such : (m : Lit) (xs : List Lit) → list_any (λ k. k.var == m.var) xs ≡ false → list_any (same_literal m) (map opposite xs) ≡ false
no_such m [] h = refl
no_such m (x ∷ xs) h =
    let parts = or_parts (x.var == m.var) (list_any (λ k. k.var == m.var) xs) h in
    let other : eqb m.var x.var ≡ false = ne_eqb m.var x.var (λ (e : m.var ≡ x.var). let same : eqb x.var m.var ≡ true = eq-eqb x.var m.var (sym e) in cc) in
    let rest = no_such m xs parts.1 in
    rw (other, rest) refl

any_at : (f : Lit → Bool) (xs : List Lit) (i : ℕ) (x : Lit) → list_any f xs ≡ false → slice_get xs i ≡ Some x → f x ≡ false
any_at f [] i x h e = cc
any_at f (y ∷ ys) zero x h e = let same : y ≡ x = cc in ap f (sym same) ∙ (or_parts (f y) (list_any f ys) h).0
any_at f (y ∷ ys) (suc i) x h e = any_at f ys i x (or_parts (f y) (list_any f ys) h).1 e

any_turn : (f : Lit → Bool) (xs : List Lit) (x : Lit) → list_any f (xs ++ x ∷ []) ≡ (f x || list_any f xs)
any_turn f [] x = refl
any_turn f (y ∷ ys) x = rw (any_turn f ys x) (or_turn (f y) (f x) (list_any f ys))

-- the order of the literals that are true is all one
agrees_turn : (marks : List Mark) (stamp : ℕ) (known : List Lit) (l : Lit) → Agrees marks stamp (l ∷ known) → Agrees marks stamp (known ++ l ∷ [])
agrees_turn marks stamp known l agrees = record { each = λ k some within. agrees.each k some within ∙ sym (any_turn (same_literal k) known l) }

-- of a clause no variable of a literal stands before it
pub distinct_before : (c : List Lit) (i : ℕ) (x : Lit) → has_no_variable_twice c ≡ true → slice_get c i ≡ Some x → list_any (λ k. k.var == x.var) (take i c) ≡ false
distinct_before [] i x h e = cc
distinct_before (l ∷ ls) zero x h e = refl
distinct_before (l ∷ ls) (suc i) x h e =
    let parts = and_parts (not (list_any (λ k. k.var == l.var) ls)) (has_no_variable_twice ls) h in
    let none : list_any (λ k. k.var == l.var) ls ≡ false = not-true (list_any (λ k. k.var == l.var) ls) parts.0 in
    let this : eqb x.var l.var ≡ false = any_at (λ k. k.var == l.var) ls i x none e in
    let other : eqb l.var x.var ≡ false = ne_eqb l.var x.var (λ (q : l.var ≡ x.var). let same : eqb x.var l.var ≡ true = eq-eqb x.var l.var (sym q) in cc) in
    let rest = distinct_before ls i x parts.1 e in
    rw (other, rest) refl

-- one literal more is taken as false
pub agrees_more : (marks : List Mark) (stamp : ℕ) (c : List Lit) (i : ℕ) (l : Lit) → has_no_variable_twice c ≡ true → slice_get c i ≡ Some l → take (i + 1) c ≡ take i c ++ l ∷ []
    → Agrees marks stamp (map opposite (take i c)) → 0 < l.var → l.var ≤ length marks
    → Agrees (set marks (l.var - 1) (record { stamp = stamp; positive = not l.positive })) stamp (map opposite (take (i + 1) c))
agrees_more marks stamp c i l distinct here more agrees some within =
    let o : Lit = opposite l in
    let none : is_false (map opposite (take i c)) o ≡ false = no_such (opposite o) (take i c) (distinct_before c i l distinct here) in
    let known : map opposite (take (i + 1) c) ≡ map opposite (take i c) ++ o ∷ [] = ap (map opposite) more ∙ map_push opposite (take i c) l in
    subst (Agrees (set marks (l.var - 1) (record { stamp = stamp; positive = not l.positive })) stamp) (sym known)
    (agrees_turn _ stamp (map opposite (take i c)) o (agrees_set marks stamp (map opposite (take i c)) o agrees some within none))

pub before_set : (marks : List Mark) (stamp i : ℕ) (p : Bool) → AllBefore (stamp + 1) marks → AllBefore (stamp + 1) (set marks i (record { stamp = stamp; positive = p }))
before_set marks stamp i p before = let m : Mark = record { stamp = stamp; positive = p } in let P : Mark → Type 0 = λ m. m.stamp < stamp + 1 in
    let now : m.stamp < stamp + 1 = omega arith in
    record { positive = before.positive; each = All-set P marks i m now before.each }

pub before_more : (marks : List Mark) (stamp : ℕ) → AllBefore stamp marks → AllBefore (stamp + 1) marks
before_more marks stamp before = record { positive = omega arith; each = λ k d h. let b : (get_or marks k d).stamp < stamp = before.each k d h in omega arith }
