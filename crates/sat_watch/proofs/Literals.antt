-- Literals among others.
use Rattle.std.proofs.Common.{◌≡◌, ◌<◌, zero, suc, arith, get_or, length, ℕ, Bool, true, false, not, ◌||◌, slice_get, Some, List, [], ◌∷◌, take, refl, sym, ap, ◌∙◌, eqb, eqb-true, eq-eqb, inl, inr, ◌⊎◌, subst}
use Rattle.std.specs.Bool.{beq}
use Rattle.std.proofs.lemmas.Bool.{and_parts, cases_Bool}
use Rattle.clause_base.specs.declared.lit.Lit.{Lit}
use Rattle.clause_base.specs.Literals.{opposite, same_literal}
use Rattle.std.specs.Option.{option_map_or}
use Rattle.clause_base.specs.declared.clause.Clause.{Clause}
use Rattle.clause_base.specs.Follows.{is_false, literals_at, open_literals}
use Rattle.sat_watch.specs.Trails.{is_among}

beq_same : (a : Bool) → beq a a ≡ true
beq_same true = refl
beq_same false = refl

same_bool : (a b : Bool) → beq a b ≡ true → a ≡ b
same_bool true true h = refl
same_bool true false h = cc
same_bool false true h = cc
same_bool false false h = refl

not_not : (a : Bool) → not (not a) ≡ a
not_not true = refl
not_not false = refl

not_same : (a : Bool) → not a ≡ a → (b c : Bool) → b ≡ c
not_same true h b c = cc
not_same false h b c = cc

pub or_right : (a b : Bool) → b ≡ true → (a || b) ≡ true
or_right true b h = refl
or_right false b h = h

literal : ℕ → Bool → Lit
literal v p = record { var = v; positive = p }

pub same_is : (a b : Lit) → same_literal a b ≡ true → a ≡ b
unfolding literal
same_is a b h =
    let parts = and_parts (eqb a.var b.var) (beq a.positive b.positive) h in
    let vars : a.var ≡ b.var = eqb-true a.var b.var parts.0 in
    let signs : a.positive ≡ b.positive = same_bool a.positive b.positive parts.1 in
    let is : literal a.var a.positive ≡ literal b.var b.positive = cc in
    is

pub same_self : (a : Lit) → same_literal a a ≡ true
same_self a = let vars : eqb a.var a.var ≡ true = eq-eqb a.var a.var refl in rw vars (beq_same a.positive)

pub opposite_back : (l : Lit) → opposite (opposite l) ≡ l
unfolding literal
opposite_back l = ap (literal l.var) (not_not l.positive)

pub never_opposite : (l : Lit) → opposite l ≡ l → (b c : Bool) → b ≡ c
never_opposite l h = not_same l.positive (ap (λ (k : Lit). k.positive) h)

pub among_here : (l : Lit) (ks : List Lit) → is_among l (l ∷ ks) ≡ true
among_here l ks = let here = same_self l in rw here refl

pub among_there : (l k : Lit) (ks : List Lit) → is_among l ks ≡ true → is_among l (k ∷ ks) ≡ true
among_there l k ks h = or_right (same_literal l k) (is_among l ks) h

pub among_cases : (l k : Lit) (ks : List Lit) → is_among l (k ∷ ks) ≡ true → (l ≡ k) ⊎ (is_among l ks ≡ true)
among_cases l k ks h =
    elim (cases_Bool (same_literal l k)) [
      | inl same ↦ inl (same_is l k same)
      | inr other ↦ inr (sym (ap (λ b. b || is_among l ks) other) ∙ h)
    ]

-- where the same literals of a clause are false, the same are open
pub open_agree : (older assumed c : List Lit) → ((l : Lit) → is_among l c ≡ true → is_false assumed l ≡ is_false older l) → open_literals assumed c ≡ open_literals older c
open_agree older assumed [] h = refl
open_agree older assumed (l ∷ ls) h =
    let here : is_false assumed l ≡ is_false older l = h l (among_here l ls) in
    let rest = open_agree older assumed ls (λ m w. h m (among_there m l ls w)) in
    rw (here, rest) refl

pub among_open : (known c : List Lit) (l : Lit) → is_among l c ≡ true → is_false known l ≡ false → is_among l (open_literals known c) ≡ true
among_open known [] l h up = h
among_open known (k ∷ ks) l h up =
    elim (cases_Bool (is_false known k)) [
      | inl down ↦
          elim (among_cases l k ks h) [
            | inl same ↦ let clash : is_false known l ≡ true = ap (is_false known) same ∙ down in cc
            | inr later ↦ rw down (among_open known ks l later up)
          ]
      | inr here ↦
          elim (among_cases l k ks h) [
            | inl same ↦ rw here (ap (λ (x : Lit). is_among l (x ∷ open_literals known ks)) (sym same) ∙ among_here l (open_literals known ks))
            | inr later ↦ rw here (among_there l k (open_literals known ks) (among_open known ks l later up))
          ]
    ]

pub among_read : (ls : List Lit) (i : ℕ) (d : Lit) → i < length ls → is_among (get_or ls i d) ls ≡ true
among_read [] i d within = absurd (omega arith)
among_read (l ∷ ls) zero d within = among_here l ls
among_read (l ∷ ls) (suc i) d within = among_there (get_or ls i d) l ls (among_read ls i d (omega arith))

pub among_take : (ls : List Lit) (n : ℕ) (l : Lit) → is_among l (take n ls) ≡ true → is_among l ls ≡ true
among_take [] zero l h = h
among_take [] (suc n) l h = h
among_take (k ∷ ks) zero l h = cc
among_take (k ∷ ks) (suc n) l h = elim (among_cases l k (take n ks) h) [
  | inl same ↦ ap (λ (m : Lit). is_among m (k ∷ ks)) same ∙ among_here k ks
  | inr later ↦ among_there l k ks (among_take ks n l later)
]

-- a clause with a literal that isn't false has an open one
pub open_read : (known c : List Lit) (i : ℕ) (d : Lit) → i < length c → is_false known (get_or c i d) ≡ false → open_literals known c ≡ [] → ⊥
open_read known c i d within up none =
    let stands : is_among (get_or c i d) (open_literals known c) ≡ true = among_open known c (get_or c i d) (among_read c i d within) up in
    let clash : is_among (get_or c i d) [] ≡ true = subst (λ (ls : List Lit). is_among (get_or c i d) ls ≡ true) none stands in
    cc

pub literals_is : (clauses : List Clause) (k : ℕ) (c : Clause) → slice_get clauses k ≡ Some c → literals_at clauses k ≡ c.lits
literals_is clauses k c here = ap (λ o. option_map_or (λ (d : Clause). d.lits) o []) here
