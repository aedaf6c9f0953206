-- The sign of a variable among literals.
use Rattle.std.proofs.Common.{◌≡◌, ℕ, ◌==◌, List, [], ◌∷◌, ◌++◌, true, false, ◌||◌, refl, sym, Some, None, arith}
use Rattle.std.specs.Prelude.{Bool, Option, MatchOption, if◌then◌else◌}
use Rattle.std.specs.List.{list_any}
use Rattle.clause_base.specs.Literals.{same_literal}
use Rattle.clause_base.specs.declared.lit.Lit.{Lit}
use Rattle.dimacs_text.specs.Signs.{first_sign}
use Rattle.dimacs_text.specs.Tidy.{stands}
use Rattle.dimacs_text.proofs.Tidying.{neither, or_left, or_right, same_self}

abbrev lit : ℕ → Bool → Lit
lit var positive = record { var = var; positive = positive }

-- whether a variable is that of a literal
abbrev has : ℕ → List Lit → Bool
has v ls = list_any (λ (k : Lit). k.var == v) ls

match_more : (o : Option Bool) (P R : Type 0) (Q S : Bool → Type 0) → (P → R) → ((s : Bool) → Q s → S s) → MatchOption o P Q → MatchOption o R S
match_more None P R Q S f g h = f h
match_more (Some s) P R Q S f g h = g s h

own_sign : (v : ℕ) (l : Lit) → (l.var == v) ≡ true → same_literal (lit v l.positive) l ≡ true
own_sign v l e = let is : l.var ≡ v = grind arith in rw (sym is) (same_self l)

told_more : (v : ℕ) (l : Lit) (ls : List Lit) (t : Bool) → (l.var == v) ≡ t → MatchOption (first_sign v ls) (has v ls ≡ false) (λ s. stands (lit v s) ls ≡ true)
    → MatchOption (if t then Some l.positive else first_sign v ls) ((t || has v ls) ≡ false) (λ s. (same_literal (lit v s) l || stands (lit v s) ls) ≡ true)
told_more v l ls true e h = or_left (same_literal (lit v l.positive) l) (stands (lit v l.positive) ls) (own_sign v l e)
told_more v l ls false e h =
    match_more (first_sign v ls) (has v ls ≡ false) (has v ls ≡ false) (λ s. stands (lit v s) ls ≡ true) (λ s. (same_literal (lit v s) l || stands (lit v s) ls) ≡ true)
    (λ p. p) (λ s q. or_right (same_literal (lit v s) l) (stands (lit v s) ls) q) h

pub sign_told : (v : ℕ) (ls : List Lit) → MatchOption (first_sign v ls) (has v ls ≡ false) (λ s. stands (lit v s) ls ≡ true)
sign_told v [] = refl
sign_told v (l ∷ ls) = told_more v l ls (l.var == v) refl (sign_told v ls)

not_both : (a b v : ℕ) → (a == v) ≡ true → (b == v) ≡ true → (a == b) ≡ false → ⊥
not_both a b v p q r = grind arith

push_more : (v : ℕ) (k l : Lit) (ks : List Lit) (t u : Bool) → (k.var == v) ≡ t → (l.var == v) ≡ u → (k.var == l.var) ≡ false
    → first_sign v (ks ++ l ∷ []) ≡ (if u then Some l.positive else first_sign v ks)
    → (if t then Some k.positive else first_sign v (ks ++ l ∷ [])) ≡ (if u then Some l.positive else (if t then Some k.positive else first_sign v ks))
push_more v k l ks true true p q differ h = absurd (not_both k.var l.var v p q differ)
push_more v k l ks true false p q differ h = refl
push_more v k l ks false true p q differ h = h
push_more v k l ks false false p q differ h = h

-- the signs with one literal more, whose variable wasn't there
pub sign_pushed : (v : ℕ) (ls : List Lit) (l : Lit) → has l.var ls ≡ false → first_sign v (ls ++ l ∷ []) ≡ (if l.var == v then Some l.positive else first_sign v ls)
sign_pushed v [] l none = refl
sign_pushed v (k ∷ ks) l none =
    let parts = neither (k.var == l.var) (has l.var ks) none in
    push_more v k l ks (k.var == v) (l.var == v) refl refl parts.0 (sign_pushed v ks l parts.1)
