-- The greatest variable of some literals and of one more.
use Rattle.std.proofs.Common.{◌≡◌, ℕ, ◌<◌, ◌≤◌, ◌+◌, Bool, true, false, ◌||◌, ◌==◌, List, [], ◌∷◌, ◌++◌, All, take, get_or, length, arith, refl, sym, ap, ◌∙◌, eq-eqb, inl, inr, subst}
use Rattle.std.specs.List.{list_any}
use Rattle.std.proofs.lemmas.List.{take_more}
use Rattle.std.proofs.lemmas.List.Elements.{All-push}
use Rattle.std.proofs.lemmas.List.Folds.{list_any_more}
use Rattle.clause_base.specs.declared.lit.Lit.{Lit}
use Rattle.clause_base.specs.Literals.{IsGreatest}

or_left : (a b : Bool) → a ≡ true → (a || b) ≡ true
or_left true b h = refl
or_left false b h = cc

or_right : (a b : Bool) → b ≡ true → (a || b) ≡ true
or_right true b h = refl
or_right false b h = h

-- each variable is at most a greater number
most_more : (v w : ℕ) (lits : List Lit) → v ≤ w → All (λ l. l.var ≤ v) lits → All (λ l. l.var ≤ w) lits
most_more v w lits h all = λ k d within. let here : (get_or lits k d).var ≤ v = all k d within in omega arith

greatest_most : (v w : ℕ) (lits : List Lit) (i : ℕ) (d l : Lit) → i < length lits → get_or lits i d ≡ l → v ≤ w → l.var ≤ w
    → All (λ x. x.var ≤ v) (take i lits) → All (λ x. x.var ≤ w) (take (i + 1) lits)
greatest_most v w lits i d l within here up low all =
    let more : take (i + 1) lits ≡ take i lits ++ l ∷ [] = take_more lits i d within ∙ ap (λ x. take i lits ++ x ∷ []) here in
    subst (All (λ (x : Lit). x.var ≤ w)) (sym more) (All-push (λ (x : Lit). x.var ≤ w) (take i lits) l (most_more v w (take i lits) up all) low)

pub greatest_here : (v : ℕ) (lits : List Lit) (i : ℕ) (d l : Lit) → i < length lits → get_or lits i d ≡ l → v < l.var → IsGreatest v (take i lits) → IsGreatest l.var (take (i + 1) lits)
greatest_here v lits i d l within here above h =
    let mine : list_any (λ x. x.var == l.var) (take (i + 1) lits) ≡ (list_any (λ x. x.var == l.var) (take i lits) || ((get_or lits i d).var == l.var)) = list_any_more (λ x. x.var == l.var) lits i d within in
    let is : ((get_or lits i d).var == l.var) ≡ true = eq-eqb (get_or lits i d).var l.var (ap (λ (x : Lit). x.var) here) in
    record {
      most = greatest_most v l.var lits i d l within here (omega arith) (omega arith) h.most;
      stands = inr (mine ∙ or_right (list_any (λ x. x.var == l.var) (take i lits)) ((get_or lits i d).var == l.var) is);
    }

pub greatest_stays : (v : ℕ) (lits : List Lit) (i : ℕ) (d l : Lit) → i < length lits → get_or lits i d ≡ l → l.var ≤ v → IsGreatest v (take i lits) → IsGreatest v (take (i + 1) lits)
greatest_stays v lits i d l within here below h = record {
  most = greatest_most v v lits i d l within here (omega arith) below h.most;
  stands = elim h.stands [
    | inl none ↦ inl none
    | inr some ↦ inr (list_any_more (λ x. x.var == v) lits i d within ∙ or_left (list_any (λ x. x.var == v) (take i lits)) ((get_or lits i d).var == v) some)
  ];
}
