-- The clauses of a log that follows, one after the other.
use Rattle.std.proofs.Common.{◌≡◌, ℕ, zero, suc, ◌<◌, ◌≤◌, ◌-◌, Bool, true, false, List, [], ◌∷◌, ◌++◌, All, length, slice_get, ap, refl, arith}
use Rattle.std.specs.List.{list_all}
use Rattle.std.specs.Prelude.{IsSomeAnd}
use Rattle.std.proofs.lemmas.Bool.{and_parts, and_from}
use Rattle.std.proofs.lemmas.List.Elements.{All-nil, All-cons, All-head, All-tail}
use Rattle.clause_base.specs.declared.clause.Clause.{Clause}
use Rattle.clause_base.specs.declared.log.Step.{Step}
use Rattle.clause_base.specs.Literals.{clause_true}
use Rattle.clause_base.specs.Formulas.{satisfies}
use Rattle.clause_base.specs.Follows.{hinted, literals_at}
use Rattle.derivation_check.specs.Soundness.{FollowingHolds, RefutedHasNoValues}
use Rattle.derivation_check.proofs.Sound.{follows_true}

clause_at : (values : List Bool) (known : List Clause) (k : ℕ) → k < length known → satisfies values known ≡ true → clause_true values (literals_at known k) ≡ true
clause_at values [] k within all = absurd (omega arith)
clause_at values (c ∷ cs) zero within all = (and_parts (clause_true values c.lits) (satisfies values cs) all).0
clause_at values (c ∷ cs) (suc k) within all = clause_at values cs k (omega arith) (and_parts (clause_true values c.lits) (satisfies values cs) all).1

-- hints that name known clauses name true ones
hinted_true : (values : List Bool) (known : List Clause) (hints : List ℕ) → All (λ h. (0 < h) × (h ≤ length known)) hints → satisfies values known ≡ true
    → list_all (clause_true values) (hinted known hints) ≡ true
hinted_true values known [] named all = refl
hinted_true values known (h ∷ hs) named all =
    let P : ℕ → Type 0 = λ h. (0 < h) × (h ≤ length known) in
    let range : P h = All-head P h hs named in
    let some : 0 < h = range.0 in
    let most : h ≤ length known = range.1 in
    and_from (clause_true values (literals_at known (h - 1))) (list_all (clause_true values) (hinted known hs))
    (clause_at values known (h - 1) (omega arith) all)
    (hinted_true values known hs (All-tail P h hs named) all)

satisfies_push : (values : List Bool) (known : List Clause) (c : Clause) → satisfies values known ≡ true → clause_true values c.lits ≡ true → satisfies values (known ++ c ∷ []) ≡ true
satisfies_push values [] c all here = and_from (clause_true values c.lits) true here refl
satisfies_push values (d ∷ ds) c all here =
    let parts = and_parts (clause_true values d.lits) (satisfies values ds) all in
    and_from (clause_true values d.lits) (satisfies values (ds ++ c ∷ [])) parts.0 (satisfies_push values ds c parts.1 here)

pub following_holds : FollowingHolds
following_holds vars known [] values follows all = All-nil (λ (s : Step). clause_true values s.clause.lits ≡ true)
following_holds vars known (s ∷ steps) values follows all =
    let here = follows_true values s.clause.lits (hinted known s.hints) follows.0.good (hinted_true values known s.hints follows.0.named all) in
    All-cons (λ (s : Step). clause_true values s.clause.lits ≡ true) s steps here
    (following_holds vars (known ++ s.clause ∷ []) steps values follows.1 (satisfies_push values known s.clause all here))

-- no clause that is true is empty
none_empty : (values : List Bool) (steps : List Step) (k : ℕ) → All (λ s. clause_true values s.clause.lits ≡ true) steps → IsSomeAnd (slice_get steps k) (λ s. s.clause.lits ≡ []) → ⊥
none_empty values [] k all h = h
none_empty values (s ∷ steps) zero all h =
    let up : clause_true values s.clause.lits ≡ true = All-head (λ (s : Step). clause_true values s.clause.lits ≡ true) s steps all in
    let down : clause_true values s.clause.lits ≡ false = ap (clause_true values) h in
    cc
none_empty values (s ∷ steps) (suc k) all h = none_empty values steps k (All-tail (λ (s : Step). clause_true values s.clause.lits ≡ true) s steps all) h

pub refuted_has_no_values : RefutedHasNoValues
refuted_has_no_values vars clauses steps values follows refutes all = none_empty values steps (length steps - 1) (following_holds vars clauses steps values follows all) refutes
