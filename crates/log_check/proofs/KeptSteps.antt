-- Steps that follow keep the limits of the form, where the numbers of clauses do.
use Rattle.std.proofs.Common.{◌≡◌, ℕ, suc, ◌+◌, ◌<◌, ◌≤◌, true, ◌&&◌, List, [], ◌∷◌, ◌++◌, length, refl, subst, arith, length-append}
use Rattle.std.specs.Prelude.{All, nat_le, nat_lt}
use Rattle.std.specs.List.{list_all}
use Rattle.std.proofs.lemmas.Bool.{and_from, and_parts, le-leb, leb-true, lt-ltb}
use Rattle.std.proofs.lemmas.List.Elements.{All-head, All-tail}
use Rattle.clause_base.specs.declared.clause.Clause.{Clause}
use Rattle.clause_base.specs.declared.lit.Lit.{Lit}
use Rattle.clause_base.specs.declared.log.Step.{Step}
use Rattle.clause_base.specs.Formulas.{in_range}
use Rattle.clause_base.specs.Logs.{EachStep, StepFollows}
use Rattle.step_lines.specs.Limits.{KeepsStep, KeepsSteps, is_hint, is_literal, is_number}

literals_kept : (vars : ℕ) (ls : List Lit) → vars ≤ 2147483647 → list_all (in_range vars) ls ≡ true → list_all (is_literal vars) ls ≡ true
literals_kept vars [] few h = refl
literals_kept vars (l ∷ ls) few h =
    let r = and_parts (in_range vars l) (list_all (in_range vars) ls) h in
    let range = and_parts (nat_lt 0 l.var) (nat_le l.var vars) r.0 in
    let low = leb-true l.var vars range.1 in
    and_from (is_literal vars l) (list_all (is_literal vars) ls)
    (and_from (in_range vars l) (is_number l.var) r.0 (le-leb l.var 2147483647 (omega arith)))
    (literals_kept vars ls few r.1)

hints_kept : (n : ℕ) (hs : List ℕ) → n ≤ 2147483647 → All (λ h. (0 < h) × (h ≤ n)) hs → list_all (is_hint (suc n)) hs ≡ true
hints_kept n [] few h = refl
hints_kept n (k ∷ ks) few h =
    let one = All-head (λ h. (0 < h) × (h ≤ n)) k ks h in
    let low = one.1 in
    and_from (is_hint (suc n) k) (list_all (is_hint (suc n)) ks)
    (and_from (nat_lt 0 k) (nat_lt k (suc n) && is_number k) (lt-ltb 0 k one.0)
    (and_from (nat_lt k (suc n)) (is_number k) (lt-ltb k (suc n) (omega arith)) (le-leb k 2147483647 (omega arith))))
    (hints_kept n ks few (All-tail (λ h. (0 < h) × (h ≤ n)) k ks h))

pub steps_kept : (vars : ℕ) (known : List Clause) (steps : List Step) → vars ≤ 2147483647 → length known + length steps ≤ 2147483647
    → EachStep (StepFollows vars) known steps → KeepsSteps vars (suc (length known)) steps
steps_kept vars known [] few many h = tt
steps_kept vars known (s ∷ steps) few many h =
    let n : length (known ++ s.clause ∷ []) ≡ suc (length known) = (let e = length-append known (s.clause ∷ []) in omega arith) in (
      record { literals = literals_kept vars s.clause.lits few h.0.within; hints = hints_kept (length known) s.hints (omega arith) h.0.named },
      subst (λ m. KeepsSteps vars (suc m) steps) n (steps_kept vars (known ++ s.clause ∷ []) steps few (omega arith) h.1),
    )
