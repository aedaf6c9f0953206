-- What loops and pushes add.
use Rattle.std.proofs.Common.{◌≡◌, ℕ, zero, suc, ◌+◌, true, List, [], ◌∷◌, ◌++◌, map, take, slice_get, Some, Result, Ok, Err, refl, sym, ap, ◌∙◌, subst, arith, append_assoc}
use Rattle.std.specs.Prelude.{OnOk, OnErr}
use Rattle.std.specs.List.{list_all}
use Rattle.std.proofs.lemmas.List.{append-nil}
use Rattle.clause_base.specs.Formulas.{clauses_in_range, in_range}
use Rattle.clause_base.specs.declared.clause.Clause.{Clause}
use Rattle.step_lines.proofs.Apart.{all_append, two}
use Rattle.step_lines.specs.Lines.{ended}

ended_more : {A : Type 0} (f : A → List ℕ) (xs : List A) (i : ℕ) (x : A) → slice_get xs i ≡ Some x → ended (map f (take (i + 1) xs)) ≡ ended (map f (take i xs)) ++ (f x ++ 10 ∷ [])
ended_more f [] i x h = absurd (cc)
ended_more f (y ∷ xs) zero x h =
    let same : y ≡ x = cc in
    append-nil (f y ++ 10 ∷ []) ∙ ap (λ z. f z ++ 10 ∷ []) same
ended_more f (y ∷ xs) (suc i) x h =
    let e : suc i + 1 ≡ suc (i + 1) = omega arith in
    ap (λ n. ended (map f (take n (y ∷ xs)))) e
    ∙ ap (λ t. (f y ++ 10 ∷ []) ++ t) (ended_more f xs i x h)
    ∙ sym (append_assoc (f y ++ 10 ∷ []) (ended (map f (take i xs))) (f x ++ 10 ∷ []))

pub written_more : {A : Type 0} (f : A → List ℕ) (xs : List A) (i : ℕ) (x : A) (old out new : List ℕ) → slice_get xs i ≡ Some x → out ≡ old ++ ended (map f (take i xs)) → new ≡ out ++ (f x ++ 10 ∷ []) → new ≡ old ++ ended (map f (take (i + 1) xs))
written_more f xs i x old out new h before e =
    e ∙ ap (λ t. t ++ (f x ++ 10 ∷ [])) before ∙ append_assoc old (ended (map f (take i xs))) (f x ++ 10 ∷ [])
    ∙ ap (λ t. old ++ t) (sym (ended_more f xs i x h))

pub clauses_pushed : {E : Type 0} (vars : ℕ) (r : Result (Unit {0}) E) (old new : List Clause) (k : Clause) → OnOk r (new ≡ old ++ k ∷ []) → OnErr r (new ≡ old) → clauses_in_range vars old ≡ true → list_all (in_range vars) k.lits ≡ true → clauses_in_range vars new ≡ true
clauses_pushed vars (Ok u) old new k ok err h g =
    subst (λ cs. clauses_in_range vars cs ≡ true) (sym ok) (all_append (λ (c : Clause). list_all (in_range vars) c.lits) old (k ∷ []) h (two (list_all (in_range vars) k.lits) true g refl))
clauses_pushed vars (Err e) old new k ok err h g = subst (λ cs. clauses_in_range vars cs ≡ true) (sym err) h
