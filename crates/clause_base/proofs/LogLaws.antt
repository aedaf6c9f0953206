-- Logs that grow, and their steps by place.
use Rattle.std.proofs.Common.{◌≡◌, ℕ, zero, suc, ◌+◌, List, [], ◌∷◌, ◌++◌, map, take, length, slice_get, Some, arith, refl, sym, ap, ◌∙◌, subst, append_assoc, length-append}
use Rattle.std.proofs.lemmas.List.{append-nil, map_push, length-map}
use Rattle.clause_base.specs.declared.clause.Clause.{Clause}
use Rattle.clause_base.specs.declared.log.Step.{Step}
use Rattle.clause_base.specs.Logs.{EachStep, IsNew, StepFollows, known_of}
use Rattle.clause_base.specs.LogLaws.{FollowsByPlace, FollowsPushed, FreshByPlace, FreshPushed, KnownByPlace, KnownCounted, KnownPushed}

pub known_pushed : KnownPushed
known_pushed clauses steps s = ap (λ (cs : List Clause). clauses ++ cs) (map_push (λ (x : Step). x.clause) steps s) ∙ sym (append_assoc clauses (map (λ (x : Step). x.clause) steps) (s.clause ∷ []))

pub known_counted : KnownCounted
known_counted clauses steps = length-append clauses (map (λ (x : Step). x.clause) steps) ∙ ap (λ n. length clauses + n) (length-map steps (λ (x : Step). x.clause))

front_at : (cs ds : List Clause) (k : ℕ) (c : Clause) → slice_get cs k ≡ Some c → slice_get (cs ++ ds) k ≡ Some c
front_at [] ds k c h = cc
front_at (b ∷ cs) ds zero c h = h
front_at (b ∷ cs) ds (suc k) c h = front_at cs ds k c h

back_at : (cs ds : List Clause) (k : ℕ) → slice_get (cs ++ ds) (length cs + k) ≡ slice_get ds k
back_at [] ds k = let z : 0 + k ≡ k = omega arith in ap (slice_get ds) z
back_at (c ∷ cs) ds k = let z : suc (length cs) + k ≡ suc (length cs + k) = omega arith in ap (slice_get (c ∷ cs ++ ds)) z ∙ back_at cs ds k

clause_at : (steps : List Step) (k : ℕ) (s : Step) → slice_get steps k ≡ Some s → slice_get (map (λ (x : Step). x.clause) steps) k ≡ Some s.clause
clause_at [] k s h = cc
clause_at (t ∷ steps) zero s h = let same : t ≡ s = cc in ap (λ (x : Step). Some x.clause) same
clause_at (t ∷ steps) (suc k) s h = clause_at steps k s h

pub known_by_place : KnownByPlace
known_by_place clauses steps k = (front_at clauses (map (λ (x : Step). x.clause) steps) k, λ s h. back_at clauses (map (λ (x : Step). x.clause) steps) k ∙ clause_at steps k s h)

-- the first step is known before the others
turn : (clauses : List Clause) (t : Step) (steps : List Step) → known_of clauses (t ∷ steps) ≡ known_of (clauses ++ t.clause ∷ []) steps
turn clauses t steps = sym (append_assoc clauses (t.clause ∷ []) (map (λ (x : Step). x.clause) steps))

At : (List Clause → Step → Type 0) → List Clause → List Step → Type 0
At fact clauses steps = (k : ℕ) (s : Step) → slice_get steps k ≡ Some s → fact (known_of clauses (take k steps)) s

each_at : (fact : List Clause → Step → Type 0) (clauses : List Clause) (steps : List Step) → EachStep fact clauses steps → At fact clauses steps
unfolding At
each_at fact clauses [] each k s h = cc
each_at fact clauses (t ∷ steps) each zero s h =
    let same : t ≡ s = cc in
    subst (fact (clauses ++ [])) same (subst (λ (known : List Clause). fact known t) (sym (append-nil clauses)) each.0)
each_at fact clauses (t ∷ steps) each (suc k) s h =
    subst (λ (known : List Clause). fact known s) (sym (turn clauses t (take k steps))) (each_at fact (clauses ++ t.clause ∷ []) steps each.1 k s h)

at_each : (fact : List Clause → Step → Type 0) (clauses : List Clause) (steps : List Step) → At fact clauses steps → EachStep fact clauses steps
unfolding At
at_each fact clauses [] at = tt
at_each fact clauses (t ∷ steps) at = (
  subst (λ (known : List Clause). fact known t) (append-nil clauses) (at zero t refl),
  at_each fact (clauses ++ t.clause ∷ []) steps (λ k s h. subst (λ (known : List Clause). fact known s) (turn clauses t (take k steps)) (at (suc k) s h)),
)

each_push : (fact : List Clause → Step → Type 0) (clauses : List Clause) (steps : List Step) (s : Step) → EachStep fact clauses steps → fact (known_of clauses steps) s → EachStep fact clauses (steps ++ s ∷ [])
each_push fact clauses [] s each here = (subst (λ (known : List Clause). fact known s) (append-nil clauses) here, tt)
each_push fact clauses (t ∷ steps) s each here =
    (each.0, each_push fact (clauses ++ t.clause ∷ []) steps s each.1 (subst (λ (known : List Clause). fact known s) (turn clauses t steps) here))

each_pushed : (fact : List Clause → Step → Type 0) (clauses : List Clause) (steps : List Step) (s : Step) → EachStep fact clauses (steps ++ s ∷ []) → EachStep fact clauses steps × fact (known_of clauses steps) s
each_pushed fact clauses [] s each = (tt, subst (λ (known : List Clause). fact known s) (sym (append-nil clauses)) each.0)
each_pushed fact clauses (t ∷ steps) s each =
    let rest = each_pushed fact (clauses ++ t.clause ∷ []) steps s each.1 in
    ((each.0, rest.0), subst (λ (known : List Clause). fact known s) (sym (turn clauses t steps)) rest.1)

pub follows_by_place : FollowsByPlace
unfolding At
follows_by_place vars clauses steps = (each_at (StepFollows vars) clauses steps, at_each (StepFollows vars) clauses steps)

pub fresh_by_place : FreshByPlace
unfolding At
fresh_by_place clauses steps = (each_at (λ known s. IsNew known s.clause) clauses steps, at_each (λ known s. IsNew known s.clause) clauses steps)

pub follows_pushed : FollowsPushed
follows_pushed vars clauses steps s = (each_pushed (StepFollows vars) clauses steps s, λ both. each_push (StepFollows vars) clauses steps s both.0 both.1)

pub fresh_pushed : FreshPushed
fresh_pushed clauses steps s = (each_pushed (λ known t. IsNew known t.clause) clauses steps s, λ both. each_push (λ known t. IsNew known t.clause) clauses steps s both.0 both.1)
