-- Which logs refute.
use Rattle.std.proofs.Common.{◌≡◌, ◌≢◌, ℕ, zero, suc, ◌-◌, Bool, true, false, List, [], ◌∷◌, length}
use Rattle.std.proofs.Common.{refl, sym, ap, subst, Some, None}
use Rattle.std.proofs.lemmas.Bool.{true≢false}
use Rattle.std.specs.Prelude.{All, IsSomeAnd, Option, slice_get}
use Rattle.std.specs.Option.{option_map_or}
use Rattle.std.proofs.lemmas.List.Elements.{All-cons, All-head, All-nil, All-tail}
use Rattle.clause_base.specs.declared.lit.Lit.{Lit}
use Rattle.clause_base.specs.declared.log.Step.{Step}
use Rattle.clause_base.specs.Literals.{clause_true}
use Rattle.clause_base.specs.Logs.{Refutes}
use Rattle.input_space.specs.Sessions.{NoneEmpty, is_empty, is_refuted}

-- what holds of all holds of the one at a place
each_at : {A : Type 0} (P : A → Type 0) (xs : List A) (i : ℕ) (x : A) → All P xs
    → slice_get xs i ≡ Some x → P x
each_at P [] i x all e = absurd cc
each_at P (y ∷ xs) zero x all e = let same : y ≡ x = cc in subst P same (All-head P y xs all)
each_at P (y ∷ xs) (suc i) x all e = each_at P xs i x (All-tail P y xs all) e

refuted_by : (o : Option Step) → IsSomeAnd o (λ last. last.clause.lits ≡ [])
    → option_map_or (λ (x : Step). is_empty x.clause.lits) o false ≡ true
refuted_by None h = absurd h
refuted_by (Some x) h = ap is_empty h

-- a log that refutes is told so
pub refuted : (steps : List Step) → Refutes steps → is_refuted steps ≡ true
refuted steps h = refuted_by (slice_get steps (length steps - 1)) h

some_literal : (lits : List Lit) → lits ≢ [] → is_empty lits ≡ false
some_literal [] h = absurd (h refl)
some_literal (l ∷ lits) h = refl

open_by : (steps : List Step) (o : Option Step) → slice_get steps (length steps - 1) ≡ o
    → NoneEmpty steps → option_map_or (λ (x : Step). is_empty x.clause.lits) o false ≡ false
open_by steps None e h = refl
open_by steps (Some x) e h =
    some_literal x.clause.lits
    (each_at (λ (y : Step). y.clause.lits ≢ []) steps (length steps - 1) x h e)

-- a log without an empty clause doesn't refute
pub not_refuted : (steps : List Step) → NoneEmpty steps → is_refuted steps ≡ false
not_refuted steps h = open_by steps (slice_get steps (length steps - 1)) refl h

-- a clause that values make true isn't empty
true_clause : (values : List Bool) (lits : List Lit) → clause_true values lits ≡ true → lits ≢ []
true_clause values [] e none = true≢false (sym e)
true_clause values (l ∷ lits) e none = cc

pub none_empty : (values : List Bool) (steps : List Step)
    → All (λ s. clause_true values s.clause.lits ≡ true) steps → NoneEmpty steps
none_empty values [] h = All-nil (λ (x : Step). x.clause.lits ≢ [])
none_empty values (s ∷ steps) h =
    let P = λ (x : Step). clause_true values x.clause.lits ≡ true in
    All-cons (λ (x : Step). x.clause.lits ≢ []) s steps
    (true_clause values s.clause.lits (All-head P s steps h))
    (none_empty values steps (All-tail P s steps h))
