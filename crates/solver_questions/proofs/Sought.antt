-- What is found, and what there isn't.
use Rattle.std.proofs.Common.{◌≡◌, ◌↔◌, ◌≤◌, ℕ, ◌+◌, Bool, List, [], length, take}
use Rattle.std.proofs.Common.{refl, sym, ap, ◌∙◌, arith, subst, Option, Some, None, inl, inr}
use Rattle.std.specs.Prelude.{IfSome, IsSome, IsSomeAnd}
use Rattle.std.specs.List.{Contains}
use Rattle.std.proofs.lemmas.List.{take_all}
use Rattle.std.proofs.lemmas.List.Elements.{All-contains}
use Rattle.mpy_tree.specs.Shapes.{program_shape}
use Rattle.mpy_tree.specs.Syntax.{Routine}
use Rattle.choice_tree.specs.declared.selection.Choice.{Choice}
use Rattle.choice_tree.specs.Choices.{member_of}
use Rattle.choice_tree.specs.Selections.{plain}
use Rattle.cegis_loop.specs.declared.asked.Asked.{Asked}
use Rattle.cegis_loop.specs.declared.asked.Asked.TheVariants as asked
use Rattle.cegis_loop.specs.Asking.{OnNothing}
use Rattle.cegis_loop.specs.Space.{AgreesOn, IsFail, IsInput, IsLow}
use Rattle.coding_laws.specs.CodingLaws.{AgreementIsDecided}
use Rattle.input_space.specs.declared.case.Case.{Case}
use Rattle.input_space.specs.declared.session.Query.{Query}
use Rattle.input_space.specs.declared.session.Query.TheVariants as query
use Rattle.input_space.specs.Statements.{IsFull}
use Rattle.input_space.specs.TaskCoding.{coding}
use Rattle.input_space.specs.Tasks.{Task, tree_of}
use Rattle.input_space.specs.TaskSpace.{SelectionMeets, space, wanted_inputs}
use Rattle.input_space.proofs.Elements.{all_if_contained, none_if}
use Rattle.query_build.specs.Asking.{own_bits}
use Rattle.clause_base.specs.declared.log.Step.{Step}
use Rattle.input_space.specs.declared.session.Session.{Session}
use Rattle.solver_questions.specs.declared.reply.Finding.{Finding}
use Rattle.solver_questions.specs.declared.reply.Finding.TheVariants as finding
use Rattle.solver_questions.specs.Replies.{AreFound, AsksForInput, IsInputFor, IsSessionOf}
use Rattle.solver_questions.specs.Replies.{NoneAnswers, Shows}

-- what is there is some, and the fact holds of it
pub some_and : {A : Type 0} (P : A → Type 0) (o : Option A) → IsSomeAnd o P → IsSome o
some_and P None h = absurd h
some_and P (Some x) h = refl

pub fact_of : {A : Type 0} (P : A → Type 0) (o : Option A) (x : A) → o ≡ Some x → IsSomeAnd o P
    → P x
fact_of P o x e h = subst (λ p. IsSomeAnd p P) e h

with_fact : {A : Type 0} (P : A → Type 0) (o : Option A) (x : A) → o ≡ Some x → P x
    → IsSomeAnd o P
with_fact P o x e h = subst (λ p. IsSomeAnd p P) (sym e) h

-- the values of a formula's variables spell an input
pub spells_some : (k : Task) (kept : List Case) (q : Query) (values : List Bool) → AsksForInput q
    → AreFound k kept q values
    → IsSome ((coding k).input (own_bits (coding k).input_bits values))
spells_some k kept query.First values asks f =
    some_and (IsInput (space k 0)) ((coding k).input (own_bits (coding k).input_bits values))
    (f.answers 0)
spells_some k kept (query.Fail c) values asks f =
    some_and (IsFail (space k 0) c) ((coding k).input (own_bits (coding k).input_bits values))
    (f.answers 0)
spells_some k kept (query.Low most cases) values asks f = absurd asks

-- one that is looked for
pub found_input : (k : Task) (kept : List Case) (q : Query) (values : List Bool) (budget : ℕ)
    (x : Case) → AsksForInput q → AreFound k kept q values
    → (coding k).input (own_bits (coding k).input_bits values) ≡ Some x
    → IsInputFor (space k budget) q x
found_input k kept query.First values budget x asks f e =
    fact_of (IsInput (space k budget))
    ((coding k).input (own_bits (coding k).input_bits values)) x e (f.answers budget)
found_input k kept (query.Fail c) values budget x asks f e =
    fact_of (IsFail (space k budget) c)
    ((coding k).input (own_bits (coding k).input_bits values)) x e (f.answers budget)
found_input k kept (query.Low most cases) values budget x asks f e = absurd asks

pub own_many : (k : Task) (kept : List Case) (q : Query) (values : List Bool) → AsksForInput q
    → AreFound k kept q values → (coding k).input_bits + 1 ≤ length values
own_many k kept query.First values asks f = f.many
own_many k kept (query.Fail c) values asks f = f.many
own_many k kept (query.Low most cases) values asks f = absurd asks

pub looked_is_wanted : (k : Task) (q : Query) (budget : ℕ) (x : Case)
    → IsInputFor (space k budget) q x → Contains (wanted_inputs k) x
looked_is_wanted k query.First budget x h = h
looked_is_wanted k (query.Fail c) budget x h = h.input
looked_is_wanted k (query.Low most cases) budget x h = absurd h

-- where no truth values stand for an input that is looked for there is none
pub no_input : (k : Task) (kept : List Case) (q : Query) (budget : ℕ)
    → IsFull (space k budget) (coding k) → AsksForInput q → NoneAnswers k kept q
    → (x : Case) → IsInputFor (space k budget) q x → ⊥
no_input k kept query.First budget full asks none x h =
    let s = full.inputs x h in
    none s.bits budget s.many
    (with_fact (IsInput (space k budget)) ((coding k).input s.bits) x s.spells h)
no_input k kept (query.Fail c) budget full asks none x h =
    let s = full.inputs x h.input in
    none s.bits budget s.many
    (with_fact (IsFail (space k budget) c) ((coding k).input s.bits) x s.spells h)
no_input k kept (query.Low most cases) budget full asks none x h = absurd asks

-- all kept cases
pub all_kept : (kept : List Case) → take (length kept) kept ≡ kept
all_kept kept = take_all (length kept) kept (omega arith)

-- the selection that is spelled costs little enough and agrees on the kept cases
pub found_selection : (k : Task) (kept : List Case) (most : Option ℕ) (cases : ℕ)
    (values : List Bool) (budget : ℕ) (s : List Choice) → cases ≡ length kept
    → AreFound k kept (query.Low most cases) values
    → (coding k).choice (own_bits (coding k).choice_bits values) ≡ Some s
    → IsLow (space k budget) most kept s
found_selection k kept most cases values budget s many f e =
    let low = fact_of (IsLow (space k budget) most (take cases kept))
    ((coding k).choice (own_bits (coding k).choice_bits values)) s e (f.answers budget) in
    subst (λ xs. IsLow (space k budget) most xs s)
    (ap (λ n. take n kept) many ∙ all_kept kept) low

-- a selection like another one is as good
alike_low : (k : Task) (budget : ℕ) (most : Option ℕ) (xs : List Case) (c e : List Choice)
    → (space k budget).is_choice e
    → (space k budget).cost e ≡ (space k budget).cost c
    → ((x : Case) → (space k budget).agrees c x ↔ (space k budget).agrees e x)
    → IsLow (space k budget) most xs c → IsLow (space k budget) most xs e
alike_low k budget most xs c e choice price agrees low = record {
  choice = choice;
  within = subst (λ n. IfSome most (λ m. n ≤ m)) (sym price) low.within;
  agrees = all_if_contained ((space k budget).agrees e) xs (λ x there.
      (agrees x).0 (All-contains ((space k budget).agrees c) xs x low.agrees there));
}

-- where no truth values stand for a selection that is looked for there is none
pub no_selection : (k : Task) (kept : List Case) (most : Option ℕ) (cases budget : ℕ)
    → cases ≡ length kept → IsFull (space k budget) (coding k)
    → NoneAnswers k kept (query.Low most cases)
    → (c : List Choice) → IsLow (space k budget) most kept c → ⊥
no_selection k kept most cases budget many full none c low =
    let s = full.choices c low.choice in
    let like = s.alike in
    let here : IsLow (space k budget) most kept s.choice =
    alike_low k budget most kept c s.choice like.choice like.cost like.agrees low in
    none s.bits budget s.many
    (with_fact (IsLow (space k budget) most (take cases kept)) ((coding k).choice s.bits) s.choice
    s.spells
    (subst (λ xs. IsLow (space k budget) most xs s.choice)
    (sym (ap (λ n. take n kept) many ∙ all_kept kept)) here))

-- where a selection fails on no input it agrees on all
pub agrees_on_all : (k : Task) (budget : ℕ) (c : List Choice) (p : List Routine)
    → program_shape p ≡ plain (member_of c) (tree_of k) → AgreementIsDecided
    → ((x : Case) → IsFail (space k budget) c x → ⊥)
    → AgreesOn (space k budget) (wanted_inputs k) c
agrees_on_all k budget c p made decided none =
    all_if_contained (SelectionMeets k c) (wanted_inputs k) (λ x there.
    elim (decided k c x p made) [
      | inl met ↦ met
      | inr not ↦ absurd (none x (record { input = there; fails = not }))
    ])

pub no_first : (k : Task) → ((x : Case) → Contains (wanted_inputs k) x → ⊥)
    → wanted_inputs k ≡ []
no_first k none = none_if (wanted_inputs k) none

-- a session with as many clauses as its log has
pub own_session : (k : Task) (kept : List Case) (q : Query) (n : ℕ) (x : Session)
    → IsSessionOf k kept q n x → IsSessionOf k kept x.query (length x.log.steps) x
own_session k kept q n x h = record {
  asks = refl;
  backed = h.backed;
  honest = h.honest;
  unrefuted = h.unrefuted;
  numbered = h.numbered;
  few = omega arith;
}

-- what was found, by its kind
pub of_values : (k : Task) (kept : List Case) (q : Query) (n : ℕ) (steps : List Step)
    (found : Finding) (values : List Bool) → found ≡ finding.Values values
    → Shows k kept q n steps found → AreFound k kept q values
of_values k kept q n steps found values e h = (subst (Shows k kept q n steps) e h).1

pub of_nothing : (k : Task) (kept : List Case) (q : Query) (n : ℕ) (steps : List Step)
    (found : Finding) → found ≡ finding.Nothing → Shows k kept q n steps found
    → NoneAnswers k kept q
of_nothing k kept q n steps found e h = (subst (Shows k kept q n steps) e h).1

-- a fact that follows, where the answer is that there is nothing
pub on_nothing : {T P Q : Type 0} (a : Asked T) → (P → Q) → OnNothing a P → OnNothing a Q
on_nothing (asked.Found x) f h = tt
on_nothing asked.Nothing f h = f h
on_nothing asked.Spent f h = tt
on_nothing asked.NoMemory f h = tt
