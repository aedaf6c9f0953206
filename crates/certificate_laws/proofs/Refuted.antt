-- What a refuted query says of a space of selections and inputs.
use Rattle.std.proofs.Common.{◌≡◌, ◌⊎◌, ℕ, ◌≤◌, List, length, take, Some, None, Option, Bool, sym, subst, arith, inl, inr}
use Rattle.std.specs.Prelude.{IsSomeAnd, IfSome, slice_index_or}
use Rattle.std.proofs.lemmas.List.Elements.{Contains-get_or}
use Rattle.clause_base.specs.Logs.{Refutes}
use Rattle.choice_tree.specs.declared.selection.Choice.{Choice}
use Rattle.cegis_loop.specs.Space.{Space, IsInput, AgreesOn, IsLow, IsFail}
use Rattle.derivation_check.specs.Soundness.{RefutedHasNoValues}
use Rattle.input_space.specs.declared.case.Case.{Case}
use Rattle.input_space.specs.declared.session.Query.{Query}
use Rattle.input_space.specs.declared.session.Query.TheVariants as query
use Rattle.input_space.specs.declared.session.Session.{Session}
use Rattle.input_space.specs.Sessions.{IsBacked, question_of}
use Rattle.input_space.specs.Statements.{Coding, IsAnswered, IsFull, bits_of}

-- no truth values stand for something that is asked for
abbrev pub HasNoAnswer : Space (List Choice) Case → Coding (List Choice) Case → List Case → Query → Type 0
HasNoAnswer s d kept q =
    (bits : List Bool) → length bits ≡ bits_of d (question_of q) → IsAnswered s d kept (question_of q) bits → ⊥

pub no_answer : (s : Space (List Choice) Case) (d : Coding (List Choice) Case) (kept : List Case) (x : Session)
    → RefutedHasNoValues → IsBacked s d kept x → Refutes x.log.steps → HasNoAnswer s d kept x.query
no_answer s d kept x sound backed refuted bits many answered =
    let found = (backed.states bits many).1 answered in
    sound x.formula.vars x.formula.clauses x.log.steps found.values backed.follows refuted found.satisfied

-- no choice within the bound agrees on the cases
pub no_low : (s : Space (List Choice) Case) (d : Coding (List Choice) Case) (kept : List Case) (bound : Option ℕ) (cases : ℕ)
    → IsFull s d → HasNoAnswer s d kept (query.Low bound cases) → (c : List Choice) → IsLow s bound (take cases kept) c → ⊥
no_low s d kept bound cases full none c low =
    let w = full.choices c low.choice in
    let as_low : IsLow s bound (take cases kept) w.choice = record {
      choice = w.alike.choice;
      within = within_of bound w.alike.cost low.within;
      agrees = λ i x b. (w.alike.agrees (slice_index_or (take cases kept) i x)).0 (low.agrees i x b);
    } in
    none w.bits w.many (subst (λ o. IsSomeAnd o (IsLow s bound (take cases kept))) (sym w.spells) as_low)
  where
    within_of : (b : Option ℕ) {m n : ℕ} → m ≡ n → IfSome b (λ k. n ≤ k) → IfSome b (λ k. m ≤ k)
    within_of None e h = tt
    within_of (Some k) e h = omega arith

-- a choice on which it is decided where it agrees fails on no input
pub no_fail : (s : Space (List Choice) Case) (d : Coding (List Choice) Case) (kept : List Case) (c : List Choice) → IsFull s d
    → ((x : Case) → s.agrees c x ⊎ (s.agrees c x → ⊥)) → HasNoAnswer s d kept (query.Fail c) → AgreesOn s s.inputs c
no_fail s d kept c full decided none = λ i x b.
    let y : Case = slice_index_or s.inputs i x in
    let input : IsInput s y = Contains-get_or s.inputs i x b in
    elim (decided y) [
      | inl agrees ↦ agrees
      | inr fails ↦ let w = full.inputs y input in
          let fail : IsFail s c y = record { input = input; fails = fails } in
          absurd (none w.bits w.many (subst (λ o. IsSomeAnd o (IsFail s c)) (sym w.spells) fail))
    ]
