-- What right certificates show.
use Rattle.std.proofs.Common.{◌≡◌, ℕ, zero, suc, List, [], ◌∷◌, length, map, take, All, Some, None, subst, arith}
use Rattle.std.specs.Prelude.{slice_index_or}
use Rattle.std.proofs.lemmas.List.Elements.{All-contains, All-cons, All-head, All-tail}
use Rattle.std.proofs.Math.Seq.{take-length}
use Rattle.mpy_tree.specs.Syntax.{Routine}
use Rattle.clause_base.specs.Logs.{Refutes}
use Rattle.choice_tree.specs.declared.selection.Choice.{Choice}
use Rattle.cegis_loop.specs.Space.{Space, IsInput, AgreesOn}
use Rattle.cegis_loop.specs.Answers.{IsLeast, NoneAgrees, NoneBelow}
use Rattle.derivation_check.specs.Soundness.{RefutedHasNoValues}
use Rattle.input_space.specs.declared.case.Case.{Case}
use Rattle.input_space.specs.declared.session.Query.{Query}
use Rattle.input_space.specs.declared.session.Query.TheVariants as query
use Rattle.input_space.specs.declared.session.Session.{Session}
use Rattle.input_space.specs.Sessions.{IsBacked}
use Rattle.input_space.specs.Statements.{Coding, IsFull}
use Rattle.input_space.specs.TaskCoding.{coding}
use Rattle.input_space.specs.Tasks.{Task}
use Rattle.input_space.specs.TaskSpace.{space, wanted_inputs}
use Rattle.selection_programs.specs.Programs.{MakesPrograms}
use Rattle.coding_laws.specs.Alphabets.{HasPrintable}
use Rattle.coding_laws.specs.CodingLaws.{AgreementIsDecided, CodingsAreFull}
use Rattle.cert_text.specs.declared.cert.Cert.{Cert}
use Rattle.cert_text.specs.declared.cert.Claim.{Claim}
use Rattle.cert_text.specs.declared.cert.Claim.TheVariants as claim
use Rattle.certificate_laws.specs.BestLaws.{LeastChoiceIsBest, Makes, NoChoiceNoRewriting}
use Rattle.certificate_laws.specs.CertificateLaws.{CostShowsBest, NothingShowsNone}
use Rattle.certificate_laws.specs.Right.{AreRefuted, IsRight, IsShown, least_queries, none_queries}
use Rattle.certificate_laws.proofs.BestRewritings.{program_made, some_wanted}
use Rattle.certificate_laws.proofs.Refuted.{HasNoAnswer, no_answer, no_fail, no_low}

-- OVER ANY SPACE

all_unanswered : (s : Space (List Choice) Case) (d : Coding (List Choice) Case) (kept : List Case) (xs : List Session) → RefutedHasNoValues
    → All (IsBacked s d kept) xs → All (λ (x : Session). Refutes x.log.steps) xs → All (HasNoAnswer s d kept) (map (λ (x : Session). x.query) xs)
all_unanswered s d kept [] sound backed refuted = λ i q w. absurd (omega arith)
all_unanswered s d kept (x ∷ xs) sound backed refuted = All-cons (HasNoAnswer s d kept) x.query (map (λ (y : Session). y.query) xs)
    (no_answer s d kept x sound (All-head (IsBacked s d kept) x xs backed) (All-head (λ (y : Session). Refutes y.log.steps) x xs refuted))
    (all_unanswered s d kept xs sound (All-tail (IsBacked s d kept) x xs backed) (All-tail (λ (y : Session). Refutes y.log.steps) x xs refuted))

-- what agrees on all inputs agrees on the cases
on_cases : (s : Space (List Choice) Case) (kept : List Case) (c : List Choice) → All (IsInput s) kept → AgreesOn s s.inputs c → AgreesOn s (take (length kept) kept) c
on_cases s kept c inputs agrees =
    rw take-length (λ i x w. All-contains (s.agrees c) s.inputs (slice_index_or kept i x) agrees (inputs i x w))

none_at_all : (s : Space (List Choice) Case) (d : Coding (List Choice) Case) (kept : List Case) → IsFull s d → All (IsInput s) kept
    → All (HasNoAnswer s d kept) (none_queries (length kept)) → NoneAgrees s s.inputs
none_at_all s d kept full inputs none c choice agrees =
    no_low s d kept None (length kept) full (All-head (HasNoAnswer s d kept) (query.Low None (length kept)) [] none) c
    (record { choice = choice; within = tt; agrees = on_cases s kept c inputs agrees })

none_below : (s : Space (List Choice) Case) (d : Coding (List Choice) Case) (kept : List Case) (n : ℕ) (c : List Choice) → IsFull s d → All (IsInput s) kept
    → All (HasNoAnswer s d kept) (least_queries c n (length kept)) → NoneBelow s s.inputs n
none_below s d kept zero c full inputs none e choice less agrees = omega arith
none_below s d kept (suc k) c full inputs none e choice less agrees =
    no_low s d kept (Some k) (length kept) full
    (All-head (HasNoAnswer s d kept) (query.Low (Some k) (length kept)) [] (All-tail (HasNoAnswer s d kept) (query.Fail c) (query.Low (Some k) (length kept) ∷ []) none)) e
    (record { choice = choice; within = omega arith; agrees = on_cases s kept e inputs agrees })

first_query : (s : Space (List Choice) Case) (d : Coding (List Choice) Case) (kept : List Case) (n : ℕ) (c : List Choice)
    → All (HasNoAnswer s d kept) (least_queries c n (length kept)) → HasNoAnswer s d kept (query.Fail c)
first_query s d kept zero c none = All-head (HasNoAnswer s d kept) (query.Fail c) [] none
first_query s d kept (suc k) c none = All-head (HasNoAnswer s d kept) (query.Fail c) (query.Low (Some k) (length kept) ∷ []) none

-- OF A TASK

-- none of the queries that the sessions refute has an answer
unanswered : (k : Task) (budget : ℕ) (c : Cert) (qs : List Query) → RefutedHasNoValues → IsRight k budget c → AreRefuted c qs
    → All (HasNoAnswer (space k budget) (coding k) c.cases) qs
unanswered k budget c qs sound right refuted =
    subst (All (HasNoAnswer (space k budget) (coding k) c.cases)) refuted.asked
    (all_unanswered (space k budget) (coding k) c.cases c.sessions sound right.backed refuted.refuted)

claimed : (k : Task) (budget : ℕ) (c : Cert) (claims : Claim) → c.claim ≡ claims → IsRight k budget c → IsShown k budget c claims
claimed k budget c claims e right = subst (IsShown k budget c) e right.shown

pub none_shown : RefutedHasNoValues → CodingsAreFull → NoChoiceNoRewriting → NothingShowsNone
none_shown refuted full no_rewriting k budget c sound printable right e =
    let shown = claimed k budget c claim.Nothing e right in (
      some_wanted k c.cases right.cases shown.some,
      no_rewriting k budget sound (none_at_all (space k budget) (coding k) c.cases (full k budget printable) right.cases
          (unanswered k budget c (none_queries (length c.cases)) refuted right shown)),
    )

-- whether the selection agrees is decided by its program
least_by : RefutedHasNoValues → CodingsAreFull → AgreementIsDecided → (k : Task) (budget : ℕ) (c : Cert) (n : ℕ) → HasPrintable k.bounds → IsRight k budget c
    → IsShown k budget c (claim.Cost n) → (p : List Routine) → Makes k c.selection p → IsLeast (space k budget) (wanted_inputs k) c.selection n
least_by refuted full decided k budget c n printable right shown p made =
    let whole : IsFull (space k budget) (coding k) = full k budget printable in
    let none = unanswered k budget c (least_queries c.selection n (length c.cases)) refuted right shown.1 in
    record {
      choice = shown.0.fits;
      cost_of = shown.0.cost_is;
      agrees =
          no_fail (space k budget) (coding k) c.cases c.selection whole (λ x. decided k c.selection x p made)
          (first_query (space k budget) (coding k) c.cases n c.selection none);
      least = none_below (space k budget) (coding k) c.cases n c.selection whole right.cases none;
    }

pub cost_shown : RefutedHasNoValues → CodingsAreFull → AgreementIsDecided → MakesPrograms → LeastChoiceIsBest → CostShowsBest
cost_shown refuted full decided makes best k budget c n sound printable right e =
    let shown = claimed k budget c (claim.Cost n) e right in (
      some_wanted k c.cases right.cases shown.1.some,
      record {
        fits = shown.0.fits;
        best = λ p made.
            (best k budget c.selection n sound (least_by refuted full decided k budget c n printable right shown p made)).best p made;
        made = program_made makes k c.selection;
      },
    )
