-- What is kept of a run shows each answer for which the code's stands.
use Rattle.std.proofs.Common.{◌≡◌, ℕ, List, All, Option, Some, None, map, sym, subst}
use Rattle.cegis_loop.specs.Order.{IsAtLeast}
use Rattle.choice_tree.specs.declared.selection.Choice.{Choice}
use Rattle.input_space.specs.Agreement.{Failure}
use Rattle.input_space.specs.declared.case.Case.{Case}
use Rattle.input_space.specs.declared.session.Session.{Session}
use Rattle.input_space.specs.Sessions.{IsHonest, told_of}
use Rattle.input_space.specs.TaskCoding.{coding}
use Rattle.input_space.specs.Tasks.{Task, tree_of}
use Rattle.input_space.specs.TaskSpace.{space}
use Rattle.cert_text.specs.declared.cert.Claim.{Claim}
use Rattle.cert_text.specs.declared.cert.Claim.TheVariants as claim
use Rattle.certificate_laws.specs.CertificateLaws.{RightUnderAnyBudget}
use Rattle.feedback_text.specs.declared.answer.Answer as code
use Rattle.feedback_text.specs.declared.answer.Failure as code_failure
use Rattle.feedback_text.specs.Answers.{Answer, Correct, Corrected, NoCorrection, EmptyReference, Spent, Edit}
use Rattle.feedback_text.specs.AnswerViews.{Makes, StandsFor, failure_of}
use Rattle.search_certificates.specs.Searches.{IsTrailOf}
use Rattle.mpy_tree.specs.Syntax.{Routine}
use Rattle.grade_core.specs.Commands.{IsCertifiedBy, IsKeptOf, IsRightFor}
use Rattle.grade_core.specs.Runs.{Certifies, IsKeptFor, IsRunOf}

-- under one budget a certificate is right, so it is under any
right_for : RightUnderAnyBudget → (k : Task) (b : ℕ) (d : code.Answer) (kept : List Case) (xs : List Session) (text : List ℕ) (c : Claim) → IsRunOf k b d kept xs
    → (h : Certifies k d kept xs text) → h.cert.claim ≡ c → IsRightFor k c h.cert
right_for law k b d kept xs text c run h is = record { right = λ other. law k b other h.cert (h.right b run); claim_is = is }

correct : RightUnderAnyBudget → (k : Task) (b : ℕ) (kept : List Case) (xs : List Session) (text : List ℕ) → IsRunOf k b code.TheVariants.Correct kept xs
    → Certifies k code.TheVariants.Correct kept xs text → IsCertifiedBy k b Correct text
correct law k b kept xs text run h = record {
  cert = h.cert;
  spelled = h.spelled;
  shows = right_for law k b code.TheVariants.Correct kept xs text (claim.Cost 0) run h h.claim_is;
}

none : RightUnderAnyBudget → (k : Task) (b : ℕ) (fails : code_failure.Failure) (kept : List Case) (xs : List Session) (text : List ℕ) → IsRunOf k b (code.TheVariants.NoCorrection fails) kept xs
    → Certifies k (code.TheVariants.NoCorrection fails) kept xs text → IsCertifiedBy k b (NoCorrection (failure_of fails)) text
none law k b fails kept xs text run h = record {
  cert = h.cert;
  spelled = h.spelled;
  shows = right_for law k b (code.TheVariants.NoCorrection fails) kept xs text claim.Nothing run h h.claim_is;
}

corrected : RightUnderAnyBudget → (k : Task) (b : ℕ) (s : List Choice) (cost : ℕ) (fails : code_failure.Failure) (kept : List Case) (xs : List Session) (text : List ℕ)
    (n : ℕ) (failure : Failure) (es : List Edit) (p : List Routine) → IsRunOf k b (code.TheVariants.Corrected s cost fails) kept xs
    → Certifies k (code.TheVariants.Corrected s cost fails) kept xs text → cost ≡ n → Makes (tree_of k) s p es → IsCertifiedBy k b (Corrected n failure es p) text
corrected law k b s cost fails kept xs text n failure es p run h same makes = record {
  cert = h.cert;
  spelled = h.spelled;
  shows = (
    right_for law k b (code.TheVariants.Corrected s cost fails) kept xs text (claim.Cost n) run h (subst (λ m. h.cert.claim ≡ claim.Cost m) same h.claim_is),
    subst (λ t. Makes (tree_of k) t p es) (sym h.selection_is) makes,
  );
}

spent : (k : Task) (b at_least budget : ℕ) (kept : List Case) (xs : List Session) (text : List ℕ) → IsRunOf k b (code.TheVariants.Spent at_least budget) kept xs
    → Certifies k (code.TheVariants.Spent at_least budget) kept xs text → IsCertifiedBy k b (Spent at_least budget) text
spent k b at_least budget kept xs text run h =
    let all : h.cert.sessions ≡ xs = h.whole budget h.claim_is in
    let trail = subst (IsTrailOf (space k b) kept xs) run.stands.0 run.search.trail in
    record {
      cert = h.cert;
      spelled = h.spelled;
      shows = (
        record {
          claim_is = subst (λ m. h.cert.claim ≡ claim.Spent m) run.stands.1 h.claim_is;
          right = h.right b run;
          honest = subst (All (IsHonest (coding k))) (sym all) run.search.honest;
        },
        subst (λ ys. IsAtLeast (map told_of ys) at_least) (sym all) trail.1,
        run.stands.1,
      );
    }

pub shown : RightUnderAnyBudget → (k : Task) (b : ℕ) (d : code.Answer) (kept : List Case) (xs : List Session) (o : Option (List ℕ)) (a : Answer) → IsRunOf k b d kept xs
    → IsKeptFor k d kept xs o → StandsFor k d a → IsKeptOf k b a o
shown law k b code.TheVariants.Correct kept xs (Some text) a run h stands =
    subst (λ x. IsKeptOf k b x (Some text)) (sym stands) (correct law k b kept xs text run h)
shown law k b code.TheVariants.Correct kept xs None a run h stands = absurd h
shown law k b (code.TheVariants.Corrected s cost fails) kept xs (Some text) (Corrected n failure es p) run h stands =
    corrected law k b s cost fails kept xs text n failure es p run h stands.0 stands.2
shown law k b (code.TheVariants.Corrected s cost fails) kept xs (Some text) Correct run h stands = absurd stands
shown law k b (code.TheVariants.Corrected s cost fails) kept xs (Some text) (NoCorrection failure) run h stands = absurd stands
shown law k b (code.TheVariants.Corrected s cost fails) kept xs (Some text) EmptyReference run h stands = absurd stands
shown law k b (code.TheVariants.Corrected s cost fails) kept xs (Some text) (Spent n c) run h stands = absurd stands
shown law k b (code.TheVariants.Corrected s cost fails) kept xs None a run h stands = absurd h
shown law k b (code.TheVariants.NoCorrection fails) kept xs (Some text) a run h stands =
    subst (λ x. IsKeptOf k b x (Some text)) (sym stands) (none law k b fails kept xs text run h)
shown law k b (code.TheVariants.NoCorrection fails) kept xs None a run h stands = absurd h
shown law k b code.TheVariants.EmptyReference kept xs o a run h stands =
    subst (λ x. IsKeptOf k b x o) (sym stands) h
shown law k b (code.TheVariants.Spent at_least budget) kept xs (Some text) a run h stands =
    subst (λ x. IsKeptOf k b x (Some text)) (sym stands) (spent k b at_least budget kept xs text run h)
shown law k b (code.TheVariants.Spent at_least budget) kept xs None a run h stands = absurd h
shown law k b code.TheVariants.NoMemory kept xs o a run h stands = absurd stands
