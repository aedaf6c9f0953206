-- The certificate of a run.
use Rattle.std.proofs.Common.{◌≡◌, ℕ, ◌≤◌, List, Some, refl, sym, ap, ◌∙◌, subst, arith}
use Rattle.cegis_loop.specs.declared.outcome.Least.{Least}
use Rattle.cegis_loop.specs.declared.outcome.Least.TheVariants.{Nothing, Spent}
use Rattle.cegis_loop.specs.Answers.{IsSpent}
use Rattle.choice_tree.specs.declared.selection.Choice.{Choice}
use Rattle.input_space.specs.declared.case.Case.{Case}
use Rattle.input_space.specs.declared.session.Session.{Session}
use Rattle.input_space.specs.Sessions.{logged}
use Rattle.input_space.specs.Tasks.{Task}
use Rattle.cert_text.specs.declared.cert.Claim.{Claim}
use Rattle.cert_text.specs.declared.cert.Claim.TheVariants as claim
use Rattle.feedback_text.specs.declared.answer.Answer as code
use Rattle.search_certificates.specs.Certified.{Claims, IsCertified, IsChosen, IsClaimed, claim_of}
use Rattle.grade_core.specs.Runs.{Certifies, HasRun, HasSelection, IsClaimOf, IsKeptFor, IsRunOf, StandsForFound}

-- what is claimed of the answer is claimed of what was found
claimed : (b : ℕ) (a : code.Answer) (c : Claim) (found : Least (List Choice)) (n : ℕ) → IsClaimOf a c → StandsForFound b a found → (IsSpent found → n ≡ b) → claim_of found n ≡ Some c
claimed b code.TheVariants.Correct c found n is stands spent = ap (λ f. claim_of f n) stands.1 ∙ ap Some (sym is)
claimed b (code.TheVariants.Corrected s cost fails) c found n is stands spent = ap (λ f. claim_of f n) stands ∙ ap Some (sym is)
claimed b (code.TheVariants.NoCorrection fails) c found n is stands spent = ap (λ f. claim_of f n) stands ∙ ap Some (sym is)
claimed b code.TheVariants.EmptyReference c found n is stands spent = absurd is
claimed b (code.TheVariants.Spent at_least budget) c found n is stands spent =
    let many : n ≡ budget = spent (subst IsSpent (sym stands.0) tt) ∙ sym stands.1 in
    ap (λ f. claim_of f n) stands.0 ∙ ap (λ m. Some (claim.Spent m)) many ∙ ap Some (sym is)
claimed b code.TheVariants.NoMemory c found n is stands spent = absurd is

claims_of : (k : Task) (b : ℕ) (a : code.Answer) (kept : List Case) (xs : List Session) (c : Claim) → IsClaimOf a c → (run : IsRunOf k b a kept xs) → Claims k c kept xs b run.found
claims_of k b a kept xs c is run = record { search = run.search; claimed = claimed b a c run.found (logged xs) is run.stands run.search.answer.spent }

some_logged : (a : code.Answer) (c : Claim) (b n : ℕ) (found : Least (List Choice)) → IsClaimOf a c → StandsForFound b a found → 1 ≤ b → c ≡ claim.Spent n → 1 ≤ n
some_logged code.TheVariants.Correct c b n found is stands some e = (let no : claim.Cost 0 ≡ claim.Spent n = sym is ∙ e in absurd cc)
some_logged (code.TheVariants.Corrected s cost fails) c b n found is stands some e = (let no : claim.Cost cost ≡ claim.Spent n = sym is ∙ e in absurd cc)
some_logged (code.TheVariants.NoCorrection fails) c b n found is stands some e = (let no : claim.Nothing ≡ claim.Spent n = sym is ∙ e in absurd cc)
some_logged code.TheVariants.EmptyReference c b n found is stands some e = absurd is
some_logged (code.TheVariants.Spent at_least budget) c b n found is stands some e =
    let same : claim.Spent budget ≡ claim.Spent n = sym is ∙ e in
    let m : budget ≡ n = cc in
    let l = stands.1 in
    omega arith
some_logged code.TheVariants.NoMemory c b n found is stands some e = absurd is

pub is_claimed : (k : Task) (a : code.Answer) (kept : List Case) (xs : List Session) (c : Claim) → IsClaimOf a c → HasRun k a kept xs → IsClaimed k c kept xs
is_claimed k a kept xs c is h = record {
  found = h.run.found;
  budget = h.budget;
  claims = claims_of k h.budget a kept xs c is h.run;
  few = (let most = h.few in let all = h.run.search.answer.budget in omega arith);
  some = λ n e. some_logged a c h.budget n h.run.found is h.run.stands h.some e;
}

selected : (b : ℕ) (a : code.Answer) (found : Least (List Choice)) (t : List Choice) → StandsForFound b a found → IsChosen found t → HasSelection a t
selected b code.TheVariants.Correct found t stands chosen = tt
selected b (code.TheVariants.Corrected s cost fails) found t stands chosen = subst (λ f. IsChosen f t) stands chosen
selected b (code.TheVariants.NoCorrection fails) found t stands chosen = subst (λ f. IsChosen f t) stands chosen
selected b code.TheVariants.EmptyReference found t stands chosen = subst (λ f. IsChosen f t) stands chosen
selected b (code.TheVariants.Spent at_least budget) found t stands chosen = subst (λ f. IsChosen f t) stands.0 chosen
selected b code.TheVariants.NoMemory found t stands chosen = stands

pub certifies : (k : Task) (a : code.Answer) (kept : List Case) (xs : List Session) (c : Claim) (text : List ℕ) → IsClaimOf a c → HasRun k a kept xs → IsCertified k c kept xs text
    → Certifies k a kept xs text
certifies k a kept xs c text is h made = record {
  cert = made.cert;
  spelled = made.spelled;
  claim_is = subst (IsClaimOf a) (sym made.claim_is) is;
  selection_is = selected h.budget a h.run.found made.cert.selection h.run.stands (made.certifies h.budget h.run.found (claims_of k h.budget a kept xs c is h.run)).chosen;
  cases_are = made.cases_are;
  right = λ b run. (made.certifies b run.found (claims_of k b a kept xs c is run)).right;
  whole = λ n e. made.whole n (sym made.claim_is ∙ e);
}

-- what certifies an answer is kept of it
pub kept_for : (k : Task) (a : code.Answer) (kept : List Case) (xs : List Session) (text : List ℕ) → (a ≡ code.TheVariants.EmptyReference → ⊥) → (a ≡ code.TheVariants.NoMemory → ⊥)
    → Certifies k a kept xs text → IsKeptFor k a kept xs (Some text)
kept_for k code.TheVariants.Correct kept xs text some memory h = h
kept_for k (code.TheVariants.Corrected s cost fails) kept xs text some memory h = h
kept_for k (code.TheVariants.NoCorrection fails) kept xs text some memory h = h
kept_for k code.TheVariants.EmptyReference kept xs text some memory h = absurd (some refl)
kept_for k (code.TheVariants.Spent at_least budget) kept xs text some memory h = h
kept_for k code.TheVariants.NoMemory kept xs text some memory h = absurd (memory refl)
