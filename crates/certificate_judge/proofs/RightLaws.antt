-- Right certificates are accepted.
use Rattle.std.proofs.Common.{◌≡◌, ℕ, zero, suc, ◌+◌, ◌≤◌, Bool, List, ◌∷◌, length, take, drop, refl, ap, subst, arith, length-drop}
use Rattle.std.specs.List.{Contains}
use Rattle.std.specs.Prelude.{All}
use Rattle.std.proofs.lemmas.List.{length-take-le}
use Rattle.clause_base.specs.declared.formula.Formula.{Formula}
use Rattle.clause_base.specs.Formulas.{Extend}
use Rattle.clause_base.specs.Logs.{Refutes}
use Rattle.clause_base.specs.Solving.{IsModel}
use Rattle.clause_base.proofs.LogLaws.{follows_by_place}
use Rattle.derivation_check.specs.Soundness.{RefutedHasNoValues}
use Rattle.input_space.specs.declared.session.Session.{Session}
use Rattle.input_space.specs.Sessions.{IsBacked, question_of}
use Rattle.input_space.specs.Statements.{bits_of}
use Rattle.input_space.specs.TaskCoding.{coding}
use Rattle.input_space.specs.Tasks.{Task}
use Rattle.input_space.specs.TaskSpace.{space, wanted_inputs}
use Rattle.cert_text.specs.declared.cert.Cert.{Cert}
use Rattle.cert_text.specs.declared.cert.Claim.{Claim}
use Rattle.cert_text.specs.declared.cert.Claim.TheVariants as claim
use Rattle.certificate_laws.specs.Right.{IsRight, IsShown}
use Rattle.certificate_judge.specs.declared.verdict.Shown.TheVariants as shown
use Rattle.certificate_judge.specs.declared.verdict.Verdict.TheVariants as verdict
use Rattle.certificate_judge.specs.Looks.{IsBad, IsOther}
use Rattle.certificate_judge.specs.Passing.{Mended, no_session, as_it_is, made_anew, with_sessions}
use Rattle.certificate_judge.specs.VerdictLaws.{IsWholeClaim, RightAsItStands, RightIsAccepted}
use Rattle.certificate_judge.specs.Verdicts.{HasItsCost, ShowsClaim}
use Rattle.certificate_judge.proofs.TrialLaws.{all_at}

-- NONE MADE ANEW

none_mended : {xs ys : List Session} (n : ℕ) → n ≡ 0 → Mended xs ys n → ys ≡ xs
none_mended n is no_session = refl
none_mended n is (as_it_is {x = x} m) = ap (λ zs. x ∷ zs) (none_mended n is m)
none_mended n is (made_anew {anew = k} q f m e) = absurd (omega (arith, is, e))

pub as_it_stands : RightAsItStands
as_it_stands k budget c a =
    subst (λ (ys : List Session). IsRight k budget (with_sessions c ys)) (none_mended 0 refl a.mended) (a.right budget)

-- EACH REJECTION

cost_of_shown : (k : Task) (budget : ℕ) (c : Cert) (d : Claim) → IsShown k budget c d → HasItsCost k c d
cost_of_shown k budget c (claim.Cost n) h = h.0
cost_of_shown k budget c claim.Nothing h = tt
cost_of_shown k budget c (claim.Spent n) h = tt

claim_of_shown : (k : Task) (budget : ℕ) (c : Cert) (d : Claim) → IsWholeClaim d → IsShown k budget c d → ShowsClaim c d
claim_of_shown k budget c (claim.Cost n) whole h = h.1
claim_of_shown k budget c claim.Nothing whole h = h
claim_of_shown k budget c (claim.Spent n) whole h = absurd whole

refuting : (c : Cert) (d : Claim) → ShowsClaim c d → All (λ (x : Session). Refutes x.log.steps) c.sessions
refuting c (claim.Cost n) h = h.refuted
refuting c claim.Nothing h = h.refuted
refuting c (claim.Spent n) h = absurd h

own_length : (n : ℕ) (values : List Bool) → n + 1 ≤ length values → length (take n (drop 1 values)) ≡ n
own_length n values long = length-take-le n (drop 1 values) (let e = length-drop 1 values in omega (arith, e, long))

-- no values satisfy the formula of a question that is refuted by another one
no_values : RefutedHasNoValues → (k : Task) (budget : ℕ) (c : Cert) (x : Session) (clause : ℕ) (built : Formula) (values : List Bool)
    → IsBacked (space k budget) (coding k) c.cases x → Refutes x.log.steps → IsOther k c.cases x clause built (shown.Values values) → ⊥
no_values none k budget c x clause built values backed refuted h =
    let n = bits_of (coding k) (question_of x.query) in
    let bits = take n (drop 1 values) in
    let model : IsModel built values = h.shown_so in
    let own = h.built_so.own in
    let many : length bits ≡ n = own_length n values (omega (arith, own, model.many)) in
    let extends : Extend bits built.vars built.clauses = record {
      values = values;
      many = model.many;
      begins = ap (λ m. take m (drop 1 values)) many;
      satisfied = model.satisfied;
    } in
    let answered = (h.built_so.states budget bits many).0 extends in
    let other = (backed.states bits many).1 answered in
    none x.formula.vars x.formula.clauses x.log.steps other.values backed.follows refuted other.satisfied

no_bad : (k : Task) (budget : ℕ) (c : Cert) (x : Session) (step : ℕ) → IsBacked (space k budget) (coding k) c.cases x → IsBad k c.cases x step → ⊥
no_bad k budget c x zero backed h = h.1
no_bad k budget c x (suc place) backed h =
    h.1.off ((follows_by_place x.formula.vars x.formula.clauses x.log.steps).0 backed.follows place h.1.one h.1.at)

pub right_accepted : RefutedHasNoValues → RightIsAccepted
right_accepted none k budget c (verdict.Accepted cost program anew) right whole h = tt
right_accepted none k budget c (verdict.AcceptedNone anew) right whole h = tt
right_accepted none k budget c (verdict.WrongCase zero) right whole h = h
right_accepted none k budget c (verdict.WrongCase (suc place)) right whole h =
    h.off (all_at (Contains (wanted_inputs k)) c.cases place h.one right.cases h.at)
right_accepted none k budget c verdict.WrongCost right whole h = h.1 (cost_of_shown k budget c c.claim right.shown)
right_accepted none k budget c verdict.WrongClaim right whole h = h.2 (claim_of_shown k budget c c.claim whole right.shown)
right_accepted none k budget c (verdict.OtherFormula zero clause built (shown.Values values)) right whole h = h.1
right_accepted none k budget c (verdict.OtherFormula (suc place) clause built (shown.Values values)) right whole h =
    let x = h.1.1 in
    no_values none k budget c x.0 clause built values
    (all_at (IsBacked (space k budget) (coding k) c.cases) c.sessions place x.0 right.backed x.1)
    (all_at (λ (y : Session). Refutes y.log.steps) c.sessions place x.0 (refuting c c.claim (claim_of_shown k budget c c.claim whole right.shown)) x.1)
    x.2
right_accepted none k budget c (verdict.OtherFormula session clause built (shown.Spent log)) right whole h = tt
right_accepted none k budget c (verdict.BadStep zero step) right whole h = h.1
right_accepted none k budget c (verdict.BadStep (suc place) step) right whole h =
    let x = h.1.1 in
    no_bad k budget c x.0 step (all_at (IsBacked (space k budget) (coding k) c.cases) c.sessions place x.0 right.backed x.1) x.2
right_accepted none k budget c verdict.NoMemory right whole h = tt
