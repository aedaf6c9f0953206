use Rattle.std.proofs.Common.{◌≡◌, ◌-◌, ◌++◌, Some, ap, arith, length, refl, subst, suc, sym}
use Rattle.certificate_laws.specs.Topics.{OfTask}
use Rattle.cert_text.specs.Certificates.{cert_with}
use Rattle.cert_text.specs.declared.cert.Claim.TheVariants as claim
use Rattle.input_space.specs.TaskParts.{task_with}
use Rattle.search_certificates.specs.declared.places.Wanted.TheVariants as wanted
use Rattle.search_certificates.specs.Places.{IsSessionOf, Refuting}
use Rattle.search_certificates.proofs.Certifying.{IsCheaper, certify_cost, cheaper_there, cost_form, failing_there, first_asks, is_cheaper, is_free}
use Rattle.search_certificates.proofs.writing.cost_text.Goals as goal
use Rattle.search_certificates.proofs.writing.cost_text.Goals.{then-cost-eq0, else-cost-eq0}

pub session_of-failing-requires : goal.session_of-failing-requires
session_of-failing-requires c =
    let k = task_with c.args.t.now in
    let r = c.requires in
    subst (Refuting wanted.Failure) (sym c.items-all.ensures)
    (failing_there k c.args.kept.now c.args.sessions.now r.budget c.args.cost r.found (c.choice_didnt_fail.ensures (OfTask k r.budget)) r.claims)

pub session_of-cheaper-requires : goal.session_of-cheaper-requires
session_of-cheaper-requires c =
    let k = task_with c.args.t.now in
    let r = c.requires in
    let dear = c.if-cost-eq0.false in
    let e : c.args.cost ≡ suc (c.args.cost - 1) = omega arith in
    subst (λ m. Refuting (wanted.Low (Some (c.args.cost - 1)) m) c.items-all.result.now) (sym c.count-cases.ensures.value)
    (subst (Refuting (wanted.Low (Some (c.args.cost - 1)) (length c.args.kept.now))) (sym c.items-all.ensures)
    (cheaper_there k c.args.kept.now c.args.sessions.now r.budget c.args.cost (c.args.cost - 1) r.found (c.cheaper_ruled_out.ensures (OfTask k r.budget)) e r.claims))

pub write_parts-requires : goal.write_parts-requires
write_parts-requires c =
    let k = task_with c.args.t.now in
    let r = c.requires in
    let kept = c.args.kept.now in
    let xs = c.args.sessions.now in
    let own = c.session_of-failing.result.now in
    let more = c.if-cost-eq0.cheaper.now in
    let one : IsSessionOf wanted.Failure xs own = subst (λ ys. IsSessionOf wanted.Failure ys own) c.items-all.ensures c.session_of-failing.ensures in
    let low : IsCheaper xs kept c.args.cost more = elim c.if-cost-eq0.branch [
      | then-cost-eq0 w ↦ is_free xs kept c.args.cost more w.if-cost-eq0.true (ap (λ b. b.now) w.cheaper-is)
      | else-cost-eq0 w ↦
          is_cheaper xs kept c.args.cost c.count-cases.result more w.if-cost-eq0.false c.count-cases.ensures.value
          (subst (λ ys. IsSessionOf (wanted.Low (Some (c.args.cost - 1)) c.count-cases.result) ys more) c.items-all.ensures
          (subst (IsSessionOf (wanted.Low (Some (c.args.cost - 1)) c.count-cases.result) c.items-all.result.now) (sym (ap (λ b. b.now) w.cheaper-is)) w.session_of-cheaper.ensures))
    ] in
    let small = c.if-cost-gt-MOST_COST.false in
    cost_form k kept xs own more r.budget c.args.cost r.found c.in-Fail.selection r.claims c.count-cases.ensures.few (omega arith) one
    (first_asks xs own c.index-failing-0.result c.in-Fail.selection one c.in-Fail.is) low
    (c.keep_asked.ensures.0 c.if-not-keep_asked.false) (c.keep_asked-else-not-keep_asked.ensures.0 c.if-not-keep_asked-2.false)

pub returns : goal.returns
returns c =
    let k = task_with c.args.t.now in
    let r = c.requires in
    let kept = c.args.kept.now in
    let xs = c.args.sessions.now in
    let own = c.session_of-failing.result.now in
    let more = c.if-cost-eq0.cheaper.now in
    let one : IsSessionOf wanted.Failure xs own = subst (λ ys. IsSessionOf wanted.Failure ys own) c.items-all.ensures c.session_of-failing.ensures in
    let low : IsCheaper xs kept c.args.cost more = elim c.if-cost-eq0.branch [
      | then-cost-eq0 w ↦ is_free xs kept c.args.cost more w.if-cost-eq0.true (ap (λ b. b.now) w.cheaper-is)
      | else-cost-eq0 w ↦
          is_cheaper xs kept c.args.cost c.count-cases.result more w.if-cost-eq0.false c.count-cases.ensures.value
          (subst (λ ys. IsSessionOf (wanted.Low (Some (c.args.cost - 1)) c.count-cases.result) ys more) c.items-all.ensures
          (subst (IsSessionOf (wanted.Low (Some (c.args.cost - 1)) c.count-cases.result) c.items-all.result.now) (sym (ap (λ b. b.now) w.cheaper-is)) w.session_of-cheaper.ensures))
    ] in
    record {
      cert = cert_with (claim.Cost c.args.cost) c.in-Fail.selection kept (own ++ more);
      spelled = c.in_ok-text.ensures;
      claim_is = refl;
      cases_are = refl;
      whole = λ n e. (let no : claim.Cost c.args.cost ≡ claim.Spent n = e in absurd cc);
      certifies = certify_cost k kept xs own more c.args.cost c.in-Fail.selection (λ b. c.choice_didnt_fail.ensures (OfTask k b)) one one.by.session one.alone
          (first_asks xs own c.index-failing-0.result c.in-Fail.selection one c.in-Fail.is) low;
    }
