use Rattle.std.proofs.Common.{◌≡◌, ◌∙◌, ◌++◌, List, [], None, length, refl, subst, sym}
use Rattle.choice_tree.specs.declared.selection.Choice.{Choice}
use Rattle.certificate_laws.specs.Topics.{OfTask}
use Rattle.cert_text.specs.Certificates.{IsCertOf, cert_with}
use Rattle.cert_text.specs.Limits.{KeepsForm}
use Rattle.cert_text.specs.declared.cert.Claim.TheVariants as claim
use Rattle.input_space.specs.TaskParts.{task_with}
use Rattle.search_certificates.specs.declared.places.Wanted.TheVariants as wanted
use Rattle.search_certificates.specs.Places.{IsSessionOf, Refuting}
use Rattle.search_certificates.proofs.Certifying.{any_there, certify_none, none_form}
use Rattle.search_certificates.proofs.writing.none_text.Goals as goal

pub session_of-any-requires : goal.session_of-any-requires
session_of-any-requires c =
    let k = task_with c.args.t.now in
    let r = c.requires in
    subst (λ m. Refuting (wanted.Low None m) c.items.result.now) (sym c.count-cases.ensures.value)
    (subst (Refuting (wanted.Low None (length c.args.kept.now))) (sym c.items.ensures)
    (any_there k c.args.kept.now c.args.sessions.now r.budget r.found (c.any_ruled_out.ensures (OfTask k r.budget)) r.claims))

pub write_parts-requires : goal.write_parts-requires
write_parts-requires c =
    let k = task_with c.args.t.now in
    let r = c.requires in
    let kept = c.args.kept.now in
    let own = c.session_of-any.result.now in
    let one : IsSessionOf (wanted.Low None (length kept)) c.args.sessions.now own =
    subst (λ m. IsSessionOf (wanted.Low None m) c.args.sessions.now own) c.count-cases.ensures.value
    (subst (λ ys. IsSessionOf (wanted.Low None c.count-cases.result) ys own) c.items.ensures c.session_of-any.ensures) in
    subst (λ (s : List Choice). KeepsForm (cert_with claim.Nothing s kept (own ++ []))) (sym (c.from_vec-none.ensures ∙ c.new.ensures.items))
    (none_form k kept c.args.sessions.now own r.budget r.found r.claims c.count-cases.ensures.few one)

pub returns : goal.returns
returns c =
    let k = task_with c.args.t.now in
    let kept = c.args.kept.now in
    let own = c.session_of-any.result.now in
    let one : IsSessionOf (wanted.Low None (length kept)) c.args.sessions.now own =
    subst (λ m. IsSessionOf (wanted.Low None m) c.args.sessions.now own) c.count-cases.ensures.value
    (subst (λ ys. IsSessionOf (wanted.Low None c.count-cases.result) ys own) c.items.ensures c.session_of-any.ensures) in
    record {
      cert = cert_with claim.Nothing [] kept (own ++ []);
      spelled =
          subst (λ (s : List Choice). IsCertOf c.in_ok-text.text.items (cert_with claim.Nothing s kept (own ++ []))) (c.from_vec-none.ensures ∙ c.new.ensures.items) c.in_ok-text.ensures;
      claim_is = refl;
      cases_are = refl;
      whole = λ n e. (let no : claim.Nothing ≡ claim.Spent n = e in absurd cc);
      certifies = certify_none k kept c.args.sessions.now own one;
    }
