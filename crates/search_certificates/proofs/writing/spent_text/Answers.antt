use Rattle.std.proofs.Common.{◌≡◌, ◌∙◌, ◌++◌, List, [], arith, refl, subst, sym}
use Rattle.std.specs.Prelude.{All}
use Rattle.std.proofs.lemmas.List.{append-nil}
use Rattle.choice_tree.specs.declared.selection.Choice.{Choice}
use Rattle.cert_text.specs.Certificates.{IsCertOf, cert_with}
use Rattle.cert_text.specs.Limits.{KeepsForm}
use Rattle.cert_text.specs.declared.cert.Claim.TheVariants as claim
use Rattle.input_space.specs.declared.session.Session.{Session}
use Rattle.input_space.specs.Sessions.{logged}
use Rattle.input_space.specs.TaskParts.{task_with}
use Rattle.search_certificates.specs.Certified.{KeepsAsked}
use Rattle.search_certificates.proofs.Certifying.{certify_spent, spent_form, spent_many}
use Rattle.search_certificates.proofs.writing.spent_text.Goals as goal

pub write_parts-requires : goal.write_parts-requires
write_parts-requires c =
    let k = task_with c.args.t.now in
    let r = c.requires in
    let kept = c.args.kept.now in
    let xs = c.args.sessions.now in
    let n = c.args.clauses in
    let many : logged xs ≡ n = spent_many r.found (logged xs) n r.claims.claimed in
    let most = r.few in
    let asked : All (λ (x : Session). KeepsAsked x.query) xs =
    subst (All (λ (x : Session). KeepsAsked x.query)) c.items.ensures (c.keep_asked.ensures.0 c.if-not-keep_asked.false) in
    subst (λ ys. KeepsForm (cert_with (claim.Spent n) c.from_vec-none.result kept (ys ++ []))) (sym c.items-2.ensures)
    (subst (λ (s : List Choice). KeepsForm (cert_with (claim.Spent n) s kept (xs ++ []))) (sym (c.from_vec-none.ensures ∙ c.new.ensures.items))
    (spent_form k kept xs r.budget n r.found r.claims c.count-cases.ensures.few (r.some n refl) (omega arith) asked))

pub returns : goal.returns
returns c =
    let k = task_with c.args.t.now in
    let kept = c.args.kept.now in
    let xs = c.args.sessions.now in
    let n = c.args.clauses in
    record {
      cert = cert_with (claim.Spent n) [] kept (xs ++ []);
      spelled =
          subst (λ ys. IsCertOf c.in_ok-text.text.items (cert_with (claim.Spent n) [] kept (ys ++ []))) c.items-2.ensures
          (subst (λ (s : List Choice). IsCertOf c.in_ok-text.text.items (cert_with (claim.Spent n) s kept (c.items-2.result.now ++ [])))
          (c.from_vec-none.ensures ∙ c.new.ensures.items) c.in_ok-text.ensures);
      claim_is = refl;
      cases_are = refl;
      whole = λ m e. append-nil xs;
      certifies = certify_spent k kept xs n;
    }
