-- the sessions, with no cases
use Rattle.std.proofs.Common.{◌∙◌, ◌++◌, List, [], subst, sym}
use Rattle.std.specs.Prelude.{All}
use Rattle.std.proofs.lemmas.List.{append-nil}
use Rattle.choice_tree.specs.declared.selection.Choice.{Choice}
use Rattle.cert_text.specs.Certificates.{IsCertOf, cert_with}
use Rattle.cert_text.specs.Limits.{KeepsForm}
use Rattle.cert_text.specs.declared.cert.Claim.TheVariants as claim
use Rattle.input_space.specs.declared.case.Case.{Case}
use Rattle.input_space.specs.declared.session.Session.{Session}
use Rattle.input_space.specs.TaskParts.{task_with}
use Rattle.search_certificates.specs.Certified.{KeepsAsked}
use Rattle.search_certificates.proofs.Certifying.{alone_form}
use Rattle.search_certificates.proofs.alone.sessions_text.Goals as goal

pub write_parts-requires : goal.write_parts-requires
write_parts-requires c =
    let xs = c.args.sessions.now in
    let n = c.args.clauses in
    let r = c.requires in
    let asked : All (λ (x : Session). KeepsAsked x.query) xs =
    subst (All (λ (x : Session). KeepsAsked x.query)) c.items.ensures (c.keep_asked.ensures.0 c.if-not-keep_asked.false) in
    subst (λ ys. KeepsForm (cert_with (claim.Spent n) c.from_vec-none.result c.from_vec-cases.result (ys ++ []))) (sym c.items-2.ensures)
    (subst (λ (x : List Case). KeepsForm (cert_with (claim.Spent n) c.from_vec-none.result x (xs ++ []))) (sym (c.from_vec-cases.ensures ∙ c.new-2.ensures.items))
    (subst (λ (s : List Choice). KeepsForm (cert_with (claim.Spent n) s [] (xs ++ []))) (sym (c.from_vec-none.ensures ∙ c.new.ensures.items))
    (alone_form (task_with c.args.t.now) n xs r.some r.few r.backed r.numbered asked)))

pub returns : goal.returns
returns c =
    let xs = c.args.sessions.now in
    let n = c.args.clauses in
    let text = c.in_ok-text.text.items in
    subst (λ ys. IsCertOf text (cert_with (claim.Spent n) [] [] ys)) (append-nil xs)
    (subst (λ ys. IsCertOf text (cert_with (claim.Spent n) [] [] (ys ++ []))) c.items-2.ensures
    (subst (λ (x : List Case). IsCertOf text (cert_with (claim.Spent n) [] x (c.items-2.result.now ++ []))) (c.from_vec-cases.ensures ∙ c.new-2.ensures.items)
    (subst (λ (s : List Choice). IsCertOf text (cert_with (claim.Spent n) s c.from_vec-cases.result (c.items-2.result.now ++ []))) (c.from_vec-none.ensures ∙ c.new.ensures.items)
    c.in_ok-text.ensures)))
