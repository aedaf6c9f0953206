-- the certificate has the question of the session
use Rattle.std.proofs.Common.{◌≡◌, ◌∙◌, List, ap, subst, [], ◌∷◌}
use Rattle.choice_tree.specs.declared.selection.Choice.{Choice}
use Rattle.input_space.specs.declared.session.Query.{Query}
use Rattle.input_space.specs.declared.session.Session.{Session}
use Rattle.cert_text.specs.declared.cert.Claim.TheVariants as claim
use Rattle.cert_text.specs.Certificates.{IsCertOf, cert_with}
use Rattle.certificate_judge.specs.Looks.{session_with}
use Rattle.check_core.proofs.Reporting.{one_session}
use Rattle.check_core.proofs.writing.left_open.Goals as goal

pub returns : goal.returns
returns c = record {
  place = c.requires.place;
  counted = c.requires.counted;
  one = c.requires.one;
  at = c.requires.at;
  text =
      let none : c.from_vec-none.result ≡ [] = c.from_vec-none.ensures ∙ c.new.ensures.items in
      let asked : c.in_ok-query.query ≡ c.requires.one.query =
      c.in_ok-query.ensures
      ∙ ap (λ (x : Session). x.query) (one_session c.items.result.now c.args.c.now.sessions c.args.session c.requires.place c.index-items-session.result c.requires.one
      c.items.ensures c.requires.counted c.index-items-session.is c.requires.at) in
      subst (λ (q : Query). IsCertOf c.in_ok-text.text.items (cert_with (claim.Spent 200000) [] c.args.c.now.cases (session_with q c.args.built c.args.log ∷ []))) asked
      (subst (λ (s : List Choice). IsCertOf c.in_ok-text.text.items (cert_with (claim.Spent 200000) s c.args.c.now.cases (session_with c.in_ok-query.query c.args.built c.args.log ∷ []))) none
      c.in_ok-text.ensures);
}
