use Rattle.std.proofs.Common.{◌∙◌, subst}
use Rattle.std.proofs.lemmas.List.{append-nil}
use Rattle.cert_text.specs.Certificates.{IsCertOf, cert_with}
use Rattle.cert_text.proofs.writing.write_cert.Goals as goal

pub returns : goal.returns
returns c =
    let v = c.args.c.now in
    subst (λ ss. IsCertOf c.in_ok-text.text.items (cert_with v.claim v.selection v.cases ss))
    (append-nil c.items.result.now ∙ c.items.ensures) c.in_ok-text.ensures
