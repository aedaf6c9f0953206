use Rattle.std.proofs.Common.{◌++◌, ap, ◌∙◌}
use Rattle.cert_text.specs.LineForms.{set_apart}
use Rattle.cert_text.proofs.Written.{case_written}
use Rattle.cert_text.proofs.cases.write_case.Goals as goal

pub returns : goal.returns
returns c =
    case_written c.args.out.now.items c.extend_from_slice.new.self.items c.write_apart.new.out.items c.push.new.self.items c.in_ok-text.text.items c.args.case.now c.in_ok-extend_from_slice.ensures.items (c.in_ok-write_apart.ensures ∙ ap (λ t. c.extend_from_slice.new.self.items ++ set_apart t) c.as_slice.ensures.value) c.in_ok-push.ensures.items c.in_ok-text.ensures.spelled
