use Rattle.std.proofs.Common.{◌++◌, ap, ◌∙◌, subst}
use Rattle.cert_text.specs.Certificates.{WritesCases, cert_with, sessions_lines}
use Rattle.step_lines.specs.Lines.{ended}
use Rattle.cert_text.proofs.Written.{cert_written, sessions_joined}
use Rattle.cert_text.proofs.writing.write_parts.Goals as goal

pub returns : goal.returns
returns c =
    let p = c.args.p.now in
    let a = c.write_front.new.out.items in
    let b = c.write_cases.new.out.items in
    let joined =
    c.in_ok-write_sessions-2.ensures ∙ ap (λ t. t ++ ended (sessions_lines p.more.now)) c.in_ok-write_sessions.ensures
    ∙ sessions_joined b p.sessions.now p.more.now in
    cert_written (cert_with p.claim p.selection.now p.cases.now (p.sessions.now ++ p.more.now)) c.requires c.new-out.result.items a b
    c.write_sessions-2.new.out.items c.extend_from_slice.new.self.items
    c.new-out.ensures.items c.in_ok-write_front.ensures (subst (WritesCases a b) c.items.ensures c.in_ok-write_cases.ensures)
    joined c.in_ok-extend_from_slice.ensures.items
