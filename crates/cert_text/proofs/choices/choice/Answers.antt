use Rattle.cert_text.proofs.Readings.{no_base, no_colon, no_member, no_pick}
use Rattle.cert_text.proofs.choices.choice.Goals as goal

pub returns-in_err-pick : goal.returns-in_err-pick
returns-in_err-pick c =
    rw c.from_residual.ensures (λ x s. no_pick c.args.word.now c.cut_at-cut.result.piece.now c.cut_at-cut.result.rest.now c.cut_at-cut.ensures.joined c.cut_at-cut.ensures.piece c.cut_at-cut.ensures.rest x s c.in_err-pick.ensures)

pub returns-in_err-digits : goal.returns-in_err-digits
returns-in_err-digits c =
    rw c.from_residual-in_err-digits.ensures (λ x s. no_colon c.args.word.now c.cut_at-cut.result.piece.now c.cut_at-cut.result.rest.now c.cut_at-cut.ensures.joined c.cut_at-cut.ensures.piece c.cut_at-cut.ensures.rest x s c.in_err-digits.ensures)

pub returns-in_err-member : goal.returns-in_err-member
returns-in_err-member c =
    rw c.from_residual-in_err-member.ensures (λ x s. no_member c.args.word.now c.cut_at-cut.result.piece.now c.cut_at-cut.result.rest.now c.cut_at-cut.ensures.joined c.cut_at-cut.ensures.piece c.cut_at-cut.ensures.rest x s c.in_ok-digits.digits.now c.in_ok-digits.ensures c.in_err-member.ensures)

pub returns-then-member-eq0 : goal.returns-then-member-eq0
returns-then-member-eq0 c = λ x s.
    no_base c.args.word.now c.cut_at-cut.result.piece.now c.cut_at-cut.result.rest.now c.cut_at-cut.ensures.joined c.cut_at-cut.ensures.piece c.cut_at-cut.ensures.rest x s c.in_ok-digits.digits.now c.in_ok-member.member c.in_ok-digits.ensures c.in_ok-member.ensures c.if-member-eq0.true
