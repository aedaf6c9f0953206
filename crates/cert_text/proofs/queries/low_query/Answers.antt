use Rattle.cert_text.proofs.queries.low_query.Goals as goal

pub returns-in_err-low : goal.returns-in_err-low
returns-in_err-low c = rw c.from_residual.ensures (λ x a. c.in_err-low.ensures (record { most = a.most; cases = a.cases }) a.spelled)
