use Rattle.std.proofs.Common.{◌∙◌}
use Rattle.eml_rewrite.proofs.Programs.{rewritten_in, stops_in}
use Rattle.eml_rewrite.proofs.rewriting.rewrite.Goals as goal

pub returns : goal.returns
returns g c =
    rewritten_in (g.K.Known.gives c.args.known.now) c.args.rules.now
    c.in_ok-scopes.scopes.funcs.now c.args.p.now.funcs.items.items
    (c.in_ok-scopes.ensures ∙ c.as_slice.ensures.value) c.requires.keep_primes
    (record { funcs = c.in_ok-funcs.funcs }) c.in_ok-funcs.ensures

pub returns-in_err-funcs : goal.returns-in_err-funcs
returns-in_err-funcs g c =
    stops_in c.from_residual-in_err-funcs.result (g.K.Known.gives c.args.known.now)
    c.args.rules.now c.in_ok-scopes.scopes.funcs.now c.args.p.now.funcs.items.items
    (c.in_ok-scopes.ensures ∙ c.as_slice.ensures.value) c.requires.keep_primes
    c.in_err-funcs.field-0.0 c.from_residual-in_err-funcs.ensures c.in_err-funcs.ensures
