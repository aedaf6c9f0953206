use Rattle.std.proofs.Common.{◌∙◌, ap, arith, refl, subst}
use Rattle.std.proofs.Math.Nat.{min-eq_left}
use Rattle.sym_expr.specs.Signatures.{Signatures, given_type, value_types}
use Rattle.sym_stmt.proofs.CallLevels.{level_below, level_itself}
use Rattle.sym_stmt.proofs.depths.UpToFunctionsRemembering.call.Goals as goal

pub returns-then-self-clause-made : goal.returns-then-self-clause-made
returns-then-self-clause-made g c t e =
    let given = λ (s : Signatures). given_type s c.args.f.now (value_types c.args.args) in
    c.in_ok-outcome.ensures.made t (ap given c.requires.many.entered.same ∙ e)

pub returns-then-self-clause-value : goal.returns-then-self-clause-value
returns-then-self-clause-value g c vs m calls values line called picks reads =
    let below = level_below c.requires.many (omega arith) c.args.view.now.limits.now m calls called in
    c.in_ok-outcome.ensures.value vs m calls values line below picks reads

pub call-requires-2 : goal.call-requires-2
call-requires-2 g c k =
    ((refl, tt), (c.requires.picks, (level_itself c.requires.many (omega arith), (c.requires.args, c.requires.typed))))

pub returns-clause-value : goal.returns-clause-value
returns-clause-value g c vs m calls values line called picks reads =
    let l = c.args.view.now.limits.now in
    let here = min-eq_left {n = c.args.self.now.level} {m = c.args.self.now.most} (omega arith) in
    let itself = subst (λ n. g.K.Setting.fixed.are_calls n l m calls) here called in
    c.in_ok-outcome-2.ensures.value vs m calls values line itself picks reads
