use Rattle.std.proofs.Common.{◌∙◌, ap, is_some, subst, sym}
use Rattle.bit_words.specs.Logic.{Keeps, OwnsAll}
use Rattle.bit_words.specs.Later.{owned_later}
use Rattle.sym_values.specs.Forms.{joined}
use Rattle.sym_nodes.specs.Environments.{PicksRead}
use Rattle.sym_expr.specs.Signatures.{Signatures, given_type, value_types}
use Rattle.sym_calls.proofs.Making.{answer_made}
use Rattle.sym_calls.proofs.Owning.{arguments_owned}
use Rattle.sym_calls.proofs.Within.{outcome_as, owned_as}
use Rattle.sym_calls.proofs.once.OnceFunctionsRemembering.call.Goals as goal

pub find-requires : goal.find-requires
find-requires g c =
    let args = arguments_owned c.args.view.now.limits.now c.args.args c.requires.args.each in
    rw c.in_ok-call.ensures (owned_as (λ b h. h) args)

pub remember-requires-clause-args : goal.remember-requires-clause-args
remember-requires-clause-args g c =
    let args = arguments_owned c.args.view.now.limits.now c.args.args c.requires.args.each in
    let kept : Keeps g.L.Logic.owns g.L.Logic.reads c.args.g.now.logic.now c.call.new.g.logic.now =
    record { kept = c.call.ensures.extends.kept; same = c.call.ensures.extends.same } in
    rw c.in_ok-call.ensures (owned_later kept (owned_as (λ b h. h) args))

pub remember-requires-clause-answer : goal.remember-requires-clause-answer
remember-requires-clause-answer g c =
    let l = c.args.view.now.limits.now in
    let f = c.args.f.now in
    let args = c.args.args in
    let many = c.requires.many in
    let given = λ (s : Signatures). given_type s f (value_types args) in
    let kept : Keeps g.L.Logic.owns g.L.Logic.reads c.args.g.now.logic.now c.call.new.g.logic.now =
    record { kept = c.call.ensures.extends.kept; same = c.call.ensures.extends.same } in
    let picks = subst (λ ps. OwnsAll g.L.Logic.owns c.args.g.now.logic.now (joined ps)) many.fixed (owned_as (λ b h. h) c.requires.picks) in
    let typed = sym (ap (λ s. is_some (given s)) many.same) ∙ c.requires.typed in
    let outcome = c.in_ok-outcome-in-None.ensures in
    rw c.in_ok-call.ensures
    (answer_made (record { level = c.args.self.now.level; limits = l; name = f; args = args }) c.in_ok-outcome-in-None.outcome
    kept picks (owned_as (λ b h. h) (arguments_owned l args c.requires.args.each)) typed
    (λ t e. outcome_as (λ b h. h) (outcome.made t (ap given many.same ∙ e)))
    (λ vs m calls values line called chosen read.
    outcome.value vs m calls values line (many.level_calls l m calls called)
    (subst (λ ps. PicksRead (g.L.Logic.reads c.args.g.now.logic.now vs) ps m) (sym many.fixed) chosen) read))

pub returns-in_ok-known-in-Some-clause-made : goal.returns-in_ok-known-in-Some-clause-made
returns-in_ok-known-in-Some-clause-made g c t e =
    let answer = rw c.in_ok-call.ensures at c.in-Some.ensures in
    let type = ap (λ s. given_type s c.args.f.now (value_types c.args.args)) (sym c.requires.many.same) ∙ e in
    rw c.in_ok-known-in-Some.ensures (record { owned = owned_as (λ b h. h) answer.owned.owned; owned_fault = answer.owned.owned_fault; form = answer.form t type })

pub returns-in_ok-known-in-Some-clause-value : goal.returns-in_ok-known-in-Some-clause-value
returns-in_ok-known-in-Some-clause-value g c vs m calls values line called chosen given =
    let answer = rw c.in_ok-call.ensures at c.in-Some.ensures in
    let picked = subst (λ ps. PicksRead (g.L.Logic.reads c.args.g.now.logic.now vs) ps m) c.requires.many.fixed chosen in
    rw c.in_ok-known-in-Some.ensures (answer.value vs m calls values line called picked given)

pub returns-in_ok-remember-in-None-clause-made : goal.returns-in_ok-remember-in-None-clause-made
returns-in_ok-remember-in-None-clause-made g c t e =
    let same = c.in_ok-remember-in-None.ensures.unchanged in
    outcome_as (λ b h. rw same h) (c.in_ok-outcome-in-None.ensures.made t e)

pub returns-in_ok-remember-in-None-clause-value : goal.returns-in_ok-remember-in-None-clause-value
returns-in_ok-remember-in-None-clause-value g c vs m calls values line called chosen given =
    let many = c.requires.many in
    rw c.in_ok-remember-in-None.ensures.unchanged
    (c.in_ok-outcome-in-None.ensures.value vs m calls values line (many.level_calls c.args.view.now.limits.now m calls called) chosen given)
