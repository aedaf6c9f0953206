use Rattle.std.proofs.Common.{◌∙◌, ap, subst, sym}
use Rattle.bit_words.specs.Logic.{extends_keeps, extends_trans}
use Rattle.bit_words.specs.Later.{owned_later, read_later}
use Rattle.choice_tree.specs.Heads.{head_kind}
use Rattle.sym_values.specs.Later.{value_later}
use Rattle.sym_values.specs.Reading.{IsOutcome, Reading, spelled}
use Rattle.sym_nodes.specs.Nodes.{operation}
use Rattle.sym_nodes.specs.Operands.{any_true}
use Rattle.sym_nodes.proofs.Choosing.{faults_owned}
use Rattle.sym_nodes.proofs.Outcomes.{strict_is}
use Rattle.sym_nodes.proofs.TypeRules.{some_type}
use Rattle.sym_nodes.proofs.strict.strict_outcome.Goals as goal

pub any_fault-requires : goal.any_fault-requires
any_fault-requires g c = owned_later (extends_keeps c.operation.ensures.extends) (faults_owned c.args.parts.now c.requires.parts)

pub or-requires-clause-right : goal.or-requires-clause-right
or-requires-clause-right g c =
    let typed = some_type _ c.requires.typed in
    c.any_fault.ensures.extends.kept _ (c.in_ok-made.ensures.made typed.0 typed.1).owned_fault

pub returns-clause-extends : goal.returns-clause-extends
returns-clause-extends g c = extends_trans c.operation.ensures.extends (extends_trans c.any_fault.ensures.extends c.or.ensures.extends)

pub returns-clause-made : goal.returns-clause-made
returns-clause-made g c t e =
    let made = c.in_ok-made.ensures.made t e in
    let later = extends_trans c.any_fault.ensures.extends c.or.ensures.extends in
    record { owned = owned_later (extends_keeps later) made.owned; owned_fault = c.in_ok-fault.ensures.owned; form = made.form }

pub returns-clause-value : goal.returns-clause-value
returns-clause-value g c vs line rs h =
    let reads = g.L.Logic.reads in
    let start = reads c.args.g.now vs in
    let mid = reads c.operation.new.g vs in
    let parts = c.args.parts.now in
    let l = c.args.limits.now in
    let made = c.in_ok-made in
    let typed = some_type _ c.requires.typed in
    let held = made.ensures.made typed.0 typed.1 in
    let later = extends_trans c.any_fault.ensures.extends c.or.ensures.extends in
    let early = c.in_ok-early.ensures.value vs ∙ ap any_true (read_later (extends_keeps c.operation.ensures.extends) (faults_owned parts c.requires.parts) vs) in
    let own = c.any_fault.ensures.extends.same made.made.fault held.owned_fault vs in
    let fault = rw (early, own) at (c.in_ok-fault.ensures.value vs) in
    let same = ap spelled (value_later (extends_keeps later) made.made.value held.owned vs) in
    strict_is start parts rs line (mid made.made.fault) _ _ (operation l (head_kind c.args.head)) h
    (λ ws e. subst (λ (r : Reading). IsOutcome (mid made.made.fault) r (operation l (head_kind c.args.head) ws)) (sym same) (made.ensures.value vs ws e)) fault
