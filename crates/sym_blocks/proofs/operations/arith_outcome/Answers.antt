use Rattle.std.proofs.Common.{ap, subst, sym}
use Rattle.bit_words.specs.Logic.{extends_keeps, extends_trans}
use Rattle.sym_values.specs.Later.{value_later}
use Rattle.sym_values.specs.Reading.{IsOutcome, Reading, read, spelled}
use Rattle.mpy_tree.specs.Operations.{arith}
use Rattle.sym_blocks.proofs.Outcomes.{two_is}
use Rattle.sym_blocks.proofs.TypedParts.{some_of}
use Rattle.sym_blocks.proofs.operations.arith_outcome.Goals as goal

pub or-requires-clause-left : goal.or-requires-clause-left
or-requires-clause-left g c = c.arith_value.ensures.extends.kept _ c.requires.left.owned_fault

pub or-requires-clause-right : goal.or-requires-clause-right
or-requires-clause-right g c = c.arith_value.ensures.extends.kept _ c.requires.right.owned_fault

pub or-requires-2-clause-right : goal.or-requires-2-clause-right
or-requires-2-clause-right g c =
    let made = c.in_ok-made in
    let typed = some_of _ c.requires.typed in
    c.or.ensures.extends.kept _ (made.ensures.made typed.0 typed.1).owned_fault

pub returns-clause-extends : goal.returns-clause-extends
returns-clause-extends g c = extends_trans c.arith_value.ensures.extends (extends_trans c.or.ensures.extends c.or-2.ensures.extends)

pub returns-clause-value : goal.returns-clause-value
returns-clause-value g c vs line x y h k =
    let reads = g.L.Logic.reads in
    let start = reads c.args.g.now vs in
    let mid = reads c.arith_value.new.g vs in
    let l = c.args.limits.now in
    let a = c.args.a.now in
    let b = c.args.b.now in
    let made = c.in_ok-made in
    let typed = some_of _ c.requires.typed in
    let held = made.ensures.made typed.0 typed.1 in
    let later = extends_trans c.or.ensures.extends c.or-2.ensures.extends in
    let left = c.arith_value.ensures.extends.same _ c.requires.left.owned_fault vs in
    let right = c.arith_value.ensures.extends.same _ c.requires.right.owned_fault vs in
    let early = rw (left, right) at (c.in_ok-early.ensures.value vs) in
    let own = c.or.ensures.extends.same made.made.fault held.owned_fault vs in
    let fault = rw (early, own) at (c.in_ok-fault.ensures.value vs) in
    let same = ap spelled (value_later (extends_keeps later) made.made.value held.owned vs) in
    two_is (start a.fault) (start b.fault) (mid made.made.fault) _ (read start a.value) (read start b.value) _ x y line (arith l c.args.op) h k
    (λ v w p q. subst (λ (r : Reading). IsOutcome (mid made.made.fault) r (arith l c.args.op v w)) (sym same) (made.ensures.value vs v w p q)) fault
