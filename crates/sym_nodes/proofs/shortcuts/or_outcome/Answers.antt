use Rattle.std.proofs.Common.{Bool, ap, ◌∙◌, subst}
use Rattle.std.specs.Prelude.{◌&&◌}
use Rattle.bit_words.specs.Logic.{extends_trans}
use Rattle.sym_values.specs.declared.value.SymValue.{SymValue}
use Rattle.sym_values.specs.Owned.{truth_owned}
use Rattle.sym_values.specs.Reading.{IsOutcome, read}
use Rattle.sym_nodes.proofs.Outcomes.{or_is}
use Rattle.sym_nodes.proofs.shortcuts.or_outcome.Goals as goal

pub or-requires-2-clause-left : goal.or-requires-2-clause-left
or-requires-2-clause-left g c = (extends_trans c.and.ensures.extends c.or.ensures.extends).kept _ (truth_owned c.requires.left.owned c.truth_of-v.ensures)

pub returns-clause-value : goal.returns-clause-value
returns-clause-value g c vs line x y h k =
    let reads = g.L.Logic.reads in
    let start = reads c.args.g.now vs in
    let left = c.args.a.now in
    let right = c.args.b.now in
    let one = c.and.ensures.extends in
    let both = extends_trans one c.or.ensures.extends in
    let v = c.truth_of-v.result in
    let w = c.truth_of-w.result in
    let left_fault = one.same left.fault c.requires.left.owned_fault vs in
    let late = c.in_ok-late.ensures.value vs ∙ ap (λ (i : Bool). i && start right.fault) (c.not-otherwise.ensures.value vs) in
    let fault = c.or-2.ensures.extends.same c.in_ok-fault.fault c.in_ok-fault.ensures.owned vs ∙ rw (left_fault, late) at (c.in_ok-fault.ensures.value vs) in
    let first = both.same v (truth_owned c.requires.left.owned c.truth_of-v.ensures) vs in
    let second = both.same w (truth_owned c.requires.right.owned c.truth_of-w.ensures) vs in
    let value = rw (first, second) at (c.in_ok-either.ensures.value vs) in
    or_is line (start left.fault) (start right.fault) _ (start v) (start w) _ x y
    (subst (λ (z : SymValue _). IsOutcome (start left.fault) (read start z) x) c.truth_of-v.ensures h)
    (subst (λ (z : SymValue _). IsOutcome (start right.fault) (read start z) y) c.truth_of-w.ensures k)
    fault value
