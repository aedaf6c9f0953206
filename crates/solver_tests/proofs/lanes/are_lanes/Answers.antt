use Rattle.std.proofs.Common.{◌≡◌, ◌∙◌, true, All, List, Some, map, take, ap, sym, subst, arith, slice_get}
use Rattle.std.proofs.lemmas.List.Elements.{All-push}
use Rattle.std.proofs.lemmas.Option.{slice_get-get_or}
use Rattle.mpy_tree.specs.declared.value.Value.{Value}
use Rattle.mpy_tree.specs.Fitting.{all_fit_as, type_of}
use Rattle.input_space.specs.declared.case.Case.{Case}
use Rattle.sym_values.proofs.Held.{take_read}
use Rattle.bit_lanes.specs.LaneCases.{first_types}
use Rattle.solver_tests.proofs.LaneTypes.{first_types_at}
use Rattle.solver_tests.proofs.lanes.are_lanes.Goals as goal

pub loop-case-preserved : goal.loop-case-preserved
loop-case-preserved c =
    let l = c.args.l.now in
    let cases = c.items-cases.result.now in
    let i = c.loop-case.case-index in
    let first = c.index-cases-0.result in
    let item = c.case-item.result in
    let P = λ (d : Case). all_fit_as l (first_types cases) d.values ≡ true in
    let at : slice_get cases 0 ≡ Some first = slice_get-get_or cases 0 first (omega arith) ∙ ap (λ (x : Case). Some x) (sym c.index-cases-0.is) in
    let here : slice_get cases i ≡ Some item = slice_get-get_or cases i item c.loop-case-test.true ∙ ap (λ (x : Case). Some x) (sym c.case-item.is) in
    let types : map type_of c.items.result.now ≡ first_types cases =
    ap (map type_of) (c.items.ensures ∙ ap (λ (x : Case). x.values) (sym c.index-cases-0.is)) ∙ first_types_at cases first at in
    let fit : all_fit_as l (map type_of c.items.result.now) c.items-in-loop-case.result.now ≡ true = c.fit_like.ensures c.if-not-fit_like.false in
    let whole = subst (λ (vs : List Value). all_fit_as l (first_types cases) vs ≡ true) c.items-in-loop-case.ensures (subst (λ ts. all_fit_as l ts c.items-in-loop-case.result.now ≡ true) types fit) in
    rw (take_read cases i item here) (All-push P (take i cases) item c.loop-case.invariant whole)
