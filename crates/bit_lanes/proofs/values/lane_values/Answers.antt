use Rattle.std.proofs.Common.{◌≡◌, ◌∙◌, ◌-◌, ◌≤◌, min, List, Some, length, map, ap, sym, subst, arith, slice_get}
use Rattle.std.proofs.lemmas.List.{take_all}
use Rattle.std.proofs.lemmas.Option.{slice_get-get_or}
use Rattle.mpy_tree.specs.declared.typing.Ty.{Ty}
use Rattle.mpy_tree.specs.declared.value.Value.{Value}
use Rattle.mpy_tree.specs.Options.{◌>>=◌}
use Rattle.input_space.specs.declared.case.Case.{Case}
use Rattle.sym_values.specs.Reading.{sure}
use Rattle.bit_lanes.specs.Columns.{HasFitting}
use Rattle.bit_lanes.specs.Lane.{lane_of, reads_table}
use Rattle.bit_lanes.specs.LaneCases.{FillLanes, case_in, first_types}
use Rattle.bit_lanes.proofs.FirstPlaces.{all_get, case_long, column_of, first_long, first_type, read_more, tabled_more}
use Rattle.bit_lanes.proofs.values.lane_values.Goals as goal

pub lane_value-requires : goal.lane_value-requires
lane_value-requires c =
    let l = c.args.l.now in
    let cases = c.items-cases.result.now in
    let place = c.loop-place.place in
    let first = c.index-cases-0.result in
    let v = c.index-first-place.result in
    let fill = subst (FillLanes l) (sym c.items-cases.ensures) c.requires in
    let at : slice_get cases 0 ≡ Some first = slice_get-get_or cases 0 first fill.some ∙ ap (λ (x : Case). Some x) (sym c.index-cases-0.is) in
    let there : slice_get c.items-first.result.now place ≡ Some v =
    slice_get-get_or c.items-first.result.now place v c.loop-place-test.true ∙ ap (λ (x : Value). Some x) (sym c.index-first-place.is) in
    let here = subst (λ (vs : List Value). slice_get vs place ≡ Some v) (c.items-first.ensures ∙ ap (λ (x : Case). x.values) (sym c.index-cases-0.is)) there in
    column_of l place c.ty.result cases fill (first_type cases first place v at here ∙ ap (λ (t : Ty). Some t) (sym c.ty.ensures))

pub loop-place-preserved : goal.loop-place-preserved
loop-place-preserved c =
    let l = c.args.l.now in
    let cases = c.items-cases.result.now in
    let place = c.loop-place.place in
    let first = c.index-cases-0.result in
    let v = c.index-first-place.result in
    let t = c.ty.result in
    let x = c.in_ok-value.value in
    let before = c.loop-place.invariant in
    let fill = subst (FillLanes l) (sym c.items-cases.ensures) c.requires in
    let at : slice_get cases 0 ≡ Some first = slice_get-get_or cases 0 first fill.some ∙ ap (λ (x : Case). Some x) (sym c.index-cases-0.is) in
    let there : slice_get c.items-first.result.now place ≡ Some v =
    slice_get-get_or c.items-first.result.now place v c.loop-place-test.true ∙ ap (λ (x : Value). Some x) (sym c.index-first-place.is) in
    let here = subst (λ (vs : List Value). slice_get vs place ≡ Some v) (c.items-first.ensures ∙ ap (λ (x : Case). x.values) (sym c.index-cases-0.is)) there in
    let typed : slice_get (first_types cases) place ≡ Some t = first_type cases first place v at here ∙ ap (λ (t : Ty). Some t) (sym c.ty.ensures) in
    let column = column_of l place t cases fill typed in
    record {
      made = tabled_more l c.loop-place.values.items c.push.new.self.items (first_types cases) place x t before.made c.in_ok-value.ensures.made typed c.in_ok-push.ensures.items;
      value = λ vs d e.
          let lane = lane_of 6 vs in
          let found = all_get (HasFitting l t place) cases (min lane (length cases - 1)) d column.each e in
          let inside = ap (λ (o : _). o >>= λ (y : Case). slice_get y.values place) e ∙ found.there in
          read_more (reads_table vs) c.loop-place.values.items c.push.new.self.items d.values place x found.value (before.value vs d e) found.there
          (c.in_ok-value.ensures.value vs found.value inside) c.in_ok-push.ensures.items;
    }

pub returns-clause-value : goal.returns-clause-value
returns-clause-value c vs d e =
    let l = c.args.l.now in
    let cases = c.items-cases.result.now in
    let place = c.loop-place.place in
    let first = c.index-cases-0.result in
    let fill = subst (FillLanes l) (sym c.items-cases.ensures) c.requires in
    let at : slice_get cases 0 ≡ Some first = slice_get-get_or cases 0 first fill.some ∙ ap (λ (x : Case). Some x) (sym c.index-cases-0.is) in
    let lane = lane_of 6 vs in
    let here = subst (λ (xs : List Case). case_in xs lane ≡ Some d) (sym c.items-cases.ensures) e in
    let long = case_long l cases (min lane (length cases - 1)) d fill here in
    let types = first_long cases first at in
    let values = ap (λ (ws : List Value). length ws) (c.items-first.ensures ∙ ap (λ (x : Case). x.values) (sym c.index-cases-0.is)) in
    let past : length d.values ≤ place = omega (arith, long, types, values) in
    c.loop-place.invariant.value vs d here ∙ ap (map sure) (take_all place d.values past)
