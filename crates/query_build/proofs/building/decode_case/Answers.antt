use Rattle.std.proofs.Common.{◌≤◌, ◌∙◌, List, Option, ap, arith, length, map, sym}
use Rattle.std.specs.Prelude.{is_some, option_map}
use Rattle.std.proofs.lemmas.Bool.{true≢false}
use Rattle.mpy_tree.specs.declared.value.Value.{Value}
use Rattle.bounds_reader.specs.declared.bounds.Bounds.{Bounds}
use Rattle.input_space.specs.Inputs.{param_type}
use Rattle.input_space.specs.TaskSpace.{case_of}
use Rattle.input_space.specs.ValueBits.{values_at}
use Rattle.query_build.proofs.Shifted.{values_behind}
use Rattle.query_build.proofs.building.decode_case.Goals as goal

pub unreachable-requires : goal.unreachable-requires
unreachable-requires c =
    let b = c.args.t.now.bounds in
    let v = c.args.v.now in
    let own = c.requires.own in
    let some : 1 ≤ length v = omega arith in
    let types = c.items.ensures ∙ c.in_ok-signature.ensures.params in
    let e = c.in_ok-values.ensures ∙ ap (λ ts. values_at c.bounds-bounds.result.now.limits ts v 1) types
    ∙ ap (λ (d : Bounds). values_at d.limits (map param_type d.params) v 1) c.bounds-bounds.ensures
    ∙ values_behind b.limits (map param_type b.params) v some in
    let none = sym c.in-None.is ∙ e in
    true≢false (sym c.requires.spelled ∙ sym (ap (λ (o : Option (List Value)). is_some (option_map case_of o)) none))

pub returns : goal.returns
returns c =
    let b = c.args.t.now.bounds in
    let v = c.args.v.now in
    let own = c.requires.own in
    let some : 1 ≤ length v = omega arith in
    let types = c.items.ensures ∙ c.in_ok-signature.ensures.params in
    let e = c.in_ok-values.ensures ∙ ap (λ ts. values_at c.bounds-bounds.result.now.limits ts v 1) types
    ∙ ap (λ (d : Bounds). values_at d.limits (map param_type d.params) v 1) c.bounds-bounds.ensures
    ∙ values_behind b.limits (map param_type b.params) v some in
    ap (option_map case_of) (sym (sym c.in-Some.is ∙ e))
