use Rattle.std.proofs.Common.{◌≡◌, ◌∙◌, Some, ap, arith, get_or, length, map, refl}
use Rattle.std.specs.Prelude.{slice_get}
use Rattle.std.proofs.lemmas.List.{length-map}
use Rattle.std.proofs.lemmas.Option.{slice_get_read}
use Rattle.bounds_reader.specs.Forms.{form_of as range_of}
use Rattle.bounds_reader.specs.Ranges.{is_in_range}
use Rattle.bit_words.specs.Logic.{extends_trans}
use Rattle.bit_words.proofs.Kept.{owns_kept}
use Rattle.sym_values.specs.Forms.{bits_of, form_for, form_of}
use Rattle.sym_values.specs.Owned.{owns_one}
use Rattle.input_space.specs.Inputs.{param_type}
use Rattle.variable_tests.proofs.OneOfSeveral.{form_at, tested_at}
use Rattle.variable_tests.proofs.inputs.ranged_values.Goals as goal

pub ranged_value-requires : goal.ranged_value-requires
ranged_value-requires g c =
    let bounds = c.args.bounds.now in
    let limits = bounds.limits in
    let params = bounds.params in
    let values = c.args.values.now in
    let i = c.loop-i.i in
    let items = c.items-params.ensures in
    let p = c.index-params-i.result in
    let is : p ≡ get_or params i p = c.index-params-i.is ∙ ap (λ ps. get_or ps i p) items in
    let many = ap length items in
    let there : slice_get params i ≡ Some p = slice_get_read params _ i p refl (omega arith) is in
    record {
      form = form_at limits values params i _ p c.requires.forms c.at.ensures there;
      range = tested_at (λ q. is_in_range limits.width limits.cap (range_of q)) params i p
          bounds.ranges there;
      owned = owns_kept c.loop-i.invariant
          (owns_one bits_of values i c.at.result.now c.requires.owned c.at.ensures);
    }

pub at-requires : goal.at-requires
at-requires g c =
    let bounds = c.args.bounds.now in
    let items = ap length c.items-params.ensures in
    let forms = ap length c.requires.forms in
    let one = length-map c.args.values.now form_of in
    let two = length-map (map param_type bounds.params) (form_for bounds.limits) in
    let three = length-map bounds.params param_type in
    omega arith

pub loop-i-preserved : goal.loop-i-preserved
loop-i-preserved g c = extends_trans c.loop-i.invariant c.ranged_value.ensures.extends
