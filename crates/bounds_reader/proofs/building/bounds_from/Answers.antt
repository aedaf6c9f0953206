use Rattle.std.proofs.Common.{◌≡◌, map, ap, ◌∙◌}
use Rattle.bounds_reader.specs.Forms.{form_of}
use Rattle.bounds_reader.specs.Views.{file_view}
use Rattle.bounds_reader.proofs.RangeLaws.{are_within, file_lengths, within_limits, few_params, params_in_range}
use Rattle.bounds_reader.proofs.building.bounds_from.Goals as goal

pub limits_from-limits-requires : goal.limits_from-limits-requires
limits_from-limits-requires c = are_within (file_view c.args.file) c.requires.ranges

pub params_from-requires : goal.params_from-requires
params_from-requires c = file_lengths (file_view c.args.file) c.requires.ranges

pub invariant_of-result : goal.invariant_of-result
invariant_of-result c =
    let f = file_view c.args.file in
    let same : map form_of c.from_vec-params.result ≡ map (λ p. p.value.form) f.params =
    ap (map form_of) c.from_vec-params.ensures ∙ c.in_ok-params_from.ensures in
    record {
      short_entry = (within_limits f c.requires.limits).0;
      few_params = few_params f c.from_vec-params.result c.requires.limits same;
      ranges = params_in_range f c.limits_from-limits.result c.from_vec-params.result c.requires.ranges c.limits_from-limits.ensures same;
    }
