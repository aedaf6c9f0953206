use Rattle.std.proofs.Common.{◌∙◌, ◌+◌, ap, false, map, sym}
use Rattle.std.specs.Option.{option_map_or}
use Rattle.std.proofs.lemmas.Simd.{map-map}
use Rattle.input_space.specs.Inputs.{are_within, param_type}
use Rattle.input_space.specs.ValueBits.{all_bits_for}
use Rattle.input_bits.specs.Layout.{all_laid_out}
use Rattle.sym_values.specs.Forms.{form_for}
use Rattle.sym_values.specs.Reading.{map_bits, spelled}
use Rattle.query_build.specs.Inputs.{are_right}
use Rattle.query_build.proofs.AnyInputs.{laid_right, laid_sure}
use Rattle.query_build.proofs.Arguments.{arguments_from}
use Rattle.query_build.proofs.inputs.fresh_input.Goals as goal

pub ranged-requires : goal.ranged-requires
ranged-requires g c =
    let limits = c.args.bounds.now.limits in
    let types = c.items.ensures ∙ c.in_ok-signature.ensures.params in
    record {
      owned = c.in_ok-values.ensures.owned;
      forms = c.in_ok-values.ensures.forms ∙ ap (map (form_for limits)) types;
    }

pub returns-clause-adds : goal.returns-clause-adds
returns-clause-adds g c =
    let v = g.V.Logic in
    let limits = c.args.bounds.now.limits in
    let types = c.items.ensures ∙ c.in_ok-signature.ensures.params in
    let first = c.in_ok-values.ensures.adds in
    let second = c.ranged.ensures.extends in
    record {
      kept = λ b h. second.kept b (first.kept b h);
      same = λ b h vs. second.same b (first.kept b h) vs ∙ first.same b h vs;
      variables = second.variables ∙ first.variables
          ∙ ap (λ ts. v.count c.args.g.now + all_bits_for limits ts) types;
    }

pub returns-clause-args : goal.returns-clause-args
returns-clause-args g c =
    let limits = c.args.bounds.now.limits in
    let types = c.items.ensures ∙ c.in_ok-signature.ensures.params in
    let made = c.in_ok-input.ensures in
    arguments_from made.owned_args
    (made.forms ∙ c.in_ok-values.ensures.forms ∙ ap (map (form_for limits)) types)

pub returns-clause-within : goal.returns-clause-within
returns-clause-within g c vs =
    let v = g.V.Logic in
    let bounds = c.args.bounds.now in
    let limits = bounds.limits in
    let params = bounds.params in
    let types = c.items.ensures ∙ c.in_ok-signature.ensures.params in
    let values = c.in_ok-values.values in
    let laid = sym (map-map spelled (map_bits (v.reads c.fresh_values.new.g vs)) values)
    ∙ ap (map spelled) (c.in_ok-values.ensures.value vs
    ∙ ap (λ ts. all_laid_out limits ts vs (v.count c.args.g.now)) types
    ∙ ap (all_laid_out limits (map param_type params) vs) c.requires.first) in
    c.in_ok-input.ensures.within vs ∙ ap (are_right params) laid
    ∙ laid_right c.what_is_read_decodes.ensures limits vs params 0

pub returns-clause-value : goal.returns-clause-value
returns-clause-value g c vs xs e h =
    let v = g.V.Logic in
    let bounds = c.args.bounds.now in
    let limits = bounds.limits in
    let params = bounds.params in
    let types = c.items.ensures ∙ c.in_ok-signature.ensures.params in
    let law = c.what_is_read_decodes.ensures in
    let values = c.in_ok-values.values in
    let laid = sym (map-map spelled (map_bits (v.reads c.fresh_values.new.g vs)) values)
    ∙ ap (map spelled) (c.in_ok-values.ensures.value vs
    ∙ ap (λ ts. all_laid_out limits ts vs (v.count c.args.g.now)) types
    ∙ ap (all_laid_out limits (map param_type params) vs) c.requires.first) in
    let right = c.in_ok-input.ensures.within vs ∙ ap (are_right params) laid
    ∙ laid_right law limits vs params 0
    ∙ ap (λ o. option_map_or (are_within params) o false) e ∙ h in
    c.in_ok-input.ensures.same vs right ∙ laid
    ∙ laid_sure law limits vs (map param_type params) 0 xs e
