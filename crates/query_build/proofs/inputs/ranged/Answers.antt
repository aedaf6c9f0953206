use Rattle.std.proofs.Common.{◌≡◌, ◌∙◌, ◌+◌, ◌++◌, ◌∷◌, [], ◌&&◌, Some, ap, arith, drop, get_or}
use Rattle.std.proofs.Common.{length, map, refl, rules, sym, take}
use Rattle.std.specs.Prelude.{slice_get}
use Rattle.std.proofs.lemmas.Bool.{and_parts}
use Rattle.std.proofs.lemmas.List.{drop_all, drop_more, length-map, map_push, take_all}
use Rattle.std.proofs.lemmas.Option.{slice_get_read}
use Rattle.bounds_reader.specs.Forms.{form_of as range_of}
use Rattle.bounds_reader.specs.Ranges.{is_in_range}
use Rattle.bit_words.specs.Logic.{extends_keeps, extends_trans}
use Rattle.bit_words.proofs.Kept.{owns_kept}
use Rattle.sym_values.specs.Forms.{bits_of, form_for, form_of, forms_of}
use Rattle.sym_values.specs.Later.{value_later}
use Rattle.sym_values.specs.Owned.{owns_one, owns_one_more}
use Rattle.sym_values.specs.Reading.{read, spelled}
use Rattle.input_ranges.proofs.Between.{and_same}
use Rattle.input_bits.specs.Known.{is_right}
use Rattle.input_bits.proofs.CaseArgs.{readings_later}
use Rattle.input_bits.proofs.Items.{mapped_more}
use Rattle.input_space.specs.Inputs.{param_type}
use Rattle.query_build.specs.Inputs.{are_right}
use Rattle.query_build.proofs.AnyInputs.{form_at, mapped_left, right_all, right_more, tested_at}
use Rattle.query_build.proofs.inputs.ranged.Goals as goal

pub loop-i-init : goal.loop-i-init
loop-i-init g c =
    let made = c.new-args.ensures in
    record {
      extends = search rules;
      owned = c.constant-within.ensures.owned;
      owned_args = search rules;
      forms = ap forms_of made;
      within = λ vs. and_same _ _ _ _ (c.constant-within.ensures.value vs) refl;
      same = λ vs h. ap (map (read (g.L.Logic.reads c.args.g.now vs))) made;
    }

pub ranged_value-requires : goal.ranged_value-requires
ranged_value-requires g c =
    let bounds = c.args.bounds.now in
    let limits = bounds.limits in
    let params = bounds.params in
    let values = c.args.values.now in
    let i = c.loop-i.i in
    let items = c.items-params.ensures in
    let p = c.index-params-i.result in
    let is : p ≡ get_or params i p = c.index-params-i.is ∙ ap (λ ps. get_or ps i p) items in
    let many = ap length items in
    let there : slice_get params i ≡ Some p = slice_get_read params _ i p refl (omega arith) is in
    record {
      form = form_at limits values params i _ p c.requires.forms c.at.ensures there;
      range = tested_at (λ q. is_in_range limits.width limits.cap (range_of q)) params i p
          bounds.ranges there;
      owned = owns_kept c.loop-i.invariant.extends
          (owns_one bits_of values i c.at.result.now c.requires.owned c.at.ensures);
    }

pub at-requires : goal.at-requires
at-requires g c =
    let bounds = c.args.bounds.now in
    let items = ap length c.items-params.ensures in
    let forms = ap length c.requires.forms in
    let one = length-map c.args.values.now form_of in
    let two = length-map (map param_type bounds.params) (form_for bounds.limits) in
    let three = length-map bounds.params param_type in
    omega arith

pub loop-i-preserved : goal.loop-i-preserved
loop-i-preserved g c =
    let logic = g.L.Logic in
    let reads = logic.reads in
    let before = c.loop-i.invariant in
    let i = c.loop-i.i in
    let values = c.args.values.now in
    let params = c.args.bounds.now.params in
    let a = c.at.result.now in
    let at = c.at.ensures in
    let args = c.loop-i.args in
    let items = c.items-params.ensures in
    let many = ap length items in
    let p = c.index-params-i.result in
    let is : p ≡ get_or params i p = c.index-params-i.is ∙ ap (λ ps. get_or ps i p) items in
    let known = c.in_ok-known.known in
    let made = c.in_ok-known.ensures.made in
    let pushed = c.in_ok-push.ensures.ok in
    let first = c.ranged_value.ensures.extends in
    let second = c.and.ensures.extends in
    let both = extends_trans first second in
    let owned = owns_one bits_of values i a c.requires.owned at in
    record {
      extends = extends_trans before.extends both;
      owned = c.in_ok-within.ensures.owned;
      owned_args = owns_one_more bits_of args _ known.value (owns_kept both before.owned_args)
          (owns_kept second made.owned) pushed;
      forms = ap forms_of pushed ∙ map_push form_of args known.value
          ∙ ap (λ w. w ++ form_of known.value ∷ []) before.forms
          ∙ ap (λ k. take i (forms_of values) ++ k ∷ []) made.form
          ∙ sym (mapped_more form_of values i a at);
      within = λ vs.
          let f = read (reads c.args.g.now vs) in
          let rs = map f values in
          let still = first.same c.loop-i.within before.owned vs in
          let value = ap spelled (value_later (extends_keeps before.extends) a owned vs) in
          let right = c.in_ok-known.ensures.within vs ∙ ap (is_right p) value in
          let now = c.in_ok-within.ensures.value vs ∙ and_same _ _ _ _ still right in
          let left = drop_more params i p (omega arith)
          ∙ ap (λ q. q ∷ drop (i + 1) params) (sym is) in
          ap (λ b. b && are_right (drop (i + 1) params) (drop (i + 1) rs)) now
          ∙ sym (right_more params rs i p (f a) (reads c.loop-i.g vs c.loop-i.within) left
          (mapped_left f values i a at))
          ∙ before.within vs;
      same = λ vs h.
          let f = reads c.args.g.now vs in
          let last = reads c.and.new.self vs in
          let parts = and_parts _ _ (sym (c.in_ok-within.ensures.value vs) ∙ h) in
          let fine = sym (first.same c.loop-i.within before.owned vs) ∙ parts.0 in
          ap (map (read last)) pushed ∙ map_push (read last) args known.value
          ∙ ap (λ w. w ++ read last known.value ∷ [])
          (readings_later (extends_keeps both) args before.owned_args vs ∙ before.same vs fine)
          ∙ ap (λ r. take i (map (read f) values) ++ r ∷ [])
          (ap spelled (value_later (extends_keeps second) known.value made.owned vs)
          ∙ c.in_ok-known.ensures.same vs parts.1
          ∙ ap spelled (value_later (extends_keeps before.extends) a owned vs))
          ∙ sym (mapped_more (read f) values i a at);
    }

pub returns-clause-forms : goal.returns-clause-forms
returns-clause-forms g c =
    let bounds = c.args.bounds.now in
    let values = c.args.values.now in
    let items = ap length c.items-params.ensures in
    let forms = ap length c.requires.forms in
    let two = length-map (map param_type bounds.params) (form_for bounds.limits) in
    let three = length-map bounds.params param_type in
    c.loop-i.invariant.forms ∙ take_all c.loop-i.i (forms_of values) (omega arith)

pub returns-clause-within : goal.returns-clause-within
returns-clause-within g c vs =
    let bounds = c.args.bounds.now in
    let params = bounds.params in
    let values = c.args.values.now in
    let f = read (g.L.Logic.reads c.args.g.now vs) in
    let items = ap length c.items-params.ensures in
    let forms = ap length c.requires.forms in
    let one = length-map values form_of in
    let two = length-map (map param_type params) (form_for bounds.limits) in
    let three = length-map params param_type in
    let four = length-map values f in
    let i = c.loop-i.i in
    sym (right_all params (map f values) i _ (drop_all i params (omega arith))
    (drop_all i (map f values) (omega arith)))
    ∙ c.loop-i.invariant.within vs

pub returns-clause-same : goal.returns-clause-same
returns-clause-same g c vs h =
    let bounds = c.args.bounds.now in
    let params = bounds.params in
    let values = c.args.values.now in
    let f = read (g.L.Logic.reads c.args.g.now vs) in
    let items = ap length c.items-params.ensures in
    let forms = ap length c.requires.forms in
    let one = length-map values form_of in
    let two = length-map (map param_type params) (form_for bounds.limits) in
    let three = length-map params param_type in
    let four = length-map values f in
    c.loop-i.invariant.same vs h ∙ take_all c.loop-i.i (map f values) (omega arith)
