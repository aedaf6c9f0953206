use Rattle.std.proofs.Common.{◌≡◌, ◌∙◌, ap, arith, length, map, rules, subst, sym, w32}
use Rattle.std.specs.Prelude.{FitsSigned}
use Rattle.std.proofs.lemmas.Int.{to_z-of_z}
use Rattle.std.proofs.lemmas.List.{length-map}
use Rattle.mpy_tree.specs.declared.value.Value.TheVariants as val
use Rattle.bit_words.specs.Later.{owns_both}
use Rattle.bit_words.specs.Words.{int_of}
use Rattle.sym_values.specs.Forms.{IntForm, form_for, form_of}
use Rattle.sym_values.specs.Owned.{list_items_owned, list_len_owned, text_items_owned, text_len_owned, word_owned}
use Rattle.sym_values.specs.Reading.{read, sure}
use Rattle.sym_values.proofs.Held.{list_form, text_form}
use Rattle.input_bits.specs.Known.{is_right}
use Rattle.input_space.specs.Inputs.{param_type}
use Rattle.input_bits.proofs.RangedValues.{list_fitting, list_right, list_same, number_fitting, number_right, text_fitting, text_right, text_same, truth_right}
use Rattle.input_bits.proofs.ranges.ranged_value.Goals as goal

-- NUMBERS

pub ranged_number-requires : goal.ranged_number-requires
ranged_number-requires g c =
    let l = c.args.limits.now in
    let p = c.args.param.now in
    let form = subst (λ v. form_of v ≡ form_for l (param_type p)) c.in-Int.is c.requires.form in
    let fit = number_fitting l p _ form c.requires.range in
    let low : FitsSigned w32 c.number_range-ends.result.low = search rules in
    let high : FitsSigned w32 c.number_range-ends.result.high = search rules in
    record {
      some = fit.some;
      low = rw (to_z-of_z w32 c.number_range-ends.result.low low, c.number_range-ends.ensures.low) fit.low;
      high = rw (to_z-of_z w32 c.number_range-ends.result.high high, c.number_range-ends.ensures.high) fit.high;
      owned = word_owned c.requires.owned c.in-Int.is;
    }

pub returns-in_ok-known-in-Int-clause-made : goal.returns-in_ok-known-in-Int-clause-made
returns-in_ok-known-in-Int-clause-made g c =
    let made = c.in_ok-known-in-Int.ensures.made in
    let is = c.from_vec-number.ensures ∙ c.into_vec.ensures in
    record {
      owned = rw is made.owned;
      form = ap IntForm (ap length is ∙ made.width) ∙ ap form_of (sym c.in-Int.is);
    }

pub returns-in_ok-known-in-Int-clause-within : goal.returns-in_ok-known-in-Int-clause-within
returns-in_ok-known-in-Int-clause-within g c vs =
    let l = c.args.limits.now in
    let p = c.args.param.now in
    let f = g.L.Logic.reads c.args.g.now vs in
    let form = subst (λ v. form_of v ≡ form_for l (param_type p)) c.in-Int.is c.requires.form in
    let low : FitsSigned w32 c.number_range-ends.result.low = search rules in
    let high : FitsSigned w32 c.number_range-ends.result.high = search rules in
    (rw (to_z-of_z w32 c.number_range-ends.result.low low, c.number_range-ends.ensures.low, to_z-of_z w32 c.number_range-ends.result.high high, c.number_range-ends.ensures.high) at (c.in_ok-known-in-Int.ensures.within vs))
    ∙ number_right l p _ _ form ∙ sym (ap (λ v. is_right p (read f v)) c.in-Int.is)

pub returns-in_ok-known-in-Int-clause-same : goal.returns-in_ok-known-in-Int-clause-same
returns-in_ok-known-in-Int-clause-same g c vs h =
    let f = g.L.Logic.reads c.args.g.now vs in
    let is = c.from_vec-number.ensures ∙ c.into_vec.ensures in
    ap (λ w. sure (val.Int (int_of (map (g.L.Logic.reads c.ranged_number.new.g vs) w)))) is
    ∙ ap (λ w. sure (val.Int (int_of w))) (c.in_ok-known-in-Int.ensures.same vs h)
    ∙ sym (ap (read f) c.in-Int.is)

-- TRUTH VALUES

pub returns-in-Bool-clause-within : goal.returns-in-Bool-clause-within
returns-in-Bool-clause-within g c vs =
    let l = c.args.limits.now in
    let p = c.args.param.now in
    let f = g.L.Logic.reads c.args.g.now vs in
    let form = subst (λ v. form_of v ≡ form_for l (param_type p)) c.in-Bool.is c.requires.form in
    c.constant-within.ensures.value vs ∙ truth_right l p _ form ∙ sym (ap (λ v. is_right p (read f v)) c.in-Bool.is)

-- LISTS

pub ranged_sequence-requires : goal.ranged_sequence-requires
ranged_sequence-requires g c =
    let l = c.args.limits.now in
    let p = c.args.param.now in
    let form = subst (λ v. form_of v ≡ form_for l (param_type p)) c.in-List.is c.requires.form in
    let fit = list_fitting l p _ _ form c.requires.range in
    let many = length-map c.in-List.items length in
    let most = fit.most in
    let short = fit.short in
    let is = c.length_range-ends.ensures.most in
    record {
      most = omega arith;
      short = omega arith;
      range = fit.range;
      owned_len = list_len_owned c.requires.owned c.in-List.is;
      owned = list_items_owned c.requires.owned c.in-List.is;
    }

pub returns-in_ok-known-in-List-clause-made : goal.returns-in_ok-known-in-List-clause-made
returns-in_ok-known-in-List-clause-made g c =
    let len = c.in_ok-known-in-List.ensures.made_len in
    let made = c.in_ok-known-in-List.ensures.made in
    record {
      owned = owns_both len.owned made.owned;
      form = list_form _ _ _ _ _ c.in-List.is len.width made.widths;
    }

pub returns-in_ok-known-in-List-clause-within : goal.returns-in_ok-known-in-List-clause-within
returns-in_ok-known-in-List-clause-within g c vs =
    let l = c.args.limits.now in
    let p = c.args.param.now in
    let f = g.L.Logic.reads c.args.g.now vs in
    let form = subst (λ v. form_of v ≡ form_for l (param_type p)) c.in-List.is c.requires.form in
    let fit = list_fitting l p _ _ form c.requires.range in
    let items = c.in-List.items in
    let many = length-map items length in
    let read_many = length-map items (map f) in
    let most = fit.most in
    (rw (c.length_range-ends.ensures.least, c.length_range-ends.ensures.most) at (c.in_ok-known-in-List.ensures.within vs))
    ∙ list_right l p _ (map f c.in-List.len) (map (map f) items) _ form (omega arith) ∙ sym (ap (λ v. is_right p (read f v)) c.in-List.is)

pub returns-in_ok-known-in-List-clause-same : goal.returns-in_ok-known-in-List-clause-same
returns-in_ok-known-in-List-clause-same g c vs h =
    let f = g.L.Logic.reads c.args.g.now vs in
    let last = g.L.Logic.reads c.ranged_sequence.new.g vs in
    let known = c.in_ok-known-in-List.known in
    let same = c.in_ok-known-in-List.ensures.same vs h in
    let items = c.in-List.items in
    let many = sym (length-map known.items length) ∙ ap length c.in_ok-known-in-List.ensures.made.widths ∙ length-map items length in
    list_same (map f c.in-List.len) (map last known.len) (map (map f) items) (map (map last) known.items) same.0
    (length-map known.items (map last) ∙ many ∙ sym (length-map items (map f))) same.1
    ∙ sym (ap (read f) c.in-List.is)

-- TEXTS

pub ranged_sequence-requires-in-Text : goal.ranged_sequence-requires-in-Text
ranged_sequence-requires-in-Text g c =
    let l = c.args.limits.now in
    let p = c.args.param.now in
    let form = subst (λ v. form_of v ≡ form_for l (param_type p)) c.in-Text.is c.requires.form in
    let fit = text_fitting l p _ _ form c.requires.range in
    let many = length-map c.in-Text.items length in
    let most = fit.most in
    let short = fit.short in
    let is = c.length_range-ends-in-Text.ensures.most in
    record {
      most = omega arith;
      short = omega arith;
      range = fit.range;
      owned_len = text_len_owned c.requires.owned c.in-Text.is;
      owned = text_items_owned c.requires.owned c.in-Text.is;
    }

pub returns-in_ok-known-in-Text-clause-made : goal.returns-in_ok-known-in-Text-clause-made
returns-in_ok-known-in-Text-clause-made g c =
    let len = c.in_ok-known-in-Text.ensures.made_len in
    let made = c.in_ok-known-in-Text.ensures.made in
    record {
      owned = owns_both len.owned made.owned;
      form = text_form _ _ _ _ _ c.in-Text.is len.width made.widths;
    }

pub returns-in_ok-known-in-Text-clause-within : goal.returns-in_ok-known-in-Text-clause-within
returns-in_ok-known-in-Text-clause-within g c vs =
    let l = c.args.limits.now in
    let p = c.args.param.now in
    let f = g.L.Logic.reads c.args.g.now vs in
    let form = subst (λ v. form_of v ≡ form_for l (param_type p)) c.in-Text.is c.requires.form in
    let fit = text_fitting l p _ _ form c.requires.range in
    let items = c.in-Text.items in
    let many = length-map items length in
    let read_many = length-map items (map f) in
    let most = fit.most in
    (rw (c.length_range-ends-in-Text.ensures.least, c.length_range-ends-in-Text.ensures.most) at (c.in_ok-known-in-Text.ensures.within vs))
    ∙ text_right l p _ (map f c.in-Text.len) (map (map f) items) _ c.length_range-ends-in-Text.ensures.characters form (omega arith) ∙ sym (ap (λ v. is_right p (read f v)) c.in-Text.is)

pub returns-in_ok-known-in-Text-clause-same : goal.returns-in_ok-known-in-Text-clause-same
returns-in_ok-known-in-Text-clause-same g c vs h =
    let f = g.L.Logic.reads c.args.g.now vs in
    let last = g.L.Logic.reads c.ranged_sequence-in-Text.new.g vs in
    let known = c.in_ok-known-in-Text.known in
    let same = c.in_ok-known-in-Text.ensures.same vs h in
    let items = c.in-Text.items in
    let many = sym (length-map known.items length) ∙ ap length c.in_ok-known-in-Text.ensures.made.widths ∙ length-map items length in
    text_same (map f c.in-Text.len) (map last known.len) (map (map f) items) (map (map last) known.items) same.0
    (length-map known.items (map last) ∙ many ∙ sym (length-map items (map f))) same.1
    ∙ sym (ap (read f) c.in-Text.is)
