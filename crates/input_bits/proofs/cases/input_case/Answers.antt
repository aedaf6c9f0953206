use Rattle.std.proofs.Common.{◌∙◌, ◌+◌, ◌++◌, ◌∷◌, [], ◌&&◌, ◌/◌, ap, arith, drop, map, sym, take}
use Rattle.std.proofs.Math.ListN.{drop_of_length-le}
use Rattle.std.proofs.lemmas.Bool.{and_parts}
use Rattle.std.proofs.lemmas.List.{drop_more, length-map, map_push, take_all}
use Rattle.bit_words.specs.Logic.{extends_keeps, extends_trans}
use Rattle.bit_words.proofs.Kept.{owns_kept}
use Rattle.sym_values.specs.Forms.{bits_of, form_of, forms_of}
use Rattle.sym_values.specs.Later.{value_later}
use Rattle.sym_values.specs.Owned.{owns_one, owns_one_more}
use Rattle.sym_values.specs.Reading.{read, spelled}
use Rattle.input_ranges.proofs.Between.{and_same}
use Rattle.input_bits.specs.Cases.{is_in_case}
use Rattle.input_bits.proofs.CaseArgs.{as_many, case_end, case_step, read_at, readings_later}
use Rattle.input_bits.proofs.Items.{mapped_more}
use Rattle.input_bits.proofs.cases.input_case.Goals as goal

pub value_part-requires : goal.value_part-requires
value_part-requires g c =
    let some = c.index-splits-i.result.some in
    record {
      part = omega arith;
      owned = owns_kept c.loop-i.invariant.extends (owns_one bits_of c.args.values.now c.loop-i.i c.at.result.now c.requires.owned c.at.ensures);
    }

pub loop-i-preserved : goal.loop-i-preserved
loop-i-preserved g c =
    let reads = g.L.Logic.reads in
    let before = c.loop-i.invariant in
    let i = c.loop-i.i in
    let values = c.args.values.now in
    let splits = c.args.splits.now in
    let a = c.at.result.now in
    let at = c.at.ensures in
    let args = c.loop-i.args in
    let rest = c.loop-i.rest in
    let split = c.index-splits-i.result in
    let known = c.in_ok-known.known in
    let made = c.in_ok-known.ensures.made in
    let pushed = c.in_ok-push.ensures.ok in
    let first = c.value_part.ensures.extends in
    let second = c.and.ensures.extends in
    let both = extends_trans first second in
    let owned = owns_one bits_of values i a c.requires.owned at in
    record {
      extends = extends_trans before.extends both;
      owned = c.in_ok-condition.ensures.owned;
      owned_args = owns_one_more bits_of args _ known.value (owns_kept both before.owned_args) (owns_kept second made.owned) pushed;
      forms = ap forms_of pushed ∙ map_push form_of args known.value ∙ ap (λ w. w ++ form_of known.value ∷ []) before.forms
          ∙ ap (λ k. take i (forms_of values) ++ k ∷ []) made.form ∙ sym (mapped_more form_of values i a at);
      condition = λ vs xs e.
          let found = read_at (read (reads c.args.g.now vs)) values xs i a e at in
          let value = ap spelled (value_later (extends_keeps before.extends) a owned vs) ∙ found.is in
          let within = c.in_ok-known.ensures.within vs found.value value in
          let still = first.same c.loop-i.condition before.owned vs in
          let now = c.in_ok-condition.ensures.value vs ∙ and_same _ _ _ _ still within in
          let next = drop_more splits i split (omega arith) ∙ ap (λ y. y ∷ drop (i + 1) splits) (sym c.index-splits-i.is) in
          ap (λ b. b && is_in_case (drop (i + 1) splits) (rest / split.parts) (drop (i + 1) xs)) now
          ∙ sym (case_step splits i rest xs split found.value (reads c.loop-i.g vs c.loop-i.condition) next found.left)
          ∙ before.condition vs xs e;
      args = λ vs h.
          let f = reads c.args.g.now vs in
          let last = reads c.and.new.self vs in
          let parts = and_parts _ _ (sym (c.in_ok-condition.ensures.value vs) ∙ h) in
          let fine = sym (first.same c.loop-i.condition before.owned vs) ∙ parts.0 in
          ap (map (read last)) pushed ∙ map_push (read last) args known.value
          ∙ ap (λ w. w ++ read last known.value ∷ []) (readings_later (extends_keeps both) args before.owned_args vs ∙ before.args vs fine)
          ∙ ap (λ r. take i (map (read f) values) ++ r ∷ []) (ap spelled (value_later (extends_keeps second) known.value made.owned vs) ∙ c.in_ok-known.ensures.same vs parts.1
          ∙ ap spelled (value_later (extends_keeps before.extends) a owned vs))
          ∙ sym (mapped_more (read f) values i a at);
    }

pub returns-clause-forms : goal.returns-clause-forms
returns-clause-forms g c =
    let values = c.args.values.now in
    c.loop-i.invariant.forms ∙ take_all c.loop-i.i (forms_of values) (let many = length-map values form_of in omega arith)

pub returns-clause-condition : goal.returns-clause-condition
returns-clause-condition g c vs xs e =
    let i = c.loop-i.i in
    let splits = c.args.splits.now in
    let alike = c.requires.alike in
    let many = as_many _ c.args.values.now xs e in
    sym (case_end splits i c.loop-i.rest xs _ (drop_of_length-le splits {i = i} (omega arith)) (drop_of_length-le xs {i = i} (omega arith)))
    ∙ c.loop-i.invariant.condition vs xs e

pub returns-clause-args : goal.returns-clause-args
returns-clause-args g c vs h =
    let f = g.L.Logic.reads c.args.g.now vs in
    let values = c.args.values.now in
    c.loop-i.invariant.args vs h ∙ take_all c.loop-i.i (map (read f) values) (let many = length-map values (read f) in omega arith)
