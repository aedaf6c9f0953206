use Rattle.std.proofs.Common.{◌∙◌, None, Some, ap, cond, map, sym}
use Rattle.bit_words.specs.Logic.{extends_keeps, extends_refl, extends_trans}
use Rattle.sym_values.specs.Forms.{form_for}
use Rattle.sym_values.specs.Reading.{read}
use Rattle.sym_paths.specs.Ends.{gives}
use Rattle.sym_paths.specs.Later.{all_given_later, all_handed_later}
use Rattle.sym_paths.specs.Paths.{handed}
use Rattle.sym_paths.proofs.Endings.{as_itself, finish_is, given_some, returned_held, same_type}
use Rattle.sym_paths.proofs.Endings.{value_first, value_given, value_kept, value_or}
use Rattle.sym_paths.proofs.Lists.{given_front, given_last}
use Rattle.sym_paths.proofs.finish.finish.Goals as goal

pub loop-given-init : goal.loop-given-init
loop-given-init g c =
    let no = c.constant-no.ensures in
    let made = c.in_ok-none.ensures.made in
    record {
      extends = extends_refl;
      held = λ t e.
          let same = same_type (sym c.in-Some.is ∙ e) in
          as_itself (record { bit = no.owned; value = made })
          (ap (form_for c.args.slots.now.limits) same);
      rest = c.requires.all;
      value = λ vs.
          let rd = g.L.Logic.reads c.args.g.now vs in
          ap (λ b. value_or (map (handed rd) c.args.all)
          (cond b (Some (read rd c.in_ok-none.none)) None)) (no.value vs);
    }

pub with_value-requires : goal.with_value-requires
with_value-requires g c =
    let given = given_last _ c.loop-given.invariant.rest c.in-Some-pop.ensures.some in
    given_some c.args.slots.now c.in-Some-pop.given.value c.requires.dropped given.form_is

pub join_given_known-requires : goal.join_given_known-requires
join_given_known-requires g c =
    let slots = c.args.slots.now in
    let ty = c.in-Some.ty in
    let given = given_last _ c.loop-given.invariant.rest c.in-Some-pop.ensures.some in
    let first = returned_held slots ty c.in-Some-pop.given c.with_value.result c.in-Some.is
    c.with_value.ensures.bit c.with_value.ensures.value given in
    let second = c.loop-given.invariant.held ty c.in-Some.is in
    record {
      first = as_itself first (sym first.value.form);
      second = as_itself second (sym first.value.form);
    }

pub loop-given-preserved : goal.loop-given-preserved
loop-given-preserved g c =
    let reads = g.L.Logic.reads in
    let slots = c.args.slots.now in
    let before = c.loop-given.invariant in
    let step = extends_keeps c.join_given_known.ensures.extends in
    let split = c.in-Some-pop.ensures.some in
    let given = c.in-Some-pop.given in
    let value = c.with_value in
    let left = c.pop.new.self in
    let rest = given_front given before.rest split in
    let owned = given_last _ before.rest split in
    record {
      extends = extends_trans before.extends c.join_given_known.ensures.extends;
      held = λ t e.
          let first = returned_held slots t given value.result e value.ensures.bit
          value.ensures.value owned in
          as_itself c.in_ok-joined.ensures.held first.value.form;
      rest = all_given_later step rest;
      value = λ vs. value_kept (reads c.loop-given.g vs) (reads c.join_given_known.new.g vs)
          left c.loop-given.all given value.result
          (gives (reads c.loop-given.g vs) c.loop-given.joined) (c.in_ok-joined.ensures.value vs)
          (all_handed_later step rest vs) split value.ensures.bit value.ensures.value
          (before.value vs);
    }

pub not-fault-requires : goal.not-fault-requires
not-fault-requires g c = (c.loop-given.invariant.held c.in-Some.ty c.in-Some.is).bit

pub returns-clause-made : goal.returns-clause-made
returns-clause-made g c t e =
    let held = c.loop-given.invariant.held t e in
    record {
      owned = held.value.owned;
      owned_fault = c.not-fault.ensures.owned;
      form = held.value.form;
    }

pub returns-clause-value : goal.returns-clause-value
returns-clause-value g c vs run line e =
    let start = g.L.Logic.reads c.args.g.now vs in
    let rd = g.L.Logic.reads c.loop-given.g vs in
    let joined = c.loop-given.joined in
    let none = ap (λ xs. value_or (map (handed rd) xs) (gives rd joined))
    c.in_default.ensures.none in
    let one = sym none ∙ c.loop-given.invariant.value vs
    ∙ value_first c.args.slots.now.limits (map (handed start) c.args.all)
    ∙ ap value_given e in
    rw (c.not-fault.ensures.value vs)
    (finish_is (rd joined.bit) (read rd joined.value) run line one)
