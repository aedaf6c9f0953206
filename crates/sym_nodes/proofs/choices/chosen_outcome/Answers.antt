use Rattle.std.proofs.Common.{◌≡◌, ◌∙◌, ℕ, List, Some, slice_get, ap, sym, subst, refl, arith, length}
use Rattle.std.specs.Prelude.{nat_eq}
use Rattle.std.proofs.lemmas.Option.{slice_get_read}
use Rattle.bit_words.specs.Logic.{OwnsAll, extends_keeps, extends_refl, extends_trans}
use Rattle.bit_words.specs.Later.{nat_later, owned_later}
use Rattle.bit_words.specs.Words.{nat_read}
use Rattle.sym_values.specs.declared.value.SymValue.{SymValue}
use Rattle.sym_values.specs.declared.value.SymOutcome.{SymOutcome}
use Rattle.sym_values.specs.Forms.{bits_of, form_of}
use Rattle.sym_values.specs.Later.{outcome_in_later, outcome_later}
use Rattle.sym_values.specs.Reading.{IsOutcome, OutcomeReads, read}
use Rattle.sym_nodes.specs.Members.{place_chosen}
use Rattle.sym_nodes.proofs.Choosing.{first_place, member_in, member_type_is, part_at, place_here, place_other, some_members}
use Rattle.sym_nodes.proofs.TypeRules.{some_type}
use Rattle.sym_nodes.proofs.choices.chosen_outcome.Goals as goal

pub loop-i-init : goal.loop-i-init
loop-i-init g c =
    let parts = c.args.parts.now in
    let base = c.index-parts-0.result in
    let some = some_members parts c.requires.typed in
    let at = slice_get_read parts (length parts) 0 base refl some c.index-parts-0.is in
    let same = c.in_ok-copy.ensures in
    record {
      extends = extends_refl;
      made = λ t e.
          let part = member_in c.args.limits.now t parts 0 base c.requires.parts some c.index-parts-0.is (member_type_is t parts 0 base e at) in
          record {
            owned = subst (λ (x : SymValue _). OwnsAll g.L.Logic.owns c.args.g.now (bits_of x)) (sym same) part.owned;
            owned_fault = part.owned_fault;
            form = ap form_of same ∙ part.form;
          };
      value = λ vs p x e h.
          let rd = g.L.Logic.reads c.args.g.now vs in
          let there : slice_get parts 0 ≡ Some p = sym (ap (slice_get parts) (first_place (nat_read g.L.Logic.reads c.args.g.now vs c.args.member.now))) ∙ e in
          let is : p ≡ base = cc in
          subst (λ (y : SymValue _). IsOutcome (rd base.fault) (read rd y) x) (sym same) (subst (λ (o : SymOutcome _). OutcomeReads rd o x) is h);
    }

pub is_place-requires : goal.is_place-requires
is_place-requires g c = subst (OwnsAll g.L.Logic.owns c.loop-i.g) (sym c.as_slice.ensures) (owned_later (extends_keeps c.loop-i.invariant.extends) c.requires.member)

pub choose_outcome-requires-clause-yes : goal.choose_outcome-requires-clause-yes
choose_outcome-requires-clause-yes g c =
    let until = extends_keeps (extends_trans c.loop-i.invariant.extends c.is_place.ensures.extends) in
    let part = outcome_in_later until (part_at c.args.limits.now c.args.parts.now c.loop-i.i c.index-parts-i.result c.requires.parts c.loop-i-test.true c.index-parts-i.is) in
    record { owned = part.owned; owned_fault = part.owned_fault; form = refl }

pub choose_outcome-requires-clause-no : goal.choose_outcome-requires-clause-no
choose_outcome-requires-clause-no g c =
    let parts = c.args.parts.now in
    let i = c.loop-i.i in
    let o = c.index-parts-i.result in
    let typed = some_type _ c.requires.typed in
    let at = slice_get_read parts (length parts) i o refl c.loop-i-test.true c.index-parts-i.is in
    let part = member_in c.args.limits.now typed.0 parts i o c.requires.parts c.loop-i-test.true c.index-parts-i.is (member_type_is typed.0 parts i o typed.1 at) in
    let chosen = outcome_in_later (extends_keeps c.is_place.ensures.extends) (c.loop-i.invariant.made typed.0 typed.1) in
    record { owned = chosen.owned; owned_fault = chosen.owned_fault; form = chosen.form ∙ sym part.form }

pub loop-i-preserved : goal.loop-i-preserved
loop-i-preserved g c =
    let reads = g.L.Logic.reads in
    let before = c.loop-i.invariant in
    let parts = c.args.parts.now in
    let i = c.loop-i.i in
    let o = c.index-parts-i.result in
    let l = c.args.limits.now in
    let one = c.is_place.ensures.extends in
    let until = extends_trans before.extends one in
    let typed = some_type _ c.requires.typed in
    let at = slice_get_read parts (length parts) i o refl c.loop-i-test.true c.index-parts-i.is in
    record {
      extends = extends_trans until c.choose_outcome.ensures.extends;
      made = λ t e.
          let made = c.in_ok-chosen.ensures.made in
          let part = member_in l t parts i o c.requires.parts c.loop-i-test.true c.index-parts-i.is (member_type_is t parts i o e at) in
          record { owned = made.owned; owned_fault = made.owned_fault; form = made.form ∙ part.form };
      value = λ vs p x e h.
          let n = nat_read reads c.args.g.now vs c.args.member.now in
          let number = ap (λ (w : List _). nat_read reads c.loop-i.g vs w) c.as_slice.ensures ∙ nat_later (extends_keeps before.extends) c.requires.member vs in
          let test = c.in_ok-named.ensures.value vs ∙ ap (λ (k : ℕ). nat_eq k i) number in
          c.in_ok-chosen.ensures.value vs x
          (λ q.
          let here = place_here n i (sym test ∙ q) in
          let there : slice_get parts i ≡ Some p = sym (ap (slice_get parts) here) ∙ e in
          let is : p ≡ o = cc in
          outcome_later o (extends_keeps until) (part_at l parts i o c.requires.parts c.loop-i-test.true c.index-parts-i.is) vs x (subst (λ (y : SymOutcome _). OutcomeReads (reads c.args.g.now vs) y x) is h))
          (λ q.
          let other = place_other n i (sym test ∙ q) in
          let there = sym (ap (slice_get parts) other) ∙ e in
          outcome_later c.loop-i.chosen (extends_keeps one) (before.made typed.0 typed.1) vs x (before.value vs p x there h));
    }

pub returns-clause-made : goal.returns-clause-made
returns-clause-made g c = c.loop-i.invariant.made

pub returns-clause-value : goal.returns-clause-value
returns-clause-value g c vs p x e h =
    let parts = c.args.parts.now in
    let some = some_members parts c.requires.typed in
    let end : length parts ≡ c.loop-i.i = omega arith in
    c.loop-i.invariant.value vs p x (sym (ap (λ (k : ℕ). slice_get parts (place_chosen (nat_read g.L.Logic.reads c.args.g.now vs c.args.member.now) k)) end) ∙ e) h
