use Rattle.std.proofs.Common.{◌∙◌, Some, ap, length, map, refl, subst, sym}
use Rattle.std.specs.Prelude.{option_map}
use Rattle.std.proofs.lemmas.List.Elements.{All-nil}
use Rattle.bit_words.specs.Later.{owns_both}
use Rattle.bit_words.specs.Logic.{OwnsAll}
use Rattle.bit_words.specs.Words.{nat_of}
use Rattle.bit_words.proofs.Kept.{owns_none}
use Rattle.sym_values.specs.Forms.{form_for}
use Rattle.sym_paths.specs.Endings.{Seen}
use Rattle.sym_paths.proofs.Telling.{done_alone, nothing_run, some_is}
use Rattle.sym_paths.proofs.done.finish_alone.Goals as goal

pub finish-requires : goal.finish-requires
finish-requires g c = record {
  result = c.requires.gives;
  dropped = c.requires.dropped;
  all = c.requires.held.returned;
}

pub returns-clause-made : goal.returns-clause-made
returns-clause-made g c =
    let owns = g.L.Logic.owns in
    let now = c.finish.new.g in
    let slots = c.args.slots.now in
    let l = slots.limits in
    let result = some_is slots.result c.requires.gives in
    let made = c.in_ok-outcome.ensures.made result.0 result.1 in
    let number = c.in_ok-number.ensures.made in
    let len = c.from_vec-len.ensures ∙ c.into_vec.ensures in
    let none = c.new.ensures in
    record {
      owned = owns_both made.owned owns_none;
      owned_has = c.constant-has.ensures.owned;
      owned_fault = made.owned_fault;
      owned_len = subst (OwnsAll owns now) (sym len) number.owned;
      owned_slots = rw none owns_none;
      form = ap Some made.form ∙ ap (option_map (form_for l)) (sym result.1);
      long = ap length len ∙ number.width;
      many = ap length none ∙ sym c.requires.dropped ∙ c.requires.keeps;
      widths = rw none (All-nil _);
    }

pub returns-clause-value : goal.returns-clause-value
returns-clause-value g c vs run line e =
    let reads = g.L.Logic.reads in
    let start = reads c.args.g.now vs in
    let slots = c.args.slots.now in
    let outcome = c.in_ok-outcome.outcome in
    let len = c.from_vec-len.ensures ∙ c.into_vec.ensures in
    done_alone slots.limits (reads c.finish.new.g vs) _ outcome.value
    (c.constant-has.ensures.value vs) refl c.new.ensures
    (ap (λ w. nat_of (map (reads c.finish.new.g vs) w)) len
    ∙ ap nat_of (c.in_ok-number.ensures.value vs)) run line
    (nothing_run g.L.Logic.owns c.args.g.now start slots c.args.out c.requires.dropped
    c.requires.held run e)
    (c.in_ok-outcome.ensures.value vs run line (ap (λ (s : Seen). s.returned) e))
