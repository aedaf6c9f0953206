use Rattle.std.proofs.Common.{◌≡◌, ◌∙◌, ◌∷◌, ap, arith, drop, length, refl, subst, sym}
use Rattle.std.proofs.lemmas.List.{length-map}
use Rattle.bit_words.specs.Logic.{OwnsAll}
use Rattle.sym_values.specs.declared.value.SymValue.TheVariants as sym
use Rattle.sym_values.specs.Forms.{IntForm, form_of, forms_of, values_bits}
use Rattle.sym_paths.proofs.Keeping.{owns_drop}
use Rattle.sym_paths.proofs.Kept.{forms_behind, kept_long, number_first, number_form, number_owned}
use Rattle.sym_paths.proofs.Kept.{words_long}
use Rattle.sym_paths.proofs.Telling.{done_reads, slot_word, slots_owned, slots_wide}
use Rattle.sym_paths.proofs.done.done_from.Goals as goal

pub at-requires : goal.at-requires
at-requires g c =
    let slots = c.args.slots.now in
    let long = kept_long slots.limits slots.prints c.requires.some c.args.end.printed
    c.requires.held.kept.forms_are in
    omega arith

pub word_of-requires : goal.word_of-requires
word_of-requires g c =
    let slots = c.args.slots.now in (
      5,
      number_form slots.limits slots.prints c.requires.some c.args.end.printed
          c.requires.held.kept.forms_are c.at.result.now c.at.ensures,
    )

pub slots_from-requires : goal.slots_from-requires
slots_from-requires g c = c.requires.held.kept

pub value_or_zero-requires : goal.value_or_zero-requires
value_or_zero-requires g c = record {
  is = c.requires.held.form_is;
  owned = c.requires.held.value;
}

pub not-fault-requires : goal.not-fault-requires
not-fault-requires g c = c.requires.held.bit

pub returns-clause-made : goal.returns-clause-made
returns-clause-made g c =
    let owns = g.L.Logic.owns in
    let slots = c.args.slots.now in
    let l = slots.limits in
    let kept = c.args.end.printed in
    let first = c.at.result.now in
    let printed = c.in_ok-printed.printed in
    let forms = c.requires.held.kept.forms_are in
    let some = c.requires.some in
    let len : c.from_vec-len.result ≡ c.word_of.result.now =
    c.from_vec-len.ensures ∙ c.into_vec.ensures ∙ c.in_ok-number.ensures in
    let word = number_owned kept first c.word_of.result.now c.requires.held.kept.owned
    c.at.ensures c.word_of.ensures in
    let words = c.in_ok-printed.ensures.words in
    let form : IntForm (length c.word_of.result.now) ≡ IntForm 5 =
    ap form_of (sym c.word_of.ensures)
    ∙ number_form l slots.prints some kept forms first c.at.ensures in
    let five : length c.word_of.result.now ≡ 5 = cc in
    let many = words_long l slots.prints some kept forms in
    record {
      owned = c.in_ok-value.ensures.owned;
      owned_has = c.requires.held.has;
      owned_fault = c.not-fault.ensures.owned;
      owned_len = subst (OwnsAll owns c.args.g.now) (sym len) word;
      owned_slots = slots_owned printed
          (subst (λ ps. OwnsAll owns c.args.g.now (values_bits ps)) (sym words)
          (owns_drop 1 kept c.requires.held.kept.owned));
      form = c.in_ok-value.ensures.form;
      long = ap length len ∙ five;
      many = sym (length-map printed slot_word) ∙ ap length words ∙ many ∙ c.requires.keeps;
      widths = slots_wide l slots.prints printed c.in_ok-printed.ensures.kinds
          (ap forms_of words ∙ forms_behind l slots.prints some kept forms);
    }

pub returns-clause-value : goal.returns-clause-value
returns-clause-value g c vs run line e =
    let rd = g.L.Logic.reads c.args.g.now vs in
    let end = c.args.end in
    let printed = c.in_ok-printed.printed in
    let len : c.from_vec-len.result ≡ c.word_of.result.now =
    c.from_vec-len.ensures ∙ c.into_vec.ensures ∙ c.in_ok-number.ensures in
    let whole = number_first end.printed c.at.result.now c.word_of.result.now c.at.ensures
    c.word_of.ensures
    ∙ ap (λ w. sym.Int w ∷ drop 1 end.printed) (sym len)
    ∙ ap (λ ps. sym.Int c.from_vec-len.result ∷ ps) (sym c.in_ok-printed.ensures.words) in
    done_reads c.args.slots.now.limits rd end _ refl (c.not-fault.ensures.value vs)
    (c.requires.held.some vs) c.in_ok-value.ensures.kept whole c.in_ok-printed.ensures.kinds
    run line e
