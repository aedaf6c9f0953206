use Rattle.std.proofs.Common.{◌∙◌, ap, length, map, sym}
use Rattle.std.proofs.lemmas.List.{length-map}
use Rattle.bit_words.specs.Later.{owns_both}
use Rattle.sym_values.specs.Owned.{list_items_owned, list_len_owned, text_items_owned, text_len_owned}
use Rattle.sym_values.specs.Reading.{read}
use Rattle.sym_values.proofs.Held.{list_form, text_form}
use Rattle.input_bits.proofs.PartValues.{list_part, number_part, text_part, truth_part}
use Rattle.input_bits.proofs.RangedValues.{list_same, text_same}
use Rattle.input_bits.proofs.cases.value_part.Goals as goal

pub returns-in_ok-number-in-Int-clause-within : goal.returns-in_ok-number-in-Int-clause-within
returns-in_ok-number-in-Int-clause-within g c vs v e =
    c.constant-within.ensures.value vs ∙ number_part c.args.split c.args.part v (map (g.L.Logic.reads c.args.g.now vs) c.in-Int.word) (rw c.in-Int.is at e)

pub returns-in-Bool-clause-within : goal.returns-in-Bool-clause-within
returns-in-Bool-clause-within g c vs v e =
    c.constant-within-in-Bool.ensures.value vs ∙ truth_part c.args.split c.args.part v _ (rw c.in-Bool.is at e)

pub sequence_part-requires : goal.sequence_part-requires
sequence_part-requires g c = record {
  part = c.requires.part;
  owned_len = list_len_owned c.requires.owned c.in-List.is;
  owned = list_items_owned c.requires.owned c.in-List.is;
}

pub returns-in_ok-known-in-List-clause-made : goal.returns-in_ok-known-in-List-clause-made
returns-in_ok-known-in-List-clause-made g c =
    let len = c.in_ok-known-in-List.ensures.made_len in
    let made = c.in_ok-known-in-List.ensures.made in
    record {
      owned = owns_both len.owned made.owned;
      form = list_form _ _ _ _ _ c.in-List.is len.width made.widths;
    }

pub returns-in_ok-known-in-List-clause-within : goal.returns-in_ok-known-in-List-clause-within
returns-in_ok-known-in-List-clause-within g c vs v e =
    c.in_ok-known-in-List.ensures.within vs ∙ list_part c.args.split c.args.part v _ _ (rw c.in-List.is at e)

pub returns-in_ok-known-in-List-clause-same : goal.returns-in_ok-known-in-List-clause-same
returns-in_ok-known-in-List-clause-same g c vs h =
    let f = g.L.Logic.reads c.args.g.now vs in
    let last = g.L.Logic.reads c.sequence_part.new.g vs in
    let known = c.in_ok-known-in-List.known in
    let same = c.in_ok-known-in-List.ensures.same vs h in
    let items = c.in-List.items in
    let many = sym (length-map known.items length) ∙ ap length c.in_ok-known-in-List.ensures.made.widths ∙ length-map items length in
    list_same (map f c.in-List.len) (map last known.len) (map (map f) items) (map (map last) known.items) same.0
    (length-map known.items (map last) ∙ many ∙ sym (length-map items (map f))) same.1
    ∙ sym (ap (read f) c.in-List.is)

pub sequence_part-requires-in-Text : goal.sequence_part-requires-in-Text
sequence_part-requires-in-Text g c = record {
  part = c.requires.part;
  owned_len = text_len_owned c.requires.owned c.in-Text.is;
  owned = text_items_owned c.requires.owned c.in-Text.is;
}

pub returns-in_ok-known-in-Text-clause-made : goal.returns-in_ok-known-in-Text-clause-made
returns-in_ok-known-in-Text-clause-made g c =
    let len = c.in_ok-known-in-Text.ensures.made_len in
    let made = c.in_ok-known-in-Text.ensures.made in
    record {
      owned = owns_both len.owned made.owned;
      form = text_form _ _ _ _ _ c.in-Text.is len.width made.widths;
    }

pub returns-in_ok-known-in-Text-clause-within : goal.returns-in_ok-known-in-Text-clause-within
returns-in_ok-known-in-Text-clause-within g c vs v e =
    c.in_ok-known-in-Text.ensures.within vs ∙ text_part c.args.split c.args.part v _ _ (rw c.in-Text.is at e)

pub returns-in_ok-known-in-Text-clause-same : goal.returns-in_ok-known-in-Text-clause-same
returns-in_ok-known-in-Text-clause-same g c vs h =
    let f = g.L.Logic.reads c.args.g.now vs in
    let last = g.L.Logic.reads c.sequence_part-in-Text.new.g vs in
    let known = c.in_ok-known-in-Text.known in
    let same = c.in_ok-known-in-Text.ensures.same vs h in
    let items = c.in-Text.items in
    let many = sym (length-map known.items length) ∙ ap length c.in_ok-known-in-Text.ensures.made.widths ∙ length-map items length in
    text_same (map f c.in-Text.len) (map last known.len) (map (map f) items) (map (map last) known.items) same.0
    (length-map known.items (map last) ∙ many ∙ sym (length-map items (map f))) same.1
    ∙ sym (ap (read f) c.in-Text.is)
