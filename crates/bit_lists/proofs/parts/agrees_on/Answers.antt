use Rattle.std.proofs.Common.{◌∙◌, ap, sym, arith, List, map}
use Rattle.bit_words.specs.Words.{nat_of}
use Rattle.bit_words.proofs.Kept.{reads_kept}
use Rattle.bit_lists.proofs.Held.{word_is, word_kept, words_at}
use Rattle.bit_lists.proofs.Within.{agrees_as}
use Rattle.bit_lists.proofs.Reading.{read_at}
use Rattle.bit_lists.proofs.parts.agrees_on.Goals as goal

pub is_past-requires : goal.is_past-requires
is_past-requires g c =
    let needs = c.requires.1.1 in
    let number = word_is c.as_slice.ensures needs.1.0.length_of in
    record { small = omega (arith, needs.0, needs.1.1.1.0); owned = number.owned }

pub found_at-requires : goal.found_at-requires
found_at-requires g c =
    let needs = c.requires.1.1 in
    let one = c.is_past.ensures.extends in
    let left = words_at c.args.place needs.1.0.items_of c.at.ensures in
    let right = words_at c.args.spot needs.1.1.0.items_of c.at-2.ensures in
    record {
      small = omega (arith, needs.0, needs.1.1.0.many, needs.1.1.1.1);
      alike = right.width ∙ sym left.width;
      len = (word_kept one needs.1.1.0.length_of).owned;
      left = (word_kept one left).owned;
      right = (word_kept one right).owned;
    }

pub returns-clause-value : goal.returns-clause-value
returns-clause-value g c vs =
    let needs = c.requires.1.1 in
    let reads = g.L.Logic.reads in
    let f = reads c.args.g.now vs in
    let one = c.is_past.ensures.extends in
    let two = c.found_at.ensures.extends in
    let left = words_at c.args.place needs.1.0.items_of c.at.ensures in
    let right = words_at c.args.spot needs.1.1.0.items_of c.at-2.ensures in
    let past = c.in_ok-past.ensures.value vs in
    let number = ap (λ (w : List _). nat_of (map f w)) c.as_slice.ensures in
    let text_len = ap nat_of (reads_kept one needs.1.1.0.length_of.owned vs) in
    let first = ap nat_of (reads_kept one left.owned vs ∙ sym (read_at f c.args.part.now.items.now c.args.place _ c.at.ensures)) in
    let second = ap nat_of (reads_kept one right.owned vs ∙ sym (read_at f c.args.text.now.items.now c.args.spot _ c.at-2.ensures)) in
    agrees_as c.args.place c.args.spot (c.in_ok-agrees.ensures.value vs) (two.same _ c.in_ok-past.ensures.owned vs) past number (c.in_ok-found.ensures.value vs) text_len first second
