use Rattle.std.proofs.Common.{◌≡◌, ◌∙◌, ap, length, map, sym, take}
use Rattle.std.proofs.lemmas.Bool.{eqb-true}
use Rattle.std.proofs.lemmas.List.{length-map, take-map}
use Rattle.bit_words.specs.Logic.{extends_keeps}
use Rattle.bit_words.specs.Words.{nat_read}
use Rattle.bit_words.proofs.Kept.{owns_kept}
use Rattle.sym_values.specs.Later.{words_later}
use Rattle.input_bits.proofs.Items.{front_lengths, front_same, owns_front}
use Rattle.input_bits.proofs.cases.of_length.Goals as goal

pub filled_up-requires : goal.filled_up-requires
filled_up-requires g c =
    let items = c.args.items.now in
    let is = c.in_ok-words.ensures in
    record {
      owned = rw is (owns_front c.args.number items (owns_kept c.single_length.ensures.extends c.requires.owned));
      widths = rw is (front_lengths c.args.number items);
    }

pub returns-clause-same : goal.returns-clause-same
returns-clause-same g c vs h =
    let f = g.L.Logic.reads c.args.g.now vs in
    let last = g.L.Logic.reads c.single_length.new.g vs in
    let items = c.args.items.now in
    let whole = c.in_ok-whole.whole in
    let k = c.args.number in
    let slice = c.as_slice.ensures in
    let within = rw slice at (c.in_ok-known.ensures.within vs) in
    let same = rw slice at (c.in_ok-known.ensures.same vs) in
    let n = nat_read g.L.Logic.reads c.args.g.now vs c.args.len.now in
    let is : n ≡ k = eqb-true n k (sym within ∙ h) in
    let made = c.in_ok-whole.ensures.made in
    let many = sym (length-map whole length) ∙ ap length made.widths ∙ length-map items length in
    let first = rw c.in_ok-words.ensures at c.in_ok-whole.ensures.first in
    let front : take k whole ≡ take k items = front_same k items whole first many in (
      same h,
      ap (λ m. take m (map (map last) whole)) is ∙ take-map (map last) k whole ∙ ap (map (map last)) front ∙ sym (take-map (map last) k items)
          ∙ ap (take k) (words_later (extends_keeps c.single_length.ensures.extends) items c.requires.owned vs)
          ∙ ap (λ m. take m (map (map f) items)) (sym is),
    )
