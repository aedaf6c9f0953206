use Rattle.std.proofs.Common.{◌≡◌, ◌∙◌, ap, length, map, sym}
use Rattle.std.proofs.lemmas.List.{length-map}
use Rattle.bit_words.proofs.Decided.{number_decides_word}
use Rattle.bit_words.proofs.Kept.{reads_kept}
use Rattle.input_ranges.proofs.Between.{same_numbers}
use Rattle.input_ranges.proofs.number_ranges.single.Goals as goal

pub returns-clause-same : goal.returns-clause-same
returns-clause-same g c vs h =
    let f = g.L.Logic.reads c.args.g.now vs in
    let made = c.in_ok-constant.ensures.made in
    let word = c.in_ok-constant.constant.word in
    let whole = c.from_vec-bits.ensures ∙ c.into_vec.ensures in
    let long : length (map f word) ≡ length (map f c.args.word.now) = length-map word f ∙ made.width ∙ c.len-width.ensures ∙ sym (length-map c.args.word.now f) in
    ap (map (g.L.Logic.reads c.equal.new.g vs)) whole
    ∙ reads_kept c.equal.ensures.extends made.owned vs
    ∙ number_decides_word (map f word) (map f c.args.word.now) long (sym (same_numbers _ _ (sym (c.in_ok-within.ensures.value vs) ∙ h)))
