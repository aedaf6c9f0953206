use Rattle.std.proofs.Common.{◌∙◌, ◌<◌, ap, arith, length, not, refl, subst, sym}
use Rattle.std.proofs.lemmas.List.{length-map}
use Rattle.std.proofs.lemmas.Option.{slice_get_read}
use Rattle.bit_words.proofs.Kept.{value_read}
use Rattle.input_ranges.specs.Alphabets.{IsLower, guessed}
use Rattle.input_ranges.proofs.alphabets.guessed_bit.Goals as goal

pub returns-in-Constant-clause-value : goal.returns-in-Constant-clause-value
returns-in-Constant-clause-value g c vs d spells = c.constant.ensures.value vs ∙ sym (ap (λ x. guessed x d) c.in-Constant.is)

pub returns-in-Same-clause-value : goal.returns-in-Same-clause-value
returns-in-Same-clause-value g c vs d spells =
    let f = g.L.Logic.reads c.args.g.now vs in
    let lower = c.args.lower.now in
    let place = c.in-Same.place in
    let below : place < length lower = subst (λ x. IsLower (length lower) x) c.in-Same.is c.requires.lower in
    let at = slice_get_read lower _ place c.index-lower-place.result refl (omega arith) c.index-lower-place.is in
    sym (value_read f lower place c.index-lower-place.result at) ∙ spells place (let e = length-map lower f in omega arith)
    ∙ sym (ap (λ x. guessed x d) c.in-Same.is)

pub returns-in-Opposite-clause-value : goal.returns-in-Opposite-clause-value
returns-in-Opposite-clause-value g c vs d spells =
    let f = g.L.Logic.reads c.args.g.now vs in
    let lower = c.args.lower.now in
    let place = c.in-Opposite.place in
    let below : place < length lower = subst (λ x. IsLower (length lower) x) c.in-Opposite.is c.requires.lower in
    let at = slice_get_read lower _ place c.index-lower-place-in-Opposite.result refl (omega arith) c.index-lower-place-in-Opposite.is in
    c.not.ensures.value vs ∙ ap not (sym (value_read f lower place c.index-lower-place-in-Opposite.result at) ∙ spells place (let e = length-map lower f in omega arith))
    ∙ sym (ap (λ x. guessed x d) c.in-Opposite.is)
