use Rattle.std.proofs.Common.{◌∙◌, ap, sym}
use Rattle.std.proofs.lemmas.Bool.{and_parts}
use Rattle.bit_words.specs.Logic.{extends_trans}
use Rattle.bit_words.specs.Words.{nat_of, nat_read}
use Rattle.bit_words.proofs.Kept.{reads_kept}
use Rattle.input_ranges.specs.Alphabets.{is_among}
use Rattle.input_ranges.proofs.Between.{and_same, both_tested}
use Rattle.input_ranges.proofs.alphabets.ranged_character.Goals as goal

pub returns-clause-within : goal.returns-clause-within
returns-clause-within g c vs =
    let reads = g.L.Logic.reads in
    let n = nat_read reads c.args.g.now vs c.args.word.now in
    let digits = c.in_ok-digits.digits in
    let alphabet = c.args.alphabet.now in
    let still = c.among.ensures.extends.same digits.within c.in_ok-digits.ensures.owned vs in
    let member = rw c.as_slice.ensures at (c.in_ok-member.ensures.value vs) in
    c.in_ok-within.ensures.value vs
    ∙ and_same _ _ _ _ still member
    ∙ both_tested (reads c.known_digits.new.g vs digits.within) _ (is_among alphabet n)
    (λ e. ap (λ w. is_among alphabet (nat_of w)) (c.in_ok-digits.ensures.same vs e)) (c.in_ok-digits.ensures.right vs)

pub returns-clause-same : goal.returns-clause-same
returns-clause-same g c vs h =
    let digits = c.in_ok-digits.digits in
    let still = c.among.ensures.extends.same digits.within c.in_ok-digits.ensures.owned vs in
    let fine = sym still ∙ (and_parts _ _ (sym (c.in_ok-within.ensures.value vs) ∙ h)).0 in
    reads_kept (extends_trans c.among.ensures.extends c.and.ensures.extends) c.in_ok-digits.ensures.made.owned vs
    ∙ c.in_ok-digits.ensures.same vs fine
