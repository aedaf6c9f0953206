use Rattle.std.proofs.Common.{◌≡◌, ◌<◌, ◌∙◌, ◌^◌, length, map, refl, subst, sym, ℕ}
use Rattle.std.proofs.lemmas.Bool.{eqb-true}
use Rattle.std.proofs.lemmas.List.{length-map}
use Rattle.bit_words.specs.Words.{nat_of}
use Rattle.bit_words.proofs.Decided.{number_decides_bits}
use Rattle.bit_words.proofs.Integers.{nat_read_below}
use Rattle.bit_words.proofs.Kept.{reads_kept}
use Rattle.input_ranges.proofs.length_ranges.single_length.Goals as goal

pub returns-clause-same : goal.returns-clause-same
returns-clause-same g c vs h =
    let f = g.L.Logic.reads c.args.g.now vs in
    let made = c.in_ok-bits.ensures.made in
    let len = c.args.len.now in
    let bits = c.in_ok-bits.bits in
    let is : nat_of (map f len) ≡ c.args.number = eqb-true _ _ (sym (c.in_ok-within.ensures.value vs) ∙ h) in
    let small : c.args.number < 2 ^ length len = subst (λ (k : ℕ). k < 2 ^ length len) is (nat_read_below f len (length len) refl) in
    let long : length (map f bits) ≡ length (map f len) = length-map bits f ∙ made.width ∙ sym (length-map len f) in
    reads_kept c.equal_number.ensures.extends made.owned vs
    ∙ number_decides_bits (map f bits) (map f len) long (c.in_ok-bits.ensures.value vs small ∙ sym is)
