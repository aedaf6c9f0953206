use Rattle.std.proofs.Common.{◌≡◌, ◌∙◌, ◌+◌, ◌^◌, ℕ, ap, length, map, not, arith, subst}
use Rattle.std.proofs.lemmas.List.{length-map, take_all}
use Rattle.bit_words.specs.Words.{nat_of}
use Rattle.bit_words.proofs.Integers.{nat_read_below}
use Rattle.bit_words.proofs.Signs.{nat_zeros}
use Rattle.bit_words.proofs.Quotients.{nat_not, zero_cases}
use Rattle.bit_words.proofs.quotient.is_zero.Goals as goal

pub returns-clause-value : goal.returns-clause-value
returns-clause-value g c vs =
    let reads = g.L.Logic.reads in
    let first = reads c.args.g.now vs in
    let last = reads c.carry_sum.new.g vs in
    let width = c.len-width.result in
    let bits = map first c.args.b.now in
    let left = take_all width c.in_ok-nothing.nothing (omega (arith, c.in_ok-nothing.ensures.made.width)) in
    let right = take_all width c.in_ok-flipped.flipped (omega (arith, c.in_ok-flipped.ensures.made.width)) in
    let nothing = ap nat_of (c.in_ok-nothing.ensures.value vs) ∙ nat_zeros width in
    let flipped = ap nat_of (c.in_ok-flipped.ensures.value vs) in
    let size : length bits ≡ width = simp length-map (omega arith) in
    let total = rw (left, right, nothing, flipped, c.constant-yes.ensures.value vs) at (c.in_ok-carry.ensures.total vs) in
    let turned = subst (λ (k : ℕ). nat_of (map not bits) + nat_of bits + 1 ≡ 2 ^ k) size (nat_not bits) in
    zero_cases (2 ^ width) (nat_of bits) (nat_of (map not bits)) (nat_of (map last c.in_ok-carry.field-0-0)) (last c.in_ok-carry.carry) turned
    (nat_read_below last c.in_ok-carry.field-0-0 width c.in_ok-carry.ensures.width) total
