use Rattle.std.proofs.Common.{◌≡◌, ◌<◌, ◌≤◌, ◌∙◌, ◌+◌, ◌-◌, ◌^◌, ◌∷◌, ℕ, ap, sym, length, map, take, not, arith, subst, length-take, suc}
use Rattle.std.proofs.lemmas.List.{length-map, take_all, take-map}
use Rattle.bit_words.specs.Logic.{extends_trans}
use Rattle.bit_words.specs.Words.{bit_value, nat_of}
use Rattle.bit_words.proofs.Kept.{reads_kept, owns_low_push, owns_taken, owns_kept}
use Rattle.bit_words.proofs.Integers.{nat_read_below, bit_small}
use Rattle.bit_words.proofs.Quotients.{nat_not, digit_cases, low_same, and_true, and_none, cond_nat}
use Rattle.bit_words.proofs.quotient.divide_digit.Goals as goal

pub returns-clause-none : goal.returns-clause-none
returns-clause-none g c vs some =
    let kept = c.choose_word.ensures.extends.same _ c.in_ok-taken.ensures.owned vs in
    let some_kept = c.carry_sum.ensures.extends.same _ c.requires.some vs in
    kept ∙ c.in_ok-taken.ensures.value vs ∙ and_none _ _ (some_kept ∙ some)

pub returns-clause-value : goal.returns-clause-value
returns-clause-value g c vs some half below =
    let reads = g.L.Logic.reads in
    let first = reads c.args.g.now vs in
    let sums = reads c.carry_sum.new.g vs in
    let width = c.len-width.result in
    let bits = map first c.args.b.now in
    let rest = map first c.args.rest.now in
    let one = c.carry_sum.ensures.extends in
    let two = c.and.ensures.extends in
    let size : length bits ≡ width = simp length-map (omega arith) in
    let shifted_is = c.in_ok-push_low.ensures.ok ∙ ap (λ w. c.args.digit ∷ w) c.in_ok-shifted.ensures in
    let shifted_long : length c.push_low.new.self ≤ width = omega (arith, ap length shifted_is, length-take (width - 1) c.args.rest.now) in
    let left = take_all width c.push_low.new.self shifted_long in
    let right = take_all width c.in_ok-flipped.flipped (omega (arith, c.in_ok-flipped.ensures.made.width)) in
    let flipped = ap nat_of (c.in_ok-flipped.ensures.value vs) in
    let total = rw (left, right, flipped, c.constant-yes.ensures.value vs) at (c.in_ok-difference.ensures.total vs) in
    let turned = subst (λ (k : ℕ). nat_of (map not bits) + nat_of bits + 1 ≡ 2 ^ k) size (nat_not bits) in
    let whole_rest : length rest ≡ suc (width - 1) = simp length-map (omega arith) in
    let small : nat_of rest < 2 ^ (width - 1) = omega (arith, subst (λ (k : ℕ). nat_of bits ≤ 2 ^ (k - 1)) (sym c.len-width.ensures) half) in
    let low : nat_of (map first (take (width - 1) c.args.rest.now)) ≡ nat_of rest = ap nat_of (sym (take-map first (width - 1) c.args.rest.now)) ∙ low_same rest (width - 1) whole_rest small in
    let x : nat_of (map first c.push_low.new.self) ≡ bit_value (first c.args.digit) + (nat_of rest + nat_of rest)
    = ap (λ w. nat_of (map first w)) shifted_is ∙ ap (λ (n : ℕ). bit_value (first c.args.digit) + (n + n)) low in
    let x_small : nat_of (map first c.push_low.new.self) < nat_of bits + nat_of bits = omega (arith, x, below, bit_small (first c.args.digit)) in
    let taken = c.in_ok-taken.ensures.value vs ∙ and_true _ _ (one.same _ c.requires.some vs ∙ some) in
    let kept = c.choose_word.ensures.extends.same _ c.in_ok-taken.ensures.owned vs ∙ taken in
    let shifted_owned = owns_low_push c.requires.digit (owns_taken (width - 1) c.requires.rest) shifted_is in
    let difference_kept = reads_kept two c.in_ok-difference.ensures.owned vs in
    let shifted_kept = reads_kept (extends_trans one two) shifted_owned vs in
    let chosen = ap nat_of (rw (taken, difference_kept, shifted_kept) at (c.in_ok-left.ensures.value vs)) ∙ cond_nat (sums c.in_ok-difference.carry) _ _ in
    let digit = digit_cases (2 ^ width) (nat_of bits) (nat_of (map not bits)) (nat_of (map first c.push_low.new.self)) (nat_of (map sums c.in_ok-difference.difference)) (sums c.in_ok-difference.carry) turned
    (nat_read_below sums c.in_ok-difference.difference width c.in_ok-difference.ensures.width) x_small total in
    rw (kept, chosen, sym x) digit

pub carry_sum-requires-clause-left : goal.carry_sum-requires-clause-left
carry_sum-requires-clause-left g c = owns_low_push c.requires.digit (owns_taken (c.len-width.result - 1) c.requires.rest) (c.in_ok-push_low.ensures.ok ∙ ap (λ w. c.args.digit ∷ w) c.in_ok-shifted.ensures)

pub carry_sum-requires-clause-right : goal.carry_sum-requires-clause-right
carry_sum-requires-clause-right g c = c.in_ok-flipped.ensures.made.owned

pub carry_sum-requires-clause-carry : goal.carry_sum-requires-clause-carry
carry_sum-requires-clause-carry g c = c.constant-yes.ensures.owned

pub returns-in_err-difference-clause-extends : goal.returns-in_err-difference-clause-extends
returns-in_err-difference-clause-extends g c = c.carry_sum.ensures.extends

pub and-requires : goal.and-requires
and-requires g c = record { left = c.in_ok-difference.ensures.owned_carry; right = c.carry_sum.ensures.extends.kept _ c.requires.some }

pub returns-in_err-taken-clause-extends : goal.returns-in_err-taken-clause-extends
returns-in_err-taken-clause-extends g c = extends_trans c.carry_sum.ensures.extends c.and.ensures.extends

pub choose_word-requires-clause-test : goal.choose_word-requires-clause-test
choose_word-requires-clause-test g c = c.in_ok-taken.ensures.owned

pub choose_word-requires-clause-yes : goal.choose_word-requires-clause-yes
choose_word-requires-clause-yes g c = owns_kept c.and.ensures.extends c.in_ok-difference.ensures.owned

pub choose_word-requires-clause-no : goal.choose_word-requires-clause-no
choose_word-requires-clause-no g c = owns_kept (extends_trans c.carry_sum.ensures.extends c.and.ensures.extends) (owns_low_push c.requires.digit (owns_taken (c.len-width.result - 1) c.requires.rest) (c.in_ok-push_low.ensures.ok ∙ ap (λ w. c.args.digit ∷ w) c.in_ok-shifted.ensures))

pub returns-in_err-left-clause-extends : goal.returns-in_err-left-clause-extends
returns-in_err-left-clause-extends g c = extends_trans c.carry_sum.ensures.extends (extends_trans c.and.ensures.extends c.choose_word.ensures.extends)

pub returns-clause-extends : goal.returns-clause-extends
returns-clause-extends g c = extends_trans c.carry_sum.ensures.extends (extends_trans c.and.ensures.extends c.choose_word.ensures.extends)

pub returns-clause-owned : goal.returns-clause-owned
returns-clause-owned g c = c.in_ok-left.ensures.made.owned

pub returns-clause-owned_digit : goal.returns-clause-owned_digit
returns-clause-owned_digit g c = c.choose_word.ensures.extends.kept _ c.in_ok-taken.ensures.owned

pub returns-clause-width : goal.returns-clause-width
returns-clause-width g c = c.in_ok-left.ensures.made.width ∙ c.in_ok-difference.ensures.width ∙ c.len-width.ensures
