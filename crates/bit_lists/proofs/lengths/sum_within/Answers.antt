use Rattle.std.proofs.Common.{◌≡◌, ◌∙◌, ap, map, List, Bool, false, true, ◌+◌, ◌*◌, take, ℕ, arith, length}
use Rattle.std.proofs.lemmas.List.{take_all}
use Rattle.bit_words.specs.Words.{bit_value, nat_of}
use Rattle.bit_lists.proofs.Sums.{at_most, passes_as, within_bits, not_false}
use Rattle.bit_lists.proofs.lengths.sum_within.Goals as goal

five : {B : Type 0} (w v : List B) → w ≡ v → length v ≡ 5 → take 5 w ≡ v
five w v e long = ap (take 5) e ∙ take_all 5 v (omega arith)

none_more : (s n m : ℕ) (b c : Bool) → s + 32 * bit_value c ≡ n + m + bit_value b → b ≡ false → s + 32 * bit_value c ≡ n + m
none_more s n m true c h e = cc
none_more s n m false c h e = omega arith

pub returns-clause-fault : goal.returns-clause-fault
returns-clause-fault g c vs =
    let reads = g.L.Logic.reads in
    let f = reads c.args.g.now vs in
    let left = ap (λ (w : List _). nat_of (map f w)) (five c.in_ok-first.first c.args.a.now c.in_ok-first.ensures c.requires.left.width) in
    let right = ap (λ (w : List _). nat_of (map f w)) (five c.in_ok-second.second c.args.b.now c.in_ok-second.ensures c.requires.right.width) in
    let sum = none_more _ _ _ _ _ (rw (left, right) at (c.in_ok-sum.ensures.total vs)) (c.constant-no.ensures.value vs) in
    c.in_ok-total.ensures.fault vs ∙ passes_as _ _ c.args.cap _ sum c.requires.small

pub returns-clause-value : goal.returns-clause-value
returns-clause-value g c vs h =
    let reads = g.L.Logic.reads in
    let f = reads c.args.g.now vs in
    let left = ap (λ (w : List _). nat_of (map f w)) (five c.in_ok-first.first c.args.a.now c.in_ok-first.ensures c.requires.left.width) in
    let right = ap (λ (w : List _). nat_of (map f w)) (five c.in_ok-second.second c.args.b.now c.in_ok-second.ensures c.requires.right.width) in
    let sum = none_more _ _ _ _ _ (rw (left, right) at (c.in_ok-sum.ensures.total vs)) (c.constant-no.ensures.value vs) in
    let fault = c.in_ok-total.ensures.fault vs ∙ passes_as _ _ c.args.cap _ sum c.requires.small in
    c.in_ok-total.ensures.value vs (fault ∙ not_false _ h) ∙ within_bits _ _ c.args.cap _ sum c.requires.small h

pub returns-clause-within : goal.returns-clause-within
returns-clause-within g c vs = at_most _ _ _ c.args.cap (returns-clause-fault g c vs) (c.in_ok-total.ensures.none vs) (returns-clause-value g c vs)
