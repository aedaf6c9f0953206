use Rattle.std.proofs.Common.{◌∙◌, ap, map, List, length, sym}
use Rattle.bit_words.specs.Words.{nat_of}
use Rattle.bit_lists.proofs.Held.{word_is}
use Rattle.bit_lists.proofs.Repeating.{product_as, product_passes, product_within_is, few_of}
use Rattle.bit_lists.proofs.Sums.{at_most, not_false}
use Rattle.bit_lists.proofs.repeats.product_within.Goals as goal

pub product-requires : goal.product-requires
product-requires g c =
    let left = word_is c.in_ok-first.ensures c.requires.left in
    let right = word_is c.in_ok-second.ensures c.requires.right in
    record { alike = right.width ∙ sym left.width; left = left.owned; right = right.owned }

pub returns-clause-made : goal.returns-clause-made
returns-clause-made g c =
    let made = c.in_ok-total.ensures.made in
    record { owned = made.owned; width = made.width ∙ c.in_ok-size.ensures.made.width ∙ ap length c.in_ok-first.ensures ∙ c.requires.left.width }

pub returns-clause-fault : goal.returns-clause-fault
returns-clause-fault g c vs =
    let reads = g.L.Logic.reads in
    let f = reads c.args.g.now vs in
    let left = ap (λ (w : List _). nat_of (map f w)) c.in_ok-first.ensures in
    let right = ap (λ (w : List _). nat_of (map f w)) c.in_ok-second.ensures in
    let five = ap length c.in_ok-first.ensures ∙ c.requires.left.width in
    let size = product_as _ _ five left right (c.in_ok-size.ensures.value vs) in
    c.in_ok-total.ensures.fault vs ∙ product_passes _ _ c.args.cap _ size c.requires.small

pub returns-clause-value : goal.returns-clause-value
returns-clause-value g c vs h =
    let reads = g.L.Logic.reads in
    let f = reads c.args.g.now vs in
    let left = ap (λ (w : List _). nat_of (map f w)) c.in_ok-first.ensures in
    let right = ap (λ (w : List _). nat_of (map f w)) c.in_ok-second.ensures in
    let five = ap length c.in_ok-first.ensures ∙ c.requires.left.width in
    let size = product_as _ _ five left right (c.in_ok-size.ensures.value vs) in
    let fault = c.in_ok-total.ensures.fault vs ∙ product_passes _ _ c.args.cap _ size c.requires.small in
    c.in_ok-total.ensures.value vs (fault ∙ not_false _ h) ∙ product_within_is _ _ c.args.cap _ size c.requires.small (few_of _ _ h)

pub returns-clause-within : goal.returns-clause-within
returns-clause-within g c vs = at_most _ _ _ c.args.cap (returns-clause-fault g c vs) (c.in_ok-total.ensures.none vs) (returns-clause-value g c vs)
