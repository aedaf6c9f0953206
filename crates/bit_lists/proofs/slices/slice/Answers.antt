use Rattle.std.proofs.Common.{◌≡◌, ◌≤◌, ◌-◌, ◌∙◌, ap, arith, refl, length, map, List, ℕ}
use Rattle.std.proofs.lemmas.List.{length-map}
use Rattle.mpy_tree.specs.Operations.{end_or}
use Rattle.bit_words.specs.Logic.{extends_trans}
use Rattle.bit_words.specs.Words.{nat_of, nat_read}
use Rattle.bit_words.proofs.Kept.{reads_kept}
use Rattle.bit_lists.specs.Lists.{words_read}
use Rattle.bit_lists.specs.Slices.{end_read}
use Rattle.bit_lists.proofs.Cutting.{cut_is, high_as, high_within, lowered_as}
use Rattle.bit_lists.proofs.Ends.{end_kept, end_owned}
use Rattle.bit_lists.proofs.Held.{word_is, word_kept, words_kept, words_same}
use Rattle.bit_lists.proofs.slices.slice.Goals as goal

pub lower-requires : goal.lower-requires
lower-requires g c =
    let needs = c.requires.1.1 in
    record { some = needs.1.1.0; few = needs.1.1.1.0; from = needs.1.1.1.1.0; len = needs.1.0.length_of }

pub upper-requires : goal.upper-requires
upper-requires g c =
    let needs = c.requires.1.1 in
    let one = c.lower.ensures.extends in
    let rest = needs.1.1.1.1.1 in
    record { some = rest.0; few = rest.1.0; to = end_owned one c.args.to rest.1.1; len = word_kept one needs.1.0.length_of }

pub gap-requires : goal.gap-requires
gap-requires g c = record { low = word_kept c.upper.ensures.extends c.in_ok-low.ensures.made; high = c.in_ok-high.ensures.made }

pub moved-requires : goal.moved-requires
moved-requires g c κs h =
    let needs = c.requires.1.1 in
    let until = extends_trans (extends_trans c.lower.ensures.extends c.upper.ensures.extends) c.gap.ensures.extends in
    let number = word_is c.as_slice.ensures (word_kept (extends_trans c.upper.ensures.extends c.gap.ensures.extends) c.in_ok-low.ensures.made) in
    (h.0, (h.1, (number.width, (needs.0, (number.owned, words_kept until needs.1.0.items_of)))))

pub returns-clause-made : goal.returns-clause-made
returns-clause-made g c = record { length_of = word_kept c.moved.ensures.extends c.in_ok-len.ensures.made; items_of = c.in_ok-items.ensures.made; many = c.in_ok-items.ensures.many }

pub returns-clause-value : goal.returns-clause-value
returns-clause-value g c vs proper =
    let needs = c.requires.1.1 in
    let reads = g.L.Logic.reads in
    let one = c.lower.ensures.extends in
    let two = c.upper.ensures.extends in
    let three = c.gap.ensures.extends in
    let until = extends_trans (extends_trans one two) three in
    let whole = words_read reads c.args.g.now vs c.args.a.now.items.now in
    let new = words_read reads c.moved.new.g vs c.in_ok-items.items in
    let from = end_read reads c.args.g.now vs c.args.from in
    let to = end_read reads c.args.g.now vs c.args.to in
    let n = nat_read reads c.args.g.now vs c.args.a.now.len.now in
    let long : length whole ≡ length c.args.a.now.items.now = simp length-map refl in
    let new_long : length new ≡ length c.in_ok-items.items = simp length-map refl in
    let fits : nat_read reads c.args.g.now vs c.args.a.now.len.now ≤ length c.args.a.now.items.now = proper in
    let low = c.in_ok-low.ensures.value vs in
    let number = ap nat_of (reads_kept one needs.1.0.length_of.owned vs) in
    let high = high_as (c.in_ok-high.ensures.value vs) number (end_kept one c.args.to needs.1.1.1.1.1.1.1 vs) in
    let low_later = ap nat_of (reads_kept two c.in_ok-low.ensures.made.owned vs) ∙ low in
    let low_last = ap (λ (w : List _). nat_of (map (reads c.gap.new.g vs) w)) c.as_slice.ensures ∙ ap nat_of (reads_kept (extends_trans two three) c.in_ok-low.ensures.made.owned vs) ∙ low in
    let size = ap nat_of (reads_kept c.moved.ensures.extends c.in_ok-len.ensures.made.owned vs) ∙ c.in_ok-len.ensures.value vs
    ∙ ap (λ (h : ℕ). h - nat_read reads c.upper.new.g vs c.in_ok-low.low) high ∙ ap (λ (l : ℕ). end_or n to n - l) low_later in
    cut_is whole new n _ from to (omega (arith, needs.0)) (omega arith) (omega (arith, c.in_ok-items.ensures.many))
    (lowered_as new low_last (words_same until needs.1.0.items_of vs) (c.in_ok-items.ensures.value vs)) size

pub returns-clause-proper : goal.returns-clause-proper
returns-clause-proper g c vs proper =
    let needs = c.requires.1.1 in
    let reads = g.L.Logic.reads in
    let n = nat_read reads c.args.g.now vs c.args.a.now.len.now in
    let one = c.lower.ensures.extends in
    let number = ap nat_of (reads_kept one needs.1.0.length_of.owned vs) in
    let high = high_as (c.in_ok-high.ensures.value vs) number (end_kept one c.args.to needs.1.1.1.1.1.1.1 vs) in
    let len = ap nat_of (reads_kept c.moved.ensures.extends c.in_ok-len.ensures.made.owned vs) in
    let size = c.in_ok-len.ensures.value vs in
    let least = high_within (end_read reads c.args.g.now vs c.args.to) n in
    let fits : nat_read reads c.args.g.now vs c.args.a.now.len.now ≤ length c.args.a.now.items.now = proper in
    omega (arith, len, size, high, least, fits, c.in_ok-items.ensures.many)
