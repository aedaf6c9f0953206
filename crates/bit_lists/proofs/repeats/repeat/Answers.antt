use Rattle.std.proofs.Common.{◌≡◌, ◌≤◌, ◌∙◌, ap, sym, arith, refl, length}
use Rattle.std.proofs.lemmas.List.{length-map}
use Rattle.bit_words.specs.Logic.{extends_trans}
use Rattle.bit_words.specs.Words.{int_read, nat_of, nat_read}
use Rattle.bit_words.proofs.Kept.{reads_kept}
use Rattle.bit_lists.specs.Lists.{words_read}
use Rattle.bit_lists.proofs.Held.{word_kept, words_kept, words_same}
use Rattle.bit_lists.proofs.Repeating.{fault_as, repeated_within, total_as, wrapped_as}
use Rattle.bit_lists.proofs.repeats.repeat.Goals as goal

pub times_of-requires : goal.times_of-requires
times_of-requires g c =
    let needs = c.requires.1.1 in
    record { some = needs.1.1.0; few = needs.1.1.1.0; number = needs.1.1.1.1 }

pub product_within-requires : goal.product_within-requires
product_within-requires g c =
    let needs = c.requires.1.1 in
    record { small = omega (arith, needs.0, c.count_of-cap.ensures); left = word_kept c.times_of.ensures.extends needs.1.0.length_of; right = c.in_ok-times.ensures.made }

pub wrapped-requires : goal.wrapped-requires
wrapped-requires g c κs h =
    let needs = c.requires.1.1 in
    let until = extends_trans c.times_of.ensures.extends c.product_within.ensures.extends in
    (h.0, (h.1, (needs.0, (word_kept until needs.1.0.length_of, words_kept until needs.1.0.items_of))))

pub returns-clause-made : goal.returns-clause-made
returns-clause-made g c = record { length_of = word_kept c.wrapped.ensures.extends c.in_ok-total.ensures.made; items_of = c.in_ok-items.ensures.made; many = c.in_ok-items.ensures.many }

pub returns-clause-owned : goal.returns-clause-owned
returns-clause-owned g c = c.wrapped.ensures.extends.kept _ c.in_ok-total.ensures.owned

pub returns-clause-proper : goal.returns-clause-proper
returns-clause-proper g c vs =
    let len = ap nat_of (reads_kept c.wrapped.ensures.extends c.in_ok-total.ensures.made.owned vs) in
    let small = c.in_ok-total.ensures.within vs in
    omega (arith, len, small, c.count_of-cap.ensures, c.in_ok-items.ensures.many)

pub returns-clause-value : goal.returns-clause-value
returns-clause-value g c vs proper =
    let needs = c.requires.1.1 in
    let reads = g.L.Logic.reads in
    let one = c.times_of.ensures.extends in
    let until = extends_trans one c.product_within.ensures.extends in
    let last = c.wrapped.ensures.extends in
    let whole = words_read reads c.args.g.now vs c.args.a.now.items.now in
    let new = words_read reads c.wrapped.new.g vs c.in_ok-items.items in
    let n = nat_read reads c.args.g.now vs c.args.a.now.len.now in
    let z = int_read reads c.args.g.now vs c.args.number.now in
    let long : length whole ≡ length c.args.a.now.items.now = simp length-map refl in
    let new_long : length new ≡ length c.in_ok-items.items = simp length-map refl in
    let fits : nat_read reads c.args.g.now vs c.args.a.now.len.now ≤ length c.args.a.now.items.now = proper in
    let cap = c.count_of-cap.ensures in
    let number = ap nat_of (reads_kept one needs.1.0.length_of.owned vs) in
    let number_later = ap nat_of (reads_kept until needs.1.0.length_of.owned vs) in
    let times = c.in_ok-times.ensures.value vs in
    let fault = last.same _ c.in_ok-total.ensures.owned vs ∙ fault_as number times cap (c.in_ok-total.ensures.fault vs) in
    let len = ap nat_of (reads_kept last c.in_ok-total.ensures.made.owned vs) in
    repeated_within whole new n _ (length c.args.a.now.items.now) z _ (omega (arith, c.in_ok-items.ensures.many)) (sym long) needs.0 (omega arith) fault
    (λ k. len ∙ total_as number times cap (c.in_ok-total.ensures.value vs) k)
    (wrapped_as new number_later (words_same until needs.1.0.items_of vs) long (c.in_ok-items.ensures.value vs))
