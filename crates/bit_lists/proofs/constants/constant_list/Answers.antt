use Rattle.std.proofs.Common.{rules, w32, ◌≡◌, ◌∙◌, ap, arith, refl, length, length-append, ℕ, get_or, true}
use Rattle.std.specs.Prelude.{pos}
use Rattle.std.proofs.lemmas.Int.{to_z-of_z}
use Rattle.std.proofs.lemmas.List.{length-map}
use Rattle.bit_words.specs.Words.{fits, int_of}
use Rattle.bit_lists.specs.Lists.{words_read}
use Rattle.bit_lists.proofs.Constant.{all_numbers}
use Rattle.bit_lists.proofs.Held.{words_push}
use Rattle.bit_lists.proofs.Ranging.{push_each}
use Rattle.bit_lists.proofs.constants.constant_list.Goals as goal

pub loop-j-preserved : goal.loop-j-preserved
loop-j-preserved g c =
    let reads = g.L.Logic.reads in
    let j = c.loop-j.j in
    let before = c.loop-j.invariant in
    let made = c.in_ok-item.ensures.made in
    record {
      made = words_push before.made (record { owned = made.owned; width = made.width }) c.in_ok-push.ensures.ok;
      many = ap length c.in_ok-push.ensures.ok ∙ simp (length-append) (omega arith);
      value = λ vs.
          let f = reads c.args.g.now vs in
          push_each (λ (k : ℕ) v. fits c.args.width (get_or c.args.numbers.now k (pos 0)) ≡ true → int_of v ≡ get_or c.args.numbers.now k (pos 0)) f f _ _ _ j before.many refl (before.value vs)
          (λ t. rw (to_z-of_z w32 c.number_at.result (search rules)) at (c.in_ok-item.ensures.value vs) (ap (fits c.args.width) c.number_at.ensures ∙ t) ∙ c.number_at.ensures) c.in_ok-push.ensures.ok;
    }

pub returns-clause-made : goal.returns-clause-made
returns-clause-made g c =
    let before = c.loop-j.invariant in
    record { length_of = c.in_ok-len.ensures.made; items_of = before.made; many = omega (arith, before.many) }

pub returns-clause-proper : goal.returns-clause-proper
returns-clause-proper g c vs =
    let before = c.loop-j.invariant in
    let len = c.in_ok-len.ensures.value vs in
    omega (arith, len, before.many, c.requires.within)

pub returns-clause-value : goal.returns-clause-value
returns-clause-value g c vs fit =
    let before = c.loop-j.invariant in
    let len = c.in_ok-len.ensures.value vs in
    let new = words_read g.L.Logic.reads c.args.g.now vs c.loop-j.items in
    let long : length new ≡ length c.loop-j.items = simp length-map refl in
    all_numbers c.args.width c.args.numbers.now new _ (omega (arith, len)) (omega (arith, before.many, c.requires.within)) fit (λ k h. before.value vs k (omega (arith, c.requires.within)))
