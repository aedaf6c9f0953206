use Rattle.std.proofs.Common.{◌∙◌, arith, drop, map, refl, sym}
use Rattle.std.proofs.lemmas.List.{drop_all}
use Rattle.std.proofs.lemmas.Option.{slice_get_read}
use Rattle.bit_words.specs.Logic.{OwnsAll, extends_keeps, extends_refl, extends_trans}
use Rattle.bit_words.specs.Later.{nat_later, owned_later}
use Rattle.sym_values.specs.Owned.{owns_one}
use Rattle.pick_bits.proofs.MemberWords.{all_tested, one_tested, tested_more}
use Rattle.pick_bits.proofs.fresh.all_numbered.Goals as goal

pub loop-pick-init : goal.loop-pick-init
loop-pick-init g c = record {
  extends = extends_refl;
  owned = c.constant-within.ensures.owned;
  value = λ vs. rw (c.constant-within.ensures.value vs) refl;
}

pub less_number-requires : goal.less_number-requires
less_number-requires g c =
    let v = g.L.Logic in
    let ws = c.args.numbers.now in
    let i = c.loop-pick.pick in
    let w = c.index-numbers-pick.result in
    let there = slice_get_read ws _ i w refl (omega arith) c.index-numbers-pick.is in
    let own : OwnsAll v.owns c.loop-pick.g w =
    owned_later (extends_keeps c.loop-pick.invariant.extends)
    (owns_one (λ u. u) ws i w c.requires.owned there) in
    rw c.as_slice.ensures own

pub loop-pick-preserved : goal.loop-pick-preserved
loop-pick-preserved g c =
    let logic = g.L.Logic in
    let ns = c.args.counts.now in
    let ws = c.args.numbers.now in
    let i = c.loop-pick.pick in
    let n = c.in_ok-members.members in
    let w = c.index-numbers-pick.result in
    let there = slice_get_read ws _ i w refl (omega arith) c.index-numbers-pick.is in
    let before = c.loop-pick.invariant in
    let one = c.less_number.ensures.extends in
    let two = c.and.ensures.extends in
    let own : OwnsAll logic.owns c.args.g.now w = owns_one (λ u. u) ws i w c.requires.owned there in
    record {
      extends = extends_trans before.extends (extends_trans one two);
      owned = c.in_ok-within.ensures.owned;
      value = λ vs.
          let first = logic.reads c.args.g.now vs in
          let so_far = one.same c.loop-pick.within before.owned vs in
          let test = rw c.as_slice.ensures at (c.in_ok-one.ensures.value vs) in
          let number = nat_later (extends_keeps before.extends) own vs in
          let now = one_tested _ _ _ _ _ _ n (c.in_ok-within.ensures.value vs) so_far test number in
          tested_more first ns ws i n w _ _ _ c.in_ok-members.ensures.many there now
          (before.value vs);
    }

pub returns-clause-value : goal.returns-clause-value
returns-clause-value g c vs =
    let first = g.L.Logic.reads c.args.g.now vs in
    let ns = c.args.counts.now in
    let i = c.loop-pick.pick in
    let none = drop_all i ns (omega arith) in
    sym (c.loop-pick.invariant.value vs
    ∙ all_tested _ (drop i ns) (map (map first) (drop i c.args.numbers.now)) none)
