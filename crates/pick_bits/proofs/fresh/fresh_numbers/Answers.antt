use Rattle.std.proofs.Common.{◌≡◌, ◌∙◌, ◌+◌, ◌++◌, ◌∷◌, [], ℕ, map, take, ap, subst, sym}
use Rattle.bit_words.specs.Later.{AddsVariables, adds_trans, owned_later, values_from}
use Rattle.sym_values.specs.Later.{words_later}
use Rattle.sym_values.specs.Owned.{owns_one_more}
use Rattle.sym_values.proofs.Held.{pushed_read, take_read}
use Rattle.pick_bits.specs.MemberWords.{member_words}
use Rattle.input_space.specs.SelectionBits.{all_member_bits, member_bits}
use Rattle.pick_bits.proofs.MemberWords.{all_bits_more, member_words_more}
use Rattle.pick_bits.proofs.fresh.fresh_numbers.Goals as goal

pub loop-pick-preserved : goal.loop-pick-preserved
loop-pick-preserved g c =
    let v = g.V.Logic in
    let before = c.loop-pick.invariant in
    let keeps = c.fresh_bits.ensures.keeps in
    let made = c.in_ok-number.ensures.made in
    let ns = c.args.counts.now in
    let i = c.loop-pick.pick in
    let n = c.in_ok-members.members in
    let start = v.count c.args.g.now in
    let next : take (i + 1) ns ≡ take i ns ++ n ∷ [] =
    take_read ns i n c.in_ok-members.ensures.many in
    let pushed = c.in_ok-push.ensures.items in
    let width : c.member_bits.result ≡ member_bits n = c.member_bits.ensures.value in
    let many : all_member_bits (take i ns ++ n ∷ [])
    ≡ all_member_bits (take i ns) + member_bits n = all_bits_more (take i ns) n in
    let whole : all_member_bits (take i ns) + c.member_bits.result
    ≡ all_member_bits (take (i + 1) ns) =
    ap (λ k. all_member_bits (take i ns) + k) width ∙ sym many ∙ ap all_member_bits (sym next) in
    let place : v.count c.loop-pick.g ≡ start + all_member_bits (take i ns) =
    before.adds.variables in
    record {
      adds = subst
          (λ (k : ℕ). AddsVariables v.owns v.reads v.count k c.args.g.now c.fresh_bits.new.g) whole
          (adds_trans before.adds c.in_ok-number.ensures.adds);
      owned = owns_one_more (λ w. w) c.loop-pick.numbers.items _ c.in_ok-number.number
          (owned_later keeps before.owned) made.owned pushed;
      value = λ vs.
          let one : map (v.reads c.fresh_bits.new.g vs) c.in_ok-number.number
          ≡ values_from vs (start + all_member_bits (take i ns)) (member_bits n) =
          c.in_ok-number.ensures.value vs ∙ ap (λ k. values_from vs k c.member_bits.result) place
          ∙ ap (λ k. values_from vs (start + all_member_bits (take i ns)) k) width in
          let read : map (map (v.reads c.fresh_bits.new.g vs)) c.push.new.self.items
          ≡ member_words (take i ns) vs start ++ values_from vs
          (start + all_member_bits (take i ns)) (member_bits n) ∷ [] =
          pushed_read (map (v.reads c.loop-pick.g vs)) (map (v.reads c.fresh_bits.new.g vs))
          c.loop-pick.numbers.items _ c.in_ok-number.number _ _
          (words_later keeps c.loop-pick.numbers.items before.owned vs) (before.value vs) one
          pushed in
          read
          ∙ sym (member_words_more (take i ns) n vs start)
          ∙ ap (λ ms. member_words ms vs start) (sym next);
    }
