use Rattle.std.proofs.Common.{◌≡◌, ◌+◌, ◌++◌, suc, map, drop, get_or, sym, ap, ◌∙◌}
use Rattle.std.proofs.Common.{arith, rules}
use Rattle.std.proofs.lemmas.List.{append-nil, drop_more, drop_all}
use Rattle.selection_numbers.specs.Numbers.{selection_from}
use Rattle.selection_numbers.proofs.Digits.{one_digit}
use Rattle.selection_numbers.proofs.member_counts.MemberCounts.selection.Goals as goal

pub loop-pick-init : goal.loop-pick-init
loop-pick-init c =
    ap (λ s. s ++ selection_from 0 (map suc c.deref-others-items.result.now) c.args.number)
    (sym c.new-chosen.ensures.items)

pub loop-pick-preserved : goal.loop-pick-preserved
loop-pick-preserved c =
    let xs = c.deref-others-items.result.now in
    let p = c.loop-pick.pick in
    let now = c.loop-pick.chosen.items in
    let all = selection_from 0 (map suc xs) c.args.number in
    let put = c.in_ok-push_member.ensures in
    one_digit all now c.push_member.new.chosen.items (drop (p + 1) xs) p (p + 1) (get_or xs p 0)
    c.lowest_digit-member.result.0 c.lowest_digit-member.result.1 c.loop-pick.rest (omega arith)
    (put) c.lowest_digit-member.ensures.lowest c.lowest_digit-member.ensures.higher
    (c.loop-pick.invariant
    ∙ ap (λ ys. now ++ selection_from p (map suc ys) c.loop-pick.rest)
    (drop_more xs p 0 c.loop-pick-test.true))

pub returns : goal.returns
returns c =
    let xs = c.deref-others-items.result.now in
    let p = c.loop-pick.pick in
    let now = c.loop-pick.chosen.items in
    let seen : map suc xs ≡ c.args.self.now = search rules in
    c.from_vec.ensures
    ∙ sym (c.loop-pick.invariant
    ∙ ap (λ ys. now ++ selection_from p (map suc ys) c.loop-pick.rest)
    (drop_all p xs c.loop-pick-test.false)
    ∙ append-nil now)
    ∙ ap (λ v. selection_from 0 v c.args.number) seen
