use Rattle.std.proofs.Common.{◌≡◌, ◌∙◌, ◌+◌, ◌-◌, ◌*◌, [], ℕ, ap, sym, length, map, take, drop, ltb, arith, subst, List, Bool}
use Rattle.std.proofs.lemmas.List.{length-map, drop_all, take_all}
use Rattle.bit_words.specs.Logic.{OwnsAll, extends_trans, extends_refl}
use Rattle.bit_words.specs.Words.{nat_of, IsUnsigned}
use Rattle.bit_words.proofs.Kept.{owns_none, owns_read, owns_kept, owns_taken, reads_kept, drop_read}
use Rattle.bit_words.proofs.Products.{no_digits, some_more}
use Rattle.bit_words.proofs.product.product.Goals as goal

pub loop-k-init : goal.loop-k-init
loop-k-init g c =
    let first = g.L.Logic.reads c.args.g.now in
    let width = c.len-width.result in
    let no = c.constant-no.ensures in
    let none : (vs : List Bool) → drop (width - 0) (map (first vs) c.args.b.now) ≡ [] = λ vs. drop_all (width - 0) (map (first vs) c.args.b.now) (simp length-map (omega arith)) in
    record {
      extends = extends_refl;
      width = ap length c.new-nothing.ensures;
      owned = subst (OwnsAll g.L.Logic.owns c.args.g.now) (sym c.new-nothing.ensures) owns_none;
      owned_over = no.owned;
      owned_some = no.owned;
      some = λ vs. no.value vs ∙ ap (λ v. ltb 0 (nat_of v)) (sym (none vs));
      value = λ vs.
          let nothing : nat_of (map (first vs) (take 0 c.args.a.now)) * nat_of (drop (width - 0) (map (first vs) c.args.b.now)) ≡ 0 = rw (none vs) (omega arith) in
          subst (λ w. IsUnsigned 0 (nat_of (map (first vs) (take 0 c.args.a.now)) * nat_of (drop (width - 0) (map (first vs) c.args.b.now))) (nat_of (map (first vs) w)) (first vs c.constant-no.result)) (sym c.new-nothing.ensures)
          (no_digits _ _ nothing (no.value vs));
    }

pub loop-k-preserved : goal.loop-k-preserved
loop-k-preserved g c =
    let reads = g.L.Logic.reads in
    let k = c.loop-k.k in
    let width = c.len-width.result in
    let before = c.loop-k.invariant in
    let one = c.add_row.ensures.extends in
    let two = c.or.ensures.extends in
    let more = c.in_ok-sum.ensures in
    let digit_owned = owns_read _ c.requires.right c.at-digit.ensures in
    record {
      extends = extends_trans before.extends (extends_trans one two);
      width = more.made.width;
      owned = owns_kept two more.made.owned;
      owned_over = two.kept _ more.made.owned_over;
      owned_some = c.in_ok-some.ensures.owned;
      some = λ vs.
          let first = reads c.args.g.now vs in
          let e = nat_of (drop (width - k) (map first c.args.b.now)) in
          let digit = one.same _ (before.extends.kept _ digit_owned) vs ∙ before.extends.same _ digit_owned vs in
          let some = one.same _ before.owned_some vs in
          let step = drop_read first c.args.b.now (width - 1 - k) c.at-digit.result c.at-digit.ensures in
          let here : width - (k + 1) ≡ width - 1 - k = omega arith in
          let next : width - 1 - k + 1 ≡ width - k = omega arith in
          let now = rw (some, digit) at (c.in_ok-some.ensures.value vs) in
          rw (now, here, step, next) (some_more (first c.at-digit.result) e (reads c.loop-k.g vs c.loop-k.higher.some) (before.some vs));
      value = λ vs.
          let first = reads c.args.g.now vs in
          let e = nat_of (drop (width - k) (map first c.args.b.now)) in
          let digit = before.extends.same _ digit_owned vs in
          let step = drop_read first c.args.b.now (width - 1 - k) c.at-digit.result c.at-digit.ensures in
          let here : width - (k + 1) ≡ width - 1 - k = omega arith in
          let next : width - 1 - k + 1 ≡ width - k = omega arith in
          let back : k + 1 - 1 ≡ k = omega arith in
          let low = reads_kept before.extends (owns_taken k c.requires.left) vs in
          let low_more = reads_kept before.extends (owns_taken (k + 1) c.requires.left) vs in
          let sum_kept = reads_kept two more.made.owned vs in
          let over_kept = two.same _ more.made.owned_over vs in
          let so_far : IsUnsigned (k + 1 - 1) (nat_of (map (reads c.loop-k.g vs) (take (k + 1 - 1) c.args.a.now)) * e) (nat_of (map (reads c.loop-k.g vs) c.loop-k.higher.number)) (reads c.loop-k.g vs c.loop-k.higher.over) = rw (back, low) (before.value vs) in
          let now = more.value vs e (before.some vs) so_far in
          rw (here, step, next, sum_kept, over_kept) (rw (low_more, digit) at now);
    }

pub returns-clause-value : goal.returns-clause-value
returns-clause-value g c vs =
    let first = g.L.Logic.reads c.args.g.now vs in
    let width = c.len-width.result in
    let last : c.loop-k.k ≡ width = omega arith in
    let all = take_all width c.args.a.now (omega arith) in
    let none : width - width ≡ 0 = omega arith in
    let size : width ≡ length c.args.a.now = omega arith in
    let whole = rw (last, all, none) at (c.loop-k.invariant.value vs) in
    subst (λ (k : ℕ). IsUnsigned k (nat_of (map first c.args.a.now) * nat_of (map first c.args.b.now)) (nat_of (map (g.L.Logic.reads c.loop-k.g vs) c.loop-k.higher.number)) (g.L.Logic.reads c.loop-k.g vs c.loop-k.higher.over)) size whole

pub add_row-requires-clause-factor : goal.add_row-requires-clause-factor
add_row-requires-clause-factor g c = owns_kept c.loop-k.invariant.extends c.requires.left

pub add_row-requires-clause-digit : goal.add_row-requires-clause-digit
add_row-requires-clause-digit g c = c.loop-k.invariant.extends.kept _ (owns_read _ c.requires.right c.at-digit.ensures)

pub add_row-requires-clause-higher : goal.add_row-requires-clause-higher
add_row-requires-clause-higher g c = c.loop-k.invariant.owned

pub add_row-requires-clause-over : goal.add_row-requires-clause-over
add_row-requires-clause-over g c = c.loop-k.invariant.owned_over

pub add_row-requires-clause-some : goal.add_row-requires-clause-some
add_row-requires-clause-some g c = c.loop-k.invariant.owned_some

pub returns-in_err-sum-clause-extends : goal.returns-in_err-sum-clause-extends
returns-in_err-sum-clause-extends g c = extends_trans c.loop-k.invariant.extends c.add_row.ensures.extends

pub or-requires : goal.or-requires
or-requires g c = record { left = c.add_row.ensures.extends.kept _ c.loop-k.invariant.owned_some; right = c.add_row.ensures.extends.kept _ (c.loop-k.invariant.extends.kept _ (owns_read _ c.requires.right c.at-digit.ensures)) }

pub returns-in_err-some-clause-extends : goal.returns-in_err-some-clause-extends
returns-in_err-some-clause-extends g c = extends_trans c.loop-k.invariant.extends (extends_trans c.add_row.ensures.extends c.or.ensures.extends)

pub returns-clause-extends : goal.returns-clause-extends
returns-clause-extends g c = c.loop-k.invariant.extends

pub returns-clause-made : goal.returns-clause-made
returns-clause-made g c = record {
  owned = c.loop-k.invariant.owned;
  owned_over = c.loop-k.invariant.owned_over;
  width = omega (arith, c.loop-k.invariant.width);
}
