use Rattle.std.proofs.Common.{◌≡◌, ◌∙◌, ◌+◌, ◌-◌, [], ap, sym, length, map, drop, not, arith, subst, List, Bool}
use Rattle.std.proofs.lemmas.List.{length-map, drop_all}
use Rattle.bit_words.specs.Logic.{OwnsAll, extends_trans}
use Rattle.bit_words.specs.Words.{bit_value, nat_of}
use Rattle.bit_words.proofs.Kept.{owns_none, owns_read, owns_kept, owns_low_push, reads_kept, drop_read}
use Rattle.bit_words.proofs.Signs.{nat_zeros}
use Rattle.bit_words.proofs.Quotients.{not_zero, is_some, is_none, divided_more, divided_none, quotient_is}
use Rattle.bit_words.proofs.quotient.divide.Goals as goal

pub loop-k-init : goal.loop-k-init
loop-k-init g c =
    let first = g.L.Logic.reads c.args.g.now in
    let next = g.L.Logic.reads c.is_zero.new.g in
    let width = c.len-width.result in
    let none : (vs : List Bool) → drop (width - 0) (map (first vs) c.args.a.now) ≡ [] = λ vs. drop_all (width - 0) (map (first vs) c.args.a.now) (simp length-map (omega arith)) in
    let empty : (vs : List Bool) → nat_of (map (next vs) c.new-quotient.result) ≡ 0 = λ vs. ap (λ w. nat_of (map (next vs) w)) c.new-quotient.ensures in
    record {
      extends = c.is_zero.ensures.extends;
      width = ap length c.new-quotient.ensures;
      width_rest = c.in_ok-rest.ensures.made.width;
      owned = subst (OwnsAll g.L.Logic.owns c.is_zero.new.g) (sym c.new-quotient.ensures) owns_none;
      owned_rest = c.in_ok-rest.ensures.made.owned;
      owned_some = c.not-some.ensures.owned;
      some = λ vs. c.not-some.ensures.value vs ∙ ap not (c.in_ok-none.ensures.value vs) ∙ not_zero (nat_of (map (first vs) c.args.b.now));
      none = λ vs h. empty vs;
      value = λ vs some. divided_none _ _ _ _ (ap nat_of (none vs)) (empty vs) (ap nat_of (c.in_ok-rest.ensures.value vs) ∙ nat_zeros width) some;
    }

pub loop-k-preserved : goal.loop-k-preserved
loop-k-preserved g c =
    let reads = g.L.Logic.reads in
    let k = c.loop-k.k in
    let width = c.len-width.result in
    let before = c.loop-k.invariant in
    let step = c.divide_digit.ensures.extends in
    let more = c.in_ok-left.ensures in
    let digit_owned = owns_read _ c.requires.left c.at-digit.ensures in
    let pushed = c.in_ok-push_low.ensures.ok in
    let quotient : (vs : List Bool) → nat_of (map (reads c.divide_digit.new.g vs) c.push_low.new.self) ≡ bit_value (reads c.divide_digit.new.g vs c.in_ok-left.taken) + (nat_of (map (reads c.loop-k.g vs) c.loop-k.quotient) + nat_of (map (reads c.loop-k.g vs) c.loop-k.quotient))
    = λ vs. ap (λ w. nat_of (map (reads c.divide_digit.new.g vs) w)) pushed
    ∙ ap (λ (w : List Bool). bit_value (reads c.divide_digit.new.g vs c.in_ok-left.taken) + (nat_of w + nat_of w)) (reads_kept step before.owned vs) in
    let divisor : (vs : List Bool) → nat_of (map (reads c.loop-k.g vs) c.args.b.now) ≡ nat_of (map (reads c.args.g.now vs) c.args.b.now) = λ vs. ap nat_of (reads_kept before.extends c.requires.right vs) in
    record {
      extends = extends_trans before.extends step;
      width = ap length pushed ∙ omega arith;
      width_rest = more.width ∙ omega arith;
      owned = owns_low_push more.owned_digit (owns_kept step before.owned) pushed;
      owned_rest = more.owned;
      owned_some = step.kept _ before.owned_some;
      some = λ vs. step.same _ before.owned_some vs ∙ before.some vs;
      none = λ vs h.
          let taken = more.none vs (is_none _ _ h (before.some vs)) in
          let q = before.none vs h in
          quotient vs ∙ rw (taken, q) (omega arith);
      value = λ vs some.
          let first = reads c.args.g.now vs in
          let digit = before.extends.same _ digit_owned vs in
          let from = drop_read first c.args.a.now (width - 1 - k) c.at-digit.result c.at-digit.ensures in
          let here : width - (k + 1) ≡ width - 1 - k = omega arith in
          let next : width - 1 - k + 1 ≡ width - k = omega arith in
          let so_far = before.value vs some in
          let one = more.value vs (is_some _ _ some (before.some vs)) (rw (divisor vs) (c.requires.half vs)) (rw (divisor vs) so_far.below) in
          let all = divided_more (bit_value (first c.at-digit.result)) _ _ _ _ (bit_value (reads c.divide_digit.new.g vs c.in_ok-left.taken)) _ so_far (rw (divisor vs, digit) at one) in
          rw (here, from, next, quotient vs) all;
    }

pub returns-clause-quotient : goal.returns-clause-quotient
returns-clause-quotient g c vs =
    let last : c.loop-k.k ≡ c.len-width.result = omega arith in
    let none : c.len-width.result - c.len-width.result ≡ 0 = omega arith in
    quotient_is _ _ _ _ (c.loop-k.invariant.none vs) (λ some. rw (last, none) at (c.loop-k.invariant.value vs some))

pub returns-clause-rest : goal.returns-clause-rest
returns-clause-rest g c vs some =
    let last : c.loop-k.k ≡ c.len-width.result = omega arith in
    let none : c.len-width.result - c.len-width.result ≡ 0 = omega arith in
    rw (last, none) at (c.loop-k.invariant.value vs some)

pub returns-in_err-rest-clause-extends : goal.returns-in_err-rest-clause-extends
returns-in_err-rest-clause-extends g c = c.is_zero.ensures.extends

pub divide_digit-requires : goal.divide_digit-requires
divide_digit-requires g c = record { long = omega arith; alike = omega arith; rest = c.loop-k.invariant.owned_rest; digit = c.loop-k.invariant.extends.kept _ (owns_read _ c.requires.left c.at-digit.ensures); divisor = owns_kept c.loop-k.invariant.extends c.requires.right; some = c.loop-k.invariant.owned_some }

pub returns-in_err-left-clause-extends : goal.returns-in_err-left-clause-extends
returns-in_err-left-clause-extends g c = extends_trans c.loop-k.invariant.extends c.divide_digit.ensures.extends

pub returns-in_err-push_low-clause-extends : goal.returns-in_err-push_low-clause-extends
returns-in_err-push_low-clause-extends g c = extends_trans c.loop-k.invariant.extends c.divide_digit.ensures.extends

pub returns-clause-extends : goal.returns-clause-extends
returns-clause-extends g c = c.loop-k.invariant.extends

pub returns-clause-owned : goal.returns-clause-owned
returns-clause-owned g c = c.loop-k.invariant.owned

pub returns-clause-owned_rest : goal.returns-clause-owned_rest
returns-clause-owned_rest g c = c.loop-k.invariant.owned_rest
