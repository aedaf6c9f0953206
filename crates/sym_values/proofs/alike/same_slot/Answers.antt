use Rattle.std.proofs.Common.{◌≡◌, ◌<◌, ◌∙◌, ap, arith, sym}
use Rattle.bit_words.specs.Logic.{extends_keeps, extends_trans}
use Rattle.bit_words.specs.Words.{nat_of, nat_read}
use Rattle.bit_words.proofs.Integers.{nat_read_below}
use Rattle.sym_values.specs.DoneLater.{slot_in_later}
use Rattle.sym_values.specs.Printed.{kind_of, type_of_kind}
use Rattle.sym_values.proofs.Ends.{as_another, found_more, kind_there, none_more, slots_alike}
use Rattle.sym_values.proofs.Held.{reads_kept}
use Rattle.sym_values.proofs.alike.same_slot.Goals as goal

pub same_of_type-requires-clause-left : goal.same_of_type-requires-clause-left
same_of_type-requires-clause-left g c = slot_in_later (extends_keeps c.loop-kind.invariant.extends) c.requires.left

pub same_of_type-requires-clause-right : goal.same_of_type-requires-clause-right
same_of_type-requires-clause-right g c = slot_in_later (extends_keeps c.loop-kind.invariant.extends) c.requires.right

pub loop-kind-preserved : goal.loop-kind-preserved
loop-kind-preserved g c =
    let reads = g.L.Logic.reads in
    let before = c.loop-kind.invariant in
    let one = c.same_of_type.ensures.extends in
    let i = c.loop-kind.kind in
    let number : kind_of c.type_numbered.result ≡ i = ap kind_of c.type_numbered.ensures ∙ kind_there i (omega arith) in
    record {
      extends = extends_trans (extends_trans before.extends one) c.or.ensures.extends;
      owned = c.in_ok-same.ensures.owned;
      none = λ vs h.
          let kind = ap nat_of (reads_kept before.extends c.requires.left.owned_kind vs) in
          none_more (reads c.same_of_type.new.g vs c.loop-kind.same) (reads c.same_of_type.new.g vs c.in_ok-here.here) (reads c.or.new.g vs c.in_ok-same.same)
          (nat_read reads c.args.g.now vs c.args.a.now.kind) i
          (λ l. one.same c.loop-kind.same before.owned vs ∙ before.none vs l) (λ n. c.in_ok-here.ensures.other vs (λ e. n (sym kind ∙ e ∙ number))) (c.in_ok-same.ensures.value vs) h;
      found = λ vs v w h p q.
          let kind = ap nat_of (reads_kept before.extends c.requires.left.owned_kind vs) in
          let left = reads_kept before.extends c.requires.left.owned_bits vs in
          let right = reads_kept before.extends c.requires.right.owned_bits vs in
          let k = nat_read reads c.args.g.now vs c.args.a.now.kind in
          let kept = one.same c.loop-kind.same before.owned vs in
          found_more (reads c.same_of_type.new.g vs c.loop-kind.same) (reads c.same_of_type.new.g vs c.in_ok-here.here) (reads c.or.new.g vs c.in_ok-same.same) k i
          (λ l. kept ∙ before.none vs l)
          (λ l. as_another (reads c.same_of_type.new.g vs c.loop-kind.same) (reads c.loop-kind.g vs c.loop-kind.same) kept (before.found vs v w l p q))
          (λ n. c.in_ok-here.ensures.other vs (λ e. n (sym kind ∙ e ∙ number)))
          (λ e.
          let ty : c.type_numbered.result ≡ type_of_kind k = c.type_numbered.ensures ∙ ap type_of_kind (sym e) in
          c.in_ok-here.ensures.value vs v w (kind ∙ e ∙ sym number) (rw (ty, left) p) (rw (ty, right) q))
          (c.in_ok-same.ensures.value vs) h;
    }

pub returns-clause-value : goal.returns-clause-value
returns-clause-value g c vs v w p q =
    let reads = g.L.Logic.reads in
    let rd = reads c.args.g.now vs in
    let before = c.loop-kind.invariant in
    let kept = c.equal_bits.ensures.extends.same c.loop-kind.same before.owned vs in
    let left = reads_kept before.extends c.requires.left.owned_kind vs in
    let right = reads_kept before.extends c.requires.right.owned_kind vs in
    let below = nat_read_below rd c.args.a.now.kind 2 c.requires.left.kind in
    let other = nat_read_below rd c.args.b.now.kind 2 c.requires.right.kind in
    let end : c.loop-kind.kind ≡ 4 = omega arith in
    let reached : nat_read reads c.args.g.now vs c.args.a.now.kind < c.loop-kind.kind = rw end below in
    slots_alike c.args.limits.now rd c.args.a.now c.args.b.now (reads c.equal_bits.new.g vs c.in_ok-one_type.one_type) (reads c.equal_bits.new.g vs c.loop-kind.same) (reads c.and.new.self vs c.in_ok-both.both) v w below other
    (rw (c.as_slice.ensures, c.as_slice-2.ensures, left, right) at (c.in_ok-one_type.ensures.value vs))
    (λ r. as_another (reads c.equal_bits.new.g vs c.loop-kind.same) (reads c.loop-kind.g vs c.loop-kind.same) kept (before.found vs v w reached p r))
    (c.in_ok-both.ensures.value vs) p q
