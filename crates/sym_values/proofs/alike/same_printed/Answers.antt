use Rattle.std.proofs.Common.{◌≤◌, arith, length, map}
use Rattle.std.specs.declared.result.Result.TheVariants.{Ok}
use Rattle.bit_words.specs.Logic.{extends_keeps, extends_trans}
use Rattle.bit_words.specs.Words.{nat_of}
use Rattle.mpy_tree.specs.declared.outcome.Halted.{Halted}
use Rattle.sym_values.specs.DoneLater.{done_later, slot_in_later}
use Rattle.sym_values.specs.Printed.{slot_read}
use Rattle.sym_values.specs.Reading.{sure}
use Rattle.sym_values.proofs.Ends.{alike_at, alike_first, alike_more, alike_whole, as_another, read_at, read_within, slot_in}
use Rattle.sym_values.proofs.alike.same_printed.Goals as goal

pub same_or_past-requires-clause-left : goal.same_or_past-requires-clause-left
same_or_past-requires-clause-left g c = slot_in_later (extends_keeps c.loop-i.invariant.extends) (slot_in c.loop-i.i c.at-first.result.now c.requires.first c.at-first.ensures)

pub same_or_past-requires-clause-right : goal.same_or_past-requires-clause-right
same_or_past-requires-clause-right g c = slot_in_later (extends_keeps c.loop-i.invariant.extends) (slot_in c.loop-i.i c.at-second.result.now c.requires.second c.at-second.ensures)

pub loop-i-init : goal.loop-i-init
loop-i-init g c = record {
  extends = c.equal_bits.ensures.extends;
  owned = c.in_ok-same.ensures.owned;
  value = λ vs x y h k. alike_first (g.L.Logic.reads c.equal_bits.new.g vs c.in_ok-same.same) _ _ x.printed y.printed (rw (c.as_slice.ensures, c.as_slice-2.ensures) at (c.in_ok-same.ensures.value vs)) h.2 k.2;
}

pub loop-i-preserved : goal.loop-i-preserved
loop-i-preserved g c =
    let reads = g.L.Logic.reads in
    let before = c.loop-i.invariant in
    let one = c.same_or_past.ensures.extends in
    let keeps = extends_keeps before.extends in
    let a = c.args.a.now in
    let b = c.args.b.now in
    let l = c.args.limits.now in
    record {
      extends = extends_trans (extends_trans before.extends one) c.and.ensures.extends;
      owned = c.in_ok-same-2.ensures.owned;
      value = λ vs x y h k.
          let rd = reads c.loop-i.g vs in
          let left = done_later a keeps c.requires.first vs {E = Halted} (Ok x) h in
          let right = done_later b keeps c.requires.second vs {E = Halted} (Ok y) k in
          let fine = reads c.same_or_past.new.g vs c.in_ok-fine.fine in
          let kept = one.same c.loop-i.same before.owned vs in
          alike_more (reads c.same_or_past.new.g vs c.loop-i.same) fine (reads c.and.new.self vs c.in_ok-same-2.same) c.loop-i.i x.printed y.printed
          (as_another (reads c.same_or_past.new.g vs c.loop-i.same) (rd c.loop-i.same) kept (before.value vs x y h k))
          (alike_at fine (nat_of (map rd a.len)) c.loop-i.i x.printed y.printed left.2 (λ p. c.in_ok-fine.ensures.past vs p)
          (λ v w i p q. c.in_ok-fine.ensures.value vs v w i
          (read_at (slot_read l rd) sure (nat_of (map rd a.len)) a.slots x.printed c.loop-i.i c.at-first.result.now v left.3 c.at-first.ensures p)
          (read_at (slot_read l rd) sure (nat_of (map rd b.len)) b.slots y.printed c.loop-i.i c.at-second.result.now w right.3 c.at-second.ensures q)))
          (c.in_ok-same-2.ensures.value vs);
    }

pub returns-clause-value : goal.returns-clause-value
returns-clause-value g c vs x y h k =
    let rd = g.L.Logic.reads c.args.g.now vs in
    let a = c.args.a.now in
    let most = read_within (slot_read c.args.limits.now rd) sure (nat_of (map rd a.len)) a.slots x.printed h.3 in
    let end : length x.printed ≤ c.loop-i.i = omega arith in
    alike_whole (g.L.Logic.reads c.loop-i.g vs c.loop-i.same) c.loop-i.i x.printed y.printed end (c.loop-i.invariant.value vs x y h k)
