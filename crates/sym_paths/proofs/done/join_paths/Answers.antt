use Rattle.std.proofs.Common.{◌∙◌, ap, sym}
use Rattle.bit_words.specs.Logic.{extends_keeps, extends_trans}
use Rattle.sym_paths.specs.Endings.{or_other}
use Rattle.sym_paths.specs.Ends.{first_end, met}
use Rattle.sym_paths.specs.Later.{paths_later, ways_later}
use Rattle.sym_paths.specs.Paths.{ways}
use Rattle.sym_paths.proofs.Endings.{end_kept}
use Rattle.sym_paths.proofs.Lists.{holds_front, holds_last}
use Rattle.sym_paths.proofs.done.join_paths.Goals as goal

pub end_on-requires : goal.end_on-requires
end_on-requires g c = holds_last _ c.loop-path.invariant.rest c.in-Some.ensures.some

pub loop-path-preserved : goal.loop-path-preserved
loop-path-preserved g c =
    let reads = g.L.Logic.reads in
    let slots = c.args.slots.now in
    let before = c.loop-path.invariant in
    let step = extends_keeps c.join_ended_known.ensures.extends in
    let split = c.in-Some.ensures.some in
    let path = c.in-Some.path in
    let left = c.pop.new.self in
    let rest = holds_front path before.rest split in
    record {
      extends = extends_trans before.extends c.join_ended_known.ensures.extends;
      held = c.in_ok-joined.ensures.held;
      rest = paths_later step rest;
      value = λ vs. end_kept slots (reads c.loop-path.g vs)
          (reads c.join_ended_known.new.g vs) left c.loop-path.paths path
          (met slots.limits (reads c.loop-path.g vs) c.loop-path.joined)
          (c.in_ok-joined.ensures.value vs) (c.in_ok-end.ensures.value vs)
          (ways_later step rest vs) split (before.value vs);
    }

pub returns-clause-value : goal.returns-clause-value
returns-clause-value g c vs =
    let slots = c.args.slots.now in
    let rd = g.L.Logic.reads c.loop-path.g vs in
    let none = c.in_default.ensures.none in
    ap (λ ps. or_other (first_end slots (ways rd ps)) (met slots.limits rd c.loop-path.joined))
    (sym none)
    ∙ c.loop-path.invariant.value vs
