use Rattle.std.proofs.Common.{◌∙◌, ap, sym, refl, ◌∷◌, [], ◌++◌}
use Rattle.bit_words.specs.Logic.{extends_trans, extends_refl, extends_keeps}
use Rattle.sym_paths.specs.Later.{path_bit, paths_later, way_later, ways_later}
use Rattle.sym_paths.specs.Paths.{gone_way, ways, way}
use Rattle.sym_paths.proofs.Joins.{ways_last}
use Rattle.sym_paths.proofs.Lists.{holds_append, holds_front, holds_last, holds_one}
use Rattle.sym_paths.proofs.join.join_all.Goals as goal

pub loop-path-init : goal.loop-path-init
loop-path-init g c =
    let slots = c.args.slots.now in
    let reads = g.L.Logic.reads in
    let split = c.in-Some.ensures.some in
    record {
      extends = extends_refl;
      held = holds_last _ c.requires split;
      rest = holds_front _ c.requires split;
      value = λ vs. ap (λ l. gone_way slots (ways (reads c.args.g.now vs) l)) (sym split);
    }

pub join_known-requires-clause-first : goal.join_known-requires-clause-first
join_known-requires-clause-first g c =
    holds_last _ c.loop-path.invariant.rest c.in-Some-pop.ensures.some

pub loop-path-preserved : goal.loop-path-preserved
loop-path-preserved g c =
    let reads = g.L.Logic.reads in
    let slots = c.args.slots.now in
    let before = c.loop-path.invariant in
    let step = extends_keeps c.join_known.ensures.extends in
    let split = c.in-Some-pop.ensures.some in
    let path = c.in-Some-pop.path in
    let joined = c.loop-path.joined in
    let first = holds_last _ before.rest split in
    let all_held = holds_append before.rest (holds_one before.held) refl in
    record {
      extends = extends_trans before.extends c.join_known.ensures.extends;
      held = c.in_ok-joined.ensures.held;
      rest = paths_later step (holds_front _ before.rest split);
      value = λ vs.
          let old = reads c.loop-path.g vs in
          let new = reads c.join_known.new.g vs in
          let left = ap (λ w. gone_way slots (w ∷ way old joined ∷ []))
          (way_later step first vs) in
          let right = ap (λ w. gone_way slots (way new path ∷ w ∷ []))
          (way_later step before.held vs) in
          let one = c.in_ok-joined.ensures.value vs ∙ sym left ∙ sym right in
          let all = ap (λ l. gone_way slots (ways new (l ++ joined ∷ []))) (sym split) in
          let kept = ap (gone_way slots) (ways_later step all_held vs) in
          ways_last slots new c.pop-in-loop-path.new.self path joined c.in_ok-joined.joined one
          ∙ all ∙ kept ∙ before.value vs;
    }

pub known-requires : goal.known-requires
known-requires g c = path_bit c.loop-path.invariant.held
