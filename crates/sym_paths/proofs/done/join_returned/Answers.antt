use Rattle.std.proofs.Common.{◌∙◌, ap, map, sym}
use Rattle.bit_words.specs.Logic.{extends_keeps, extends_trans}
use Rattle.sym_paths.specs.Endings.{or_other}
use Rattle.sym_paths.specs.Ends.{met}
use Rattle.sym_paths.specs.Later.{all_given_later, all_handed_later}
use Rattle.sym_paths.specs.Paths.{first_handed, handed}
use Rattle.sym_paths.proofs.Endings.{return_kept}
use Rattle.sym_paths.proofs.Lists.{given_front, given_last}
use Rattle.sym_paths.proofs.done.join_returned.Goals as goal

pub end_by-end-requires : goal.end_by-end-requires
end_by-end-requires g c = given_last _ c.loop-given.invariant.rest c.in-Some.ensures.some

pub loop-given-preserved : goal.loop-given-preserved
loop-given-preserved g c =
    let reads = g.L.Logic.reads in
    let l = c.args.slots.now.limits in
    let before = c.loop-given.invariant in
    let step = extends_keeps c.join_ended_known.ensures.extends in
    let split = c.in-Some.ensures.some in
    let given = c.in-Some.given in
    let left = c.pop.new.self in
    let rest = given_front given before.rest split in
    record {
      extends = extends_trans before.extends c.join_ended_known.ensures.extends;
      held = c.in_ok-joined.ensures.held;
      rest = all_given_later step rest;
      value = λ vs. return_kept l (reads c.loop-given.g vs) (reads c.join_ended_known.new.g vs)
          left c.loop-given.all given (met l (reads c.loop-given.g vs) c.loop-given.joined)
          (c.in_ok-joined.ensures.value vs)
          (c.end_by-end.ensures.value vs) (all_handed_later step rest vs) split (before.value vs);
    }

pub returns-clause-value : goal.returns-clause-value
returns-clause-value g c vs =
    let l = c.args.slots.now.limits in
    let rd = g.L.Logic.reads c.loop-given.g vs in
    let none = c.in_default.ensures.none in
    ap (λ xs. or_other (first_handed l (map (handed rd) xs)) (met l rd c.loop-given.joined))
    (sym none)
    ∙ c.loop-given.invariant.value vs
