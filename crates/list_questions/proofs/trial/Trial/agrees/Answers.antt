-- a program agrees on the kept cases, or fails on one
use Rattle.std.proofs.Common.{◌≡◌, ◌<◌, length, refl, subst, true}
use Rattle.std.specs.Prelude.{slice_index_or}
use Rattle.std.proofs.lemmas.List.Elements.{All-contains}
use Rattle.std.proofs.lemmas.Option.{slice_get-get_or, slice_get_read}
use Rattle.mpy_tree.specs.View.{routines_of}
use Rattle.input_space.specs.TaskParts.{task_with}
use Rattle.input_space.specs.TaskSpace.{Meets}
use Rattle.input_space.proofs.Elements.{contained_at, each_more, each_of_all}
use Rattle.list_questions.proofs.TableLaws.{end_on, ends_length}
use Rattle.list_questions.proofs.trial.Trial.agrees.Goals as goal

pub meets-requires : goal.meets-requires
meets-requires c =
    let xs = c.args.self.now.kept.now in
    let here = slice_get_read xs (length xs) c.loop-i.i c.case-item.result refl c.loop-i-test.true c.case-item.is in
    let ends = c.args.self.now.ends.now in
    let within = subst (λ n. c.loop-i.i < n) (ends_length (task_with c.args.self.now.runs.task.now) xs ends c.requires) c.loop-i-test.true in
    end_on (task_with c.args.self.now.runs.task.now) xs ends c.loop-i.i c.case-item.result (slice_index_or ends c.loop-i.i c.index-self-i.result) c.requires here
    (slice_get-get_or ends c.loop-i.i c.index-self-i.result within)

pub returns-then-not-branch : goal.returns-then-not-branch
returns-then-not-branch c =
    let k = task_with c.args.self.now.runs.task.now in
    let xs = c.args.self.now.kept.now in
    let x = c.case-item.result in
    let here = slice_get_read xs (length xs) c.loop-i.i x refl c.loop-i-test.true c.case-item.is in (
      λ t. cc,
      λ all.
          let met = All-contains (Meets k (routines_of c.args.program.now)) xs x all (contained_at xs c.loop-i.i x here) in
          let holds : c.in_ok-meets.field-0 ≡ true = c.in_ok-meets.ensures.1 met in
          cc,
    )

pub loop-i-preserved : goal.loop-i-preserved
loop-i-preserved c =
    let k = task_with c.args.self.now.runs.task.now in
    let xs = c.args.self.now.kept.now in
    let x = c.case-item.result in
    let here = slice_get_read xs (length xs) c.loop-i.i x refl c.loop-i-test.true c.case-item.is in
    each_more (Meets k (routines_of c.args.program.now)) xs c.loop-i.i x c.loop-i.invariant here (c.in_ok-meets.ensures.0 c.if-not-branch.false)

pub returns : goal.returns
returns c =
    let k = task_with c.args.self.now.runs.task.now in
    (λ t. each_of_all (Meets k (routines_of c.args.program.now)) c.args.self.now.kept.now c.loop-i.i c.loop-i-test.false c.loop-i.invariant, λ all. refl)
