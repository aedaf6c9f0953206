use Rattle.std.proofs.Common.{◌≡◌, ◌∙◌, ◌+◌, ◌++◌, ◌∷◌, [], ap, arith, subst, sym, take}
use Rattle.std.specs.List.{Contains}
use Rattle.std.proofs.lemmas.List.{take_all, take_more}
use Rattle.bit_words.specs.Logic.{extends_keeps, extends_trans}
use Rattle.bounds_reader.specs.declared.bounds.Bounds.{Bounds}
use Rattle.input_ranges.proofs.Between.{and_same}
use Rattle.input_space.specs.declared.case.Case.{Case}
use Rattle.input_space.specs.Agreement.{IsInput}
use Rattle.input_space.specs.TaskParts.{task_with}
use Rattle.input_space.specs.TaskSpace.{wanted_inputs}
use Rattle.input_space.proofs.TaskSpaceLaws.{wanted_is_input}
use Rattle.task_bits.proofs.Later.{picks_later, picks_read_later}
use Rattle.query_build.specs.Asking.{Choose}
use Rattle.query_build.specs.Comparing.{all_meet_on}
use Rattle.query_build.proofs.LowGoals.{all_meet_more}
use Rattle.query_build.proofs.goals.meets_all.Goals as goal

pub constant_case-requires : goal.constant_case-requires
constant_case-requires g c =
    let k = task_with c.args.task.now in
    let x = c.case-item.result in
    let wanted = subst (λ (y : Case). Contains (wanted_inputs k) y) (sym c.case-item.is)
    (c.requires.wanted c.loop-case.case-index x c.loop-case-test.true) in
    subst (λ (b : Bounds). IsInput b x.values) (sym c.bounds.ensures) (wanted_is_input k x wanted)

pub meets-requires-clause-picks : goal.meets-requires-clause-picks
meets-requires-clause-picks g c = picks_later (extends_keeps c.loop-case.invariant.extends) c.requires.picks

pub loop-case-preserved : goal.loop-case-preserved
loop-case-preserved g c =
    let k = task_with c.args.task.now in
    let x = c.case-item.result in
    let i = c.loop-case.case-index in
    let cases = c.args.cases.now in
    let before = c.loop-case.invariant in
    let second = c.meets.ensures.extends in
    record {
      extends = extends_trans before.extends (extends_trans second c.and.ensures.extends);
      owned = c.in_ok-all.ensures.owned;
      value = λ vs p chosen.
          let later : Choose (g.L.Logic.reads c.loop-case.g vs) k c.args.picks.now p = record {
            members = chosen.members;
            read = picks_read_later (extends_keeps before.extends) c.requires.picks vs chosen.members chosen.read;
            made = chosen.made;
          } in
          let here = c.in_ok-here.ensures.value vs x.values p later (c.in_ok-args.ensures.value vs) in
          let still = second.same _ before.owned vs ∙ before.value vs p chosen in
          let next : take (i + 1) cases ≡ take i cases ++ x ∷ [] =
          take_more cases i x c.loop-case-test.true ∙ ap (λ y. take i cases ++ y ∷ []) (sym c.case-item.is) in
          c.in_ok-all.ensures.value vs ∙ and_same _ _ _ _ still here
          ∙ sym (all_meet_more k p (take i cases) x) ∙ ap (all_meet_on k p) (sym next);
    }

pub returns-clause-value : goal.returns-clause-value
returns-clause-value g c vs p chosen =
    let k = task_with c.args.task.now in
    c.loop-case.invariant.value vs p chosen
    ∙ ap (all_meet_on k p) (take_all c.loop-case.case-index c.args.cases.now (omega arith))
