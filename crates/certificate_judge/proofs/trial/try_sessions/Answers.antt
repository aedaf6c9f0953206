-- the sessions pass one after the other, up to the first that decides
use Rattle.std.proofs.Common.{◌≡◌, List, Some, ap, arith, length, refl, slice_get}
use Rattle.std.proofs.lemmas.Option.{slice_get_read}
use Rattle.input_space.specs.declared.session.Session.{Session}
use Rattle.input_space.specs.TaskParts.{task_with}
use Rattle.certificate_judge.proofs.Passes.{anew_within, pass_anew, pass_follows, pass_none}
use Rattle.certificate_judge.proofs.TrialLaws.{decided, refuted_at}
use Rattle.certificate_judge.proofs.trial.try_sessions.Goals.{in-Follows, in-Anew}
use Rattle.certificate_judge.proofs.trial.try_sessions.Goals as goal

pub loop-i-init : goal.loop-i-init
loop-i-init c = pass_none (task_with c.args.t.now) c.args.c.now.cases

pub overflow_add-anew : goal.overflow_add-anew
overflow_add-anew c =
    let few = anew_within (task_with c.args.t.now) c.args.c.now.cases c.items-sessions.result.now c.loop-i.i c.loop-i.anew c.loop-i.invariant in
    omega (arith, few, c.loop-i-test.true, c.count-i-end.ensures.value, c.count-i-end.ensures.few)

pub returns-in-Other : goal.returns-in-Other
returns-in-Other c =
    let xs = c.items-sessions.result.now in
    let x = c.index-sessions-i.result in
    let n : length xs ≡ length c.args.c.now.sessions = ap (λ (ys : List Session). length ys) c.items-sessions.ensures in
    let here : slice_get xs c.loop-i.i ≡ Some x =
    slice_get_read xs (length xs) c.loop-i.i x refl (omega (arith, c.loop-i-test.true, c.count-i-end.ensures.value, n)) c.index-sessions-i.is in (
      c.requires.form,
      decided (task_with c.args.t.now) c.args.c.now _ c.loop-i.i c.loop-i.anew x (rw c.items-sessions.ensures at here) (rw c.items-sessions.ensures at c.loop-i.invariant)
          (rw c.in-Other.is at c.in_ok-look_at.ensures),
    )

pub returns-in-Bad : goal.returns-in-Bad
returns-in-Bad c =
    let xs = c.items-sessions.result.now in
    let x = c.index-sessions-i.result in
    let n : length xs ≡ length c.args.c.now.sessions = ap (λ (ys : List Session). length ys) c.items-sessions.ensures in
    let here : slice_get xs c.loop-i.i ≡ Some x =
    slice_get_read xs (length xs) c.loop-i.i x refl (omega (arith, c.loop-i-test.true, c.count-i-end.ensures.value, n)) c.index-sessions-i.is in (
      c.requires.form,
      decided (task_with c.args.t.now) c.args.c.now _ c.loop-i.i c.loop-i.anew x (rw c.items-sessions.ensures at here) (rw c.items-sessions.ensures at c.loop-i.invariant)
          (rw c.in-Bad.is at c.in_ok-look_at.ensures),
    )

pub loop-i-preserved : goal.loop-i-preserved
loop-i-preserved c =
    let k = task_with c.args.t.now in
    let xs = c.items-sessions.result.now in
    let x = c.index-sessions-i.result in
    let n : length xs ≡ length c.args.c.now.sessions = ap (λ (ys : List Session). length ys) c.items-sessions.ensures in
    let here : slice_get xs c.loop-i.i ≡ Some x =
    slice_get_read xs (length xs) c.loop-i.i x refl (omega (arith, c.loop-i-test.true, c.count-i-end.ensures.value, n)) c.index-sessions-i.is in
    let refuted = refuted_at k c.args.c.now c.loop-i.i x c.requires.form (rw c.items-sessions.ensures at here) in
    elim c.match-branch-2.branch [
      | in-Follows w ↦ rw w.anew-is (pass_follows k c.args.c.now.cases xs c.loop-i.i c.loop-i.anew x here c.loop-i.invariant (rw w.in-Follows.is at c.in_ok-look_at.ensures) refuted)
      | in-Anew w ↦ (
          let a = rw w.in-Anew.is at c.in_ok-look_at.ensures in
          rw w.anew-is (pass_anew k c.args.c.now.cases xs c.loop-i.i c.loop-i.anew x a.other here c.loop-i.invariant a.asked a.differs a.backed a.refuted))
    ]
