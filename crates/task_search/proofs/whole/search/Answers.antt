use Rattle.std.proofs.Common.{◌≡◌, ◌∙◌, ap, subst, sym}
use Rattle.cegis_loop.specs.Answers.{IsAnswer}
use Rattle.input_space.specs.TaskParts.{task_with}
use Rattle.solver_questions.specs.Asking.{Topic, seen_in, space_of, topic_of}
use Rattle.task_search.proofs.Trails.{search_of}
use Rattle.task_search.proofs.whole.search.Goals as goal

pub close_search-found-requires-clause-answer : goal.close_search-found-requires-clause-answer
close_search-found-requires-clause-answer c =
    let new = c.least-first.new.q in
    subst (λ t. IsAnswer (space_of t) (seen_in new) c.least-first.result) (sym c.least-first.ensures.same) c.least-first.ensures.answer

pub returns : goal.returns
returns c =
    let last = c.close_search-found.new.q in
    let about : Topic = record { task = task_with c.args.t.now; budget = c.args.budget } in
    let before : topic_of c.least-first.new.q ≡ about = c.least-first.ensures.same ∙ ap topic_of c.in_ok-questions.ensures in
    let same : topic_of last ≡ about = c.close_search-found.ensures.same ∙ before in
    let said = c.sessions-sessions.ensures in
    rw (c.into_told-kept.ensures.kept, c.into_told-kept.ensures.sessions)
    (search_of last about (topic_of c.least-first.new.q) c.close_search-found.result same before c.in_default.not-NoMemory c.close_search-found.ensures.answer
    said.unrefuted said.backed said.honest said.numbered)
