use Rattle.std.proofs.Common.{◌∙◌, subst, sym}
use Rattle.std.proofs.lemmas.List.{append-nil}
use Rattle.cegis_loop.specs.Answers.{IsAnswer}
use Rattle.cegis_loop.specs.Searching.{IsProposing}
use Rattle.cegis_loop.specs.Space.{NoneAbove}
use Rattle.cegis_loop.proofs.Steps.{first_lacked, first_spent, no_case, starts}
use Rattle.cegis_loop.proofs.search.least.Goals as goal
use Rattle.cegis_loop.proofs.search.least.Goals.{in-Found, in-Nothing, in-Spent, in-NoMemory}

pub search-requires-clause-proposing : goal.search-requires-clause-proposing
search-requires-clause-proposing g c =
    let f = c.in-Found.ensures in
    let m = c.most_cost-most.ensures in
    let b = g.Q.Questions.seen c.first.new.self in
    let s = g.Q.Questions.space (g.Q.Questions.topic c.first.new.self) in
    let most : NoneAbove s s.most_cost = subst (NoneAbove s) m.value m.most in
    subst (λ t. IsProposing (g.Q.Questions.space t) b 0) (sym f.same)
    (starts _ _ b c.in-Found.field-0 c.requires f.found (subst (λ t. NoneAbove (g.Q.Questions.space t) (g.Q.Questions.space t).most_cost) f.same most) f.kept f.asked)

pub returns-clause-answer : goal.returns-clause-answer
returns-clause-answer g c =
    elim c.match-first.branch [
      | in-Found w ↦ rw (w.q-is, w.result-is) (subst (λ t. IsAnswer (g.Q.Questions.space t) (g.Q.Questions.seen w.search.new.q) w.search.result) c.first.ensures.same w.search.ensures.answer)
      | in-Nothing w ↦ rw (w.q-is, w.result-is) (no_case _ _ _ c.requires w.in-Nothing.ensures.nothing (w.in-Nothing.ensures.kept ∙ append-nil _) w.in-Nothing.ensures.asked)
      | in-Spent w ↦ rw (w.q-is, w.result-is) (first_spent _ _ _ c.requires (w.in-Spent.ensures.kept ∙ append-nil _) w.in-Spent.ensures.asked)
      | in-NoMemory w ↦ rw (w.q-is, w.result-is) (first_lacked _ _ _ c.requires w.in-NoMemory.ensures.asked)
    ]
