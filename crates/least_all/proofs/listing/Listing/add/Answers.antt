-- one selection more
use Rattle.std.proofs.Common.{◌≡◌, ◌∙◌, List, [], ◌∷◌, ◌++◌, Vec, ap, refl, subst, sym}
use Rattle.std.specs.Prelude.{All}
use Rattle.std.specs.declared.alloc.Global.{Global}
use Rattle.std.proofs.lemmas.List.Elements.{All-push}
use Rattle.mpy_tree.specs.View.{routines_of}
use Rattle.choice_tree.specs.declared.selection.Choice.{Choice}
use Rattle.choice_tree.specs.Choices.{member_of}
use Rattle.choice_tree.specs.Selections.{plain}
use Rattle.input_space.specs.declared.task.TaskParts.{TaskParts}
use Rattle.input_space.specs.TaskParts.{task_with}
use Rattle.certificate_laws.specs.BestLaws.{Makes}
use Rattle.least_all.specs.declared.listing.Found.{Found}
use Rattle.least_all.specs.Listings.{HasBest, IsFound, task_of}
use Rattle.least_all.proofs.Asked.{asks_nothing}
use Rattle.least_all.proofs.Bests.{has_failing, has_known, has_more}
use Rattle.least_all.proofs.Programs.{all_make}
use Rattle.least_all.proofs.listing.Listing.add.Goals as goal

pub returns-then-has-clause-best : goal.returns-then-has-clause-best
returns-then-has-clause-best c =
    let k = task_of c.args.self.now in
    let s = c.args.selection.now in
    let p = routines_of c.in_ok-program.program in
    let made : Makes k s p = c.in_ok-program.ensures ∙ ap (plain (member_of s)) c.tree.ensures in
    λ done best. has_known k (all_make c.selections_make_programs.ensures k c.tree.result.now c.tree.ensures) done s p c.args.self.now.found.items made
    c.requires.listing.found (rw c.if-has.true at c.has.ensures) best

pub returns-then-has-clause-asked : goal.returns-then-has-clause-asked
returns-then-has-clause-asked c =
    let xs = c.args.self.now.questions.sessions in
    asks_nothing c.args.selection.now xs xs refl

pub returns-in_ok-push-in-Agrees-clause-listing : goal.returns-in_ok-push-in-Agrees-clause-listing
returns-in_ok-push-in-Agrees-clause-listing c =
    let mid = c.judge.new.self in
    let s = c.args.selection.now in
    let p = routines_of c.in_ok-program.program in
    let f : Found = record { selection = c.in_ok-selection-in-Agrees.selection; program = c.in_ok-program.program } in
    let made : Makes (task_of c.args.self.now) s p = c.in_ok-program.ensures ∙ ap (plain (member_of s)) c.tree.ensures in
    let here : Makes (task_of mid) s p = subst (λ (t : TaskParts). Makes (task_with t) s p) (sym c.in_ok-judge.ensures.topic.task) made in
    let own : IsFound (task_of mid) f = subst (λ (r : List Choice). Makes (task_of mid) r p) (sym c.in_ok-selection-in-Agrees.ensures) here in
    record {
      tried = c.in_ok-judge.ensures.listing.tried;
      found = subst (λ (fs : List Found). All (IsFound (task_of mid)) fs) (sym c.in_ok-push-in-Agrees.ensures.items)
          (All-push (IsFound (task_of mid)) mid.found.items f c.in_ok-judge.ensures.listing.found own);
      about = c.in_ok-judge.ensures.listing.about;
    }

pub returns-in_ok-push-in-Agrees-clause-best : goal.returns-in_ok-push-in-Agrees-clause-best
returns-in_ok-push-in-Agrees-clause-best c =
    let k = task_of c.args.self.now in
    let s = c.args.selection.now in
    let p = routines_of c.in_ok-program.program in
    let f : Found = record { selection = c.in_ok-selection-in-Agrees.selection; program = c.in_ok-program.program } in
    let made : Makes k s p = c.in_ok-program.ensures ∙ ap (plain (member_of s)) c.tree.ensures in
    let pushed : c.push.new.self.items ≡ c.args.self.now.found.items ++ f ∷ [] =
    c.in_ok-push-in-Agrees.ensures.items ∙ ap (λ (v : Vec Found Global). v.items ++ f ∷ []) c.in_ok-judge.ensures.found in
    λ done best. subst (λ (fs : List Found). HasBest k (done ++ s ∷ []) fs) (sym pushed)
    (has_more k (all_make c.selections_make_programs.ensures k c.tree.result.now c.tree.ensures) done s p c.args.self.now.found.items f made
    c.requires.listing.found (rw c.if-has.false at c.has.ensures) (rw c.in-Agrees.is at c.in_ok-judge.ensures.verdict) c.in_ok-selection-in-Agrees.ensures best)

pub returns-in-Fails-clause-best : goal.returns-in-Fails-clause-best
returns-in-Fails-clause-best c =
    let k = task_of c.args.self.now in
    let s = c.args.selection.now in
    λ done best. subst (λ (v : Vec Found Global). HasBest k (done ++ s ∷ []) v.items) (sym c.in_ok-judge.ensures.found)
    (has_failing k done s c.args.self.now.found.items (rw c.in-Fails.is at c.in_ok-judge.ensures.verdict) best)
