-- What the answers to questions say of a selection.
use Rattle.std.proofs.Common.{◌≡◌, List, sym, ap, subst, ◌∙◌}
use Rattle.std.specs.Prelude.{All, slice_index_or}
use Rattle.std.specs.List.{Contains}
use Rattle.mpy_tree.specs.Syntax.{Routine}
use Rattle.choice_tree.specs.declared.selection.Choice.{Choice}
use Rattle.cegis_loop.specs.Space.{AgreesOn, IsFail}
use Rattle.input_space.specs.declared.case.Case.{Case}
use Rattle.input_space.specs.Sessions.{logged}
use Rattle.input_space.specs.Tasks.{Task}
use Rattle.input_space.specs.TaskSpace.{Meets, wanted_inputs}
use Rattle.input_space.proofs.TaskSpaceLaws.{wanted_is_input}
use Rattle.certificate_laws.specs.BestLaws.{Makes}
use Rattle.solver_questions.specs.Asking.{Asking, Topic, space_of, topic_of}
use Rattle.least_all.specs.declared.listing.Tried.{Tried}
use Rattle.least_all.specs.BestLists.{SelectionAgrees}
use Rattle.least_all.specs.Listings.{IsTried}
use Rattle.least_all.proofs.Programs.{agrees_where_meets}

-- a selection that fails on an input doesn't agree
pub fails_so : (t : Topic) (k : Task) (s : List Choice) (x : Case) → t.task ≡ k → IsFail (space_of t) s x
    → SelectionAgrees k s → ⊥
fails_so t k s x about fails agrees =
    let own : SelectionAgrees t.task s = subst (λ j. SelectionAgrees j s) (sym about) agrees in
    fails.fails (λ p made. own p made x.values (wanted_is_input t.task x fails.input))

pub wanted_so : (t : Topic) (k : Task) (s : List Choice) (x : Case) → t.task ≡ k → IsFail (space_of t) s x
    → Contains (wanted_inputs k) x
wanted_so t k s x about fails = subst (λ j. Contains (wanted_inputs j) x) about fails.input

pub agrees_so : (t : Topic) (k : Task) (s : List Choice) → t.task ≡ k
    → AgreesOn (space_of t) (space_of t).inputs s → SelectionAgrees k s
agrees_so t k s about met = subst (λ j. SelectionAgrees j s) about (agrees_where_meets t.task s met)

-- as many clauses were logged as the budget has
pub spent_so : (old new : Asking) → topic_of new ≡ topic_of old → logged new.sessions ≡ (topic_of old).budget
    → logged new.sessions ≡ new.budget
spent_so old new same spent = spent ∙ sym (ap (λ (t : Topic). t.budget) same)

-- a program that doesn't meet the reference on an input that was tried doesn't agree
pub tried_so : (k : Task) (s : List Choice) (p : List Routine) (es : List Tried) → Makes k s p → All (IsTried k) es
    → (All (λ e. Meets k p e.case) es → ⊥) → SelectionAgrees k s → ⊥
tried_so k s p es made tried fails agrees =
    fails (λ i d within. let e = slice_index_or es i d in agrees p made e.case.values (wanted_is_input k e.case (tried i d within).input))
