-- The sessions of a budget that is spent.
use Rattle.std.proofs.Common.{◌≡◌, List, sym, subst}
use Rattle.std.specs.Prelude.{All}
use Rattle.choice_tree.specs.declared.selection.Choice.{Choice}
use Rattle.input_space.specs.declared.session.Session.{Session}
use Rattle.input_space.specs.Sessions.{IsBacked, IsHonest, logged}
use Rattle.input_space.specs.TaskCoding.{coding}
use Rattle.input_space.specs.Tasks.{Task}
use Rattle.input_space.specs.TaskSpace.{space}
use Rattle.solver_questions.specs.Asking.{Asking, IsNumbered, space_of, task_of, topic_of}
use Rattle.least_all.specs.Answers.{IsSpent}
use Rattle.least_all.specs.Listings.{HasAsked}
use Rattle.least_all.proofs.Asked.{all_fail_backed, asks_of}

pub spent_is : (q : Asking) (k : Task) (ss : List (List Choice)) (xs : List Session) → (topic_of q).task ≡ k → xs ≡ q.sessions
    → All (IsBacked (space_of (topic_of q)) (coding (task_of q)) q.kept) q.sessions → All (IsHonest (coding (task_of q))) q.sessions
    → All IsNumbered q.sessions → logged q.sessions ≡ q.budget → HasAsked ss q.sessions → IsSpent k ss q.budget xs
spent_is q k ss xs about same backed honest numbered spent has =
    let asks = asks_of ss q.sessions has in
    let own : IsSpent (task_of q) ss q.budget q.sessions = record {
      asks = asks;
      backed = all_fail_backed (space (task_of q) q.budget) (coding (task_of q)) q.kept q.sessions asks.asked asks.queries backed;
      honest = honest;
      numbered = numbered;
      spent = spent;
    } in
    subst (λ j. IsSpent j ss q.budget xs) about (subst (λ ys. IsSpent (task_of q) ss q.budget ys) (sym same) own)
