use Rattle.std.specs.Prelude.{◌≡◌, ◌≤◌, length, take}
use Rattle.input_space.specs.TaskParts.{task_with}
use Rattle.least_all.specs.Listings.{HasAsked, HasBest, IsListing}
use Rattle.least_all.proofs.listing.list.Given as goal

-- what was found and asked of the selections so far
abbrev pub invariant-loop-selection : goal.invariant-loop-selection
invariant-loop-selection l = record {
  listing : IsListing l.listing;
  same_task : l.listing.runs.task.now ≡ l.task;
  same_budget : l.listing.questions.budget ≡ l.budget;
  best : HasBest (task_with l.task) (take l.selection-index l.selections) l.listing.found.items;
  asked : HasAsked (take l.selection-index l.selections) l.listing.questions.sessions;
  few : length l.listing.found.items ≤ l.most;
}
