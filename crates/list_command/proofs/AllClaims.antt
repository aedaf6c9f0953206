-- What follows from how `all` ends.
use Rattle.std.proofs.Common.{◌≡◌, ℕ, zero, suc, List, ◌++◌, inl, inr, refl, sym, subst, arith, append-nil}
use Rattle.grade_io.specs.Devices.{Devices, SinkState}
use Rattle.grade_io.specs.Written.{Wrote}
use Rattle.grade_io.specs.declared.status.Status.{Status}
use Rattle.grade_io.specs.declared.status.Status.TheVariants as status
use Rattle.mpy_tree.specs.declared.refusal.Refusal.{Refusal}
use Rattle.mpy_tree.specs.Refusals.{refusal_text}
use Rattle.input_space.specs.Tasks.{HasWanted, Task}
use Rattle.source_files.specs.Texts.{Tells}
use Rattle.file_commands.specs.Claims.{AreTold, IsSaid, NoFault}
use Rattle.file_commands.specs.Commands.{Outcome, Answered, Refused, kept_of, status_of as outcome_status, text_of}
use Rattle.file_commands.specs.Ends.{ComesOfFiles, Ends, EndsBySaying, IsFirstRefusal}
use Rattle.file_commands.specs.Keeping.{FilesAfter}
use Rattle.file_commands.proofs.Claims as command
use Rattle.file_commands.proofs.Endings.{IsOwn}
use Rattle.feedback_text.specs.Answers.{Answer, Correct, Corrected, NoCorrection, EmptyReference, Spent, IsAnswer}
use Rattle.grade_core.specs.Claims.{IsRefusedOrSpent}
use Rattle.grade_core.specs.Commands.{Graded, answer_text, empty_reference, status_of}
use Rattle.grade_core.specs.Decisions.{task_step}
use Rattle.grade_core.proofs.DecidingLaws.{failure_wanted}
use Rattle.grade_core.proofs.GradeClaims as grade
use Rattle.grade_core.proofs.OneGrading.{one_task_step}
use Rattle.least_all.specs.Answers.{AreMany}
use Rattle.list_command.specs.Claims.{HasMany, IsListedFor, IsManyOrSpent, PrintsBest}
use Rattle.list_command.specs.Commands.{all_command, all_files}
use Rattle.list_command.specs.Decisions.{AllAnswer, AsGraded, Best, IsLeastCost, IsListing, IsNoCorrection, Listed, Listing, TooMany, Unlisted, all_decides}
use Rattle.list_command.specs.Texts.{all_status, all_text, best_status, listing_status, listing_text, spent_cert}
use Rattle.list_command.specs.Words.{AllWords}

own_best : (cost : ℕ) → IsOwn (best_status cost)
own_best zero = tt
own_best (suc n) = tt

pub own_status : (a : AllAnswer) → IsOwn (all_status a)
own_status (Listed k cost (Best changes whole)) = own_best cost
own_status (Listed k cost TooMany) = tt
own_status (Listed k cost (Unlisted cert)) = tt
own_status (AsGraded x) = grade.own_status x.answer

-- THE ANSWER TO A TASK

best_for : (k : Task) (cost : ℕ) → IsLeastCost k cost → IsListedFor k (best_status cost)
best_for k zero least = least
best_for k (suc n) least = (suc n, least, omega arith)

listing_for : (w : AllWords) (k : Task) (cost : ℕ) (l : Listing) → IsLeastCost k cost → IsListing w k cost l → IsListedFor k (listing_status cost l)
listing_for w k cost (Best changes whole) least is = best_for k cost least
listing_for w k cost TooMany least is = inr (cost, least, is)
listing_for w k cost (Unlisted cert) least is = tt

graded_for : (k : Task) (a : Answer) → IsAnswer k a → IsNoCorrection a → IsListedFor k (status_of a)
graded_for k Correct answer none = absurd none
graded_for k (Corrected cost fails edits p) answer none = absurd none
graded_for k (NoCorrection fails) answer none = answer.0
graded_for k EmptyReference answer none = inl answer
graded_for k (Spent n b) answer none = tt

listed_as : (w : AllWords) (ts : List (List ℕ)) (k : Task) (a : AllAnswer) → (task_step ts).gives k → all_decides w ts a → IsListedFor k (all_status a)
listed_as w ts k (Listed j cost l) given decided =
    let same : j ≡ k = (one_task_step ts).gives j k decided.task given in
    subst (λ (i : Task). IsListedFor i (listing_status cost l)) same (listing_for w j cost l decided.least decided.listing)
listed_as w ts k (AsGraded x) given decided =
    let same : x.task ≡ k = (one_task_step ts).gives x.task k decided.0.task given in
    subst (λ (i : Task). IsListedFor i (status_of x.answer)) same (graded_for x.task x.answer decided.0.answer decided.1)

pub listed : (w : AllWords) (ts : List (List ℕ)) (k : Task) (before after : Devices) (s : Status) → Ends (all_command w) before after s
    → AreTold before (all_files w) ts → (task_step ts).gives k → NoFault before after → IsListedFor k s
listed w ts k before after s ends told given sure =
    command.answered (all_command w) ts before after s (IsListedFor k) tt (λ a decided wrote. listed_as w ts k a given decided)
    (λ r refuses. (one_task_step ts).not_both k r given refuses) ends told sure

-- TOO MANY

one_cost : (k : Task) (m n : ℕ) → IsLeastCost k m → IsLeastCost k n → m ≡ n
one_cost k m n a b =
    let low = a.best.least b.program n b.edits b.best.rewriting b.best.agrees in
    let high = b.best.least a.program m a.edits a.best.rewriting a.best.agrees in
    omega arith

many_listing : (w : AllWords) (k : Task) (cost : ℕ) (l : Listing) (before after : SinkState) → AreMany k cost → IsListing w k cost l
    → Wrote before after (listing_text w k cost l) → IsManyOrSpent w k before after (listing_status cost l)
many_listing w k cost (Best changes whole) before after many is wrote = absurd (is.0 many)
many_listing w k cost TooMany before after many is wrote = inl (refl, wrote)
many_listing w k cost (Unlisted cert) before after many is wrote = inr refl

many_graded : (w : AllWords) (k : Task) (a : Answer) (before after : SinkState) → HasMany k → IsAnswer k a → IsNoCorrection a → IsManyOrSpent w k before after (status_of a)
many_graded w k Correct before after many answer none = absurd none
many_graded w k (Corrected cost fails edits p) before after many answer none = absurd none
many_graded w k (NoCorrection fails) before after many answer none =
    let best = many.1.best in absurd (answer.0 many.1.program many.0 many.1.edits best.rewriting best.agrees)
many_graded w k EmptyReference before after many answer none = absurd (answer many.1.wanted)
many_graded w k (Spent n b) before after many answer none = inr refl

many_as : (w : AllWords) (ts : List (List ℕ)) (k : Task) (a : AllAnswer) (before after : SinkState) → (task_step ts).gives k → HasMany k → all_decides w ts a
    → Wrote before after (all_text w a) → IsManyOrSpent w k before after (all_status a)
many_as w ts k (Listed j cost l) before after given many decided wrote =
    let same : k ≡ j = sym ((one_task_step ts).gives j k decided.task given) in
    let has : HasMany j = subst HasMany same many in
    let here : AreMany j cost = subst (AreMany j) (one_cost j has.0 cost has.1 decided.least) has.2 in
    subst (λ (i : Task). IsManyOrSpent w i before after (listing_status cost l)) (sym same)
    (many_listing w j cost l before after here decided.listing wrote)
many_as w ts k (AsGraded x) before after given many decided wrote =
    let same : k ≡ x.task = sym ((one_task_step ts).gives x.task k decided.0.task given) in
    subst (λ (i : Task). IsManyOrSpent w i before after (status_of x.answer)) (sym same)
    (many_graded w x.task x.answer before after (subst HasMany same many) decided.0.answer decided.1)

pub too_many : (w : AllWords) (ts : List (List ℕ)) (k : Task) (before after : Devices) (s : Status) → Ends (all_command w) before after s
    → AreTold before (all_files w) ts → (task_step ts).gives k → HasMany k → NoFault before after → IsManyOrSpent w k before.sink after.sink s
too_many w ts k before after s ends told given many sure =
    command.answered (all_command w) ts before after s (IsManyOrSpent w k before.sink after.sink) (inl tt)
    (λ a decided wrote. many_as w ts k a before.sink after.sink given many decided wrote)
    (λ r refuses. (one_task_step ts).not_both k r given refuses) ends told sure

-- A REFERENCE WITHOUT VALUES

empty_graded : (w : AllWords) (x : Graded) (before after : SinkState) (a : Answer) → x.answer ≡ a → IsAnswer x.task a → IsNoCorrection a → (HasWanted x.task → ⊥)
    → Wrote before after (answer_text w.reference x.task a ++ spent_cert a x.cert) → IsRefusedOrSpent (refusal_text w.reference (empty_reference x.task)) before after (status_of a)
empty_graded w x before after Correct e answer own none wrote = absurd own
empty_graded w x before after (Corrected cost fails edits p) e answer own none wrote = absurd own
empty_graded w x before after (NoCorrection fails) e answer own none wrote = absurd (none (failure_wanted x.task fails answer.1))
empty_graded w x before after EmptyReference e answer own none wrote =
    inl (refl, subst (Wrote before after) (append-nil (refusal_text w.reference (empty_reference x.task))) wrote)
empty_graded w x before after (Spent n b) e answer own none wrote = inr refl

empty_as : (w : AllWords) (ts : List (List ℕ)) (k : Task) (a : AllAnswer) (before after : SinkState) → (task_step ts).gives k → (HasWanted k → ⊥) → all_decides w ts a
    → Wrote before after (all_text w a) → IsRefusedOrSpent (refusal_text w.reference (empty_reference k)) before after (all_status a)
empty_as w ts k (Listed j cost l) before after given none decided wrote =
    let same : j ≡ k = (one_task_step ts).gives j k decided.task given in
    absurd (none (subst HasWanted same decided.least.wanted))
empty_as w ts k (AsGraded x) before after given none decided wrote =
    let same : k ≡ x.task = sym ((one_task_step ts).gives x.task k decided.0.task given) in
    subst (λ (i : Task). IsRefusedOrSpent (refusal_text w.reference (empty_reference i)) before after (status_of x.answer)) (sym same)
    (empty_graded w x before after x.answer refl decided.0.answer decided.1 (subst (λ (i : Task). HasWanted i → ⊥) same none) wrote)

pub empty : (w : AllWords) (ts : List (List ℕ)) (k : Task) (before after : Devices) (s : Status) → Ends (all_command w) before after s
    → AreTold before (all_files w) ts → (task_step ts).gives k → (HasWanted k → ⊥) → NoFault before after
    → IsRefusedOrSpent (refusal_text w.reference (empty_reference k)) before.sink after.sink s
empty w ts k before after s ends told given none sure =
    command.answered (all_command w) ts before after s (IsRefusedOrSpent (refusal_text w.reference (empty_reference k)) before.sink after.sink) (inl tt)
    (λ a decided wrote. empty_as w ts k a before.sink after.sink given none decided wrote)
    (λ r refuses. (one_task_step ts).not_both k r given refuses) ends told sure

-- REFUSALS

not_decided : (w : AllWords) (ts : List (List ℕ)) (r : Refusal) (a : AllAnswer) → all_decides w ts a → (task_step ts).refuses r → ⊥
not_decided w ts r (Listed k cost l) decided refuses = (one_task_step ts).not_both k r decided.task refuses
not_decided w ts r (AsGraded x) decided refuses = (one_task_step ts).not_both x.task r decided.0.task refuses

pub refused : (w : AllWords) (ts : List (List ℕ)) (r : Refusal) (before after : Devices) (s : Status) → Ends (all_command w) before after s
    → Tells before.shelf (all_files w) ts → IsFirstRefusal (all_command w) ts r → NoFault before after → IsSaid ((all_command w).line r) status.Refused before.sink after.sink s
refused w ts r before after s ends tells first sure =
    command.refused (all_command w) ts before after s r (not_decided w ts r) (one_task_step ts).refuses ends tells first sure

-- CORRECTIONS

-- a status of corrections
abbrev IsBestStatus : Status → Type 0
IsBestStatus status.Correct = Unit {0}
IsBestStatus status.Corrected = Unit {0}
IsBestStatus s = ⊥

no_best : (a : Answer) → IsNoCorrection a → IsBestStatus (status_of a) → ⊥
no_best Correct none best = none
no_best (Corrected cost fails edits p) none best = none
no_best (NoCorrection fails) none best = best
no_best EmptyReference none best = best
no_best (Spent n b) none best = best

module _ (w : AllWords) (before after : Devices) where
  prints : (o : Outcome AllAnswer) → ComesOfFiles (all_command w) before.shelf after.shelf o → IsBestStatus (outcome_status (all_command w) o)
      → Wrote before.sink after.sink (text_of (all_command w) o) → FilesAfter (all_command w).place (kept_of (all_command w) o) before.shelf after.shelf
      → PrintsBest w before after
  prints (Answered (Listed k cost (Best changes whole))) comes best wrote files = record {
    texts = comes.texts;
    held = comes.held;
    task = k;
    given = comes.comes.1.task;
    cost = cost;
    least = comes.comes.1.least;
    changes = changes;
    whole = whole;
    best = comes.comes.1.listing.1;
    wrote = wrote;
    files = files;
  }
  prints (Answered (Listed k cost TooMany)) comes best wrote files = absurd best
  prints (Answered (Listed k cost (Unlisted cert))) comes best wrote files = absurd best
  prints (Answered (AsGraded x)) comes best wrote files = absurd (no_best x.answer comes.comes.1.1 best)
  prints (Refused r) comes best wrote files = absurd best

  pub correct : (s : Status) → Ends (all_command w) before after s → s ≡ status.Correct → PrintsBest w before after
  correct s ends is =
      let e : EndsBySaying (all_command w) before after status.Correct = rw is at ends in
      prints e.outcome e.comes (subst IsBestStatus e.says.0 tt) e.says.2 e.files

  pub corrected : (s : Status) → Ends (all_command w) before after s → s ≡ status.Corrected → PrintsBest w before after
  corrected s ends is =
      let e : EndsBySaying (all_command w) before after status.Corrected = rw is at ends in
      prints e.outcome e.comes (subst IsBestStatus e.says.0 tt) e.says.2 e.files
