-- Listings and their reports.
use Rattle.std.proofs.Common.{◌≡◌, ℕ, suc, ◌+◌, ◌<◌, List, [], ◌∷◌, ◌++◌, length, map, take, refl, sym, ap, subst, ◌∙◌, arith, append-nil, append_assoc, Result, Ok, Err, IfOk, None, Option}
use Rattle.std.specs.Prelude.{Bool, option_map}
use Rattle.std.specs.List.{AllZip}
use Rattle.std.proofs.lemmas.List.{length-take-le, take_more}
use Rattle.std.proofs.Common.{get_or}
use Rattle.choice_tree.specs.declared.selection.Choice.{Choice}
use Rattle.choice_tree.specs.Templates.{Correction}
use Rattle.grade_io.specs.declared.status.Status.{Status}
use Rattle.grade_io.specs.declared.status.Status.TheVariants as status
use Rattle.cert_text.specs.declared.cert.Claim.TheVariants as claim
use Rattle.cert_text.specs.Certificates.{IsCertOf, cert_with}
use Rattle.input_space.specs.declared.session.Session.{Session}
use Rattle.file_commands.specs.Reports.{IsReport, bytes_of}
use Rattle.file_commands.specs.declared.report.Report.{Report}
use Rattle.input_space.specs.Tasks.{Task, tree_of}
use Rattle.feedback_text.specs.declared.answer.Answer as code
use Rattle.feedback_text.specs.declared.answer.Failure.{Failure}
use Rattle.feedback_text.specs.Answers.{Answer, Correct, Corrected, NoCorrection, EmptyReference, Spent, IsAnswer, edit_tree}
use Rattle.feedback_text.specs.AnswerViews.{Makes, StandsFor, failure_of}
use Rattle.feedback_text.specs.ReportViews.{IsReportOf, ShowsCorrection}
use Rattle.feedback_text.specs.Reports.{report_of}
use Rattle.grade_core.specs.Commands.{answer_text}
use Rattle.grade_core.specs.declared.grading.Graded.{Graded}
use Rattle.grade_core.specs.Decisions.{task_step}
use Rattle.grade_core.specs.Gradings.{HasStatus, IsGradedSo, IsTextOf}
use Rattle.grade_core.proofs.DecidingLaws.{failure_wanted}
use Rattle.input_space.specs.TaskParts.{task_with}
use Rattle.least_all.specs.Answers.{AreMany, IsListed, IsSpent, live_at}
use Rattle.list_command.specs.Commands.{all_command}
use Rattle.list_command.specs.Decisions.{AsGraded, Best, Change, IsLeastCost, IsNoCorrection, Listed, TooMany, Unlisted}
use Rattle.list_command.specs.Reports.{HasNoCorrection, IsListReport, AddsCorrection, IsSpentText, ListsChanges, cert_behind}
use Rattle.list_command.specs.Texts.{best_status, change_text, changes_text, heading_text, listing_text, number_text, spent_cert}
use Rattle.list_command.specs.Words.{AllWords}

-- LISTS THAT GO TOGETHER

zip_length : {A B : Type 0} (R : A → B → Type 0) (xs : List A) (ys : List B) → AllZip R xs ys → length xs ≡ length ys
zip_length R [] [] h = refl
zip_length R [] (y ∷ ys) h = absurd h
zip_length R (x ∷ xs) [] h = absurd h
zip_length R (x ∷ xs) (y ∷ ys) h = ap suc (zip_length R xs ys h.1)

zip_push : {A B : Type 0} (R : A → B → Type 0) (xs : List A) (ys : List B) (x : A) (y : B) → AllZip R xs ys → R x y → AllZip R (xs ++ x ∷ []) (ys ++ y ∷ [])
zip_push R [] [] x y h own = (own, tt)
zip_push R [] (z ∷ ys) x y h own = absurd h
zip_push R (w ∷ xs) [] x y h own = absurd h
zip_push R (w ∷ xs) (z ∷ ys) x y h own = (h.0, zip_push R xs ys x y h.1 own)

-- CORRECTIONS, ONE AFTER THE OTHER

changes_more : (rules : List Correction) (n : ℕ) (cs : List Change) (c : Change)
    → changes_text rules n (cs ++ c ∷ []) ≡ changes_text rules n cs ++ change_text rules (n + length cs) c
changes_more rules n [] c =
    let e : n ≡ n + 0 = omega arith in
    append-nil (change_text rules n c) ∙ ap (λ m. change_text rules m c) e
changes_more rules n (d ∷ ds) c =
    let e : suc n + length ds ≡ n + suc (length ds) = omega arith in
    ap (λ t. change_text rules n d ++ t) (changes_more rules (suc n) ds c ∙ ap (λ m. changes_text rules (suc n) ds ++ change_text rules m c) e)
    ∙ sym (append_assoc (change_text rules n d) (changes_text rules (suc n) ds) (change_text rules (n + suc (length ds)) c))

abbrev pub MadeBy : Task → List Choice → Change → Type 0
MadeBy k s c = Makes (tree_of k) s c.program c.edits

pub lists_none : (k : Task) (picks : List (List Choice)) (old : List ℕ) → ListsChanges k (take 0 picks) old old
lists_none k picks old = record { changes = []; made = tt; text_is = sym (append-nil old) }

-- one more
pub lists_more : (k : Task) (picks : List (List Choice)) (i : ℕ) (s : List Choice) (old text numbered new : List ℕ) → i < length picks → s ≡ get_or picks i s
    → ListsChanges k (take i picks) old text → numbered ≡ text ++ number_text (i + 1) → AddsCorrection k s numbered new
    → ListsChanges k (take (i + 1) picks) old new
lists_more k picks i s old text numbered new within at before numbered_is adds =
    let shows = adds.shows in
    let c : Change = record { edits = shows.edits; program = shows.program } in
    let count : length (take i picks) ≡ length before.changes = zip_length (MadeBy k) (take i picks) before.changes before.made in
    let here : length (take i picks) ≡ i = length-take-le i picks (omega arith) in
    let number : i + 1 ≡ 1 + length before.changes = omega arith in
    let next : take (i + 1) picks ≡ take i picks ++ s ∷ [] = take_more picks i s within ∙ ap (λ r. take i picks ++ r ∷ []) (sym at) in
    let head = number_text (i + 1) in
    let front = old ++ changes_text k.rules 1 before.changes in
    record {
      changes = before.changes ++ c ∷ [];
      made =
          subst (λ ss. AllZip (MadeBy k) ss (before.changes ++ c ∷ [])) (sym next)
          (zip_push (MadeBy k) (take i picks) before.changes s c before.made shows.makes);
      text_is =
          adds.text_is ∙ ap (λ t. t ++ adds.lines) (numbered_is ∙ ap (λ t. t ++ head) before.text_is)
          ∙ append_assoc front head adds.lines
          ∙ ap (λ t. front ++ (head ++ t)) shows.text_is
          ∙ ap (λ m. front ++ change_text k.rules m c) number
          ∙ append_assoc old (changes_text k.rules 1 before.changes) (change_text k.rules (1 + length before.changes) c)
          ∙ ap (λ t. old ++ t) (sym (changes_more k.rules 1 before.changes c));
    }

-- REPORTS OF LISTINGS

-- of corrections
pub best_listed : (w : AllWords) (k : Task) (cost count : ℕ) (picks : List (List Choice)) (whole : Bool) (r : Report)
    → (AreMany k cost → ⊥) → IsListed k (live_at k cost) w.most picks whole → count ≡ length picks
    → ListsChanges k picks (heading_text cost count whole) r.text.items → r.status ≡ best_status cost → bytes_of r ≡ None
    → IsListReport w k cost r
best_listed w k cost count picks whole r few listed many lists ended kept = record {
  listing = Best lists.changes whole;
  is = (few, record { picks = picks; listed = listed; made = lists.made });
  text =
      lists.text_is
      ∙ ap (λ n. heading_text cost n whole ++ changes_text k.rules 1 lists.changes)
      (many ∙ zip_length (MadeBy k) picks lists.changes lists.made);
  status = ended;
  kept = kept;
}

pub many_listed : (w : AllWords) (k : Task) (cost : ℕ) (r : Report) → AreMany k cost → r.text.items ≡ listing_text w k 0 TooMany
    → r.status ≡ status.Refused → bytes_of r ≡ None → IsListReport w k cost r
many_listed w k cost r many text ended kept = record { listing = TooMany; is = many; text = text; status = ended; kept = kept }

pub spent_listed : (w : AllWords) (k : Task) (cost : ℕ) (r : Report) → (AreMany k cost → ⊥) → IsSpentText k cost w.budget r.text.items
    → r.status ≡ status.Spent → bytes_of r ≡ None → IsListReport w k cost r
spent_listed w k cost r few text ended kept = record {
  listing = Unlisted text.cert;
  is = (few, text.certifies);
  text = text.text_is;
  status = ended;
  kept = kept;
}

-- REPORTS OF ANSWERS

pub listed_report : (w : AllWords) (k : Task) (cost : ℕ) (ts : List (List ℕ)) (r : Report) → IsListReport w k cost r → (task_step ts).gives k
    → IsLeastCost k cost → IsReport (all_command w) ts r
listed_report w k cost ts r is given least = record {
  answer = Listed k cost is.listing;
  decided = record { task = given; least = least; listing = is.is };
  shows = record { text = is.text; status = is.status; kept = is.kept };
}

-- the least cost of a submission that is right, and of one that is corrected
pub free_cost : (k : Task) → IsAnswer k Correct → IsLeastCost k 0
free_cost k answer = record { wanted = answer.0; program = k.submission; edits = []; best = answer.1 }

pub free_by : (k : Task) (d : code.Answer) → d ≡ code.TheVariants.Correct → ((a : Answer) → StandsFor k d a → IsAnswer k a) → IsLeastCost k 0
free_by k d is answered = free_cost k (answered Correct (subst (λ (x : code.Answer). StandsFor k x Correct) (sym is) refl))

pub corrected_cost : (k : Task) (d : code.Answer) (s : List Choice) (cost : ℕ) (fails : Failure) (lines : List ℕ)
    → d ≡ code.TheVariants.Corrected s cost fails → ((a : Answer) → StandsFor k d a → IsAnswer k a) → ShowsCorrection k s lines → IsLeastCost k cost
corrected_cost k d s cost fails lines is answered shows =
    let a = Corrected cost (failure_of fails) shows.edits shows.program in
    let answer : IsAnswer k a = answered a (subst (λ (x : code.Answer). StandsFor k x a) (sym is) (refl, refl, shows.makes)) in
    record { wanted = failure_wanted k (failure_of fails) answer.2; program = shows.program; edits = map edit_tree shows.edits; best = answer.0 }

none_stands : (k : Task) (d : code.Answer) (a : Answer) → HasNoCorrection d → StandsFor k d a → IsNoCorrection a
none_stands k code.TheVariants.Correct a none stands = absurd none
none_stands k (code.TheVariants.Corrected s cost fails) a none stands = absurd none
none_stands k (code.TheVariants.NoCorrection fails) a none stands = subst IsNoCorrection (sym stands) tt
none_stands k code.TheVariants.EmptyReference a none stands = subst IsNoCorrection (sym stands) tt
none_stands k (code.TheVariants.Spent n b) a none stands = subst IsNoCorrection (sym stands) tt
none_stands k code.TheVariants.NoMemory a none stands = absurd stands

cert_stands : (k : Task) (d : code.Answer) (a : Answer) (cert : Option (List ℕ)) → HasNoCorrection d → StandsFor k d a → cert_behind d cert ≡ spent_cert a cert
cert_stands k code.TheVariants.Correct a cert none stands = absurd none
cert_stands k (code.TheVariants.Corrected s cost fails) a cert none stands = absurd none
cert_stands k (code.TheVariants.NoCorrection fails) a cert none stands = ap (λ b. spent_cert b cert) (sym stands)
cert_stands k code.TheVariants.EmptyReference a cert none stands = ap (λ b. spent_cert b cert) (sym stands)
cert_stands k (code.TheVariants.Spent n b) a cert none stands = ap (λ x. spent_cert x cert) (sym stands)
cert_stands k code.TheVariants.NoMemory a cert none stands = absurd stands

-- a certificate stands behind the answer that the budget is spent alone
pub none_behind : (d : code.Answer) (cert : Option (List ℕ)) → ((n b : ℕ) → d ≡ code.TheVariants.Spent n b → ⊥) → cert_behind d cert ≡ []
none_behind code.TheVariants.Correct cert other = refl
none_behind (code.TheVariants.Corrected s cost fails) cert other = refl
none_behind (code.TheVariants.NoCorrection fails) cert other = refl
none_behind code.TheVariants.EmptyReference cert other = refl
none_behind (code.TheVariants.Spent n b) cert other = absurd (other n b refl)
none_behind code.TheVariants.NoMemory cert other = refl

-- REPORTS THAT MAY WANT MEMORY

pub best_reported : {E : Type 0} (w : AllWords) (k : Task) (cost : ℕ) (picks : List (List Choice)) (whole : Bool) (r : Result Report E)
    → (AreMany k cost → ⊥) → IsListed k (live_at k cost) w.most picks whole
    → IfOk r (λ x. x.status ≡ best_status cost) → IfOk r (λ x. bytes_of x ≡ None)
    → IfOk r (λ x. ListsChanges k picks (heading_text cost (length picks) whole) x.text.items) → IfOk r (IsListReport w k cost)
best_reported w k cost picks whole (Ok x) few listed ended kept lists = best_listed w k cost (length picks) picks whole x few listed refl lists ended kept
best_reported w k cost picks whole (Err e) few listed ended kept lists = tt

pub many_reported : {E : Type 0} (w : AllWords) (k : Task) (cost : ℕ) (r : Result Report E) → AreMany k cost
    → IfOk r (λ x. x.text.items ≡ listing_text w k 0 TooMany) → IfOk r (λ x. x.status ≡ status.Refused) → IfOk r (λ x. bytes_of x ≡ None)
    → IfOk r (IsListReport w k cost)
many_reported w k cost (Ok x) many text ended kept = many_listed w k cost x many text ended kept
many_reported w k cost (Err e) many text ended kept = tt

pub spent_reported : {E : Type 0} (w : AllWords) (k : Task) (cost : ℕ) (r : Result Report E) → (AreMany k cost → ⊥)
    → IfOk r (λ x. IsSpentText k cost w.budget x.text.items) → IfOk r (λ x. x.status ≡ status.Spent) → IfOk r (λ x. bytes_of x ≡ None)
    → IfOk r (IsListReport w k cost)
spent_reported w k cost (Ok x) few text ended kept = spent_listed w k cost x few text ended kept
spent_reported w k cost (Err e) few text ended kept = tt

-- the text of a spent budget
pub spent_text_of : (k : Task) (cost budget : ℕ) (text cert new : List ℕ) (xs : List Session) → IsReportOf k (code.TheVariants.Spent cost budget) text
    → IsCertOf cert (cert_with (claim.Spent budget) [] [] xs) → IsSpent k (live_at k cost) budget xs → new ≡ text ++ cert → IsSpentText k cost budget new
spent_text_of k cost budget text cert new xs reported spelled spent all = record {
  cert = cert;
  certifies = record { sessions = xs; spent = spent; spelled = spelled };
  text_is = all ∙ ap (λ t. t ++ cert) (reported.text_is ∙ ap (report_of k) reported.stands);
}

-- what is listed of a task is reported
pub reports_listing : {E : Type 0} (w : AllWords) (b : ℕ) (d : Graded) (cost : ℕ) (r : Result Report E)
    → ((ts : List (List ℕ)) → IsGradedSo b ts d → IsLeastCost (task_with d.task) cost) → IfOk r (IsListReport w (task_with d.task) cost)
    → IfOk r (λ x. (ts : List (List ℕ)) → IsGradedSo b ts d → IsReport (all_command w) ts x)
reports_listing w b d cost (Ok x) least is = λ ts graded. listed_report w (task_with d.task) cost ts x is graded.task (least ts graded)
reports_listing w b d cost (Err e) least is = tt

-- and so is an answer without a correction
pub reports_graded : (w : AllWords) (d : Graded) (text new : List ℕ) (x : Report) (s : Status) → HasNoCorrection d.answer → IsTextOf w.reference (task_with d.task) d.answer text
    → new ≡ text ++ cert_behind d.answer (option_map (λ v. v.items) d.cert) → HasStatus d.answer s → x.text.items ≡ new → x.status ≡ s → bytes_of x ≡ None
    → (ts : List (List ℕ)) → IsGradedSo w.budget ts d → IsReport (all_command w) ts x
reports_graded w d text new x s none told all ended text_is status_is kept ts graded =
    let k = task_with d.task in
    let a = told.answer in
    let cert = option_map (λ v. v.items) d.cert in
    record {
      answer = AsGraded (record { task = k; answer = a; cert = cert });
      decided = (
        record { task = graded.task; answer = graded.answered a told.stands; cert = graded.kept a told.stands },
        none_stands k d.answer a none told.stands,
      );
      shows = record {
        text = text_is ∙ all ∙ ap (λ t. t ++ cert_behind d.answer cert) told.text_is ∙ ap (λ t. answer_text w.reference k a ++ t) (cert_stands k d.answer a cert none told.stands);
        status = status_is ∙ ended k a told.stands;
        kept = kept;
      };
    }
