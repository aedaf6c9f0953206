-- From verdicts to their reports.
use Rattle.std.proofs.Common.{◌≡◌, ◌≤◌, ℕ, zero, suc, ◌+◌, ◌-◌, List, [], ◌∷◌, length, get_or, Some, slice_get, refl, sym, ap, ◌∙◌, arith, Vec}
use Rattle.std.specs.declared.alloc.Global.{Global}
use Rattle.mpy_tree.specs.declared.refusal.Refusal.{Refusal}
use Rattle.std.proofs.lemmas.Option.{get_or_from_slice_get, slice_get_within}
use Rattle.clause_base.specs.declared.formula.Formula.{Formula}
use Rattle.clause_base.specs.declared.log.Log.{Log}
use Rattle.input_space.specs.declared.session.Query.{Query}
use Rattle.input_space.specs.declared.session.Query.TheVariants as query
use Rattle.input_space.specs.declared.session.Session.{Session}
use Rattle.input_space.specs.Sessions.{cases_of}
use Rattle.input_space.specs.TaskCoding.{coding}
use Rattle.input_space.specs.Tasks.{Task}
use Rattle.input_space.specs.TaskSpace.{space}
use Rattle.cert_text.specs.declared.cert.Cert.{Cert}
use Rattle.cert_text.specs.Limits.{KeepsForm, KeepsQuery, KeepsSession}
use Rattle.search_certificates.specs.Certified.{KeepsAsked}
use Rattle.search_certificates.proofs.FormLaws.{session_kept}
use Rattle.certificate_judge.specs.declared.verdict.Shown.TheVariants as shown
use Rattle.certificate_judge.specs.declared.verdict.Verdict.{Verdict}
use Rattle.certificate_judge.specs.declared.verdict.Verdict.TheVariants as verdict
use Rattle.certificate_judge.specs.Looks.{IsOther, session_with}
use Rattle.certificate_judge.specs.Verdicts.{IsVerdict}
use Rattle.certificate_judge.proofs.TrialLaws.{kept_at}
use Rattle.source_files.specs.Fetches.{StopsAs}
use Rattle.source_files.specs.Views.{texts_of}
use Rattle.task_read.specs.declared.error.TaskError.{TaskError}
use Rattle.task_read.specs.declared.error.TaskError.TheVariants as task_error
use Rattle.task_read.specs.Errors.{RefusesAs, stop_of}
use Rattle.task_read.specs.Steps.{Step}
use Rattle.task_read.specs.TaskSteps.{task_step}
use Rattle.check_core.specs.Decisions.{cert_in, sources_step}
use Rattle.check_core.specs.Reports.{KeepsMore, NamesCase}

-- what holds of the step of the first four texts holds of that of all five
pub four_of_five : (xs : List (Vec ℕ Global)) (a b c d : Vec ℕ Global) (s t u v : List ℕ) → length xs ≡ 5
    → a ≡ get_or xs 0 a → b ≡ get_or xs 1 b → c ≡ get_or xs 2 c → d ≡ get_or xs 3 d → s ≡ a.items → t ≡ b.items → u ≡ c.items → v ≡ d.items
    → (P : Step Task → Type 0) → P (task_step s t u v) → P (sources_step (texts_of xs))
four_of_five (i ∷ j ∷ k ∷ l ∷ m ∷ []) a b c d s t u v len ia ib ic id fa fb fc fd P h =
    let p : s ≡ i.items = fa ∙ ap (λ (x : Vec ℕ Global). x.items) ia in
    let q : t ≡ j.items = fb ∙ ap (λ (x : Vec ℕ Global). x.items) ib in
    let r : u ≡ k.items = fc ∙ ap (λ (x : Vec ℕ Global). x.items) ic in
    let o : v ≡ l.items = fd ∙ ap (λ (x : Vec ℕ Global). x.items) id in
    rw (sym p, sym q, sym r, sym o) h
four_of_five xs a b c d s t u v len ia ib ic id fa fb fc fd P h = absurd (omega arith)

pub fifth_text : (xs : List (Vec ℕ Global)) (e : Vec ℕ Global) → length xs ≡ 5 → e ≡ get_or xs 4 e → cert_in (texts_of xs) ≡ e.items
fifth_text (i ∷ j ∷ k ∷ l ∷ m ∷ []) e len is = ap (λ (x : Vec ℕ Global). x.items) (sym is)
fifth_text xs e len is = absurd (omega arith)

-- what a reader of tasks refuses
pub stopped_by : (P Q : Refusal → Type 0) → ((r : Refusal) → P r → Q r) → (e : TaskError) → RefusesAs P e → StopsAs Q (stop_of e)
stopped_by P Q more (task_error.Refused r) h = more r h
stopped_by P Q more task_error.NoMemory h = tt

-- WHAT IS LEFT OPEN

few_cases : (count : ℕ) (q : Query) → KeepsQuery count q → cases_of q ≤ count
few_cases count query.First h = omega arith
few_cases count (query.Low most cases) h = h.1
few_cases count (query.Fail s) h = omega arith

still_asked : (count : ℕ) (q : Query) → KeepsQuery count q → KeepsAsked q
still_asked count query.First h = tt
still_asked count (query.Low most cases) h = h.0
still_asked count (query.Fail s) h = h

-- the session of a question that was asked anew keeps the limits of the form
left_kept : (k : Task) (c : Cert) (x : Session) (clause : ℕ) (built : Formula) (log : Log) → length c.cases ≤ 2147483647 → KeepsSession (length c.cases) x
    → IsOther k c.cases x clause built (shown.Spent log) → KeepsSession (length c.cases) (session_with x.query built log)
left_kept k c x clause built log few keeps other =
    let left = other.shown_so in
    session_kept (space k 0) (coding k) c.cases (session_with x.query built log) few
    (record {
      cases = few_cases (length c.cases) x.query keeps.asked;
      states = other.built_so.states 0;
      some = other.built_so.some;
      few = other.built_so.few;
      follows = left.log_is.follows;
    })
    left.log_is.numbered (still_asked (length c.cases) x.query keeps.asked)

pub keeps_more : (k : Task) (c : Cert) (v : Verdict) → length c.cases ≤ 2147483647 → KeepsForm c → IsVerdict k c v → (v ≡ verdict.NoMemory → ⊥) → KeepsMore c v
keeps_more k c (verdict.Accepted cost program anew) few keeps h some = tt
keeps_more k c (verdict.AcceptedNone anew) few keeps h some = tt
keeps_more k c (verdict.WrongCase case) few keeps h some = tt
keeps_more k c verdict.WrongCost few keeps h some = tt
keeps_more k c verdict.WrongClaim few keeps h some = tt
keeps_more k c (verdict.OtherFormula session clause built (shown.Values values)) few keeps h some = tt
keeps_more k c (verdict.OtherFormula zero clause built (shown.Spent log)) few keeps h some = absurd h.1
keeps_more k c (verdict.OtherFormula (suc place) clause built (shown.Spent log)) few keeps h some =
    let x = h.1.1 in
    record {
      place = place;
      counted = omega arith;
      one = x.0;
      at = x.1;
      keeps = left_kept k c x.0 clause built log few (kept_at (length c.cases) c.sessions place x.0 keeps.sessions x.1) x.2;
    }
keeps_more k c (verdict.BadStep session step) few keeps h some = tt
keeps_more k c verdict.NoMemory few keeps h some = absurd (some refl)

pub names_case : (k : Task) (c : Cert) (v : Verdict) → IsVerdict k c v → NamesCase c v
names_case k c (verdict.Accepted cost program anew) h = tt
names_case k c (verdict.AcceptedNone anew) h = tt
names_case k c (verdict.WrongCase zero) h = absurd h
names_case k c (verdict.WrongCase (suc place)) h =
    let within = slice_get_within c.cases place h.one h.at in
    (omega arith, omega (arith, within))
names_case k c verdict.WrongCost h = tt
names_case k c verdict.WrongClaim h = tt
names_case k c (verdict.OtherFormula session clause built shown) h = tt
names_case k c (verdict.BadStep session step) h = tt
names_case k c verdict.NoMemory h = tt

-- the session at a place, counted from 1
pub one_session : (xs ys : List Session) (session place : ℕ) (x y : Session) → xs ≡ ys → session ≡ place + 1 → x ≡ get_or xs (session - 1) x → slice_get ys place ≡ Some y → x ≡ y
one_session xs ys session place x y same counted is at =
    let before : session - 1 ≡ place = omega (arith, counted) in
    is ∙ ap (λ i. get_or xs i x) before ∙ ap (λ (zs : List Session). get_or zs place x) same ∙ get_or_from_slice_get ys place y x at
