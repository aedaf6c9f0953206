-- The budget of a task's space is no matter to what is right.
use Rattle.std.proofs.Common.{ℕ, Bool, List, take, Option, Some, None}
use Rattle.std.specs.Prelude.{IsSomeAnd, slice_index_or}
use Rattle.choice_tree.specs.declared.selection.Choice.{Choice}
use Rattle.cegis_loop.specs.Order.{Asks, Due, End, IsWholeSearch, NeedsClosing, first_refuted, first_open, first_left, low_refuted, any_refuted, low_open}
use Rattle.cegis_loop.specs.Order.{low_left, fail_refuted, fail_open, fail_left, no_input, no_choice, settled, closed, left, closing_left}
use Rattle.cegis_loop.specs.Space.{IsFail, IsLow}
use Rattle.cegis_loop.specs.State.{Question, First, Low, Fail, Told}
use Rattle.input_space.specs.declared.case.Case.{Case}
use Rattle.input_space.specs.declared.session.Session.{Session}
use Rattle.input_space.specs.Sessions.{IsBacked, IsTrail}
use Rattle.input_space.specs.Statements.{IsAnswered, States}
use Rattle.input_space.specs.TaskCoding.{coding}
use Rattle.input_space.specs.Tasks.{Task}
use Rattle.input_space.specs.TaskSpace.{space}
use Rattle.cert_text.specs.declared.cert.Cert.{Cert}
use Rattle.cert_text.specs.declared.cert.Claim.{Claim}
use Rattle.cert_text.specs.declared.cert.Claim.TheVariants as claim
use Rattle.clause_base.specs.declared.clause.Clause.{Clause}
use Rattle.certificate_laws.specs.CertificateLaws.{RightUnderAnyBudget}
use Rattle.certificate_laws.specs.Right.{IsShown}

low : (k : Task) (a b : ℕ) (bound : Option ℕ) (on : List Case) (c : List Choice) → IsLow (space k a) bound on c → IsLow (space k b) bound on c
low k a b bound on c h = record { choice = h.choice; within = h.within; agrees = h.agrees }

fail : (k : Task) (a b : ℕ) (c : List Choice) (x : Case) → IsFail (space k a) c x → IsFail (space k b) c x
fail k a b c x h = record { input = h.input; fails = h.fails }

some_too : {A : Type 0} (P Q : A → Type 0) (o : Option A) → ((x : A) → P x → Q x) → IsSomeAnd o P → IsSomeAnd o Q
some_too P Q None f h = h
some_too P Q (Some x) f h = f x h

-- FORMULAS

answered : (k : Task) (a b : ℕ) (kept : List Case) (q : Question (List Choice)) (bits : List Bool) → IsAnswered (space k a) (coding k) kept q bits
    → IsAnswered (space k b) (coding k) kept q bits
answered k a b kept First bits h = h
answered k a b kept (Low bound cases) bits h =
    let on = take cases kept in some_too (IsLow (space k a) bound on) (IsLow (space k b) bound on) _ (low k a b bound on) h
answered k a b kept (Fail c) bits h = some_too (IsFail (space k a) c) (IsFail (space k b) c) _ (fail k a b c) h

stated : (k : Task) (a b : ℕ) (kept : List Case) (q : Question (List Choice)) (vars : ℕ) (clauses : List Clause) → States (space k a) (coding k) kept q vars clauses
    → States (space k b) (coding k) kept q vars clauses
stated k a b kept q vars clauses h bits many =
    (λ e. answered k a b kept q bits ((h bits many).0 e), λ e. (h bits many).1 (answered k b a kept q bits e))

backed : (k : Task) (a b : ℕ) (kept : List Case) (x : Session) → IsBacked (space k a) (coding k) kept x → IsBacked (space k b) (coding k) kept x
backed k a b kept x h = record {
  cases = h.cases;
  states = stated k a b kept _ x.formula.vars x.formula.clauses h.states;
  some = h.some;
  few = h.few;
  follows = h.follows;
}

-- TRAILS

asks : (k : Task) (a b : ℕ) {due : Due (List Choice)} {ruled : ℕ} {before later : List Case} {asked : List (Told (List Choice))} {end : End (List Choice)}
    → Asks (space k a) due ruled before later asked end → Asks (space k b) due ruled before later asked end
asks k a b first_refuted = first_refuted
asks k a b (first_open m h) = first_open m (asks k a b h)
asks k a b first_left = first_left
asks k a b (low_refuted e h) = low_refuted e (asks k a b h)
asks k a b (any_refuted e) = any_refuted e
asks k a b (low_open {bound = bound} {before = before} {c = c} e l h) = low_open e (low k a b bound before c l) (asks k a b h)
asks k a b (low_left e) = low_left e
asks k a b fail_refuted = fail_refuted
asks k a b (fail_open {c = c} {x = x} f h) = fail_open (fail k a b c x f) (asks k a b h)
asks k a b fail_left = fail_left

needs : (k : Task) (a b : ℕ) (kept : List Case) (asked : List (Told (List Choice))) (c : List Choice) (cases : ℕ) → NeedsClosing (space k a) kept asked c cases
    → NeedsClosing (space k b) kept asked c cases
needs k a b kept asked c cases h = record { search = asks k a b h.search; costs = h.costs; fewer = h.fewer }

whole : (k : Task) (a b : ℕ) (kept : List Case) {asked : List (Told (List Choice))} {end : End (List Choice)} → IsWholeSearch (space k a) kept asked end
    → IsWholeSearch (space k b) kept asked end
whole k a b kept (no_input h) = no_input (asks k a b h)
whole k a b kept (no_choice h) = no_choice (asks k a b h)
whole k a b kept (settled h enough) = settled (asks k a b h) enough
whole k a b kept (closed {asked = asked} {c = c} {cases = cases} h e q) = closed (needs k a b kept asked c cases h) e q
whole k a b kept (left h) = left (asks k a b h)
whole k a b kept (closing_left {asked = asked} {c = c} {cases = cases} h e q) = closing_left (needs k a b kept asked c cases h) e q

trail : (k : Task) (a b : ℕ) (kept : List Case) (xs : List Session) (end : End (List Choice)) → IsTrail (space k a) kept xs end → IsTrail (space k b) kept xs end
trail k a b kept xs end h = record { search = whole k a b kept h.search; left = h.left }

-- CERTIFICATES

shown : (k : Task) (a b : ℕ) (c : Cert) (claims : Claim) → IsShown k a c claims → IsShown k b c claims
shown k a b c (claim.Cost n) h = h
shown k a b c claim.Nothing h = h
shown k a b c (claim.Spent n) h = record { trail = trail k a b c.cases c.sessions _ h.trail; logged_is = h.logged_is }

pub right_under_any_budget : RightUnderAnyBudget
right_under_any_budget k a b c right = record {
  cases = right.cases;
  backed = λ i x w. backed k a b c.cases (slice_index_or c.sessions i x) (right.backed i x w);
  shown = shown k a b c c.claim right.shown;
}
