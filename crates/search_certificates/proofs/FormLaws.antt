-- Sessions of a search keep the limits of the form of certificates.
use Rattle.std.proofs.Common.{◌≡◌, ℕ, suc, ◌+◌, ◌≤◌, ◌<◌, true, List, [], ◌∷◌, ◌++◌, length, refl, ap, ◌∙◌, arith}
use Rattle.std.proofs.Common.{subst, sym, take, drop, get_or, drop-cons, take-append-drop}
use Rattle.std.specs.Prelude.{All}
use Rattle.std.specs.List.{list_all}
use Rattle.std.proofs.lemmas.Bool.{and_from}
use Rattle.std.proofs.lemmas.List.Elements.{All-head, All-tail}
use Rattle.choice_tree.specs.declared.selection.Choice.{Choice}
use Rattle.log_check.proofs.KeptSteps.{steps_kept}
use Rattle.step_lines.proofs.Apart.{all_append}
use Rattle.choice_tree.specs.Choices.{Rises}
use Rattle.cert_text.proofs.Rising.{behind_picks, picks_more, rises_at, rises_more}
use Rattle.cegis_loop.specs.Space.{Space}
use Rattle.input_space.specs.declared.case.Case.{Case}
use Rattle.input_space.specs.declared.session.Query.{Query}
use Rattle.input_space.specs.declared.session.Query.TheVariants as query
use Rattle.input_space.specs.declared.session.Session.{Session}
use Rattle.input_space.specs.Sessions.{IsBacked, cases_of}
use Rattle.input_space.specs.Statements.{Coding}
use Rattle.cert_text.specs.Limits.{KeepsQuery, KeepsSession, KeepsSessions, is_choice}
use Rattle.search_certificates.specs.Certified.{KeepsAsked}

query_kept : (count : ℕ) (q : Query) → count ≤ 2147483647 → cases_of q ≤ count → KeepsAsked q → KeepsQuery count q
query_kept count query.First few within h = tt
query_kept count (query.Low most cases) few within h = (h, within, omega arith)
query_kept count (query.Fail s) few within h = h

-- the numbers of a session's clauses keep their limit
abbrev pub IsNumbered : Session → Type 0
IsNumbered x = length x.formula.clauses + length x.log.steps ≤ 2147483647

pub session_kept : (s : Space (List Choice) Case) (d : Coding (List Choice) Case) (kept : List Case) (x : Session) → length kept ≤ 2147483647
    → IsBacked s d kept x → IsNumbered x → KeepsAsked x.query → KeepsSession (length kept) x
session_kept s d kept x few backed numbered asked = record {
  asked = query_kept (length kept) x.query few backed.cases asked;
  number = backed.few;
  some = λ e. (let n = ap length e in let m = backed.some in omega arith);
  steps = steps_kept x.formula.vars x.formula.clauses x.log.steps backed.few numbered backed.follows;
}

pub sessions_kept : (s : Space (List Choice) Case) (d : Coding (List Choice) Case) (kept : List Case) (xs : List Session) → length kept ≤ 2147483647
    → All (IsBacked s d kept) xs → All IsNumbered xs → All (λ x. KeepsAsked x.query) xs → KeepsSessions (length kept) xs
sessions_kept s d kept [] few backed numbered asked = tt
sessions_kept s d kept (x ∷ xs) few backed numbered asked = (
  session_kept s d kept x few (All-head (IsBacked s d kept) x xs backed) (All-head IsNumbered x xs numbered) (All-head (λ x. KeepsAsked x.query) x xs asked),
  sessions_kept s d kept xs few (All-tail (IsBacked s d kept) x xs backed) (All-tail IsNumbered x xs numbered) (All-tail (λ x. KeepsAsked x.query) x xs asked),
)

-- one choice more
pub choice_more : (cs : List Choice) (c : Choice) (least : ℕ) → Rises 0 cs → list_all is_choice cs ≡ true → behind_picks 0 cs ≡ least
    → least ≤ c.pick → is_choice c ≡ true → c.pick ≤ 2147483647
    → Rises 0 (cs ++ c ∷ []) × (list_all is_choice (cs ++ c ∷ []) ≡ true) × (behind_picks 0 (cs ++ c ∷ []) ≡ c.pick + 1) × (c.pick + 1 ≤ 2147483648)
choice_more cs c least rises all behind low own small = (
  rises_more 0 cs c rises (omega arith),
  all_append is_choice cs (c ∷ []) all (and_from (is_choice c) true own refl),
  picks_more 0 cs c ∙ (let e : suc c.pick ≡ c.pick + 1 = omega arith in e),
  omega arith,
)

-- a choice that rises stands behind those before it
pub choice_behind : (cs : List Choice) (i : ℕ) (d : Choice) → i < length cs → Rises 0 cs → behind_picks 0 (take i cs) ≤ (get_or cs i d).pick
choice_behind cs i d here rises =
    rises_at 0 (take i cs) (get_or cs i d) (drop (suc i) cs)
    (subst (λ ys. Rises 0 (take i cs ++ ys)) (drop-cons cs i d here) (subst (Rises 0) (sym (take-append-drop i cs)) rises))
