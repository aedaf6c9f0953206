-- What right certificates show, and how many clauses honest sessions log.
use Rattle.std.specs.Prelude.{◌≡◌, ℕ, ◌+◌, ◌*◌, ◌^◌, ◌≤◌, List, All, length}
use Rattle.choice_tree.specs.declared.selection.Choice.{Choice}
use Rattle.choice_tree.specs.Selections.{most_cost}
use Rattle.cegis_loop.specs.Order.{End}
use Rattle.input_space.specs.declared.case.Case.{Case}
use Rattle.input_space.specs.declared.session.Session.{Session}
use Rattle.input_space.specs.Sessions.{IsHonest, IsTrail, logged, question_of}
use Rattle.input_space.specs.Statements.{bits_of}
use Rattle.input_space.specs.TaskCoding.{coding}
use Rattle.input_space.specs.Tasks.{HasWanted, IsSound, NoneAgrees, Task, tree_of}
use Rattle.input_space.specs.TaskSpace.{space, wanted_inputs}
use Rattle.coding_laws.specs.Alphabets.{HasPrintable}
use Rattle.cert_text.specs.declared.cert.Cert.{Cert}
use Rattle.cert_text.specs.declared.cert.Claim.TheVariants as claim
use Rattle.certificate_laws.specs.BestLaws.{MakesBest}
use Rattle.certificate_laws.specs.Right.{IsHonestlySpent, IsRight}

-- what is right is so whatever the budget is
abbrev pub RightUnderAnyBudget : Type 0
RightUnderAnyBudget =
    (k : Task) (budget other : ℕ) (c : Cert) → IsRight k budget c → IsRight k other c

-- a right certificate of a cost makes its selection's program a best rewriting
abbrev pub CostShowsBest : Type 0
CostShowsBest =
    (k : Task) (budget : ℕ) (c : Cert) (n : ℕ) → IsSound k → HasPrintable k.bounds
    → IsRight k budget c → c.claim ≡ claim.Cost n → HasWanted k × MakesBest k c.selection n

-- by a right one of no rewriting none agrees
abbrev pub NothingShowsNone : Type 0
NothingShowsNone =
    (k : Task) (budget : ℕ) (c : Cert) → IsSound k → HasPrintable k.bounds
    → IsRight k budget c → c.claim ≡ claim.Nothing → HasWanted k × NoneAgrees k

-- how many clauses are logged at most in a whole search whose queries have at most m bits each
abbrev pub most_logged : Task → ℕ → ℕ
most_logged k m = (2 * length (wanted_inputs k) + most_cost (tree_of k) + 3) * 3 ^ (m + 1)

abbrev pub HaveFewBits : Task → ℕ → List Session → Type 0
HaveFewBits k m xs = All (λ x. bits_of (coding k) (question_of x.query) ≤ m) xs

-- where the sessions are honest
abbrev pub HonestTrailsAreShort : Type 0
HonestTrailsAreShort =
    (k : Task) (budget : ℕ) (kept : List Case) (xs : List Session) (end : End (List Choice))
    (m : ℕ)
    → IsTrail (space k budget) kept xs end → All (IsHonest (coding k)) xs → HaveFewBits k m xs
    → logged xs ≤ most_logged k m

-- so no greater budget is spent
abbrev pub SpentBudgetsAreSmall : Type 0
SpentBudgetsAreSmall =
    (k : Task) (budget : ℕ) (c : Cert) (m : ℕ) → IsHonestlySpent k budget c
    → HaveFewBits k m c.sessions → budget ≤ most_logged k m
