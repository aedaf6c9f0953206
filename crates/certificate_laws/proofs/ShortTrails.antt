-- The honest sessions of a whole search log few clauses.
use Rattle.std.proofs.Common.{ℕ, ◌≤◌, ◌+◌, ◌*◌, ◌^◌, length, map, All, subst, arith}
use Rattle.std.specs.Prelude.{slice_index_or}
use Rattle.std.proofs.Math.Nat.{mul-le-mul_right, pow-le-pow_right}
use Rattle.std.proofs.lemmas.List.{length-map}
use Rattle.std.proofs.lemmas.List.Sums.{sum-map, sum_by-le}
use Rattle.cegis_loop.specs.OrderLaws.{FewQuestions}
use Rattle.input_space.specs.declared.session.Session.{Session}
use Rattle.input_space.specs.Sessions.{question_of, told_of}
use Rattle.input_space.specs.Statements.{bits_of}
use Rattle.input_space.specs.TaskCoding.{coding}
use Rattle.input_space.specs.Tasks.{Task, tree_of}
use Rattle.input_space.specs.TaskSpace.{space, wanted_inputs}
use Rattle.choice_tree.specs.Selections.{most_cost}
use Rattle.cert_text.specs.declared.cert.Claim.TheVariants as claim
use Rattle.sat_watch.specs.LogLengths.{FreshLogsAreShort}
use Rattle.certificate_laws.specs.CertificateLaws.{HonestTrailsAreShort, SpentBudgetsAreSmall}
use Rattle.certificate_laws.specs.Right.{IsShown}

pub honest_trails_are_short : ((k : Task) (budget : ℕ) → FewQuestions (space k budget)) → FreshLogsAreShort → HonestTrailsAreShort
honest_trails_are_short few short k budget kept xs end m trail honest narrow =
    let each : All (λ (x : Session). length x.log.steps ≤ 3 ^ (m + 1)) xs = λ i x w.
    (let y : Session = slice_index_or xs i x in
    let h = honest i x w in
    let bits : bits_of (coding k) (question_of y.query) ≤ m = narrow i x w in
    let short_one = short (bits_of (coding k) (question_of y.query) + 1) y.formula.clauses y.log.steps h.fresh h.narrow in
    let power : 3 ^ (bits_of (coding k) (question_of y.query) + 1) ≤ 3 ^ (m + 1) = pow-le-pow_right {n = 3} (omega arith) (omega arith) in
    omega arith) in
    let total = sum_by-le (λ (x : Session). length x.log.steps) (3 ^ (m + 1)) xs each in
    let many = few k budget kept (map told_of xs) end trail.search in
    let count : length xs ≤ 2 * length (wanted_inputs k) + most_cost (tree_of k) + 3 = omega (arith, many, length-map xs told_of) in
    let product = mul-le-mul_right (3 ^ (m + 1)) count in
    omega (arith, total, product, sum-map (λ (x : Session). length x.log.steps) xs)

pub spent_budgets_are_small : HonestTrailsAreShort → SpentBudgetsAreSmall
spent_budgets_are_small short k budget c m spent narrow =
    let left : IsShown k budget c (claim.Spent budget) = subst (IsShown k budget c) spent.claim_is spent.right.shown in
    let few = short k budget c.cases c.sessions _ m left.trail spent.honest narrow in
    omega (arith, few, left.logged_is)
