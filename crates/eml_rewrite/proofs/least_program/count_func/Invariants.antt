use Rattle.std.specs.List.{sum_by}
use Rattle.mpy_scopes.specs.Seen.{site_of}
use Rattle.eml_rewrite.specs.LeastSizes.{line_least}
use Rattle.eml_rewrite.specs.Spots.{context_at, setting_at}
use Rattle.eml_rewrite.proofs.LeastSizes.{IsFront}
use Rattle.eml_rewrite.proofs.least_program.count_func.Given as goal

abbrev pub invariant-loop-line : goal.invariant-loop-line
invariant-loop-line g l =
    let one = line_least (setting_at l.fn.spot) (context_at l.fn.spot) in
    IsFront (λ s. one (site_of s)) l.line-items l.line-index l.nodes
    (sum_by (λ s. one (site_of s)) l.line-items)
