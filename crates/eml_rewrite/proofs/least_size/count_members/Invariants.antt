use Rattle.std.proofs.Common.{ℕ, map}
use Rattle.mpy_tree.specs.Trees.{Tree}
use Rattle.eml_instances.specs.Alternatives.{alternative_seen}
use Rattle.eml_rewrite.specs.LeastSizes.{AreCounted, draft_least, others_least}
use Rattle.eml_rewrite.specs.Spots.{context_at}
use Rattle.eml_rewrite.proofs.LeastSizes.{IsFront}
use Rattle.eml_rewrite.proofs.least_size.count_members.Given as goal

abbrev pub invariant-loop-a : goal.invariant-loop-a
invariant-loop-a g l =
    let seen = alternative_seen (context_at l.fn.spot).scope in
    (least : Tree → ℕ) → AreCounted least l.fn.counted
    → IsFront (λ a. draft_least least (seen a).draft) l.fn.found l.a-index l.nodes
    (others_least least (map seen l.fn.found))
