use Rattle.std.proofs.Common.{◌≢◌, ◌++◌, List, ℕ, All, take}
use Rattle.feedback_text.specs.Messages.{hole_text}
use Rattle.feedback_text.proofs.holes.split_hole.Given as goal

-- the text begins with none of the holes so far
abbrev pub invariant-loop-hole : goal.invariant-loop-hole
invariant-loop-hole l = All (λ h. (rest : List ℕ) → l.text ≢ hole_text h ++ rest) (take l.hole-index l.hole-items)
