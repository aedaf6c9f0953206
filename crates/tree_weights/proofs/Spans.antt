-- How far a walk over the nodes of functions may go.
use Rattle.std.proofs.Common.{ℕ, ◌+◌, ◌*◌}
use Rattle.tree_weights.specs.Frames.{nodes_of}
use Rattle.tree_weights.specs.declared.frame.Frame.{Frame}

-- more than a walk over one function may take
abbrev pub span : Frame → ℕ
span f = 4 * nodes_of f + 4

-- so many levels, and so many steps
abbrev pub reach : Frame → ℕ → ℕ
reach f steps = f.levels * span f + steps
