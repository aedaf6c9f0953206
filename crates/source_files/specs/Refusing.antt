-- A refusal, by its parts.
use Rattle.std.specs.Prelude.{ℕ}
use Rattle.mpy_tree.specs.declared.refusal.Cause.{Cause}
use Rattle.mpy_tree.specs.declared.refusal.Source.{Source}
use Rattle.mpy_tree.specs.declared.refusal.Refusal.{Refusal}

abbrev pub refusal : Source → Cause → ℕ → Refusal
refusal s cause line = record { source = s; cause = cause; line = line }
