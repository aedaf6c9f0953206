-- The operators of the two programs.
use Rattle.std.specs.Prelude.{ℕ, List, if◌then◌else◌, codes}
use Rattle.sample_maker.specs.declared.program.Version.{Version}
use Rattle.sample_maker.specs.declared.program.Version.TheVariants.{Reference, Submission}
use Rattle.sample_maker.specs.Samples.{is_wrong}

-- by which operator a block compares
abbrev pub operator_of : Version → ℕ → ℕ → List ℕ
operator_of Reference number i = codes "<"
operator_of Submission number i = if is_wrong number i then codes "<=" else codes "<"
