-- What is told of the files of a class.
use Rattle.std.specs.Prelude.{ℕ, ◌==◌, List, Option, count_by}
use Rattle.grade_io.specs.Status.{number_of}
use Rattle.grade_io.specs.declared.status.Status.{Status}

-- a listed file: its name, the status of its grading, the report, and the text of a certificate
-- where the budget was spent
pub record Entry : Type 0 where
  pub file : List ℕ
  pub status : Status
  pub report : List ℕ
  pub certificate : Option (List ℕ)

-- how many entries have the status
abbrev pub count_of : Status → List Entry → ℕ
count_of s entries = count_by (λ e. number_of e.status == number_of s) entries
