use Rattle.std.proofs.Common.{sym, ◌∙◌}
use Rattle.bounds_reader.specs.Files.{by_limit, by_range}
use Rattle.bounds_reader.specs.Views.{file_view}
use Rattle.bounds_reader.proofs.reading.parse.Goals as goal

pub returns-in-Some-clause-refused : goal.returns-in-Some-clause-refused
returns-in-Some-clause-refused c =
    by_limit (file_view c.in_ok-file.file) c.in-Some.line c.in_ok-file.ensures.bytes c.in_ok-file.ensures.spelled
    (sym c.limit_fault.ensures ∙ c.in-Some.is)

pub returns-in-Some-range_fault-clause-refused : goal.returns-in-Some-range_fault-clause-refused
returns-in-Some-range_fault-clause-refused c =
    by_range (file_view c.in_ok-file.file) c.in-Some-range_fault.line c.in_ok-file.ensures.bytes c.in_ok-file.ensures.spelled
    (sym c.limit_fault.ensures ∙ c.in_default.is) (sym c.range_fault.ensures ∙ c.in-Some-range_fault.is)
