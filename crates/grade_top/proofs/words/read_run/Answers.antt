-- The words are those of a run.
use Rattle.std.proofs.Common.{rules}
use Rattle.std.specs.String.{string_bytes}
use Rattle.grade_top.proofs.KnownLengths.{few_mapped, three_and_more}
use Rattle.grade_top.proofs.words.read_run.Goals as goal

pub returns-clause-found : goal.returns-clause-found
returns-clause-found c = (
  three_and_more string_bytes c.args.words.now _ _ _ _ _ _ c.in-len3-up.len_at_least c.command-item.is c.bounds-item.is c.program-item.is
      (search rules) c.as_str-2.ensures.value c.as_str-3.ensures.value,
  few_mapped string_bytes _ 4 c.if-values-gt4.false,
)
