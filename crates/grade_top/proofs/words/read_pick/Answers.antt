-- The words are those of a pick.
use Rattle.std.proofs.Common.{rules}
use Rattle.std.specs.String.{string_bytes}
use Rattle.grade_top.proofs.KnownLengths.{few_mapped, not_empty, some_mapped, three_and_more}
use Rattle.grade_top.proofs.words.read_pick.Goals as goal

pub returns-clause-found : goal.returns-clause-found
returns-clause-found c = (
  three_and_more string_bytes c.args.words.now _ _ _ _ _ _ c.in-len3-up.len_at_least c.command-item.is c.bounds-item.is c.reference-item.is
      (search rules) c.as_str-2.ensures.value c.as_str-3.ensures.value,
  some_mapped string_bytes _ 1 (not_empty _ c.if-is_empty.ensures),
  few_mapped string_bytes _ 16 c.if-submissions-gt16.false,
)
