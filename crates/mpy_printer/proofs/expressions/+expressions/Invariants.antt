-- the text so far and that of the expressions to come are the text of all
use Rattle.std.proofs.Common.{◌≡◌, ◌++◌, map, drop}
use Rattle.mpy_tree.specs.Printing.{commas, texts_of}
use Rattle.mpy_tree.specs.View.{term_of, terms, terms_of}
use Rattle.mpy_printer.proofs.Joining.{joined}
use Rattle.mpy_printer.proofs.expressions.+expressions.Given as goal

abbrev pub invariant-write_exprs-loop-e : goal.invariant-write_exprs-loop-e
invariant-write_exprs-loop-e l = l.out.items ++ joined l.separator (texts_of (terms (map term_of (drop l.e-index l.es.items.items)))) ≡ l.fn.out.items ++ commas (texts_of (terms_of l.es))
