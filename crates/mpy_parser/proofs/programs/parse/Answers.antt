use Rattle.std.proofs.Common.{[], IfOk, IfErr, ap, subst, sym, ◌∙◌}
use Rattle.mpy_tree.specs.View.{routines_of}
use Rattle.mpy_parser.specs.Faults.{indent_fault, block_fault}
use Rattle.mpy_limits.specs.Limits.{limit_lines}
use Rattle.mpy_parser.specs.Programs.{AreItems, IsFirstUnspelled, by_columns, by_blocks, by_limits}
use Rattle.mpy_parser.specs.Views.{lines_of}
use Rattle.mpy_parser.proofs.Fine.{same_indents}
use Rattle.mpy_parser.proofs.OneAnswer.{has_lines, has_no_long_line}
use Rattle.mpy_parser.proofs.Steps.{item_refused}
use Rattle.mpy_tree.proofs.Leasts.{none_least}
use Rattle.mpy_parser.proofs.programs.parse.Goals as goal

pub returns-in-Some-clause-refused : goal.returns-in-Some-clause-refused
returns-in-Some-clause-refused c = by_columns c.in_ok-lines.lines.items c.in-Some.line c.in_ok-lines.ensures.ok
    (ap (indent_fault []) (sym c.deref.ensures.value) ∙ sym c.in_ok-line.ensures ∙ c.in-Some.is)

pub returns-in-Err-clause-refused : goal.returns-in-Err-clause-refused
returns-in-Err-clause-refused c =
    let columns = ap (indent_fault []) (sym c.deref.ensures.value) ∙ sym c.in_ok-line.ensures ∙ c.in_default.is in
    let first = subst (λ r. IfErr r (λ line. IsFirstUnspelled c.deref-2.result.now line)) c.in-Err.is c.in_ok-found.ensures.err in
    item_refused c.args.bytes.now c.in_ok-lines.lines.items c.in-Err.line c.in_ok-lines.ensures.ok columns (subst (λ ls. IsFirstUnspelled ls c.in-Err.line) c.deref-2.ensures.value first)

pub returns-in-Some-2-clause-refused : goal.returns-in-Some-2-clause-refused
returns-in-Some-2-clause-refused c =
    let columns = ap (indent_fault []) (sym c.deref.ensures.value) ∙ sym c.in_ok-line.ensures ∙ c.in_default.is in
    let items = subst (λ r. IfOk r (λ v. AreItems c.deref-2.result.now (lines_of v.items))) c.in-Ok.is c.in_ok-found.ensures.ok in
    by_blocks c.in_ok-lines.lines.items (lines_of c.in-Ok.found.items) c.in-Some-2.line c.in_ok-lines.ensures.ok columns
    (subst (λ ls. AreItems ls (lines_of c.in-Ok.found.items)) c.deref-2.ensures.value items)
    (ap (λ es. block_fault [] (lines_of es)) (sym c.deref-3.ensures.value) ∙ sym c.in_ok-line-2.ensures ∙ c.in-Some-2.is)

pub build-requires-clause-columns : goal.build-requires-clause-columns
build-requires-clause-columns c =
    let columns = ap (indent_fault []) (sym c.deref.ensures.value) ∙ sym c.in_ok-line.ensures ∙ c.in_default.is in
    let items = subst (λ r. IfOk r (λ v. AreItems c.deref-2.result.now (lines_of v.items))) c.in-Ok.is c.in_ok-found.ensures.ok in
    sym (same_indents [] c.in_ok-lines.lines.items (lines_of c.in-Ok.found.items) (subst (λ ls. AreItems ls (lines_of c.in-Ok.found.items)) c.deref-2.ensures.value items)) ∙ columns

pub returns-in-None-clause-read : goal.returns-in-None-clause-read
returns-in-None-clause-read c =
    let items = subst (λ r. IfOk r (λ v. AreItems c.deref-2.result.now (lines_of v.items))) c.in-Ok.is c.in_ok-found.ensures.ok in
    record {
      reads = record {
        lines = c.in_ok-lines.lines.items;
        items = lines_of c.in-Ok.found.items;
        lexed = has_lines c.args.bytes.now c.in_ok-lines.lines.items c.in_ok-lines.ensures.ok;
        spelled = subst (λ ls. AreItems ls (lines_of c.in-Ok.found.items)) c.deref-2.ensures.value items;
        nested = c.in_ok-program.ensures;
      };
      short = has_no_long_line c.args.bytes.now c.in_ok-lines.lines.items c.in_ok-lines.ensures.ok;
      small = none_least (limit_lines (routines_of c.in_ok-program.program)) (sym c.limit_line.ensures ∙ c.in-None.is);
    }

pub returns-clause-refused : goal.returns-clause-refused
returns-clause-refused c =
    let items = subst (λ r. IfOk r (λ v. AreItems c.deref-2.result.now (lines_of v.items))) c.in-Ok.is c.in_ok-found.ensures.ok in
    by_limits (routines_of c.in_ok-program.program) c.in-Some-limit_line.line (record {
      lines = c.in_ok-lines.lines.items;
      items = lines_of c.in-Ok.found.items;
      lexed = has_lines c.args.bytes.now c.in_ok-lines.lines.items c.in_ok-lines.ensures.ok;
      spelled = subst (λ ls. AreItems ls (lines_of c.in-Ok.found.items)) c.deref-2.ensures.value items;
      nested = c.in_ok-program.ensures;
    })
    (has_no_long_line c.args.bytes.now c.in_ok-lines.lines.items c.in_ok-lines.ensures.ok)
    (sym c.limit_line.ensures ∙ c.in-Some-limit_line.is)
