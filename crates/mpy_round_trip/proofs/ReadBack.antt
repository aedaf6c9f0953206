-- The text of a proper program reads as that program.
use Rattle.std.proofs.Common.{◌≡◌, List, [], map, ap, sym, ◌∙◌}
use Rattle.mpy_tree.specs.Syntax.{Routine}
use Rattle.mpy_tree.specs.Equality.{without_lines}
use Rattle.mpy_tree.specs.Printing.{program_text}
use Rattle.mpy_lexer.specs.declared.forms.Form.TheVariants.{Program}
use Rattle.mpy_lexer.specs.declared.line.Line.{Line}
use Rattle.mpy_lexer.specs.Lexing.{byte_fault, token_fault, logical_lines}
use Rattle.mpy_lexer.specs.PhysicalLines.{rows}
use Rattle.mpy_limits.specs.Limits.{limit_lines}
use Rattle.mpy_parser.specs.Programs.{HasLines, Reads, HasNoLongLine, IsProgram}
use Rattle.mpy_round_trip.specs.Proper.{IsProper}
use Rattle.mpy_round_trip.proofs.ProperTrees.{forms_of_program}
use Rattle.mpy_round_trip.proofs.Scraps.{text_of_lines}
use Rattle.mpy_round_trip.proofs.printing.ProgramLines.{printed_lines}
use Rattle.mpy_round_trip.proofs.printing.ProgramText.{lines_text}
use Rattle.mpy_round_trip.proofs.printing.FineLines.{printed_fine}
use Rattle.mpy_round_trip.proofs.printing.LineNesting.{printed_nesting}
use Rattle.mpy_round_trip.proofs.printing.LimitLengths.{within_limits}
use Rattle.mpy_round_trip.proofs.lexing.PrintedLines.{no_byte_fault, no_token_fault, lines_of_printed}

-- the text reads as functions that differ from these in their lines alone
pub record IsReadBack (rs : List Routine) : Type 0 where
  pub routines : List Routine
  pub reads : Reads (program_text rs) routines
  pub same : map without_lines routines ≡ map without_lines rs

-- the logical lines of the text
abbrev lines_of : List Routine → List Line
lines_of rs = logical_lines [] (rows Program (text_of_lines (printed_lines rs)))

has_lines : (rs : List Routine) → IsProper rs → HasLines (program_text rs) (lines_of rs)
has_lines rs p =
    let same = sym (lines_text rs) in
    let fine = printed_fine rs (forms_of_program rs p) in
    record {
      no_byte_fault = ap (λ bytes. byte_fault (rows Program bytes)) same ∙ no_byte_fault (printed_lines rs) fine;
      no_token_fault = ap (λ bytes. token_fault (rows Program bytes)) same ∙ no_token_fault (printed_lines rs) fine;
      lines = ap (λ bytes. logical_lines [] (rows Program bytes)) same;
    }

pub read_back : (rs : List Routine) → IsProper rs → IsReadBack rs
read_back rs p =
    let r = printed_nesting rs (forms_of_program rs p) 1 (lines_of rs) (lines_of_printed (printed_lines rs) (printed_fine rs (forms_of_program rs p))) in
    record {
      routines = r.routines;
      reads = record { lines = lines_of rs; items = r.items; lexed = has_lines rs p; spelled = r.spelled; nested = r.nested };
      same = r.same;
    }

-- within the limits, as they are of the program itself
pub program_back : (rs : List Routine) → IsProper rs → HasNoLongLine (program_text rs) → limit_lines rs ≡ [] → (qs : List Routine) × IsProgram (program_text rs) qs × (map without_lines qs ≡ map without_lines rs)
program_back rs p short small =
    let r = read_back rs p in
    (r.routines, record { reads = r.reads; short = short; small = within_limits r.routines rs r.same small }, r.same)
