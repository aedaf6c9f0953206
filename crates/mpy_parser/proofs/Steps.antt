-- The steps of reading a program, from what each finds to the answer.
use Rattle.std.proofs.Common.{◌≡◌, ℕ, List, [], ◌∷◌, Option, Some, None, Result, Ok, Err, refl, ap, sym, ◌∙◌, subst}
use Rattle.mpy_tree.specs.declared.refusal.Cause.{Cause}
use Rattle.mpy_tree.specs.declared.refusal.Cause.TheVariants as cause
use Rattle.mpy_tree.specs.declared.tree.Prog.{Prog}
use Rattle.mpy_tree.specs.Syntax.{Routine}
use Rattle.mpy_tree.specs.View.{routines_of}
use Rattle.mpy_lexer.specs.declared.forms.Form.TheVariants.{Program}
use Rattle.mpy_lexer.specs.declared.line.Line.{Line}
use Rattle.mpy_lexer.specs.Lexing.{lex}
use Rattle.mpy_parser.specs.declared.read_error.ReadError.{ReadError}
use Rattle.mpy_parser.specs.declared.read_error.ReadError.TheVariants as read_error
use Rattle.mpy_parser.specs.Faults.{indent_fault}
use Rattle.mpy_parser.specs.Programs.{IsFirstUnspelled, IsProgram, IsRefused, by_item, IsAnswered, IsGiven, IsRefusal}
use Rattle.mpy_parser.proofs.Piled as piled
use Rattle.mpy_parser.proofs.Faultless.{program_fine}
use Rattle.mpy_parser.proofs.Fine.{no_block_fault, no_indent_fault, same_indents}
use Rattle.mpy_parser.proofs.OneAnswer.{NestingLaws, one_program, not_refused, one_refusal}

-- what lines that nest have
pub laws : NestingLaws
laws = record {
  columns = λ ls is rs items nested. same_indents [] ls is items ∙ no_indent_fault [] is (program_fine is rs nested);
  blocks = λ is rs nested. no_block_fault [] is (program_fine is rs nested);
  one = piled.one_program;
}

-- a line that spells no item
pub item_refused : (bytes : List ℕ) (ls : List Line) (line : ℕ) → lex Program bytes ≡ Ok ls → indent_fault [] ls ≡ None → IsFirstUnspelled ls line → IsRefused bytes cause.Syntax line
item_refused bytes ls line e f u = subst (IsRefused bytes cause.Syntax) (sym u.line_is)
    (by_item u.before u.first u.rest u.items (e ∙ ap Ok u.cut) (ap (indent_fault []) (sym u.cut) ∙ f) u.spelled u.unspelled)

-- a text that spells a program is read as it
pub given_by : (bytes : List ℕ) (r : Result Prog ReadError) → ((p : Prog) → r ≡ Ok p → IsProgram bytes (routines_of p)) → ((e : ReadError) → r ≡ Err e → IsAnswered bytes e) → (rs : List Routine) → IsProgram bytes rs → IsGiven rs r
given_by bytes (Ok p) ok err rs h = one_program laws bytes (routines_of p) rs (ok p refl).reads h.reads
given_by bytes (Err (read_error.Fault c line)) ok err rs h = not_refused laws bytes rs c line h (err (read_error.Fault c line) refl)
given_by bytes (Err read_error.NoMemory) ok err rs h = tt

-- a text that is refused is answered so
pub refused_by : (bytes : List ℕ) (r : Result Prog ReadError) → ((p : Prog) → r ≡ Ok p → IsProgram bytes (routines_of p)) → ((e : ReadError) → r ≡ Err e → IsAnswered bytes e) → (c : Cause) (line : ℕ) → IsRefused bytes c line → IsRefusal c line r
refused_by bytes (Ok p) ok err c line h = not_refused laws bytes (routines_of p) c line (ok p refl) h
refused_by bytes (Err (read_error.Fault d m)) ok err c line h = one_refusal laws bytes d c m line (err (read_error.Fault d m) refl) h
refused_by bytes (Err read_error.NoMemory) ok err c line h = tt
