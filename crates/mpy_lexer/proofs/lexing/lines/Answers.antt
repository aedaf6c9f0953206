use Rattle.std.proofs.Common.{◌≡◌, [], None, Some, Ok, sym, ◌∙◌}
use Rattle.mpy_tree.specs.Leasts.{least}
use Rattle.mpy_lexer.specs.Lexing.{byte_fault, faulty_lines, length_fault, lex}
use Rattle.mpy_lexer.proofs.Causes.{by_bytes, by_tokens, by_length, by_lines}
use Rattle.mpy_lexer.proofs.TokenSpans.{spans}
use Rattle.mpy_lexer.proofs.lexing.lines.Goals as goal

pub returns-in-Some-clause-fault : goal.returns-in-Some-clause-fault
returns-in-Some-clause-fault c =
    let found : Some c.in-Some.fault ≡ byte_fault c.in_ok-rows.rows.items = sym c.in-Some.is ∙ rw c.as_slice.ensures.value at c.byte_fault.ensures in
    by_bytes c.args.form c.args.bytes.now c.in_ok-rows.rows.items c.in-Some.fault c.in_ok-rows.ensures found

pub returns-in-Some-2-clause-fault : goal.returns-in-Some-2-clause-fault
returns-in-Some-2-clause-fault c =
    let no_byte : None ≡ byte_fault c.in_ok-rows.rows.items = sym c.in_default.is ∙ rw c.as_slice.ensures.value at c.byte_fault.ensures in
    let found : Some c.in-Some-2.line ≡ least (faulty_lines [] c.in_ok-rows.rows.items) = sym c.in-Some-2.is ∙ rw c.as_slice-2.ensures.value at c.in_ok-line.ensures in
    by_tokens c.args.form c.args.bytes.now c.in_ok-rows.rows.items c.in-Some-2.line c.in_ok-rows.ensures no_byte found

pub returns-in-Some-length_fault-clause-fault : goal.returns-in-Some-length_fault-clause-fault
returns-in-Some-length_fault-clause-fault c =
    let no_byte : None ≡ byte_fault c.in_ok-rows.rows.items = sym c.in_default.is ∙ rw c.as_slice.ensures.value at c.byte_fault.ensures in
    let no_token : None ≡ least (faulty_lines [] c.in_ok-rows.rows.items) = sym c.in_default-2.is ∙ rw c.as_slice-2.ensures.value at c.in_ok-line.ensures in
    let found : Some c.in-Some-length_fault.fault ≡ length_fault c.in_ok-lines.lines.items = sym c.in-Some-length_fault.is ∙ rw c.as_slice-3.ensures.value at c.length_fault.ensures in
    by_length c.args.form c.args.bytes.now c.in_ok-rows.rows.items c.in_ok-lines.lines.items c.in-Some-length_fault.fault c.in_ok-rows.ensures no_byte no_token c.in_ok-lines.ensures found

-- the lines that are answered are those of the text
found : (c : goal.In-None) → lex c.args.form c.args.bytes.now ≡ Ok c.in_ok-lines.lines.items
found c =
    let no_byte : None ≡ byte_fault c.in_ok-rows.rows.items = sym c.in_default.is ∙ rw c.as_slice.ensures.value at c.byte_fault.ensures in
    let no_token : None ≡ least (faulty_lines [] c.in_ok-rows.rows.items) = sym c.in_default-2.is ∙ rw c.as_slice-2.ensures.value at c.in_ok-line.ensures in
    let short : None ≡ length_fault c.in_ok-lines.lines.items = sym c.in-None.is ∙ rw c.as_slice-3.ensures.value at c.length_fault.ensures in
    by_lines c.args.form c.args.bytes.now c.in_ok-rows.rows.items c.in_ok-lines.lines.items c.in_ok-rows.ensures no_byte no_token c.in_ok-lines.ensures short

pub returns-in-None-clause-lines : goal.returns-in-None-clause-lines
returns-in-None-clause-lines c = found c

pub returns-in-None-clause-spans : goal.returns-in-None-clause-spans
returns-in-None-clause-spans c = spans c.args.form c.args.bytes.now c.in_ok-lines.lines.items (found c)
