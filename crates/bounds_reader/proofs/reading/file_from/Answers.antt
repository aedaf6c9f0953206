use Rattle.std.proofs.Common.{◌≡◌, None, map, sym, ap, subst, ◌∙◌, IfOk}
use Rattle.bounds_reader.specs.declared.place.Place.TheVariants as place
use Rattle.bounds_reader.specs.Files.{text_lines, byte_fault, by_byte, SpellItems, items_of}
use Rattle.bounds_reader.specs.Views.{file_view}
use Rattle.bounds_reader.proofs.Judged.{no_faulty_byte, misspelled_result, on_ok}
use Rattle.bounds_reader.proofs.reading.file_from.Goals as goal

pub returns-in-None : goal.returns-in-None
returns-in-None c =
    let bytes = c.args.bytes.now in
    let here : map (λ l. l.now) c.deref.result.now ≡ text_lines bytes = ap (map (λ l. l.now)) c.deref.ensures.value ∙ c.in_ok-lines.ensures.lines in
    let lines : map (λ l. l.now) c.deref-in-None.result.now ≡ text_lines bytes = ap (map (λ l. l.now)) c.deref-in-None.ensures.value ∙ c.in_ok-lines.ensures.lines in
    let none : byte_fault bytes ≡ None = sym (no_faulty_byte bytes (map (λ l. l.now) c.deref.result.now) c.byte_fault.result here c.byte_fault.ensures) ∙ c.in-None.is in
    record {
      spelled = subst (λ ls. IfOk c.file_of.result (λ f. SpellItems place.Width 1 ls (items_of (file_view f)))) lines c.file_of.ensures.whole;
      bytes = on_ok c.file_of.result (byte_fault bytes ≡ None) none;
      refused = misspelled_result bytes (map (λ l. l.now) c.deref-in-None.result.now) c.file_of.result lines none c.file_of.ensures.misspelled;
    }

pub returns-clause-refused : goal.returns-clause-refused
returns-clause-refused c =
    let bytes = c.args.bytes.now in
    let here : map (λ l. l.now) c.deref.result.now ≡ text_lines bytes = ap (map (λ l. l.now)) c.deref.ensures.value ∙ c.in_ok-lines.ensures.lines in
    by_byte c.in-Some.line (sym (no_faulty_byte bytes (map (λ l. l.now) c.deref.result.now) c.byte_fault.result here c.byte_fault.ensures) ∙ c.in-Some.is)
