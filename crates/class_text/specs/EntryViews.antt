-- The code's entries as the definitions see them.
use Rattle.std.specs.Option.{option_map}
use Rattle.std.specs.String.{string_bytes}
use Rattle.class_text.specs.Entries.{Entry}
use Rattle.class_text.specs.declared.entry.Entry as code

abbrev pub entry_of : code.Entry → Entry
entry_of e = record {
  file = string_bytes e.file;
  status = e.status;
  report = string_bytes e.report;
  certificate = option_map string_bytes e.certificate;
}
