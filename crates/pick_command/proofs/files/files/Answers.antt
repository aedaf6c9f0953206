-- a file more
use Rattle.std.proofs.Common.{◌∙◌, ap, arith, map}
use Rattle.std.specs.String.{string_bytes}
use Rattle.source_files.specs.Files.{file}
use Rattle.source_files.specs.Views.{file_of}
use Rattle.pick_command.specs.Commands.{pick_files}
use Rattle.pick_command.specs.Requests.{pick_of}
use Rattle.pick_command.proofs.FileLists.{listed_more}
use Rattle.pick_command.proofs.Reading.{mapped_at, mapped_push}
use Rattle.pick_command.proofs.files.files.Goals as goal

pub loop-i-preserved : goal.loop-i-preserved
loop-i-preserved c =
    let names = c.args.words.now.submissions.now in
    listed_more (map string_bytes names) (pick_files (pick_of c.args.words.now)) c.loop-i.i
    c.as_str.result.now (file_of c.file-next.result) (map file_of c.loop-i.files.items)
    (map file_of c.push-in-loop-i.new.self.items)
    (rw c.as_str.ensures.value (mapped_at string_bytes names c.loop-i.i c.word-item.result (omega arith) c.word-item.is))
    c.loop-i.invariant
    (c.file-next.ensures ∙ ap (λ s. file s c.as_str.result.now) c.submission-source.ensures)
    (mapped_push file_of c.loop-i.files.items c.push-in-loop-i.new.self.items c.file-next.result
    c.in_ok-push-3.ensures.items)
