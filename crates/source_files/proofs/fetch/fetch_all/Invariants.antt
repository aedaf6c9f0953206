use Rattle.std.proofs.Common.{map, take}
use Rattle.source_files.specs.Views.{file_of, texts_of}
use Rattle.source_files.proofs.Fetching.{AreFetched}
use Rattle.source_files.proofs.fetch.fetch_all.Given as goal

-- the files so far are fetched
abbrev pub invariant-loop-file : goal.invariant-loop-file
invariant-loop-file g l = AreFetched (map file_of (take l.file-index l.files)) (texts_of l.texts.items) (g.S.Shelf.seen l.fn.shelf) (g.S.Shelf.seen l.shelf)
