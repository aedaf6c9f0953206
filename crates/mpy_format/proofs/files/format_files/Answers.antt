use Rattle.std.proofs.Common.{◌<◌, ◌≤◌, ◌∙◌, length, refl, sym, arith}
use Rattle.std.proofs.lemmas.Grind.{common_steps}
use Rattle.std.specs.String.{string_bytes}
use Rattle.grade_io.specs.Devices.{devices}
use Rattle.mpy_format.proofs.InTurn.{added_none, fetched_last, fetched_next, goes_on_with, stops_with, none_left}
use Rattle.mpy_format.proofs.files.format_files.Goals as goal

pub loop-i-init : goal.loop-i-init
loop-i-init g c = record { ends = λ last r rest. rest; files = refl; fetched = added_none (g.S.Shelf.seen c.args.shelf.now).calls }

pub returns-then-not-goes_on : goal.returns-then-not-goes_on
returns-then-not-goes_on g c =
    let before = devices (g.S.Shelf.seen c.loop-i.shelf) (g.K.Sink.seen c.loop-i.out) in
    let after = devices (g.S.Shelf.seen c.format_file-said.new.shelf) (g.K.Sink.seen c.format_file-said.new.out) in
    let within : c.loop-i.i < length c.args.files.now = grind (arith, common_steps) in
    record {
      ends = c.loop-i.invariant.ends after c.joined-status.result (stops_with string_bytes c.args.files.now c.loop-i.i c.loop-i.status before c.index-files-i.result c.as_str.result.now c.format_file-said.result c.joined-status.result after within c.index-files-i.is c.as_str.ensures.value c.format_file-said.ensures.ends (sym c.goes_on.ensures ∙ c.if-not-goes_on.true) c.joined-status.ensures);
      files = c.format_file-said.ensures.files ∙ c.loop-i.invariant.files;
      fetched = fetched_last string_bytes c.args.files.now c.loop-i.i c.index-files-i.result c.as_str.result.now (g.S.Shelf.seen c.args.shelf.now) (g.S.Shelf.seen c.loop-i.shelf) (g.S.Shelf.seen c.format_file-said.new.shelf) within c.index-files-i.is c.as_str.ensures.value c.loop-i.invariant.fetched c.format_file-said.result c.format_file-said.ensures.fetched;
    }

pub loop-i-preserved : goal.loop-i-preserved
loop-i-preserved g c =
    let before = devices (g.S.Shelf.seen c.loop-i.shelf) (g.K.Sink.seen c.loop-i.out) in
    let after = devices (g.S.Shelf.seen c.format_file-said.new.shelf) (g.K.Sink.seen c.format_file-said.new.out) in
    let within : c.loop-i.i < length c.args.files.now = grind (arith, common_steps) in
    record {
      ends = λ last r rest. c.loop-i.invariant.ends last r (goes_on_with string_bytes c.args.files.now c.loop-i.i c.loop-i.status before c.index-files-i.result c.as_str.result.now c.format_file-said.result c.joined-status.result after last r within c.index-files-i.is c.as_str.ensures.value c.format_file-said.ensures.ends (sym c.goes_on.ensures ∙ c.if-not-goes_on.false) c.joined-status.ensures rest);
      files = c.format_file-said.ensures.files ∙ c.loop-i.invariant.files;
      fetched = fetched_next string_bytes c.args.files.now c.loop-i.i c.index-files-i.result c.as_str.result.now (g.S.Shelf.seen c.args.shelf.now) (g.S.Shelf.seen c.loop-i.shelf) (g.S.Shelf.seen c.format_file-said.new.shelf) within c.index-files-i.is c.as_str.ensures.value c.loop-i.invariant.fetched c.format_file-said.result c.format_file-said.ensures.fetched (sym c.goes_on.ensures ∙ c.if-not-goes_on.false);
    }

pub returns : goal.returns
returns g c =
    let now = devices (g.S.Shelf.seen c.loop-i.shelf) (g.K.Sink.seen c.loop-i.out) in
    let past : length c.args.files.now ≤ c.loop-i.i = grind (arith, common_steps) in
    record {
      ends = c.loop-i.invariant.ends now c.loop-i.status (none_left string_bytes c.args.files.now c.loop-i.i c.loop-i.status now past);
      files = c.loop-i.invariant.files;
      fetched = (c.loop-i.i, c.loop-i.invariant.fetched);
    }
