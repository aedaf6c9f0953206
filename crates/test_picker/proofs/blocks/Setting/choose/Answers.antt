-- no program, and one program more
use Rattle.std.proofs.Common.{◌<◌, arith, length, refl}
use Rattle.std.proofs.lemmas.Option.{slice_get_read}
use Rattle.test_picker.specs.Programs.{inputs_of, program_of}
use Rattle.test_picker.specs.Settings.{bounds_of, reference_of, routines_in}
use Rattle.test_picker.proofs.MarkLaws.{no_programs, program_more}
use Rattle.test_picker.proofs.Searches.{routine_at, routines_many}
use Rattle.test_picker.proofs.blocks.Setting.choose.Goals as goal

pub loop-i-init : goal.loop-i-init
loop-i-init c =
    let s = c.args.self.now in
    rw (c.from_vec-cases.ensures, c.new.ensures.items, c.new-marks.ensures.items)
    (no_programs (bounds_of s) (reference_of s) (routines_in c.args.programs.now))

pub mark-requires-clause-first : goal.mark-requires-clause-first
mark-requires-clause-first c =
    let qs = c.args.programs.now in
    let q = c.index-programs-i.result in
    let at = slice_get_read qs (length qs) c.loop-i.i q refl c.loop-i-test.true c.index-programs-i.is in
    let firsts = c.args.found.now.firsts.items in
    let many = routines_many qs in
    let inside : c.loop-i.i < length firsts = omega (arith, many, c.requires.found.many) in
    let first_at = slice_get_read firsts (length firsts) c.loop-i.i c.index.result.now refl inside
    c.index.ensures in
    c.requires.found.each c.loop-i.i (program_of q.typed.now) c.index.result.now
    (routine_at qs c.loop-i.i q at) first_at

pub loop-i-preserved : goal.loop-i-preserved
loop-i-preserved c =
    let s = c.args.self.now in
    let qs = c.args.programs.now in
    let q = c.index-programs-i.result in
    let at = slice_get_read qs (length qs) c.loop-i.i q refl c.loop-i-test.true c.index-programs-i.is in
    program_more (bounds_of s) (reference_of s) (routines_in qs) c.loop-i.i (program_of q.typed.now)
    (inputs_of c.loop-i.cases) (inputs_of c.mark.new.cases) c.loop-i.marks.items
    c.push.new.self.items c.in_ok-mark.mark (routine_at qs c.loop-i.i q at) c.loop-i.invariant
    c.in_ok-mark.ensures c.in_ok-push.ensures.items
