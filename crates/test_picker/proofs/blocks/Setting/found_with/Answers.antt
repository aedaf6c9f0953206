-- one program more, and all of them
use Rattle.std.proofs.Common.{◌≡◌, ◌∙◌, ◌<◌, ◌≤◌, ◌||◌, ap, arith, length, refl, sym}
use Rattle.std.proofs.lemmas.Option.{slice_get_read}
use Rattle.test_picker.specs.Programs.{GiveOneType, IsTypedFor}
use Rattle.test_picker.specs.Settings.{bounds_of, typed_in, typed_reference}
use Rattle.test_picker.proofs.Places.{all_at}
use Rattle.test_picker.proofs.Searches.{found_more, later_more, typed_at}
use Rattle.test_picker.proofs.blocks.Setting.found_with.Goals as goal
use Rattle.test_picker.proofs.blocks.Setting.found_with.Goals.{else-found, then-found}

pub later-requires-clause-typed : goal.later-requires-clause-typed
later-requires-clause-typed c =
    let qs = c.args.programs.now in
    let q = c.index-programs-i.result in
    let at = slice_get_read qs (length qs) c.loop-i.i q refl c.loop-i-test.true c.index-programs-i.is in
    all_at (IsTypedFor (bounds_of c.args.self.now)) (typed_in qs) c.loop-i.i q.typed.now
    c.requires.comparable.others (typed_at qs c.loop-i.i q at)

pub later-requires-clause-one_type : goal.later-requires-clause-one_type
later-requires-clause-one_type c =
    let s = c.args.self.now in
    let qs = c.args.programs.now in
    let q = c.index-programs-i.result in
    let at = slice_get_read qs (length qs) c.loop-i.i q refl c.loop-i-test.true c.index-programs-i.is in
    all_at (GiveOneType (bounds_of s) (typed_reference s)) (typed_in qs) c.loop-i.i q.typed.now
    c.requires.comparable.one_type (typed_at qs c.loop-i.i q at)

pub loop-i-preserved : goal.loop-i-preserved
loop-i-preserved c =
    let qs = c.args.programs.now in
    let q = c.index-programs-i.result in
    let at = slice_get_read qs (length qs) c.loop-i.i q refl c.loop-i-test.true c.index-programs-i.is in
    let olds = c.args.found.now.firsts.items in
    let inside : c.loop-i.i < length olds = omega arith in
    let old_at = slice_get_read olds (length olds) c.loop-i.i c.index.result.now refl inside
    c.index.ensures in
    later_more c.args.self.now c.args.block.now c.args.place qs olds
    c.loop-i.firsts.items c.push.new.self.items c.loop-i.i q c.index.result.now c.in_ok-first.first
    c.loop-i.invariant at old_at c.in_ok-push.ensures.items c.in_ok-first.ensures

pub returns : goal.returns
returns c =
    let s = c.args.self.now in
    let f = c.args.found.now in
    let e = c.ends_in-ends_here.result in
    let either : c.if-found.result ≡ (f.ended || e) = elim c.if-found.branch [
      | then-found w ↦ w.result-is ∙ w.if-found.true ∙ sym (ap (λ t. t || e) w.if-found.true)
      | else-found w ↦ w.result-is ∙ sym (ap (λ t. t || e) w.if-found.false)
    ] in
    let qs = c.args.programs.now in
    let past : length qs ≤ c.loop-i.i = omega arith in
    let within : c.loop-i.i ≤ length qs = omega arith in
    found_more s c.args.block.now c.args.place qs f
    (record { firsts = c.loop-i.firsts; ended = c.if-found.result }) c.loop-i.i past within
    c.loop-i.invariant
    (λ ys block. either ∙ ap (λ t. f.ended || t) (c.ends_in-ends_here.ensures ys block))
