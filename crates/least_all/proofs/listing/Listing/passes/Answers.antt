-- the program gives the values of the reference, or fails on an input that was tried
use Rattle.std.proofs.Common.{◌≡◌, ◌<◌, ◌≤◌, List, Some, length, refl, sym, ap, subst, arith, true}
use Rattle.std.specs.Prelude.{slice_get}
use Rattle.std.proofs.lemmas.List.Elements.{All-contains}
use Rattle.std.proofs.lemmas.Option.{slice_get_read}
use Rattle.mpy_tree.specs.View.{routines_of}
use Rattle.input_space.specs.TaskSpace.{Meets}
use Rattle.input_space.proofs.Elements.{contained_at, each_more, each_of_all}
use Rattle.least_all.specs.declared.listing.Tried.{Tried}
use Rattle.least_all.specs.Listings.{IsTried, task_of}
use Rattle.least_all.proofs.listing.Listing.passes.Goals as goal

pub meets-requires : goal.meets-requires
meets-requires c =
    let es = c.args.self.now.tried.items in
    let ys = c.deref-tried-items.result.now in
    let value : ys ≡ es = c.deref-tried-items.ensures.value in
    let i = c.loop-tried.tried-index in
    let below : i < length ys = omega arith in
    let e = c.tried-item.result in
    let here = subst (λ (zs : List Tried). slice_get zs i ≡ Some e) value (slice_get_read ys (length ys) i e refl below c.tried-item.is) in
    let so = All-contains (IsTried (task_of c.args.self.now)) es e c.requires.tried (contained_at es i e here) in
    sym so.end_is

pub returns-then-not-branch : goal.returns-then-not-branch
returns-then-not-branch c =
    let es = c.args.self.now.tried.items in
    let ys = c.deref-tried-items.result.now in
    let value : ys ≡ es = c.deref-tried-items.ensures.value in
    let i = c.loop-tried.tried-index in
    let below : i < length ys = omega arith in
    let e = c.tried-item.result in
    let here = subst (λ (zs : List Tried). slice_get zs i ≡ Some e) value (slice_get_read ys (length ys) i e refl below c.tried-item.is) in (
      λ t. cc,
      λ all.
          let met = All-contains (λ (x : Tried). Meets (task_of c.args.self.now) (routines_of c.args.program.now) x.case) es e all (contained_at es i e here) in
          let holds : c.in_ok-meets.field-0 ≡ true = c.in_ok-meets.ensures.1 met in
          cc,
    )

pub loop-tried-preserved : goal.loop-tried-preserved
loop-tried-preserved c =
    let es = c.args.self.now.tried.items in
    let ys = c.deref-tried-items.result.now in
    let value : ys ≡ es = c.deref-tried-items.ensures.value in
    let i = c.loop-tried.tried-index in
    let below : i < length ys = omega arith in
    let e = c.tried-item.result in
    let here = subst (λ (zs : List Tried). slice_get zs i ≡ Some e) value (slice_get_read ys (length ys) i e refl below c.tried-item.is) in
    each_more (λ (x : Tried). Meets (task_of c.args.self.now) (routines_of c.args.program.now) x.case) es i e c.loop-tried.invariant here
    (c.in_ok-meets.ensures.0 c.if-not-branch.false)

pub returns : goal.returns
returns c =
    let es = c.args.self.now.tried.items in
    let ys = c.deref-tried-items.result.now in
    let value : ys ≡ es = c.deref-tried-items.ensures.value in
    let count : length ys ≡ length es = ap length value in
    let all : length es ≤ c.loop-tried.tried-index = omega arith in
    (λ t. each_of_all (λ (x : Tried). Meets (task_of c.args.self.now) (routines_of c.args.program.now) x.case) es c.loop-tried.tried-index all c.loop-tried.invariant, λ h. refl)
