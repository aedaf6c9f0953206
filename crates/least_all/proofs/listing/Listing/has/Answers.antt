-- one program is the same, or none is
use Rattle.std.proofs.Common.{◌≡◌, ◌<◌, ◌≤◌, List, Some, length, get_or, refl, sym, ap, subst, arith, true}
use Rattle.std.specs.Prelude.{slice_get}
use Rattle.std.proofs.lemmas.Option.{slice_get_read}
use Rattle.mpy_tree.specs.View.{routines_of}
use Rattle.input_space.proofs.Elements.{each_more, each_of_all}
use Rattle.least_all.specs.declared.listing.Found.{Found}
use Rattle.least_all.specs.BestLists.{AreSame}
use Rattle.least_all.proofs.listing.Listing.has.Goals as goal

pub returns-then-same : goal.returns-then-same
returns-then-same c =
    let xs = c.args.self.now.found.items in
    let ys = c.deref-found-items.result.now in
    let value : ys ≡ xs = c.deref-found-items.ensures.value in
    let i = c.loop-found.found-index in
    let f = c.found-item.result in
    let below : i < length ys = omega arith in
    let within : i < length xs = subst (λ (zs : List Found). i < length zs) value below in
    let at : get_or xs i f ≡ f = subst (λ (zs : List Found). get_or zs i f ≡ f) value (sym c.found-item.is) in
    (i, f, within, at, c.same.ensures.0 c.if-same.true)

pub loop-found-preserved : goal.loop-found-preserved
loop-found-preserved c =
    let xs = c.args.self.now.found.items in
    let ys = c.deref-found-items.result.now in
    let value : ys ≡ xs = c.deref-found-items.ensures.value in
    let i = c.loop-found.found-index in
    let f = c.found-item.result in
    let below : i < length ys = omega arith in
    let here = subst (λ (zs : List Found). slice_get zs i ≡ Some f) value (slice_get_read ys (length ys) i f refl below c.found-item.is) in
    each_more (λ (g : Found). AreSame (routines_of g.program) (routines_of c.args.program.now) → ⊥) xs i f c.loop-found.invariant here
    (λ e. let t : c.same.result ≡ true = c.same.ensures.1 e in cc)

pub returns : goal.returns
returns c =
    let xs = c.args.self.now.found.items in
    let ys = c.deref-found-items.result.now in
    let value : ys ≡ xs = c.deref-found-items.ensures.value in
    let count : length ys ≡ length xs = ap length value in
    let all : length xs ≤ c.loop-found.found-index = omega arith in
    each_of_all (λ (g : Found). AreSame (routines_of g.program) (routines_of c.args.program.now) → ⊥) xs c.loop-found.found-index all c.loop-found.invariant
