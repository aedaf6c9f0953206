use Rattle.std.proofs.Common.{◌≡◌, ◌∙◌, ◌<◌, Some, length, ap, sym, arith, slice_get}
use Rattle.std.proofs.lemmas.Option.{slice_get-get_or}
use Rattle.mpy_tree.specs.declared.value.Value.{Value}
use Rattle.solver_tests.proofs.LaneTypes.{fit_more}
use Rattle.solver_tests.proofs.lanes.fit_like.Goals as goal

pub loop-i-preserved : goal.loop-i-preserved
loop-i-preserved c =
    let first = c.args.first.now in
    let values = c.args.values.now in
    let i = c.loop-i.i in
    let a = c.index-first-i.result in
    let v = c.index-values-i.result in
    let before = c.loop-i.invariant in
    let there : i < length values = omega (arith, before.long, c.loop-i-test.true) in
    let at : slice_get first i ≡ Some a = slice_get-get_or first i a c.loop-i-test.true ∙ ap (λ (x : Value). Some x) (sym c.index-first-i.is) in
    let here : slice_get values i ≡ Some v = slice_get-get_or values i v there ∙ ap (λ (x : Value). Some x) (sym c.index-values-i.is) in
    record {
      long = before.long;
      fit = fit_more c.args.l.now first values i a v at here (c.are_alike.ensures c.if-not-are_alike.false) (sym c.fits.ensures ∙ c.if-not-fits.false) before.fit;
    }
