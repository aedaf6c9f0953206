-- only inputs on which the reference gives a value are kept
use Rattle.std.proofs.Common.{◌≡◌, ◌∙◌, Some, ap, slice_get, subst, sym, true}
use Rattle.std.specs.List.{Contains}
use Rattle.mpy_tree.specs.Outcomes.{is_done}
use Rattle.bounds_reader.specs.declared.bounds.Bounds.{Bounds}
use Rattle.task_runs.specs.declared.Runs.{Runs}
use Rattle.input_space.specs.Inputs.{inputs}
use Rattle.input_space.specs.TaskParts.{task_with}
use Rattle.input_space.specs.TaskSpace.{is_wanted, wanted_inputs}
use Rattle.input_space.proofs.Elements.{contained_at}
use Rattle.certificate_laws.proofs.BestRewritings.{input_wanted}
use Rattle.least_all.specs.Listings.{task_of}
use Rattle.least_all.proofs.listing.Listing.spread.Goals as goal

pub keep-requires-clause-input : goal.keep-requires-clause-input
keep-requires-clause-input c =
    let k = task_of c.args.self.now in
    let x = c.in_ok-case.case in
    let at : slice_get (inputs k.bounds.params) c.loop-place.place ≡ Some x.values =
    subst (λ (b : Bounds). slice_get (inputs b.params) c.loop-place.place ≡ Some x.values)
    c.bounds-bounds.ensures c.in_ok-case.ensures in
    let done : is_wanted k x ≡ true =
    ap is_done (sym c.in_ok-reference.ensures) ∙ sym c.if-is_done.ensures in
    let input = contained_at (inputs k.bounds.params) c.loop-place.place x.values at in
    subst (λ (r : Runs). Contains (wanted_inputs (task_with r.task.now)) x)
    (sym c.loop-place.invariant.runs) (input_wanted k x.values input done)
