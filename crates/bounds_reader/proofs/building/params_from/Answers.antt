use Rattle.std.proofs.Common.{◌≡◌, [], ◌∷◌, map, refl, sym, subst, ◌∙◌, append_assoc, append-nil, arith}
use Rattle.std.specs.Vec.Iter.{into_iter_items}
use Rattle.std.proofs.lemmas.List.{map_push, nil_from_length}
use Rattle.bounds_reader.specs.Forms.{form_of}
use Rattle.bounds_reader.specs.Views.{form_view, param_lines, HaveLengths}
use Rattle.bounds_reader.proofs.building.params_from.Goals as goal

pub loop-line-init : goal.loop-line-init
loop-line-init c = record {
  lengths = rw c.into_iter-line-iterator.ensures.into_iter_gives.0 c.requires;
  so_far = rw (c.new-params.ensures.items, c.into_iter-line-iterator.ensures.into_iter_gives.0) refl;
}

pub param_from-requires : goal.param_from-requires
param_from-requires c =
    (subst (λ ls. HaveLengths (param_lines ls)) c.in-Some.ensures.steps.0 c.loop-line.invariant.lengths).0

pub loop-line-preserved : goal.loop-line-preserved
loop-line-preserved c = record {
  lengths = (subst (λ ls. HaveLengths (param_lines ls)) c.in-Some.ensures.steps.0 c.loop-line.invariant.lengths).1;
  so_far = rw (c.in_ok-push.ensures.items, map_push, c.param_from.ensures)
      (append_assoc (map form_of c.loop-line.params.items) (form_view c.in-Some.line.param.form ∷ []) _ ∙ rw c.in-Some.ensures.steps.0 at c.loop-line.invariant.so_far);
}

pub returns : goal.returns
returns c =
    let none : into_iter_items c.loop-line.line-iterator ≡ [] = nil_from_length (into_iter_items c.loop-line.line-iterator) (omega (arith, c.in-None.ensures.steps, c.loop-line.line-iterator.rest.ok.0)) in
    sym (append-nil (map form_of c.loop-line.params.items)) ∙ rw none at c.loop-line.invariant.so_far
