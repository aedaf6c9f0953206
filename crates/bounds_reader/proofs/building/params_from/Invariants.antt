use Rattle.std.proofs.Common.{◌≡◌, ◌++◌, map}
use Rattle.std.specs.Vec.Iter.{into_iter_items}
use Rattle.bounds_reader.specs.Forms.{form_of}
use Rattle.bounds_reader.specs.Views.{param_lines, HaveLengths}
use Rattle.bounds_reader.proofs.building.params_from.Given as goal

abbrev pub invariant-loop-line : goal.invariant-loop-line
invariant-loop-line l = record {
  lengths : HaveLengths (param_lines (into_iter_items l.line-iterator));
  so_far : map form_of l.params.items ++ map (λ p. p.value.form) (param_lines (into_iter_items l.line-iterator))
      ≡ map (λ p. p.value.form) (param_lines l.fn.lines.items);
}
