use Rattle.std.proofs.Common.{◌∙◌, ap, length, map, refl, sym, None}
use Rattle.sym_values.proofs.Held.{owns_none}
use Rattle.sym_values.specs.Forms.{forms_of}
use Rattle.sym_values.specs.Reading.{map_bits}
use Rattle.sym_paths.specs.Later.{path_bit, path_values, holds_given}
use Rattle.sym_paths.specs.Paths.{kept_proper, printed_in, reached, way}
use Rattle.sym_paths.specs.Storing.{ended_is, kept_there, not_ended, return_on, same_return}
use Rattle.sym_paths.proofs.Gathers.{see_given}
use Rattle.sym_paths.proofs.Keeping.{keeps_none, keeps_some, kept_forms, kept_read, not_zero}
use Rattle.sym_paths.proofs.Keeping.{owns_drop}
use Rattle.sym_paths.proofs.Lists.{holds_empty, given_only}
use Rattle.sym_paths.proofs.outs.out_ended.Goals as goal

pub returns-then-slots-eq0-clause-value : goal.returns-then-slots-eq0-clause-value
returns-then-slots-eq0-clause-value g c line vs o at =
    let slots = c.args.slots.now in
    let path = c.args.path.now in
    let rd = g.L.Logic.reads c.args.g.now vs in
    c.no_way_out-out.ensures.value vs
    ∙ not_ended o line (λ s e. sym (kept_there slots (way rd path) s (at ∙ ap reached e))
    ∙ keeps_none slots path rd c.requires c.if-slots-eq0.true)

pub returns-clause-held : goal.returns-clause-held
returns-clause-held g c =
    let slots = c.args.slots.now in
    let path = c.args.path.now in
    let h = c.requires in
    record {
      next = holds_empty c.new.ensures;
      broke = holds_empty c.new-2.ensures;
      continued = holds_empty c.new-3.ensures;
      returned = given_only _ c.in_ok-returned.ensures
          (holds_given _ (path_bit h) owns_none
          (rw c.in_ok-printed.ensures (owns_drop (length slots.types) path.values (path_values h)))
          (not_zero slots.prints c.if-slots-eq0.false)
          (ap forms_of c.in_ok-printed.ensures ∙ kept_forms slots path.values h.forms_are));
    }

pub returns-clause-value : goal.returns-clause-value
returns-clause-value g c line vs o at =
    let slots = c.args.slots.now in
    let path = c.args.path.now in
    let rd = g.L.Logic.reads c.args.g.now vs in
    let w = way rd path in
    let kept = ap (map (map_bits rd)) c.in_ok-printed.ensures ∙ kept_read slots rd path in
    let some = keeps_some slots path rd c.requires (not_zero slots.prints c.if-slots-eq0.false) in
    see_given slots rd _ _ (rd path.bit) (return_on slots w None) c.new.ensures c.new-2.ensures
    c.new-3.ensures c.in_ok-returned.ensures refl
    (same_return refl (ap (kept_proper slots.limits) kept) (ap (printed_in slots.limits) kept))
    ∙ ended_is slots w o some.0 line at some.1
