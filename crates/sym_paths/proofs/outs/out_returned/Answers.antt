use Rattle.std.proofs.Common.{◌∙◌, ap, length, map, drop, sym, Some}
use Rattle.std.specs.Prelude.{option_map}
use Rattle.bit_words.proofs.Kept.{owns_none}
use Rattle.bit_words.specs.Logic.{extends_keeps}
use Rattle.bit_words.specs.Later.{owned_later, owns_both}
use Rattle.sym_values.specs.Forms.{form_for, forms_of}
use Rattle.sym_values.specs.Later.{value_later, values_later}
use Rattle.sym_values.specs.Reading.{map_bits, read, spelled}
use Rattle.sym_paths.specs.Later.{path_bit, path_values, holds_given}
use Rattle.sym_paths.specs.Paths.{kept_proper, printed_in, way}
use Rattle.sym_paths.specs.Storing.{return_is, same_return}
use Rattle.sym_paths.proofs.Gathers.{see_given}
use Rattle.sym_paths.proofs.Keeping.{kept_forms, kept_read, owns_drop}
use Rattle.sym_paths.proofs.Lists.{holds_empty, given_only}
use Rattle.sym_paths.proofs.outs.out_returned.Goals as goal

pub and-requires-clause-left : goal.and-requires-clause-left
and-requires-clause-left g c = path_bit c.requires.held

pub returns-clause-held : goal.returns-clause-held
returns-clause-held g c =
    let slots = c.args.slots.now in
    let e = extends_keeps c.and.ensures.extends in
    let path = c.args.path.now in
    let h = c.requires.held in
    let given = c.requires.outcome in
    let n = length slots.types in
    record {
      next = holds_empty c.new.ensures;
      broke = holds_empty c.new-2.ensures;
      continued = holds_empty c.new-3.ensures;
      returned = given_only _ c.in_ok-returned.ensures
          (holds_given _ c.in_ok-bit.ensures.owned
          (owned_later e (owns_both given.2.owned owns_none))
          (rw c.in_ok-printed.ensures (owned_later e (owns_drop n path.values (path_values h))))
          (ap Some given.2.form ∙ sym (ap (option_map (form_for slots.limits)) given.1))
          (ap forms_of c.in_ok-printed.ensures ∙ kept_forms slots path.values h.forms_are));
    }

pub returns-clause-value : goal.returns-clause-value
returns-clause-value g c vs o k at h =
    let start = g.L.Logic.reads c.args.g.now vs in
    let new = g.L.Logic.reads c.and.new.self vs in
    let slots = c.args.slots.now in
    let path = c.args.path.now in
    let e = extends_keeps c.and.ensures.extends in
    let outcome = c.args.outcome in
    let fine = c.not-fine.ensures.value vs in
    let bit = rw fine at (c.in_ok-bit.ensures.value vs) in
    let value = ap (λ x. Some (spelled x))
    (value_later e outcome.value c.requires.outcome.2.owned vs) in
    let kept = ap (map (map_bits new)) c.in_ok-printed.ensures
    ∙ kept_read slots new path
    ∙ ap (drop (length slots.types))
    (values_later e path.values (path_values c.requires.held) vs) in
    see_given slots new _ _ _ _ c.new.ensures c.new-2.ensures c.new-3.ensures
    c.in_ok-returned.ensures bit
    (same_return value (ap (kept_proper slots.limits) kept) (ap (printed_in slots.limits) kept))
    ∙ return_is slots (way start path) o (start outcome.fault) (read start outcome.value) k at h
