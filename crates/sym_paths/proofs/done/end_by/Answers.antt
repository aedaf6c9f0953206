use Rattle.std.proofs.Common.{◌∙◌, None, Some, ap, cond, map, sym}
use Rattle.sym_values.specs.Reading.{map_bits}
use Rattle.sym_paths.specs.Later.{given_bit, given_printed, given_value}
use Rattle.sym_paths.specs.Paths.{kept_proper, printed_in}
use Rattle.sym_paths.specs.Storing.{the_return}
use Rattle.sym_paths.proofs.Endings.{maybe_given, value_of_return}
use Rattle.sym_paths.proofs.done.end_by.Goals as goal

pub returns-clause-held : goal.returns-clause-held
returns-clause-held g c = record {
  bit = given_bit c.requires;
  has = c.constant-has.ensures.owned;
  value = given_value c.requires;
  form_is = maybe_given c.args._slots.now c.args.given.value c.requires.form_is;
  kept = record { owned = given_printed c.requires; forms_are = c.requires.kept };
  some = λ vs e. sym (c.constant-has.ensures.value vs ∙ c.is_some.ensures) ∙ e;
}

pub returns-clause-value : goal.returns-clause-value
returns-clause-value g c vs =
    let rd = g.L.Logic.reads c.args.g.now vs in
    let l = c.args._slots.now.limits in
    let given = c.args.given in
    let ps = map (map_bits rd) given.printed in
    let has = c.constant-has.ensures.value vs ∙ c.is_some.ensures in
    ap (λ v. cond (rd given.bit) (Some (the_return v (kept_proper l ps) (printed_in l ps))) None)
    (value_of_return rd (rd c.constant-has.result) given.value has)
