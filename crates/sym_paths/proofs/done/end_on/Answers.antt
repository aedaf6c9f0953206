use Rattle.std.proofs.Common.{◌∙◌, None, ap, false, map, refl, subst, sym}
use Rattle.std.proofs.lemmas.Bool.{both_ways}
use Rattle.bit_words.proofs.Kept.{owns_none}
use Rattle.sym_values.specs.Reading.{map_bits}
use Rattle.sym_paths.specs.Later.{path_bit}
use Rattle.sym_paths.specs.Paths.{kept_on, way, HoldsKept}
use Rattle.sym_paths.proofs.Endings.{same_met}
use Rattle.sym_paths.proofs.Keeping.{kept_read}
use Rattle.sym_paths.proofs.Kept.{kept_behind_path}
use Rattle.sym_paths.proofs.done.end_on.Goals as goal

pub returns-clause-held : goal.returns-clause-held
returns-clause-held g c =
    let owns = g.L.Logic.owns in
    let slots = c.args.slots.now in
    let path = c.args.path.now in
    record {
      bit = path_bit c.requires;
      has = c.constant-has.ensures.owned;
      value = owns_none;
      form_is = tt;
      kept = subst (HoldsKept owns c.args.g.now slots) (sym c.in_ok-printed.ensures)
          (kept_behind_path slots path c.requires);
      some = λ vs e. absurd (both_ways (g.L.Logic.reads c.args.g.now vs c.constant-has.result)
          (c.constant-has.ensures.value vs) e);
    }

pub returns-clause-value : goal.returns-clause-value
returns-clause-value g c vs =
    let rd = g.L.Logic.reads c.args.g.now vs in
    let slots = c.args.slots.now in
    let path = c.args.path.now in
    same_met slots.limits _ (rd path.bit) _ false None None _ (kept_on slots (way rd path))
    refl (c.constant-has.ensures.value vs) (λ e. refl)
    (ap (map (map_bits rd)) c.in_ok-printed.ensures ∙ kept_read slots rd path)
