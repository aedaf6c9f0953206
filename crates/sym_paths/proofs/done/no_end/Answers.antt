use Rattle.std.proofs.Common.{None}
use Rattle.std.proofs.lemmas.Bool.{both_ways}
use Rattle.bit_words.proofs.Kept.{owns_none}
use Rattle.sym_paths.proofs.Endings.{not_met}
use Rattle.sym_paths.proofs.done.no_end.Goals as goal

pub returns-clause-held : goal.returns-clause-held
returns-clause-held g c = record {
  bit = c.constant-no.ensures.owned;
  has = c.constant-no.ensures.owned;
  value = owns_none;
  form_is = tt;
  kept = c.in_ok-printed.ensures.held;
  some = λ vs e. absurd (both_ways (g.L.Logic.reads c.args.g.now vs c.constant-no.result)
      (c.constant-no.ensures.value vs) e);
}

pub returns-clause-value : goal.returns-clause-value
returns-clause-value g c vs =
    let no = c.constant-no.result in
    not_met c.args.slots.now.limits (g.L.Logic.reads c.args.g.now vs)
    (record { bit = no; has = no; value = None; printed = c.in_ok-printed.printed })
    (c.constant-no.ensures.value vs)
