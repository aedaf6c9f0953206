use Rattle.std.proofs.Common.{◌<◌, ◌^◌, length, ap}
use Rattle.std.proofs.Math.Bridge.{le_prop}
use Rattle.eml_rewrite.proofs.spot.Spot.with_sharing.Goals as goal

pub returns : goal.returns
returns g c =
    let s = c.args.self.now in
    ap (λ (h : length s.rules.now.items.items < 2 ^ 32). record {
      rules = s.rules;
      scope = s.scope;
      sharing = c.args.sharing;
      steps = s.steps;
      few_rules = h;
    }) (le_prop _ _)
