-- What a view shows.
use Rattle.sym_nodes.specs.declared.env.Env.{Env}
use Rattle.sym_nodes.specs.declared.view.View.{View}

abbrev pub env_of : {B : Type 0} → View B → Env B
env_of v = record {
  names = v.names.now;
  values = v.values.now;
  set = v.set.now;
  picks = v.picks.now;
  limits = v.limits.now;
  depth = v.depth;
}
