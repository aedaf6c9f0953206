use Rattle.std.proofs.Common.{◌≡◌, drop}
use Rattle.choice_tree.specs.Drafts.{bound_operator, bound_term}
use Rattle.eml_instances.specs.Substitutions.{bindings_in, locals_in, standings_bindings}
use Rattle.eml_instances.specs.Substitutions.{standings_locals}
use Rattle.eml_instances.proofs.standings.Substitution.find.Given as goal

-- those that are left decide
abbrev pub invariant-loop-s : goal.invariant-loop-s
invariant-loop-s l = record {
  term : bound_term (bindings_in l.self) l.m
      ≡ bound_term (standings_bindings (drop l.s-index l.s-items)) l.m;
  operator : bound_operator (bindings_in l.self) l.m
      ≡ bound_operator (standings_bindings (drop l.s-index l.s-items)) l.m;
  locals : locals_in l.self l.m ≡ standings_locals (drop l.s-index l.s-items) l.m;
}
