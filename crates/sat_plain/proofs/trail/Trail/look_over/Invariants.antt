use Rattle.std.proofs.Common.{◌≡◌, take, None}
use Rattle.std.specs.Prelude.{IfSome}
use Rattle.std.specs.Option.{option_to_list}
use Rattle.clause_base.specs.Follows.{open_literals}
use Rattle.sat_plain.specs.Trails.{literals_of, standing}
use Rattle.sat_plain.proofs.trail.Trail.look_over.Given as goal

-- what was found is all that is open so far
abbrev pub invariant-loop-lit : goal.invariant-loop-lit
invariant-loop-lit l = record {
  all : open_literals (literals_of l.self.entries) (take l.lit-index l.lits) ≡ option_to_list l.found;
  unset : IfSome l.found (λ x. standing (literals_of l.self.entries) x ≡ None);
}
