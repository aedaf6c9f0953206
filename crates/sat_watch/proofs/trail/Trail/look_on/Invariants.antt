use Rattle.std.proofs.Common.{◌≡◌, ◌++◌, take, None}
use Rattle.std.specs.Prelude.{IfSome, option_to_list}
use Rattle.clause_base.specs.Follows.{open_literals}
use Rattle.sat_watch.specs.Trails.{literals_of, standing}
use Rattle.sat_watch.proofs.trail.Trail.look_on.Given as goal

-- what was found is all that is open so far
abbrev pub invariant-loop-place : goal.invariant-loop-place
invariant-loop-place l = record {
  all : open_literals (literals_of l.self.entries) (option_to_list l.fn.before ++ take l.place l.part) ≡ option_to_list l.found;
  unset : IfSome l.found (λ x. standing (literals_of l.self.entries) x ≡ None);
}
