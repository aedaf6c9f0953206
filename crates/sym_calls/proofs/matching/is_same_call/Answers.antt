use Rattle.std.proofs.Common.{refl}
use Rattle.sym_calls.proofs.matching.is_same_call.Goals as goal

pub returns-then-is_same_place : goal.returns-then-is_same_place
returns-then-is_same_place g c t = record {
  level = c.if-is_same_place.ensures.level refl;
  limits = c.if-is_same_place.ensures.limits refl;
  name = c.if-is_same_place.ensures.name refl;
  args = c.same_values.ensures t;
}
