-- A read takes the next bytes, and its calls come behind those before.
use Rattle.std.proofs.Common.{◌≡◌, ◌++◌, arith, rules, refl, subst, take, ◌∙◌}
use Rattle.std.proofs.KnownBytes.{Consumes-trans}
use Rattle.std.proofs.lemmas.Grind.{common_steps}
use Rattle.std.specs.Io.KnownBytes.{Consumes}
use Rattle.grade_io.proofs.Turning.{moves, none_yet, read_lacks, read_stops}
use Rattle.grade_io.proofs.whole.read_within.Goals as goal

pub fill-init : goal.fill-init
fill-init g c = record { few = search rules; read = search rules; still = refl; calls = none_yet _ }

pub returns-in_err-count-clause-calls : goal.returns-in_err-count-clause-calls
returns-in_err-count-clause-calls g c =
    read_stops c.from_residual.result _ _ _ c.from_residual.ensures.1 c.fill.invariant.calls c.in_err-count.ensures.calls

pub returns-then-count-eq0-clause-calls : goal.returns-then-count-eq0-clause-calls
returns-then-count-eq0-clause-calls g c = moves _ _ _ c.in_ok-count.count c.fill.invariant.calls c.in_ok-count.ensures.calls

pub fill-preserved : goal.fill-preserved
fill-preserved g c =
    let more : c.fill.bytes.items ++ take c.in_ok-count.count c.read_some.new.buf ≡ c.extend_from_slice.new.self.items = grind (arith, common_steps) in
    record {
      few = search rules;
      read = subst (Consumes _ _) more (Consumes-trans _ _ _ _ _ c.fill.invariant.read c.in_ok-count.ensures.ok);
      still = c.in_ok-count.ensures.faults ∙ c.fill.invariant.still;
      calls = moves _ _ _ c.in_ok-count.count c.fill.invariant.calls c.in_ok-count.ensures.calls;
    }

pub returns-in_err-extend_from_slice-clause-calls : goal.returns-in_err-extend_from_slice-clause-calls
returns-in_err-extend_from_slice-clause-calls g c =
    read_lacks c.from_residual-in_err-extend_from_slice.result _ _ c.from_residual-in_err-extend_from_slice.ensures.1
    (moves _ _ _ c.in_ok-count.count c.fill.invariant.calls c.in_ok-count.ensures.calls)
