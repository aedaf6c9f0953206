-- What holds of sources that were read, each by itself, and of the task that they spell.
use Rattle.std.proofs.Common.{◌<◌, ◌^◌, ℕ, List, [], length, arith, inl, inr, sym, subst}
use Rattle.choice_tree.specs.Templates.{Correction, KeepPrimes}
use Rattle.eml_faults.proofs.Faultless.{primes_kept, small_kept}
use Rattle.eml_reader.specs.RuleFiles.{IsRules}
use Rattle.bounds_reader.specs.declared.bounds.Bounds.{Bounds}
use Rattle.mpy_round_trip.specs.ReadingProper.{ReadsProper}
use Rattle.input_space.specs.Tasks.{IsReady, IsSound, Task, result_type}
use Rattle.input_space.specs.Tasks.{entry_at}
use Rattle.task_read.specs.Sources.{Typed}
use Rattle.task_read.specs.TaskSteps.{AreReady, GiveOneType, parts_step, task, task_step}
use Rattle.task_read.specs.TypedPrograms.{IsTypedProgram}
use Rattle.task_read.proofs.Judged.{one_or_not}
use Rattle.task_read.proofs.ProperRules.{spelled_rules_proper}

pub few_rules : (k : Task) → AreReady k → length k.rules < 2 ^ 32
few_rules k r = let few = (small_kept k.rules r.no_limit_fault).0 in omega arith

pub primes_are_kept : (k : Task) → AreReady k → KeepPrimes k.rules
primes_are_kept k r = primes_kept [] k.rules r.no_meaning_fault

one_type : (k : Task) → ((GiveOneType k → ⊥) → ⊥) → GiveOneType k
one_type k h =
    elim (one_or_not (result_type k.bounds k.reference k.reference_types)
    (result_type k.bounds k.submission k.submission_types)) [
      | inl same ↦ same
      | inr differ ↦ absurd (h differ)
    ]

module _ (reads : ReadsProper) where
  is_ready : (text : List ℕ) (b : Bounds) (p : Typed)
      → IsTypedProgram text (entry_at b) p.program p.types → IsReady b p.program p.types
  is_ready text b p h = record {
    proper = reads text p.program h.read.reads;
    typing = h.typing;
    unshared = h.unshared;
  }

  pub are_ready : (reference submission rules : List ℕ) (b : Bounds) (r s : Typed)
      (e : List Correction) → IsTypedProgram reference (entry_at b) r.program r.types
      → IsTypedProgram submission (entry_at b) s.program s.types → IsRules rules e
      → AreReady (task b r s e)
  are_ready reference submission rules b r s e first second third = record {
    reference = is_ready reference b r first;
    submission = is_ready submission b s second;
    proper_rules = spelled_rules_proper rules e third.file;
    no_limit_fault = third.no_limit_fault;
    no_meaning_fault = third.no_meaning_fault;
  }

  parts_are_ready : (bounds reference submission rules : List ℕ) (k : Task)
      → (parts_step bounds reference submission rules).gives k → AreReady k
  parts_are_ready bounds reference submission rules k h =
      let r = h.second in
      let s = r.second in
      let e = s.second in
      subst AreReady (sym e.second)
      (are_ready reference submission rules h.first r.first s.first e.first r.given s.given
      e.given)

  pub are_sound : (bounds reference submission rules : List ℕ) (k : Task)
      → (task_step bounds reference submission rules).gives k → IsSound k
  are_sound bounds reference submission rules k h =
      let j = h.first in
      let small = h.second.second in
      let ready = parts_are_ready bounds reference submission rules j h.given in
      subst IsSound (sym small.second)
      (record {
        reference = ready.reference;
        submission = ready.submission;
        results = one_type j h.second.given;
        proper_rules = ready.proper_rules;
        no_limit_fault = ready.no_limit_fault;
        no_meaning_fault = ready.no_meaning_fault;
        small = small.given;
      })
