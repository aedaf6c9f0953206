-- The rules of a task call builtins alone, and its submission has no fault of names.
use Rattle.std.proofs.Common.{◌≡◌, Bool, true, false, List, [], ◌∷◌, ◌++◌, length, Option}
use Rattle.std.proofs.Common.{Some, None, if◌then◌else◌, refl}
use Rattle.std.specs.List.{list_any}
use Rattle.std.proofs.lemmas.List.Elements.{All-cons, All-nil}
use Rattle.mpy_tree.specs.declared.refusal.Cause.{Cause}
use Rattle.mpy_tree.specs.declared.refusal.Cause.TheVariants as cause
use Rattle.mpy_tree.specs.Faults.{entry_fault, free_function, names_fault, nodes_fault, or_fault}
use Rattle.mpy_tree.specs.Faults.{slots, slots_fault}
use Rattle.mpy_tree.specs.Rules.{single}
use Rattle.mpy_tree.specs.Running.{found}
use Rattle.choice_tree.specs.Templates.{Correction, Template}
use Rattle.eml_faults.specs.MeaningFaults.{call_cause, is_miscall, is_misprimed, is_twice}
use Rattle.eml_faults.specs.MeaningFaults.{is_unbound, is_unknown_call, meaning_cause}
use Rattle.eml_faults.specs.MeaningFaults.{meaning_fault_behind}
use Rattle.eml_faults.specs.Sides.{nodes}
use Rattle.input_space.specs.Tasks.{entry_at, setting}
use Rattle.typed_programs.proofs.TypingFacts.{are_types}
use Rattle.rewriting_laws.specs.RuleCalls.{CallBuiltinsAlone}
use Rattle.rewriting_laws.specs.TaskLaws.{CandidatesAreTypedAndUnshared}
use Rattle.rewriting_laws.proofs.FromTrees.{rewritings_alike}
use Rattle.rewriting_laws.proofs.OwnNames.{own_names}
use Rattle.rewriting_laws.proofs.Typed.{still_types}
use Rattle.rewriting_laws.proofs.Unshared.{unshared}
use Rattle.mpy_type_laws.proofs.Nothing.{none_both}
use Rattle.eml_faults.proofs.Faultless.{no_cause}

not_first : (b : Bool) (c : Cause) (o : Option Cause) → (if b then Some c else o) ≡ None
    → (b ≡ false) × (o ≡ None)
not_first false c o h = (refl, h)
not_first true c o h = cc

known_calls : (ps : List Template) → call_cause ps ≡ None → list_any is_unknown_call ps ≡ false
known_calls ps h =
    (not_first (list_any is_unknown_call ps) cause.Name
    (if list_any is_miscall ps then Some cause.Arity else None) h).0

rule_calls : (before : List Correction) (r : Correction) → meaning_cause before r ≡ None
    → list_any is_unknown_call (nodes r.right) ≡ false
rule_calls before r h =
    let calls = call_cause (nodes r.right) in
    let primes = if is_misprimed r then Some cause.RulePrime else calls in
    let metas = if is_unbound r then Some cause.RuleMeta else primes in
    let once = not_first (is_twice before r) cause.RuleTwice metas h in
    let bound = not_first (is_unbound r) cause.RuleMeta primes once.1 in
    known_calls (nodes r.right) (not_first (is_misprimed r) cause.RulePrime calls bound.1).1

pub rules_call : (before rules : List Correction) → meaning_fault_behind before rules ≡ None
    → CallBuiltinsAlone rules
rules_call before [] h = All-nil (λ r. list_any is_unknown_call (nodes r.right) ≡ false)
rules_call before (r ∷ rs) h =
    let rest = meaning_fault_behind (before ++ r ∷ []) rs in
    let both = no_cause (meaning_cause before r) r.line rest h in
    All-cons (λ q. list_any is_unknown_call (nodes q.right) ≡ false) r rs
    (rule_calls before r both.0) (rules_call (before ++ r ∷ []) rs both.1)

pub candidates : CandidatesAreTypedAndUnshared
candidates k p cost edits sound rewritten =
    let s = k.submission in
    let entry = entry_at k.bounds in
    let typing = sound.submission.typing in
    let F = typing.set in
    let names =
    (none_both (names_fault s)
    (or_fault (entry_fault (found s entry.name) (length entry.types))
    (or_fault (slots_fault (free_function s entry) F (slots s)) (nodes_fault (single F) s)))
    typing.faultless).0 in
    let types = are_types k.submission_types s entry typing in
    record {
      typed = still_types k.rules k.submission_types s p entry types cost edits rewritten;
      unshared =
          unshared (setting k) (rules_call [] k.rules sound.no_meaning_fault) p
          (rewritings_alike (setting k) s p cost edits rewritten) (own_names s names)
          sound.submission.unshared;
    }
