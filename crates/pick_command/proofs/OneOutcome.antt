-- What the texts of a request decide is one thing, and so is their refusal.
use Rattle.std.proofs.Common.{ℕ, suc, List, [], ◌∷◌}
use Rattle.mpy_tree.specs.Entries.{Entry}
use Rattle.mpy_tree.specs.declared.refusal.Source.TheVariants as source
use Rattle.bounds_reader.specs.declared.bounds.Bounds.{Bounds}
use Rattle.input_space.specs.Tasks.{entry_at}
use Rattle.task_read.specs.Sources.{Typed}
use Rattle.task_read.specs.Steps.{IsOne}
use Rattle.task_read.proofs.OneStep.{one_bounds_step, one_program_step}
use Rattle.task_read.proofs.Steps.{one_done, one_refuse, one_then}
use Rattle.pick_command.specs.Decisions.{first_place, parts_step, pick_step, programs_step, request_step, types_step}

one_programs : (n : ℕ) (texts : List (List ℕ)) (e : Entry) → IsOne (programs_step n texts e)
one_programs n [] e = one_done []
one_programs n (text ∷ texts) e =
    one_then _ _ (one_program_step (source.Word n) text e) (λ p.
    one_then _ _ (one_programs (suc n) texts e) (λ ps. one_done (p ∷ ps)))

one_types : (b : Bounds) (r : Typed) (n : ℕ) (ps : List Typed) → IsOne (types_step b r n ps)
one_types b r n [] = one_done tt
one_types b r n (p ∷ ps) = one_then _ _ (one_refuse _ _) (λ same. one_types b r (suc n) ps)

one_parts : (texts : List (List ℕ)) → IsOne (parts_step texts)
one_parts [] = record { gives = λ a b x y. absurd x; refuses = λ q r x y. absurd x; not_both = λ a r x y. x }
one_parts (a ∷ []) = record { gives = λ a b x y. absurd x; refuses = λ q r x y. absurd x; not_both = λ a r x y. x }
one_parts (bounds ∷ reference ∷ submissions) =
    one_then _ _ (one_bounds_step bounds) (λ b.
    one_then _ _ (one_program_step source.Reference reference (entry_at b)) (λ r.
    one_then _ _ (one_programs first_place submissions (entry_at b)) (λ ps. one_done _)))

one_request : (texts : List (List ℕ)) → IsOne (request_step texts)
one_request texts =
    one_then _ _ (one_parts texts) (λ k.
    one_then _ _ (one_types k.bounds k.reference first_place k.submissions) (λ same.
    one_then _ _ (one_refuse _ _) (λ small. one_done k)))

pub one_pick : (texts : List (List ℕ)) → IsOne (pick_step texts)
one_pick texts =
    one_then _ _ (one_request texts) (λ k. one_then _ _ (one_refuse _ _) (λ ends. one_done k))
