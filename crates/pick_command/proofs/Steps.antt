-- What the texts of a request are read to, step after step.
use Rattle.std.proofs.Common.{ℕ, List, ◌∷◌, refl, inl, inr}
use Rattle.mpy_tree.specs.declared.refusal.Cause.TheVariants as cause
use Rattle.mpy_tree.specs.declared.refusal.Refusal.{Refusal}
use Rattle.input_space.specs.Agreement.{EndsSomewhere}
use Rattle.pick_command.specs.Decisions.{Request, at_reference, first_place, parts_step, pick_step, request_step, types_step}
use Rattle.pick_command.specs.Weights.{AreTooLarge}

module _ (texts : List (List ℕ)) where
  pub at_parts : (q : Refusal) → (parts_step texts).refuses q → (request_step texts).refuses q
  at_parts q h = inl h

  pub at_request : (q : Refusal) → (request_step texts).refuses q → (pick_step texts).refuses q
  at_request q h = inl h

  module _ (k : Request) where
    module _ (read : (parts_step texts).gives k) where
      pub at_types : (q : Refusal)
          → (types_step k.bounds k.reference first_place k.submissions).refuses q
          → (request_step texts).refuses q
      at_types q h = inr (record { first = k; given = read; second = inl h })

      module _ (u : Unit) (same : (types_step k.bounds k.reference first_place k.submissions).gives u) where
        pub at_large : AreTooLarge k.bounds (k.reference ∷ k.submissions)
            → (request_step texts).refuses (at_reference cause.TooLarge k)
        at_large h = inr (record {
          first = k;
          given = read;
          second = inr (record { first = u; given = same; second = inl (h, refl) });
        })

        pub request_read : (AreTooLarge k.bounds (k.reference ∷ k.submissions) → ⊥)
            → (request_step texts).gives k
        request_read small = record {
          first = k;
          given = read;
          second = record {
            first = u;
            given = same;
            second = record { first = tt; given = small; second = refl };
          };
        }

    module _ (asked : (request_step texts).gives k) where
      pub at_empty : (EndsSomewhere k.bounds k.reference.program → ⊥)
          → (pick_step texts).refuses (at_reference cause.EmptyReference k)
      at_empty none = inr (record { first = k; given = asked; second = inl (none, refl) })

      pub all_read : EndsSomewhere k.bounds k.reference.program → (pick_step texts).gives k
      all_read ends = record {
        first = k;
        given = asked;
        second = record { first = tt; given = λ none. none ends; second = refl };
      }
