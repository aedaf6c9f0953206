-- Picks that read as spelled members.
use Rattle.std.proofs.Common.{◌≡◌, ℕ, zero, suc, Bool, List, [], ◌∷◌, map, Some, subst}
use Rattle.std.specs.Prelude.{slice_get, slice_index_or}
use Rattle.bit_words.specs.Words.{nat_of}
use Rattle.sym_nodes.specs.Environments.{PicksRead}
use Rattle.query_build.proofs.LowGoals.{chosen}

member_there : {B : Type 0} (f : List B → ℕ) (members : List (List B)) (is : List ℕ) (i : ℕ)
    (bits : List B) → map f members ≡ is → slice_get members i ≡ Some bits
    → f bits ≡ slice_index_or is i 0
member_there f [] is i bits e at = absurd cc
member_there f (m ∷ members) [] i bits e at = absurd cc
member_there f (m ∷ members) (j ∷ is) zero bits e at =
    let same : m ≡ bits = cc in
    let one : f m ≡ j = cc in
    subst (λ b. f b ≡ j) same one
member_there f (m ∷ members) (j ∷ is) (suc i) bits e at =
    let rest : map f members ≡ is = cc in member_there f members is i bits rest at

pub picks_read : {B : Type 0} (rd : B → Bool) (members : List (List B)) (is : List ℕ)
    → map (λ bits. nat_of (map rd bits)) members ≡ is → PicksRead rd members (chosen is)
picks_read rd members is e = record {
  member = λ i bits at. member_there (λ bits. nat_of (map rd bits)) members is i bits e at;
}
