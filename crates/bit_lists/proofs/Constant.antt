-- Lists of given numbers.
use Rattle.std.proofs.Common.{◌≡◌, ℕ, ◌<◌, ◌≤◌, Bool, true, List, [], length, map, take, All, ap, ◌∙◌, arith, get_or}
use Rattle.std.specs.Prelude.{ℤ, pos}
use Rattle.std.proofs.lemmas.List.{ext_get_or, get_or-map, get_or-take, length-map}
use Rattle.std.proofs.lemmas.List.Elements.{All-get_or}
use Rattle.bit_words.specs.Words.{fits, int_of}
use Rattle.bit_lists.proofs.Joining.{length_taken}

pub all_numbers : (w : ℕ) (zs : List ℤ) (new : List (List Bool)) (n : ℕ) → n ≡ length zs → length zs ≤ length new → All (λ z. fits w z ≡ true) zs
    → ((k : ℕ) → k < length zs → fits w (get_or zs k (pos 0)) ≡ true → int_of (get_or new k []) ≡ get_or zs k (pos 0)) → map int_of (take n new) ≡ zs
all_numbers w zs new n end fits_in all item =
    let first : length (take n new) ≡ n = length_taken n new (omega arith) in
    let left : length (map int_of (take n new)) ≡ n = simp length-map first in
    ext_get_or (pos 0) _ _ (left ∙ end) (λ i l.
    let lt : i < n = omega arith in
    get_or-map int_of (take n new) i [] (pos 0) (omega arith) ∙ ap int_of (get_or-take n new i [] lt)
    ∙ item i (omega arith) (All-get_or (λ z. fits w z ≡ true) zs i (pos 0) (omega arith) all))
