-- The value of digits only grows.
use Rattle.std.proofs.Common.{◌≡◌, ℕ, ◌+◌, ◌-◌, ◌*◌, ◌<◌, ◌≤◌, false, List, [], ◌∷◌, length, get_or, drop, sym, ◌∙◌, arith}
use Rattle.std.specs.Prelude.{nat_le}
use Rattle.std.specs.List.{fold}
use Rattle.std.proofs.lemmas.Bool.Decides.{nat_tests}
use Rattle.std.proofs.lemmas.List.{at_drop_more}
use Rattle.mpy_lexer.specs.Pieces.{number_value}

abbrev value_from : ℕ → List ℕ → ℕ
value_from n ds = fold (λ n c. n * 10 + (c - 48)) n ds

grows : (n : ℕ) (ds : List ℕ) → n ≤ value_from n ds
grows n [] = omega arith
grows n (d ∷ ds) = let more = grows (n * 10 + (d - 48)) ds in omega (arith, more)

-- once the value is too large, that of all digits is
pub too_large : (n i : ℕ) (ds : List ℕ) → i < length ds → value_from n (drop i ds) ≡ number_value ds → 2147483647 < n * 10 + (get_or ds i 0 - 48) → false ≡ nat_le (number_value ds) 2147483647
too_large n i ds h so_far large =
    let step : value_from n (drop i ds) ≡ value_from (n * 10 + (get_or ds i 0 - 48)) (drop (i + 1) ds) = at_drop_more (value_from n) ds i 0 h in
    let more = grows (n * 10 + (get_or ds i 0 - 48)) (drop (i + 1) ds) in
    let over : 2147483647 < number_value ds = omega (arith, sym so_far ∙ step, more) in
    grind (arith, nat_tests)
