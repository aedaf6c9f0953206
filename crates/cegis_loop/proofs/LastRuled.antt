-- The end of a search has the cases of the last refuted question for a choice.
use Rattle.std.specs.Prelude.{◌≡◌, ℕ, List, refl}
use Rattle.cegis_loop.specs.Space.{Space}
use Rattle.cegis_loop.specs.State.{Told}
use Rattle.cegis_loop.specs.Order.{Asks, first_refuted, first_open, first_left, low_refuted, any_refuted, low_open, low_left, fail_refuted, fail_open, fail_left, Due, End, NoInput, NoChoice, Settled, Unfinished}
use Rattle.cegis_loop.specs.OrderLaws.{last_ruled, SettledOverLastRuled}

abbrev IsOverLast : {C : Type 0} → ℕ → List (Told C) → End C → Type 0
IsOverLast n asked NoInput = Unit {0}
IsOverLast n asked NoChoice = Unit {0}
IsOverLast n asked (Settled c cases) = cases ≡ last_ruled n asked
IsOverLast n asked Unfinished = Unit {0}

over_last : {C I : Type 0} {s : Space C I} {due : Due C} {ruled : ℕ} {before later : List I} {asked : List (Told C)} {end : End C}
    → Asks s due ruled before later asked end → IsOverLast ruled asked end
over_last first_refuted = tt
over_last (first_open m h) = over_last h
over_last first_left = tt
over_last (low_refuted e h) = over_last h
over_last (any_refuted e) = tt
over_last (low_open e low h) = over_last h
over_last (low_left e) = tt
over_last fail_refuted = refl
over_last (fail_open f h) = over_last h
over_last fail_left = tt

pub settled_over_last : {C I : Type 0} (s : Space C I) → SettledOverLastRuled s
settled_over_last s kept asked c cases h = over_last h
