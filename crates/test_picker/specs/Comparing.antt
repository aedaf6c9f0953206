-- What a bit tells of two outcomes.
use Rattle.std.specs.Prelude.{◌≡◌, Bool, true, false}
use Rattle.mpy_tree.specs.declared.outcome.Outcome.{Outcome}
use Rattle.mpy_tree.specs.Outcomes.{is_done}

-- the outcome that is given is the one that is wanted, where that is a value
abbrev pub AreAlike : Outcome → Outcome → Type 0
AreAlike wanted given = is_done wanted ≡ true → given ≡ wanted

-- the bit is true exactly where it isn't
abbrev pub TellsFailure : Bool → Outcome → Outcome → Type 0
TellsFailure true wanted given = AreAlike wanted given → ⊥
TellsFailure false wanted given = AreAlike wanted given
