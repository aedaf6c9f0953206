-- What the interpreter's answers say.
use Rattle.std.specs.Prelude.{◌≡◌, ⊤, ℕ, List, ◌++◌, ◌∷◌, [], Option, Some, None, Bool, ℤ}
use Rattle.std.specs.declared.result.Result.{Result}
use Rattle.std.specs.declared.result.Result.TheVariants.{Ok}
use Rattle.mpy_tree.specs.declared.value.Value.{Value}
use Rattle.mpy_tree.specs.declared.value.Value.TheVariants.{Int, Bool as Truth, Text}
use Rattle.mpy_tree.specs.declared.outcome.Halted.{Halted}
use Rattle.mpy_tree.specs.declared.limits.Limits.{Limits}
use Rattle.mpy_tree.specs.Values.{◌>>=◌, on_line}
use Rattle.mpy_tree.specs.Operations.{length_of}

-- the values so far, and then the others
abbrev pub after : List Value → Result (List Value) Halted → Result (List Value) Halted
after done r = r >>= λ vs. Ok (done ++ vs)

-- the one character of a text that was found is what the definition gives
abbrev pub GivesCharacter : Option ℕ → Result Value Halted → Type 0
GivesCharacter None m = ⊤
GivesCharacter (Some c) m = m ≡ Ok (Text (c ∷ []))

-- a truth that was found is what the definition gives
abbrev pub GivesTruth : Option Bool → Result Value Halted → Type 0
GivesTruth None m = ⊤
GivesTruth (Some b) m = m ≡ Ok (Truth b)

-- the length of a value that was given
abbrev pub length_given : Limits → ℕ → Result Value Halted → Result Value Halted
length_given l line r = r >>= λ v. on_line line (length_of l v)

-- a number that was found is what the definition gives, alone
abbrev pub GivesNumberAlone : Option ℤ → Result (List Value) Halted → Type 0
GivesNumberAlone None m = ⊤
GivesNumberAlone (Some z) m = m ≡ Ok (Int z ∷ [])
