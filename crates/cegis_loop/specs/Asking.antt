-- What a question leaves behind, by its answer.
use Rattle.std.specs.Prelude.{◌≡◌, ◌≤◌, List, [], ◌∷◌, ◌++◌, option_map}
use Rattle.cegis_loop.specs.declared.asked.Asked.{Asked}
use Rattle.cegis_loop.specs.declared.asked.Asked.TheVariants.{Found, Nothing, Spent, NoMemory}
use Rattle.cegis_loop.specs.Space.{Space}
use Rattle.cegis_loop.specs.State.{Question, Told, Refuted, Open, State}

-- a fact of what was found
abbrev pub IfFound : {T : Type 0} → Asked T → (T → Type 0) → Type 0
IfFound (Found x) fact = fact x
IfFound Nothing fact = Unit {0}
IfFound Spent fact = Unit {0}
IfFound NoMemory fact = Unit {0}

-- a fact, where the answer is this one
abbrev pub OnNothing : {T : Type 0} → Asked T → Type 0 → Type 0
OnNothing (Found x) fact = Unit {0}
OnNothing Nothing fact = fact
OnNothing Spent fact = Unit {0}
OnNothing NoMemory fact = Unit {0}

abbrev pub OnSpent : {T : Type 0} → Asked T → Type 0 → Type 0
OnSpent (Found x) fact = Unit {0}
OnSpent Nothing fact = Unit {0}
OnSpent Spent fact = fact
OnSpent NoMemory fact = Unit {0}

abbrev pub OnNoMemory : {T : Type 0} → Asked T → Type 0 → Type 0
OnNoMemory (Found x) fact = Unit {0}
OnNoMemory Nothing fact = Unit {0}
OnNoMemory Spent fact = Unit {0}
OnNoMemory NoMemory fact = fact

-- what was found, as a list
abbrev pub found : {T : Type 0} → Asked T → List T
found (Found x) = x ∷ []
found Nothing = []
found Spent = []
found NoMemory = []

-- what is told of a question
abbrev pub tells : {C T : Type 0} → Question C → Asked T → List (Told C)
tells question (Found x) = Open question ∷ []
tells question Nothing = Refuted question ∷ []
tells question Spent = Open question ∷ []
tells question NoMemory = []

-- What a question leaves behind besides the inputs that are kept: where questions are told, it is
-- told behind those before it; no more clauses are logged than the budget, and exactly as many
-- where the budget is called spent; where memory lacked all is as before.
pub record IsAsked {C I T : Type 0} (s : Space C I) (question : Question C) (answer : Asked T)
    (old new : State C I) : Type 0 where
  pub told : new.told ≡ option_map (λ asked. asked ++ tells question answer) old.told
  pub budget : new.logged ≤ s.budget
  pub spent : OnSpent answer (new.logged ≡ s.budget)
  pub no_memory : OnNoMemory answer (new ≡ old)
