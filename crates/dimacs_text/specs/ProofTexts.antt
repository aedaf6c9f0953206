-- Texts of logs.
use Rattle.std.specs.Prelude.{◌≡◌, ℕ, suc, true, List, [], ◌∷◌, ◌++◌, length, map, codes}
use Rattle.std.specs.List.{list_all}
use Rattle.clause_base.specs.declared.log.Step.{Step}
use Rattle.step_lines.specs.LineForms.{step_line}
use Rattle.step_lines.specs.Limits.{KeepsSteps}
use Rattle.step_lines.specs.Lines.{ended, lacks}

-- the lines of steps, and the last line
abbrev pub proof_lines : List Step → List (List ℕ)
proof_lines steps = map step_line steps ++ codes "end" ∷ []

-- the lines spell the steps, of which the first has the number behind the known clauses
pub record SpellsProof (known vars : ℕ) (lines : List (List ℕ)) (steps : List Step) : Type 0 where
  pub written : lines ≡ proof_lines steps
  pub kept : KeepsSteps vars (suc known) steps

-- the text of a log, each line of which has its end
abbrev pub IsProofOf : ℕ → ℕ → List ℕ → List Step → Type 0
IsProofOf known vars text steps =
    (text ≡ ended (proof_lines steps)) × KeepsSteps vars (suc known) steps

-- lines with which some text of the form begins
pub record ProofCanGoOn (known vars : ℕ) (lines : List (List ℕ)) : Type 0 where
  pub more : List (List ℕ)
  pub steps : List Step
  pub spelled : SpellsProof known vars (lines ++ more) steps

-- The least line at which the form can't go on: it can up to that line, and not behind it. Where
-- an end is missing, that is the line after the last that has its end.
pub record ProofStopsAt (known vars : ℕ) (text : List ℕ) (number : ℕ) : Type 0 where
  pub front : List (List ℕ)
  pub apart : list_all (lacks 10) front ≡ true
  pub behind : List ℕ
  pub cut : text ≡ ended front ++ behind
  pub counted : number ≡ suc (length front)
  pub before : ProofCanGoOn known vars front
  pub here : (line rest : List ℕ) → behind ≡ line ++ (10 ∷ rest) → lacks 10 line ≡ true
      → ProofCanGoOn known vars (front ++ line ∷ []) → ⊥
