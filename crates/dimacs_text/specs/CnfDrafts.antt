-- What the words that were read have told.
use Rattle.std.specs.Prelude.{◌≡◌, ◌≢◌, ◌⊎◌, ℕ, ◌<◌, true, List, [], ◌∷◌, ◌++◌, length, map}
use Rattle.std.specs.Prelude.{filter_map}
use Rattle.clause_base.specs.declared.formula.Formula.{Formula}
use Rattle.clause_base.specs.declared.lit.Lit.{Lit}
use Rattle.step_lines.specs.LineForms.{literal_text}
use Rattle.step_lines.specs.Words.{SpellsLiteral}
use Rattle.dimacs_text.specs.declared.draft.Draft.{Draft}
use Rattle.dimacs_text.specs.CnfTexts.{are_within, clauses_words, zero_word}
use Rattle.dimacs_text.specs.Tidy.{literals_of, tidied}

-- whole clauses, and one that was begun
pub record IsDraft (words : List (List ℕ)) (d : Draft) : Type 0 where
  pub whole : List (List Lit)
  pub written : words ≡ clauses_words whole ++ map literal_text d.pending
  pub within : are_within d.vars whole ≡ true
  pub counted : d.done ≡ length whole
  pub kept : literals_of d.clauses ≡ filter_map tidied whole
  pub room : d.pending ≢ [] → d.done < d.count

-- what words add
pub record Grows (d : Draft) (more : List (List ℕ)) (e : Draft) : Type 0 where
  pub vars : e.vars ≡ d.vars
  pub count : e.count ≡ d.count
  pub grown : (words : List (List ℕ)) → IsDraft words d → IsDraft (words ++ more) e

-- a word that can't come next: there are enough clauses, or it is no number of the form
abbrev pub IsStuck : Draft → List ℕ → Type 0
IsStuck d word = (d.done ≡ d.count) ⊎
    ((word ≢ zero_word) × ((l : Lit) → SpellsLiteral d.vars word l → ⊥))

-- words with such a word among them
pub record IsStuckIn (d : Draft) (words : List (List ℕ)) : Type 0 where
  pub front : List (List ℕ)
  pub word : List ℕ
  pub back : List (List ℕ)
  pub cut : words ≡ front ++ word ∷ back
  pub last : Draft
  pub grows : Grows d front last
  pub stuck : IsStuck last word

-- too few clauses, or one that was begun
abbrev pub IsUnfinished : Draft → Type 0
IsUnfinished d = (d.done ≢ d.count) ⊎ (d.pending ≢ [])

pub record IsFinished (d : Draft) (f : Formula) : Type 0 where
  pub enough : d.done ≡ d.count
  pub ended : d.pending ≡ []
  pub vars : f.vars ≡ d.vars
  pub clauses : f.clauses ≡ d.clauses
