-- The words of `mpyclass`.
use Rattle.std.specs.Prelude.{◌≡◌, ℕ, List, [], ◌∷◌, codes}
use Rattle.std.specs.Fmt.{decimal}
use Rattle.grade_core.specs.Words.{GradeWords, IsBudget}

-- four names of files, and the budget of each submission
pub record ClassWords : Type 0 where
  pub bounds : List ℕ
  pub reference : List ℕ
  pub rules : List ℕ
  pub list : List ℕ
  pub budget : ℕ

abbrev pub class_words : ClassWords → List (List ℕ)
class_words w = w.bounds ∷ w.reference ∷ w.rules ∷ w.list ∷ decimal w.budget ∷ []

abbrev pub Asks : List (List ℕ) → ClassWords → Type 0
Asks words w = (words ≡ class_words w) × IsBudget w.budget

-- the words ask for no class
abbrev pub AskNothing : List (List ℕ) → Type 0
AskNothing words = (w : ClassWords) → Asks words w → ⊥

abbrev pub usage_text : List ℕ
usage_text = codes "usage: mpyclass BOUNDS REF RULES LIST BUDGET\n"

-- the words by which `grade` would be asked for a listed file, with no certificate to be stored
abbrev pub grade_words : ClassWords → List ℕ → GradeWords
grade_words w name = record {
  bounds = w.bounds;
  reference = w.reference;
  submission = name;
  rules = w.rules;
  cert = [];
  budget = w.budget;
}
