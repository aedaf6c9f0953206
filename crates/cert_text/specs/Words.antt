-- Words of selections and of questions, and what they spell.
use Rattle.std.specs.Prelude.{◌≡◌, ℕ, true, ◌≤◌, List, [], ◌∷◌, IfSome, Option}
use Rattle.std.specs.Fmt.{decimal}
use Rattle.choice_tree.specs.declared.selection.Choice.{Choice}
use Rattle.input_space.specs.declared.session.Query.{Query}
use Rattle.input_space.specs.declared.session.Query.TheVariants as query
use Rattle.step_lines.specs.Limits.{greatest_number}
use Rattle.step_lines.specs.Lines.{spaced}
use Rattle.cert_text.specs.Limits.{KeepsChoices, greatest_cost, is_choice}
use Rattle.cert_text.specs.LineForms.{choice_text, choices_text, most_text}

pub record SpellsChoice (text : List ℕ) (c : Choice) : Type 0 where
  pub written : text ≡ choice_text c
  pub kept : is_choice c ≡ true

pub record SpellsChoices (text : List ℕ) (choices : List Choice) : Type 0 where
  pub written : text ≡ choices_text choices
  pub kept : KeepsChoices choices

-- a bound of the cost, or none
pub record SpellsMost (text : List ℕ) (most : Option ℕ) : Type 0 where
  pub written : text ≡ most_text most
  pub kept : IfSome most (λ k. k ≤ greatest_cost)

-- a bound of the cost, and how many of the first cases
pub record SpellsLow (count : ℕ) (text : List ℕ) (most : Option ℕ) (cases : ℕ) : Type 0 where
  pub written : text ≡ spaced (most_text most ∷ decimal cases ∷ [])
  pub bound : IfSome most (λ k. k ≤ greatest_cost)
  pub within : cases ≤ count
  pub number : cases ≤ greatest_number

-- the questions that stand behind their names
pub record AsksLow (count : ℕ) (text : List ℕ) (q : Query) : Type 0 where
  pub most : Option ℕ
  pub cases : ℕ
  pub spelled : SpellsLow count text most cases
  pub asked : q ≡ query.Low most cases

pub record AsksFail (text : List ℕ) (q : Query) : Type 0 where
  pub choices : List Choice
  pub spelled : SpellsChoices text choices
  pub asked : q ≡ query.Fail choices
