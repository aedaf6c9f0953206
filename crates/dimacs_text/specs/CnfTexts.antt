-- Texts of formulas: DIMACS CNF in one profile.
use Rattle.std.specs.Prelude.{◌≡◌, ◌≢◌, ℕ, suc, ◌≤◌, Bool, true, not, ◌||◌, ◌==◌, List, [], ◌∷◌}
use Rattle.std.specs.Prelude.{◌++◌, length, map, codes, flat_map, if◌then◌else◌}
use Rattle.std.specs.List.{list_all}
use Rattle.std.specs.Fmt.{decimal}
use Rattle.clause_base.specs.Formulas.{in_range}
use Rattle.clause_base.specs.declared.lit.Lit.{Lit}
use Rattle.step_lines.specs.LineForms.{literal_text}
use Rattle.step_lines.specs.Lines.{lacks}
use Rattle.dimacs_text.specs.TextLines.{begins, is_blank, is_space, lines_of, words_of}

abbrev pub most_vars : ℕ
most_vars = 1000000

abbrev pub most_clauses : ℕ
most_clauses = 3000000

-- spaces or tabs, at least one
pub record IsGap (gap : List ℕ) : Type 0 where
  pub some : gap ≢ []
  pub blank : list_all is_blank gap ≡ true

-- the line of the two numbers: how many variables, and how many clauses
pub record SpellsHeader (line : List ℕ) (vars count : ℕ) : Type 0 where
  pub first : List ℕ
  pub second : List ℕ
  pub third : List ℕ
  pub last : List ℕ
  pub written : line ≡ codes "p" ++ (first ++ (codes "cnf" ++ (second ++ (decimal vars
      ++ (third ++ (decimal count ++ last))))))
  pub first_gap : IsGap first
  pub second_gap : IsGap second
  pub third_gap : IsGap third
  pub last_spaces : list_all is_space last ≡ true
  pub few_vars : vars ≤ most_vars
  pub few_clauses : count ≤ most_clauses

-- a comment, which begins with `c`, or a line without words
abbrev pub is_passed : List ℕ → Bool
is_passed line = begins 99 line || list_all is_space line

-- a line that begins with `%` ends the text
abbrev pub is_inside : List ℕ → Bool
is_inside line = not (begins 37 line)

abbrev pub starts_outside : List (List ℕ) → Bool
starts_outside [] = true
starts_outside (line ∷ lines) = begins 37 line

-- the words of a line, of which a comment has none
abbrev pub body_words : List ℕ → List (List ℕ)
body_words line = if begins 99 line then [] else words_of line

abbrev pub zero_word : List ℕ
zero_word = codes "0"

-- the words of a clause, and of clauses
abbrev pub clause_words : List Lit → List (List ℕ)
clause_words lits = map literal_text lits ++ zero_word ∷ []

abbrev pub clauses_words : List (List Lit) → List (List ℕ)
clauses_words clauses = flat_map clause_words clauses

-- each variable is one of those from 1 to `vars`
abbrev pub are_within : ℕ → List (List Lit) → Bool
are_within vars clauses = list_all (λ lits. list_all (in_range vars) lits) clauses

-- The lines spell clauses, as they stand there, over the variables from 1 to `vars`.
pub record SpellsCnf (lines : List (List ℕ)) (vars : ℕ) (clauses : List (List Lit)) : Type 0 where
  pub before : List (List ℕ)
  pub header : List ℕ
  pub body : List (List ℕ)
  pub behind : List (List ℕ)
  pub written : lines ≡ before ++ header ∷ (body ++ behind)
  pub passed : list_all is_passed before ≡ true
  pub headed : SpellsHeader header vars (length clauses)
  pub inside : list_all is_inside body ≡ true
  pub outside : starts_outside behind ≡ true
  pub words : flat_map body_words body ≡ clauses_words clauses
  pub within : are_within vars clauses ≡ true

-- lines with which some text of the form begins
pub record CanGoOn (lines : List (List ℕ)) : Type 0 where
  pub more : List (List ℕ)
  pub apart : list_all (lacks 10) more ≡ true
  pub vars : ℕ
  pub clauses : List (List Lit)
  pub spelled : SpellsCnf (lines ++ more) vars clauses

-- The least line at which the form can't go on: it can up to that line, and not behind it. Where
-- an end is missing, that is the line after the last.
pub record StopsAt (text : List ℕ) (number : ℕ) : Type 0 where
  pub front : List (List ℕ)
  pub behind : List (List ℕ)
  pub cut : lines_of text ≡ front ++ behind
  pub counted : number ≡ suc (length front)
  pub before : CanGoOn front
  pub here : (line : List ℕ) (rest : List (List ℕ)) → behind ≡ line ∷ rest
      → CanGoOn (front ++ line ∷ []) → ⊥
