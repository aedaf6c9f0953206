-- The lines of a certificate, each from what it tells. The words of a line have one space between
-- each two; numbers are decimal without a leading zero.
use Rattle.std.specs.Prelude.{◌≡◌, ℕ, List, [], ◌∷◌, ◌++◌, Option, Some, None, map, codes}
use Rattle.std.specs.Fmt.{decimal}
use Rattle.choice_tree.specs.declared.selection.Choice.{Choice}
use Rattle.clause_base.specs.declared.clause.Clause.{Clause}
use Rattle.input_space.specs.Cases.{SpellsCase}
use Rattle.input_space.specs.declared.case.Case.{Case}
use Rattle.input_space.specs.declared.session.Query.{Query}
use Rattle.input_space.specs.declared.session.Query.TheVariants as query
use Rattle.cert_text.specs.declared.cert.Claim.{Claim}
use Rattle.cert_text.specs.declared.cert.Claim.TheVariants as claim
use Rattle.step_lines.specs.LineForms.{list_end, literals_text}
use Rattle.step_lines.specs.Lines.{spaced}

abbrev pub first_line : List ℕ
first_line = codes "mpycert 1"

abbrev pub last_line : List ℕ
last_line = codes "end"

abbrev pub claim_line : Claim → List ℕ
claim_line (claim.Cost n) = codes "claim cost " ++ decimal n
claim_line claim.Nothing = codes "claim none"
claim_line (claim.Spent n) = codes "claim spent " ++ decimal n

-- a pick and its member
abbrev pub choice_text : Choice → List ℕ
choice_text c = decimal c.pick ++ (codes ":" ++ decimal c.member)

abbrev pub choices_text : List Choice → List ℕ
choices_text choices = spaced (map choice_text choices)

abbrev pub selection_line : List Choice → List ℕ
selection_line choices = codes "selection" ++ choices_text choices

-- a text behind a space; nothing for the empty text
abbrev pub set_apart : List ℕ → List ℕ
set_apart [] = []
set_apart (c ∷ cs) = 32 ∷ c ∷ cs

-- the values of a case, as they are spelled
pub record SpellsCaseLine (line : List ℕ) (c : Case) : Type 0 where
  pub text : List ℕ
  pub written : line ≡ codes "case" ++ set_apart text
  pub spelled : SpellsCase text c.values

-- the greatest cost that is asked for, or `any` where there is no bound
abbrev pub most_text : Option ℕ → List ℕ
most_text None = codes "any"
most_text (Some most) = decimal most

abbrev pub query_line : Query → List ℕ
query_line query.First = codes "session first"
query_line (query.Low most cases) =
    codes "session low" ++ spaced (most_text most ∷ decimal cases ∷ [])
query_line (query.Fail choices) = codes "session fail" ++ choices_text choices

abbrev pub vars_line : ℕ → List ℕ
vars_line vars = codes "vars " ++ decimal vars

abbrev pub clause_line : Clause → List ℕ
clause_line c = codes "f" ++ (literals_text c.lits ++ list_end)
