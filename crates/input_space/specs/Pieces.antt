-- How far the text of the first value goes, where there is one.
use Rattle.std.specs.Prelude.{ℕ, suc, Bool, true, false, not, ◌==◌, List, [], ◌∷◌, min, length}
use Rattle.std.specs.Prelude.{if◌then◌else◌}
use Rattle.std.specs.List.{prefix_len}
use Rattle.mpy_lexer.specs.Bytes.{is_quote}

-- up to a comma
abbrev pub number_len : List ℕ → ℕ
number_len text = prefix_len (λ c. not (c == 44)) text

-- up to a closing bracket, with it
abbrev pub list_len : List ℕ → ℕ
list_len text = min (suc (prefix_len (λ c. not (c == 93)) text)) (length text)

-- up to the quote, with it, where `escaped` says that a backslash stands before the text
abbrev pub closed_len : ℕ → Bool → List ℕ → ℕ
closed_len quote escaped [] = 0
closed_len quote true (c ∷ cs) = suc (closed_len quote false cs)
closed_len quote false (c ∷ cs) = if c == quote then 1 else suc (closed_len quote (c == 92) cs)

abbrev pub value_len : List ℕ → ℕ
value_len [] = 0
value_len (c ∷ cs) =
    if is_quote c then suc (closed_len c false cs)
    else if c == 91 then list_len (c ∷ cs)
    else number_len (c ∷ cs)
