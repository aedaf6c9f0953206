-- What a file spells, and whether it is refused, are one thing.
use Rattle.std.specs.Prelude.{◌≡◌, ◌⊎◌, ℕ, Bool, true, false, List}
use Rattle.mpy_tree.specs.declared.refusal.Cause.{Cause}
use Rattle.mpy_tree.specs.declared.refusal.Cause.TheVariants as cause
use Rattle.choice_tree.specs.Templates.{Correction}
use Rattle.eml_reader.specs.RuleFiles.{IsRules, IsRefused}

-- bytes spell the rules of one file at most
abbrev pub OneReading : Type 0
OneReading =
    (bytes : List ℕ) (rs qs : List Correction) → IsRules bytes rs → IsRules bytes qs → rs ≡ qs

-- bytes spell rules, or are refused for a cause at a line
abbrev pub IsJudged : List ℕ → Type 0
IsJudged bytes =
    ((rs : List Correction) × IsRules bytes rs)
    ⊎ ((c : Cause) × (line : ℕ) × IsRefused bytes c line)

-- each file is one or the other
abbrev pub ReadOrRefused : Type 0
ReadOrRefused = (bytes : List ℕ) → IsJudged bytes

-- bytes that spell rules aren't refused
abbrev pub NotReadAndRefused : Type 0
NotReadAndRefused =
    (bytes : List ℕ) (rs : List Correction) (c : Cause) (line : ℕ) → IsRules bytes rs
    → IsRefused bytes c line → ⊥

-- bytes are refused for one cause, at one line
abbrev pub OneRefusal : Type 0
OneRefusal =
    (bytes : List ℕ) (c d : Cause) (m n : ℕ) → IsRefused bytes c m → IsRefused bytes d n
    → (c ≡ d) × (m ≡ n)

-- the causes for which rules are refused
abbrev pub is_cause_of_rules : Cause → Bool
is_cause_of_rules cause.Byte = true
is_cause_of_rules cause.Token = true
is_cause_of_rules cause.Syntax = true
is_cause_of_rules cause.Limit = true
is_cause_of_rules cause.Name = true
is_cause_of_rules cause.Arity = true
is_cause_of_rules cause.RuleMeta = true
is_cause_of_rules cause.RulePrime = true
is_cause_of_rules cause.RuleTwice = true
is_cause_of_rules _ = false

-- bytes are refused for one of these nine
abbrev pub OneOfNine : Type 0
OneOfNine =
    (bytes : List ℕ) (c : Cause) (line : ℕ) → IsRefused bytes c line → is_cause_of_rules c ≡ true
