-- The rules of logical lines, read from the first line on.
use Rattle.std.specs.Prelude.{ℕ, ◌&&◌, List, [], ◌∷◌, ◌++◌, Option, Some}
use Rattle.std.specs.Prelude.{None}
use Rattle.std.specs.Prelude.{option_map, Result, Ok, Err, if◌then◌else◌, codes}
use Rattle.std.specs.Option.{option_to_list}
use Rattle.mpy_lexer.specs.declared.token.Token.{Token}
use Rattle.mpy_lexer.specs.declared.line.Line.{Line}
use Rattle.mpy_lexer.specs.Pieces.{number_of}
use Rattle.mpy_lexer.specs.TextLiterals.{literal_characters}
use Rattle.choice_tree.specs.declared.rules.Place.{Place}
use Rattle.choice_tree.specs.Templates.{Correction, Template}
use Rattle.eml_sides.specs.SideReading.{left_of, right_of}
use Rattle.eml_reader.specs.RuleLines.{is_arrow, is_mark, is_name, is_number, is_text, is_word}
use Rattle.eml_reader.specs.RuleLines.{with_message}

-- the number before a colon, and what stands behind it
abbrev pub number_at : List Token → Option (ℕ × List Token)
number_at [] = None
number_at (n ∷ []) = None
number_at (n ∷ c ∷ ts) =
    if is_number n.kind && is_mark (codes ":") c then option_map (λ k. (k, ts)) (number_of n.text)
    else None

-- the cost behind a rule's name, and what stands behind the colon
abbrev pub cost_at : List Token → Option (ℕ × List Token)
cost_at [] = None
cost_at (t ∷ ts) =
    if is_mark (codes ":") t then Some (1, ts)
    else if is_word (codes "cost") t then number_at ts
    else None

-- a rule's name, its cost, and the tokens of its sides
pub record Headed : Type 0 where
  pub name : List ℕ
  pub cost : ℕ
  pub sides : List Token

abbrev pub headed : List ℕ → ℕ × List Token → Headed
headed name c = record { name = name; cost = c.0; sides = c.1 }

abbrev pub head_of : List Token → Option Headed
head_of [] = None
head_of (r ∷ []) = None
head_of (r ∷ x ∷ ts) =
    if is_word (codes "rule") r && is_name x.kind then option_map (headed x.text) (cost_at ts)
    else None

-- what stands before the first arrow, and what stands behind it
abbrev pub before_too : Token → List Token × List Token → List Token × List Token
before_too t p = (t ∷ p.0, p.1)

abbrev pub at_arrow : List Token → Option (List Token × List Token)
at_arrow [] = None
at_arrow (t ∷ ts) = if is_arrow t then Some ([], ts) else option_map (before_too t) (at_arrow ts)

abbrev pub rule_from : ℕ → Headed → Option (Place × Template) → Option (Place × Template)
    → Option Correction
rule_from line h (Some a) (Some b) =
    Some (record {
      line = line;
      name = h.name;
      cost = h.cost;
      place = a.0;
      left = a.1;
      right_place = b.0;
      right = b.1;
      say = None;
    })
rule_from line h (Some a) None = None
rule_from line h None b = None

abbrev pub rule_of_sides : ℕ → Headed → Option (List Token × List Token) → Option Correction
rule_of_sides line h None = None
rule_of_sides line h (Some p) = rule_from line h (left_of p.0) (right_of p.1)

abbrev pub rule_of_head : ℕ → Option Headed → Option Correction
rule_of_head line None = None
rule_of_head line (Some h) = rule_of_sides line h (at_arrow h.sides)

-- the rule that a line spells
unfoldable pub rule_of : Line → Option Correction
rule_of l = rule_of_head l.line (head_of l.tokens)

abbrev pub message_in : List Token → Option (List ℕ)
message_in (s ∷ t ∷ []) =
    if is_word (codes "say") s && is_text t.kind then literal_characters t.text else None
message_in _ = None

-- the message that a line spells
unfoldable pub message_of : Line → Option (List ℕ)
message_of l = message_in l.tokens

-- the rule with the message that the line spells
abbrev pub said_by : Option Correction → Line → Option Correction
said_by None l = None
said_by (Some r) l = option_map (with_message r) (message_of l)

-- rules before those that are read from the other lines
abbrev pub behind : List Correction → Result (List Correction) ℕ → Result (List Correction) ℕ
behind rs (Ok qs) = Ok (rs ++ qs)
behind rs (Err line) = Err line

-- The rules of lines, behind a rule that has no message yet; or the line that spells none.
abbrev pub rules_behind : Option Correction → List Line → Result (List Correction) ℕ
rules_behind p [] = Ok (option_to_list p)
rules_behind p (l ∷ ls) =
    elim (said_by p l) [
      | Some r ↦ behind (r ∷ []) (rules_behind None ls)
      | None ↦ elim (rule_of l) [
        | Some q ↦ behind (option_to_list p) (rules_behind (Some q) ls)
        | None ↦ Err l.line
      ]
    ]

abbrev pub rules_of : List Line → Result (List Correction) ℕ
rules_of ls = rules_behind None ls
