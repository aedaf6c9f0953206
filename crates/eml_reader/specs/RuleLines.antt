-- Which rule, or which message of a rule, a logical line spells.
use Rattle.std.specs.Prelude.{◌≡◌, ℕ, Bool, true, false, ◌&&◌, List, [], ◌∷◌, ◌++◌, Some}
use Rattle.std.specs.Prelude.{None, codes}
use Rattle.std.specs.List.{list_any}
use Rattle.mpy_tree.specs.Values.{same_bytes}
use Rattle.mpy_lexer.specs.declared.forms.Kind.{Kind}
use Rattle.mpy_lexer.specs.declared.forms.Kind.TheVariants as kind
use Rattle.mpy_lexer.specs.declared.token.Token.{Token}
use Rattle.mpy_lexer.specs.declared.line.Line.{Line}
use Rattle.mpy_lexer.specs.Pieces.{number_of}
use Rattle.mpy_lexer.specs.TextLiterals.{literal_characters}
use Rattle.choice_tree.specs.Templates.{Correction}
use Rattle.eml_sides.specs.SidesSpelled.{SpellsLeft, SpellsRight}

abbrev pub is_plain : Kind → Bool
is_plain kind.Name = true
is_plain _ = false

-- a name, reserved or not
abbrev pub is_name : Kind → Bool
is_name kind.Name = true
is_name kind.Reserved = true
is_name _ = false

abbrev pub is_sign : Kind → Bool
is_sign kind.Mark = true
is_sign _ = false

abbrev pub is_number : Kind → Bool
is_number kind.Number = true
is_number _ = false

abbrev pub is_text : Kind → Bool
is_text kind.Text = true
is_text _ = false

-- a name with these bytes that isn't reserved
abbrev pub is_word : List ℕ → Token → Bool
is_word word t = is_plain t.kind && same_bytes t.text word

abbrev pub is_mark : List ℕ → Token → Bool
is_mark mark t = is_sign t.kind && same_bytes t.text mark

abbrev pub is_arrow : Token → Bool
is_arrow t = is_mark (codes "=>") t

-- `rule NAME cost N:`, or `rule NAME:`, which costs 1
pub data SpellsHead : List Token → List ℕ → ℕ → Type 0 where
  with_cost : (rule name cost number colon : Token) (n : ℕ)
      → is_word (codes "rule") rule ≡ true
      → is_name name.kind ≡ true
      → is_word (codes "cost") cost ≡ true
      → is_number number.kind ≡ true
      → number_of number.text ≡ Some n
      → is_mark (codes ":") colon ≡ true
      → SpellsHead (rule ∷ name ∷ cost ∷ number ∷ colon ∷ []) name.text n
  without_cost : (rule name colon : Token)
      → is_word (codes "rule") rule ≡ true
      → is_name name.kind ≡ true
      → is_mark (codes ":") colon ≡ true
      → SpellsHead (rule ∷ name ∷ colon ∷ []) name.text 1

-- The line is a rule without a message: its head, its left side up to the first arrow, and its
-- right side.
pub record SpellsRule (l : Line) (r : Correction) : Type 0 where
  pub head : List Token
  pub left : List Token
  pub arrow : Token
  pub right : List Token
  pub whole : l.tokens ≡ head ++ (left ++ arrow ∷ right)
  pub spells_head : SpellsHead head r.name r.cost
  pub at_arrow : is_arrow arrow ≡ true
  pub first_arrow : list_any is_arrow left ≡ false
  pub spells_left : SpellsLeft left r.place r.left
  pub spells_right : SpellsRight right r.right_place r.right
  pub line : r.line ≡ l.line
  pub no_message : r.say ≡ None

-- `say TEXT`
pub record SpellsMessage (l : Line) (text : List ℕ) : Type 0 where
  pub say : Token
  pub literal : Token
  pub whole : l.tokens ≡ say ∷ literal ∷ []
  pub a_say : is_word (codes "say") say ≡ true
  pub a_text : is_text literal.kind ≡ true
  pub characters : literal_characters literal.text ≡ Some text

abbrev pub with_message : Correction → List ℕ → Correction
with_message r text = record r { say = Some text }

-- Lines spell rules, each with its message on the line behind it, or without one.
pub data SpellRules : List Line → List Correction → Type 0 where
  no_lines : SpellRules [] []
  a_rule : (l : Line) (ls : List Line) (r : Correction) (rs : List Correction)
      → SpellsRule l r
      → SpellRules ls rs
      → SpellRules (l ∷ ls) (r ∷ rs)
  a_rule_with_message : (l m : Line) (ls : List Line) (r : Correction) (text : List ℕ)
      (rs : List Correction)
      → SpellsRule l r
      → SpellsMessage m text
      → SpellRules ls rs
      → SpellRules (l ∷ m ∷ ls) (with_message r text ∷ rs)

-- The first line with which the lines up to it spell no rules.
pub record HasSyntaxFault (ls : List Line) (line : ℕ) : Type 0 where
  pub before : List Line
  pub fault : Line
  pub rest : List Line
  pub rules : List Correction
  pub whole : ls ≡ before ++ fault ∷ rest
  pub spelled : SpellRules before rules
  pub not_spelled : (rs : List Correction) → SpellRules (before ++ fault ∷ []) rs → ⊥
  pub is_its_line : line ≡ fault.line
