-- The terminals of a source are proper.
use Rattle.std.proofs.Common.{◌≡◌, ℕ, ◌≤◌, Bool, true, false, ◌==◌, nat_le, cond, List, [], ◌∷◌, ◌++◌, All, Option, Some, None, IfSome, refl, arith, leb-true}
use Rattle.std.specs.List.{list_all}
use Rattle.std.proofs.lemmas.Bool.{and_from}
use Rattle.std.proofs.lemmas.Bool.Decides.{nat_tests}
use Rattle.std.proofs.lemmas.List.Elements.{All-head, All-tail}
use Rattle.mpy_lexer.specs.declared.forms.Form.TheVariants.{Program}
use Rattle.mpy_lexer.specs.declared.forms.Kind.{Kind}
use Rattle.mpy_lexer.specs.declared.forms.Kind.TheVariants as kind
use Rattle.mpy_lexer.specs.declared.token.Token.{Token}
use Rattle.mpy_lexer.specs.Bytes.{is_quote}
use Rattle.mpy_lexer.specs.Pieces.{number_value, number_of}
use Rattle.mpy_lexer.specs.TokenForms.{has_form}
use Rattle.mpy_lexer.specs.Spans.{IsIn}
use Rattle.mpy_expressions.specs.declared.words.Word.{Word}
use Rattle.mpy_expressions.specs.declared.terminals.Terminal.{Terminal}
use Rattle.mpy_expressions.specs.declared.terminals.Terminal.TheVariants as terminal
use Rattle.mpy_expressions.specs.Terminals.{word_terminal, word_of, is_numeral, number_terminal_of, text_terminal, text_terminal_of, terminal_by, terminals}
use Rattle.mpy_lexer.specs.TextLiterals.{is_printable, is_escapable, with_character, characters}
use Rattle.mpy_round_trip.specs.Proper.{IsName}

-- a terminal of which proper terms are made
abbrev pub IsProperTerminal : Terminal Unit → Type 0
IsProperTerminal (terminal.Name x) = IsName x
IsProperTerminal (terminal.Number n) = n ≤ 2147483647
IsProperTerminal (terminal.Text cs) = list_all is_printable cs ≡ true
IsProperTerminal (terminal.Word w) = Unit {0}
IsProperTerminal (terminal.Special x) = Unit {0}
IsProperTerminal (terminal.Operator x) = Unit {0}
IsProperTerminal (terminal.Comparator x) = Unit {0}
IsProperTerminal terminal.Other = Unit {0}

abbrev pub AreProperTerminals : List (Terminal Unit) → Type 0
AreProperTerminals [] = Unit {0}
AreProperTerminals (t ∷ ts) = IsProperTerminal t × AreProperTerminals ts

pub halves : (xs ys : List (Terminal Unit)) → AreProperTerminals (xs ++ ys) → AreProperTerminals xs × AreProperTerminals ys
halves [] ys p = (tt, p)
halves (x ∷ xs) ys p = let rest = halves xs ys p.1 in ((p.0, rest.0), rest.1)

-- what stands before a terminal, and what stands behind it
pub around : (xs : List (Terminal Unit)) (t : Terminal Unit) (ys : List (Terminal Unit)) → AreProperTerminals (xs ++ (t ∷ ys)) → AreProperTerminals xs × AreProperTerminals ys
around xs t ys p = let both = halves xs (t ∷ ys) p in (both.0, both.1.1)

proper_word : (o : Option Word) → IsProperTerminal (word_terminal o)
proper_word None = tt
proper_word (Some w) = tt

proper_number : (n : ℕ) (small : Bool) → nat_le n 2147483647 ≡ small → IsProperTerminal (number_terminal_of (cond small (Some n) None))
proper_number n true e = leb-true n 2147483647 e
proper_number n false e = tt

proper_numeral : (digits : List ℕ) (whole : Bool) → IsProperTerminal (cond whole (number_terminal_of (number_of digits)) terminal.Other)
proper_numeral digits true = proper_number (number_value digits) (nat_le (number_value digits) 2147483647) refl
proper_numeral digits false = tt

-- the characters, if there are any
abbrev ArePrintableIfSome : Option (List ℕ) → Type 0
ArePrintableIfSome o = IfSome o (λ cs. list_all is_printable cs ≡ true)

printable_and : (c : ℕ) (o : Option (List ℕ)) → is_printable c ≡ true → ArePrintableIfSome o → ArePrintableIfSome (with_character c o)
printable_and c None p h = tt
printable_and c (Some cs) p h = and_from (is_printable c) (list_all is_printable cs) p h

printable_escaped : (d : ℕ) → is_escapable d ≡ true → is_printable d ≡ true
printable_escaped d h = grind (arith, nat_tests)

printable_by : (c d : ℕ) (o p : Option (List ℕ)) (a b e f : Bool) → is_escapable d ≡ e → is_printable c ≡ f → ArePrintableIfSome o → ArePrintableIfSome p → ArePrintableIfSome (cond a None (cond b (cond e (with_character d o) None) (cond f (with_character c p) None)))
printable_by c d o p true b e f g h i j = tt
printable_by c d o p false true true f g h i j = printable_and d o (printable_escaped d g) i
printable_by c d o p false true false f g h i j = tt
printable_by c d o p false false e true g h i j = printable_and c p h j
printable_by c d o p false false e false g h i j = tt

closed_printable : (closed : Bool) → ArePrintableIfSome (cond closed (Some []) None)
closed_printable true = refl
closed_printable false = tt

printable_characters : (quote : ℕ) (bytes : List ℕ) → ArePrintableIfSome (characters quote bytes)
unfolding characters
printable_characters quote [] = tt
printable_characters quote (c ∷ []) = closed_printable (c == quote)
printable_characters quote (c ∷ d ∷ rest) = printable_by c d (characters quote rest) (characters quote (d ∷ rest)) (c == quote) (c == 92) (is_escapable d) (is_printable c) refl refl (printable_characters quote rest) (printable_characters quote (d ∷ rest))

proper_characters : (o : Option (List ℕ)) → ArePrintableIfSome o → IsProperTerminal (text_terminal_of o)
proper_characters None h = tt
proper_characters (Some cs) h = h

proper_quoted : (o : Option (List ℕ)) (opened : Bool) → ArePrintableIfSome o → IsProperTerminal (text_terminal_of (cond opened o None))
proper_quoted o true h = proper_characters o h
proper_quoted o false h = tt

proper_text : (bytes : List ℕ) → IsProperTerminal (text_terminal bytes)
proper_text [] = tt
proper_text (q ∷ rest) = proper_quoted (characters q rest) (is_quote q) (printable_characters q rest)

proper_terminal : (k : Kind) (bytes : List ℕ) → has_form Program k bytes ≡ true → IsProperTerminal (terminal_by k bytes)
proper_terminal kind.Name bytes h = h
proper_terminal kind.Reserved bytes h = proper_word (word_of bytes)
proper_terminal kind.Number bytes h = proper_numeral bytes (is_numeral bytes)
proper_terminal kind.Text bytes h = proper_text bytes
proper_terminal kind.Mark bytes h = proper_word (word_of bytes)
proper_terminal kind.Meta bytes h = tt

pub proper_terminals : (source : List ℕ) (ts : List Token) → All (IsIn Program source) ts → AreProperTerminals (terminals ts)
proper_terminals source [] h = tt
proper_terminals source (t ∷ ts) h = (proper_terminal t.kind t.text (All-head (IsIn Program source) t ts h).spelled, proper_terminals source ts (All-tail (IsIn Program source) t ts h))
