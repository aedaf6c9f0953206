-- Proper terminals spell proper items.
use Rattle.std.proofs.Common.{◌≡◌, ℕ, Bool, List, [], ◌∷◌, All, Option, Some, None}
use Rattle.std.proofs.lemmas.List.Elements.{All-nil, All-cons, All-head, All-tail}
use Rattle.mpy_tree.specs.declared.operators.ArithOp.{ArithOp}
use Rattle.mpy_tree.specs.declared.operators.ArithOp.TheVariants.{Add, Sub, Mul, Floor, Rem, Power}
use Rattle.mpy_tree.specs.Syntax.{Action}
use Rattle.mpy_lexer.specs.declared.forms.Form.TheVariants.{Program}
use Rattle.mpy_lexer.specs.declared.line.Line.{Line}
use Rattle.mpy_lexer.specs.Spans.{IsLineOf}
use Rattle.mpy_expressions.specs.declared.words.Word.{Word}
use Rattle.mpy_expressions.specs.declared.words.Word.TheVariants as word
use Rattle.mpy_expressions.specs.declared.terminals.Terminal.{Terminal}
use Rattle.mpy_expressions.specs.declared.terminals.Terminal.TheVariants as terminal
use Rattle.mpy_parser.specs.Items.{Opening, function, when, else_when, otherwise, while, for_each, LineItem, simple, headed, augmented, SpellsSimple, assign, augment, put, augment_at, append, print, give_nothing, give, pass, leave, again, name_list, SpellsHeader, a_function, an_if, an_elif, an_else, a_while, a_for, SpellsBody, open_body, one_statement, SpellsItem, a_statement, a_header}
use Rattle.mpy_parser.specs.Nesting.{ItemLine, MayStand}
use Rattle.mpy_parser.specs.Programs.{AreItems}
use Rattle.mpy_round_trip.specs.Proper.{IsName, MayAugment}
use Rattle.mpy_round_trip.proofs.ProperForms.{IsProperNode, IsProperTerm, IsProperAction}
use Rattle.mpy_round_trip.proofs.reading.ProperTerminals.{AreProperTerminals, halves, around, proper_terminals}
use Rattle.mpy_round_trip.proofs.reading.ProperTerms.{proper_term}

-- proper wherever it may stand
abbrev pub IsProperSimple : Action → Type 0
IsProperSimple act = (loop : Bool) → MayStand loop act → IsProperAction loop act

abbrev pub IsProperOpening : Opening → Type 0
IsProperOpening (function f params) = IsName f × All IsName params
IsProperOpening (when e) = IsProperTerm e
IsProperOpening (else_when e) = IsProperTerm e
IsProperOpening otherwise = Unit {0}
IsProperOpening (while e) = IsProperTerm e
IsProperOpening (for_each x e) = IsName x × IsProperTerm e

-- the statement behind a colon, where there is one
abbrev pub IsProperBehind : Option Action → Type 0
IsProperBehind None = Unit {0}
IsProperBehind (Some act) = IsProperSimple act

abbrev pub IsProperItem : LineItem → Type 0
IsProperItem (simple act) = IsProperSimple act
IsProperItem (headed h m) = IsProperOpening h × IsProperBehind m

abbrev pub AreProperItems : List ItemLine → Type 0
AreProperItems [] = Unit {0}
AreProperItems (i ∷ is) = IsProperItem i.item × AreProperItems is

may_augment : (w : Word) (op : ArithOp) → augmented w ≡ Some op → MayAugment op
may_augment w Add e = tt
may_augment w Sub e = tt
may_augment w Mul e = tt
may_augment w Floor e = tt
may_augment w Rem e = tt
may_augment w Power e = no_power w e
  where
    no_power : (w : Word) → augmented w ≡ Some Power → ⊥
    no_power word.PlusAssign e = cc
    no_power word.MinusAssign e = cc
    no_power word.StarAssign e = cc
    no_power word.DoubleSlashAssign e = cc
    no_power word.PercentAssign e = cc
    no_power _ e = cc

proper_simple : {ts : List (Terminal Unit)} {act : Action} → SpellsSimple ts act → AreProperTerminals ts → IsProperSimple act
proper_simple (assign x s) p loop may = (p.0, proper_term s p.1.1)
proper_simple (augment x w {op} h s) p loop may = (p.0, may_augment w op h, proper_term s p.1.1)
proper_simple (put x {is} {es} s t) p loop may = let both = around is (terminal.Word word.RightBracket) (terminal.Word word.Assign ∷ es) p.1.1 in (p.0, proper_term s both.0, proper_term t both.1.1)
proper_simple (augment_at x w {op} {is} {es} h s t) p loop may = let both = around is (terminal.Word word.RightBracket) (terminal.Word w ∷ es) p.1.1 in (p.0, proper_term s both.0, may_augment w op h, proper_term t both.1.1)
proper_simple (append x {es} s) p loop may = (p.0, proper_term s (halves es (terminal.Word word.RightParen ∷ []) p.1.1.1.1).0)
proper_simple (print {es} s) p loop may = proper_term s (halves es (terminal.Word word.RightParen ∷ []) p.1.1).0
proper_simple give_nothing p loop may = All-nil IsProperNode
proper_simple (give s) p loop may = proper_term s p.1
proper_simple pass p loop may = tt
proper_simple leave p loop may = may
proper_simple again p loop may = may

proper_names : (xs : List (List ℕ)) → AreProperTerminals (name_list xs) → All IsName xs
proper_names [] p = All-nil IsName
proper_names (x ∷ []) p = All-cons IsName x [] p.0 (All-nil IsName)
proper_names (x ∷ y ∷ rest) p = All-cons IsName x (y ∷ rest) p.0 (proper_names (y ∷ rest) p.1.1)

proper_header : {hs : List (Terminal Unit)} {h : Opening} → SpellsHeader hs h → AreProperTerminals hs → IsProperOpening h
proper_header (a_function f params) p = (p.1.0, proper_names params (halves (name_list params) (terminal.Word word.RightParen ∷ []) p.1.1.1).0)
proper_header (an_if s) p = proper_term s p.1
proper_header (an_elif s) p = proper_term s p.1
proper_header an_else p = tt
proper_header (a_while s) p = proper_term s p.1
proper_header (a_for x s) p = (p.1.0, proper_term s p.1.1.1)

proper_behind : {ts : List (Terminal Unit)} {m : Option Action} → SpellsBody ts m → AreProperTerminals ts → IsProperBehind m
proper_behind open_body p = tt
proper_behind (one_statement s) p = proper_simple s p

proper_item : {ts : List (Terminal Unit)} {i : LineItem} → SpellsItem ts i → AreProperTerminals ts → IsProperItem i
proper_item (a_statement s) p = proper_simple s p
proper_item (a_header {hs} {ts} s t) p = let both = around hs (terminal.Word word.Colon) ts p in (proper_header s both.0, proper_behind t both.1)

pub proper_items : (source : List ℕ) (ls : List Line) (is : List ItemLine) → All (IsLineOf Program source) ls → AreItems ls is → AreProperItems is
proper_items source [] [] h s = tt
proper_items source [] (i ∷ is) h s = absurd s
proper_items source (l ∷ ls) [] h s = absurd s
proper_items source (l ∷ ls) (i ∷ is) h s = (
  proper_item s.0.item (proper_terminals source l.tokens (All-head (IsLineOf Program source) l ls h).tokens),
  proper_items source ls is (All-tail (IsLineOf Program source) l ls h) s.1,
)
