-- The tokens of each printed line spell its item.
use Rattle.std.proofs.Common.{◌≡◌, ℕ, List, [], ◌∷◌, ◌++◌, codes, Some, None, refl, ap, sym, ◌∙◌, subst, append_assoc, append-nil}
use Rattle.mpy_tree.specs.declared.operators.ArithOp.{ArithOp}
use Rattle.mpy_tree.specs.declared.operators.ArithOp.TheVariants.{Add, Sub, Mul, Floor, Rem, Power}
use Rattle.mpy_tree.specs.Syntax.{Term, a_term}
use Rattle.mpy_tree.specs.Syntax as ast
use Rattle.mpy_tree.specs.Printing.{arith_text}
use Rattle.mpy_lexer.specs.declared.forms.Kind.TheVariants as kind
use Rattle.mpy_tree.specs.declared.levels.Level.TheVariants as level
use Rattle.mpy_expressions.specs.declared.words.Word.{Word}
use Rattle.mpy_expressions.specs.declared.words.Word.TheVariants as word
use Rattle.mpy_expressions.specs.declared.terminals.Terminal.{Terminal}
use Rattle.mpy_expressions.specs.declared.terminals.Terminal.TheVariants as terminal
use Rattle.mpy_expressions.specs.Terminals.{word_of, terminal_by}
use Rattle.mpy_expressions.specs.Programs.{programs}
use Rattle.mpy_expressions.specs.Grammar.{Spells}
use Rattle.mpy_parser.specs.Items.{Opening, function, headed, simple, augmented, assign, augment, put, augment_at, append, print, give, name_list, SpellsHeader, SpellsItem, a_function, open_body, a_statement, a_header}
use Rattle.mpy_round_trip.specs.Proper.{MayAugment}
use Rattle.mpy_round_trip.proofs.ProperForms.{IsProperTerm}
use Rattle.mpy_round_trip.proofs.Scraps.{gap}
use Rattle.mpy_round_trip.proofs.printing.ProgramLines.{name, mark, reserved, term_scraps, name_scraps}
use Rattle.mpy_round_trip.proofs.printing.TermSpelling.{terminals_in, HasTerminals, whole}

-- an expression that ends a line
last : (e : Term) → IsProperTerm e → Spells programs level.Conditional (terminals_in (term_scraps e [])) e
last e p = let s = whole e p in subst (λ ts. Spells programs level.Conditional ts e) (sym (s.onto [] ∙ append-nil s.own)) s.spells

pub assignment : (x : List ℕ) (e : Term) → IsProperTerm e → SpellsItem (terminals_in (name x ∷ gap ∷ mark (codes "=") ∷ gap ∷ term_scraps e [])) (simple (ast.Assign x e))
unfolding word_of
assignment x e p = a_statement (assign x (last e p))

record Augments (op : ArithOp) : Type 0 where
  sign : Word
  seen : terminal_by kind.Mark (arith_text op ++ codes "=") ≡ terminal.Word sign
  meant : augmented sign ≡ Some op

augments : (op : ArithOp) → MayAugment op → Augments op
unfolding word_of
augments Add h = record { sign = word.PlusAssign; seen = refl; meant = refl }
augments Sub h = record { sign = word.MinusAssign; seen = refl; meant = refl }
augments Mul h = record { sign = word.StarAssign; seen = refl; meant = refl }
augments Floor h = record { sign = word.DoubleSlashAssign; seen = refl; meant = refl }
augments Rem h = record { sign = word.PercentAssign; seen = refl; meant = refl }
augments Power h = absurd h

pub augmentation : (x : List ℕ) (op : ArithOp) (e : Term) → MayAugment op → IsProperTerm e → SpellsItem (terminals_in (name x ∷ gap ∷ mark (arith_text op ++ codes "=") ∷ gap ∷ term_scraps e [])) (simple (ast.Augment x op e))
augmentation x op e m p = let a = augments op m in subst (λ t. SpellsItem (terminal.Name x ∷ t ∷ terminals_in (term_scraps e [])) (simple (ast.Augment x op e))) (sym a.seen) (a_statement (augment x a.sign a.meant (last e p)))

pub assignment_at : (x : List ℕ) (i e : Term) → IsProperTerm i → IsProperTerm e → SpellsItem (terminals_in (name x ∷ mark (codes "[") ∷ term_scraps i (mark (codes "]") ∷ gap ∷ mark (codes "=") ∷ gap ∷ term_scraps e []))) (simple (ast.Put x i e))
unfolding word_of
assignment_at x i e p q =
    let s = whole i p in
    let behind = mark (codes "]") ∷ gap ∷ mark (codes "=") ∷ gap ∷ term_scraps e [] in
    let ts = terminals_in (term_scraps e []) in
    subst (λ l. SpellsItem (terminal.Name x ∷ terminal.Word word.LeftBracket ∷ l) (simple (ast.Put x i e))) (sym (s.onto behind)) (a_statement (put x {is = s.own} {es = ts} s.spells (last e q)))

pub augmentation_at : (x : List ℕ) (i : Term) (op : ArithOp) (e : Term) → IsProperTerm i → MayAugment op → IsProperTerm e → SpellsItem (terminals_in (name x ∷ mark (codes "[") ∷ term_scraps i (mark (codes "]") ∷ gap ∷ mark (arith_text op ++ codes "=") ∷ gap ∷ term_scraps e []))) (simple (ast.AugmentAt x i op e))
unfolding word_of
augmentation_at x i op e p m q =
    let s = whole i p in
    let a = augments op m in
    let behind = mark (codes "]") ∷ gap ∷ mark (arith_text op ++ codes "=") ∷ gap ∷ term_scraps e [] in
    let ts = terminals_in (term_scraps e []) in
    subst (λ l. SpellsItem (terminal.Name x ∷ terminal.Word word.LeftBracket ∷ l) (simple (ast.AugmentAt x i op e))) (sym (s.onto behind ∙ ap (λ t. s.own ++ terminal.Word word.RightBracket ∷ t ∷ ts) a.seen)) (a_statement (augment_at x a.sign {is = s.own} {es = ts} a.meant s.spells (last e q)))

pub appending : (x : List ℕ) (e : Term) → IsProperTerm e → SpellsItem (terminals_in (name x ∷ mark (codes ".") ∷ name (codes "append") ∷ mark (codes "(") ∷ term_scraps e (mark (codes ")") ∷ []))) (simple (ast.Append x e))
unfolding word_of
appending x e p =
    let s = whole e p in
    subst (λ l. SpellsItem (terminal.Name x ∷ terminal.Word word.Dot ∷ terminal.Name (codes "append") ∷ terminal.Word word.LeftParen ∷ l) (simple (ast.Append x e))) (sym (s.onto (mark (codes ")") ∷ []))) (a_statement (append x s.spells))

pub printing : (e : Term) → IsProperTerm e → SpellsItem (terminals_in (name (codes "print") ∷ mark (codes "(") ∷ term_scraps e (mark (codes ")") ∷ []))) (simple (ast.Print e))
unfolding word_of
printing e p =
    let s = whole e p in
    subst (λ l. SpellsItem (terminal.Name (codes "print") ∷ terminal.Word word.LeftParen ∷ l) (simple (ast.Print e))) (sym (s.onto (mark (codes ")") ∷ []))) (a_statement (print s.spells))

pub returning : (e : Term) → IsProperTerm e → SpellsItem (terminals_in (reserved (codes "return") ∷ gap ∷ term_scraps e [])) (simple (ast.Return (a_term e)))
unfolding word_of
returning e p = a_statement (give (last e p))

-- a header that ends in an expression
pub header : (front : List (Terminal Unit)) (e : Term) (h : Opening) → ((ts : List (Terminal Unit)) → Spells programs level.Conditional ts e → SpellsHeader (front ++ ts) h) → IsProperTerm e → SpellsItem (front ++ terminals_in (term_scraps e (mark (codes ":") ∷ []))) (headed h None)
unfolding word_of
header front e h spell p =
    let s = whole e p in
    let colon = terminal.Word word.Colon ∷ [] in
    subst (λ ts. SpellsItem ts (headed h None)) (append_assoc front s.own colon ∙ ap (λ l. front ++ l) (sym (s.onto (mark (codes ":") ∷ [])))) (a_header (spell s.own s.spells) open_body)

names_terminals : (xs : List (List ℕ)) → HasTerminals (name_scraps xs) (name_list xs)
unfolding word_of
names_terminals [] ss = refl
names_terminals (x ∷ []) ss = refl
names_terminals (x ∷ y ∷ rest) ss = ap (λ l. terminal.Name x ∷ terminal.Word word.Comma ∷ l) (names_terminals (y ∷ rest) ss)

pub definition : (f : List ℕ) (params : List (List ℕ)) → SpellsItem (terminals_in (reserved (codes "def") ∷ gap ∷ name f ∷ mark (codes "(") ∷ name_scraps params (mark (codes ")") ∷ mark (codes ":") ∷ []))) (headed (function f params) None)
unfolding word_of
definition f params =
    let before = terminal.Word word.Def ∷ terminal.Name f ∷ terminal.Word word.LeftParen ∷ [] in
    let behind = mark (codes ")") ∷ mark (codes ":") ∷ [] in
    subst (λ ts. SpellsItem ts (headed (function f params) None)) (ap (λ l. before ++ l) (append_assoc (name_list params) (terminal.Word word.RightParen ∷ []) (terminal.Word word.Colon ∷ []) ∙ sym (names_terminals params behind))) (a_header (a_function f params) open_body)
