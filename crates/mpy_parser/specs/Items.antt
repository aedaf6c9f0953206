-- Which terminals spell the item of a logical line.
use Rattle.std.specs.Prelude.{◌≡◌, ℕ, List, [], ◌∷◌, ◌++◌, Option, Some, None, codes}
use Rattle.mpy_tree.specs.declared.operators.ArithOp.{ArithOp}
use Rattle.mpy_tree.specs.declared.operators.ArithOp.TheVariants.{Add, Sub, Mul, Floor, Rem}
use Rattle.mpy_tree.specs.Syntax.{Term, no_term, a_term, Action}
use Rattle.mpy_tree.specs.Syntax as ast
use Rattle.mpy_tree.specs.declared.levels.Level.TheVariants as level
use Rattle.mpy_expressions.specs.Programs.{programs}
use Rattle.mpy_expressions.specs.declared.words.Word.{Word}
use Rattle.mpy_expressions.specs.declared.words.Word.TheVariants as word
use Rattle.mpy_expressions.specs.declared.terminals.Terminal.{Terminal}
use Rattle.mpy_expressions.specs.declared.terminals.Terminal.TheVariants as terminal
use Rattle.mpy_expressions.specs.Grammar.{Spells}

-- what begins a body
pub data Opening : Type 0 where
  function : (name : List ℕ) (params : List (List ℕ)) → Opening
  when : (test : Term) → Opening
  else_when : (test : Term) → Opening
  otherwise : Opening
  while : (test : Term) → Opening
  for_each : (x : List ℕ) (e : Term) → Opening

-- a simple statement, or a header with the simple statement behind its colon, if there is one
pub data LineItem : Type 0 where
  simple : (act : Action) → LineItem
  headed : (h : Opening) (body : Option Action) → LineItem

-- the operator of an augmented assignment
abbrev pub augmented : Word → Option ArithOp
augmented word.PlusAssign = Some Add
augmented word.MinusAssign = Some Sub
augmented word.StarAssign = Some Mul
augmented word.DoubleSlashAssign = Some Floor
augmented word.PercentAssign = Some Rem
augmented _ = None

pub data SpellsSimple : List (Terminal Unit) → Action → Type 0 where
  -- x = e
  assign : (x : List ℕ) {es : List (Terminal Unit)} {e : Term}
      → Spells programs level.Conditional es e
      → SpellsSimple (terminal.Name x ∷ terminal.Word word.Assign ∷ es) (ast.Assign x e)
  -- x += e, and so on
  augment : (x : List ℕ) (w : Word) {op : ArithOp} {es : List (Terminal Unit)} {e : Term}
      → augmented w ≡ Some op
      → Spells programs level.Conditional es e
      → SpellsSimple (terminal.Name x ∷ terminal.Word w ∷ es) (ast.Augment x op e)
  -- x[i] = e
  put : (x : List ℕ) {is es : List (Terminal Unit)} {i e : Term}
      → Spells programs level.Conditional is i
      → Spells programs level.Conditional es e
      → SpellsSimple
      (terminal.Name x ∷ terminal.Word word.LeftBracket ∷ is
      ++ terminal.Word word.RightBracket ∷ terminal.Word word.Assign ∷ es)
      (ast.Put x i e)
  -- x[i] += e, and so on
  augment_at : (x : List ℕ) (w : Word) {op : ArithOp} {is es : List (Terminal Unit)} {i e : Term}
      → augmented w ≡ Some op
      → Spells programs level.Conditional is i
      → Spells programs level.Conditional es e
      → SpellsSimple
      (terminal.Name x ∷ terminal.Word word.LeftBracket ∷ is
      ++ terminal.Word word.RightBracket ∷ terminal.Word w ∷ es)
      (ast.AugmentAt x i op e)
  -- x.append(e)
  append : (x : List ℕ) {es : List (Terminal Unit)} {e : Term}
      → Spells programs level.Conditional es e
      → SpellsSimple
      (terminal.Name x ∷ terminal.Word word.Dot ∷ terminal.Name (codes "append")
      ∷ terminal.Word word.LeftParen ∷ es ++ terminal.Word word.RightParen ∷ [])
      (ast.Append x e)
  -- print(e)
  print : {es : List (Terminal Unit)} {e : Term}
      → Spells programs level.Conditional es e
      → SpellsSimple
      (terminal.Name (codes "print") ∷ terminal.Word word.LeftParen ∷ es
      ++ terminal.Word word.RightParen ∷ [])
      (ast.Print e)
  -- return
  give_nothing : SpellsSimple (terminal.Word word.Return ∷ []) (ast.Return no_term)
  -- return e
  give : {es : List (Terminal Unit)} {e : Term}
      → Spells programs level.Conditional es e
      → SpellsSimple (terminal.Word word.Return ∷ es) (ast.Return (a_term e))
  -- pass
  pass : SpellsSimple (terminal.Word word.Pass ∷ []) ast.Pass
  -- break
  leave : SpellsSimple (terminal.Word word.Break ∷ []) ast.Break
  -- continue
  again : SpellsSimple (terminal.Word word.Continue ∷ []) ast.Continue

-- names joined by commas
abbrev pub name_list : List (List ℕ) → List (Terminal Unit)
name_list [] = []
name_list (x ∷ []) = terminal.Name x ∷ []
name_list (x ∷ y ∷ rest) = terminal.Name x ∷ terminal.Word word.Comma ∷ name_list (y ∷ rest)

-- a header, up to its colon
pub data SpellsHeader : List (Terminal Unit) → Opening → Type 0 where
  -- def f(x1, .., xk)
  a_function : (f : List ℕ) (params : List (List ℕ))
      → SpellsHeader
      (terminal.Word word.Def ∷ terminal.Name f ∷ terminal.Word word.LeftParen
      ∷ name_list params ++ terminal.Word word.RightParen ∷ [])
      (function f params)
  -- if e
  an_if : {es : List (Terminal Unit)} {e : Term}
      → Spells programs level.Conditional es e
      → SpellsHeader (terminal.Word word.If ∷ es) (when e)
  -- elif e
  an_elif : {es : List (Terminal Unit)} {e : Term}
      → Spells programs level.Conditional es e
      → SpellsHeader (terminal.Word word.Elif ∷ es) (else_when e)
  -- else
  an_else : SpellsHeader (terminal.Word word.Else ∷ []) otherwise
  -- while e
  a_while : {es : List (Terminal Unit)} {e : Term}
      → Spells programs level.Conditional es e
      → SpellsHeader (terminal.Word word.While ∷ es) (while e)
  -- for x in e
  a_for : (x : List ℕ) {es : List (Terminal Unit)} {e : Term}
      → Spells programs level.Conditional es e
      → SpellsHeader (terminal.Word word.For ∷ terminal.Name x ∷ terminal.Word word.In ∷ es)
      (for_each x e)

-- what may stand behind the colon of a header
pub data SpellsBody : List (Terminal Unit) → Option Action → Type 0 where
  open_body : SpellsBody [] None
  one_statement : {ts : List (Terminal Unit)} {act : Action}
      → SpellsSimple ts act
      → SpellsBody ts (Some act)

pub data SpellsItem : List (Terminal Unit) → LineItem → Type 0 where
  a_statement : {ts : List (Terminal Unit)} {act : Action}
      → SpellsSimple ts act
      → SpellsItem ts (simple act)
  a_header : {hs ts : List (Terminal Unit)} {h : Opening} {body : Option Action}
      → SpellsHeader hs h
      → SpellsBody ts body
      → SpellsItem (hs ++ terminal.Word word.Colon ∷ ts) (headed h body)
