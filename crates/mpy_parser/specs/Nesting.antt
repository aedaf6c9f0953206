-- How logical lines nest as the blocks of a program, by their columns.
use Rattle.std.specs.Prelude.{◌<◌, ℕ, Bool, true, false, List, [], ◌∷◌, ◌++◌, Option, Some, None}
use Rattle.mpy_tree.specs.Syntax.{Term, at, Action, Block, end, step, MaybeBlock, no_block, a_block}
use Rattle.mpy_tree.specs.Syntax.{arm, Branches, no_arms, arm_and, Routine}
use Rattle.mpy_tree.specs.Syntax as ast
use Rattle.mpy_parser.specs.Items.{function, when, else_when, otherwise, while, for_each, LineItem}
use Rattle.mpy_parser.specs.Items.{simple, headed}

-- a logical line: the physical line on which it begins, its column, and its item
pub record ItemLine : Type 0 where
  pub line : ℕ
  pub column : ℕ
  pub item : LineItem

abbrev pub item_line : ℕ → ℕ → LineItem → ItemLine
item_line line column item = record { line = line; column = column; item = item }

-- whether a simple statement may stand there: `break` and `continue` only in a loop
abbrev pub MayStand : Bool → Action → Type 0
MayStand true act = Unit {0}
MayStand false (ast.Assign x e) = Unit {0}
MayStand false (ast.Augment x op e) = Unit {0}
MayStand false (ast.Put x i e) = Unit {0}
MayStand false (ast.AugmentAt x i op e) = Unit {0}
MayStand false (ast.Append x e) = Unit {0}
MayStand false (ast.Print e) = Unit {0}
MayStand false (ast.Return e) = Unit {0}
MayStand false ast.Pass = Unit {0}
MayStand false ast.Break = ⊥
MayStand false ast.Continue = ⊥
MayStand false (ast.If arms last) = Unit {0}
MayStand false (ast.While e body) = Unit {0}
MayStand false (ast.For x e body) = Unit {0}

-- The lines of one column, with those that are deeper, are the statements of a block; `loop` says
-- whether it stands in a loop.
mutual
  pub data IsBlock : (loop : Bool) (column : ℕ) → List ItemLine → Block → Type 0 where
    -- nothing
    no_lines : {loop : Bool} {c : ℕ}
        → IsBlock loop c [] end
    -- a simple statement, and the rest of the block
    a_simple : {loop : Bool} {c line : ℕ} {act : Action} {rest : List ItemLine} {b : Block}
        → MayStand loop act
        → IsBlock loop c rest b
        → IsBlock loop c (item_line line c (simple act) ∷ rest) (step (at line act) b)
    -- while e: with its body, and the rest
    a_loop : {loop : Bool} {c line : ℕ} {e : Term} {m : Option Action} {inner rest : List ItemLine}
        {body b : Block}
        → IsBody true c line m inner body
        → IsBlock loop c rest b
        → IsBlock loop c (item_line line c (headed (while e) m) ∷ inner ++ rest)
        (step (at line (ast.While e body)) b)
    -- for x in e: with its body, and the rest
    an_each : {loop : Bool} {c line : ℕ} {x : List ℕ} {e : Term} {m : Option Action}
        {inner rest : List ItemLine} {body b : Block}
        → IsBody true c line m inner body
        → IsBlock loop c rest b
        → IsBlock loop c (item_line line c (headed (for_each x e) m) ∷ inner ++ rest)
        (step (at line (ast.For x e body)) b)
    -- if e: with its body and its other arms, and the rest
    a_test : {loop : Bool} {c line : ℕ} {e : Term} {m : Option Action}
        {inner others rest : List ItemLine} {body b : Block} {arms : Branches} {last : MaybeBlock}
        → IsBody loop c line m inner body
        → AreArms loop c others arms last
        → IsBlock loop c rest b
        → IsBlock loop c (item_line line c (headed (when e) m) ∷ inner ++ others ++ rest)
        (step (at line (ast.If (arm_and (arm line e body) arms) last)) b)

  -- the body of a header: the statement behind its colon, or the lines below it, which are deeper
  pub data IsBody : (loop : Bool) (column line : ℕ) → Option Action → List ItemLine → Block
      → Type 0 where
    -- behind the colon
    behind_colon : {loop : Bool} {c line : ℕ} {act : Action}
        → MayStand loop act
        → IsBody loop c line (Some act) [] (step (at line act) end)
    -- below the header, at a deeper column
    below : {loop : Bool} {c line : ℕ} (deeper : ℕ) {first : ItemLine} {lines : List ItemLine}
        {b : Block}
        → c < deeper
        → IsBlock loop deeper (first ∷ lines) b
        → IsBody loop c line None (first ∷ lines) b

  -- the other arms of an `if`, and its `else`
  pub data AreArms : (loop : Bool) (column : ℕ) → List ItemLine → Branches → MaybeBlock
      → Type 0 where
    -- nothing
    no_more : {loop : Bool} {c : ℕ}
        → AreArms loop c [] no_arms no_block
    -- elif e: with its body, and the other arms
    an_elif : {loop : Bool} {c line : ℕ} {e : Term} {m : Option Action}
        {inner others : List ItemLine} {body : Block} {arms : Branches} {last : MaybeBlock}
        → IsBody loop c line m inner body
        → AreArms loop c others arms last
        → AreArms loop c (item_line line c (headed (else_when e) m) ∷ inner ++ others)
        (arm_and (arm line e body) arms) last
    -- else: with its body, the last
    an_else : {loop : Bool} {c line : ℕ} {m : Option Action} {inner : List ItemLine} {body : Block}
        → IsBody loop c line m inner body
        → AreArms loop c (item_line line c (headed otherwise m) ∷ inner) no_arms (a_block body)

abbrev pub routine : ℕ → List ℕ → List (List ℕ) → Block → Routine
routine line f params body = record { line = line; name = f; params = params; body = body }

-- the lines of a program are its functions, each a header of column 0 with its body
pub data AreRoutines : List ItemLine → List Routine → Type 0 where
  no_routines : AreRoutines [] []
  -- def f(params): with its body, and the other functions
  a_routine : {line : ℕ} {f : List ℕ} {params : List (List ℕ)} {m : Option Action}
      {inner rest : List ItemLine} {body : Block} {rs : List Routine}
      → IsBody false 0 line m inner body
      → AreRoutines rest rs
      → AreRoutines (item_line line 0 (headed (function f params) m) ∷ inner ++ rest)
      (routine line f params body ∷ rs)
