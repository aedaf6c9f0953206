-- Which terminals spell an expression, at each level of the grammar.
use Rattle.std.specs.Prelude.{None}
use Rattle.std.specs.Prelude.{◌≡◌, Option, Some, ℕ, Bool, true, false, List, [], ◌∷◌, ◌++◌}
use Rattle.mpy_tree.specs.declared.operators.ArithOp.{ArithOp}
use Rattle.mpy_tree.specs.declared.operators.CmpOp.{CmpOp}
use Rattle.mpy_tree.specs.declared.operators.CmpOp.TheVariants.{Eq, Ne, Lt, Le, Gt, Ge, Member}
use Rattle.mpy_tree.specs.declared.operators.CmpOp.TheVariants.{NotMember}
use Rattle.mpy_tree.specs.declared.levels.Level.{Level}
use Rattle.mpy_tree.specs.declared.levels.Level.TheVariants as level
use Rattle.mpy_expressions.specs.Forms.{Forms}
use Rattle.mpy_expressions.specs.declared.words.Word.{Word}
use Rattle.mpy_expressions.specs.declared.words.Word.TheVariants as word
use Rattle.mpy_expressions.specs.declared.terminals.Terminal.{Terminal}
use Rattle.mpy_expressions.specs.declared.terminals.Terminal.TheVariants as terminal
use Rattle.mpy_tree.specs.Levels.{above, operator_level, left_level, right_level}
use Rattle.mpy_expressions.specs.Joints.{arith_word}

-- the words of a comparison
abbrev pub comparison : {X : Type 0} → CmpOp → List (Terminal X)
comparison Eq = terminal.Word word.Equal ∷ []
comparison Ne = terminal.Word word.NotEqual ∷ []
comparison Lt = terminal.Word word.Less ∷ []
comparison Le = terminal.Word word.LessEqual ∷ []
comparison Gt = terminal.Word word.Greater ∷ []
comparison Ge = terminal.Word word.GreaterEqual ∷ []
comparison Member = terminal.Word word.In ∷ []
comparison NotMember = terminal.Word word.Not ∷ terminal.Word word.In ∷ []

abbrev pub truth_word : Bool → Word
truth_word true = word.True
truth_word false = word.False

-- One case for each row of the grammar. Operators of one level group to the left.
mutual
  pub data Spells {X T : Type 0} (forms : Forms X T) : Level → List (Terminal X) → T → Type 0 where
    -- a if t else b
    conditional : {xs ts ys : List (Terminal X)} {a t b : T}
        → Spells forms level.Disjunction xs a
        → Spells forms level.Disjunction ts t
        → Spells forms level.Conditional ys b
        → Spells forms level.Conditional
        (xs ++ terminal.Word word.If ∷ ts ++ terminal.Word word.Else ∷ ys)
        (forms.Cond t a b)
    -- a or b
    disjunction : {xs ys : List (Terminal X)} {a b : T}
        → Spells forms level.Disjunction xs a
        → Spells forms level.Conjunction ys b
        → Spells forms level.Disjunction (xs ++ terminal.Word word.Or ∷ ys) (forms.Or a b)
    -- a and b
    conjunction : {xs ys : List (Terminal X)} {a b : T}
        → Spells forms level.Conjunction xs a
        → Spells forms level.Negation ys b
        → Spells forms level.Conjunction (xs ++ terminal.Word word.And ∷ ys) (forms.And a b)
    -- not a
    negation : {xs : List (Terminal X)} {a : T}
        → Spells forms level.Negation xs a
        → Spells forms level.Negation (terminal.Word word.Not ∷ xs) (forms.Not a)
    -- a == b, and the other comparisons
    compared : {xs ys : List (Terminal X)} {a b : T} (op : CmpOp)
        → Spells forms level.Sum xs a
        → Spells forms level.Sum ys b
        → Spells forms level.Comparison (xs ++ comparison op ++ ys) (forms.Cmp op a b)
    -- a + b, a - b, a * b, a // b, a % b, a ** b
    arithmetic : {xs ys : List (Terminal X)} {a b : T} (op : ArithOp)
        → Spells forms (left_level op) xs a
        → Spells forms (right_level op) ys b
        → Spells forms (operator_level op)
        (xs ++ terminal.Word (arith_word op) ∷ ys) (forms.Arith op a b)
    -- a o b, by an operator o that only some kinds of expression have
    operated : {xs ys : List (Terminal X)} {a b : T} (x : X) {f : T → T → T}
        → forms.Operator x ≡ Some f
        → Spells forms level.Sum xs a
        → Spells forms level.Product ys b
        → Spells forms level.Sum (xs ++ terminal.Operator x ∷ ys) (f a b)
    -- a c b, by a comparison c that only some kinds of expression have
    likened : {xs ys : List (Terminal X)} {a b : T} (x : X) {f : T → T → T}
        → forms.Comparator x ≡ Some f
        → Spells forms level.Sum xs a
        → Spells forms level.Sum ys b
        → Spells forms level.Comparison (xs ++ terminal.Comparator x ∷ ys) (f a b)
    -- -a
    minus : {xs : List (Terminal X)} {a : T}
        → Spells forms level.Unary xs a
        → Spells forms level.Unary (terminal.Word word.Minus ∷ xs) (forms.Neg a)
    -- v[i]
    index : {xs ys : List (Terminal X)} {v i : T}
        → Spells forms level.Postfix xs v
        → Spells forms level.Conditional ys i
        → Spells forms level.Postfix
        (xs ++ terminal.Word word.LeftBracket ∷ ys ++ terminal.Word word.RightBracket ∷ [])
        (forms.Index v i)
    -- v[from:to], v[from:], v[:to], v[:]
    slice : {xs ys zs : List (Terminal X)} {v : T} {from to : Option T}
        → Spells forms level.Postfix xs v
        → SpellsEnd forms ys from
        → SpellsEnd forms zs to
        → Spells forms level.Postfix
        (xs ++ terminal.Word word.LeftBracket ∷ ys ++ terminal.Word word.Colon ∷ zs
        ++ terminal.Word word.RightBracket ∷ [])
        (forms.Slice v from to)
    -- a number literal
    number : (n : ℕ)
        → Spells forms level.Atom (terminal.Number n ∷ []) (forms.Int n)
    -- a text literal
    quoted : (cs : List ℕ)
        → Spells forms level.Atom (terminal.Text cs ∷ []) (forms.Text cs)
    -- True, False
    truth : (b : Bool)
        → Spells forms level.Atom (terminal.Word (truth_word b) ∷ []) (forms.Bool b)
    -- a name
    name : (x : List ℕ)
        → Spells forms level.Atom (terminal.Name x ∷ []) (forms.Name x)
    -- a hole
    hole : (x : X) {e : T}
        → forms.Hole x ≡ Some e
        → Spells forms level.Atom (terminal.Special x ∷ []) e
    -- f(e1, .., ek)
    call : (f : List ℕ) {xs : List (Terminal X)} {es : List T}
        → SpellsAll forms xs es
        → Spells forms level.Atom
        (terminal.Name f ∷ terminal.Word word.LeftParen ∷ xs ++ terminal.Word word.RightParen ∷ [])
        (forms.Call f es)
    -- [e1, .., ek]
    items : {xs : List (Terminal X)} {es : List T}
        → SpellsAll forms xs es
        → Spells forms level.Atom
        (terminal.Word word.LeftBracket ∷ xs ++ terminal.Word word.RightBracket ∷ [])
        (forms.List es)
    -- {e1, .., ek}
    set : {xs : List (Terminal X)} {es : List T} {e : T}
        → forms.Set es ≡ Some e
        → SpellsAll forms xs es
        → Spells forms level.Atom
        (terminal.Word word.LeftBrace ∷ xs ++ terminal.Word word.RightBrace ∷ []) e
    -- (e)
    parenthesized : {xs : List (Terminal X)} {e : T}
        → Spells forms level.Conditional xs e
        → Spells forms level.Atom
        (terminal.Word word.LeftParen ∷ xs ++ terminal.Word word.RightParen ∷ []) e
    -- what a level spells, each level below it spells too
    higher : {k : Level} {xs : List (Terminal X)} {e : T}
        → Spells forms (above k) xs e
        → Spells forms k xs e

  -- an end of a slice, which may be missing
  pub data SpellsEnd {X T : Type 0} (forms : Forms X T) : List (Terminal X) → Option T
      → Type 0 where
    missing : (SpellsEnd forms) [] None
    given : {xs : List (Terminal X)} {e : T}
        → Spells forms level.Conditional xs e
        → SpellsEnd forms xs ((Some e))

  -- zero or more expressions, joined by commas
  pub data SpellsAll {X T : Type 0} (forms : Forms X T) : List (Terminal X) → List T → Type 0 where
    none : (SpellsAll forms) [] []
    one : {xs : List (Terminal X)} {e : T}
        → Spells forms level.Conditional xs e
        → SpellsAll forms xs ((e ∷ []))
    more : {xs ys : List (Terminal X)} {e f : T} {es : List T}
        → Spells forms level.Conditional xs e
        → SpellsAll forms ys ((f ∷ es))
        → SpellsAll forms (xs ++ terminal.Word word.Comma ∷ ys) ((e ∷ ((f ∷ es))))
