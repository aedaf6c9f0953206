-- Reading an expression from the left: the expression and the terminals behind it, if one begins
-- there.
use Rattle.std.specs.Prelude.{ℕ, zero, suc, ◌+◌, ◌*◌, true, false, List, [], ◌∷◌, length, Option}
use Rattle.std.specs.Prelude.{Some, None}
use Rattle.mpy_tree.specs.declared.operators.ArithOp.TheVariants.{Power}
use Rattle.mpy_tree.specs.declared.operators.CmpOp.{CmpOp}
use Rattle.mpy_tree.specs.declared.operators.CmpOp.TheVariants.{Eq, Ne, Lt, Le, Gt, Ge, Member}
use Rattle.mpy_tree.specs.declared.operators.CmpOp.TheVariants.{NotMember}
use Rattle.mpy_tree.specs.declared.levels.Level.{Level}
use Rattle.mpy_tree.specs.declared.levels.Level.TheVariants as level
use Rattle.mpy_expressions.specs.Forms.{Forms}
use Rattle.mpy_expressions.specs.declared.joints.Joint.{Joint}
use Rattle.mpy_expressions.specs.declared.joints.Joint.TheVariants as joint
use Rattle.mpy_expressions.specs.declared.words.Word.TheVariants as word
use Rattle.mpy_expressions.specs.declared.terminals.Terminal.{Terminal}
use Rattle.mpy_expressions.specs.declared.terminals.Terminal.TheVariants as terminal
use Rattle.mpy_expressions.specs.declared.terms.Bracket.{Bracket}
use Rattle.mpy_expressions.specs.declared.terms.Bracket.TheVariants as bracket
use Rattle.mpy_tree.specs.Levels.{above}
use Rattle.mpy_tree.specs.Options.{◌>>=◌}
use Rattle.mpy_expressions.specs.Joints.{joint_at}

-- the first where it is there, or else the second
abbrev pub or_else : {A : Type 0} → Option A → A → A
or_else None d = d
or_else (Some x) d = x

abbrev pub Reading : Type 0 → Type 0 → Type 0
Reading X T = Option (T × List (Terminal X))

abbrev pub Reader : Type 0 → Type 0 → Type 0
Reader X T = Level → List (Terminal X) → Reading X T

-- what stands behind a word
abbrev pub behind_if : {X : Type 0} → List (Terminal X) → Option (List (Terminal X))
behind_if (terminal.Word word.If ∷ ts) = Some ts
behind_if _ = None

abbrev pub behind_else : {X : Type 0} → List (Terminal X) → Option (List (Terminal X))
behind_else (terminal.Word word.Else ∷ ts) = Some ts
behind_else _ = None

abbrev pub behind_not : {X : Type 0} → List (Terminal X) → Option (List (Terminal X))
behind_not (terminal.Word word.Not ∷ ts) = Some ts
behind_not _ = None

abbrev pub behind_minus : {X : Type 0} → List (Terminal X) → Option (List (Terminal X))
behind_minus (terminal.Word word.Minus ∷ ts) = Some ts
behind_minus _ = None

abbrev pub behind_power : {X : Type 0} → List (Terminal X) → Option (List (Terminal X))
behind_power (terminal.Word word.DoubleStar ∷ ts) = Some ts
behind_power _ = None

abbrev pub behind_bracket : {X : Type 0} → List (Terminal X) → Option (List (Terminal X))
behind_bracket (terminal.Word word.LeftBracket ∷ ts) = Some ts
behind_bracket _ = None

abbrev pub behind_closing_bracket : {X : Type 0} → List (Terminal X) → Option (List (Terminal X))
behind_closing_bracket (terminal.Word word.RightBracket ∷ ts) = Some ts
behind_closing_bracket _ = None

abbrev pub behind_paren : {X : Type 0} → List (Terminal X) → Option (List (Terminal X))
behind_paren (terminal.Word word.LeftParen ∷ ts) = Some ts
behind_paren _ = None

abbrev pub behind_closing_paren : {X : Type 0} → List (Terminal X) → Option (List (Terminal X))
behind_closing_paren (terminal.Word word.RightParen ∷ ts) = Some ts
behind_closing_paren _ = None

abbrev pub behind_closing_brace : {X : Type 0} → List (Terminal X) → Option (List (Terminal X))
behind_closing_brace (terminal.Word word.RightBrace ∷ ts) = Some ts
behind_closing_brace _ = None

abbrev pub behind_colon : {X : Type 0} → List (Terminal X) → Option (List (Terminal X))
behind_colon (terminal.Word word.Colon ∷ ts) = Some ts
behind_colon _ = None

abbrev pub behind_comma : {X : Type 0} → List (Terminal X) → Option (List (Terminal X))
behind_comma (terminal.Word word.Comma ∷ ts) = Some ts
behind_comma _ = None

-- a comparison, and what stands behind it
abbrev pub comparison_at : {X : Type 0} → List (Terminal X) → Option (CmpOp × List (Terminal X))
comparison_at (terminal.Word word.Equal ∷ ts) = Some (Eq, ts)
comparison_at (terminal.Word word.NotEqual ∷ ts) = Some (Ne, ts)
comparison_at (terminal.Word word.Less ∷ ts) = Some (Lt, ts)
comparison_at (terminal.Word word.LessEqual ∷ ts) = Some (Le, ts)
comparison_at (terminal.Word word.Greater ∷ ts) = Some (Gt, ts)
comparison_at (terminal.Word word.GreaterEqual ∷ ts) = Some (Ge, ts)
comparison_at (terminal.Word word.In ∷ ts) = Some (Member, ts)
comparison_at (terminal.Word word.Not ∷ terminal.Word word.In ∷ ts) = Some (NotMember, ts)
comparison_at _ = None

abbrev pub joined : {X T : Type 0} (forms : Forms X T) → Joint → T → T → T
joined forms joint.Or a b = forms.Or a b
joined forms joint.And a b = forms.And a b
joined forms (joint.Arith op) a b = forms.Arith op a b
joined forms (joint.Cmp op) a b = forms.Cmp op a b

-- what a terminal stands for, if it stands for something, and what stands behind it
abbrev pub followed_by : {A X : Type 0}
    → Option A → List (Terminal X) → Option (A × List (Terminal X))
followed_by o ts = o >>= λ a. Some (a, ts)

-- an operator that only some kinds of expression have, and what stands behind it
abbrev pub operator_at : {X T : Type 0} (forms : Forms X T)
    → Level → X → List (Terminal X) → Option ((T → T → T) × List (Terminal X))
operator_at forms level.Sum x ts = followed_by (forms.Operator x) ts
operator_at forms _ x ts = None

-- what joins parts at the level, by what it builds, and what stands behind it
abbrev pub joint_before : {X T : Type 0} (forms : Forms X T)
    → Level → List (Terminal X) → Option ((T → T → T) × List (Terminal X))
joint_before forms k (terminal.Word w ∷ ts) = joint_at k w >>= λ j. Some (joined forms j, ts)
joint_before forms k (terminal.Operator x ∷ ts) = operator_at forms k x ts
joint_before forms k _ = None

-- what compares parts, by what it builds, and what stands behind it
abbrev pub comparator_at : {X T : Type 0} (forms : Forms X T)
    → List (Terminal X) → Option ((T → T → T) × List (Terminal X))
comparator_at forms (terminal.Comparator x ∷ ts) = followed_by (forms.Comparator x) ts
comparator_at forms ts = comparison_at ts >>= λ c. Some (forms.Cmp c.0, c.1)

-- the rest of a conditional: its test, its other value, and what stands behind it
abbrev pub conditional_tail : {X T : Type 0} → Reader X T → List (Terminal X)
    → Option (T × T × List (Terminal X))
conditional_tail read ts = do
  at_test ← behind_if ts
  t ← read level.Disjunction at_test
  at_no ← behind_else t.1
  b ← read level.Conditional at_no
  Some (t.0, b.0, b.1)

abbrev pub with_conditional_tail : {X T : Type 0} (forms : Forms X T) → Reader X T
    → T × List (Terminal X) → T × List (Terminal X)
with_conditional_tail forms read a =
    or_else (conditional_tail read a.1 >>= λ c. Some (forms.Cond c.0 a.0 c.1, c.2)) a

-- zero or more joints of the level, each with what stands right of it
abbrev pub joint_tail : {X T : Type 0} (forms : Forms X T)
    → Reader X T → Level → List (Terminal X) → Option ((T → T → T) × T × List (Terminal X))
joint_tail forms read k ts = do
  j ← joint_before forms k ts
  b ← read (above k) j.1
  Some (j.0, b.0, b.1)

abbrev pub with_joints : {X T : Type 0} (forms : Forms X T) → Reader X T → Level → ℕ
    → T × List (Terminal X) → T × List (Terminal X)
with_joints forms read k zero a = a
with_joints forms read k (suc n) a =
    or_else
    (joint_tail forms read k a.1 >>= λ j. Some (with_joints forms read k n (j.0 a.0 j.1, j.2))) a

abbrev pub comparison_tail : {X T : Type 0} (forms : Forms X T)
    → Reader X T → List (Terminal X) → Option ((T → T → T) × T × List (Terminal X))
comparison_tail forms read ts = do
  op ← comparator_at forms ts
  b ← read level.Sum op.1
  Some (op.0, b.0, b.1)

abbrev pub with_comparison : {X T : Type 0} (forms : Forms X T) → Reader X T
    → T × List (Terminal X) → T × List (Terminal X)
with_comparison forms read a =
    or_else (comparison_tail forms read a.1 >>= λ c. Some (c.0 a.0 c.1, c.2)) a

abbrev pub power_tail : {X T : Type 0} → Reader X T → List (Terminal X) → Reading X T
power_tail read ts = do
  at_exponent ← behind_power ts
  read level.Unary at_exponent

abbrev pub with_power : {X T : Type 0} (forms : Forms X T) → Reader X T → T × List (Terminal X)
    → T × List (Terminal X)
with_power forms read a =
    or_else (power_tail read a.1 >>= λ b. Some (forms.Arith Power a.0 b.0, b.1)) a

-- what stands behind a value in brackets
pub data Suffix (T : Type 0) : Type 0 where
  by_index : (i : T) → Suffix T
  by_ends : (from to : Option T) → Suffix T

abbrev pub suffixed : {X T : Type 0} (forms : Forms X T) → T → (Suffix T) → T
suffixed forms v (by_index i) = forms.Index v i
suffixed forms v (by_ends from to) = forms.Slice v from to

-- the second end of a slice, and the closing bracket
abbrev pub second_end : {X T : Type 0} → Reader X T → List (Terminal X)
    → Option (Option T × List (Terminal X))
second_end read ts = elim (behind_closing_bracket ts) [
  | Some rest ↦ Some (None, rest)
  | None ↦ (do
    e ← read level.Conditional ts
    rest ← behind_closing_bracket e.1
    Some ((Some e.0), rest))
]

-- behind the colon of a slice
abbrev pub last_end : {X T : Type 0} → Reader X T → Option T → List (Terminal X)
    → Option ((Suffix T) × List (Terminal X))
last_end read from ts = second_end read ts >>= λ to. Some (by_ends from to.0, to.1)

-- behind the first expression in brackets
abbrev pub behind_index : {X T : Type 0} → Reader X T → T → List (Terminal X)
    → Option ((Suffix T) × List (Terminal X))
behind_index read i ts = elim (behind_closing_bracket ts) [
  | Some rest ↦ Some (by_index i, rest)
  | None ↦ (do
    at_end ← behind_colon ts
    last_end read (Some i) at_end)
]

abbrev pub in_brackets : {X T : Type 0} → Reader X T → List (Terminal X)
    → Option ((Suffix T) × List (Terminal X))
in_brackets read ts = elim (behind_colon ts) [
  | Some at_end ↦ last_end read None at_end
  | None ↦ (do
    i ← read level.Conditional ts
    behind_index read i.0 i.1)
]

abbrev pub suffix_at : {X T : Type 0} → Reader X T → List (Terminal X)
    → Option ((Suffix T) × List (Terminal X))
suffix_at read ts = do
  inside ← behind_bracket ts
  in_brackets read inside

abbrev pub with_suffixes : {X T : Type 0} (forms : Forms X T) → Reader X T → ℕ
    → T × List (Terminal X) → T × List (Terminal X)
with_suffixes forms read zero v = v
with_suffixes forms read (suc n) v =
    or_else
    (suffix_at read v.1 >>= λ s. Some (with_suffixes forms read n (suffixed forms v.0 s.0, s.1))) v

-- what stands behind a closing bracket
abbrev pub closed : {X : Type 0} → Bracket → List (Terminal X) → Option (List (Terminal X))
closed bracket.Round ts = behind_closing_paren ts
closed bracket.Square ts = behind_closing_bracket ts
closed bracket.Curly ts = behind_closing_brace ts

-- one expression or more, joined by commas, up to the closing bracket
abbrev pub some_elements : {X T : Type 0} → Reader X T → Bracket → ℕ → List (Terminal X)
    → Option (List T × List (Terminal X))
some_elements read b zero ts = None
some_elements read b (suc n) ts = do
  e ← read level.Conditional ts
  elim (closed b e.1) [
    | Some rest ↦ Some ((e.0 ∷ []), rest)
    | None ↦ (do
      next ← behind_comma e.1
      es ← some_elements read b n next
      Some ((e.0 ∷ es.0), es.1))
  ]

abbrev pub elements : {X T : Type 0} → Reader X T → Bracket → List (Terminal X)
    → Option (List T × List (Terminal X))
elements read b ts = elim (closed b ts) [
  | Some rest ↦ Some ([], rest)
  | None ↦ some_elements read b (length ts) ts
]

-- the arguments of a call
abbrev pub arguments : {X T : Type 0} → Reader X T → List (Terminal X)
    → Option (List T × List (Terminal X))
arguments read ts = do
  inside ← behind_paren ts
  elements read bracket.Round inside

abbrev pub name_or_call : {X T : Type 0} (forms : Forms X T) → Reader X T → List ℕ
    → List (Terminal X) → T × List (Terminal X)
name_or_call forms read x ts =
    or_else (arguments read ts >>= λ es. Some (forms.Call x es.0, es.1)) (forms.Name x, ts)

abbrev pub parenthesized : {X T : Type 0} → Reader X T → List (Terminal X) → Reading X T
parenthesized read ts = do
  e ← read level.Conditional ts
  rest ← behind_closing_paren e.1
  Some (e.0, rest)

-- a set, where it may stand
abbrev pub set : {X T : Type 0} (forms : Forms X T) → Reader X T → List (Terminal X) → Reading X T
set forms read ts = do
  es ← elements read bracket.Curly ts
  e ← forms.Set es.0
  Some (e, es.1)

-- what a hole stands for
abbrev pub special : {X T : Type 0} (forms : Forms X T) → X → List (Terminal X) → Reading X T
special forms x ts = followed_by (forms.Hole x) ts

abbrev pub atom : {X T : Type 0} (forms : Forms X T) → Reader X T → List (Terminal X) → Reading X T
atom forms read (terminal.Number n ∷ ts) = Some (forms.Int n, ts)
atom forms read (terminal.Text cs ∷ ts) = Some (forms.Text cs, ts)
atom forms read (terminal.Word word.True ∷ ts) = Some (forms.Bool true, ts)
atom forms read (terminal.Word word.False ∷ ts) = Some (forms.Bool false, ts)
atom forms read (terminal.Special x ∷ ts) = special forms x ts
atom forms read (terminal.Name x ∷ ts) = Some (name_or_call forms read x ts)
atom forms read (terminal.Word word.LeftBracket ∷ ts) =
    elements read bracket.Square ts >>= λ es. Some (forms.List es.0, es.1)
atom forms read (terminal.Word word.LeftBrace ∷ ts) = set forms read ts
atom forms read (terminal.Word word.LeftParen ∷ ts) = parenthesized read ts
atom forms read _ = None

-- an operator that may stand before what it takes
abbrev pub prefixed : {X T : Type 0} → Reader X T → Level
    → (behind : List (Terminal X) → Option (List (Terminal X))) → (T → T) → List (Terminal X)
    → Reading X T
prefixed read k behind f ts = elim (behind ts) [
  | Some rest ↦ (do
    e ← read k rest
    Some (f e.0, e.1))
  | None ↦ read (above k) ts
]

-- reading at each level, by a reader for the parts
abbrev pub at_level : {X T : Type 0} (forms : Forms X T) → Reader X T → Level
    → List (Terminal X) → Reading X T
at_level forms read level.Conditional ts =
    read level.Disjunction ts >>= λ a. Some (with_conditional_tail forms read a)
at_level forms read level.Disjunction ts =
    read level.Conjunction ts
    >>= λ a. Some (with_joints forms read level.Disjunction (length a.1) a)
at_level forms read level.Conjunction ts =
    read level.Negation ts >>= λ a. Some (with_joints forms read level.Conjunction (length a.1) a)
at_level forms read level.Negation ts = prefixed read level.Negation behind_not forms.Not ts
at_level forms read level.Comparison ts =
    read level.Sum ts >>= λ a. Some (with_comparison forms read a)
at_level forms read level.Sum ts =
    read level.Product ts >>= λ a. Some (with_joints forms read level.Sum (length a.1) a)
at_level forms read level.Product ts =
    read level.Unary ts >>= λ a. Some (with_joints forms read level.Product (length a.1) a)
at_level forms read level.Unary ts = prefixed read level.Unary behind_minus forms.Neg ts
at_level forms read level.Power ts = read level.Postfix ts >>= λ a. Some (with_power forms read a)
at_level forms read level.Postfix ts =
    read level.Atom ts >>= λ a. Some (with_suffixes forms read (length a.1) a)
at_level forms read level.Atom ts = atom forms read ts

-- reading by so many steps at most
abbrev pub read_within : {X T : Type 0} (forms : Forms X T) → ℕ → Reader X T
read_within forms zero k ts = None
read_within forms (suc n) k ts = at_level forms (read_within forms n) k ts

-- how many levels bind closer
abbrev pub levels_above : Level → ℕ
levels_above level.Conditional = 10
levels_above level.Disjunction = 9
levels_above level.Conjunction = 8
levels_above level.Negation = 7
levels_above level.Comparison = 6
levels_above level.Sum = 5
levels_above level.Product = 4
levels_above level.Unary = 3
levels_above level.Power = 2
levels_above level.Postfix = 1
levels_above level.Atom = 0

-- as many steps as reading takes
abbrev pub steps : {X : Type 0} → Level → List (Terminal X) → ℕ
steps k ts = suc (11 * length ts + levels_above k)

unfoldable pub reading : {X T : Type 0} (forms : Forms X T) → Reader X T
reading forms k ts = read_within forms (steps k ts) k ts
