-- Sets of operators: `{+, -}` and `{<, <=}`.
use Rattle.std.specs.Prelude.{if◌then◌else◌, codes, List, [], ◌∷◌, Option, Some, None}
use Rattle.mpy_tree.specs.Options.{◌>>=◌}
use Rattle.mpy_tree.specs.declared.operators.ArithOp.{ArithOp}
use Rattle.mpy_tree.specs.declared.operators.ArithOp.TheVariants.{Add, Sub, Mul, Floor, Rem}
use Rattle.mpy_tree.specs.declared.operators.CmpOp.{CmpOp}
use Rattle.mpy_tree.specs.declared.operators.CmpOp.TheVariants.{Eq, Ne, Lt, Le, Gt, Ge}
use Rattle.mpy_lexer.specs.declared.token.Token.{Token}
use Rattle.eml_sides.specs.Singles.{is_mark}

-- one of + - * // %
abbrev pub arith_of : Token → Option ArithOp
arith_of t =
    if is_mark (codes "+") t then Some Add
    else if is_mark (codes "-") t then Some Sub
    else if is_mark (codes "*") t then Some Mul
    else if is_mark (codes "//") t then Some Floor
    else if is_mark (codes "%") t then Some Rem
    else None

-- one of == != < <= > >=
abbrev pub comparison_of : Token → Option CmpOp
comparison_of t =
    if is_mark (codes "==") t then Some Eq
    else if is_mark (codes "!=") t then Some Ne
    else if is_mark (codes "<") t then Some Lt
    else if is_mark (codes "<=") t then Some Le
    else if is_mark (codes ">") t then Some Gt
    else if is_mark (codes ">=") t then Some Ge
    else None

-- behind an operator: the closing brace, or a comma and the other operators
abbrev pub behind_operator : {A : Type 0} → A → Token → List Token
    → Option (List A × List Token) → Option (List A × List Token)
behind_operator op u ts others =
    if is_mark (codes "}") u then Some (op ∷ [], ts)
    else if is_mark (codes ",") u then (others >>= λ o. Some (op ∷ o.0, o.1))
    else None

-- operators with commas between them up to the closing brace, and the tokens behind it
abbrev pub ariths_at : List Token → Option (List ArithOp × List Token)
ariths_at (t ∷ u ∷ ts) =
    arith_of t >>= λ op. behind_operator op u ts (ariths_at ts)
ariths_at _ = None

abbrev pub comparisons_at : List Token → Option (List CmpOp × List Token)
comparisons_at (t ∷ u ∷ ts) =
    comparison_of t >>= λ op. behind_operator op u ts (comparisons_at ts)
comparisons_at _ = None
