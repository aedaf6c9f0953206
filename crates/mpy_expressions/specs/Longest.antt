-- The expressions that begin at a place of a list of tokens.
use Rattle.std.specs.Prelude.{◌≡◌, ◌≤◌, ℕ, ◌-◌, List, take, drop, length}
use Rattle.mpy_tree.specs.Syntax.{Term}
use Rattle.mpy_lexer.specs.declared.token.Token.{Token}
use Rattle.mpy_tree.specs.declared.levels.Level.{Level}
use Rattle.mpy_tree.specs.declared.levels.Level.TheVariants as level
use Rattle.mpy_expressions.specs.declared.terminals.Terminal.{Terminal}
use Rattle.mpy_expressions.specs.Terminals.{terminals}
use Rattle.mpy_expressions.specs.Grammar.{Spells}
use Rattle.mpy_expressions.specs.Programs.{programs}

-- the tokens from one place up to another spell the expression
abbrev pub SpellsBetween : List Token → ℕ → ℕ → Term → Type 0
SpellsBetween toks from to e =
    Spells programs level.Conditional (terminals (take (to - from) (drop from toks))) e

-- an expression ends at the place
pub record EndsAt (toks : List Token) (from to : ℕ) (e : Term) : Type 0 where
  pub begins : from ≤ to
  pub within : to ≤ length toks
  pub spelled : SpellsBetween toks from to e

-- no expression from there ends later
abbrev pub IsLongest : List Token → ℕ → ℕ → Type 0
IsLongest toks from to = (later : ℕ) (e : Term) → EndsAt toks from later e → later ≤ to

-- no expression begins there
abbrev pub NoneBegins : List Token → ℕ → Type 0
NoneBegins toks from = (to : ℕ) (e : Term) → EndsAt toks from to e → ⊥

-- terminals spell one expression at most, at each level
abbrev pub OneExpression : Type 0
OneExpression =
    (k : Level) (ts : List (Terminal Unit)) (e f : Term) → Spells programs k ts e
    → Spells programs k ts f → e ≡ f
