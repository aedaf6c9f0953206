-- What the code's heads of rules are as mathematics.
use Rattle.std.specs.Prelude.{ℕ, List}
use denote.Ref.{Bor}
use Rattle.mpy_lexer.specs.declared.token.Token.{Token}
use Rattle.eml_reader.specs.declared.heads.Head.{Head}
use Rattle.eml_reader.specs.RuleReading.{Headed}

abbrev pub head_seen : Head → Headed
head_seen h = record { name = h.name.now.text; cost = h.cost; sides = h.sides.now }

abbrev pub behind_seen : ℕ × Bor (List Token) → ℕ × List Token
behind_seen p = (p.0, p.1.now)

abbrev pub sides_seen : Bor (List Token) × Bor (List Token) → List Token × List Token
sides_seen p = (p.0.now, p.1.now)
