-- Proper terminals spell proper terms.
use Rattle.std.proofs.Common.{◌≡◌, List, [], ◌∷◌, ◌++◌, Option, Some, None}
use Rattle.mpy_tree.specs.Syntax.{Term}
use Rattle.mpy_tree.specs.View.{terms, end_by}
use Rattle.mpy_tree.specs.declared.levels.Level.{Level}
use Rattle.mpy_expressions.specs.declared.words.Word.TheVariants as word
use Rattle.mpy_expressions.specs.declared.terminals.Terminal.{Terminal}
use Rattle.mpy_expressions.specs.declared.terminals.Terminal.TheVariants as terminal
use Rattle.mpy_expressions.specs.Joints.{arith_word}
use Rattle.mpy_expressions.specs.Programs.{programs}
use Rattle.mpy_expressions.specs.Grammar.{Spells, SpellsEnd, SpellsAll, conditional, disjunction, conjunction, negation, compared, arithmetic, minus, index, slice, number, quoted, truth, name, hole, set, operated, likened, call, items, parenthesized, higher, missing, given, none, one, more, comparison}
use Rattle.mpy_round_trip.proofs.ProperForms.{IsProperTerm}
use Rattle.mpy_round_trip.proofs.ProperParts.{HasProperParts, HaveProperParts, EndHasProperParts, of_parts}
use Rattle.mpy_round_trip.proofs.reading.ProperTerminals.{AreProperTerminals, halves, around}

mutual
  proper_parts : {k : Level} {ts : List (Terminal Unit)} {e : Term} → Spells programs k ts e → AreProperTerminals ts → HasProperParts e
  proper_parts (conditional {xs} {ts} {ys} s t u) p =
      let last = around (xs ++ (terminal.Word word.If ∷ ts)) (terminal.Word word.Else) ys p in
      let first = around xs (terminal.Word word.If) ts last.0 in
      (proper_parts t first.1, proper_parts s first.0, proper_parts u last.1)
  proper_parts (disjunction {xs} {ys} s t) p = let both = around xs (terminal.Word word.Or) ys p in (proper_parts s both.0, proper_parts t both.1)
  proper_parts (conjunction {xs} {ys} s t) p = let both = around xs (terminal.Word word.And) ys p in (proper_parts s both.0, proper_parts t both.1)
  proper_parts (negation s) p = proper_parts s p.1
  proper_parts (compared {xs} {ys} op s t) p =
      let last = halves (xs ++ comparison op) ys p in
      let first = halves xs (comparison op) last.0 in
      (proper_parts s first.0, proper_parts t last.1)
  proper_parts (arithmetic {xs} {ys} op s t) p = let both = around xs (terminal.Word (arith_word op)) ys p in (proper_parts s both.0, proper_parts t both.1)
  proper_parts (minus s) p = proper_parts s p.1
  proper_parts (index {xs} {ys} s t) p =
      let whole = halves (xs ++ (terminal.Word word.LeftBracket ∷ ys)) (terminal.Word word.RightBracket ∷ []) p in
      let both = around xs (terminal.Word word.LeftBracket) ys whole.0 in
      (proper_parts s both.0, proper_parts t both.1)
  proper_parts (slice {xs} {ys} {zs} s f t) p =
      let whole = halves ((xs ++ (terminal.Word word.LeftBracket ∷ ys)) ++ (terminal.Word word.Colon ∷ zs)) (terminal.Word word.RightBracket ∷ []) p in
      let last = around (xs ++ (terminal.Word word.LeftBracket ∷ ys)) (terminal.Word word.Colon) zs whole.0 in
      let first = around xs (terminal.Word word.LeftBracket) ys last.0 in
      (proper_parts s first.0, proper_end f first.1, proper_end t last.1)
  proper_parts (number n) p = p.0
  proper_parts (quoted cs) p = p.0
  proper_parts (truth b) p = tt
  proper_parts (name x) p = p.0
  proper_parts (hole x {e = d} h) p = absurd (let z : None ≡ Some d = h in cc)
  proper_parts (set {e = d} h s) p = absurd (let z : None ≡ Some d = h in cc)
  proper_parts (operated x {f = f} h s t) p = absurd (let z : ◌≡◌ {A = Option (Term → Term → Term)} None (Some f) = h in cc)
  proper_parts (likened x {f = f} h s t) p = absurd (let z : ◌≡◌ {A = Option (Term → Term → Term)} None (Some f) = h in cc)
  proper_parts (call f {xs} s) p = (p.0, proper_terms s (halves xs (terminal.Word word.RightParen ∷ []) p.1.1).0)
  proper_parts (items {xs} s) p = proper_terms s (halves xs (terminal.Word word.RightBracket ∷ []) p.1).0
  proper_parts (parenthesized {xs} s) p = proper_parts s (halves xs (terminal.Word word.RightParen ∷ []) p.1).0
  proper_parts (higher s) p = proper_parts s p

  proper_end : {ts : List (Terminal Unit)} {e : Option Term} → SpellsEnd programs ts e → AreProperTerminals ts → EndHasProperParts (end_by (λ x. x) e)
  proper_end missing p = tt
  proper_end (given s) p = proper_parts s p

  proper_terms : {ts : List (Terminal Unit)} {es : List Term} → SpellsAll programs ts es → AreProperTerminals ts → HaveProperParts (terms es)
  proper_terms none p = tt
  proper_terms (one s) p = (proper_parts s p, tt)
  proper_terms (more {xs} {ys} s t) p = let both = around xs (terminal.Word word.Comma) ys p in (proper_parts s both.0, proper_terms t both.1)

pub proper_term : {k : Level} {ts : List (Terminal Unit)} {e : Term} → Spells programs k ts e → AreProperTerminals ts → IsProperTerm e
proper_term {e = e} s p = of_parts e (proper_parts s p)
