-- Proper terminals spell proper sides.
use Rattle.std.proofs.Common.{◌≡◌, List, [], ◌∷◌, ◌++◌, Option, Some, None, refl, subst}
use Rattle.mpy_tree.specs.declared.levels.Level.{Level}
use Rattle.mpy_expressions.specs.declared.terminals.Terminal.{Terminal}
use Rattle.mpy_expressions.specs.declared.terminals.Terminal.TheVariants as terminal
use Rattle.mpy_expressions.specs.declared.words.Word.TheVariants as word
use Rattle.mpy_expressions.specs.Grammar.{Spells, SpellsAll, SpellsEnd, arithmetic, call}
use Rattle.mpy_expressions.specs.Grammar.{compared, comparison, conditional, conjunction}
use Rattle.mpy_expressions.specs.Grammar.{disjunction, given, higher, hole, index, items, likened}
use Rattle.mpy_expressions.specs.Grammar.{minus, missing, more, name, negation, none, number, one}
use Rattle.mpy_expressions.specs.Grammar.{operated, parenthesized, quoted, set, slice, truth}
use Rattle.mpy_expressions.specs.Joints.{arith_word}
use Rattle.choice_tree.specs.declared.forms.Mark.{Mark}
use Rattle.choice_tree.specs.declared.forms.Mark.TheVariants as mark
use Rattle.choice_tree.specs.declared.rules.Place.{Place}
use Rattle.choice_tree.specs.RuleViews.{template_end, templates}
use Rattle.choice_tree.specs.Sides.{binary, side_comparator, side_hole, side_operator, side_set}
use Rattle.choice_tree.specs.Sides.{sides}
use Rattle.choice_tree.specs.Templates.{Template, Templates, one_arith, one_comparison, one_of}
use Rattle.choice_tree.specs.Templates.{no_templates, some_arith, some_comparison, some_local}
use Rattle.choice_tree.specs.Templates as template
use Rattle.choice_tree.proofs.Lists.{Each}
use Rattle.eml_sides.specs.SidesSpelled.{SpellsSide, anywhere, assigned, each, repeated, returned}
use Rattle.eml_sides.specs.SidesSpelled.{tested}
use Rattle.input_space.specs.ProperRules.{AreProperSides, IsProperSide}
use Rattle.task_read.proofs.ProperTerminals.{AreProperTerminals, IsProperTerminal}

pub halves : {A : Type 0} (P : A → Type 0) (xs ys : List A) → Each P (xs ++ ys)
    → Each P xs × Each P ys
halves P [] ys h = (tt, h)
halves P (x ∷ xs) ys h = let rest = halves P xs ys h.1 in ((h.0, rest.0), rest.1)

-- what stands before a terminal, and what stands behind it
around : (xs : List (Terminal Mark)) (t : Terminal Mark) (ys : List (Terminal Mark))
    → AreProperTerminals (xs ++ (t ∷ ys)) → AreProperTerminals xs × AreProperTerminals ys
around xs t ys h = let both = halves IsProperTerminal xs (t ∷ ys) h in (both.0, both.1.1)

-- WHAT STANDS IN RULES ALONE

same_some : {A : Type 0} (a b : A) → Some a ≡ Some b → a ≡ b
same_some a b h = cc

proper_hole : (x : Mark) (e : Template) → side_hole x ≡ Some e → IsProperSide e
proper_hole (mark.Meta m) e h = subst IsProperSide (same_some (template.hole m) e h) tt
proper_hole (mark.Local m) e h = subst IsProperSide (same_some (some_local m) e h) tt
proper_hole (mark.Ariths ops) e h = absurd (let z : None ≡ Some e = h in cc)
proper_hole (mark.Comparisons ops) e h = absurd (let z : None ≡ Some e = h in cc)

proper_set : (es : List Template) (e : Template) → side_set es ≡ Some e
    → AreProperSides (templates es) → IsProperSide e
proper_set [] e h p = absurd (let z : None ≡ Some e = h in cc)
proper_set (x ∷ xs) e h p = subst IsProperSide (same_some (one_of (templates (x ∷ xs))) e h) p

abbrev Makes : Type 0
Makes = Template → Template → Template

proper_operator : (x : Mark) (f : Makes) → side_operator x ≡ Some f → (a b : Template)
    → IsProperSide a → IsProperSide b → IsProperSide (f a b)
proper_operator (mark.Meta m) f h a b p q =
    subst (λ (g : Makes). IsProperSide (g a b)) (same_some (binary (some_arith m)) f h)
    (tt, (p, (q, tt)))
proper_operator (mark.Ariths ops) f h a b p q =
    subst (λ (g : Makes). IsProperSide (g a b)) (same_some (binary (one_arith ops)) f h)
    (tt, (p, (q, tt)))
proper_operator (mark.Local m) f h a b p q =
    absurd (let z : ◌≡◌ {A = Option Makes} None (Some f) = h in cc)
proper_operator (mark.Comparisons ops) f h a b p q =
    absurd (let z : ◌≡◌ {A = Option Makes} None (Some f) = h in cc)

proper_comparator : (x : Mark) (f : Makes) → side_comparator x ≡ Some f → (a b : Template)
    → IsProperSide a → IsProperSide b → IsProperSide (f a b)
proper_comparator (mark.Meta m) f h a b p q =
    subst (λ (g : Makes). IsProperSide (g a b)) (same_some (binary (some_comparison m)) f h)
    (tt, (p, (q, tt)))
proper_comparator (mark.Comparisons ops) f h a b p q =
    subst (λ (g : Makes). IsProperSide (g a b)) (same_some (binary (one_comparison ops)) f h)
    (tt, (p, (q, tt)))
proper_comparator (mark.Local m) f h a b p q =
    absurd (let z : ◌≡◌ {A = Option Makes} None (Some f) = h in cc)
proper_comparator (mark.Ariths ops) f h a b p q =
    absurd (let z : ◌≡◌ {A = Option Makes} None (Some f) = h in cc)

-- an end of a slice before other parts
proper_ends : (e : Option Template) (ps : Templates)
    → AreProperSides (template_end (λ e. e) e no_templates) → AreProperSides ps
    → AreProperSides (template_end (λ e. e) e ps)
proper_ends None ps h k = k
proper_ends (Some e) ps h k = (h.0, k)

-- EXPRESSIONS

mutual
  proper_side : {k : Level} {ts : List (Terminal Mark)} {e : Template} → Spells sides k ts e
      → AreProperTerminals ts → IsProperSide e
  proper_side (conditional {xs} {ts} {ys} s t u) p =
      let last = around (xs ++ (terminal.Word word.If ∷ ts)) (terminal.Word word.Else) ys p in
      let first = around xs (terminal.Word word.If) ts last.0 in
      ((refl, tt), (proper_side s first.0, (proper_side t first.1, (proper_side u last.1, tt))))
  proper_side (disjunction {xs} {ys} s t) p =
      let both = around xs (terminal.Word word.Or) ys p in
      ((refl, tt), (proper_side s both.0, (proper_side t both.1, tt)))
  proper_side (conjunction {xs} {ys} s t) p =
      let both = around xs (terminal.Word word.And) ys p in
      ((refl, tt), (proper_side s both.0, (proper_side t both.1, tt)))
  proper_side (negation s) p = ((refl, tt), (proper_side s p.1, tt))
  proper_side (compared {xs} {ys} op s t) p =
      let last = halves IsProperTerminal (xs ++ comparison op) ys p in
      let first = halves IsProperTerminal xs (comparison op) last.0 in
      (tt, (proper_side s first.0, (proper_side t last.1, tt)))
  proper_side (arithmetic {xs} {ys} op s t) p =
      let both = around xs (terminal.Word (arith_word op)) ys p in
      (tt, (proper_side s both.0, (proper_side t both.1, tt)))
  proper_side (operated {xs} {ys} {a} {b} x {f} h s t) p =
      let both = around xs (terminal.Operator x) ys p in
      proper_operator x f h a b (proper_side s both.0) (proper_side t both.1)
  proper_side (likened {xs} {ys} {a} {b} x {f} h s t) p =
      let both = around xs (terminal.Comparator x) ys p in
      proper_comparator x f h a b (proper_side s both.0) (proper_side t both.1)
  proper_side (minus s) p = ((refl, tt), (proper_side s p.1, tt))
  proper_side (index {xs} {ys} s t) p =
      let whole =
      halves IsProperTerminal (xs ++ (terminal.Word word.LeftBracket ∷ ys))
      (terminal.Word word.RightBracket ∷ []) p in
      let both = around xs (terminal.Word word.LeftBracket) ys whole.0 in
      ((refl, tt), (proper_side s both.0, (proper_side t both.1, tt)))
  proper_side (slice {xs} {ys} {zs} {from} {to} s f t) p =
      let whole =
      halves IsProperTerminal
      ((xs ++ (terminal.Word word.LeftBracket ∷ ys)) ++ (terminal.Word word.Colon ∷ zs))
      (terminal.Word word.RightBracket ∷ []) p in
      let last =
      around (xs ++ (terminal.Word word.LeftBracket ∷ ys)) (terminal.Word word.Colon) zs whole.0
      in
      let first = around xs (terminal.Word word.LeftBracket) ys last.0 in (
        (refl, tt),
        (
          proper_side s first.0,
          proper_ends from (template_end (λ e. e) to no_templates) (proper_end f first.1)
              (proper_end t last.1),
        ),
      )
  proper_side (number n) p = ((refl, p.0), tt)
  proper_side (quoted cs) p = ((refl, p.0), tt)
  proper_side (truth b) p = ((refl, tt), tt)
  proper_side (name x) p = ((refl, p.0), tt)
  proper_side (hole x {e} h) p = proper_hole x e h
  proper_side (call f {xs} s) p =
      let inner = halves IsProperTerminal xs (terminal.Word word.RightParen ∷ []) p.1.1 in
      ((refl, p.0), proper_sides s inner.0)
  proper_side (items {xs} s) p =
      let inner = halves IsProperTerminal xs (terminal.Word word.RightBracket ∷ []) p.1 in
      ((refl, tt), proper_sides s inner.0)
  proper_side (set {xs} {es} {e} h s) p =
      let inner = halves IsProperTerminal xs (terminal.Word word.RightBrace ∷ []) p.1 in
      proper_set es e h (proper_sides s inner.0)
  proper_side (parenthesized {xs} s) p =
      proper_side s (halves IsProperTerminal xs (terminal.Word word.RightParen ∷ []) p.1).0
  proper_side (higher s) p = proper_side s p

  proper_end : {ts : List (Terminal Mark)} {e : Option Template} → SpellsEnd sides ts e
      → AreProperTerminals ts → AreProperSides (template_end (λ e. e) e no_templates)
  proper_end missing p = tt
  proper_end (given s) p = (proper_side s p, tt)

  proper_sides : {ts : List (Terminal Mark)} {es : List Template} → SpellsAll sides ts es
      → AreProperTerminals ts → AreProperSides (templates es)
  proper_sides none p = tt
  proper_sides (one s) p = (proper_side s p, tt)
  proper_sides (more {xs} {ys} s t) p =
      let both = around xs (terminal.Word word.Comma) ys p in
      (proper_side s both.0, proper_sides t both.1)

-- WHOLE SIDES

pub spelled_proper : {ts : List (Terminal Mark)} {place : Place} {e : Template}
    → SpellsSide ts place e → AreProperTerminals ts → IsProperSide e
spelled_proper (anywhere s) p = proper_side s p
spelled_proper (returned s) p = proper_side s p.1
spelled_proper (assigned m is s) p = proper_side s p.1.1
spelled_proper (tested {es} s) p =
    proper_side s (halves IsProperTerminal es (terminal.Word word.Colon ∷ []) p.1).0
spelled_proper (repeated {es} s) p =
    proper_side s (halves IsProperTerminal es (terminal.Word word.Colon ∷ []) p.1).0
spelled_proper (each m {es} is s) p =
    proper_side s (halves IsProperTerminal es (terminal.Word word.Colon ∷ []) p.1.1.1).0
