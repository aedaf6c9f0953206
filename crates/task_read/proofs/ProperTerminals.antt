-- The terminals of the tokens of rules are proper.
use Rattle.std.proofs.Common.{◌≡◌, ◌⊎◌, ℕ, ◌≤◌, ◌==◌, zero, suc, Bool, true, false, List, [], ◌∷◌}
use Rattle.std.proofs.Common.{Option, Some, None, IfSome, if◌then◌else◌, cond, length}
use Rattle.std.proofs.Common.{refl, sym, ◌∙◌, inl, inr}
use Rattle.std.specs.Prelude.{codes}
use Rattle.std.specs.List.{list_all}
use Rattle.std.proofs.lemmas.List.Elements.{All-cons, All-nil}
use Rattle.mpy_tree.specs.declared.operators.ArithOp.{ArithOp}
use Rattle.mpy_tree.specs.declared.operators.CmpOp.{CmpOp}
use Rattle.mpy_tree.specs.Options.{◌>>=◌}
use Rattle.mpy_lexer.specs.declared.forms.Form.TheVariants.{Program, Rules as of_rules}
use Rattle.mpy_lexer.specs.declared.forms.Kind.{Kind}
use Rattle.mpy_lexer.specs.declared.forms.Kind.TheVariants as kind
use Rattle.mpy_lexer.specs.declared.token.Token.{Token}
use Rattle.mpy_lexer.specs.Spans.{IsIn}
use Rattle.mpy_lexer.specs.TextLiterals.{is_printable}
use Rattle.mpy_lexer.specs.TokenForms.{has_form}
use Rattle.mpy_expressions.specs.declared.terminals.Terminal.{Terminal}
use Rattle.mpy_expressions.specs.declared.terminals.Terminal.TheVariants as terminal
use Rattle.mpy_expressions.specs.declared.words.Word.{Word}
use Rattle.mpy_expressions.specs.declared.words.Word.TheVariants as word
use Rattle.mpy_expressions.specs.Terminals.{terminal_by, terminal_of, word_of, word_terminal}
use Rattle.mpy_round_trip.specs.Proper.{IsName}
use Rattle.mpy_round_trip.proofs.reading.ProperTerminals as program
use Rattle.choice_tree.specs.declared.forms.Mark.{Mark}
use Rattle.choice_tree.specs.declared.forms.Mark.TheVariants as mark
use Rattle.choice_tree.specs.declared.rules.Meta.{Meta}
use Rattle.choice_tree.proofs.Lists.{Each}
use Rattle.eml_sides.specs.Metas.{meta_of, meta_terminal}
use Rattle.eml_sides.specs.OperatorSets.{arith_of, ariths_at, behind_operator, comparison_of}
use Rattle.eml_sides.specs.OperatorSets.{comparisons_at}
use Rattle.eml_sides.specs.RuleTerminals.{Sight, comparison_set, local_at, local_by, operator_set}
use Rattle.eml_sides.specs.RuleTerminals.{perhaps_a_set, rule_terminals, terminals_within}
use Rattle.eml_sides.specs.Singles.{in_rules, is_mark, other_single_by, single}

-- a terminal of which proper sides are made
abbrev pub IsProperTerminal : Terminal Mark → Type 0
IsProperTerminal (terminal.Name x) = IsName x
IsProperTerminal (terminal.Number n) = n ≤ 2147483647
IsProperTerminal (terminal.Text cs) = list_all is_printable cs ≡ true
IsProperTerminal (terminal.Word w) = Unit {0}
IsProperTerminal (terminal.Special x) = Unit {0}
IsProperTerminal (terminal.Operator x) = Unit {0}
IsProperTerminal (terminal.Comparator x) = Unit {0}
IsProperTerminal terminal.Other = Unit {0}

abbrev pub AreProperTerminals : List (Terminal Mark) → Type 0
AreProperTerminals xs = Each IsProperTerminal xs

-- ONE TOKEN

proper_word : (o : Option Word) → program.IsProperTerminal (word_terminal o)
proper_word None = tt
proper_word (Some w) = tt

-- names, numbers and texts have one form in programs and in rules
in_program : (k : Kind) (bytes : List ℕ)
    → (has_form of_rules k bytes ≡ has_form Program k bytes)
    ⊎ program.IsProperTerminal (terminal_by k bytes)
in_program kind.Name bytes = inl refl
in_program kind.Reserved bytes = inl refl
in_program kind.Number bytes = inl refl
in_program kind.Text bytes = inl refl
in_program kind.Mark bytes = inr (proper_word (word_of bytes))
in_program kind.Meta bytes = inr tt

proper_token : (source : List ℕ) (t : Token) → IsIn of_rules source t
    → program.IsProperTerminal (terminal_of t)
proper_token source t h = elim (in_program t.kind t.text) [
  | inl same ↦
      let of_program : IsIn Program source t =
      record { some = h.some; within = h.within; text = h.text; spelled = sym same ∙ h.spelled }
      in
      (program.proper_terminals source (t ∷ [])
      (All-cons (IsIn Program source) t [] of_program (All-nil (IsIn Program source)))).0
  | inr p ↦ p
]

proper_in_rules : (x : Terminal Unit) → program.IsProperTerminal x → IsProperTerminal (in_rules x)
proper_in_rules (terminal.Name x) h = h
proper_in_rules (terminal.Number n) h = h
proper_in_rules (terminal.Text cs) h = h
proper_in_rules (terminal.Word w) h = tt
proper_in_rules _ h = tt

proper_if : (b : Bool) (x y : Terminal Mark) → IsProperTerminal x → IsProperTerminal y
    → IsProperTerminal (cond b x y)
proper_if true x y p q = p
proper_if false x y p q = q

proper_meta : (o : Option Meta) → IsProperTerminal (meta_terminal o)
proper_meta None = tt
proper_meta (Some m) =
    let like : Terminal Mark =
    if m.letter == 99 then terminal.Comparator (mark.Meta m) else terminal.Special (mark.Meta m)
    in
    proper_if (m.letter == 111) (terminal.Operator (mark.Meta m)) like tt
    (proper_if (m.letter == 99) (terminal.Comparator (mark.Meta m))
    (terminal.Special (mark.Meta m)) tt tt)

proper_other : (k : Kind) (t : Token) → program.IsProperTerminal (terminal_of t)
    → IsProperTerminal (other_single_by k t)
proper_other kind.Meta t h = proper_meta (meta_of t.text)
proper_other _ t h = proper_in_rules (terminal_of t) h

proper_single : (source : List ℕ) (t : Token) → IsIn of_rules source t
    → IsProperTerminal (single t)
proper_single source t h =
    let other = other_single_by t.kind t in
    proper_if (is_mark (codes "{") t) (terminal.Word word.LeftBrace)
    (if is_mark (codes "}") t then terminal.Word word.RightBrace else other) tt
    (proper_if (is_mark (codes "}") t) (terminal.Word word.RightBrace) other tt
    (proper_other t.kind t (proper_token source t h)))

-- WHAT IS SEEN AT THE FRONT, and that what stands behind it is of the source

module _ (P : Token → Type 0) where
  abbrev Behind : {A : Type 0} → A × List Token → Type 0
  Behind x = Each P x.1

  behind_if : {A : Type 0} (b : Bool) (o p : Option (A × List Token)) → IfSome o Behind
      → IfSome p Behind → IfSome (cond b o p) Behind
  behind_if true o p h k = h
  behind_if false o p h k = k

  one_more : {A : Type 0} (op : A) (o : Option (List A × List Token)) → IfSome o Behind
      → IfSome (o >>= λ s. Some (op ∷ s.0, s.1)) Behind
  one_more op None h = tt
  one_more op (Some s) h = h

  behind_one : {A : Type 0} (op : Option A) (u : Token) (ts : List Token)
      (others : Option (List A × List Token)) → Each P ts → IfSome others Behind
      → IfSome (op >>= λ x. behind_operator x u ts others) Behind
  behind_one None u ts others h k = tt
  behind_one (Some x) u ts others h k =
      behind_if (is_mark (codes "}") u) (Some (x ∷ [], ts)) _ h
      (behind_if (is_mark (codes ",") u) (others >>= λ s. Some (x ∷ s.0, s.1)) None
      (one_more x others k) tt)

  behind_ariths : (ts : List Token) → Each P ts → IfSome (ariths_at ts) Behind
  behind_ariths [] h = tt
  behind_ariths (t ∷ []) h = tt
  behind_ariths (t ∷ u ∷ ts) h =
      behind_one (arith_of t) u ts (ariths_at ts) h.1.1 (behind_ariths ts h.1.1)

  behind_comparisons : (ts : List Token) → Each P ts → IfSome (comparisons_at ts) Behind
  behind_comparisons [] h = tt
  behind_comparisons (t ∷ []) h = tt
  behind_comparisons (t ∷ u ∷ ts) h =
      behind_one (comparison_of t) u ts (comparisons_at ts) h.1.1 (behind_comparisons ts h.1.1)

  abbrev IsGood : Sight → Type 0
  IsGood s = IsProperTerminal s.0 × Each P s.1

  good_if : (b : Bool) (x y : Sight) → IsGood x → IsGood y → IsGood (cond b x y)
  good_if true x y p q = p
  good_if false x y p q = q

  good_comparisons : (ts : List Token) → Each P ts → IsGood (comparison_set ts)
  good_comparisons ts h = by (comparisons_at ts) (behind_comparisons ts h)
    where
      by : (o : Option (List CmpOp × List Token)) → IfSome o Behind
          → IsGood (elim o as
          (λ _. Sight) [
            | Some c ↦ (terminal.Comparator (mark.Comparisons c.0), c.1)
            | None ↦ (terminal.Word word.LeftBrace, ts)
          ])
      by None k = (tt, h)
      by (Some c) k = (tt, k)

  good_operators : (ts : List Token) → Each P ts → IsGood (operator_set ts)
  good_operators ts h = by (ariths_at ts) (behind_ariths ts h)
    where
      by : (o : Option (List ArithOp × List Token)) → IfSome o Behind
          → IsGood (elim o as
          (λ _. Sight) [
            | Some a ↦ (terminal.Operator (mark.Ariths a.0), a.1)
            | None ↦ comparison_set ts
          ])
      by None k = good_comparisons ts h
      by (Some a) k = (tt, k)

  good_local : (seen : Terminal Mark) (t : Token) (ts : List Token) → P t → Each P ts
      → IsGood (local_by seen t ts)
  good_local (terminal.Special (mark.Meta m)) t ts h k =
      good_if m.primed (terminal.Other, t ∷ ts) (terminal.Special (mark.Local m), ts)
      (tt, (h, k)) (tt, k)
  good_local _ t ts h k = (tt, (h, k))

  good_local_at : (ts : List Token) → Each P ts → IsGood (local_at ts)
  good_local_at [] h = (tt, tt)
  good_local_at (t ∷ ts) h = good_local (single t) t ts h.0 h.1

  good_perhaps : (seen : Terminal Mark) (ts : List Token) → IsProperTerminal seen → Each P ts
      → IsGood (perhaps_a_set seen ts)
  good_perhaps (terminal.Word word.LeftBrace) ts p h = good_operators ts h
  good_perhaps _ ts p h = (p, h)

  module _ (proper : (t : Token) → P t → IsProperTerminal (single t)) where
    terminals_proper : (n : ℕ) (ts : List Token) → Each P ts
        → AreProperTerminals (terminals_within n ts)
    terminals_proper zero ts h = tt
    terminals_proper (suc n) [] h = tt
    terminals_proper (suc n) (t ∷ ts) h =
        let seen = cond (is_mark (codes "?") t) (local_at ts) (perhaps_a_set (single t) ts) in
        let good =
        good_if (is_mark (codes "?") t) (local_at ts) (perhaps_a_set (single t) ts)
        (good_local_at ts h.1) (good_perhaps (single t) ts (proper t h.0) h.1) in
        (good.0, terminals_proper n seen.1 good.1)

pub proper_terminals : (source : List ℕ) (ts : List Token) → Each (IsIn of_rules source) ts
    → AreProperTerminals (rule_terminals ts)
unfolding rule_terminals
proper_terminals source ts h =
    terminals_proper (IsIn of_rules source) (proper_single source) (length ts) ts h
