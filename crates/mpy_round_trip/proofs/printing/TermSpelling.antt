-- The tokens of a printed expression spell it.
use Rattle.std.proofs.Common.{◌≡◌, ℕ, zero, suc, ◌≤◌, Bool, true, false, cond, nat_lt, List, [], ◌∷◌, ◌++◌, map, codes, Option, Some, None, inl, inr, refl, ap, sym, ◌∙◌, subst, append_assoc, append-nil, arith, ltb-false}
use Rattle.std.proofs.lemmas.Bool.{cases_lt}
use Rattle.mpy_tree.specs.declared.operators.ArithOp.{ArithOp}
use Rattle.mpy_tree.specs.declared.operators.ArithOp.TheVariants.{Add, Sub, Mul, Floor, Rem, Power}
use Rattle.mpy_tree.specs.declared.operators.CmpOp.{CmpOp}
use Rattle.mpy_tree.specs.declared.operators.CmpOp.TheVariants.{Eq, Ne, Lt, Le, Gt, Ge, Member, NotMember}
use Rattle.mpy_tree.specs.Syntax.{Term, Terms, MaybeTerm, no_terms, term_and, no_term, a_term}
use Rattle.mpy_tree.specs.Syntax as ast
use Rattle.mpy_tree.specs.View.{terms, end_by}
use Rattle.mpy_tree.specs.Printing.{arith_text, level_of, truth_text}
use Rattle.mpy_lexer.specs.declared.token.Token.{Token}
use Rattle.mpy_lexer.specs.declared.forms.Kind.TheVariants as kind
use Rattle.mpy_tree.specs.declared.levels.Level.{Level}
use Rattle.mpy_tree.specs.declared.levels.Level.TheVariants as level
use Rattle.mpy_expressions.specs.declared.words.Word.TheVariants as word
use Rattle.mpy_expressions.specs.declared.terminals.Terminal.{Terminal}
use Rattle.mpy_expressions.specs.declared.terminals.Terminal.TheVariants as terminal
use Rattle.mpy_expressions.specs.Terminals.{word_of, terminal_by, terminal_of, terminals}
use Rattle.mpy_tree.specs.Levels.{above, rank, left_level, right_level}
use Rattle.mpy_expressions.specs.Joints.{arith_word}
use Rattle.mpy_expressions.specs.Programs.{programs}
use Rattle.mpy_expressions.specs.Grammar.{Spells, SpellsEnd, SpellsAll, conditional, disjunction, conjunction, negation, compared, arithmetic, minus, index, slice, number, quoted, truth, call, items, parenthesized, higher, missing, given, none, one, more, comparison, truth_word, name as a_name}
use Rattle.mpy_round_trip.proofs.ProperForms.{IsProperTerm}
use Rattle.mpy_round_trip.proofs.ProperParts.{HasProperParts, HaveProperParts, EndHasProperParts, parts_of}
use Rattle.mpy_round_trip.proofs.Scraps.{Scrap, gap, word as piece, scrap_of, words_in}
use Rattle.mpy_round_trip.proofs.printing.ProgramLines.{mark, part_scraps, compare_scraps, term_scraps, list_scraps, rest_scraps, end_scraps}
use Rattle.mpy_round_trip.proofs.printing.Numerals.{numeral_terminal}
use Rattle.mpy_round_trip.proofs.printing.Literals.{literal_terminal}

-- what the grammar sees of the scraps
abbrev pub terminals_in : List Scrap → List (Terminal Unit)
terminals_in [] = []
terminals_in (gap ∷ ss) = terminals_in ss
terminals_in (piece k bytes ∷ ss) = terminal_by k bytes ∷ terminals_in ss

abbrev seen : Scrap → Terminal Unit
seen gap = terminal.Other
seen (piece k bytes) = terminal_by k bytes

seen_tokens : (ts : List Token) → map seen (map scrap_of ts) ≡ terminals ts
seen_tokens [] = refl
seen_tokens (t ∷ ts) = ap (λ l. terminal_of t ∷ l) (seen_tokens ts)

seen_words : (ss : List Scrap) → map seen (words_in ss) ≡ terminals_in ss
seen_words [] = refl
seen_words (gap ∷ ss) = seen_words ss
seen_words (piece k bytes ∷ ss) = ap (λ l. terminal_by k bytes ∷ l) (seen_words ss)

pub terminals_of_tokens : (ts : List Token) (ss : List Scrap) → map scrap_of ts ≡ words_in ss → terminals ts ≡ terminals_in ss
terminals_of_tokens ts ss h = sym (seen_tokens ts) ∙ ap (map seen) h ∙ seen_words ss

-- the level of a rank
abbrev named : ℕ → Level
named zero = level.Conditional
named (suc n) = above (named n)

named_rank : (k : Level) → named (rank k) ≡ k
named_rank level.Conditional = refl
named_rank level.Disjunction = refl
named_rank level.Conjunction = refl
named_rank level.Negation = refl
named_rank level.Comparison = refl
named_rank level.Sum = refl
named_rank level.Product = refl
named_rank level.Unary = refl
named_rank level.Power = refl
named_rank level.Postfix = refl
named_rank level.Atom = refl

rank_bound : (k : Level) → rank k ≤ 10
rank_bound level.Conditional = omega arith
rank_bound level.Disjunction = omega arith
rank_bound level.Conjunction = omega arith
rank_bound level.Negation = omega arith
rank_bound level.Comparison = omega arith
rank_bound level.Sum = omega arith
rank_bound level.Product = omega arith
rank_bound level.Unary = omega arith
rank_bound level.Power = omega arith
rank_bound level.Postfix = omega arith
rank_bound level.Atom = omega arith

lower_by : (j k : ℕ) (xs : List (Terminal Unit)) (e : Term) → k ≤ j → Spells programs (named j) xs e → Spells programs (named k) xs e
lower_by zero k xs e h s = let same : 0 ≡ k = omega arith in subst (λ n. Spells programs (named n) xs e) same s
lower_by (suc j) k xs e h s = elim (cases_lt k (suc j)) [
  | inl l ↦ lower_by j k xs e (omega arith) (higher {k = named j} s)
  | inr g ↦ (let same : suc j ≡ k = omega arith in subst (λ n. Spells programs (named n) xs e) same s)
]

-- what a level spells, each level that binds less spells too
lower : (j k : Level) (xs : List (Terminal Unit)) (e : Term) → rank k ≤ rank j → Spells programs j xs e → Spells programs k xs e
lower j k xs e h s =
    subst (λ n. Spells programs n xs e) (named_rank k)
    (lower_by (rank j) (rank k) xs e h (subst (λ n. Spells programs n xs e) (sym (named_rank j)) s))

-- expressions as a list of the logic, and an end of a slice as an option of it
abbrev pub listed : Terms → List Term
listed no_terms = []
listed (term_and e es) = e ∷ listed es

pub terms_listed : (es : Terms) → terms (listed es) ≡ es
terms_listed no_terms = refl
terms_listed (term_and e es) = ap (λ l. term_and e l) (terms_listed es)

abbrev optional : MaybeTerm → Option Term
optional no_term = None
optional (a_term e) = Some e

end_optional : (e : MaybeTerm) → end_by (λ x. x) (optional e) ≡ e
end_optional no_term = refl
end_optional (a_term e) = refl

-- what is put before others has these terminals
abbrev pub HasTerminals : (List Scrap → List Scrap) → List (Terminal Unit) → Type 0
HasTerminals put ts = (ss : List Scrap) → terminals_in (put ss) ≡ ts ++ terminals_in ss

-- what is put before others spells the expression, at a level
pub record IsSpelled (k : Level) (put : List Scrap → List Scrap) (e : Term) : Type 0 where
  pub own : List (Terminal Unit)
  pub onto : HasTerminals put own
  pub spells : Spells programs k own e

pub record AreSpelled (put : List Scrap → List Scrap) (es : Terms) : Type 0 where
  pub own : List (Terminal Unit)
  pub onto : HasTerminals put own
  pub spells : SpellsAll programs own (listed es)

-- the expressions behind another
record AreSpelledBehind (put : List Scrap → List Scrap) (es : Terms) : Type 0 where
  own : List (Terminal Unit)
  onto : HasTerminals put own
  spells : (xs : List (Terminal Unit)) (e : Term) → Spells programs level.Conditional xs e → SpellsAll programs (xs ++ own) (e ∷ listed es)

record IsEndSpelled (put : List Scrap → List Scrap) (e : MaybeTerm) : Type 0 where
  own : List (Terminal Unit)
  onto : HasTerminals put own
  spells : SpellsEnd programs own (optional e)

lowered : (j k : Level) (put : List Scrap → List Scrap) (e : Term) → rank k ≤ rank j → IsSpelled j put e → IsSpelled k put e
lowered j k put e h s = record { own = s.own; onto = s.onto; spells = lower j k s.own e h s.spells }

part_spelled : (k : Level) (e : Term) (put : List Scrap → List Scrap) → IsSpelled (level_of e) put e → IsSpelled k (part_scraps k e put) e
unfolding word_of
part_spelled k e put s = by_case (nat_lt (rank (level_of e)) (rank k)) refl
  where
    by_case : (b : Bool) → nat_lt (rank (level_of e)) (rank k) ≡ b → IsSpelled k (λ ss. cond b (mark (codes "(") ∷ put (mark (codes ")") ∷ ss)) (put ss)) e
    by_case true below = record {
      own = terminal.Word word.LeftParen ∷ s.own ++ terminal.Word word.RightParen ∷ [];
      onto = λ ss. ap (λ l. terminal.Word word.LeftParen ∷ l) (s.onto (mark (codes ")") ∷ ss) ∙ sym (append_assoc s.own (terminal.Word word.RightParen ∷ []) (terminals_in ss)));
      spells = lower level.Atom k _ e (rank_bound k) (parenthesized (lower (level_of e) level.Conditional s.own e (omega arith) s.spells));
    }
    by_case false above = lowered (level_of e) k put e (ltb-false (rank (level_of e)) (rank k) above) s

arith_terminal : (op : ArithOp) → terminal_by kind.Mark (arith_text op) ≡ terminal.Word (arith_word op)
unfolding word_of
arith_terminal Add = refl
arith_terminal Sub = refl
arith_terminal Mul = refl
arith_terminal Floor = refl
arith_terminal Rem = refl
arith_terminal Power = refl

truth_terminal : (b : Bool) → terminal_by kind.Reserved (truth_text b) ≡ terminal.Word (truth_word b)
unfolding word_of
truth_terminal true = refl
truth_terminal false = refl

compare_terminals : (op : CmpOp) → HasTerminals (compare_scraps op) (comparison op)
unfolding word_of
compare_terminals Eq ss = refl
compare_terminals Ne ss = refl
compare_terminals Lt ss = refl
compare_terminals Le ss = refl
compare_terminals Gt ss = refl
compare_terminals Ge ss = refl
compare_terminals Member ss = refl
compare_terminals NotMember ss = refl

mutual
  unfolding word_of

  term_spelled : (e : Term) → HasProperParts e → IsSpelled (level_of e) (term_scraps e) e
  term_spelled (ast.Int n) p = record { own = terminal.Number n ∷ []; onto = λ ss. ap (λ t. t ∷ terminals_in ss) (numeral_terminal n p); spells = number n }
  term_spelled (ast.Bool b) p = record { own = terminal.Word (truth_word b) ∷ []; onto = λ ss. ap (λ t. t ∷ terminals_in ss) (truth_terminal b); spells = truth b }
  term_spelled (ast.Text cs) p = record { own = terminal.Text cs ∷ []; onto = λ ss. ap (λ t. t ∷ terminals_in ss) (literal_terminal cs p); spells = quoted cs }
  term_spelled (ast.Name x) p = record { own = terminal.Name x ∷ []; onto = λ ss. refl; spells = a_name x }
  term_spelled (ast.List es) p =
      let s = list_spelled es p in
      record {
        own = terminal.Word word.LeftBracket ∷ s.own ++ terminal.Word word.RightBracket ∷ [];
        onto = λ ss. simp (append_assoc, s.onto);
        spells = subst (λ l. Spells programs level.Atom (terminal.Word word.LeftBracket ∷ s.own ++ terminal.Word word.RightBracket ∷ []) (ast.List l)) (terms_listed es) (items s.spells);
      }
  term_spelled (ast.Neg e) p =
      let s = part_spelled level.Unary e (term_scraps e) (term_spelled e p) in
      record { own = terminal.Word word.Minus ∷ s.own; onto = λ ss. ap (λ l. terminal.Word word.Minus ∷ l) (s.onto ss); spells = minus s.spells }
  term_spelled (ast.Not e) p =
      let s = part_spelled level.Negation e (term_scraps e) (term_spelled e p) in
      record { own = terminal.Word word.Not ∷ s.own; onto = λ ss. ap (λ l. terminal.Word word.Not ∷ l) (s.onto ss); spells = negation s.spells }
  term_spelled (ast.Arith op a b) p =
      let s = part_spelled (left_level op) a (term_scraps a) (term_spelled a p.0) in
      let t = part_spelled (right_level op) b (term_scraps b) (term_spelled b p.1) in
      record {
        own = s.own ++ terminal.Word (arith_word op) ∷ t.own;
        onto = λ ss. simp (append_assoc, s.onto, t.onto, arith_terminal op);
        spells = arithmetic op s.spells t.spells;
      }
  term_spelled (ast.Cmp op a b) p =
      let s = part_spelled level.Sum a (term_scraps a) (term_spelled a p.0) in
      let t = part_spelled level.Sum b (term_scraps b) (term_spelled b p.1) in
      record {
        own = s.own ++ comparison op ++ t.own;
        onto = λ ss. simp (append_assoc, s.onto, t.onto, compare_terminals op);
        spells = compared op s.spells t.spells;
      }
  term_spelled (ast.And a b) p =
      let s = part_spelled level.Conjunction a (term_scraps a) (term_spelled a p.0) in
      let t = part_spelled level.Negation b (term_scraps b) (term_spelled b p.1) in
      record {
        own = s.own ++ terminal.Word word.And ∷ t.own;
        onto = λ ss. simp (append_assoc, s.onto, t.onto);
        spells = conjunction s.spells t.spells;
      }
  term_spelled (ast.Or a b) p =
      let s = part_spelled level.Disjunction a (term_scraps a) (term_spelled a p.0) in
      let t = part_spelled level.Conjunction b (term_scraps b) (term_spelled b p.1) in
      record {
        own = s.own ++ terminal.Word word.Or ∷ t.own;
        onto = λ ss. simp (append_assoc, s.onto, t.onto);
        spells = disjunction s.spells t.spells;
      }
  term_spelled (ast.Cond t a b) p =
      let s = part_spelled level.Disjunction a (term_scraps a) (term_spelled a p.1) in
      let u = part_spelled level.Disjunction t (term_scraps t) (term_spelled t p.0) in
      let v = lowered (level_of b) level.Conditional (term_scraps b) b (omega arith) (term_spelled b p.2) in
      record {
        own = s.own ++ terminal.Word word.If ∷ u.own ++ terminal.Word word.Else ∷ v.own;
        onto = λ ss. simp (append_assoc, s.onto, u.onto, v.onto);
        spells = conditional s.spells u.spells v.spells;
      }
  term_spelled (ast.Index v i) p =
      let s = part_spelled level.Postfix v (term_scraps v) (term_spelled v p.0) in
      let t = lowered (level_of i) level.Conditional (term_scraps i) i (omega arith) (term_spelled i p.1) in
      record {
        own = s.own ++ terminal.Word word.LeftBracket ∷ t.own ++ terminal.Word word.RightBracket ∷ [];
        onto = λ ss. simp (append_assoc, s.onto, t.onto);
        spells = index s.spells t.spells;
      }
  term_spelled (ast.Slice v from to) p =
      let s = part_spelled level.Postfix v (term_scraps v) (term_spelled v p.0) in
      let t = end_spelled from p.1 in
      let u = end_spelled to p.2 in
      record {
        own = s.own ++ terminal.Word word.LeftBracket ∷ t.own ++ terminal.Word word.Colon ∷ u.own ++ terminal.Word word.RightBracket ∷ [];
        onto = λ ss. simp (append_assoc, s.onto, t.onto, u.onto);
        spells =
            subst (λ l. Spells programs level.Postfix (s.own ++ terminal.Word word.LeftBracket ∷ t.own ++ terminal.Word word.Colon ∷ u.own ++ terminal.Word word.RightBracket ∷ []) (ast.Slice v from l)) (end_optional to)
            (subst (λ l. Spells programs level.Postfix (s.own ++ terminal.Word word.LeftBracket ∷ t.own ++ terminal.Word word.Colon ∷ u.own ++ terminal.Word word.RightBracket ∷ []) (ast.Slice v l (end_by (λ x. x) (optional to)))) (end_optional from)
            (slice s.spells t.spells u.spells));
      }
  term_spelled (ast.Call f es) p =
      let s = list_spelled es p.1 in
      record {
        own = terminal.Name f ∷ terminal.Word word.LeftParen ∷ s.own ++ terminal.Word word.RightParen ∷ [];
        onto = λ ss. simp (append_assoc, s.onto);
        spells = subst (λ l. Spells programs level.Atom (terminal.Name f ∷ terminal.Word word.LeftParen ∷ s.own ++ terminal.Word word.RightParen ∷ []) (ast.Call f l)) (terms_listed es) (call f s.spells);
      }

  list_spelled : (es : Terms) → HaveProperParts es → AreSpelled (list_scraps es) es
  list_spelled no_terms p = record { own = []; onto = λ ss. refl; spells = none }
  list_spelled (term_and e es) p =
      let s = lowered (level_of e) level.Conditional (term_scraps e) e (omega arith) (term_spelled e p.0) in
      let t = rest_spelled es p.1 in
      record { own = s.own ++ t.own; onto = λ ss. simp (append_assoc, s.onto, t.onto); spells = t.spells s.own e s.spells }

  rest_spelled : (es : Terms) → HaveProperParts es → AreSpelledBehind (rest_scraps es) es
  rest_spelled no_terms p = record { own = []; onto = λ ss. refl; spells = λ xs e s. subst (λ l. SpellsAll programs l (e ∷ [])) (sym (append-nil xs)) (one s) }
  rest_spelled (term_and f es) p =
      let s = lowered (level_of f) level.Conditional (term_scraps f) f (omega arith) (term_spelled f p.0) in
      let t = rest_spelled es p.1 in
      record {
        own = terminal.Word word.Comma ∷ s.own ++ t.own;
        onto = λ ss. simp (append_assoc, s.onto, t.onto);
        spells = λ xs e u. more u (t.spells s.own f s.spells);
      }

  end_spelled : (e : MaybeTerm) → EndHasProperParts e → IsEndSpelled (end_scraps e) e
  end_spelled no_term p = record { own = []; onto = λ ss. refl; spells = missing }
  end_spelled (a_term e) p =
      let s = lowered (level_of e) level.Conditional (term_scraps e) e (omega arith) (term_spelled e p) in
      record { own = s.own; onto = s.onto; spells = given s.spells }

-- as an expression that stands in no other
pub whole : (e : Term) → IsProperTerm e → IsSpelled level.Conditional (term_scraps e) e
whole e p = lowered (level_of e) level.Conditional (term_scraps e) e (omega arith) (term_spelled e (parts_of e p))
