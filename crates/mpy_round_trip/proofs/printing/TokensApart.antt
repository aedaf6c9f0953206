-- Each token of a printed expression has its form, and ends where the next one begins.
use Rattle.std.proofs.Common.{◌≡◌, ℕ, ◌≤◌, Bool, true, false, not, ◌||◌, ◌==◌, cond, nat_lt, decimal, List, [], ◌∷◌, ◌++◌, codes, refl, ap, sym, subst, arith}
use Rattle.std.specs.List.{list_all}
use Rattle.std.proofs.lemmas.Bool.{and_parts, and_from}
use Rattle.std.proofs.lemmas.Bool.Decides.{nat_tests}
use Rattle.mpy_tree.specs.declared.operators.ArithOp.{ArithOp}
use Rattle.mpy_tree.specs.declared.operators.ArithOp.TheVariants.{Add, Sub, Mul, Floor, Rem, Power}
use Rattle.mpy_tree.specs.declared.operators.CmpOp.{CmpOp}
use Rattle.mpy_tree.specs.declared.operators.CmpOp.TheVariants.{Eq, Ne, Lt, Le, Gt, Ge, Member, NotMember}
use Rattle.mpy_tree.specs.Syntax.{Term, Terms, MaybeTerm, no_terms, term_and, no_term, a_term}
use Rattle.mpy_tree.specs.Syntax as ast
use Rattle.mpy_tree.specs.declared.levels.Level.{Level}
use Rattle.mpy_tree.specs.declared.levels.Level.TheVariants as level
use Rattle.mpy_tree.specs.Levels.{rank, left_level, right_level}
use Rattle.mpy_tree.specs.Printing.{truth_text, arith_text, level_of}
use Rattle.mpy_lexer.specs.declared.forms.Kind.TheVariants as kind
use Rattle.mpy_lexer.specs.Bytes.{is_name_start, is_name_byte}
use Rattle.mpy_lexer.specs.Words.{is_reserved, mark_len}
use Rattle.mpy_lexer.specs.TokenForms.{is_name}
use Rattle.mpy_lexer.specs.TextLiterals.{is_printable}
use Rattle.mpy_round_trip.specs.Proper.{IsName, MayAugment}
use Rattle.mpy_round_trip.proofs.ProperForms.{IsProperTerm}
use Rattle.mpy_round_trip.proofs.ProperParts.{HasProperParts, HaveProperParts, EndHasProperParts, parts_of}
use Rattle.mpy_round_trip.proofs.Scraps.{Scrap, gap, word, next_byte, ends_before, AreApart}
use Rattle.mpy_round_trip.proofs.printing.ProgramLines.{name, mark, reserved, part_scraps, compare_scraps, term_scraps, list_scraps, rest_scraps, end_scraps}
use Rattle.mpy_round_trip.proofs.printing.Numerals.{numeral, numeral_form, printable_digits, first_digit}
use Rattle.mpy_round_trip.proofs.printing.Literals.{literal_form, printable_literal}

-- a byte that may stand behind any expression
abbrev pub MayFollow : ℕ → Type 0
MayFollow c = (is_name_byte c || c == 46) ≡ false

-- a byte that may stand behind a minus sign
abbrev MayLead : ℕ → Type 0
MayLead c = (61 == c) ≡ false

printable_name_byte : (c : ℕ) → is_name_byte c ≡ true → is_printable c ≡ true
printable_name_byte c h = grind (arith, nat_tests)

printable_name_bytes : (bs : List ℕ) → list_all is_name_byte bs ≡ true → list_all is_printable bs ≡ true
printable_name_bytes [] h = refl
printable_name_bytes (c ∷ bs) h = let p = and_parts (is_name_byte c) (list_all is_name_byte bs) h in and_from (is_printable c) (list_all is_printable bs) (printable_name_byte c p.0) (printable_name_bytes bs p.1)

start_leads : (c : ℕ) → is_name_start c ≡ true → MayLead c
start_leads c h = grind (arith, nat_tests)

start_is_byte : (c : ℕ) → is_name_start c ≡ true → is_name_byte c ≡ true
start_is_byte c h = rw h refl

printable_name : (x : List ℕ) → is_name x ≡ true → list_all is_printable x ≡ true
printable_name [] h = absurd cc
printable_name (c ∷ rest) h =
    let p = and_parts (is_name_start c) (list_all is_name_byte rest) h in
    printable_name_bytes (c ∷ rest) (and_from (is_name_byte c) (list_all is_name_byte rest) (start_is_byte c p.0) p.1)

name_leads : (x : List ℕ) (ss : List Scrap) → is_name x ≡ true → MayLead (next_byte (name x ∷ ss))
name_leads [] ss h = absurd cc
name_leads (c ∷ rest) ss h = start_leads c (and_parts (is_name_start c) (list_all is_name_byte rest) h).0

follows_name : (a b : Bool) → (a || b) ≡ false → a ≡ false
follows_name true b h = h
follows_name false b h = refl

-- a name before what is no byte of one
pub name_apart : (x : List ℕ) (ss : List Scrap) → IsName x → is_name_byte (next_byte ss) ≡ false → AreApart ss → AreApart (name x ∷ ss)
name_apart x ss n f h = (n, printable_name x (and_parts (is_name x) (not (is_reserved x)) n).0, ap not f, h)

-- the tokens of an expression, before what may follow one
pub record IsApart (put : List Scrap → List Scrap) : Type 0 where
  pub leads : (ss : List Scrap) → MayLead (next_byte (put ss))
  pub apart : (ss : List Scrap) → MayFollow (next_byte ss) → AreApart ss → AreApart (put ss)

part_apart : (k : Level) (e : Term) (put : List Scrap → List Scrap) → IsApart put → IsApart (part_scraps k e put)
unfolding mark_len
part_apart k e put p = by_case (nat_lt (rank (level_of e)) (rank k))
  where
    round : (ss : List Scrap) → AreApart ss → AreApart (mark (codes "(") ∷ put (mark (codes ")") ∷ ss))
    round ss h = (refl, refl, refl, p.apart (mark (codes ")") ∷ ss) refl (refl, refl, refl, h))

    by_case : (b : Bool) → IsApart (λ ss. cond b (mark (codes "(") ∷ put (mark (codes ")") ∷ ss)) (put ss))
    by_case true = record { leads = λ ss. refl; apart = λ ss f h. round ss h }
    by_case false = p

-- an operator between spaces
pub operator_apart : (op : ArithOp) (ss : List Scrap) → AreApart ss → AreApart (gap ∷ mark (arith_text op) ∷ gap ∷ ss)
unfolding mark_len
operator_apart Add ss h = (refl, refl, refl, h)
operator_apart Sub ss h = (refl, refl, refl, h)
operator_apart Mul ss h = (refl, refl, refl, h)
operator_apart Floor ss h = (refl, refl, refl, h)
operator_apart Rem ss h = (refl, refl, refl, h)
operator_apart Power ss h = (refl, refl, refl, h)

pub augmenting_apart : (op : ArithOp) (ss : List Scrap) → MayAugment op → AreApart ss → AreApart (gap ∷ mark (arith_text op ++ codes "=") ∷ gap ∷ ss)
unfolding mark_len
augmenting_apart Add ss m h = (refl, refl, refl, h)
augmenting_apart Sub ss m h = (refl, refl, refl, h)
augmenting_apart Mul ss m h = (refl, refl, refl, h)
augmenting_apart Floor ss m h = (refl, refl, refl, h)
augmenting_apart Rem ss m h = (refl, refl, refl, h)
augmenting_apart Power ss m h = absurd m

compare_apart : (op : CmpOp) (ss : List Scrap) → AreApart ss → AreApart (gap ∷ compare_scraps op (gap ∷ ss))
unfolding mark_len is_reserved
compare_apart Eq ss h = (refl, refl, refl, h)
compare_apart Ne ss h = (refl, refl, refl, h)
compare_apart Lt ss h = (refl, refl, refl, h)
compare_apart Le ss h = (refl, refl, refl, h)
compare_apart Gt ss h = (refl, refl, refl, h)
compare_apart Ge ss h = (refl, refl, refl, h)
compare_apart Member ss h = (refl, refl, refl, h)
compare_apart NotMember ss h = (refl, refl, refl, (refl, refl, refl, h))

truth_apart : (b : Bool) (ss : List Scrap) → is_name_byte (next_byte ss) ≡ false → AreApart ss → AreApart (reserved (truth_text b) ∷ ss)
unfolding is_reserved
truth_apart true ss f h = (refl, refl, ap not f, h)
truth_apart false ss f h = (refl, refl, ap not f, h)

truth_leads : (b : Bool) (ss : List Scrap) → MayLead (next_byte (reserved (truth_text b) ∷ ss))
truth_leads true ss = refl
truth_leads false ss = refl

minus_ends : (c : ℕ) → MayLead c → ends_before kind.Mark (codes "-") c ≡ true
unfolding mark_len
minus_ends c h = rw h refl

numeral_leads : (n : ℕ) (ss : List Scrap) → n ≤ 2147483647 → MayLead (next_byte (word kind.Number (decimal n) ∷ ss))
numeral_leads n ss h = let d = numeral n h in subst (λ bs. MayLead (next_byte (word kind.Number bs ∷ ss))) (sym d.cut) (first_digit d.first d.rest d.digits)

mutual
  unfolding mark_len is_reserved

  parts_apart : (e : Term) → HasProperParts e → IsApart (term_scraps e)
  parts_apart (ast.Int n) p = record {
    leads = λ ss. numeral_leads n ss p;
    apart = λ ss f h. (numeral_form n p, subst (λ bs. list_all is_printable bs ≡ true) (sym (numeral n p).cut) (printable_digits ((numeral n p).first ∷ (numeral n p).rest) (numeral n p).digits), ap not f, h);
  }
  parts_apart (ast.Bool b) p = record { leads = truth_leads b; apart = λ ss f h. truth_apart b ss (follows_name (is_name_byte (next_byte ss)) (next_byte ss == 46) f) h }
  parts_apart (ast.Text cs) p = record { leads = λ ss. refl; apart = λ ss f h. (literal_form cs p, printable_literal cs p, refl, h) }
  parts_apart (ast.Name x) p = record {
    leads = λ ss. name_leads x ss (and_parts (is_name x) (not (is_reserved x)) p).0;
    apart = λ ss f h. name_apart x ss p (follows_name (is_name_byte (next_byte ss)) (next_byte ss == 46) f) h;
  }
  parts_apart (ast.List es) p = record { leads = λ ss. refl; apart = λ ss f h. (refl, refl, refl, list_apart es p (mark (codes "]") ∷ ss) refl (refl, refl, refl, h)) }
  parts_apart (ast.Neg e) p =
      let q = part_apart level.Unary e (term_scraps e) (parts_apart e p) in
      record { leads = λ ss. refl; apart = λ ss f h. (refl, refl, minus_ends (next_byte (part_scraps level.Unary e (term_scraps e) ss)) (q.leads ss), q.apart ss f h) }
  parts_apart (ast.Not e) p =
      let q = part_apart level.Negation e (term_scraps e) (parts_apart e p) in
      record { leads = λ ss. refl; apart = λ ss f h. (refl, refl, refl, q.apart ss f h) }
  parts_apart (ast.Arith op a b) p =
      let q = part_apart (left_level op) a (term_scraps a) (parts_apart a p.0) in
      let r = part_apart (right_level op) b (term_scraps b) (parts_apart b p.1) in
      record {
        leads = λ ss. q.leads (gap ∷ mark (arith_text op) ∷ gap ∷ part_scraps (right_level op) b (term_scraps b) ss);
        apart = λ ss f h. q.apart _ refl (operator_apart op (part_scraps (right_level op) b (term_scraps b) ss) (r.apart ss f h));
      }
  parts_apart (ast.Cmp op a b) p =
      let q = part_apart level.Sum a (term_scraps a) (parts_apart a p.0) in
      let r = part_apart level.Sum b (term_scraps b) (parts_apart b p.1) in
      record {
        leads = λ ss. q.leads (gap ∷ compare_scraps op (gap ∷ part_scraps level.Sum b (term_scraps b) ss));
        apart = λ ss f h. q.apart _ refl (compare_apart op (part_scraps level.Sum b (term_scraps b) ss) (r.apart ss f h));
      }
  parts_apart (ast.And a b) p =
      let q = part_apart level.Conjunction a (term_scraps a) (parts_apart a p.0) in
      let r = part_apart level.Negation b (term_scraps b) (parts_apart b p.1) in
      record {
        leads = λ ss. q.leads (gap ∷ reserved (codes "and") ∷ gap ∷ part_scraps level.Negation b (term_scraps b) ss);
        apart = λ ss f h. q.apart (gap ∷ reserved (codes "and") ∷ gap ∷ part_scraps level.Negation b (term_scraps b) ss) refl (refl, refl, refl, r.apart ss f h);
      }
  parts_apart (ast.Or a b) p =
      let q = part_apart level.Disjunction a (term_scraps a) (parts_apart a p.0) in
      let r = part_apart level.Conjunction b (term_scraps b) (parts_apart b p.1) in
      record {
        leads = λ ss. q.leads (gap ∷ reserved (codes "or") ∷ gap ∷ part_scraps level.Conjunction b (term_scraps b) ss);
        apart = λ ss f h. q.apart (gap ∷ reserved (codes "or") ∷ gap ∷ part_scraps level.Conjunction b (term_scraps b) ss) refl (refl, refl, refl, r.apart ss f h);
      }
  parts_apart (ast.Cond t a b) p =
      let q = part_apart level.Disjunction a (term_scraps a) (parts_apart a p.1) in
      let r = part_apart level.Disjunction t (term_scraps t) (parts_apart t p.0) in
      let s = parts_apart b p.2 in
      record {
        leads = λ ss. q.leads (gap ∷ reserved (codes "if") ∷ gap ∷ part_scraps level.Disjunction t (term_scraps t) (gap ∷ reserved (codes "else") ∷ gap ∷ term_scraps b ss));
        apart = λ ss f h. q.apart (gap ∷ reserved (codes "if") ∷ gap ∷ part_scraps level.Disjunction t (term_scraps t) (gap ∷ reserved (codes "else") ∷ gap ∷ term_scraps b ss)) refl (refl, refl, refl, r.apart (gap ∷ reserved (codes "else") ∷ gap ∷ term_scraps b ss) refl (refl, refl, refl, s.apart ss f h));
      }
  parts_apart (ast.Index v i) p =
      let q = part_apart level.Postfix v (term_scraps v) (parts_apart v p.0) in
      let r = parts_apart i p.1 in
      record {
        leads = λ ss. q.leads (mark (codes "[") ∷ term_scraps i (mark (codes "]") ∷ ss));
        apart = λ ss f h. q.apart (mark (codes "[") ∷ term_scraps i (mark (codes "]") ∷ ss)) refl (refl, refl, refl, r.apart (mark (codes "]") ∷ ss) refl (refl, refl, refl, h));
      }
  parts_apart (ast.Slice v from to) p =
      let q = part_apart level.Postfix v (term_scraps v) (parts_apart v p.0) in
      record {
        leads = λ ss. q.leads (mark (codes "[") ∷ end_scraps from (mark (codes ":") ∷ end_scraps to (mark (codes "]") ∷ ss)));
        apart = λ ss f h. q.apart (mark (codes "[") ∷ end_scraps from (mark (codes ":") ∷ end_scraps to (mark (codes "]") ∷ ss))) refl (refl, refl, refl, end_apart from p.1 (mark (codes ":") ∷ end_scraps to (mark (codes "]") ∷ ss)) refl (refl, refl, refl, end_apart to p.2 (mark (codes "]") ∷ ss) refl (refl, refl, refl, h)));
      }
  parts_apart (ast.Call f es) p = record {
    leads = λ ss. name_leads f (mark (codes "(") ∷ list_scraps es (mark (codes ")") ∷ ss)) (and_parts (is_name f) (not (is_reserved f)) p.0).0;
    apart = λ ss g h. name_apart f (mark (codes "(") ∷ list_scraps es (mark (codes ")") ∷ ss)) p.0 refl (refl, refl, refl, list_apart es p.1 (mark (codes ")") ∷ ss) refl (refl, refl, refl, h));
  }

  list_apart : (es : Terms) → HaveProperParts es → (ss : List Scrap) → MayFollow (next_byte ss) → AreApart ss → AreApart (list_scraps es ss)
  list_apart no_terms p ss f h = h
  list_apart (term_and e es) p ss f h = let r = rest_apart es p.1 ss f h in (parts_apart e p.0).apart (rest_scraps es ss) r.0 r.1

  rest_apart : (es : Terms) → HaveProperParts es → (ss : List Scrap) → MayFollow (next_byte ss) → AreApart ss → MayFollow (next_byte (rest_scraps es ss)) × AreApart (rest_scraps es ss)
  rest_apart no_terms p ss f h = (f, h)
  rest_apart (term_and e es) p ss f h = let r = rest_apart es p.1 ss f h in (refl, (refl, refl, refl, (parts_apart e p.0).apart (rest_scraps es ss) r.0 r.1))

  end_apart : (e : MaybeTerm) → EndHasProperParts e → (ss : List Scrap) → MayFollow (next_byte ss) → AreApart ss → AreApart (end_scraps e ss)
  end_apart no_term p ss f h = h
  end_apart (a_term e) p ss f h = (parts_apart e p).apart ss f h

pub term_apart : (e : Term) → IsProperTerm e → IsApart (term_scraps e)
term_apart e p = parts_apart e (parts_of e p)
