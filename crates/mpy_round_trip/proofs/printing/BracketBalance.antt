-- Brackets open and close within each printed expression.
use Rattle.std.proofs.Common.{◌≡◌, ℕ, Bool, true, false, ◌||◌, ◌==◌, cond, nat_lt, decimal, List, [], ◌∷◌, ◌++◌, codes, refl, ap, ◌∙◌}
use Rattle.std.proofs.lemmas.Bool.{or_parts, or_from, and_right}
use Rattle.mpy_tree.specs.declared.operators.ArithOp.{ArithOp}
use Rattle.mpy_tree.specs.declared.operators.ArithOp.TheVariants.{Add, Sub, Mul, Floor, Rem, Power}
use Rattle.mpy_tree.specs.declared.operators.CmpOp.{CmpOp}
use Rattle.mpy_tree.specs.declared.operators.CmpOp.TheVariants.{Eq, Ne, Lt, Le, Gt, Ge, Member, NotMember}
use Rattle.mpy_tree.specs.Syntax.{Term, Terms, MaybeTerm, no_terms, term_and, no_term, a_term}
use Rattle.mpy_tree.specs.Syntax as ast
use Rattle.mpy_tree.specs.declared.levels.Level.{Level}
use Rattle.mpy_tree.specs.declared.levels.Level.TheVariants as level
use Rattle.mpy_tree.specs.Levels.{rank, left_level, right_level}
use Rattle.mpy_tree.specs.Printing.{quoted_text, truth_text, arith_text, level_of}
use Rattle.mpy_lexer.specs.declared.forms.Kind.{Kind}
use Rattle.mpy_lexer.specs.declared.forms.Kind.TheVariants as kind
use Rattle.mpy_lexer.specs.Brackets.{first_of_mark, is_opening, is_closing, closes, open_behind}
use Rattle.mpy_round_trip.proofs.Scraps.{Brackets, Scrap, gap, word, open_behind_all, AreMatched, AreBalanced}
use Rattle.mpy_round_trip.proofs.printing.ProgramLines.{mark, reserved, part_scraps, compare_scraps, term_scraps, list_scraps, rest_scraps, end_scraps, name_scraps}

-- what is put before others leaves open what was open
pub record IsBalanced (put : List Scrap → List Scrap) : Type 0 where
  pub same : (line : ℕ) (opened : Brackets) (ss : List Scrap) → open_behind_all line opened (put ss) ≡ open_behind_all line opened ss
  pub matched : (line : ℕ) (opened : Brackets) (ss : List Scrap) → AreMatched line opened ss → AreMatched line opened (put ss)

pub nothing : IsBalanced (λ ss. ss)
nothing = record { same = λ line opened ss. refl; matched = λ line opened ss h. h }

pub space : IsBalanced (λ ss. gap ∷ ss)
space = record { same = λ line opened ss. refl; matched = λ line opened ss h. h }

pub and_then : {put then : List Scrap → List Scrap} → IsBalanced put → IsBalanced then → IsBalanced (λ ss. put (then ss))
and_then {put} {then} p q = record {
  same = λ line opened ss. p.same line opened (then ss) ∙ q.same line opened ss;
  matched = λ line opened ss h. p.matched line opened (then ss) (q.matched line opened ss h);
}

-- a byte that is no bracket
abbrev IsPlain : ℕ → Type 0
IsPlain c = (is_opening c ≡ false) × (is_closing c ≡ false)

closes_nothing : (opened : Brackets) (c : ℕ) → is_closing c ≡ false → closes opened c ≡ false
closes_nothing [] c h = refl
closes_nothing (b ∷ outer) c h =
    let p = or_parts (c == 41 || c == 93) (c == 125) h in
    let q = or_parts (c == 41) (c == 93) p.0 in
    or_from _ _ (or_from _ _ (and_right (b.mark == 40) (c == 41) q.0) (and_right (b.mark == 91) (c == 93) q.1)) (and_right (b.mark == 123) (c == 125) p.1)

stays_open : (line : ℕ) (opened : Brackets) (c : ℕ) → IsPlain c → open_behind line opened c ≡ opened
stays_open line opened c h = rw (h.0, closes_nothing opened c h.1) refl

pub token : (k : Kind) (bytes : List ℕ) → IsPlain (first_of_mark k bytes) → IsBalanced (λ ss. word k bytes ∷ ss)
token k bytes h = record {
  same = λ line opened ss. ap (λ o. open_behind_all line o ss) (stays_open line opened (first_of_mark k bytes) h);
  matched = λ line opened ss m. (rw h.1 refl, rw (stays_open line opened (first_of_mark k bytes) h) m);
}

pub in_round : {put : List Scrap → List Scrap} → IsBalanced put → IsBalanced (λ ss. mark (codes "(") ∷ put (mark (codes ")") ∷ ss))
in_round {put} p = record {
  same = λ line opened ss. p.same line (record { mark = 40; line = line } ∷ opened) (mark (codes ")") ∷ ss);
  matched = λ line opened ss m. (refl, p.matched line (record { mark = 40; line = line } ∷ opened) (mark (codes ")") ∷ ss) (refl, m));
}

pub in_square : {put : List Scrap → List Scrap} → IsBalanced put → IsBalanced (λ ss. mark (codes "[") ∷ put (mark (codes "]") ∷ ss))
in_square {put} p = record {
  same = λ line opened ss. p.same line (record { mark = 91; line = line } ∷ opened) (mark (codes "]") ∷ ss);
  matched = λ line opened ss m. (refl, p.matched line (record { mark = 91; line = line } ∷ opened) (mark (codes "]") ∷ ss) (refl, m));
}

part_balanced : (k : Level) (e : Term) (put : List Scrap → List Scrap) → IsBalanced put → IsBalanced (part_scraps k e put)
part_balanced k e put p = by_case (nat_lt (rank (level_of e)) (rank k))
  where
    by_case : (b : Bool) → IsBalanced (λ ss. cond b (mark (codes "(") ∷ put (mark (codes ")") ∷ ss)) (put ss))
    by_case true = in_round p
    by_case false = p

-- an operator between spaces
pub operator : (op : ArithOp) → IsBalanced (λ ss. gap ∷ mark (arith_text op) ∷ gap ∷ ss)
operator op = and_then space (and_then (token kind.Mark (arith_text op) (plain op)) space)
  where
    plain : (op : ArithOp) → IsPlain (first_of_mark kind.Mark (arith_text op))
    plain Add = (refl, refl)
    plain Sub = (refl, refl)
    plain Mul = (refl, refl)
    plain Floor = (refl, refl)
    plain Rem = (refl, refl)
    plain Power = (refl, refl)

pub augmenting : (op : ArithOp) → IsBalanced (λ ss. gap ∷ mark (arith_text op ++ codes "=") ∷ gap ∷ ss)
augmenting op = and_then space (and_then (token kind.Mark (arith_text op ++ codes "=") (plain op)) space)
  where
    plain : (op : ArithOp) → IsPlain (first_of_mark kind.Mark (arith_text op ++ codes "="))
    plain Add = (refl, refl)
    plain Sub = (refl, refl)
    plain Mul = (refl, refl)
    plain Floor = (refl, refl)
    plain Rem = (refl, refl)
    plain Power = (refl, refl)

a_mark : (bytes : List ℕ) → IsPlain (first_of_mark kind.Mark bytes) → IsBalanced (λ ss. gap ∷ mark bytes ∷ gap ∷ ss)
a_mark bytes h = and_then space (and_then (token kind.Mark bytes h) space)

-- a word between spaces
pub a_word : (bytes : List ℕ) → IsBalanced (λ ss. gap ∷ reserved bytes ∷ gap ∷ ss)
a_word bytes = and_then space (and_then (token kind.Reserved bytes (refl, refl)) space)

compare_balanced : (op : CmpOp) → IsBalanced (λ ss. gap ∷ compare_scraps op (gap ∷ ss))
compare_balanced Eq = a_mark (codes "==") (refl, refl)
compare_balanced Ne = a_mark (codes "!=") (refl, refl)
compare_balanced Lt = a_mark (codes "<") (refl, refl)
compare_balanced Le = a_mark (codes "<=") (refl, refl)
compare_balanced Gt = a_mark (codes ">") (refl, refl)
compare_balanced Ge = a_mark (codes ">=") (refl, refl)
compare_balanced Member = a_word (codes "in")
compare_balanced NotMember = and_then (a_word (codes "not")) (and_then (token kind.Reserved (codes "in") (refl, refl)) space)

mutual
  pub term_balanced : (e : Term) → IsBalanced (term_scraps e)
  term_balanced (ast.Int n) = token kind.Number (decimal n) (refl, refl)
  term_balanced (ast.Bool b) = token kind.Reserved (truth_text b) (refl, refl)
  term_balanced (ast.Text cs) = token kind.Text (quoted_text cs) (refl, refl)
  term_balanced (ast.Name x) = token kind.Name x (refl, refl)
  term_balanced (ast.List es) = in_square (list_balanced es)
  term_balanced (ast.Neg e) = and_then (token kind.Mark (codes "-") (refl, refl)) (part_balanced level.Unary e (term_scraps e) (term_balanced e))
  term_balanced (ast.Not e) = and_then (token kind.Reserved (codes "not") (refl, refl)) (and_then space (part_balanced level.Negation e (term_scraps e) (term_balanced e)))
  term_balanced (ast.Arith op a b) = and_then (part_balanced (left_level op) a (term_scraps a) (term_balanced a)) (and_then (operator op) (part_balanced (right_level op) b (term_scraps b) (term_balanced b)))
  term_balanced (ast.Cmp op a b) = and_then (part_balanced level.Sum a (term_scraps a) (term_balanced a)) (and_then (compare_balanced op) (part_balanced level.Sum b (term_scraps b) (term_balanced b)))
  term_balanced (ast.And a b) = and_then (part_balanced level.Conjunction a (term_scraps a) (term_balanced a)) (and_then (a_word (codes "and")) (part_balanced level.Negation b (term_scraps b) (term_balanced b)))
  term_balanced (ast.Or a b) = and_then (part_balanced level.Disjunction a (term_scraps a) (term_balanced a)) (and_then (a_word (codes "or")) (part_balanced level.Conjunction b (term_scraps b) (term_balanced b)))
  term_balanced (ast.Cond t a b) = and_then (part_balanced level.Disjunction a (term_scraps a) (term_balanced a)) (and_then (a_word (codes "if")) (and_then (part_balanced level.Disjunction t (term_scraps t) (term_balanced t)) (and_then (a_word (codes "else")) (term_balanced b))))
  term_balanced (ast.Index v i) = and_then (part_balanced level.Postfix v (term_scraps v) (term_balanced v)) (in_square (term_balanced i))
  term_balanced (ast.Slice v from to) = and_then (part_balanced level.Postfix v (term_scraps v) (term_balanced v)) (in_square (and_then (end_balanced from) (and_then (token kind.Mark (codes ":") (refl, refl)) (end_balanced to))))
  term_balanced (ast.Call f es) = and_then (token kind.Name f (refl, refl)) (in_round (list_balanced es))

  list_balanced : (es : Terms) → IsBalanced (list_scraps es)
  list_balanced no_terms = nothing
  list_balanced (term_and e es) = and_then (term_balanced e) (rest_balanced es)

  rest_balanced : (es : Terms) → IsBalanced (rest_scraps es)
  rest_balanced no_terms = nothing
  rest_balanced (term_and e es) = and_then (token kind.Mark (codes ",") (refl, refl)) (and_then space (and_then (term_balanced e) (rest_balanced es)))

  end_balanced : (e : MaybeTerm) → IsBalanced (end_scraps e)
  end_balanced no_term = nothing
  end_balanced (a_term e) = term_balanced e

pub names_balanced : (xs : List (List ℕ)) → IsBalanced (name_scraps xs)
names_balanced [] = nothing
names_balanced (x ∷ []) = token kind.Name x (refl, refl)
names_balanced (x ∷ y ∷ rest) = and_then (token kind.Name x (refl, refl)) (and_then (token kind.Mark (codes ",") (refl, refl)) (and_then space (names_balanced (y ∷ rest))))

-- what is put before nothing
pub all_balanced : {put : List Scrap → List Scrap} → IsBalanced put → AreBalanced (put [])
all_balanced {put} p = record { same = λ line opened. p.same line opened []; matched = λ line opened. p.matched line opened [] tt }
