-- The bytes of the printed lines are the text.
use Rattle.std.proofs.Common.{◌≡◌, ℕ, suc, Bool, true, false, cond, List, [], ◌∷◌, ◌++◌, nat_lt, codes, refl, sym, ap, ◌∙◌, append_assoc, append-nil}
use Rattle.mpy_tree.specs.declared.operators.CmpOp.{CmpOp}
use Rattle.mpy_tree.specs.declared.operators.CmpOp.TheVariants.{Eq, Ne, Lt, Le, Gt, Ge, Member, NotMember}
use Rattle.mpy_tree.specs.Syntax.{Term, Terms, MaybeTerm, no_terms, term_and, no_term, a_term, at, Action, Block, end, step, MaybeBlock, no_block, a_block, arm, Branches, no_arms, arm_and, Routine}
use Rattle.mpy_tree.specs.Syntax as ast
use Rattle.mpy_tree.specs.declared.levels.Level.{Level}
use Rattle.mpy_tree.specs.declared.levels.Level.TheVariants as level
use Rattle.mpy_tree.specs.Levels.{rank, left_level, right_level}
use Rattle.mpy_tree.specs.Printing.{commas, arith_text, compare_text, level_of, at_level, text_of, texts_of, end_text, indented, return_text, block_text, action_text, arms_text, else_text, routine_text, program_text}
use Rattle.mpy_round_trip.proofs.Scraps.{Scrap, gap, Printed, bytes_of, text_of_lines}
use Rattle.mpy_round_trip.proofs.printing.ProgramLines.{name, reserved, mark, part_scraps, compare_scraps, term_scraps, list_scraps, rest_scraps, end_scraps, name_scraps, return_scraps, header_scraps, printed, block_lines, action_lines, arms_lines, else_lines, routine_lines, printed_lines}

-- what is put before others has this text
abbrev HasText : (List Scrap → List Scrap) → List ℕ → Type 0
HasText put text = (ss : List Scrap) → bytes_of (put ss) ≡ text ++ bytes_of ss

part_text : (k : Level) (e : Term) (inner : List Scrap → List Scrap) (text : List ℕ) → HasText inner text → HasText (part_scraps k e inner) (at_level k e text)
part_text k e inner text h ss = by_case (nat_lt (rank (level_of e)) (rank k))
  where
    by_case : (b : Bool) → bytes_of (cond b (mark (codes "(") ∷ inner (mark (codes ")") ∷ ss)) (inner ss)) ≡ cond b (codes "(" ++ text ++ codes ")") text ++ bytes_of ss
    by_case true = ap (λ l. 40 ∷ l) (h (mark (codes ")") ∷ ss) ∙ sym (append_assoc text (codes ")") (bytes_of ss)))
    by_case false = h ss

compare_has_text : (op : CmpOp) → HasText (compare_scraps op) (compare_text op)
compare_has_text Eq ss = refl
compare_has_text Ne ss = refl
compare_has_text Lt ss = refl
compare_has_text Le ss = refl
compare_has_text Gt ss = refl
compare_has_text Ge ss = refl
compare_has_text Member ss = refl
compare_has_text NotMember ss = refl

-- texts behind the first, with what stands before each
abbrev behind : List (List ℕ) → List ℕ
behind [] = []
behind (x ∷ xs) = codes ", " ++ (x ++ behind xs)

commas_is : (x : List ℕ) (xs : List (List ℕ)) → commas (x ∷ xs) ≡ x ++ behind xs
commas_is x [] = sym (append-nil x)
commas_is x (y ∷ ys) = append_assoc x (codes ", ") (commas (y ∷ ys)) ∙ ap (λ l. x ++ (codes ", " ++ l)) (commas_is y ys)

mutual
  term_text : (e : Term) → HasText (term_scraps e) (text_of e)
  term_text (ast.Int n) ss = refl
  term_text (ast.Bool b) ss = refl
  term_text (ast.Text cs) ss = refl
  term_text (ast.Name x) ss = refl
  term_text (ast.List es) ss = simp (append_assoc, list_text es)
  term_text (ast.Neg e) ss = simp (append_assoc, part_text level.Unary e (term_scraps e) (text_of e) (term_text e))
  term_text (ast.Not e) ss = simp (append_assoc, part_text level.Negation e (term_scraps e) (text_of e) (term_text e))
  term_text (ast.Arith op a b) ss = simp (append_assoc, part_text (left_level op) a (term_scraps a) (text_of a) (term_text a), part_text (right_level op) b (term_scraps b) (text_of b) (term_text b))
  term_text (ast.Cmp op a b) ss = simp (append_assoc, compare_has_text op, part_text level.Sum a (term_scraps a) (text_of a) (term_text a), part_text level.Sum b (term_scraps b) (text_of b) (term_text b))
  term_text (ast.And a b) ss = simp (append_assoc, part_text level.Conjunction a (term_scraps a) (text_of a) (term_text a), part_text level.Negation b (term_scraps b) (text_of b) (term_text b))
  term_text (ast.Or a b) ss = simp (append_assoc, part_text level.Disjunction a (term_scraps a) (text_of a) (term_text a), part_text level.Conjunction b (term_scraps b) (text_of b) (term_text b))
  term_text (ast.Cond t a b) ss = simp (append_assoc, part_text level.Disjunction a (term_scraps a) (text_of a) (term_text a), part_text level.Disjunction t (term_scraps t) (text_of t) (term_text t), term_text b)
  term_text (ast.Index v i) ss = simp (append_assoc, part_text level.Postfix v (term_scraps v) (text_of v) (term_text v), term_text i)
  term_text (ast.Slice v from to) ss = simp (append_assoc, part_text level.Postfix v (term_scraps v) (text_of v) (term_text v), ends_text from, ends_text to)
  term_text (ast.Call f es) ss = simp (append_assoc, list_text es)

  list_text : (es : Terms) → HasText (list_scraps es) (commas (texts_of es))
  list_text no_terms ss = refl
  list_text (term_and e es) ss = simp (append_assoc, commas_is, term_text e, rest_text es)

  rest_text : (es : Terms) → HasText (rest_scraps es) (behind (texts_of es))
  rest_text no_terms ss = refl
  rest_text (term_and e es) ss = simp (append_assoc, term_text e, rest_text es)

  ends_text : (e : MaybeTerm) → HasText (end_scraps e) (end_text e)
  ends_text no_term ss = refl
  ends_text (a_term e) ss = term_text e ss

names_text : (xs : List (List ℕ)) → HasText (name_scraps xs) (commas xs)
names_text [] ss = refl
names_text (x ∷ []) ss = refl
names_text (x ∷ y ∷ rest) ss = simp (append_assoc, names_text (y ∷ rest))

header_text : (bytes : List ℕ) (e : Term) → bytes_of (header_scraps bytes e) ≡ bytes ++ (codes " " ++ (text_of e ++ codes ":"))
header_text bytes e = ap (λ l. bytes ++ (32 ∷ l)) (term_text e (mark (codes ":") ∷ []))

-- a term that ends a line
last_text : (e : Term) → bytes_of (term_scraps e []) ≡ text_of e
last_text e = term_text e [] ∙ append-nil (text_of e)

returned_text : (e : MaybeTerm) → bytes_of (return_scraps e) ≡ return_text e
returned_text no_term = refl
returned_text (a_term e) = ap (λ l. codes "return " ++ l) (last_text e)

-- a line, and what the lines below it are
line_then : (d : ℕ) (ss : List Scrap) (text : List ℕ) (ps : List Printed) (more : List ℕ) → bytes_of ss ≡ text → text_of_lines ps ≡ more → text_of_lines (printed d ss ∷ ps) ≡ indented d text ++ more
line_then d ss text ps more h k = ap (λ t. indented d t ++ text_of_lines ps) h ∙ ap (λ t. indented d text ++ t) k

abbrev HasLines : (List Printed → List Printed) → List ℕ → Type 0
HasLines put text = (ps : List Printed) → text_of_lines (put ps) ≡ text ++ text_of_lines ps

one_line : (d : ℕ) (ss : List Scrap) (text : List ℕ) → bytes_of ss ≡ text → HasLines (λ ps. printed d ss ∷ ps) (indented d text)
one_line d ss text h ps = line_then d ss text ps (text_of_lines ps) h refl

line_and : (d : ℕ) (ss : List Scrap) (text more : List ℕ) (put : List Printed → List Printed) → bytes_of ss ≡ text → HasLines put more → HasLines (λ ps. printed d ss ∷ put ps) (indented d text ++ more)
line_and d ss text more put h k ps = line_then d ss text (put ps) (more ++ text_of_lines ps) h (k ps) ∙ sym (append_assoc (indented d text) more (text_of_lines ps))

both : (put then : List Printed → List Printed) (text more : List ℕ) → HasLines put text → HasLines then more → HasLines (λ ps. put (then ps)) (text ++ more)
both put then text more h k ps = h (then ps) ∙ ap (λ t. text ++ t) (k ps) ∙ sym (append_assoc text more (text_of_lines ps))

mutual
  blocks_text : (d : ℕ) (b : Block) → HasLines (block_lines d b) (block_text d b)
  blocks_text d end ps = refl
  blocks_text d (step (at line act) rest) ps = both (action_lines d act) (block_lines d rest) (action_text d act) (block_text d rest) (actions_text d act) (blocks_text d rest) ps

  actions_text : (d : ℕ) (act : Action) → HasLines (action_lines d act) (action_text d act)
  actions_text d (ast.Assign x e) ps = one_line d (name x ∷ gap ∷ mark (codes "=") ∷ gap ∷ term_scraps e []) (x ++ codes " = " ++ text_of e) (simp (append_assoc, last_text)) ps
  actions_text d (ast.Augment x op e) ps = one_line d (name x ∷ gap ∷ mark (arith_text op ++ codes "=") ∷ gap ∷ term_scraps e []) (x ++ codes " " ++ arith_text op ++ codes "= " ++ text_of e) (simp (append_assoc, last_text)) ps
  actions_text d (ast.Put x i e) ps = one_line d (name x ∷ mark (codes "[") ∷ term_scraps i (mark (codes "]") ∷ gap ∷ mark (codes "=") ∷ gap ∷ term_scraps e [])) (x ++ codes "[" ++ text_of i ++ codes "] = " ++ text_of e) (simp (append_assoc, last_text, term_text i)) ps
  actions_text d (ast.AugmentAt x i op e) ps = one_line d (name x ∷ mark (codes "[") ∷ term_scraps i (mark (codes "]") ∷ gap ∷ mark (arith_text op ++ codes "=") ∷ gap ∷ term_scraps e [])) (x ++ codes "[" ++ text_of i ++ codes "] " ++ arith_text op ++ codes "= " ++ text_of e) (simp (append_assoc, last_text, term_text i)) ps
  actions_text d (ast.Append x e) ps = one_line d (name x ∷ mark (codes ".") ∷ name (codes "append") ∷ mark (codes "(") ∷ term_scraps e (mark (codes ")") ∷ [])) (x ++ codes ".append(" ++ text_of e ++ codes ")") (simp (append_assoc, term_text e)) ps
  actions_text d (ast.Print e) ps = one_line d (name (codes "print") ∷ mark (codes "(") ∷ term_scraps e (mark (codes ")") ∷ [])) (codes "print(" ++ text_of e ++ codes ")") (ap (λ l. codes "print(" ++ l) (term_text e (mark (codes ")") ∷ []))) ps
  actions_text d (ast.Return e) ps = one_line d (return_scraps e) (return_text e) (returned_text e) ps
  actions_text d ast.Pass ps = one_line d (reserved (codes "pass") ∷ []) (codes "pass") refl ps
  actions_text d ast.Break ps = one_line d (reserved (codes "break") ∷ []) (codes "break") refl ps
  actions_text d ast.Continue ps = one_line d (reserved (codes "continue") ∷ []) (codes "continue") refl ps
  actions_text d (ast.If arms last) ps = both (arms_lines d (codes "if") arms) (else_lines d last) (arms_text d (codes "if ") arms) (else_text d last) (all_arms_text d (codes "if") arms) (last_arm_text d last) ps
  actions_text d (ast.While e body) ps = line_and d (header_scraps (codes "while") e) (codes "while " ++ text_of e ++ codes ":") (block_text (suc d) body) (block_lines (suc d) body) (header_text (codes "while") e) (blocks_text (suc d) body) ps
  actions_text d (ast.For x e body) ps = line_and d (reserved (codes "for") ∷ gap ∷ name x ∷ gap ∷ header_scraps (codes "in") e) (codes "for " ++ x ++ codes " in " ++ text_of e ++ codes ":") (block_text (suc d) body) (block_lines (suc d) body) (simp (append_assoc, term_text e)) (blocks_text (suc d) body) ps

  all_arms_text : (d : ℕ) (bytes : List ℕ) (arms : Branches) → HasLines (arms_lines d bytes arms) (arms_text d (bytes ++ codes " ") arms)
  all_arms_text d bytes no_arms ps = refl
  all_arms_text d bytes (arm_and (arm line e body) rest) ps =
      both (λ ps. printed d (header_scraps bytes e) ∷ block_lines (suc d) body ps) (arms_lines d (codes "elif") rest) (indented d (bytes ++ codes " " ++ text_of e ++ codes ":") ++ block_text (suc d) body) (arms_text d (codes "elif ") rest)
      (line_and d (header_scraps bytes e) (bytes ++ codes " " ++ text_of e ++ codes ":") (block_text (suc d) body) (block_lines (suc d) body) (simp (append_assoc, term_text e)) (blocks_text (suc d) body))
      (all_arms_text d (codes "elif") rest) ps

  last_arm_text : (d : ℕ) (last : MaybeBlock) → HasLines (else_lines d last) (else_text d last)
  last_arm_text d no_block ps = refl
  last_arm_text d (a_block body) ps = line_and d (reserved (codes "else") ∷ mark (codes ":") ∷ []) (codes "else:") (block_text (suc d) body) (block_lines (suc d) body) refl (blocks_text (suc d) body) ps

routines_text : (r : Routine) → HasLines (routine_lines r) (routine_text r)
routines_text r ps = simp (append_assoc, names_text r.params, blocks_text 1 r.body)

pub lines_text : (rs : List Routine) → text_of_lines (printed_lines rs) ≡ program_text rs
lines_text [] = refl
lines_text (r ∷ []) = routines_text r [] ∙ append-nil (routine_text r)
lines_text (r ∷ s ∷ rest) = routines_text r (printed 0 [] ∷ printed_lines (s ∷ rest)) ∙ ap (λ t. routine_text r ++ (codes "\n" ++ t)) (lines_text (s ∷ rest)) ∙ sym (append_assoc (routine_text r) (codes "\n") (program_text (s ∷ rest)))
