-- The printed lines of a program, in tokens and spaces. Each function puts what it makes before what follows.
use Rattle.std.specs.Prelude.{ℕ, suc, List, [], ◌∷◌, ◌++◌, nat_lt, if◌then◌else◌, codes}
use Rattle.std.specs.Fmt.{decimal}
use Rattle.mpy_tree.specs.declared.operators.CmpOp.{CmpOp}
use Rattle.mpy_tree.specs.declared.operators.CmpOp.TheVariants.{Eq, Ne, Lt, Le, Gt, Ge, Member, NotMember}
use Rattle.mpy_tree.specs.Syntax.{Term, Terms, MaybeTerm, no_terms, term_and, no_term, a_term, at, Action, Block, end, step, MaybeBlock, no_block, a_block, arm, Branches, no_arms, arm_and, Routine}
use Rattle.mpy_tree.specs.Syntax as ast
use Rattle.mpy_tree.specs.declared.levels.Level.{Level}
use Rattle.mpy_tree.specs.declared.levels.Level.TheVariants as level
use Rattle.mpy_tree.specs.Levels.{rank, left_level, right_level}
use Rattle.mpy_tree.specs.Printing.{quoted_text, truth_text, arith_text, level_of}
use Rattle.mpy_lexer.specs.declared.forms.Kind.TheVariants as kind
use Rattle.mpy_round_trip.proofs.Scraps.{Scrap, gap, word, Printed}

abbrev pub name : List ℕ → Scrap
name x = word kind.Name x

abbrev pub reserved : List ℕ → Scrap
reserved bytes = word kind.Reserved bytes

abbrev pub mark : List ℕ → Scrap
mark bytes = word kind.Mark bytes

-- a part, in parentheses where its own level is below the one asked for
abbrev pub part_scraps : Level → Term → (List Scrap → List Scrap) → List Scrap → List Scrap
part_scraps k e inner ss = if nat_lt (rank (level_of e)) (rank k) then mark (codes "(") ∷ inner (mark (codes ")") ∷ ss) else inner ss

abbrev pub compare_scraps : CmpOp → List Scrap → List Scrap
compare_scraps Eq ss = mark (codes "==") ∷ ss
compare_scraps Ne ss = mark (codes "!=") ∷ ss
compare_scraps Lt ss = mark (codes "<") ∷ ss
compare_scraps Le ss = mark (codes "<=") ∷ ss
compare_scraps Gt ss = mark (codes ">") ∷ ss
compare_scraps Ge ss = mark (codes ">=") ∷ ss
compare_scraps Member ss = reserved (codes "in") ∷ ss
compare_scraps NotMember ss = reserved (codes "not") ∷ gap ∷ reserved (codes "in") ∷ ss

abbrev mutual
  pub term_scraps : Term → List Scrap → List Scrap
  term_scraps (ast.Int n) ss = word kind.Number (decimal n) ∷ ss
  term_scraps (ast.Bool b) ss = reserved (truth_text b) ∷ ss
  term_scraps (ast.Text cs) ss = word kind.Text (quoted_text cs) ∷ ss
  term_scraps (ast.Name x) ss = name x ∷ ss
  term_scraps (ast.List es) ss = mark (codes "[") ∷ list_scraps es (mark (codes "]") ∷ ss)
  term_scraps (ast.Neg e) ss = mark (codes "-") ∷ part_scraps level.Unary e (term_scraps e) ss
  term_scraps (ast.Not e) ss = reserved (codes "not") ∷ gap ∷ part_scraps level.Negation e (term_scraps e) ss
  term_scraps (ast.Arith op a b) ss = part_scraps (left_level op) a (term_scraps a) (gap ∷ mark (arith_text op) ∷ gap ∷ part_scraps (right_level op) b (term_scraps b) ss)
  term_scraps (ast.Cmp op a b) ss = part_scraps level.Sum a (term_scraps a) (gap ∷ compare_scraps op (gap ∷ part_scraps level.Sum b (term_scraps b) ss))
  term_scraps (ast.And a b) ss = part_scraps level.Conjunction a (term_scraps a) (gap ∷ reserved (codes "and") ∷ gap ∷ part_scraps level.Negation b (term_scraps b) ss)
  term_scraps (ast.Or a b) ss = part_scraps level.Disjunction a (term_scraps a) (gap ∷ reserved (codes "or") ∷ gap ∷ part_scraps level.Conjunction b (term_scraps b) ss)
  term_scraps (ast.Cond t a b) ss = part_scraps level.Disjunction a (term_scraps a) (gap ∷ reserved (codes "if") ∷ gap ∷ part_scraps level.Disjunction t (term_scraps t) (gap ∷ reserved (codes "else") ∷ gap ∷ term_scraps b ss))
  term_scraps (ast.Index v i) ss = part_scraps level.Postfix v (term_scraps v) (mark (codes "[") ∷ term_scraps i (mark (codes "]") ∷ ss))
  term_scraps (ast.Slice v from to) ss = part_scraps level.Postfix v (term_scraps v) (mark (codes "[") ∷ end_scraps from (mark (codes ":") ∷ end_scraps to (mark (codes "]") ∷ ss)))
  term_scraps (ast.Call f es) ss = name f ∷ mark (codes "(") ∷ list_scraps es (mark (codes ")") ∷ ss)

  pub list_scraps : Terms → List Scrap → List Scrap
  list_scraps no_terms ss = ss
  list_scraps (term_and e es) ss = term_scraps e (rest_scraps es ss)

  -- the expressions behind the first
  pub rest_scraps : Terms → List Scrap → List Scrap
  rest_scraps no_terms ss = ss
  rest_scraps (term_and e es) ss = mark (codes ",") ∷ gap ∷ term_scraps e (rest_scraps es ss)

  pub end_scraps : MaybeTerm → List Scrap → List Scrap
  end_scraps no_term ss = ss
  end_scraps (a_term e) ss = term_scraps e ss

abbrev pub name_scraps : List (List ℕ) → List Scrap → List Scrap
name_scraps [] ss = ss
name_scraps (x ∷ []) ss = name x ∷ ss
name_scraps (x ∷ y ∷ rest) ss = name x ∷ mark (codes ",") ∷ gap ∷ name_scraps (y ∷ rest) ss

abbrev pub return_scraps : MaybeTerm → List Scrap
return_scraps no_term = reserved (codes "return") ∷ []
return_scraps (a_term e) = reserved (codes "return") ∷ gap ∷ term_scraps e []

-- a word, an expression and a colon
abbrev pub header_scraps : List ℕ → Term → List Scrap
header_scraps bytes e = reserved bytes ∷ gap ∷ term_scraps e (mark (codes ":") ∷ [])

abbrev pub printed : ℕ → List Scrap → Printed
printed d ss = record { depth = d; scraps = ss }

abbrev mutual
  pub block_lines : ℕ → Block → List Printed → List Printed
  block_lines d end ps = ps
  block_lines d (step (at line act) rest) ps = action_lines d act (block_lines d rest ps)

  pub action_lines : ℕ → Action → List Printed → List Printed
  action_lines d (ast.Assign x e) ps = printed d (name x ∷ gap ∷ mark (codes "=") ∷ gap ∷ term_scraps e []) ∷ ps
  action_lines d (ast.Augment x op e) ps = printed d (name x ∷ gap ∷ mark (arith_text op ++ codes "=") ∷ gap ∷ term_scraps e []) ∷ ps
  action_lines d (ast.Put x i e) ps = printed d (name x ∷ mark (codes "[") ∷ term_scraps i (mark (codes "]") ∷ gap ∷ mark (codes "=") ∷ gap ∷ term_scraps e [])) ∷ ps
  action_lines d (ast.AugmentAt x i op e) ps = printed d (name x ∷ mark (codes "[") ∷ term_scraps i (mark (codes "]") ∷ gap ∷ mark (arith_text op ++ codes "=") ∷ gap ∷ term_scraps e [])) ∷ ps
  action_lines d (ast.Append x e) ps = printed d (name x ∷ mark (codes ".") ∷ name (codes "append") ∷ mark (codes "(") ∷ term_scraps e (mark (codes ")") ∷ [])) ∷ ps
  action_lines d (ast.Print e) ps = printed d (name (codes "print") ∷ mark (codes "(") ∷ term_scraps e (mark (codes ")") ∷ [])) ∷ ps
  action_lines d (ast.Return e) ps = printed d (return_scraps e) ∷ ps
  action_lines d ast.Pass ps = printed d (reserved (codes "pass") ∷ []) ∷ ps
  action_lines d ast.Break ps = printed d (reserved (codes "break") ∷ []) ∷ ps
  action_lines d ast.Continue ps = printed d (reserved (codes "continue") ∷ []) ∷ ps
  action_lines d (ast.If arms last) ps = arms_lines d (codes "if") arms (else_lines d last ps)
  action_lines d (ast.While e body) ps = printed d (header_scraps (codes "while") e) ∷ block_lines (suc d) body ps
  action_lines d (ast.For x e body) ps = printed d (reserved (codes "for") ∷ gap ∷ name x ∷ gap ∷ header_scraps (codes "in") e) ∷ block_lines (suc d) body ps

  -- the first arm has one word before its test, the others another
  pub arms_lines : ℕ → List ℕ → Branches → List Printed → List Printed
  arms_lines d bytes no_arms ps = ps
  arms_lines d bytes (arm_and (arm line e body) rest) ps = printed d (header_scraps bytes e) ∷ block_lines (suc d) body (arms_lines d (codes "elif") rest ps)

  pub else_lines : ℕ → MaybeBlock → List Printed → List Printed
  else_lines d no_block ps = ps
  else_lines d (a_block body) ps = printed d (reserved (codes "else") ∷ mark (codes ":") ∷ []) ∷ block_lines (suc d) body ps

abbrev pub routine_lines : Routine → List Printed → List Printed
routine_lines r ps = printed 0 (reserved (codes "def") ∷ gap ∷ name r.name ∷ mark (codes "(") ∷ name_scraps r.params (mark (codes ")") ∷ mark (codes ":") ∷ [])) ∷ block_lines 1 r.body ps

-- functions are separated by one empty line
abbrev pub printed_lines : List Routine → List Printed
printed_lines [] = []
printed_lines (r ∷ []) = routine_lines r []
printed_lines (r ∷ s ∷ rest) = routine_lines r (printed 0 [] ∷ printed_lines (s ∷ rest))
