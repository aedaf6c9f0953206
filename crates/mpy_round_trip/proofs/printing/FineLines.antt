-- The printed lines of a proper program are fine.
use Rattle.std.proofs.Common.{◌≡◌, ℕ, suc, Bool, true, false, List, [], ◌∷◌, ◌++◌, All, codes, refl}
use Rattle.std.proofs.lemmas.List.Elements.{All-nil, All-cons, All-head, All-tail}
use Rattle.mpy_tree.specs.Syntax.{Term, no_term, a_term, at, Action, Block, end, step, MaybeBlock, no_block, a_block, arm, Branches, no_arms, arm_and, Routine}
use Rattle.mpy_tree.specs.Syntax as ast
use Rattle.mpy_tree.specs.declared.operators.ArithOp.{ArithOp}
use Rattle.mpy_tree.specs.Printing.{arith_text}
use Rattle.mpy_lexer.specs.Bytes.{is_name_byte}
use Rattle.mpy_lexer.specs.declared.forms.Kind.{Kind}
use Rattle.mpy_lexer.specs.declared.forms.Kind.TheVariants as kind
use Rattle.mpy_lexer.specs.Words.{is_reserved, mark_len}
use Rattle.mpy_lexer.specs.TextLiterals.{is_printable}
use Rattle.std.specs.List.{list_all}
use Rattle.mpy_round_trip.specs.Proper.{IsName, MayAugment}
use Rattle.mpy_round_trip.proofs.ProperForms.{IsProperTerm, IsProperBlock, IsProperAction, AreProperArms, IsProperElse, IsProperRoutine, AreProper}
use Rattle.mpy_round_trip.proofs.Scraps.{Scrap, gap, word, Printed, next_byte, AreApart, IsFine, empty, token as begins_with}
use Rattle.mpy_round_trip.proofs.printing.ProgramLines.{name, mark, reserved, term_scraps, name_scraps, header_scraps, printed, block_lines, action_lines, arms_lines, else_lines, routine_lines, printed_lines}
use Rattle.mpy_round_trip.proofs.printing.BracketBalance.{IsBalanced, space, and_then, token, in_round, in_square, augmenting, term_balanced, names_balanced, all_balanced, nothing}
use Rattle.mpy_round_trip.proofs.printing.TokensApart.{name_apart, term_apart, augmenting_apart}

fine : (d : ℕ) (k : Kind) (bytes : List ℕ) (put : List Scrap → List Scrap) → AreApart (word k bytes ∷ put []) → IsBalanced (λ ss. word k bytes ∷ put ss) → IsFine (printed d (word k bytes ∷ put []))
fine d k bytes put a b = record { begins = begins_with d k bytes (put []); apart = a; balanced = all_balanced {put = λ ss. word k bytes ∷ put ss} b }

-- an expression that ends a line
last_apart : (e : Term) → IsProperTerm e → AreApart (term_scraps e [])
last_apart e p = (term_apart e p).apart [] refl tt

named : (x : List ℕ) → IsBalanced (λ ss. name x ∷ ss)
named x = token kind.Name x (refl, refl)

-- an equals sign between spaces
assigning : IsBalanced (λ ss. gap ∷ mark (codes "=") ∷ gap ∷ ss)
assigning = and_then space (and_then (token kind.Mark (codes "=") (refl, refl)) space)

assigning_apart : (ss : List Scrap) → AreApart ss → AreApart (gap ∷ mark (codes "=") ∷ gap ∷ ss)
unfolding mark_len
assigning_apart ss h = (refl, refl, refl, h)

assignment_fine : (d : ℕ) (x : List ℕ) (e : Term) → IsName x → IsProperTerm e → IsFine (printed d (name x ∷ gap ∷ mark (codes "=") ∷ gap ∷ term_scraps e []))
assignment_fine d x e n p =
    fine d kind.Name x (λ ss. gap ∷ mark (codes "=") ∷ gap ∷ term_scraps e ss)
    (name_apart x (gap ∷ mark (codes "=") ∷ gap ∷ term_scraps e []) n refl (assigning_apart (term_scraps e []) (last_apart e p)))
    (and_then (named x) (and_then assigning (term_balanced e)))

augmentation_fine : (d : ℕ) (x : List ℕ) (op : ArithOp) (e : Term) → IsName x → MayAugment op → IsProperTerm e → IsFine (printed d (name x ∷ gap ∷ mark (arith_text op ++ codes "=") ∷ gap ∷ term_scraps e []))
augmentation_fine d x op e n m p =
    fine d kind.Name x (λ ss. gap ∷ mark (arith_text op ++ codes "=") ∷ gap ∷ term_scraps e ss)
    (name_apart x (gap ∷ mark (arith_text op ++ codes "=") ∷ gap ∷ term_scraps e []) n refl (augmenting_apart op (term_scraps e []) m (last_apart e p)))
    (and_then (named x) (and_then (augmenting op) (term_balanced e)))

-- an element of a variable
element_apart : (x : List ℕ) (i : Term) (ss : List Scrap) → IsName x → IsProperTerm i → AreApart ss → AreApart (name x ∷ mark (codes "[") ∷ term_scraps i (mark (codes "]") ∷ ss))
unfolding mark_len
element_apart x i ss n p h = name_apart x (mark (codes "[") ∷ term_scraps i (mark (codes "]") ∷ ss)) n refl (refl, refl, refl, (term_apart i p).apart (mark (codes "]") ∷ ss) refl (refl, refl, refl, h))

assignment_at_fine : (d : ℕ) (x : List ℕ) (i e : Term) → IsName x → IsProperTerm i → IsProperTerm e → IsFine (printed d (name x ∷ mark (codes "[") ∷ term_scraps i (mark (codes "]") ∷ gap ∷ mark (codes "=") ∷ gap ∷ term_scraps e [])))
assignment_at_fine d x i e n p q =
    fine d kind.Name x (λ ss. mark (codes "[") ∷ term_scraps i (mark (codes "]") ∷ gap ∷ mark (codes "=") ∷ gap ∷ term_scraps e ss))
    (element_apart x i (gap ∷ mark (codes "=") ∷ gap ∷ term_scraps e []) n p (assigning_apart (term_scraps e []) (last_apart e q)))
    (and_then (named x) (and_then (in_square (term_balanced i)) (and_then assigning (term_balanced e))))

augmentation_at_fine : (d : ℕ) (x : List ℕ) (i : Term) (op : ArithOp) (e : Term) → IsName x → IsProperTerm i → MayAugment op → IsProperTerm e → IsFine (printed d (name x ∷ mark (codes "[") ∷ term_scraps i (mark (codes "]") ∷ gap ∷ mark (arith_text op ++ codes "=") ∷ gap ∷ term_scraps e [])))
augmentation_at_fine d x i op e n p m q =
    fine d kind.Name x (λ ss. mark (codes "[") ∷ term_scraps i (mark (codes "]") ∷ gap ∷ mark (arith_text op ++ codes "=") ∷ gap ∷ term_scraps e ss))
    (element_apart x i (gap ∷ mark (arith_text op ++ codes "=") ∷ gap ∷ term_scraps e []) n p (augmenting_apart op (term_scraps e []) m (last_apart e q)))
    (and_then (named x) (and_then (in_square (term_balanced i)) (and_then (augmenting op) (term_balanced e))))

-- a name, and an expression in parentheses
called_apart : (f : List ℕ) (e : Term) → IsName f → IsProperTerm e → AreApart (name f ∷ mark (codes "(") ∷ term_scraps e (mark (codes ")") ∷ []))
unfolding mark_len
called_apart f e n p = name_apart f (mark (codes "(") ∷ term_scraps e (mark (codes ")") ∷ [])) n refl (refl, refl, refl, (term_apart e p).apart (mark (codes ")") ∷ []) refl (refl, refl, refl, tt))

appending_fine : (d : ℕ) (x : List ℕ) (e : Term) → IsName x → IsProperTerm e → IsFine (printed d (name x ∷ mark (codes ".") ∷ name (codes "append") ∷ mark (codes "(") ∷ term_scraps e (mark (codes ")") ∷ [])))
unfolding mark_len is_reserved
appending_fine d x e n p =
    fine d kind.Name x (λ ss. mark (codes ".") ∷ name (codes "append") ∷ mark (codes "(") ∷ term_scraps e (mark (codes ")") ∷ ss))
    (name_apart x (mark (codes ".") ∷ name (codes "append") ∷ mark (codes "(") ∷ term_scraps e (mark (codes ")") ∷ [])) n refl (refl, refl, refl, called_apart (codes "append") e refl p))
    (and_then (named x) (and_then (token kind.Mark (codes ".") (refl, refl)) (and_then (named (codes "append")) (in_round (term_balanced e)))))

printing_fine : (d : ℕ) (e : Term) → IsProperTerm e → IsFine (printed d (name (codes "print") ∷ mark (codes "(") ∷ term_scraps e (mark (codes ")") ∷ [])))
unfolding is_reserved
printing_fine d e p =
    fine d kind.Name (codes "print") (λ ss. mark (codes "(") ∷ term_scraps e (mark (codes ")") ∷ ss))
    (called_apart (codes "print") e refl p)
    (and_then (named (codes "print")) (in_round (term_balanced e)))

-- a reserved word, alone on its line
word_fine : (d : ℕ) (bytes : List ℕ) → is_reserved bytes ≡ true → list_all is_printable bytes ≡ true → IsFine (printed d (reserved bytes ∷ []))
word_fine d bytes r p = fine d kind.Reserved bytes (λ ss. ss) (r, p, refl, tt) (token kind.Reserved bytes (refl, refl))

returning_fine : (d : ℕ) (e : Term) → IsProperTerm e → IsFine (printed d (reserved (codes "return") ∷ gap ∷ term_scraps e []))
unfolding is_reserved
returning_fine d e p = fine d kind.Reserved (codes "return") (λ ss. gap ∷ term_scraps e ss) (refl, refl, refl, last_apart e p) (and_then (token kind.Reserved (codes "return") (refl, refl)) (and_then space (term_balanced e)))

header_apart : (bytes : List ℕ) (e : Term) → is_reserved bytes ≡ true → list_all is_printable bytes ≡ true → IsProperTerm e → AreApart (header_scraps bytes e)
unfolding mark_len
header_apart bytes e r p q = (r, p, refl, (term_apart e q).apart (mark (codes ":") ∷ []) refl (refl, refl, refl, tt))

header_balanced : (bytes : List ℕ) (e : Term) → IsBalanced (λ ss. reserved bytes ∷ gap ∷ term_scraps e (mark (codes ":") ∷ ss))
header_balanced bytes e = and_then (token kind.Reserved bytes (refl, refl)) (and_then space (and_then (term_balanced e) (token kind.Mark (codes ":") (refl, refl))))

header_fine : (d : ℕ) (bytes : List ℕ) (e : Term) → is_reserved bytes ≡ true → list_all is_printable bytes ≡ true → IsProperTerm e → IsFine (printed d (header_scraps bytes e))
header_fine d bytes e r p q = fine d kind.Reserved bytes (λ ss. gap ∷ term_scraps e (mark (codes ":") ∷ ss)) (header_apart bytes e r p q) (header_balanced bytes e)

each_fine : (d : ℕ) (x : List ℕ) (e : Term) → IsName x → IsProperTerm e → IsFine (printed d (reserved (codes "for") ∷ gap ∷ name x ∷ gap ∷ header_scraps (codes "in") e))
unfolding is_reserved
each_fine d x e n p =
    fine d kind.Reserved (codes "for") (λ ss. gap ∷ name x ∷ gap ∷ reserved (codes "in") ∷ gap ∷ term_scraps e (mark (codes ":") ∷ ss))
    (refl, refl, refl, name_apart x (gap ∷ header_scraps (codes "in") e) n refl (header_apart (codes "in") e refl refl p))
    (and_then (token kind.Reserved (codes "for") (refl, refl)) (and_then space (and_then (named x) (and_then space (header_balanced (codes "in") e)))))

else_fine : (d : ℕ) → IsFine (printed d (reserved (codes "else") ∷ mark (codes ":") ∷ []))
unfolding mark_len is_reserved
else_fine d = fine d kind.Reserved (codes "else") (λ ss. mark (codes ":") ∷ ss) (refl, refl, refl, (refl, refl, refl, tt)) (and_then (token kind.Reserved (codes "else") (refl, refl)) (token kind.Mark (codes ":") (refl, refl)))

names_apart : (xs : List (List ℕ)) (ss : List Scrap) → All IsName xs → is_name_byte (next_byte ss) ≡ false → AreApart ss → AreApart (name_scraps xs ss)
unfolding mark_len
names_apart [] ss n f h = h
names_apart (x ∷ []) ss n f h = name_apart x ss (All-head IsName x [] n) f h
names_apart (x ∷ y ∷ rest) ss n f h = name_apart x (mark (codes ",") ∷ gap ∷ name_scraps (y ∷ rest) ss) (All-head IsName x (y ∷ rest) n) refl (refl, refl, refl, names_apart (y ∷ rest) ss (All-tail IsName x (y ∷ rest) n) f h)

definition_fine : (f : List ℕ) (params : List (List ℕ)) → IsName f → All IsName params → IsFine (printed 0 (reserved (codes "def") ∷ gap ∷ name f ∷ mark (codes "(") ∷ name_scraps params (mark (codes ")") ∷ mark (codes ":") ∷ [])))
unfolding mark_len is_reserved
definition_fine f params n ns =
    let closing : AreApart (mark (codes ")") ∷ mark (codes ":") ∷ []) = (refl, refl, refl, (refl, refl, refl, tt)) in
    fine 0 kind.Reserved (codes "def") (λ ss. gap ∷ name f ∷ mark (codes "(") ∷ name_scraps params (mark (codes ")") ∷ mark (codes ":") ∷ ss))
    (refl, refl, refl, name_apart f (mark (codes "(") ∷ name_scraps params (mark (codes ")") ∷ mark (codes ":") ∷ [])) n refl (refl, refl, refl, names_apart params (mark (codes ")") ∷ mark (codes ":") ∷ []) ns refl closing))
    (and_then (token kind.Reserved (codes "def") (refl, refl)) (and_then space (and_then (named f) (and_then (in_round (names_balanced params)) (token kind.Mark (codes ":") (refl, refl))))))

line_and : {p : Printed} (ps : List Printed) → IsFine p → All IsFine ps → All IsFine (p ∷ ps)
line_and {p} ps f h = All-cons IsFine p ps f h

mutual
  unfolding is_reserved

  block_fine : (loop : Bool) (d : ℕ) (b : Block) (ps : List Printed) → IsProperBlock loop b → All IsFine ps → All IsFine (block_lines d b ps)
  block_fine loop d end ps p h = h
  block_fine loop d (step (at line act) rest) ps p h = action_fine loop d act (block_lines d rest ps) p.0 (block_fine loop d rest ps p.1 h)

  action_fine : (loop : Bool) (d : ℕ) (act : Action) (ps : List Printed) → IsProperAction loop act → All IsFine ps → All IsFine (action_lines d act ps)
  action_fine loop d (ast.Assign x e) ps p h = line_and ps (assignment_fine d x e p.0 p.1) h
  action_fine loop d (ast.Augment x op e) ps p h = line_and ps (augmentation_fine d x op e p.0 p.1 p.2) h
  action_fine loop d (ast.Put x i e) ps p h = line_and ps (assignment_at_fine d x i e p.0 p.1 p.2) h
  action_fine loop d (ast.AugmentAt x i op e) ps p h = line_and ps (augmentation_at_fine d x i op e p.0 p.1 p.2 p.3) h
  action_fine loop d (ast.Append x e) ps p h = line_and ps (appending_fine d x e p.0 p.1) h
  action_fine loop d (ast.Print e) ps p h = line_and ps (printing_fine d e p) h
  action_fine loop d (ast.Return no_term) ps p h = line_and ps (word_fine d (codes "return") refl refl) h
  action_fine loop d (ast.Return (a_term e)) ps p h = line_and ps (returning_fine d e p) h
  action_fine loop d ast.Pass ps p h = line_and ps (word_fine d (codes "pass") refl refl) h
  action_fine loop d ast.Break ps p h = line_and ps (word_fine d (codes "break") refl refl) h
  action_fine loop d ast.Continue ps p h = line_and ps (word_fine d (codes "continue") refl refl) h
  action_fine loop d (ast.If arms last) ps p h = arms_fine loop d (codes "if") arms (else_lines d last ps) refl refl p.1 (last_fine loop d last ps p.2 h)
  action_fine loop d (ast.While e body) ps p h = line_and (block_lines (suc d) body ps) (header_fine d (codes "while") e refl refl p.0) (block_fine true (suc d) body ps p.1.1 h)
  action_fine loop d (ast.For x e body) ps p h = line_and (block_lines (suc d) body ps) (each_fine d x e p.0 p.1) (block_fine true (suc d) body ps p.2.1 h)

  arms_fine : (loop : Bool) (d : ℕ) (bytes : List ℕ) (arms : Branches) (ps : List Printed) → is_reserved bytes ≡ true → list_all is_printable bytes ≡ true → AreProperArms loop arms → All IsFine ps → All IsFine (arms_lines d bytes arms ps)
  arms_fine loop d bytes no_arms ps r w p h = h
  arms_fine loop d bytes (arm_and (arm line e body) rest) ps r w p h =
      let below = arms_lines d (codes "elif") rest ps in
      line_and (block_lines (suc d) body below) (header_fine d bytes e r w p.0) (block_fine loop (suc d) body below p.1.1 (arms_fine loop d (codes "elif") rest ps refl refl p.2 h))

  last_fine : (loop : Bool) (d : ℕ) (last : MaybeBlock) (ps : List Printed) → IsProperElse loop last → All IsFine ps → All IsFine (else_lines d last ps)
  last_fine loop d no_block ps p h = h
  last_fine loop d (a_block body) ps p h = line_and (block_lines (suc d) body ps) (else_fine d) (block_fine loop (suc d) body ps p.1 h)

routine_fine : (r : Routine) (ps : List Printed) → IsProperRoutine r → All IsFine ps → All IsFine (routine_lines r ps)
routine_fine r ps p h = line_and (block_lines 1 r.body ps) (definition_fine r.name r.params p.name p.params) (block_fine false 1 r.body ps p.body.1 h)

empty_line_fine : IsFine (printed 0 [])
empty_line_fine = record { begins = empty; apart = tt; balanced = all_balanced nothing }

pub printed_fine : (rs : List Routine) → AreProper rs → All IsFine (printed_lines rs)
printed_fine [] p = All-nil IsFine
printed_fine (r ∷ []) p = routine_fine r [] (All-head IsProperRoutine r [] p) (All-nil IsFine)
printed_fine (r ∷ s ∷ rest) p = routine_fine r (printed 0 [] ∷ printed_lines (s ∷ rest)) (All-head IsProperRoutine r (s ∷ rest) p) (line_and (printed_lines (s ∷ rest)) empty_line_fine (printed_fine (s ∷ rest) (All-tail IsProperRoutine r (s ∷ rest) p)))
