-- A term whose nodes are proper is one whose parts are, and the other way round.
use Rattle.std.proofs.Common.{◌≡◌, ◌≤◌, true, List, [], ◌∷◌, ◌++◌, All}
use Rattle.std.specs.List.{list_all}
use Rattle.std.proofs.lemmas.List.Elements.{All-nil, All-cons, All-head, All-tail, All-append}
use Rattle.mpy_tree.specs.Syntax.{Term, Terms, MaybeTerm, no_terms, term_and, no_term, a_term}
use Rattle.mpy_tree.specs.Syntax as ast
use Rattle.mpy_tree.specs.Sites.{nodes, all_nodes, end_nodes}
use Rattle.mpy_lexer.specs.TextLiterals.{is_printable}
use Rattle.mpy_round_trip.specs.Proper.{IsName}
use Rattle.mpy_round_trip.proofs.ProperForms.{IsProperNode, IsProperTerm, IsProperEnd}

abbrev mutual
  pub HasProperParts : Term → Type 0
  HasProperParts (ast.Int n) = n ≤ 2147483647
  HasProperParts (ast.Bool b) = Unit {0}
  HasProperParts (ast.Text cs) = list_all is_printable cs ≡ true
  HasProperParts (ast.Name x) = IsName x
  HasProperParts (ast.List es) = HaveProperParts es
  HasProperParts (ast.Neg e) = HasProperParts e
  HasProperParts (ast.Not e) = HasProperParts e
  HasProperParts (ast.Arith op a b) = HasProperParts a × HasProperParts b
  HasProperParts (ast.Cmp op a b) = HasProperParts a × HasProperParts b
  HasProperParts (ast.And a b) = HasProperParts a × HasProperParts b
  HasProperParts (ast.Or a b) = HasProperParts a × HasProperParts b
  HasProperParts (ast.Cond t a b) = HasProperParts t × HasProperParts a × HasProperParts b
  HasProperParts (ast.Index v i) = HasProperParts v × HasProperParts i
  HasProperParts (ast.Slice v from to) = HasProperParts v × EndHasProperParts from × EndHasProperParts to
  HasProperParts (ast.Call f es) = IsName f × HaveProperParts es

  pub HaveProperParts : Terms → Type 0
  HaveProperParts no_terms = Unit {0}
  HaveProperParts (term_and e es) = HasProperParts e × HaveProperParts es

  pub EndHasProperParts : MaybeTerm → Type 0
  EndHasProperParts no_term = Unit {0}
  EndHasProperParts (a_term e) = HasProperParts e

split : (xs ys : List Term) → All IsProperNode (xs ++ ys) → All IsProperNode xs × All IsProperNode ys
split [] ys p = (All-nil IsProperNode, p)
split (x ∷ xs) ys p =
    let rest = split xs ys (All-tail IsProperNode x (xs ++ ys) p) in
    (All-cons IsProperNode x xs (All-head IsProperNode x (xs ++ ys) p) rest.0, rest.1)

mutual
  pub parts_of : (e : Term) → IsProperTerm e → HasProperParts e
  parts_of (ast.Int n) p = All-head IsProperNode (ast.Int n) [] p
  parts_of (ast.Text cs) p = All-head IsProperNode (ast.Text cs) [] p
  parts_of (ast.Name x) p = All-head IsProperNode (ast.Name x) [] p
  parts_of (ast.Bool b) p = tt
  parts_of (ast.List es) p = parts_of_all es (All-tail IsProperNode (ast.List es) (all_nodes es) p)
  parts_of (ast.Neg e) p = parts_of e (All-tail IsProperNode (ast.Neg e) (nodes e) p)
  parts_of (ast.Not e) p = parts_of e (All-tail IsProperNode (ast.Not e) (nodes e) p)
  parts_of (ast.Arith op a b) p = let both = split (nodes a) (nodes b) (All-tail IsProperNode (ast.Arith op a b) (nodes a ++ nodes b) p) in (parts_of a both.0, parts_of b both.1)
  parts_of (ast.Cmp op a b) p = let both = split (nodes a) (nodes b) (All-tail IsProperNode (ast.Cmp op a b) (nodes a ++ nodes b) p) in (parts_of a both.0, parts_of b both.1)
  parts_of (ast.And a b) p = let both = split (nodes a) (nodes b) (All-tail IsProperNode (ast.And a b) (nodes a ++ nodes b) p) in (parts_of a both.0, parts_of b both.1)
  parts_of (ast.Or a b) p = let both = split (nodes a) (nodes b) (All-tail IsProperNode (ast.Or a b) (nodes a ++ nodes b) p) in (parts_of a both.0, parts_of b both.1)
  parts_of (ast.Index v k) p = let both = split (nodes v) (nodes k) (All-tail IsProperNode (ast.Index v k) (nodes v ++ nodes k) p) in (parts_of v both.0, parts_of k both.1)
  parts_of (ast.Cond t a b) p =
      let first = split (nodes a) (nodes t ++ nodes b) (All-tail IsProperNode (ast.Cond t a b) (nodes a ++ (nodes t ++ nodes b)) p) in
      let last = split (nodes t) (nodes b) first.1 in
      (parts_of t last.0, parts_of a first.0, parts_of b last.1)
  parts_of (ast.Slice v from to) p =
      let first = split (nodes v) (end_nodes from ++ end_nodes to) (All-tail IsProperNode (ast.Slice v from to) (nodes v ++ (end_nodes from ++ end_nodes to)) p) in
      let last = split (end_nodes from) (end_nodes to) first.1 in
      (parts_of v first.0, parts_of_end from last.0, parts_of_end to last.1)
  parts_of (ast.Call f es) p = (All-head IsProperNode (ast.Call f es) (all_nodes es) p, parts_of_all es (All-tail IsProperNode (ast.Call f es) (all_nodes es) p))

  parts_of_all : (es : Terms) → All IsProperNode (all_nodes es) → HaveProperParts es
  parts_of_all no_terms p = tt
  parts_of_all (term_and e es) p = let both = split (nodes e) (all_nodes es) p in (parts_of e both.0, parts_of_all es both.1)

  pub parts_of_end : (e : MaybeTerm) → IsProperEnd e → EndHasProperParts e
  parts_of_end no_term p = tt
  parts_of_end (a_term e) p = parts_of e p

mutual
  pub of_parts : (e : Term) → HasProperParts e → IsProperTerm e
  of_parts (ast.Int n) p = All-cons IsProperNode (ast.Int n) [] p (All-nil IsProperNode)
  of_parts (ast.Text cs) p = All-cons IsProperNode (ast.Text cs) [] p (All-nil IsProperNode)
  of_parts (ast.Name x) p = All-cons IsProperNode (ast.Name x) [] p (All-nil IsProperNode)
  of_parts (ast.Bool b) p = All-cons IsProperNode (ast.Bool b) [] tt (All-nil IsProperNode)
  of_parts (ast.List es) p = All-cons IsProperNode (ast.List es) (all_nodes es) tt (of_all_parts es p)
  of_parts (ast.Neg e) p = All-cons IsProperNode (ast.Neg e) (nodes e) tt (of_parts e p)
  of_parts (ast.Not e) p = All-cons IsProperNode (ast.Not e) (nodes e) tt (of_parts e p)
  of_parts (ast.Arith op a b) p = All-cons IsProperNode (ast.Arith op a b) (nodes a ++ nodes b) tt (All-append IsProperNode (nodes a) (nodes b) (of_parts a p.0) (of_parts b p.1))
  of_parts (ast.Cmp op a b) p = All-cons IsProperNode (ast.Cmp op a b) (nodes a ++ nodes b) tt (All-append IsProperNode (nodes a) (nodes b) (of_parts a p.0) (of_parts b p.1))
  of_parts (ast.And a b) p = All-cons IsProperNode (ast.And a b) (nodes a ++ nodes b) tt (All-append IsProperNode (nodes a) (nodes b) (of_parts a p.0) (of_parts b p.1))
  of_parts (ast.Or a b) p = All-cons IsProperNode (ast.Or a b) (nodes a ++ nodes b) tt (All-append IsProperNode (nodes a) (nodes b) (of_parts a p.0) (of_parts b p.1))
  of_parts (ast.Index v k) p = All-cons IsProperNode (ast.Index v k) (nodes v ++ nodes k) tt (All-append IsProperNode (nodes v) (nodes k) (of_parts v p.0) (of_parts k p.1))
  of_parts (ast.Cond t a b) p =
      All-cons IsProperNode (ast.Cond t a b) (nodes a ++ (nodes t ++ nodes b)) tt
      (All-append IsProperNode (nodes a) (nodes t ++ nodes b) (of_parts a p.1) (All-append IsProperNode (nodes t) (nodes b) (of_parts t p.0) (of_parts b p.2)))
  of_parts (ast.Slice v from to) p =
      All-cons IsProperNode (ast.Slice v from to) (nodes v ++ (end_nodes from ++ end_nodes to)) tt
      (All-append IsProperNode (nodes v) (end_nodes from ++ end_nodes to) (of_parts v p.0) (All-append IsProperNode (end_nodes from) (end_nodes to) (of_end_parts from p.1) (of_end_parts to p.2)))
  of_parts (ast.Call f es) p = All-cons IsProperNode (ast.Call f es) (all_nodes es) p.0 (of_all_parts es p.1)

  of_all_parts : (es : Terms) → HaveProperParts es → All IsProperNode (all_nodes es)
  of_all_parts no_terms p = All-nil IsProperNode
  of_all_parts (term_and e es) p = All-append IsProperNode (nodes e) (all_nodes es) (of_parts e p.0) (of_all_parts es p.1)

  pub of_end_parts : (e : MaybeTerm) → EndHasProperParts e → IsProperEnd e
  of_end_parts no_term p = All-nil IsProperNode
  of_end_parts (a_term e) p = of_parts e p
