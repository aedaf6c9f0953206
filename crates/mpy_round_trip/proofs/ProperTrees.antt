-- A program's tree is proper exactly where the program is, form by form.
use Rattle.std.proofs.Common.{◌≡◌, ℕ, Bool, true, false, refl, List, [], ◌∷◌}
use Rattle.std.proofs.lemmas.List.Elements.{All-nil, All-cons, All-head, All-tail}
use Rattle.mpy_tree.specs.Syntax.{Term, Terms, MaybeTerm, no_terms, term_and, no_term, a_term, at}
use Rattle.mpy_tree.specs.Syntax.{Action, Block, end, step, MaybeBlock, no_block, a_block, arm}
use Rattle.mpy_tree.specs.Syntax.{Branches, no_arms, arm_and, Routine}
use Rattle.mpy_tree.specs.Syntax as ast
use Rattle.mpy_tree.specs.Trees.{Trees, no_trees}
use Rattle.mpy_tree.specs.Shapes.{shape, shapes, shape_and, action_shape, statement_shapes, block_shape}
use Rattle.mpy_tree.specs.Shapes.{last_shapes, arms_shapes, routine_shapes}
use Rattle.mpy_parser.specs.Nesting.{MayStand}
use Rattle.mpy_round_trip.specs.Proper.{BeginsWithArm, IsProperTree, AreProperTrees, IsProper}
use Rattle.mpy_round_trip.proofs.ProperForms.{IsProperTerm, HasArm}
use Rattle.mpy_round_trip.proofs.ProperForms.{IsProperBlock, IsProperAction, AreProperArms, IsProperElse}
use Rattle.mpy_round_trip.proofs.ProperForms.{IsProperBody, IsProperRoutine, AreProper}
use Rattle.mpy_round_trip.proofs.ProperParts.{HasProperParts, HaveProperParts, EndHasProperParts}
use Rattle.mpy_round_trip.proofs.ProperParts.{parts_of, parts_of_end, of_parts, of_end_parts}

-- terms, from their trees
mutual
  parts_in : (loop : Bool) (e : Term) → IsProperTree loop (shape e) → HasProperParts e
  parts_in loop (ast.Int n) p = p.0
  parts_in loop (ast.Bool b) p = tt
  parts_in loop (ast.Text cs) p = p.0
  parts_in loop (ast.Name x) p = p.0
  parts_in loop (ast.List es) p = all_parts_in loop es p.1
  parts_in loop (ast.Neg e) p = parts_in loop e p.1.0
  parts_in loop (ast.Not e) p = parts_in loop e p.1.0
  parts_in loop (ast.Arith op a b) p = (parts_in loop a p.1.0, parts_in loop b p.1.1.0)
  parts_in loop (ast.Cmp op a b) p = (parts_in loop a p.1.0, parts_in loop b p.1.1.0)
  parts_in loop (ast.And a b) p = (parts_in loop a p.1.0, parts_in loop b p.1.1.0)
  parts_in loop (ast.Or a b) p = (parts_in loop a p.1.0, parts_in loop b p.1.1.0)
  parts_in loop (ast.Index a b) p = (parts_in loop a p.1.0, parts_in loop b p.1.1.0)
  parts_in loop (ast.Cond t a b) p = (parts_in loop t p.1.1.0, parts_in loop a p.1.0, parts_in loop b p.1.1.1.0)
  parts_in loop (ast.Slice v from to) p =
      let ends = end_parts_in loop from (shape_and to no_trees) p.1.1 in
      (parts_in loop v p.1.0, ends.0, (end_parts_in loop to no_trees ends.1).0)
  parts_in loop (ast.Call f es) p = (p.0, all_parts_in loop es p.1)

  all_parts_in : (loop : Bool) (es : Terms) → AreProperTrees loop (shapes es) → HaveProperParts es
  all_parts_in loop no_terms p = tt
  all_parts_in loop (term_and e es) p = (parts_in loop e p.0, all_parts_in loop es p.1)

  end_parts_in : (loop : Bool) (e : MaybeTerm) (ts : Trees) → AreProperTrees loop (shape_and e ts) → EndHasProperParts e × AreProperTrees loop ts
  end_parts_in loop no_term ts p = (tt, p)
  end_parts_in loop (a_term e) ts p = (parts_in loop e p.0, p.1)

-- and to their trees
mutual
  from_parts : (loop : Bool) (e : Term) → HasProperParts e → IsProperTree loop (shape e)
  from_parts loop (ast.Int n) p = (p, tt)
  from_parts loop (ast.Bool b) p = (tt, tt)
  from_parts loop (ast.Text cs) p = (p, tt)
  from_parts loop (ast.Name x) p = (p, tt)
  from_parts loop (ast.List es) p = (tt, from_all_parts loop es p)
  from_parts loop (ast.Neg e) p = (tt, (from_parts loop e p, tt))
  from_parts loop (ast.Not e) p = (tt, (from_parts loop e p, tt))
  from_parts loop (ast.Arith op a b) p = (tt, (from_parts loop a p.0, (from_parts loop b p.1, tt)))
  from_parts loop (ast.Cmp op a b) p = (tt, (from_parts loop a p.0, (from_parts loop b p.1, tt)))
  from_parts loop (ast.And a b) p = (tt, (from_parts loop a p.0, (from_parts loop b p.1, tt)))
  from_parts loop (ast.Or a b) p = (tt, (from_parts loop a p.0, (from_parts loop b p.1, tt)))
  from_parts loop (ast.Index a b) p = (tt, (from_parts loop a p.0, (from_parts loop b p.1, tt)))
  from_parts loop (ast.Cond t a b) p = (tt, (from_parts loop a p.1, (from_parts loop t p.0, (from_parts loop b p.2, tt))))
  from_parts loop (ast.Slice v from to) p =
      (tt, (from_parts loop v p.0, from_end_parts loop from (shape_and to no_trees) p.1 (from_end_parts loop to no_trees p.2 tt)))
  from_parts loop (ast.Call f es) p = (p.0, from_all_parts loop es p.1)

  from_all_parts : (loop : Bool) (es : Terms) → HaveProperParts es → AreProperTrees loop (shapes es)
  from_all_parts loop no_terms p = tt
  from_all_parts loop (term_and e es) p = (from_parts loop e p.0, from_all_parts loop es p.1)

  from_end_parts : (loop : Bool) (e : MaybeTerm) (ts : Trees) → EndHasProperParts e → AreProperTrees loop ts → AreProperTrees loop (shape_and e ts)
  from_end_parts loop no_term ts p q = q
  from_end_parts loop (a_term e) ts p q = (from_parts loop e p, q)

term_in : (loop : Bool) (e : Term) → IsProperTree loop (shape e) → IsProperTerm e
term_in loop e p = of_parts e (parts_in loop e p)

from_term : (loop : Bool) (e : Term) → IsProperTerm e → IsProperTree loop (shape e)
from_term loop e p = from_parts loop e (parts_of e p)

has_arm : (arms : Branches) (last : MaybeBlock) → BeginsWithArm (arms_shapes arms (last_shapes last)) → HasArm arms
has_arm no_arms no_block p = p
has_arm no_arms (a_block body) p = p
has_arm (arm_and (arm line e body) rest) last p = tt

begins : (arms : Branches) (last : MaybeBlock) → HasArm arms → BeginsWithArm (arms_shapes arms (last_shapes last))
begins no_arms last p = absurd p
begins (arm_and (arm line e body) rest) last p = tt

break_in : (loop : Bool) → loop ≡ true → MayStand loop ast.Break
break_in true p = tt
break_in false p = absurd (cc)

continue_in : (loop : Bool) → loop ≡ true → MayStand loop ast.Continue
continue_in true p = tt
continue_in false p = absurd (cc)

from_break : (loop : Bool) → MayStand loop ast.Break → loop ≡ true
from_break true p = refl
from_break false p = absurd p

from_continue : (loop : Bool) → MayStand loop ast.Continue → loop ≡ true
from_continue true p = refl
from_continue false p = absurd p

-- statements, from their trees
mutual
  block_in : (loop : Bool) (b : Block) → AreProperTrees loop (statement_shapes b) → IsProperBlock loop b
  block_in loop end p = tt
  block_in loop (step (at line act) rest) p = (action_in loop line act p.0, block_in loop rest p.1)

  body_in : (loop : Bool) (b : Block) → IsProperTree loop (block_shape b) → IsProperBody loop b
  body_in loop end p = absurd p.0
  body_in loop (step (at line act) rest) p = (tt, (action_in loop line act p.1.0, block_in loop rest p.1.1))

  action_in : (loop : Bool) (line : ℕ) (act : Action) → IsProperTree loop (action_shape act line) → IsProperAction loop act
  action_in loop line (ast.Assign x e) p = (p.0, term_in loop e p.1.0)
  action_in loop line (ast.Augment x op e) p = (p.0.0, p.0.1, term_in loop e p.1.0)
  action_in loop line (ast.Put x i e) p = (p.0, term_in loop i p.1.0, term_in loop e p.1.1.0)
  action_in loop line (ast.AugmentAt x i op e) p = (p.0.0, term_in loop i p.1.0, p.0.1, term_in loop e p.1.1.0)
  action_in loop line (ast.Append x e) p = (p.0, term_in loop e p.1.0)
  action_in loop line (ast.Print e) p = term_in loop e p.1.0
  action_in loop line (ast.Return e) p = of_end_parts e (end_parts_in loop e no_trees p.1).0
  action_in loop line ast.Pass p = tt
  action_in loop line ast.Break p = break_in loop p.0
  action_in loop line ast.Continue p = continue_in loop p.0
  action_in loop line (ast.If arms last) p =
      let both = arms_in loop arms (last_shapes last) p.1 in
      (has_arm arms last p.0, both.0, last_in loop last both.1)
  action_in loop line (ast.While e body) p = (term_in true e p.1.0, body_in true body p.1.1.0)
  action_in loop line (ast.For x e body) p = (p.0, term_in true e p.1.0, body_in true body p.1.1.0)

  arms_in : (loop : Bool) (arms : Branches) (ts : Trees) → AreProperTrees loop (arms_shapes arms ts) → AreProperArms loop arms × AreProperTrees loop ts
  arms_in loop no_arms ts p = (tt, p)
  arms_in loop (arm_and (arm line e body) rest) ts p =
      let more = arms_in loop rest ts p.1 in
      ((term_in loop e p.0.1.0, body_in loop body p.0.1.1.0, more.0), more.1)

  last_in : (loop : Bool) (last : MaybeBlock) → AreProperTrees loop (last_shapes last) → IsProperElse loop last
  last_in loop no_block p = tt
  last_in loop (a_block body) p = body_in loop body p.0

-- and to their trees
mutual
  from_block : (loop : Bool) (b : Block) → IsProperBlock loop b → AreProperTrees loop (statement_shapes b)
  from_block loop end p = tt
  from_block loop (step (at line act) rest) p = (from_action loop line act p.0, from_block loop rest p.1)

  from_body : (loop : Bool) (b : Block) → IsProperBody loop b → IsProperTree loop (block_shape b)
  from_body loop end p = absurd p.0
  from_body loop (step (at line act) rest) p = (tt, (from_action loop line act p.1.0, from_block loop rest p.1.1))

  from_action : (loop : Bool) (line : ℕ) (act : Action) → IsProperAction loop act → IsProperTree loop (action_shape act line)
  from_action loop line (ast.Assign x e) p = (p.0, (from_term loop e p.1, tt))
  from_action loop line (ast.Augment x op e) p = ((p.0, p.1), (from_term loop e p.2, tt))
  from_action loop line (ast.Put x i e) p = (p.0, (from_term loop i p.1, (from_term loop e p.2, tt)))
  from_action loop line (ast.AugmentAt x i op e) p = ((p.0, p.2), (from_term loop i p.1, (from_term loop e p.3, tt)))
  from_action loop line (ast.Append x e) p = (p.0, (from_term loop e p.1, tt))
  from_action loop line (ast.Print e) p = (tt, (from_term loop e p, tt))
  from_action loop line (ast.Return e) p = (tt, from_end_parts loop e no_trees (parts_of_end e p) tt)
  from_action loop line ast.Pass p = (tt, tt)
  from_action loop line ast.Break p = (from_break loop p, tt)
  from_action loop line ast.Continue p = (from_continue loop p, tt)
  from_action loop line (ast.If arms last) p = (begins arms last p.0, from_arms loop arms (last_shapes last) p.1 (from_last loop last p.2))
  from_action loop line (ast.While e body) p = (tt, (from_term true e p.0, (from_body true body p.1, tt)))
  from_action loop line (ast.For x e body) p = (p.0, (from_term true e p.1, (from_body true body p.2, tt)))

  from_arms : (loop : Bool) (arms : Branches) (ts : Trees) → AreProperArms loop arms → AreProperTrees loop ts → AreProperTrees loop (arms_shapes arms ts)
  from_arms loop no_arms ts p q = q
  from_arms loop (arm_and (arm line e body) rest) ts p q =
      ((tt, (from_term loop e p.0, (from_body loop body p.1, tt))), from_arms loop rest ts p.2 q)

  from_last : (loop : Bool) (last : MaybeBlock) → IsProperElse loop last → AreProperTrees loop (last_shapes last)
  from_last loop no_block p = tt
  from_last loop (a_block body) p = (from_body loop body p, tt)

-- programs
forms_of_routines : (rs : List Routine) → AreProperTrees false (routine_shapes rs) → AreProper rs
forms_of_routines [] p = All-nil IsProperRoutine
forms_of_routines (r ∷ rs) p =
    All-cons IsProperRoutine r rs
    (record { name = p.0.0.0; params = p.0.0.1; body = body_in false r.body p.0.1.0 })
    (forms_of_routines rs p.1)

trees_of_routines : (rs : List Routine) → AreProper rs → AreProperTrees false (routine_shapes rs)
trees_of_routines [] p = tt
trees_of_routines (r ∷ rs) p =
    let first = All-head IsProperRoutine r rs p in
    (((first.name, first.params), (from_body false r.body first.body, tt)), trees_of_routines rs (All-tail IsProperRoutine r rs p))

pub forms_of_program : (rs : List Routine) → IsProper rs → AreProper rs
forms_of_program rs p = forms_of_routines rs p.1

pub trees_of_program : (rs : List Routine) → AreProper rs → IsProper rs
trees_of_program rs p = (tt, trees_of_routines rs p)
