-- The logical lines of a printed program nest as its functions.
use Rattle.std.proofs.Common.{◌≡◌, ℕ, suc, ◌+◌, ◌*◌, Bool, true, false, List, [], ◌∷◌, ◌++◌, map, codes, None, refl, ap, sym, ◌∙◌, subst, append_assoc, arith}
use Rattle.std.proofs.lemmas.List.Elements.{All-head, All-tail}
use Rattle.mpy_tree.specs.Syntax.{no_term, a_term, at, Action, Block, end, step, MaybeBlock, no_block, a_block, arm, Branches, no_arms, arm_and, Routine}
use Rattle.mpy_tree.specs.Syntax as ast
use Rattle.mpy_tree.specs.Equality.{block_without_lines, action_without_lines, arms_without_lines, else_without_lines, without_lines}
use Rattle.mpy_lexer.specs.declared.line.Line.{Line}
use Rattle.mpy_expressions.specs.declared.words.Word.TheVariants as word
use Rattle.mpy_expressions.specs.declared.terminals.Terminal.TheVariants as terminal
use Rattle.mpy_expressions.specs.Terminals.{word_of}
use Rattle.mpy_parser.specs.Items.{function, when, else_when, otherwise, while, for_each, LineItem, simple, headed, SpellsItem, a_statement, a_header, give_nothing, pass, leave, again, an_if, a_while, a_for, open_body, an_elif as elif_header, an_else as else_header}
use Rattle.mpy_parser.specs.Nesting.{ItemLine, item_line, MayStand, IsBlock, IsBody, AreArms, AreRoutines, no_lines, a_simple, a_loop, an_each, a_test, below, no_more, an_elif, an_else, no_routines, a_routine, routine}
use Rattle.mpy_parser.specs.Programs.{AreItems}
use Rattle.mpy_round_trip.proofs.ProperForms.{IsProperBlock, IsProperAction, AreProperArms, IsProperElse, IsProperRoutine, AreProper, HasStatement}
use Rattle.mpy_round_trip.proofs.Scraps.{Scrap, Printed, AreLinesOf, an_empty_line, a_line, no_lines as no_lines_of}
use Rattle.mpy_round_trip.proofs.printing.ProgramLines.{printed, block_lines, action_lines, arms_lines, else_lines, routine_lines, printed_lines}
use Rattle.mpy_round_trip.proofs.printing.TermSpelling.{terminals_in, terminals_of_tokens}
use Rattle.mpy_round_trip.proofs.printing.ItemSpelling.{assignment, augmentation, assignment_at, augmentation_at, appending, printing, returning, header, definition}

-- The first of the logical lines are items, and the others are the lines of what is printed further.
record Taken (ps : List Printed) (ls : List Line) (own : List ItemLine) : Type 0 where
  number : ℕ
  rest : List Line
  lines : AreLinesOf number ps rest
  spell : (is : List ItemLine) → AreItems rest is → AreItems ls (own ++ is)

abbrev taken_then : (qs ps : List Printed) (ls : List Line) (xs ys : List ItemLine) (t : Taken qs ls xs) → Taken ps t.rest ys → Taken ps ls (xs ++ ys)
taken_then qs ps ls xs ys t u = record {
  number = u.number;
  rest = u.rest;
  lines = u.lines;
  spell = λ is h. subst (AreItems ls) (sym (append_assoc xs ys is)) (t.spell (ys ++ is) (u.spell is h));
}

nothing_taken : (n : ℕ) (ps : List Printed) (ls : List Line) → AreLinesOf n ps ls → Taken ps ls []
nothing_taken n ps ls h = record { number = n; rest = ls; lines = h; spell = λ is k. k }

one_taken : (n d : ℕ) (s : Scrap) (ss : List Scrap) (ps : List Printed) (ls : List Line) (item : LineItem) → SpellsItem (terminals_in (s ∷ ss)) item → AreLinesOf n (printed d (s ∷ ss) ∷ ps) ls → Taken ps ls (item_line n (4 * d) item ∷ [])
one_taken n d s ss ps ls item spells (a_line {l = l} {ls = rest} is more) = record {
  number = n + 1;
  rest = rest;
  lines = more;
  spell = λ is_rest h. (record { line = sym is.line; column = sym is.column; item = subst (λ ts. SpellsItem ts item) (sym (terminals_of_tokens l.tokens (s ∷ ss) is.tokens)) spells }, h);
}

record IsBlockRead (loop : Bool) (d : ℕ) (b : Block) (ps : List Printed) (ls : List Line) : Type 0 where
  own : List ItemLine
  block : Block
  taken : Taken ps ls own
  nested : IsBlock loop (4 * d) own block
  same : block_without_lines block ≡ block_without_lines b
  some : HasStatement b → (first : ItemLine) × (more : List ItemLine) × (own ≡ first ∷ more)

record IsActionRead (loop : Bool) (d : ℕ) (act : Action) (ps : List Printed) (ls : List Line) : Type 0 where
  first : ItemLine
  more : List ItemLine
  line : ℕ
  action : Action
  taken : Taken ps ls (first ∷ more)
  nested : (rest : List ItemLine) (b : Block) → IsBlock loop (4 * d) rest b → IsBlock loop (4 * d) (first ∷ more ++ rest) (step (at line action) b)
  same : action_without_lines action ≡ action_without_lines act

record IsElseRead (loop : Bool) (d : ℕ) (last : MaybeBlock) (ps : List Printed) (ls : List Line) : Type 0 where
  own : List ItemLine
  last_read : MaybeBlock
  taken : Taken ps ls own
  nested : AreArms loop (4 * d) own no_arms last_read
  same : else_without_lines last_read ≡ else_without_lines last

record AreArmsRead (loop : Bool) (d : ℕ) (arms : Branches) (last : MaybeBlock) (ps : List Printed) (ls : List Line) : Type 0 where
  own : List ItemLine
  arms_read : Branches
  last_read : MaybeBlock
  taken : Taken ps ls own
  nested : AreArms loop (4 * d) own arms_read last_read
  same_arms : arms_without_lines arms_read ≡ arms_without_lines arms
  same_last : else_without_lines last_read ≡ else_without_lines last

body_below : (loop : Bool) (d line : ℕ) (b : Block) (ps : List Printed) (ls : List Line) (r : IsBlockRead loop (suc d) b ps ls) → HasStatement b → IsBody loop (4 * d) line None r.own r.block
body_below loop d line b ps ls r h =
    let s = r.some h in
    subst (λ own. IsBody loop (4 * d) line None own r.block) (sym s.2) (below (4 * suc d) {first = s.0} {lines = s.1} {b = r.block} (omega arith) (subst (λ own. IsBlock loop (4 * suc d) own r.block) s.2 r.nested))

anywhere : (loop : Bool) (act : Action) → MayStand false act → MayStand loop act
anywhere true act h = tt
anywhere false act h = h

simple_read : (loop : Bool) (n d : ℕ) (act : Action) (s : Scrap) (ss : List Scrap) (ps : List Printed) (ls : List Line) → MayStand loop act → SpellsItem (terminals_in (s ∷ ss)) (simple act) → AreLinesOf n (printed d (s ∷ ss) ∷ ps) ls → IsActionRead loop d act ps ls
simple_read loop n d act s ss ps ls may spells h = record {
  first = item_line n (4 * d) (simple act);
  more = [];
  line = n;
  action = act;
  taken = one_taken n d s ss ps ls (simple act) spells h;
  nested = λ rest b k. a_simple may k;
  same = refl;
}

mutual
  unfolding word_of

  block_read : (loop : Bool) (d : ℕ) (b : Block) (ps : List Printed) (n : ℕ) (ls : List Line) → IsProperBlock loop b → AreLinesOf n (block_lines d b ps) ls → IsBlockRead loop d b ps ls
  block_read loop d end ps n ls p h = record { own = []; block = end; taken = nothing_taken n ps ls h; nested = no_lines; same = refl; some = λ k. absurd k }
  block_read loop d (step (at line act) rest) ps n ls p h =
      let a = action_read loop d act (block_lines d rest ps) n ls p.0 h in
      let b = block_read loop d rest ps a.taken.number a.taken.rest p.1 a.taken.lines in
      record {
        own = a.first ∷ a.more ++ b.own;
        block = step (at a.line a.action) b.block;
        taken = taken_then (block_lines d rest ps) ps ls (a.first ∷ a.more) b.own a.taken b.taken;
        nested = a.nested b.own b.block b.nested;
        same = ap (λ x. step (at 0 x) (block_without_lines b.block)) a.same ∙ ap (λ x. step (at 0 (action_without_lines act)) x) b.same;
        some = λ k. (a.first, a.more ++ b.own, refl);
      }

  action_read : (loop : Bool) (d : ℕ) (act : Action) (ps : List Printed) (n : ℕ) (ls : List Line) → IsProperAction loop act → AreLinesOf n (action_lines d act ps) ls → IsActionRead loop d act ps ls
  action_read loop d (ast.Assign x e) ps n ls p h = simple_read loop n d (ast.Assign x e) _ _ ps ls (anywhere loop (ast.Assign x e) tt) (assignment x e p.1) h
  action_read loop d (ast.Augment x op e) ps n ls p h = simple_read loop n d (ast.Augment x op e) _ _ ps ls (anywhere loop (ast.Augment x op e) tt) (augmentation x op e p.1 p.2) h
  action_read loop d (ast.Put x i e) ps n ls p h = simple_read loop n d (ast.Put x i e) _ _ ps ls (anywhere loop (ast.Put x i e) tt) (assignment_at x i e p.1 p.2) h
  action_read loop d (ast.AugmentAt x i op e) ps n ls p h = simple_read loop n d (ast.AugmentAt x i op e) _ _ ps ls (anywhere loop (ast.AugmentAt x i op e) tt) (augmentation_at x i op e p.1 p.2 p.3) h
  action_read loop d (ast.Append x e) ps n ls p h = simple_read loop n d (ast.Append x e) _ _ ps ls (anywhere loop (ast.Append x e) tt) (appending x e p.1) h
  action_read loop d (ast.Print e) ps n ls p h = simple_read loop n d (ast.Print e) _ _ ps ls (anywhere loop (ast.Print e) tt) (printing e p) h
  action_read loop d (ast.Return no_term) ps n ls p h = simple_read loop n d (ast.Return no_term) _ _ ps ls (anywhere loop (ast.Return no_term) tt) (a_statement give_nothing) h
  action_read loop d (ast.Return (a_term e)) ps n ls p h = simple_read loop n d (ast.Return (a_term e)) _ _ ps ls (anywhere loop (ast.Return (a_term e)) tt) (returning e p) h
  action_read loop d ast.Pass ps n ls p h = simple_read loop n d ast.Pass _ _ ps ls (anywhere loop ast.Pass tt) (a_statement pass) h
  action_read loop d ast.Break ps n ls p h = simple_read loop n d ast.Break _ _ ps ls p (a_statement leave) h
  action_read loop d ast.Continue ps n ls p h = simple_read loop n d ast.Continue _ _ ps ls p (a_statement again) h
  action_read loop d (ast.If no_arms last) ps n ls p h = absurd p.0
  action_read loop d (ast.If (arm_and (arm line e body) rest) last) ps n ls p h =
      let qs = arms_lines d (codes "elif") rest (else_lines d last ps) in
      let t = one_taken n d _ _ (block_lines (suc d) body qs) ls (headed (when e) None) (header (terminal.Word word.If ∷ []) e (when e) (λ ts s. an_if s) p.1.0) h in
      let b = block_read loop (suc d) body qs t.number t.rest p.1.1.1 t.lines in
      let o = arms_read loop d rest last ps (λ m ms k. else_read loop d last ps m ms p.2 k) b.taken.number b.taken.rest p.1.2 b.taken.lines in
      let inner = taken_then (block_lines (suc d) body qs) qs ls (item_line n (4 * d) (headed (when e) None) ∷ []) b.own t b.taken in
      record {
        first = item_line n (4 * d) (headed (when e) None);
        more = b.own ++ o.own;
        line = n;
        action = ast.If (arm_and (arm n e b.block) o.arms_read) o.last_read;
        taken = taken_then qs ps ls (item_line n (4 * d) (headed (when e) None) ∷ b.own) o.own inner o.taken;
        nested = λ more k blk. a_test (body_below loop d n body qs t.rest b p.1.1.0) o.nested blk;
        same = ap (λ x. ast.If (arm_and (arm 0 e x) (arms_without_lines o.arms_read)) (else_without_lines o.last_read)) b.same ∙ ap (λ x. ast.If (arm_and (arm 0 e (block_without_lines body)) x) (else_without_lines o.last_read)) o.same_arms ∙ ap (λ x. ast.If (arm_and (arm 0 e (block_without_lines body)) (arms_without_lines rest)) x) o.same_last;
      }
  action_read loop d (ast.While e body) ps n ls p h =
      let t = one_taken n d _ _ (block_lines (suc d) body ps) ls (headed (while e) None) (header (terminal.Word word.While ∷ []) e (while e) (λ ts s. a_while s) p.0) h in
      let b = block_read true (suc d) body ps t.number t.rest p.1.1 t.lines in
      record {
        first = item_line n (4 * d) (headed (while e) None);
        more = b.own;
        line = n;
        action = ast.While e b.block;
        taken = taken_then (block_lines (suc d) body ps) ps ls (item_line n (4 * d) (headed (while e) None) ∷ []) b.own t b.taken;
        nested = λ rest k blk. a_loop (body_below true d n body ps t.rest b p.1.0) blk;
        same = ap (ast.While e) b.same;
      }
  action_read loop d (ast.For x e body) ps n ls p h =
      let t = one_taken n d _ _ (block_lines (suc d) body ps) ls (headed (for_each x e) None) (header (terminal.Word word.For ∷ terminal.Name x ∷ terminal.Word word.In ∷ []) e (for_each x e) (λ ts s. a_for x s) p.1) h in
      let b = block_read true (suc d) body ps t.number t.rest p.2.1 t.lines in
      record {
        first = item_line n (4 * d) (headed (for_each x e) None);
        more = b.own;
        line = n;
        action = ast.For x e b.block;
        taken = taken_then (block_lines (suc d) body ps) ps ls (item_line n (4 * d) (headed (for_each x e) None) ∷ []) b.own t b.taken;
        nested = λ rest k blk. an_each (body_below true d n body ps t.rest b p.2.0) blk;
        same = ap (ast.For x e) b.same;
      }

  arms_read : (loop : Bool) (d : ℕ) (arms : Branches) (last : MaybeBlock) (ps : List Printed) → ((n : ℕ) (ls : List Line) → AreLinesOf n (else_lines d last ps) ls → IsElseRead loop d last ps ls) → (n : ℕ) (ls : List Line) → AreProperArms loop arms → AreLinesOf n (arms_lines d (codes "elif") arms (else_lines d last ps)) ls → AreArmsRead loop d arms last ps ls
  arms_read loop d no_arms last ps others n ls p h =
      let o = others n ls h in
      record { own = o.own; arms_read = no_arms; last_read = o.last_read; taken = o.taken; nested = o.nested; same_arms = refl; same_last = o.same }
  arms_read loop d (arm_and (arm line e body) rest) last ps others n ls p h =
      let qs = arms_lines d (codes "elif") rest (else_lines d last ps) in
      let t = one_taken n d _ _ (block_lines (suc d) body qs) ls (headed (else_when e) None) (header (terminal.Word word.Elif ∷ []) e (else_when e) (λ ts s. elif_header s) p.0) h in
      let b = block_read loop (suc d) body qs t.number t.rest p.1.1 t.lines in
      let o = arms_read loop d rest last ps others b.taken.number b.taken.rest p.2 b.taken.lines in
      let inner = taken_then (block_lines (suc d) body qs) qs ls (item_line n (4 * d) (headed (else_when e) None) ∷ []) b.own t b.taken in
      record {
        own = item_line n (4 * d) (headed (else_when e) None) ∷ b.own ++ o.own;
        arms_read = arm_and (arm n e b.block) o.arms_read;
        last_read = o.last_read;
        taken = taken_then qs ps ls (item_line n (4 * d) (headed (else_when e) None) ∷ b.own) o.own inner o.taken;
        nested = an_elif (body_below loop d n body qs t.rest b p.1.0) o.nested;
        same_arms = ap (λ x. arm_and (arm 0 e x) (arms_without_lines o.arms_read)) b.same ∙ ap (λ x. arm_and (arm 0 e (block_without_lines body)) x) o.same_arms;
        same_last = o.same_last;
      }

  else_read : (loop : Bool) (d : ℕ) (last : MaybeBlock) (ps : List Printed) (n : ℕ) (ls : List Line) → IsProperElse loop last → AreLinesOf n (else_lines d last ps) ls → IsElseRead loop d last ps ls
  else_read loop d no_block ps n ls p h = record { own = []; last_read = no_block; taken = nothing_taken n ps ls h; nested = no_more; same = refl }
  else_read loop d (a_block body) ps n ls p h =
      let t = one_taken n d _ _ (block_lines (suc d) body ps) ls (headed otherwise None) (a_header else_header open_body) h in
      let b = block_read loop (suc d) body ps t.number t.rest p.1 t.lines in
      record {
        own = item_line n (4 * d) (headed otherwise None) ∷ b.own;
        last_read = a_block b.block;
        taken = taken_then (block_lines (suc d) body ps) ps ls (item_line n (4 * d) (headed otherwise None) ∷ []) b.own t b.taken;
        nested = an_else (body_below loop d n body ps t.rest b p.0);
        same = ap a_block b.same;
      }

record IsRoutineRead (r : Routine) (ps : List Printed) (ls : List Line) : Type 0 where
  own : List ItemLine
  routine_read : Routine
  taken : Taken ps ls own
  nested : (rest : List ItemLine) (rs : List Routine) → AreRoutines rest rs → AreRoutines (own ++ rest) (routine_read ∷ rs)
  same : without_lines routine_read ≡ without_lines r

one_routine : (r : Routine) (ps : List Printed) (n : ℕ) (ls : List Line) → IsProperRoutine r → AreLinesOf n (routine_lines r ps) ls → IsRoutineRead r ps ls
one_routine r ps n ls p h =
    let first = item_line n 0 (headed (function r.name r.params) None) in
    let t = one_taken n 0 _ _ (block_lines 1 r.body ps) ls (headed (function r.name r.params) None) (definition r.name r.params) h in
    let b = block_read false 1 r.body ps t.number t.rest p.body.1 t.lines in
    record {
      own = first ∷ b.own;
      routine_read = routine n r.name r.params b.block;
      taken = taken_then (block_lines 1 r.body ps) ps ls (first ∷ []) b.own t b.taken;
      nested = λ rest rs k. a_routine (body_below false 0 n r.body ps t.rest b p.body.0) k;
      same = ap (routine 0 r.name r.params) b.same;
    }

-- the lines are items, and the items functions that differ from these in their lines alone
pub record AreReadAs (rs : List Routine) (ls : List Line) : Type 0 where
  pub items : List ItemLine
  pub routines : List Routine
  pub spelled : AreItems ls items
  pub nested : AreRoutines items routines
  pub same : map without_lines routines ≡ map without_lines rs

all_taken : (n : ℕ) (ls : List Line) → AreLinesOf n [] ls → AreItems ls []
all_taken n ls no_lines_of = tt

behind_empty : (n d : ℕ) (ps : List Printed) (ls : List Line) → AreLinesOf n (printed d [] ∷ ps) ls → AreLinesOf (n + 1) ps ls
behind_empty n d ps ls (an_empty_line h) = h

pub printed_nesting : (rs : List Routine) → AreProper rs → (n : ℕ) (ls : List Line) → AreLinesOf n (printed_lines rs) ls → AreReadAs rs ls
printed_nesting [] p n ls h = record { items = []; routines = []; spelled = all_taken n ls h; nested = no_routines; same = refl }
printed_nesting (r ∷ []) p n ls h =
    let o = one_routine r [] n ls (All-head IsProperRoutine r [] p) h in
    record {
      items = o.own ++ [];
      routines = o.routine_read ∷ [];
      spelled = o.taken.spell [] (all_taken o.taken.number o.taken.rest o.taken.lines);
      nested = o.nested [] [] no_routines;
      same = ap (λ x. x ∷ []) o.same;
    }
printed_nesting (r ∷ s ∷ rest) p n ls h =
    let o = one_routine r (printed 0 [] ∷ printed_lines (s ∷ rest)) n ls (All-head IsProperRoutine r (s ∷ rest) p) h in
    let k = printed_nesting (s ∷ rest) (All-tail IsProperRoutine r (s ∷ rest) p) (o.taken.number + 1) o.taken.rest (behind_empty o.taken.number 0 (printed_lines (s ∷ rest)) o.taken.rest o.taken.lines) in
    record {
      items = o.own ++ k.items;
      routines = o.routine_read ∷ k.routines;
      spelled = o.taken.spell k.items k.spelled;
      nested = o.nested k.items k.routines k.nested;
      same = ap (λ x. x ∷ map without_lines k.routines) o.same ∙ ap (λ x. without_lines r ∷ x) k.same;
    }
