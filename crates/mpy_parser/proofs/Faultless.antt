-- None of the lines of a program is at fault.
use Rattle.std.proofs.Common.{◌≡◌, ℕ, ◌<◌, ◌≤◌, Bool, true, false, not, ◌&&◌, ◌||◌, ◌==◌, nat_lt, inl, inr, List, [], ◌∷◌, ◌++◌, Option, None, refl, sym, ◌∙◌, ap, subst, arith, append_assoc, ltb-true, ltb-false, lt-ltb, le-ltb, eq-eqb, ne_eqb, eqb-true}
use Rattle.mpy_tree.specs.Syntax.{Action, Block, MaybeBlock, Branches, Routine}
use Rattle.mpy_tree.specs.Syntax as ast
use Rattle.mpy_parser.specs.Items.{Opening, function, when, else_when, otherwise, while, for_each, LineItem, simple, headed}
use Rattle.mpy_parser.specs.Nesting.{ItemLine, item_line, MayStand, IsBlock, IsBody, AreArms, AreRoutines, no_lines, a_simple, a_loop, an_each, a_test, behind_colon, below, no_more, an_elif, an_else, no_routines, a_routine}
use Rattle.mpy_parser.specs.Faults.{returns_to, is_indent_fault, is_open, is_arm, is_loop, goes_on_arm, is_function, leaves_turn, leaves, has_deeper, is_stray, follows_arm, in_loop}
use Rattle.mpy_parser.proofs.Falls.{either}
use Rattle.mpy_parser.proofs.Fine.{columns, Fine, is_misplaced, onto, AllFrom, AllDeeper, AtColumn, deep_from, in_loop_onto, follows_onto, follows_own}
use Rattle.mpy_parser.proofs.Nests.{no_loop}

-- the lines of a block stand at its column, or deeper
from_both : (c : ℕ) (xs ys : List ItemLine) → AllFrom c xs → AllFrom c ys → AllFrom c (xs ++ ys)
from_both c [] ys h k = k
from_both c (x ∷ xs) ys h k = (h.0, from_both c xs ys h.1 k)

deeper_still : (c d : ℕ) (ls : List ItemLine) → c < d → AllFrom d ls → AllDeeper c ls
deeper_still c d [] l h = tt
deeper_still c d (x ∷ xs) l h = let k = h.0 in (omega arith, deeper_still c d xs l h.1)

own : (c : ℕ) → c ≤ c
own c = omega arith

mutual
  block_from : {loop : Bool} {c : ℕ} {ls : List ItemLine} {b : Block} → IsBlock loop c ls b → AllFrom c ls
  block_from no_lines = tt
  block_from {c = c} (a_simple may d) = (own c, block_from d)
  block_from {c = c} (a_loop {inner = inner} {rest} i d) = (own c, from_both c inner rest (deep_from c inner (body_deep i)) (block_from d))
  block_from {c = c} (an_each {inner = inner} {rest} i d) = (own c, from_both c inner rest (deep_from c inner (body_deep i)) (block_from d))
  block_from {c = c} (a_test {inner = inner} {others} {rest} i a d) = (own c, from_both c (inner ++ others) rest (from_both c inner others (deep_from c inner (body_deep i)) (arms_from a)) (block_from d))

  body_deep : {loop : Bool} {c line : ℕ} {m : Option Action} {inner : List ItemLine} {body : Block} → IsBody loop c line m inner body → AllDeeper c inner
  body_deep (behind_colon may) = tt
  body_deep {c = c} (below d {first} {lines} l i) = deeper_still c d (first ∷ lines) l (block_from i)

  arms_from : {loop : Bool} {c : ℕ} {others : List ItemLine} {arms : Branches} {last : MaybeBlock} → AreArms loop c others arms last → AllFrom c others
  arms_from no_more = tt
  arms_from {c = c} (an_elif {inner = inner} {others} i a) = (own c, from_both c inner others (deep_from c inner (body_deep i)) (arms_from a))
  arms_from {c = c} (an_else {inner = inner} i) = (own c, deep_from c inner (body_deep i))

block_at : {loop : Bool} {c : ℕ} {ls : List ItemLine} {b : Block} → IsBlock loop c ls b → AtColumn c ls
block_at no_lines = tt
block_at (a_simple may d) = refl
block_at (a_loop i d) = refl
block_at (an_each i d) = refl
block_at (a_test i a d) = refl

-- lines that are fine stay so before others
open_before : (o : Bool) (d : ℕ) (xs ys : List ItemLine) → (o && not (has_deeper d xs)) ≡ false → (o && not (has_deeper d (xs ++ ys))) ≡ false
open_before o d (x ∷ xs) ys h = h
open_before false d [] ys h = refl
open_before true d [] ys h = absurd cc

both_fine : (before xs ys : List ItemLine) → Fine before xs → Fine (onto xs before) ys → Fine before (xs ++ ys)
both_fine before [] ys h k = k
both_fine before (x ∷ xs) ys h k = (record { indent = h.0.indent; stray = h.0.stray; body = open_before (is_open x.item) x.column xs ys h.0.body; arm = h.0.arm; kind = h.0.kind; turn = h.0.turn }, both_fine (x ∷ before) xs ys h.1 k)

-- a line may stand at that column there
record Enters (c : ℕ) (before : List ItemLine) : Type 0 where
  indent : is_indent_fault c (columns before) ≡ false
  stray : is_stray c before ≡ false

and_false : (a : Bool) → (a && false) ≡ false
and_false true = refl
and_false false = refl

enters : (c : ℕ) (before : List ItemLine) → returns_to c (columns before) ≡ true → Enters c before
enters c [] h = absurd cc
enters c (p ∷ ps) h = elim (either (nat_lt c p.column)) [
  | inl t ↦ (let r : returns_to c (columns ps) ≡ true = rw t at h in
      let u : nat_lt p.column c ≡ false = le-ltb p.column c (omega (arith, ltb-true c p.column t)) in
      record { indent = rw r (and_false (nat_lt c p.column)); stray = rw u refl })
  | inr f ↦ (let e : (c == p.column) ≡ true = rw f at h in
      let u : nat_lt p.column c ≡ false = le-ltb p.column c (omega (arith, eqb-true c p.column e)) in
      record { indent = rw f refl; stray = rw u refl })
]

returns_own : (line c : ℕ) (item : LineItem) (before : List ItemLine) → returns_to c (columns (item_line line c item ∷ before)) ≡ true
returns_own line c item before = let u : nat_lt c c ≡ false = le-ltb c c (omega arith) in let e : (c == c) ≡ true = eq-eqb c c refl in rw (u, e) refl

returns_onto : (c : ℕ) (xs before : List ItemLine) → AllFrom c xs → returns_to c (columns before) ≡ true → returns_to c (columns (onto xs before)) ≡ true
returns_onto c [] before h r = r
returns_onto c (x ∷ xs) before h r = returns_onto c xs (x ∷ before) h.1 (elim (either (nat_lt c x.column)) [
  | inl t ↦ rw t r
  | inr f ↦ (let e : (c == x.column) ≡ true = eq-eqb c x.column (omega (arith, ltb-false c x.column f, h.0)) in rw (f, e) refl)
])

may_leave : (loop : Bool) (act : Action) → MayStand loop act → (leaves_turn act && not loop) ≡ false
may_leave true act h = and_false (leaves_turn act)
may_leave false ast.Break h = elim h [ ]
may_leave false ast.Continue h = elim h [ ]
may_leave false (ast.Assign x e) h = refl
may_leave false (ast.Augment x op e) h = refl
may_leave false (ast.Put x i e) h = refl
may_leave false (ast.AugmentAt x i op e) h = refl
may_leave false (ast.Append x e) h = refl
may_leave false (ast.Print e) h = refl
may_leave false (ast.Return e) h = refl
may_leave false ast.Pass h = refl
may_leave false (ast.If arms last) h = refl
may_leave false (ast.While e b) h = refl
may_leave false (ast.For x e b) h = refl

placed : (line c : ℕ) (item : LineItem) → 0 < c → is_function item ≡ false → is_misplaced (item_line line c item) ≡ false
placed line c item z h = let e : (c == 0) ≡ false = ne_eqb c 0 (λ w. omega arith) in rw (e, h) refl

-- a header is fine where its body is
record IsHeaded (line c : ℕ) (h : Opening) (m : Option Action) (before inner : List ItemLine) : Type 0 where
  body : (is_open (headed h m) && not (has_deeper c inner)) ≡ false
  turn : (leaves (headed h m) && not (is_loop (headed h m) || in_loop c before)) ≡ false
  inside : Fine (item_line line c (headed h m) ∷ before) inner

header_fine : (line c : ℕ) (h : Opening) (m : Option Action) (before inner : List ItemLine) → IsHeaded line c h m before inner → Enters c before → (goes_on_arm (headed h m) && not (follows_arm c before)) ≡ false → is_misplaced (item_line line c (headed h m)) ≡ false → Fine before (item_line line c (headed h m) ∷ inner)
header_fine line c h m before inner p e a k = (record { indent = e.indent; stray = e.stray; body = p.body; arm = a; kind = k; turn = p.turn }, p.inside)

-- what a header and its body leave as it was
returns_below : (line c : ℕ) (item : LineItem) (before inner : List ItemLine) → AllDeeper c inner → returns_to c (columns (onto inner (item_line line c item ∷ before))) ≡ true
returns_below line c item before inner d = returns_onto c inner (item_line line c item ∷ before) (deep_from c inner d) (returns_own line c item before)

loop_below : (line c : ℕ) (item : LineItem) (before inner : List ItemLine) → AllDeeper c inner → in_loop c (onto inner (item_line line c item ∷ before)) ≡ in_loop c before
loop_below line c item before inner d = in_loop_onto c (item_line line c item ∷ inner) before (own c, deep_from c inner d)

arm_below : (line c : ℕ) (item : LineItem) (before inner : List ItemLine) → AllDeeper c inner → follows_arm c (onto inner (item_line line c item ∷ before)) ≡ is_arm item
arm_below line c item before inner d = follows_onto c inner (item_line line c item ∷ before) d ∙ follows_own line c item before

follows_not : (c : ℕ) (before : List ItemLine) → follows_arm c before ≡ true → (true && not (follows_arm c before)) ≡ false
follows_not c before h = rw h refl

mutual
  block_fine : {loop : Bool} {c : ℕ} {ls : List ItemLine} {b : Block} → IsBlock loop c ls b → (before : List ItemLine) → 0 < c → Enters c before → in_loop c before ≡ loop → Fine before ls
  block_fine no_lines before z e t = tt
  block_fine {loop = loop} {c = c} (a_simple {line = line} {act} {rest} may d) before z e t = (
    record { indent = e.indent; stray = e.stray; body = refl; arm = refl; kind = placed line c (simple act) z refl; turn = subst (λ b. (leaves_turn act && not b) ≡ false) (sym t) (may_leave loop act may) },
    block_fine d (item_line line c (simple act) ∷ before) z (enters c (item_line line c (simple act) ∷ before) (returns_own line c (simple act) before)) (loop_below line c (simple act) before [] tt ∙ t),
  )
  block_fine {c = c} (a_loop {line = line} {e = test} {m = m} {inner} {rest} i d) before z e t =
      let l : ItemLine = item_line line c (headed (while test) m) in
      let k : AllDeeper c inner = body_deep i in
      both_fine before (l ∷ inner) rest
      (header_fine line c (while test) m before inner (body_fine i (while test) before refl) e refl (placed line c (headed (while test) m) z refl))
      (block_fine d (onto inner (l ∷ before)) z (enters c (onto inner (l ∷ before)) (returns_below line c (headed (while test) m) before inner k)) (loop_below line c (headed (while test) m) before inner k ∙ t))
  block_fine {c = c} (an_each {line = line} {x} {e = over} {m = m} {inner} {rest} i d) before z e t =
      let l : ItemLine = item_line line c (headed (for_each x over) m) in
      let k : AllDeeper c inner = body_deep i in
      both_fine before (l ∷ inner) rest
      (header_fine line c (for_each x over) m before inner (body_fine i (for_each x over) before refl) e refl (placed line c (headed (for_each x over) m) z refl))
      (block_fine d (onto inner (l ∷ before)) z (enters c (onto inner (l ∷ before)) (returns_below line c (headed (for_each x over) m) before inner k)) (loop_below line c (headed (for_each x over) m) before inner k ∙ t))
  block_fine {c = c} (a_test {line = line} {e = test} {m = m} {inner} {others} {rest} i a d) before z e t =
      let l : ItemLine = item_line line c (headed (when test) m) in
      let k : AllDeeper c inner = body_deep i in
      let below_l : List ItemLine = onto inner (l ∷ before) in
      let r : returns_to c (columns below_l) ≡ true = returns_below line c (headed (when test) m) before inner k in
      let s : in_loop c below_l ≡ in_loop c before = loop_below line c (headed (when test) m) before inner k in
      let first : Fine before (l ∷ inner) = header_fine line c (when test) m before inner (body_fine i (when test) before (sym t)) e refl (placed line c (headed (when test) m) z refl) in
      let second : Fine below_l others = arms_fine a below_l z r (s ∙ t) (arm_below line c (headed (when test) m) before inner k) in
      let third : Fine (onto others below_l) rest = block_fine d (onto others below_l) z (enters c (onto others below_l) (returns_onto c others below_l (arms_from a) r)) (in_loop_onto c others below_l (arms_from a) ∙ s ∙ t) in
      subst (λ y. Fine before (l ∷ y)) (sym (append_assoc inner others rest)) (both_fine before (l ∷ inner) (others ++ rest) first (both_fine below_l others rest second third))

  body_fine : {loop : Bool} {c line : ℕ} {m : Option Action} {inner : List ItemLine} {body : Block} → IsBody loop c line m inner body → (h : Opening) (before : List ItemLine) → loop ≡ (is_loop (headed h m) || in_loop c before) → IsHeaded line c h m before inner
  body_fine {loop = loop} (behind_colon {act = act} may) h before t = record { body = refl; turn = subst (λ b. (leaves_turn act && not b) ≡ false) t (may_leave loop act may); inside = tt }
  body_fine {c = c} {line = line} (below d {first} {lines} l i) h before t =
      let own_line : ItemLine = item_line line c (headed h None) in
      let up : nat_lt c d ≡ true = lt-ltb c d l in
      let down : nat_lt d c ≡ false = le-ltb d c (omega arith) in
      let first_up : nat_lt c first.column ≡ true = ap (nat_lt c) (block_at i) ∙ up in
      record {
        body = rw first_up refl;
        turn = refl;
        inside = block_fine i (own_line ∷ before) (omega arith) (record { indent = rw down refl; stray = rw up refl }) (rw up (sym t));
      }

  arms_fine : {loop : Bool} {c : ℕ} {others : List ItemLine} {arms : Branches} {last : MaybeBlock} → AreArms loop c others arms last → (before : List ItemLine) → 0 < c → returns_to c (columns before) ≡ true → in_loop c before ≡ loop → follows_arm c before ≡ true → Fine before others
  arms_fine no_more before z r t f = tt
  arms_fine {c = c} (an_elif {line = line} {e = test} {m = m} {inner} {others} i a) before z r t f =
      let l : ItemLine = item_line line c (headed (else_when test) m) in
      let k : AllDeeper c inner = body_deep i in
      both_fine before (l ∷ inner) others
      (header_fine line c (else_when test) m before inner (body_fine i (else_when test) before (sym t)) (enters c before r) (follows_not c before f) (placed line c (headed (else_when test) m) z refl))
      (arms_fine a (onto inner (l ∷ before)) z (returns_below line c (headed (else_when test) m) before inner k) (loop_below line c (headed (else_when test) m) before inner k ∙ t) (arm_below line c (headed (else_when test) m) before inner k))
  arms_fine {c = c} (an_else {line = line} {m = m} {inner} i) before z r t f =
      header_fine line c otherwise m before inner (body_fine i otherwise before (sym t)) (enters c before r) (follows_not c before f) (placed line c (headed otherwise m) z refl)

routines_fine : {ls : List ItemLine} {rs : List Routine} → AreRoutines ls rs → (before : List ItemLine) → Enters 0 before → Fine before ls
routines_fine no_routines before e = tt
routines_fine (a_routine {line} {f} {params} {m = m} {inner} {rest} i d) before e =
    let l : ItemLine = item_line line 0 (headed (function f params) m) in
    both_fine before (l ∷ inner) rest
    (header_fine line 0 (function f params) m before inner (body_fine i (function f params) before (sym (no_loop before))) e refl refl)
    (routines_fine d (onto inner (l ∷ before)) (enters 0 (onto inner (l ∷ before)) (returns_below line 0 (headed (function f params) m) before inner (body_deep i))))

pub program_fine : (ls : List ItemLine) (rs : List Routine) → AreRoutines ls rs → Fine [] ls
program_fine ls rs d = routines_fine d [] (record { indent = refl; stray = refl })
