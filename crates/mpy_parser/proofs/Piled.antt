-- Lines that nest as blocks are put together as those blocks.
use Rattle.std.proofs.Common.{◌≡◌, ℕ, ◌<◌, ◌≤◌, Bool, true, false, nat_lt, ◌==◌, inl, inr, List, [], ◌∷◌, ◌++◌, Option, None, refl, sym, ◌∙◌, ap, subst, arith, append_assoc, lt-ltb, le-ltb, eq-eqb, ne_eqb, eqb-true}
use Rattle.std.proofs.lemmas.List.{map-append}
use Rattle.mpy_tree.specs.Syntax.{Term, Statement, at, Action, Block, end, step, MaybeBlock, no_block, a_block, Branch, arm, Branches, no_arms, arm_and, Routine}
use Rattle.mpy_tree.specs.Syntax as ast
use Rattle.mpy_parser.specs.declared.entries.Entry.{Entry}
use Rattle.mpy_parser.specs.Items.{Opening, function, when, else_when, otherwise, while, for_each, headed}
use Rattle.mpy_parser.specs.Nesting.{ItemLine, item_line, IsBlock, IsBody, AreArms, AreRoutines, no_lines, a_simple, a_loop, an_each, a_test, behind_colon, below, no_more, an_elif, an_else, no_routines, a_routine}
use Rattle.mpy_parser.specs.Views.{line_of, lines_of}
use Rattle.mpy_parser.specs.Piles.{Waiting, waiting, Heap, heap, group_at, behind_group, body_at, behind_body, with_statement, with_if, with_arm, with_else, with_header, with_item, with_line, with_lines}
use Rattle.mpy_parser.proofs.Falls.{either}

pub with_lines-append : (xs ys : List ItemLine) (h : Heap) → with_lines (xs ++ ys) h ≡ with_lines xs (with_lines ys h)
with_lines-append [] ys h = refl
with_lines-append (x ∷ xs) ys h = ap (with_line x) (with_lines-append xs ys h)

-- the last line is put first
pub last_line : (es fs : List Entry) (e : Entry) (h : Heap) → es ≡ fs ++ e ∷ [] → with_lines (lines_of es) h ≡ with_lines (lines_of fs) (with_line (line_of e) h)
last_line es fs e h p = ap (λ l. with_lines (lines_of l) h) p ∙ ap (λ l. with_lines l h) (map-append line_of fs (e ∷ [])) ∙ with_lines-append (lines_of fs) (line_of e ∷ []) h

-- what is nearest is less deep than the column
abbrev Under : ℕ → List Waiting → Type 0
Under c [] = Unit {0}
Under c (g ∷ gs) = g.column < c

-- or not deeper
abbrev NotAbove : ℕ → List Waiting → Type 0
NotAbove c [] = Unit {0}
NotAbove c (g ∷ gs) = g.column ≤ c

-- the group of the column, before what waited and what was made
record Stands (c : ℕ) (b : Block) (arms : Branches) (last : MaybeBlock) (h : Heap) (s : List Waiting) (m : List Routine) : Type 0 where
  group : group_at c h.groups ≡ waiting c b arms last
  behind : behind_group c h.groups ≡ s
  made : h.made ≡ m

absurd_less : (c : ℕ) (g : Waiting) → g.column < c → g.column ≡ c → ⊥
absurd_less c g h e = omega arith

other_column : (c : ℕ) (g : Waiting) → g.column < c → (g.column == c) ≡ false
other_column c g h = ne_eqb g.column c (absurd_less c g h)

no_group : (c : ℕ) (s : List Waiting) (m : List Routine) → Under c s → Stands c end no_arms no_block (heap s m) s m
no_group c [] m u = record { group = refl; behind = refl; made = refl }
no_group c (g ∷ gs) m u = let e = other_column c g u in record { group = rw e refl; behind = rw e refl; made = refl }

-- a group that is put in front
group_put : (c : ℕ) (b : Block) (arms : Branches) (last : MaybeBlock) (gs s : List Waiting) (k m : List Routine) → gs ≡ s → k ≡ m → Stands c b arms last (heap (waiting c b arms last ∷ gs) k) s m
group_put c b arms last gs s k m e f = let t : (c == c) ≡ true = eq-eqb c c refl in record { group = rw t refl; behind = rw t e; made = f }

statement_put : (c : ℕ) (b : Block) (arms : Branches) (last : MaybeBlock) (h : Heap) (s : List Waiting) (m : List Routine) (st : Statement) → Stands c b arms last h s m → Stands c (step st b) no_arms no_block (heap (with_statement c st h.groups) h.made) s m
statement_put c b arms last h s m st p = subst (λ w. Stands c (step st w.body) no_arms no_block (heap (waiting c (step st (group_at c h.groups).body) no_arms no_block ∷ behind_group c h.groups) h.made) s m) p.group
    (group_put c (step st (group_at c h.groups).body) no_arms no_block (behind_group c h.groups) s h.made m p.behind p.made)

test_put : (c line : ℕ) (e : Term) (body b : Block) (arms : Branches) (last : MaybeBlock) (h : Heap) (s : List Waiting) (m : List Routine) → Stands c b arms last h s m → Stands c (step (at line (ast.If (arm_and (arm line e body) arms) last)) b) no_arms no_block (heap (with_if c line e body h.groups) h.made) s m
test_put c line e body b arms last h s m p = subst (λ w. Stands c (step (at line (ast.If (arm_and (arm line e body) w.arms) w.last)) b) no_arms no_block (heap (with_if c line e body h.groups) h.made) s m) p.group
    (statement_put c b arms last h s m (at line (ast.If (arm_and (arm line e body) (group_at c h.groups).arms) (group_at c h.groups).last)) p)

arm_put : (c : ℕ) (a : Branch) (b : Block) (arms : Branches) (last : MaybeBlock) (h : Heap) (s : List Waiting) (m : List Routine) → Stands c b arms last h s m → Stands c b (arm_and a arms) last (heap (with_arm c a h.groups) h.made) s m
arm_put c a b arms last h s m p = subst (λ w. Stands c w.body (arm_and a w.arms) w.last (heap (with_arm c a h.groups) h.made) s m) p.group
    (group_put c (group_at c h.groups).body (arm_and a (group_at c h.groups).arms) (group_at c h.groups).last (behind_group c h.groups) s h.made m p.behind p.made)

else_put : (c : ℕ) (a b : Block) (arms : Branches) (last : MaybeBlock) (h : Heap) (s : List Waiting) (m : List Routine) → Stands c b arms last h s m → Stands c b no_arms (a_block a) (heap (with_else c a h.groups) h.made) s m
else_put c a b arms last h s m p = subst (λ w. Stands c w.body no_arms (a_block a) (heap (with_else c a h.groups) h.made) s m) p.group
    (group_put c (group_at c h.groups).body no_arms (a_block a) (behind_group c h.groups) s h.made m p.behind p.made)

-- nothing deeper waits then
not_above : (c : ℕ) (gs s : List Waiting) → behind_group c gs ≡ s → Under c s → NotAbove c gs
not_above c [] s e u = tt
not_above c (g ∷ gs) s e u = elim (either (g.column == c)) [
  | inl t ↦ (let q : g.column ≡ c = eqb-true g.column c t in omega arith)
  | inr f ↦ (let q : g ∷ gs ≡ s = rw f at e in let v : Under c (g ∷ gs) = subst (Under c) (sym q) u in omega arith)
]

-- what stands deeper is what a header takes
record Taken (c line : ℕ) (m : Option Action) (body : Block) (h k : Heap) : Type 0 where
  taken : body_at c line m h.groups ≡ body
  left : behind_body c m h.groups ≡ k.groups
  made : h.made ≡ k.made

taken_deeper : (c line d : ℕ) (b : Block) (gs : List Waiting) (ms : List Routine) (k : Heap) → c < d → NotAbove c k.groups → Stands d b no_arms no_block (heap gs ms) k.groups k.made → Taken c line None b (heap gs ms) k
taken_deeper c line d b [] ms k l n p = record { taken = ap (λ w. w.body) p.group; left = p.behind; made = p.made }
taken_deeper c line d b (g ∷ gs) ms k l n p = elim (either (g.column == d)) [
  | inl t ↦ (let e : g ≡ waiting d b no_arms no_block = rw t at p.group in
      let q : gs ≡ k.groups = rw t at p.behind in
      let v : nat_lt c g.column ≡ true = lt-ltb c g.column (omega (arith, eqb-true g.column d t)) in
      record { taken = rw v (ap (λ w. w.body) e); left = rw v q; made = p.made })
  | inr f ↦ (let e : waiting d end no_arms no_block ≡ waiting d b no_arms no_block = rw f at p.group in
      let q : g ∷ gs ≡ k.groups = rw f at p.behind in
      let u : NotAbove c (g ∷ gs) = subst (NotAbove c) (sym q) n in
      let v : nat_lt c g.column ≡ false = le-ltb c g.column u in
      record { taken = rw v (ap (λ w. w.body) e); left = rw v q; made = p.made })
]

-- a header with its body
header_put : (c line : ℕ) (o : Opening) (m : Option Action) (body : Block) (h k : Heap) → Taken c line m body h k → with_item line c (headed o m) h ≡ with_header line c o body k
header_put c line o m body h k t = ap (λ b. with_header line c o b (heap (behind_body c m h.groups) h.made)) t.taken
    ∙ ap (λ gs. with_header line c o body (heap gs h.made)) t.left
    ∙ ap (λ ms. with_header line c o body (heap k.groups ms)) t.made

-- a header, its body and the lines below it
below_header : (c line : ℕ) (o : Opening) (m : Option Action) (body : Block) (inner rest : List ItemLine) (h : Heap) → Taken c line m body (with_lines inner (with_lines rest h)) (with_lines rest h) → with_lines (item_line line c (headed o m) ∷ inner ++ rest) h ≡ with_header line c o body (with_lines rest h)
below_header c line o m body inner rest h t = ap (with_item line c (headed o m)) (with_lines-append inner rest h) ∙ header_put c line o m body (with_lines inner (with_lines rest h)) (with_lines rest h) t

under_deeper : (c d : ℕ) (gs : List Waiting) → c < d → NotAbove c gs → Under d gs
under_deeper c d [] l n = tt
under_deeper c d (g ∷ gs) l n = omega arith

mutual
  block_put : {loop : Bool} {c : ℕ} {ls : List ItemLine} {b : Block} → IsBlock loop c ls b → (s : List Waiting) (m : List Routine) → Under c s → Stands c b no_arms no_block (with_lines ls (heap s m)) s m
  block_put {c = c} no_lines s m u = no_group c s m u
  block_put {c = c} (a_simple {line = line} {act} {rest} {b} may d) s m u = statement_put c b no_arms no_block (with_lines rest (heap s m)) s m (at line act) (block_put d s m u)
  block_put {c = c} (a_loop {line = line} {e} {m = mm} {inner} {rest} {body} {b} i d) s m u =
      let p : Stands c b no_arms no_block (with_lines rest (heap s m)) s m = block_put d s m u in
      let q = below_header c line (while e) mm body inner rest (heap s m) (body_put i (with_lines rest (heap s m)) (not_above c (with_lines rest (heap s m)).groups s p.behind u)) in
      subst (λ h. Stands c (step (at line (ast.While e body)) b) no_arms no_block h s m) (sym q) (statement_put c b no_arms no_block (with_lines rest (heap s m)) s m (at line (ast.While e body)) p)
  block_put {c = c} (an_each {line = line} {x} {e} {m = mm} {inner} {rest} {body} {b} i d) s m u =
      let p : Stands c b no_arms no_block (with_lines rest (heap s m)) s m = block_put d s m u in
      let q = below_header c line (for_each x e) mm body inner rest (heap s m) (body_put i (with_lines rest (heap s m)) (not_above c (with_lines rest (heap s m)).groups s p.behind u)) in
      subst (λ h. Stands c (step (at line (ast.For x e body)) b) no_arms no_block h s m) (sym q) (statement_put c b no_arms no_block (with_lines rest (heap s m)) s m (at line (ast.For x e body)) p)
  block_put {c = c} (a_test {line = line} {e} {m = mm} {inner} {others} {rest} {body} {b} {arms} {last} i a d) s m u =
      let k : Heap = with_lines others (with_lines rest (heap s m)) in
      let p : Stands c b arms last k s m = arms_put a b (with_lines rest (heap s m)) s m u (block_put d s m u) in
      let w : with_lines (others ++ rest) (heap s m) ≡ k = with_lines-append others rest (heap s m) in
      let t : Taken c line mm body (with_lines inner k) k = body_put i k (not_above c k.groups s p.behind u) in
      let q = below_header c line (when e) mm body inner (others ++ rest) (heap s m) (subst (λ h. Taken c line mm body (with_lines inner h) h) (sym w) t) ∙ ap (with_header line c (when e) body) w in
      subst (λ l. Stands c (step (at line (ast.If (arm_and (arm line e body) arms) last)) b) no_arms no_block (with_lines (item_line line c (headed (when e) mm) ∷ l) (heap s m)) s m) (sym (append_assoc inner others rest))
      (subst (λ h. Stands c (step (at line (ast.If (arm_and (arm line e body) arms) last)) b) no_arms no_block h s m) (sym q) (test_put c line e body b arms last k s m p))

  body_put : {loop : Bool} {c line : ℕ} {m : Option Action} {inner : List ItemLine} {body : Block} → IsBody loop c line m inner body → (k : Heap) → NotAbove c k.groups → Taken c line m body (with_lines inner k) k
  body_put (behind_colon may) k n = record { taken = refl; left = refl; made = refl }
  body_put {c = c} {line = line} (below d {first} {lines} {b} l i) k n = taken_deeper c line d b (with_lines (first ∷ lines) k).groups (with_lines (first ∷ lines) k).made k l n (block_put i k.groups k.made (under_deeper c d k.groups l n))

  arms_put : {loop : Bool} {c : ℕ} {others : List ItemLine} {arms : Branches} {last : MaybeBlock} → AreArms loop c others arms last → (b : Block) (h : Heap) (s : List Waiting) (m : List Routine) → Under c s → Stands c b no_arms no_block h s m → Stands c b arms last (with_lines others h) s m
  arms_put no_more b h s m u p = p
  arms_put {c = c} (an_elif {line = line} {e} {m = mm} {inner} {others} {body} {arms} {last} i a) b h s m u p =
      let r : Stands c b arms last (with_lines others h) s m = arms_put a b h s m u p in
      let q = below_header c line (else_when e) mm body inner others h (body_put i (with_lines others h) (not_above c (with_lines others h).groups s r.behind u)) in
      subst (λ k. Stands c b (arm_and (arm line e body) arms) last k s m) (sym q) (arm_put c (arm line e body) b arms last (with_lines others h) s m r)
  arms_put {c = c} (an_else {line = line} {m = mm} {inner} {body} i) b h s m u p =
      let q = header_put c line otherwise mm body (with_lines inner h) h (body_put i h (not_above c h.groups s p.behind u)) in
      subst (λ k. Stands c b no_arms (a_block body) k s m) (sym q) (else_put c body b no_arms no_block h s m p)

-- the functions of a program are put together from its lines
pub routines_put : {ls : List ItemLine} {rs : List Routine} → AreRoutines ls rs → with_lines ls (heap [] []) ≡ heap [] rs
routines_put no_routines = refl
routines_put (a_routine {line} {f} {params} {m = mm} {inner} {rest} {body} {rs} i d) =
    let w = routines_put d in
    let t : Taken 0 line mm body (with_lines inner (heap [] rs)) (heap [] rs) = body_put i (heap [] rs) tt in
    below_header 0 line (function f params) mm body inner rest (heap [] []) (subst (λ h. Taken 0 line mm body (with_lines inner h) h) (sym w) t) ∙ ap (with_header line 0 (function f params) body) w

-- lines nest as the functions of one program at most
pub one_program : (ls : List ItemLine) (rs qs : List Routine) → AreRoutines ls rs → AreRoutines ls qs → rs ≡ qs
one_program ls rs qs d e = ap (λ h. h.made) (sym (routines_put d) ∙ routines_put e)
