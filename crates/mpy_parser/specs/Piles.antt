-- A program put together from its lines, the last line first.
use Rattle.std.specs.Prelude.{ℕ, ◌==◌, nat_lt, List, [], ◌∷◌, map, Option, Some, None}
use Rattle.std.specs.Prelude.{if◌then◌else◌}
use Rattle.mpy_tree.specs.Syntax.{Term, Statement, at, Action, Block, end, step, MaybeBlock}
use Rattle.mpy_tree.specs.Syntax.{no_block, a_block, Branch, arm, Branches, no_arms, arm_and}
use Rattle.mpy_tree.specs.Syntax.{Routine}
use Rattle.mpy_tree.specs.Syntax as ast
use Rattle.mpy_tree.specs.View.{statement_of, branch_of, block, branches, block_or_none, routine_of}
use Rattle.mpy_parser.specs.declared.piles.Group.{Group}
use Rattle.mpy_parser.specs.declared.piles.Pile.{Pile}
use Rattle.mpy_parser.specs.Items.{Opening, function, when, else_when, otherwise, while, for_each}
use Rattle.mpy_parser.specs.Items.{LineItem, simple, headed}
use Rattle.mpy_parser.specs.Nesting.{ItemLine, routine}

-- the statements of one column that no header has taken yet, and the arms before them, which go on
-- with an `if` that is still to come
pub record Waiting : Type 0 where
  pub column : ℕ
  pub body : Block
  pub arms : Branches
  pub last : MaybeBlock

abbrev pub waiting : ℕ → Block → Branches → MaybeBlock → Waiting
waiting c body arms last = record { column = c; body = body; arms = arms; last = last }

-- what waits, the nearest first, and the functions that are done
pub record Heap : Type 0 where
  pub groups : List Waiting
  pub made : List Routine

abbrev pub heap : List Waiting → List Routine → Heap
heap groups made = record { groups = groups; made = made }

-- the group of a column if it is nearest, or an empty one
abbrev pub group_at : ℕ → List Waiting → Waiting
group_at c [] = waiting c end no_arms no_block
group_at c (g ∷ gs) = if g.column == c then g else waiting c end no_arms no_block

abbrev pub behind_group : ℕ → List Waiting → List Waiting
behind_group c [] = []
behind_group c (g ∷ gs) = if g.column == c then gs else g ∷ gs

-- what waits deeper than a column
abbrev pub deeper_body : ℕ → List Waiting → Block
deeper_body c [] = end
deeper_body c (g ∷ gs) = if nat_lt c g.column then g.body else end

abbrev pub behind_deeper : ℕ → List Waiting → List Waiting
behind_deeper c [] = []
behind_deeper c (g ∷ gs) = if nat_lt c g.column then gs else g ∷ gs

-- the body of a header: the statement behind its colon, or what waits deeper
abbrev pub body_at : ℕ → ℕ → Option Action → List Waiting → Block
body_at c line None gs = deeper_body c gs
body_at c line (Some act) gs = step (at line act) end

abbrev pub behind_body : ℕ → Option Action → List Waiting → List Waiting
behind_body c None gs = behind_deeper c gs
behind_body c (Some act) gs = gs

abbrev pub with_statement : ℕ → Statement → List Waiting → List Waiting
with_statement c s gs = waiting c (step s (group_at c gs).body) no_arms no_block ∷ behind_group c gs

abbrev pub with_if : ℕ → ℕ → Term → Block → List Waiting → List Waiting
with_if c line e b gs =
    with_statement c
    (at line (ast.If (arm_and (arm line e b) (group_at c gs).arms) (group_at c gs).last)) gs

abbrev pub with_arm : ℕ → Branch → List Waiting → List Waiting
with_arm c b gs =
    waiting c (group_at c gs).body (arm_and b (group_at c gs).arms) (group_at c gs).last
    ∷ behind_group c gs

abbrev pub with_else : ℕ → Block → List Waiting → List Waiting
with_else c b gs = waiting c (group_at c gs).body no_arms (a_block b) ∷ behind_group c gs

-- a header with its body
abbrev pub with_header : ℕ → ℕ → Opening → Block → Heap → Heap
with_header line c (function f params) b h = heap h.groups (routine line f params b ∷ h.made)
with_header line c (when e) b h = heap (with_if c line e b h.groups) h.made
with_header line c (else_when e) b h = heap (with_arm c (arm line e b) h.groups) h.made
with_header line c otherwise b h = heap (with_else c b h.groups) h.made
with_header line c (while e) b h = heap (with_statement c (at line (ast.While e b)) h.groups) h.made
with_header line c (for_each x e) b h =
    heap (with_statement c (at line (ast.For x e b)) h.groups) h.made

abbrev pub with_item : ℕ → ℕ → LineItem → Heap → Heap
with_item line c (simple act) h = heap (with_statement c (at line act) h.groups) h.made
with_item line c (headed o m) h =
    with_header line c o (body_at c line m h.groups) (heap (behind_body c m h.groups) h.made)

abbrev pub with_line : ItemLine → Heap → Heap
with_line l h = with_item l.line l.column l.item h

-- lines put before what waits, the last of them first
abbrev pub with_lines : List ItemLine → Heap → Heap
with_lines [] h = h
with_lines (l ∷ ls) h = with_line l (with_lines ls h)

abbrev pub group_of : Group → Waiting
group_of g =
    waiting g.column (block (map statement_of g.body))
    (branches (map branch_of g.arms)) (block_or_none g.last)

abbrev pub groups_of : List Group → List Waiting
groups_of gs = map group_of gs

abbrev pub heap_of : Pile → Heap
heap_of p = heap (groups_of p.groups) (map routine_of p.made)
