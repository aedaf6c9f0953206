-- Lines none of which is at fault nest as the functions of a program.
use Rattle.std.proofs.Common.{◌≡◌, ℕ, zero, suc, ◌+◌, ◌<◌, ◌≤◌, Bool, true, false, not, ◌&&◌, ◌||◌, ◌==◌, nat_lt, inl, inr, List, [], ◌∷◌, ◌++◌, length, Option, Some, None, refl, sym, ◌∙◌, ap, subst, arith, append_assoc, length-append, ltb-true, ltb-false, lt-ltb, le-ltb, ne_eqb}
use Rattle.mpy_tree.specs.Syntax.{at, Action, Block, end, step, MaybeBlock, no_block, a_block, arm, Branches, no_arms, arm_and, Routine}
use Rattle.mpy_tree.specs.Syntax as ast
use Rattle.mpy_parser.specs.Items.{Opening, function, when, else_when, otherwise, while, for_each, LineItem, simple, headed}
use Rattle.mpy_parser.specs.Nesting.{ItemLine, item_line, MayStand, IsBlock, IsBody, AreArms, AreRoutines, no_lines, a_simple, a_loop, an_each, a_test, behind_colon, below, no_more, an_elif, an_else, no_routines, a_routine, routine}
use Rattle.mpy_parser.specs.Faults.{returns_to, is_arm, is_loop, goes_on_arm, leaves_turn, follows_arm, in_loop}
use Rattle.mpy_parser.proofs.Falls.{either}
use Rattle.mpy_parser.proofs.Fine.{columns, Fine, onto, onto-append, AllFrom, AllDeeper, NotDeeper, AtColumn, deep_from, from_back, at_column, in_loop_onto, follows_onto, follows_own, front_fine, back_fine, Split, split}

no_truth : {A : Type 0} → true ≡ false → A
no_truth h = absurd cc

may_stand : (loop : Bool) (act : Action) → (leaves_turn act && not loop) ≡ false → MayStand loop act
may_stand true act h = tt
may_stand false ast.Break h = no_truth h
may_stand false ast.Continue h = no_truth h
may_stand false (ast.Assign x e) h = tt
may_stand false (ast.Augment x op e) h = tt
may_stand false (ast.Put x i e) h = tt
may_stand false (ast.AugmentAt x i op e) h = tt
may_stand false (ast.Append x e) h = tt
may_stand false (ast.Print e) h = tt
may_stand false (ast.Return e) h = tt
may_stand false ast.Pass h = tt
may_stand false (ast.If arms last) h = tt
may_stand false (ast.While e b) h = tt
may_stand false (ast.For x e b) h = tt

-- what follows no arm doesn't go on with one
goes_off : (a b : Bool) → (a && not b) ≡ false → b ≡ false → a ≡ false
goes_off true false h e = h
goes_off true true h e = e
goes_off false b h e = refl

-- lines from a column on, the first of them at it, below others
record Sited (loop : Bool) (c : ℕ) (before ls : List ItemLine) : Type 0 where
  from : AllFrom c ls
  at : AtColumn c ls
  fine : Fine before ls
  turns : in_loop c before ≡ loop

abbrev Begins : List ItemLine → Type 0
Begins [] = Unit {0}
Begins (l ∷ ls) = goes_on_arm l.item ≡ false

begins : (loop : Bool) (c : ℕ) (before ls : List ItemLine) → Sited loop c before ls → follows_arm c before ≡ false → Begins ls
begins loop c before [] h f = tt
begins loop c before (l ∷ ls) h f = goes_off (goes_on_arm l.item) (follows_arm l.column before) h.fine.0.arm (ap (λ d. follows_arm d before) h.at ∙ f)

-- lines that are no longer than that are statements
abbrev Blocks : ℕ → Type 0
Blocks n = (loop : Bool) (c : ℕ) (before ls : List ItemLine) → 0 < c → length ls ≤ n → Sited loop c before ls → Begins ls → (b : Block) × IsBlock loop c ls b

-- nothing falls between a header and the column of its body
floor : (c d : ℕ) (p : ItemLine) (before ys : List ItemLine) → d ≤ p.column → ((e : ℕ) → c < e → e < d → returns_to e (columns before) ≡ false) → AllDeeper c ys → Fine (p ∷ before) ys → AllFrom d ys
floor c d p before [] l r h f = tt
floor c d p before (y ∷ ys) l r h f =
    let here : d ≤ y.column = elim (either (nat_lt y.column d)) [
      | inl t ↦ (let lt : y.column < d = ltb-true y.column d t in
          let u : nat_lt y.column p.column ≡ true = lt-ltb y.column p.column (omega arith) in
          let v : returns_to y.column (columns before) ≡ false = r y.column h.0 lt in
          no_truth (rw (u, v) at f.0.indent))
      | inr g ↦ ltb-false y.column d g
    ] in
    (here, floor c d y (p ∷ before) ys here (λ e k m. let u : nat_lt e p.column ≡ true = lt-ltb e p.column (omega arith) in rw u (r e k m)) h.1 f.1)

body_read : (n : ℕ) → Blocks n → (loop : Bool) (line c : ℕ) (h : Opening) (m : Option Action) (before inner : List ItemLine) → length inner ≤ n → AllDeeper c inner → Fine before (item_line line c (headed h m) ∷ inner) → in_loop c before ≡ loop → (b : Block) × IsBody (is_loop (headed h m) || loop) c line m inner b
body_read n r loop line c h (Some act) before [] len deep f t =
    (step (at line act) end, behind_colon (may_stand (is_loop (headed h (Some act)) || loop) act (subst (λ b. (leaves_turn act && not (is_loop (headed h (Some act)) || b)) ≡ false) t f.0.turn)))
body_read n r loop line c h (Some act) before (x ∷ xs) len deep f t = let u : nat_lt c x.column ≡ true = lt-ltb c x.column deep.0 in no_truth (rw u at f.1.0.stray)
body_read n r loop line c h None before [] len deep f t = no_truth f.0.body
body_read n r loop line c h None before (x ∷ xs) len deep f t =
    let lt : c < x.column = deep.0 in
    let l : ItemLine = item_line line c (headed h None) in
    let up : nat_lt c x.column ≡ true = lt-ltb c x.column lt in
    let down : nat_lt x.column c ≡ false = le-ltb x.column c (omega arith) in
    let off : (c == x.column) ≡ false = ne_eqb c x.column (λ e. omega arith) in
    let gap : (e : ℕ) → c < e → e < x.column → returns_to e (c ∷ columns before) ≡ false = λ e k m. let a : nat_lt e c ≡ false = le-ltb e c (omega arith) in let b : (e == c) ≡ false = ne_eqb e c (λ q. omega arith) in rw (a, b) refl in
    let s : Sited (is_loop (headed h None) || loop) x.column (l ∷ before) (x ∷ xs) = record {
      from = (omega arith, floor c x.column x (l ∷ before) xs (omega arith) gap deep.1 f.1.1);
      at = refl;
      fine = f.1;
      turns = rw up (ap (λ b. is_loop (headed h None) || b) t);
    } in
    let k = r (is_loop (headed h None) || loop) x.column (l ∷ before) (x ∷ xs) (omega arith) len s (begins (is_loop (headed h None) || loop) x.column (l ∷ before) (x ∷ xs) s (rw (down, off) refl)) in
    (k.0, below x.column {b = k.0} lt k.1)

-- a header, the lines of its body, and the lines below them
record Cut (loop : Bool) (c : ℕ) (l : ItemLine) (before more : List ItemLine) : Type 0 where
  inner : List ItemLine
  others : List ItemLine
  whole : more ≡ inner ++ others
  deep : AllDeeper c inner
  fine : Fine before (l ∷ inner)
  next : Sited loop c (onto inner (l ∷ before)) others
  inner_len : length inner ≤ length more
  others_len : length others ≤ length more

cut : (loop : Bool) (line c : ℕ) (item : LineItem) (before more : List ItemLine) → Sited loop c before (item_line line c item ∷ more) → Cut loop c (item_line line c item) before more
cut loop line c item before more h =
    let l : ItemLine = item_line line c item in
    let s : Split c more = split c more in
    let f : Fine before (l ∷ s.inner ++ s.others) = subst (λ t. Fine before (l ∷ t)) s.whole h.fine in
    let from : AllFrom c s.others = from_back c s.inner s.others (subst (AllFrom c) s.whole h.from.1) in
    let own : c ≤ c = omega arith in
    let n : length more ≡ length s.inner + length s.others = ap length s.whole ∙ length-append s.inner s.others in
    record {
      inner = s.inner;
      others = s.others;
      whole = s.whole;
      deep = s.deep;
      fine = front_fine c before (l ∷ s.inner) s.others (own, deep_from c s.inner s.deep) s.rest f;
      next = record { from = from; at = at_column c s.others from s.rest; fine = back_fine (l ∷ before) s.inner s.others f.1; turns = in_loop_onto c (l ∷ s.inner) before (own, deep_from c s.inner s.deep) ∙ h.turns };
      inner_len = omega arith;
      others_len = omega arith;
    }

-- below a header that isn't an arm
cut_begins : (loop : Bool) (line c : ℕ) (item : LineItem) (before more : List ItemLine) (k : Cut loop c (item_line line c item) before more) → is_arm item ≡ false → Begins k.others
cut_begins loop line c item before more k e = begins loop c (onto k.inner (item_line line c item ∷ before)) k.others k.next (follows_onto c k.inner (item_line line c item ∷ before) k.deep ∙ follows_own line c item before ∙ e)

-- arms, and what is below them
record ArmsRead (loop : Bool) (c : ℕ) (before ls : List ItemLine) : Type 0 where
  others : List ItemLine
  rest : List ItemLine
  arms : Branches
  last : MaybeBlock
  whole : ls ≡ others ++ rest
  read : AreArms loop c others arms last
  next : Sited loop c (onto others before) rest
  begins : Begins rest

no_arm : (loop : Bool) (c : ℕ) (before ls : List ItemLine) → Sited loop c before ls → Begins ls → ArmsRead loop c before ls
no_arm loop c before ls h b = record { others = []; rest = ls; arms = no_arms; last = no_block; whole = refl; read = no_more; next = h; begins = b }

abbrev Arms : ℕ → ℕ → Type 0
Arms n k = (loop : Bool) (c : ℕ) (before ls : List ItemLine) → length ls ≤ k → length ls ≤ n → Sited loop c before ls → ArmsRead loop c before ls

arm_read : (n k : ℕ) → Blocks n → Arms n k → (loop : Bool) (line c : ℕ) (item : LineItem) (before more : List ItemLine) → length more ≤ k → length more ≤ n → Sited loop c before (item_line line c item ∷ more) → ArmsRead loop c before (item_line line c item ∷ more)
arm_read n k r a loop line c (simple act) before more p q h = no_arm loop c before (item_line line c (simple act) ∷ more) h refl
arm_read n k r a loop line c (headed (function f ps) m) before more p q h = no_arm loop c before (item_line line c (headed (function f ps) m) ∷ more) h refl
arm_read n k r a loop line c (headed (when e) m) before more p q h = no_arm loop c before (item_line line c (headed (when e) m) ∷ more) h refl
arm_read n k r a loop line c (headed (while e) m) before more p q h = no_arm loop c before (item_line line c (headed (while e) m) ∷ more) h refl
arm_read n k r a loop line c (headed (for_each x e) m) before more p q h = no_arm loop c before (item_line line c (headed (for_each x e) m) ∷ more) h refl
arm_read n k r a loop line c (headed (else_when e) m) before more p q h =
    let l : ItemLine = item_line line c (headed (else_when e) m) in
    let s : Cut loop c l before more = cut loop line c (headed (else_when e) m) before more h in
    let i = s.inner_len in let j = s.others_len in
    let b = body_read n r loop line c (else_when e) m before s.inner (omega arith) s.deep s.fine h.turns in
    let t : ArmsRead loop c (onto s.inner (l ∷ before)) s.others = a loop c (onto s.inner (l ∷ before)) s.others (omega arith) (omega arith) s.next in
    record {
      others = l ∷ s.inner ++ t.others;
      rest = t.rest;
      arms = arm_and (arm line e b.0) t.arms;
      last = t.last;
      whole = ap (λ y. l ∷ y) (s.whole ∙ ap (λ y. s.inner ++ y) t.whole ∙ sym (append_assoc s.inner t.others t.rest));
      read = an_elif b.1 t.read;
      next = subst (λ y. Sited loop c y t.rest) (sym (onto-append s.inner t.others (l ∷ before))) t.next;
      begins = t.begins;
    }
arm_read n k r a loop line c (headed otherwise m) before more p q h =
    let l : ItemLine = item_line line c (headed otherwise m) in
    let s : Cut loop c l before more = cut loop line c (headed otherwise m) before more h in
    let i = s.inner_len in
    let b = body_read n r loop line c otherwise m before s.inner (omega arith) s.deep s.fine h.turns in
    record {
      others = l ∷ s.inner;
      rest = s.others;
      arms = no_arms;
      last = a_block b.0;
      whole = ap (λ y. l ∷ y) s.whole;
      read = an_else b.1;
      next = s.next;
      begins = cut_begins loop line c (headed otherwise m) before more s refl;
    }

arms_read : (n : ℕ) → Blocks n → (k : ℕ) → Arms n k
arms_read n r k loop c before [] p q h = no_arm loop c before [] h tt
arms_read n r zero loop c before (l ∷ ls) p q h = absurd (omega arith)
arms_read n r (suc k) loop c before (l ∷ ls) p q h =
    subst (λ d. ArmsRead loop d before (l ∷ ls)) h.at
    (arm_read n k r (arms_read n r k) loop l.line l.column l.item before ls (omega arith) (omega arith) (subst (λ d. Sited loop d before (l ∷ ls)) (sym h.at) h))

-- nothing is deeper than a simple statement
flat : (line c : ℕ) (act : Action) (before more : List ItemLine) → Fine (item_line line c (simple act) ∷ before) more → NotDeeper c more
flat line c act before [] f = tt
flat line c act before (y ∷ ys) f = elim (either (nat_lt c y.column)) [ inl t ↦ no_truth (rw t at f.0.stray) | inr g ↦ ltb-false c y.column g ]

statement_read : (n : ℕ) → Blocks n → (loop : Bool) (line c : ℕ) (item : LineItem) (before more : List ItemLine) → 0 < c → length more ≤ n → Sited loop c before (item_line line c item ∷ more) → goes_on_arm item ≡ false → (b : Block) × IsBlock loop c (item_line line c item ∷ more) b
statement_read n r loop line c (simple act) before more z q h g =
    let l : ItemLine = item_line line c (simple act) in
    let own : c ≤ c = omega arith in
    let s : Sited loop c (l ∷ before) more = record { from = h.from.1; at = at_column c more h.from.1 (flat line c act before more h.fine.1); fine = h.fine.1; turns = in_loop_onto c (l ∷ []) before (own, tt) ∙ h.turns } in
    let k = r loop c (l ∷ before) more z q s (begins loop c (l ∷ before) more s (follows_own line c (simple act) before)) in
    (step (at line act) k.0, a_simple (may_stand loop act (subst (λ b. (leaves_turn act && not b) ≡ false) h.turns h.fine.0.turn)) k.1)
statement_read n r loop line c (headed (function f ps) m) before more z q h g = let e : (c == 0) ≡ false = ne_eqb c 0 (λ w. omega arith) in no_truth (rw e at h.fine.0.kind)
statement_read n r loop line c (headed (else_when e) m) before more z q h g = no_truth g
statement_read n r loop line c (headed otherwise m) before more z q h g = no_truth g
statement_read n r loop line c (headed (while e) m) before more z q h g =
    let l : ItemLine = item_line line c (headed (while e) m) in
    let s : Cut loop c l before more = cut loop line c (headed (while e) m) before more h in
    let i = s.inner_len in let j = s.others_len in
    let b = body_read n r loop line c (while e) m before s.inner (omega arith) s.deep s.fine h.turns in
    let k = r loop c (onto s.inner (l ∷ before)) s.others z (omega arith) s.next (cut_begins loop line c (headed (while e) m) before more s refl) in
    (step (at line (ast.While e b.0)) k.0, subst (λ y. IsBlock loop c (l ∷ y) (step (at line (ast.While e b.0)) k.0)) (sym s.whole) (a_loop b.1 k.1))
statement_read n r loop line c (headed (for_each x e) m) before more z q h g =
    let l : ItemLine = item_line line c (headed (for_each x e) m) in
    let s : Cut loop c l before more = cut loop line c (headed (for_each x e) m) before more h in
    let i = s.inner_len in let j = s.others_len in
    let b = body_read n r loop line c (for_each x e) m before s.inner (omega arith) s.deep s.fine h.turns in
    let k = r loop c (onto s.inner (l ∷ before)) s.others z (omega arith) s.next (cut_begins loop line c (headed (for_each x e) m) before more s refl) in
    (step (at line (ast.For x e b.0)) k.0, subst (λ y. IsBlock loop c (l ∷ y) (step (at line (ast.For x e b.0)) k.0)) (sym s.whole) (an_each b.1 k.1))
statement_read n r loop line c (headed (when e) m) before more z q h g =
    let l : ItemLine = item_line line c (headed (when e) m) in
    let s : Cut loop c l before more = cut loop line c (headed (when e) m) before more h in
    let i = s.inner_len in let j = s.others_len in
    let b = body_read n r loop line c (when e) m before s.inner (omega arith) s.deep s.fine h.turns in
    let t : ArmsRead loop c (onto s.inner (l ∷ before)) s.others = arms_read n r n loop c (onto s.inner (l ∷ before)) s.others (omega arith) (omega arith) s.next in
    let v : length s.others ≡ length t.others + length t.rest = ap length t.whole ∙ length-append t.others t.rest in
    let k = r loop c (onto t.others (onto s.inner (l ∷ before))) t.rest z (omega arith) t.next t.begins in (
      step (at line (ast.If (arm_and (arm line e b.0) t.arms) t.last)) k.0,
      subst (λ y. IsBlock loop c (l ∷ y) (step (at line (ast.If (arm_and (arm line e b.0) t.arms) t.last)) k.0)) (append_assoc s.inner t.others t.rest ∙ sym (s.whole ∙ ap (λ y. s.inner ++ y) t.whole)) (a_test b.1 t.read k.1),
    )

blocks : (n : ℕ) → Blocks n
blocks n loop c before [] z q h b = (end, no_lines)
blocks zero loop c before (l ∷ ls) z q h b = absurd (omega arith)
blocks (suc n) loop c before (l ∷ ls) z q h b =
    let e : l.column ≡ c = h.at in
    let g = statement_read n (blocks n) loop l.line l.column l.item before ls (omega arith) (omega arith) (subst (λ d. Sited loop d before (l ∷ ls)) (sym h.at) h) b in
    (g.0, subst (λ d. IsBlock loop d (l ∷ ls) g.0) h.at g.1)

pub from_zero : (ls : List ItemLine) → AllFrom 0 ls
from_zero [] = tt
from_zero (l ∷ ls) = (omega arith, from_zero ls)

pub no_loop : (before : List ItemLine) → in_loop 0 before ≡ false
no_loop [] = refl
no_loop (l ∷ ls) = rw (le-ltb l.column 0 (omega arith)) (no_loop ls)

routine_read : (n : ℕ) (line : ℕ) (item : LineItem) (before more : List ItemLine) → ((before ls : List ItemLine) → length ls ≤ n → Fine before ls → AtColumn 0 ls → (rs : List Routine) × AreRoutines ls rs) → length more ≤ n → Fine before (item_line line 0 item ∷ more) → (rs : List Routine) × AreRoutines (item_line line 0 item ∷ more) rs
routine_read n line (headed (function f ps) m) before more r q h =
    let l : ItemLine = item_line line 0 (headed (function f ps) m) in
    let s : Cut false 0 l before more = cut false line 0 (headed (function f ps) m) before more (record { from = from_zero (l ∷ more); at = refl; fine = h; turns = no_loop before }) in
    let i = s.inner_len in let j = s.others_len in
    let b = body_read n (blocks n) false line 0 (function f ps) m before s.inner (omega arith) s.deep s.fine (no_loop before) in
    let k = r (onto s.inner (l ∷ before)) s.others (omega arith) s.next.fine s.next.at in
    (routine line f ps b.0 ∷ k.0, subst (λ y. AreRoutines (l ∷ y) (routine line f ps b.0 ∷ k.0)) (sym s.whole) (a_routine b.1 k.1))
routine_read n line (simple act) before more r q h = no_truth h.0.kind
routine_read n line (headed (when e) m) before more r q h = no_truth h.0.kind
routine_read n line (headed (else_when e) m) before more r q h = no_truth h.0.kind
routine_read n line (headed otherwise m) before more r q h = no_truth h.0.kind
routine_read n line (headed (while e) m) before more r q h = no_truth h.0.kind
routine_read n line (headed (for_each x e) m) before more r q h = no_truth h.0.kind

routines_read : (n : ℕ) (before ls : List ItemLine) → length ls ≤ n → Fine before ls → AtColumn 0 ls → (rs : List Routine) × AreRoutines ls rs
routines_read n before [] q h e = ([], no_routines)
routines_read zero before (l ∷ ls) q h e = absurd (omega arith)
routines_read (suc n) before (l ∷ ls) q h e =
    let k = routine_read n l.line l.item before ls (routines_read n) (omega arith) (subst (λ d. Fine before (item_line l.line d l.item ∷ ls)) e h) in
    (k.0, subst (λ d. AreRoutines (item_line l.line d l.item ∷ ls) k.0) (sym e) k.1)

begins_at_zero : (ls : List ItemLine) → Fine [] ls → AtColumn 0 ls
begins_at_zero [] h = tt
begins_at_zero (l ∷ ls) h = let k : l.column ≤ 0 = ltb-false 0 l.column h.0.indent in omega arith

pub nests : (ls : List ItemLine) → Fine [] ls → (rs : List Routine) × AreRoutines ls rs
nests ls h = routines_read (length ls) [] ls (omega arith) h (begins_at_zero ls h)
