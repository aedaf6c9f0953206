-- Lines none of which is at fault.
use Rattle.std.proofs.Common.{◌≡◌, ℕ, ◌<◌, ◌≤◌, Bool, true, false, not, ◌&&◌, ◌||◌, ◌==◌, nat_lt, inl, inr, List, [], ◌∷◌, ◌++◌, map, Option, Some, None, if◌then◌else◌, refl, sym, ◌∙◌, ap, arith, ltb-true, ltb-false, lt-ltb, le-ltb, eq-eqb}
use Rattle.std.proofs.lemmas.Bool.{or_parts, or_from}
use Rattle.mpy_lexer.specs.declared.line.Line.{Line}
use Rattle.mpy_parser.specs.Nesting.{ItemLine, item_line}
use Rattle.mpy_parser.specs.Items.{LineItem}
use Rattle.mpy_parser.specs.Faults.{is_indent_fault, indent_fault, is_open, is_arm, is_loop, goes_on_arm, is_function, leaves, has_deeper, is_stray, follows_arm, in_loop, is_block_fault, block_fault}
use Rattle.mpy_parser.specs.Indents.{item_indent_fault}
use Rattle.mpy_parser.specs.Programs.{AreItems}
use Rattle.mpy_parser.proofs.Falls.{either}

abbrev pub columns : List ItemLine → List ℕ
columns ls = map (λ l. l.column) ls

-- a line of its kind at that column
abbrev pub is_misplaced : ItemLine → Bool
is_misplaced l = not ((l.column == 0 && is_function l.item) || (not (l.column == 0) && not (is_function l.item)))

pub record IsFine (before : List ItemLine) (l : ItemLine) (rest : List ItemLine) : Type 0 where
  pub indent : is_indent_fault l.column (columns before) ≡ false
  pub stray : is_stray l.column before ≡ false
  pub body : (is_open l.item && not (has_deeper l.column rest)) ≡ false
  pub arm : (goes_on_arm l.item && not (follows_arm l.column before)) ≡ false
  pub kind : is_misplaced l ≡ false
  pub turn : (leaves l.item && not (is_loop l.item || in_loop l.column before)) ≡ false

abbrev pub Fine : List ItemLine → List ItemLine → Type 0
Fine before [] = Unit {0}
Fine before (l ∷ ls) = IsFine before l ls × Fine (l ∷ before) ls

unless : (b : Bool) (x : ℕ) (o : Option ℕ) → (if b then Some x else o) ≡ None → (b ≡ false) × (o ≡ None)
unless true x o h = (cc, cc)
unless false x o h = (refl, h)

fine_line : (before : List ItemLine) (l : ItemLine) (rest : List ItemLine) → is_indent_fault l.column (columns before) ≡ false → is_block_fault before l rest ≡ false → IsFine before l rest
fine_line before l rest i b =
    let b4 = or_parts (is_stray l.column before || (is_open l.item && not (has_deeper l.column rest)) || (goes_on_arm l.item && not (follows_arm l.column before)) || is_misplaced l) (leaves l.item && not (is_loop l.item || in_loop l.column before)) b in
    let b3 = or_parts (is_stray l.column before || (is_open l.item && not (has_deeper l.column rest)) || (goes_on_arm l.item && not (follows_arm l.column before))) (is_misplaced l) b4.0 in
    let b2 = or_parts (is_stray l.column before || (is_open l.item && not (has_deeper l.column rest))) (goes_on_arm l.item && not (follows_arm l.column before)) b3.0 in
    let b1 = or_parts (is_stray l.column before) (is_open l.item && not (has_deeper l.column rest)) b2.0 in
    record {
      indent = i;
      stray = b1.0;
      body = b1.1;
      arm = b2.1;
      kind = b3.1;
      turn = b4.1;
    }

line_fine : (before : List ItemLine) (l : ItemLine) (rest : List ItemLine) → IsFine before l rest → is_block_fault before l rest ≡ false
line_fine before l rest h =
    or_from (is_stray l.column before || (is_open l.item && not (has_deeper l.column rest)) || (goes_on_arm l.item && not (follows_arm l.column before)) || is_misplaced l) (leaves l.item && not (is_loop l.item || in_loop l.column before))
    (or_from (is_stray l.column before || (is_open l.item && not (has_deeper l.column rest)) || (goes_on_arm l.item && not (follows_arm l.column before))) (is_misplaced l)
    (or_from (is_stray l.column before || (is_open l.item && not (has_deeper l.column rest))) (goes_on_arm l.item && not (follows_arm l.column before))
    (or_from (is_stray l.column before) (is_open l.item && not (has_deeper l.column rest)) h.stray h.body) h.arm) h.kind) h.turn

-- no fault is found in lines exactly where none of them is at fault
pub fine_lines : (before ls : List ItemLine) → item_indent_fault (columns before) ls ≡ None → block_fault before ls ≡ None → Fine before ls
unfolding block_fault item_indent_fault
fine_lines before [] i b = tt
fine_lines before (l ∷ ls) i b =
    let j = unless (is_indent_fault l.column (columns before)) l.line (item_indent_fault (l.column ∷ columns before) ls) i in
    let k = unless (is_block_fault before l ls) l.line (block_fault (l ∷ before) ls) b in
    (fine_line before l ls j.0 k.0, fine_lines (l ∷ before) ls j.1 k.1)

pub no_block_fault : (before ls : List ItemLine) → Fine before ls → block_fault before ls ≡ None
unfolding block_fault
no_block_fault before [] h = refl
no_block_fault before (l ∷ ls) h = rw (line_fine before l ls h.0) (no_block_fault (l ∷ before) ls h.1)

pub no_indent_fault : (before ls : List ItemLine) → Fine before ls → item_indent_fault (columns before) ls ≡ None
unfolding item_indent_fault
no_indent_fault before [] h = refl
no_indent_fault before (l ∷ ls) h = rw (h.0.indent) (no_indent_fault (l ∷ before) ls h.1)

-- lines have the faults of columns that their items have
pub same_indents : (before : List ℕ) (ls : List Line) (is : List ItemLine) → AreItems ls is → indent_fault before ls ≡ item_indent_fault before is
unfolding indent_fault item_indent_fault
same_indents before [] [] h = refl
same_indents before [] (i ∷ is) h = elim h [ ]
same_indents before (l ∷ ls) [] h = elim h [ ]
same_indents before (l ∷ ls) (i ∷ is) h =
    ap (λ c. if is_indent_fault c before then Some l.line else indent_fault (c ∷ before) ls) (sym h.0.column)
    ∙ ap (λ n. if is_indent_fault i.column before then Some n else indent_fault (i.column ∷ before) ls) (sym h.0.line)
    ∙ ap (λ o. if is_indent_fault i.column before then Some i.line else o) (same_indents (i.column ∷ before) ls is h.1)

-- lines put before others, the nearest first
abbrev pub onto : List ItemLine → List ItemLine → List ItemLine
onto [] before = before
onto (x ∷ xs) before = onto xs (x ∷ before)

pub onto-append : (xs ys before : List ItemLine) → onto (xs ++ ys) before ≡ onto ys (onto xs before)
onto-append [] ys before = refl
onto-append (x ∷ xs) ys before = onto-append xs ys (x ∷ before)

abbrev pub AllFrom : ℕ → List ItemLine → Type 0
AllFrom c [] = Unit {0}
AllFrom c (l ∷ ls) = (c ≤ l.column) × AllFrom c ls

abbrev pub AllDeeper : ℕ → List ItemLine → Type 0
AllDeeper c [] = Unit {0}
AllDeeper c (l ∷ ls) = (c < l.column) × AllDeeper c ls

-- the first is not deeper
abbrev pub NotDeeper : ℕ → List ItemLine → Type 0
NotDeeper c [] = Unit {0}
NotDeeper c (l ∷ ls) = l.column ≤ c

abbrev pub AtColumn : ℕ → List ItemLine → Type 0
AtColumn c [] = Unit {0}
AtColumn c (l ∷ ls) = l.column ≡ c

pub deep_from : (c : ℕ) (ls : List ItemLine) → AllDeeper c ls → AllFrom c ls
deep_from c [] h = tt
deep_from c (l ∷ ls) h = let k = h.0 in (omega arith, deep_from c ls h.1)

pub from_back : (c : ℕ) (xs ys : List ItemLine) → AllFrom c (xs ++ ys) → AllFrom c ys
from_back c [] ys h = h
from_back c (x ∷ xs) ys h = from_back c xs ys h.1

pub at_column : (c : ℕ) (ls : List ItemLine) → AllFrom c ls → NotDeeper c ls → AtColumn c ls
at_column c [] h n = tt
at_column c (l ∷ ls) h n = let k = h.0 in omega arith

pub in_loop_onto : (c : ℕ) (xs before : List ItemLine) → AllFrom c xs → in_loop c (onto xs before) ≡ in_loop c before
in_loop_onto c [] before h = refl
in_loop_onto c (x ∷ xs) before h = in_loop_onto c xs (x ∷ before) h.1 ∙ rw (le-ltb x.column c h.0) refl

pub follows_onto : (c : ℕ) (xs before : List ItemLine) → AllDeeper c xs → follows_arm c (onto xs before) ≡ follows_arm c before
follows_onto c [] before h = refl
follows_onto c (x ∷ xs) before h = follows_onto c xs (x ∷ before) h.1 ∙ rw (lt-ltb c x.column h.0) refl

-- whether a line below this one, at its column, follows an arm
pub follows_own : (line c : ℕ) (item : LineItem) (before : List ItemLine) → follows_arm c (item_line line c item ∷ before) ≡ is_arm item
follows_own line c item before = let n : nat_lt c c ≡ false = le-ltb c c (omega arith) in let e : (c == c) ≡ true = eq-eqb c c refl in rw (n, e) refl

shallow : (c d : ℕ) (ls : List ItemLine) → NotDeeper c ls → c ≤ d → has_deeper d ls ≡ false
shallow c d [] n h = refl
shallow c d (l ∷ ls) n h = le-ltb d l.column (omega arith)

-- lines down to a column are fine without those that follow
pub front_fine : (c : ℕ) (before xs ys : List ItemLine) → AllFrom c xs → NotDeeper c ys → Fine before (xs ++ ys) → Fine before xs
front_fine c before [] ys d n h = tt
front_fine c before (x ∷ []) ys d n h = (record { indent = h.0.indent; stray = h.0.stray; body = sym (ap (λ b. is_open x.item && not b) (shallow c x.column ys n d.0)) ∙ h.0.body; arm = h.0.arm; kind = h.0.kind; turn = h.0.turn }, tt)
front_fine c before (x ∷ z ∷ zs) ys d n h = (record { indent = h.0.indent; stray = h.0.stray; body = h.0.body; arm = h.0.arm; kind = h.0.kind; turn = h.0.turn }, front_fine c (x ∷ before) (z ∷ zs) ys d.1 n h.1)

pub back_fine : (before xs ys : List ItemLine) → Fine before (xs ++ ys) → Fine (onto xs before) ys
back_fine before [] ys h = h
back_fine before (x ∷ xs) ys h = back_fine (x ∷ before) xs ys h.1

-- the lines below a line that are deeper, and the others
pub record Split (c : ℕ) (ls : List ItemLine) : Type 0 where
  pub inner : List ItemLine
  pub others : List ItemLine
  pub whole : ls ≡ inner ++ others
  pub deep : AllDeeper c inner
  pub rest : NotDeeper c others

pub split : (c : ℕ) (ls : List ItemLine) → Split c ls
split c [] = record { inner = []; others = []; whole = refl; deep = tt; rest = tt }
split c (l ∷ ls) = elim (either (nat_lt c l.column)) [
  | inl t ↦ (let s : Split c ls = split c ls in record { inner = l ∷ s.inner; others = s.others; whole = ap (λ m. l ∷ m) s.whole; deep = (ltb-true c l.column t, s.deep); rest = s.rest })
  | inr f ↦ record { inner = []; others = l ∷ ls; whole = refl; deep = tt; rest = ltb-false c l.column f }
]
