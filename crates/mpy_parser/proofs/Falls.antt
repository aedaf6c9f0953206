-- Which lines fall to a column that isn't open, and whose block is at fault, from what is still open above them.
use Rattle.std.proofs.Common.{◌≡◌, ℕ, ◌<◌, ◌≤◌, Bool, true, false, not, ◌&&◌, ◌||◌, ◌==◌, nat_lt, ◌⊎◌, inl, inr, List, [], ◌∷◌, length, Option, Some, None, if◌then◌else◌, refl, sym, ◌∙◌, ap, arith, ltb-true, ltb-false, lt-ltb, le-ltb}
use Rattle.mpy_lexer.specs.declared.line.Line.{Line}
use Rattle.mpy_parser.specs.declared.places.Place.{Place}
use Rattle.mpy_parser.specs.Nesting.{ItemLine}
use Rattle.mpy_parser.specs.Faults.{returns_to, is_indent_fault, indent_fault, is_open, is_loop, goes_on_arm, is_function, leaves, has_deeper, is_stray, follows_arm, in_loop, is_block_fault, block_fault}
use Rattle.mpy_parser.specs.Open.{nearest, beyond, past, ends_at, past_places, is_stray_at, arm_at, loop_at, place, is_fault_at}

pub either : (b : Bool) → (b ≡ true) ⊎ (b ≡ false)
either true = inl refl
either false = inr refl

-- the first fault of columns, from those that are still open
abbrev pub column_fault : List ℕ → List Line → Option ℕ
column_fault above [] = None
column_fault above (l ∷ ls) = if is_indent_fault l.column above then Some l.line else column_fault (l.column ∷ past l.column above) ls

-- whether a column is returned to shows at the nearest that isn't deeper
pub returns : (c : ℕ) (ds : List ℕ) → returns_to c ds ≡ ends_at c (past c ds)
returns c [] = refl
returns c (d ∷ ds) = elim (nat_lt c d) as (λ b. (if b then returns_to c ds else c == d) ≡ ends_at c (if b then past c ds else d ∷ ds)) [ true ↦ returns c ds | false ↦ refl ]

-- what a column takes away is nothing to a lesser one
skipped : (e c : ℕ) → e < c → (ds : List ℕ) → returns_to e (past c ds) ≡ returns_to e ds
skipped e c h [] = refl
skipped e c h (d ∷ ds) = elim (either (nat_lt c d)) [
  | inl t ↦ (let u : nat_lt e d ≡ true = lt-ltb e d (omega (arith, ltb-true c d t)) in rw (t, u) (skipped e c h ds))
  | inr f ↦ rw f refl
]

-- columns of which no later column sees a difference
record Alike (before above : List ℕ) : Type 0 where
  here : (c : ℕ) → is_indent_fault c before ≡ is_indent_fault c above
  later : (c : ℕ) → returns_to c before ≡ returns_to c above

one_more : (d : ℕ) (before above : List ℕ) → Alike before above → Alike (d ∷ before) (d ∷ past d above)
one_more d before above h =
    let same : (c : ℕ) → c < d → returns_to c before ≡ returns_to c (past d above) = λ c k. h.later c ∙ sym (skipped c d k above) in
    record {
      here = λ c. elim (either (nat_lt c d)) [ inl t ↦ ap (λ b. nat_lt c d && not b) (same c (ltb-true c d t)) | inr f ↦ rw f refl ];
      later = λ c. elim (either (nat_lt c d)) [ inl t ↦ rw t (same c (ltb-true c d t)) | inr f ↦ rw f refl ];
    }

same_column_fault : (before above : List ℕ) → Alike before above → (ls : List Line) → indent_fault before ls ≡ column_fault above ls
unfolding indent_fault
same_column_fault before above h [] = refl
same_column_fault before above h (l ∷ ls) =
    ap (λ b. if b then Some l.line else indent_fault (l.column ∷ before) ls) (h.here l.column)
    ∙ ap (λ o. if is_indent_fault l.column above then Some l.line else o) (same_column_fault (l.column ∷ before) (l.column ∷ past l.column above) (one_more l.column before above h) ls)

pub column_faults : (ls : List Line) → indent_fault [] ls ≡ column_fault [] ls
column_faults ls = same_column_fault [] [] (record { here = λ c. refl; later = λ c. refl }) ls

-- the first fault of blocks, from the places that are still open
abbrev pub place_fault : List Place → List ItemLine → Option ℕ
place_fault ps [] = None
place_fault ps (l ∷ rest) = if is_stray_at l.column ps || is_fault_at (past_places l.column ps) l rest then Some l.line else place_fault (place l (past_places l.column ps) ∷ past_places l.column ps) rest

twice : (e c : ℕ) → e ≤ c → (ps : List Place) → past_places e (past_places c ps) ≡ past_places e ps
twice e c h [] = refl
twice e c h (p ∷ ps) = elim (either (nat_lt c p.column)) [
  | inl t ↦ (let u : nat_lt e p.column ≡ true = lt-ltb e p.column (omega (arith, ltb-true c p.column t)) in rw (t, u) (twice e c h ps))
  | inr f ↦ rw f refl
]

-- lines of which no later line sees more than of the places
record Seen (before : List ItemLine) (ps : List Place) : Type 0 where
  stray : (c : ℕ) → is_stray c before ≡ is_stray_at c ps
  arms : (c : ℕ) → follows_arm c before ≡ arm_at c (past_places c ps)
  loops : (c : ℕ) → in_loop c before ≡ loop_at c (past_places c ps)

seen_arm : (l : ItemLine) (before : List ItemLine) (ps : List Place) → Seen before ps → (c : ℕ) → follows_arm c (l ∷ before) ≡ arm_at c (past_places c (place l (past_places l.column ps) ∷ past_places l.column ps))
seen_arm l before ps h c = elim (either (nat_lt c l.column)) [
  | inl t ↦ rw t (h.arms c ∙ ap (arm_at c) (sym (twice c l.column (omega (arith, ltb-true c l.column t)) ps)))
  | inr f ↦ rw f refl
]

seen_loop : (l : ItemLine) (before : List ItemLine) (ps : List Place) → Seen before ps → (c : ℕ) → in_loop c (l ∷ before) ≡ loop_at c (past_places c (place l (past_places l.column ps) ∷ past_places l.column ps))
seen_loop l before ps h c = elim (either (nat_lt l.column c)) [
  | inl t ↦ (let u : nat_lt c l.column ≡ false = le-ltb c l.column (omega (arith, ltb-true l.column c t)) in rw (u, t) (ap (λ b. is_loop l.item || b) (h.loops l.column)))
  | inr f ↦ elim (either (nat_lt c l.column)) [
    | inl t ↦ rw (f, t) (h.loops c ∙ ap (loop_at c) (sym (twice c l.column (omega (arith, ltb-true c l.column t)) ps)))
    | inr g ↦ (let e : c ≡ l.column = omega (arith, ltb-false c l.column g, ltb-false l.column c f) in rw (f, g, f) (ap (λ d. in_loop d before) e ∙ h.loops l.column))
  ]
]

seen_more : (l : ItemLine) (before : List ItemLine) (ps : List Place) → Seen before ps → Seen (l ∷ before) (place l (past_places l.column ps) ∷ past_places l.column ps)
seen_more l before ps h = record { stray = λ c. refl; arms = seen_arm l before ps h; loops = seen_loop l before ps h }

grouped : (a b c d e : Bool) → ((((a || b) || c) || d) || e) ≡ (a || (((b || c) || d) || e))
grouped true b c d e = refl
grouped false b c d e = refl

same_fault : (l : ItemLine) (rest before : List ItemLine) (ps : List Place) → Seen before ps → is_block_fault before l rest ≡ (is_stray_at l.column ps || is_fault_at (past_places l.column ps) l rest)
same_fault l rest before ps h = rw (h.stray l.column, h.arms l.column, h.loops l.column) (grouped (is_stray_at l.column ps) (is_open l.item && not (has_deeper l.column rest)) (goes_on_arm l.item && not (arm_at l.column (past_places l.column ps))) (not ((l.column == 0 && is_function l.item) || (not (l.column == 0) && not (is_function l.item)))) (leaves l.item && not (is_loop l.item || loop_at l.column (past_places l.column ps))))

same_place_fault : (before : List ItemLine) (ps : List Place) → Seen before ps → (ls : List ItemLine) → block_fault before ls ≡ place_fault ps ls
unfolding block_fault
same_place_fault before ps h [] = refl
same_place_fault before ps h (l ∷ rest) =
    ap (λ b. if b then Some l.line else block_fault (l ∷ before) rest) (same_fault l rest before ps h)
    ∙ ap (λ o. if is_stray_at l.column ps || is_fault_at (past_places l.column ps) l rest then Some l.line else o) (same_place_fault (l ∷ before) (place l (past_places l.column ps) ∷ past_places l.column ps) (seen_more l before ps h) rest)

pub place_faults : (ls : List ItemLine) → block_fault [] ls ≡ place_fault [] ls
place_faults ls = same_place_fault [] [] (record { stray = λ c. refl; arms = λ c. refl; loops = λ c. refl }) ls

-- a step of taking columns away, and of taking places away
pub column_stays : (c d : ℕ) (ds : List ℕ) → nearest ds ≡ Some d → d ≤ c → past c ds ≡ ds
column_stays c d [] e h = refl
column_stays c d (x ∷ ds) e h = let same : x ≡ d = cc in rw (le-ltb c x (omega arith)) refl

pub column_goes : (c d : ℕ) (ds : List ℕ) → nearest ds ≡ Some d → c < d → past c ds ≡ past c (beyond ds)
column_goes c d [] e h = refl
column_goes c d (x ∷ ds) e h = let same : x ≡ d = cc in rw (lt-ltb c x (omega arith)) refl

pub place_stays : (c : ℕ) (p : Place) (ps : List Place) → nearest ps ≡ Some p → p.column ≤ c → past_places c ps ≡ ps
place_stays c p [] e h = refl
place_stays c p (x ∷ ps) e h = let same : x.column ≡ p.column = cc in rw (le-ltb c x.column (omega arith)) refl

pub place_goes : (c : ℕ) (p : Place) (ps : List Place) → nearest ps ≡ Some p → c < p.column → past_places c ps ≡ past_places c (beyond ps)
place_goes c p [] e h = refl
place_goes c p (x ∷ ps) e h = let same : x.column ≡ p.column = cc in rw (lt-ltb c x.column (omega arith)) refl

pub fewer : {A : Type 0} (xs : List A) (x : A) → nearest xs ≡ Some x → length (beyond xs) < length xs
fewer [] x e = cc
fewer (y ∷ xs) x e = omega arith

pub no_column : (c : ℕ) (ds : List ℕ) → nearest ds ≡ None → past c ds ≡ ds
no_column c [] e = refl
no_column c (d ∷ ds) e = cc

pub no_place : (c : ℕ) (ps : List Place) → nearest ps ≡ None → past_places c ps ≡ ps
no_place c [] e = refl
no_place c (p ∷ ps) e = cc

-- whether a column below these is at fault
pub falls : (c d : ℕ) (ds : List ℕ) → nearest ds ≡ Some d → c < d → is_indent_fault c ds ≡ not (ends_at c (past c ds))
falls c d [] e h = cc
falls c d (x ∷ ds) e h = let same : x ≡ d = cc in rw (lt-ltb c x (omega arith)) (ap not (returns c ds))

pub rises : (c d : ℕ) (ds : List ℕ) → nearest ds ≡ Some d → d ≤ c → is_indent_fault c ds ≡ false
rises c d [] e h = cc
rises c d (x ∷ ds) e h = let same : x ≡ d = cc in rw (le-ltb c x (omega arith)) refl

pub begins : (c : ℕ) (ds : List ℕ) → nearest ds ≡ None → is_indent_fault c ds ≡ nat_lt 0 c
begins c [] e = refl
begins c (d ∷ ds) e = cc

pub ruleset places = (place_stays, place_goes, no_place, fewer)

pub ruleset columns = (column_stays, column_goes, no_column, fewer)

pub ruleset indents = (falls, rises, begins, no_column)
