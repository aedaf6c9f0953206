-- A place in a list that is put together, and among statements.
use Rattle.std.proofs.Common.{◌≡◌, ◌≢◌, ℕ, zero, suc, ◌+◌, ◌-◌, ◌<◌, ◌≤◌, List, [], ◌∷◌, ◌++◌, length, map, drop, get_or, Option, Result, Ok, Err, refl, sym, ap, ◌∙◌, arith}
use Rattle.std.proofs.lemmas.List.{at_drop_more, at_drop_all}
use Rattle.mpy_tree.specs.declared.tree.Stmts.{Stmts}
use Rattle.mpy_tree.specs.declared.tree.Stmt.{Stmt, out-Stmt}
use Rattle.mpy_tree.specs.declared.tree.Arm.{Arm, out-Arm}
use Rattle.mpy_tree.specs.declared.tree.Arms.{Arms}
use Rattle.mpy_tree.specs.declared.tree.Act.{Act, If}
use Rattle.mpy_tree.specs.Syntax.{Statement, Branch, step, arm_and}
use Rattle.mpy_tree.specs.View.{action_of, block, block_of, block_or_none, branch_of, branches, branches_of, statement_of}
use Rattle.mpy_limits.specs.Limits.{nth_or_left, statements, statements_in, statements_last, statements_of}
use Rattle.mpy_limits.proofs.Actions.{if_is, statement_is, branch_is}

pub found_in_first : (xs ys : List ℕ) (n line : ℕ) → Ok line ≡ nth_or_left xs n → Ok line ≡ nth_or_left (xs ++ ys) n
found_in_first [] ys n line e = cc
found_in_first (x ∷ xs) ys zero line e = e
found_in_first (x ∷ xs) ys (suc n) line e = found_in_first xs ys n line e

pub behind_first : (xs ys : List ℕ) (n left : ℕ) → Err left ≡ nth_or_left xs n → nth_or_left (xs ++ ys) n ≡ nth_or_left ys left
behind_first [] ys n left e = let same : n ≡ left = cc in ap (nth_or_left ys) same
behind_first (x ∷ xs) ys zero left e = cc
behind_first (x ∷ xs) ys (suc n) left e = behind_first xs ys n left e

at_first : (x : ℕ) (xs : List ℕ) (n : ℕ) → n ≡ 0 → nth_or_left (x ∷ xs) n ≡ Ok x
at_first x xs n e = ap (nth_or_left (x ∷ xs)) e

after_first : (x : ℕ) (xs : List ℕ) (n : ℕ) → n ≢ 0 → nth_or_left (x ∷ xs) n ≡ nth_or_left xs (n - 1)
after_first x xs zero h = absurd (h refl)
after_first x xs (suc n) h = let same : n ≡ suc n - 1 = omega arith in ap (nth_or_left xs) same

abbrev pub rest_at : List Stmt → ℕ → Result ℕ ℕ
rest_at ss n = nth_or_left (statements (block (map statement_of ss))) n

-- the next statement
next : (ss : List Stmt) (i : ℕ) (s : Stmt) (n : ℕ) → i < length ss → s ≡ get_or ss i s → rest_at (drop i ss) n ≡ nth_or_left ((out-Stmt s).line ∷ (statements_in (action_of (out-Stmt s).act) ++ statements (block (map statement_of (drop (i + 1) ss))))) n
next ss i s n h is =
    let rest = drop (i + 1) ss in
    at_drop_more (λ qs. rest_at qs n) ss i s h
    ∙ ap (λ q. rest_at (q ∷ rest) n) (sym is)
    ∙ ap (λ (q : Statement). nth_or_left (statements (step q (block (map statement_of rest)))) n) (statement_is s)

pub found_at_next : (ss : List Stmt) (i : ℕ) (s : Stmt) (n : ℕ) → i < length ss → s ≡ get_or ss i s → n ≡ 0 → rest_at (drop i ss) n ≡ Ok (out-Stmt s).line
found_at_next ss i s n h is e =
    next ss i s n h is ∙ at_first (out-Stmt s).line (statements_in (action_of (out-Stmt s).act) ++ statements (block (map statement_of (drop (i + 1) ss)))) n e

after_next : (ss : List Stmt) (i : ℕ) (s : Stmt) (n : ℕ) → i < length ss → s ≡ get_or ss i s → n ≢ 0 → rest_at (drop i ss) n ≡ nth_or_left (statements_in (action_of (out-Stmt s).act) ++ statements (block (map statement_of (drop (i + 1) ss)))) (n - 1)
after_next ss i s n h is ne =
    next ss i s n h is ∙ after_first (out-Stmt s).line (statements_in (action_of (out-Stmt s).act) ++ statements (block (map statement_of (drop (i + 1) ss)))) n ne

pub found_in_next : (ss : List Stmt) (i : ℕ) (s : Stmt) (n line : ℕ) → i < length ss → s ≡ get_or ss i s → n ≢ 0 → Ok line ≡ nth_or_left (statements_in (action_of (out-Stmt s).act)) (n - 1) → rest_at (drop i ss) n ≡ Ok line
found_in_next ss i s n line h is ne e =
    after_next ss i s n h is ne
    ∙ sym (found_in_first (statements_in (action_of (out-Stmt s).act)) (statements (block (map statement_of (drop (i + 1) ss)))) (n - 1) line e)

pub behind_next : (ss : List Stmt) (i : ℕ) (s : Stmt) (n left : ℕ) → i < length ss → s ≡ get_or ss i s → n ≢ 0 → Err left ≡ nth_or_left (statements_in (action_of (out-Stmt s).act)) (n - 1) → rest_at (drop i ss) n ≡ rest_at (drop (i + 1) ss) left
behind_next ss i s n left h is ne e =
    after_next ss i s n h is ne
    ∙ behind_first (statements_in (action_of (out-Stmt s).act)) (statements (block (map statement_of (drop (i + 1) ss)))) (n - 1) left e

pub behind_all : (ss : List Stmt) (i n : ℕ) → length ss ≤ i → rest_at (drop i ss) n ≡ Err n
behind_all ss i n h = at_drop_all (λ qs. rest_at qs n) ss i h

if_statements : (a : Act) (arms : Arms) (last : Option Stmts) → a ≡ If arms last → statements_in (action_of a) ≡ statements_of (branches_of arms) ++ statements_last (block_or_none last)
if_statements a arms last is = ap (λ b. statements_in (action_of b)) is ∙ ap statements_in (if_is arms last)

pub found_in_arms : (a : Act) (arms : Arms) (last : Option Stmts) (n line : ℕ) → a ≡ If arms last → Ok line ≡ nth_or_left (statements_of (branches_of arms)) n → Ok line ≡ nth_or_left (statements_in (action_of a)) n
found_in_arms a arms last n line is e =
    found_in_first (statements_of (branches_of arms)) (statements_last (block_or_none last)) n line e
    ∙ ap (λ xs. nth_or_left xs n) (sym (if_statements a arms last is))

pub behind_arms : (a : Act) (arms : Arms) (last : Option Stmts) (n left : ℕ) (r : Result ℕ ℕ) → a ≡ If arms last → Err left ≡ nth_or_left (statements_of (branches_of arms)) n → r ≡ nth_or_left (statements_last (block_or_none last)) left → r ≡ nth_or_left (statements_in (action_of a)) n
behind_arms a arms last n left r is e f =
    f
    ∙ sym (behind_first (statements_of (branches_of arms)) (statements_last (block_or_none last)) n left e)
    ∙ ap (λ xs. nth_or_left xs n) (sym (if_statements a arms last is))

abbrev pub rest_arms_at : List Arm → ℕ → Result ℕ ℕ
rest_arms_at bs n = nth_or_left (statements_of (branches (map branch_of bs))) n

next_arm : (bs : List Arm) (i : ℕ) (b : Arm) (n : ℕ) → i < length bs → b ≡ get_or bs i b → rest_arms_at (drop i bs) n ≡ nth_or_left (statements (block_of (out-Arm b).body) ++ statements_of (branches (map branch_of (drop (i + 1) bs)))) n
next_arm bs i b n h is =
    let rest = drop (i + 1) bs in
    at_drop_more (λ qs. rest_arms_at qs n) bs i b h
    ∙ ap (λ q. rest_arms_at (q ∷ rest) n) (sym is)
    ∙ ap (λ (q : Branch). nth_or_left (statements_of (arm_and q (branches (map branch_of rest)))) n) (branch_is b)

pub found_in_next_arm : (bs : List Arm) (i : ℕ) (b : Arm) (n line : ℕ) → i < length bs → b ≡ get_or bs i b → Ok line ≡ nth_or_left (statements (block_of (out-Arm b).body)) n → rest_arms_at (drop i bs) n ≡ Ok line
found_in_next_arm bs i b n line h is e =
    next_arm bs i b n h is ∙ sym (found_in_first (statements (block_of (out-Arm b).body)) (statements_of (branches (map branch_of (drop (i + 1) bs)))) n line e)

pub behind_next_arm : (bs : List Arm) (i : ℕ) (b : Arm) (n left : ℕ) → i < length bs → b ≡ get_or bs i b → Err left ≡ nth_or_left (statements (block_of (out-Arm b).body)) n → rest_arms_at (drop i bs) n ≡ rest_arms_at (drop (i + 1) bs) left
behind_next_arm bs i b n left h is e =
    next_arm bs i b n h is ∙ behind_first (statements (block_of (out-Arm b).body)) (statements_of (branches (map branch_of (drop (i + 1) bs)))) n left e

pub behind_all_arms : (bs : List Arm) (i n : ℕ) → length bs ≤ i → rest_arms_at (drop i bs) n ≡ Err n
behind_all_arms bs i n h = at_drop_all (λ qs. rest_arms_at qs n) bs i h
