-- Items that are left to go over.
use Rattle.std.proofs.Common.{◌≡◌, ◌∙◌, ◌<◌, ◌-◌, ◌+◌, ℕ, zero, suc, Bool, true, false, List, [], ◌∷◌, length, drop, slice_get, nat_lt, refl, sym, ap, Option, Some, None, arith}
use Rattle.std.proofs.lemmas.Bool.{le-ltb, lt-ltb, ltb-false, ltb-true}
use Rattle.mpy_tree.specs.declared.value.Value.{Value}
use Rattle.mpy_tree.specs.Statements.{Ran, Next, for_turns}
use Rattle.mpy_tree.specs.Values.{State}
use Rattle.sym_paths.specs.Endings.{Seen, and_seen, nothing_seen, seen_from, turned}
use Rattle.sym_paths.specs.Items.{entering, is_more, item_more, last_item, leaving, staying}
use Rattle.sym_paths.specs.Paths.{reached}
use Rattle.sym_paths.specs.Sights.{again}

next_less : (i n : ℕ) (b : Bool) → nat_lt i n ≡ b → b ≡ nat_lt (suc i) (suc n)
next_less i n true e = let less = ltb-true i n e in sym (lt-ltb (suc i) (suc n) (omega (arith, less)))
next_less i n false e = let more = ltb-false i n e in sym (le-ltb (suc i) (suc n) (omega (arith, more)))

-- whether there is an item at a place
pub more_at : (ms : List Value) (i : ℕ) → is_more (drop i ms) ≡ nat_lt i (length ms)
more_at [] zero = sym (le-ltb 0 0 (omega arith))
more_at [] (suc i) = sym (le-ltb (suc i) 0 (omega arith))
more_at (v ∷ ms) zero = sym (lt-ltb 0 (suc (length ms)) (omega arith))
more_at (v ∷ ms) (suc i) = more_at ms i ∙ next_less i (length ms) (nat_lt i (length ms)) refl

pub item_there : (ms : List Value) (i : ℕ) (v : Value) (rest : List Value) → drop i ms ≡ v ∷ rest → slice_get ms i ≡ Some v
item_there [] zero v rest e = cc
item_there [] (suc i) v rest e = cc
item_there (x ∷ ms) zero v rest e = cc
item_there (x ∷ ms) (suc i) v rest e = item_there ms i v rest e

drop_suc : (ms : List Value) (i : ℕ) → drop 1 (drop i ms) ≡ drop (suc i) ms
drop_suc [] zero = refl
drop_suc [] (suc i) = refl
drop_suc (x ∷ ms) zero = refl
drop_suc (x ∷ ms) (suc i) = drop_suc ms i

drop_more : (ms : List Value) (i : ℕ) → drop 1 (drop i ms) ≡ drop (i + 1) ms
drop_more ms i = let same : suc i ≡ i + 1 = omega arith in drop_suc ms i ∙ ap (λ k. drop k ms) same

-- no item is left where a state is reached
none_by : (s : State) (ms : List Value) (k : ℕ) (x : List ℕ) (body : State → Ran) (line : ℕ) → ms ≡ [] → seen_from (Some s) Next ≡ seen_from (Some s) (for_turns ms k x body line)
none_by s [] k x body line e = refl
none_by s (v ∷ ms) k x body line e = absurd cc

pub none_left : (o : Option State) (ms : List Value) (k : ℕ) (x : List ℕ) (body : State → Ran) (line : ℕ) → ((s : State) → o ≡ Some s → ms ≡ []) → seen_from o Next ≡ seen_from o (for_turns ms k x body line)
none_left None ms k x body line h = refl
none_left (Some s) ms k x body line h = none_by s ms k x body line (h s refl)

-- a turn, and those that are left
pub item_goes : (start left out mid one whole : Seen) (n : Option State) (ms : List Value) (x : List ℕ) (body : State → Ran) (i k line : ℕ) → 0 < k
    → left ≡ and_seen start (seen_from (leaving n (drop i ms)) Next) → out ≡ and_seen mid (turned one) → mid ≡ left → one ≡ seen_from (entering n x (drop i ms)) body
    → and_seen start (seen_from n (for_turns (drop i ms) k x body line)) ≡ whole
    → and_seen out (seen_from (again (entering n x (drop i ms)) body) (for_turns (drop (i + 1) ms) (k - 1) x body line)) ≡ whole
item_goes start left out mid one whole n ms x body i k line some a e f h g =
    let leave = seen_from (leaving n (drop i ms)) Next in
    let shown : out ≡ and_seen (and_seen start leave) (turned (seen_from (entering n x (drop i ms)) body)) = e ∙ (λ j. and_seen (f j) (turned (h j))) ∙ ap (λ (y : Seen). and_seen y (turned (seen_from (entering n x (drop i ms)) body))) a in
    ap (λ (r : List Value). and_seen out (seen_from (again (entering n x (drop i ms)) body) (for_turns r (k - 1) x body line))) (sym (drop_more ms i))
    ∙ item_more start out n (drop i ms) x body k line some shown ∙ g

pub last_item_goes : (start left whole : Seen) (n : Option State) (ms : List Value) (x : List ℕ) (body : State → Ran) (k line : ℕ) → k ≡ 0
    → left ≡ and_seen start (seen_from (leaving n ms) Next) → and_seen start (seen_from n (for_turns ms k x body line)) ≡ whole → left ≡ whole
last_item_goes start left whole n ms x body k line none a g =
    last_item start left n ms x body line a ∙ ap (λ (j : ℕ). and_seen start (seen_from n (for_turns ms j x body line))) (sym none) ∙ g

pub none_goes : (start left whole : Seen) (n : Option State) (ms : List Value) (x : List ℕ) (body : State → Ran) (k line : ℕ) → ((s : State) → n ≡ Some s → ms ≡ [])
    → left ≡ and_seen start (seen_from n Next) → and_seen start (seen_from n (for_turns ms k x body line)) ≡ whole → left ≡ whole
none_goes start left whole n ms x body k line none a g = a ∙ ap (and_seen start) (none_left n ms k x body line none) ∙ g

-- where no item is there is no turn
pub no_turn : (o : Option State) (x : List ℕ) (ms : List Value) (run : State → Ran) → reached (staying o ms) ≡ None → nothing_seen ≡ seen_from (entering o x ms) run
no_turn None x ms run e = refl
no_turn (Some s) x [] run e = refl
no_turn (Some s) x (v ∷ ms) run e = absurd cc
