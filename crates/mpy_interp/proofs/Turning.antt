-- The turns of a `while` and of a `for`.
use Rattle.std.proofs.Common.{◌≡◌, ℕ, zero, suc, ◌+◌, ◌-◌, ◌<◌, List, [], ◌∷◌, drop, Option, Some, None, Ok, Err, refl, sym, ap, ◌∙◌, arith}
use Rattle.std.specs.Prelude.{slice_get}
use Rattle.std.proofs.lemmas.List.{drop_more}
use Rattle.std.proofs.lemmas.Option.{slice_get_within, get_or_from_slice_get}
use Rattle.std.specs.declared.result.Result.{Result}
use Rattle.mpy_tree.specs.declared.value.Value.{Value}
use Rattle.mpy_tree.specs.declared.outcome.Halt.{Halt}
use Rattle.mpy_tree.specs.declared.outcome.Halted.{Halted}
use Rattle.mpy_tree.specs.Values.{◌>>=◌, State, assign, fault, on_line}
use Rattle.mpy_tree.specs.declared.outcome.FaultKind.TheVariants.{Turns}
use Rattle.mpy_tree.specs.Statements.{Ran, Next, Failed, given, tested, then_turn, while_turns, for_turns}

pub one_turn : (n : ℕ) (test : State → Result Value Halted) (body : State → Ran) (line : ℕ) (s : State) → 0 < n → while_turns n test body line s ≡ tested (test s) (then_turn (body s) (while_turns (n - 1) test body line)) (Next s)
one_turn zero test body line s h = absurd (omega arith)
one_turn (suc n) test body line s h =
    let e : n ≡ suc n - 1 = omega arith in
    ap (λ m. tested (test s) (then_turn (body s) (while_turns m test body line)) (Next s)) e

-- no turn is left
pub no_turn : (n : ℕ) (test : State → Result Value Halted) (body : State → Ran) (line : ℕ) (s : State) → n ≡ 0 → while_turns n test body line s ≡ tested (test s) (Failed (fault Turns line)) (Next s)
no_turn n test body line s e = ap (λ m. while_turns m test body line s) e

-- the turns of a `for` from the place k of its members on, where n are left
abbrev pub turns_from : ℕ → Result (List Value) Halted → ℕ → List ℕ → (State → Ran) → ℕ → State → Ran
turns_from k r n x body line s = given r (λ vs. for_turns (drop k vs) n x body line s)

no_rest : (vs : List Value) (k : ℕ) → slice_get vs k ≡ None → drop k vs ≡ []
no_rest [] zero e = refl
no_rest [] (suc k) e = refl
no_rest (v ∷ vs) zero e = cc
no_rest (v ∷ vs) (suc k) e = no_rest vs k e

rest_from : (vs : List Value) (k : ℕ) (v : Value) → slice_get vs k ≡ Some v → drop k vs ≡ v ∷ drop (k + 1) vs
rest_from vs k v e =
    drop_more vs k v (slice_get_within vs k v e)
    ∙ ap (λ u. u ∷ drop (k + 1) vs) (get_or_from_slice_get vs k v v e)

turn_on : (us ws : List Value) (v : Value) (n : ℕ) (x : List ℕ) (body : State → Ran) (line : ℕ) (s : State) → us ≡ v ∷ ws → 0 < n → for_turns us n x body line s ≡ then_turn (body (assign s x v)) (for_turns ws (n - 1) x body line)
turn_on us ws v zero x body line s e h = absurd (omega arith)
turn_on us ws v (suc n) x body line s e h =
    let p : n ≡ suc n - 1 = omega arith in
    ap (λ vs. for_turns vs (suc n) x body line s) e
    ∙ ap (λ m. then_turn (body (assign s x v)) (for_turns ws m x body line)) p

-- what a value gives that has no members
pub no_members : (m : Result (List Value) Halt) (k n : ℕ) (x : List ℕ) (body : State → Ran) (line : ℕ) (s : State) (h : Halted) → on_line line (m >>= λ vs. Ok (slice_get vs k)) ≡ Err h → turns_from k (on_line line m) n x body line s ≡ Failed h
no_members (Ok vs) k n x body line s h e = cc
no_members (Err f) k n x body line s h e = cc

-- no member is left
pub members_end : (m : Result (List Value) Halt) (k n : ℕ) (x : List ℕ) (body : State → Ran) (line : ℕ) (s : State) → on_line line (m >>= λ vs. Ok (slice_get vs k)) ≡ Ok None → turns_from k (on_line line m) n x body line s ≡ Next s
members_end (Ok vs) k n x body line s e =
    let none : slice_get vs k ≡ None = cc in
    ap (λ us. for_turns us n x body line s) (no_rest vs k none)
members_end (Err f) k n x body line s e = cc

-- a turn over the next member
pub one_member : (m : Result (List Value) Halt) (k n : ℕ) (v : Value) (x : List ℕ) (body : State → Ran) (line : ℕ) (s : State) → on_line line (m >>= λ vs. Ok (slice_get vs k)) ≡ Ok (Some v) → 0 < n → turns_from k (on_line line m) n x body line s ≡ then_turn (body (assign s x v)) (turns_from (k + 1) (on_line line m) (n - 1) x body line)
one_member (Ok vs) k n v x body line s e h =
    let some : slice_get vs k ≡ Some v = cc in
    turn_on (drop k vs) (drop (k + 1) vs) v n x body line s (rest_from vs k v some) h
one_member (Err f) k n v x body line s e h = cc

-- a member is left, and no turn
pub one_too_many : (m : Result (List Value) Halt) (k n : ℕ) (v : Value) (x : List ℕ) (body : State → Ran) (line : ℕ) (s : State) → on_line line (m >>= λ vs. Ok (slice_get vs k)) ≡ Ok (Some v) → n ≡ 0 → turns_from k (on_line line m) n x body line s ≡ Failed (fault Turns line)
one_too_many (Ok vs) k n v x body line s e z =
    let some : slice_get vs k ≡ Some v = cc in
    ap (λ us. for_turns us n x body line s) (rest_from vs k v some)
    ∙ ap (λ m. for_turns (v ∷ drop (k + 1) vs) m x body line s) z
one_too_many (Err f) k n v x body line s e z = cc

pub ruleset turns = (no_members, members_end, one_member, one_too_many)

-- all turns are the next one, where it has begun, and those behind it
pub turn_begun : (m : Result (List Value) Halt) (k n : ℕ) (o : Option Value) (v : Value) (x : List ℕ) (body : State → Ran) (line : ℕ) (start s t : State) → turns_from 0 (on_line line m) n x body line start ≡ turns_from k (on_line line m) (n - k) x body line s → on_line line (m >>= λ vs. Ok (slice_get vs k)) ≡ Ok o → o ≡ Some v → k < n → t ≡ assign s x v → turns_from 0 (on_line line m) n x body line start ≡ then_turn (body t) (turns_from (k + 1) (on_line line m) (n - (k + 1)) x body line)
turn_begun m k n o v x body line start s t left e some h begun =
    let fewer : n - k - 1 ≡ n - (k + 1) = omega arith in
    left
    ∙ one_member m k (n - k) v x body line s (e ∙ ap Ok some) (omega arith)
    ∙ ap (λ u. then_turn (body u) (turns_from (k + 1) (on_line line m) (n - k - 1) x body line)) (sym begun)
    ∙ ap (λ j. then_turn (body t) (turns_from (k + 1) (on_line line m) j x body line)) fewer
