-- A frame after a local is set.
use Rattle.std.proofs.Common.{◌≡◌, ◌≢◌, ℕ, ◌<◌, ◌≤◌, List, [], ◌∷◌, ◌++◌, length, get_or, set, Option, Some, None, Bool, true, false, cond, if◌then◌else◌, refl, sym, ap, ◌∙◌, arith, append_assoc, length-append, map, drop, ◌+◌, get_or-set_same, get_or-set_other}
use Rattle.std.specs.Prelude.{slice_get, nat_lt}
use Rattle.std.specs.declared.result.Result.{Result}
use Rattle.std.specs.declared.result.Result.TheVariants.{Ok, Err}
use Rattle.std.specs.List.{position_or_len, find}
use Rattle.std.proofs.lemmas.List.{length-set, append-nil, drop_more, drop_all}
use Rattle.std.proofs.lemmas.List.Folds.{position_or_len-set, find_at}
use Rattle.std.proofs.lemmas.List.Quantifiers.{position-Some}
use Rattle.std.proofs.lemmas.Option.{slice_get-get_or, slice_get_past}
use Rattle.std.proofs.lemmas.Bool.Decides.{nat_tests}
use Rattle.std.proofs.lemmas.Slice.Eq.{bytes_eq-Decides}
use Rattle.mpy_tree.specs.declared.value.Value.{Value}
use Rattle.mpy_interp.specs.declared.frame.Binding.{Binding}
use Rattle.mpy_tree.specs.declared.outcome.FaultKind.TheVariants.{Unset}
use Rattle.mpy_tree.specs.declared.outcome.Halt.{Halt}
use Rattle.mpy_tree.specs.Values.{◌>>=◌, Locals, State, same_bytes, assign, with_local, nothing_set, fault, on_line, set_or_fault}
use Rattle.mpy_tree.specs.Running.{bound}
use Rattle.mpy_tree.specs.Statements.{Ran, Next, Failed, store}
use Rattle.value_operations.specs.declared.stop.Stop.{Stop}
use Rattle.value_operations.specs.declared.stop.Stop.TheVariants as stop
use Rattle.value_operations.specs.Answers.{MeetsBy}
use Rattle.mpy_interp.specs.Frames.{Changes, changed, looked, place_of, value_in}

abbrev is_of : List ℕ → Binding → Bool
is_of y b = same_bytes y b.name.now

abbrev value_at : List Binding → Option ℕ → Option Value
value_at bs None = None
value_at bs (Some k) = value_in (slice_get bs k)

-- a lookup by the place of the name
abbrev looked_at : List Binding → Locals
looked_at bs y = value_at bs (place_of bs y)

-- a binding of the same name, at another's place, leaves the places as they are
place-set : (bs : List Binding) (k : ℕ) (b n : Binding) (y : List ℕ) → b ≡ get_or bs k b → n.name.now ≡ b.name.now → place_of (set bs k n) y ≡ place_of bs y
place-set bs k b n y is e =
    let p : is_of y n ≡ is_of y (get_or bs k b) = ap (same_bytes y) e ∙ ap (is_of y) is in
    let q = position_or_len-set (is_of y) bs k n b p in
    ap (λ m. cond (nat_lt m (length (set bs k n))) (Some m) None) q
    ∙ ap (λ m. cond (nat_lt (position_or_len (is_of y) bs) m) (Some (position_or_len (is_of y) bs)) None) (length-set bs k n)

-- what stands at the place itself, and at others
at_place : (bs : List Binding) (k : ℕ) (n : Binding) → k < length bs → slice_get (set bs k n) k ≡ Some n
at_place bs k n h =
    let w : k < length (set bs k n) = omega (arith, length-set bs k n) in
    slice_get-get_or (set bs k n) k n w ∙ ap Some (get_or-set_same bs k n n h)

at_others : (bs : List Binding) (k j : ℕ) (n b : Binding) → j ≢ k → j < length bs → slice_get (set bs k n) j ≡ slice_get bs j
at_others bs k j n b ne h =
    let w : j < length (set bs k n) = omega (arith, length-set bs k n) in
    slice_get-get_or (set bs k n) j b w ∙ ap Some (rw get_or-set_other refl) ∙ sym (slice_get-get_or bs j b h)

same-is : (x y : List ℕ) → same_bytes x y ≡ true → x ≡ y
same-is x y = (bytes_eq-Decides x y).0

is-same : (x y : List ℕ) → x ≡ y → same_bytes x y ≡ true
is-same x y = (bytes_eq-Decides x y).1

-- another name is looked up as before
others : (bs : List Binding) (k : ℕ) (b n : Binding) (x y : List ℕ) (o : Option ℕ) → place_of bs x ≡ Some k → b ≡ get_or bs k b → same_bytes y x ≡ false → place_of bs y ≡ o → value_at (set bs k n) o ≡ value_at bs o
others bs k b n x y None at is ne e = refl
others bs k b n x y (Some j) at is ne e =
    let p = position-Some (is_of x) bs k b at in
    let q = position-Some (is_of y) bs j b e in
    let apart : j ≢ k = λ m.
    let yb : same_bytes y (get_or bs k b).name.now ≡ true = ap (λ i. same_bytes y (get_or bs i b).name.now) (sym m) ∙ q.1 in
    let yx : y ≡ x = same-is y _ yb ∙ sym (same-is x _ p.1) in
    let t = is-same y x yx in
    cc in
    ap value_in (at_others bs k j n b apart q.0)

at_name : (bs : List Binding) (k : ℕ) (b n : Binding) (x y : List ℕ) (v : Value) (t : Bool) → place_of bs x ≡ Some k → b ≡ get_or bs k b → n.name.now ≡ b.name.now → n.value ≡ v → same_bytes y x ≡ t → looked_at (set bs k n) y ≡ (if t then Some v else looked_at bs y)
at_name bs k b n x y v true at is e f s =
    let p = position-Some (is_of x) bs k b at in
    ap (value_at (set bs k n)) (place-set bs k b n y is e ∙ ap (place_of bs) (same-is y x s) ∙ at)
    ∙ ap value_in (at_place bs k n p.0)
    ∙ ap Some f
at_name bs k b n x y v false at is e f s =
    ap (value_at (set bs k n)) (place-set bs k b n y is e) ∙ others bs k b n x y (place_of bs y) at is s refl

-- a lookup finds the first binding of the name
by_find : (bs : List Binding) (y : List ℕ) (t : Bool) → nat_lt (position_or_len (is_of y) bs) (length bs) ≡ t → value_at bs (cond t (Some (position_or_len (is_of y) bs)) None) ≡ value_in (find (is_of y) bs)
by_find bs y true e = ap value_in (sym (find_at (is_of y) bs))
by_find bs y false e =
    let past : length bs ≤ position_or_len (is_of y) bs = grind (arith, nat_tests) in
    ap value_in (sym (find_at (is_of y) bs ∙ slice_get_past bs (position_or_len (is_of y) bs) past))

looked_is : (bs : List Binding) (y : List ℕ) → looked_at bs y ≡ looked bs y
looked_is bs y = by_find bs y (nat_lt (position_or_len (is_of y) bs) (length bs)) refl

past_head : (t : Bool) (c : Binding) (o q r : Option Binding) → cond t (Some c) o ≡ None → (o ≡ None → q ≡ r) → cond t (Some c) q ≡ r
past_head true c o q r e h = cc
past_head false c o q r e h = h e

push_past : (p : Binding → Bool) (bs : List Binding) (n : Binding) → find p bs ≡ None → find p (bs ++ n ∷ []) ≡ find p (n ∷ [])
push_past p [] n e = refl
push_past p (c ∷ bs) n e = past_head (p c) c (find p bs) (find p (bs ++ n ∷ [])) (find p (n ∷ [])) e (push_past p bs n)

kept_head : (t : Bool) (c b : Binding) (o q : Option Binding) → cond t (Some c) o ≡ Some b → (o ≡ Some b → q ≡ Some b) → cond t (Some c) q ≡ Some b
kept_head true c b o q e h = e
kept_head false c b o q e h = h e

push_kept : (p : Binding → Bool) (bs : List Binding) (n b : Binding) → find p bs ≡ Some b → find p (bs ++ n ∷ []) ≡ Some b
push_kept p [] n b e = cc
push_kept p (c ∷ bs) n b e = kept_head (p c) c b (find p bs) (find p (bs ++ n ∷ [])) e (push_kept p bs n b)

none_found : (bs : List Binding) (x : List ℕ) (t : Bool) → nat_lt (position_or_len (is_of x) bs) (length bs) ≡ t → cond t (Some (position_or_len (is_of x) bs)) None ≡ None → find (is_of x) bs ≡ None
none_found bs x true e h = cc
none_found bs x false e h =
    let past : length bs ≤ position_or_len (is_of x) bs = grind (arith, nat_tests) in
    find_at (is_of x) bs ∙ slice_get_past bs (position_or_len (is_of x) bs) past

other_pushed : (bs : List Binding) (n : Binding) (y : List ℕ) (o : Option Binding) → is_of y n ≡ false → find (is_of y) bs ≡ o → value_in (find (is_of y) (bs ++ n ∷ [])) ≡ value_in o
other_pushed bs n y None s e = ap value_in (push_past (is_of y) bs n e) ∙ ap (λ t. value_in (cond t (Some n) None)) s
other_pushed bs n y (Some b) s e = ap value_in (push_kept (is_of y) bs n b e)

-- what is looked up after a new name
unknown : (bs : List Binding) (n : Binding) (x y : List ℕ) (v : Value) (t : Bool) → place_of bs x ≡ None → n.name.now ≡ x → n.value ≡ v → same_bytes y x ≡ t → looked (bs ++ n ∷ []) y ≡ (if t then Some v else looked bs y)
unknown bs n x y v true none e f s =
    let gone = none_found bs x (nat_lt (position_or_len (is_of x) bs) (length bs)) refl none in
    ap (λ z. value_in (find (is_of z) (bs ++ n ∷ []))) (same-is y x s)
    ∙ ap value_in (push_past (is_of x) bs n gone)
    ∙ ap (λ t. value_in (cond t (Some n) None)) (is-same x n.name.now (sym e))
    ∙ ap Some f
unknown bs n x y v false none e f s =
    other_pushed bs n y (find (is_of y) bs) (ap (same_bytes y) e ∙ s) refl

-- what is looked up after a value is written at the place of its name
known : (bs : List Binding) (k : ℕ) (b n : Binding) (x y : List ℕ) (v : Value) → place_of bs x ≡ Some k → b ≡ get_or bs k b → n.name.now ≡ b.name.now → n.value ≡ v → looked (set bs k n) y ≡ (if same_bytes y x then Some v else looked bs y)
known bs k b n x y v at is e f =
    sym (looked_is (set bs k n) y)
    ∙ at_name bs k b n x y v (same_bytes y x) at is e f refl
    ∙ ap (λ o. if same_bytes y x then Some v else o) (looked_is bs y)

-- the locals after a new name
pub set_unknown : (bs : List Binding) (n : Binding) (x : List ℕ) (v : Value) → place_of bs x ≡ None → n.name.now ≡ x → n.value ≡ v → looked (bs ++ n ∷ []) ≡ with_local (looked bs) x v
set_unknown bs n x v none e f = λ i y. (unknown bs n x y v (same_bytes y x) none e f refl) i

-- the locals after a value is written at the place of its name
pub set_known : (bs : List Binding) (k : ℕ) (b n : Binding) (x : List ℕ) (v : Value) → place_of bs x ≡ Some k → b ≡ get_or bs k b → n.name.now ≡ b.name.now → n.value ≡ v → looked (set bs k n) ≡ with_local (looked bs) x v
set_known bs k b n x v at is e f = λ i y. (known bs k b n x y v at is e f) i

-- a local that no binding has isn't set
not_set : (bs : List Binding) (x : List ℕ) → place_of bs x ≡ None → looked bs x ≡ None
not_set bs x none = ap value_in (none_found bs x (nat_lt (position_or_len (is_of x) bs) (length bs)) refl none)

-- a local has the value that stands at its place
set_to : (bs : List Binding) (k : ℕ) (b : Binding) (x : List ℕ) → place_of bs x ≡ Some k → b ≡ get_or bs k b → looked bs x ≡ Some b.value
set_to bs k b x at is =
    let p = position-Some (is_of x) bs k b at in
    sym (looked_is bs x)
    ∙ ap (value_at bs) at
    ∙ ap value_in (slice_get-get_or bs k b p.0)
    ∙ ap (λ c. value_in (Some c)) (sym is)

-- what a change of a local is by the value that the local has
abbrev change_of : State → List ℕ → ℕ → (Value → Result Value Halt) → Option Value → Ran
change_of s x line op o = store s x (on_line line (set_or_fault o) >>= λ v. on_line line (op v))

-- bindings, beside what is kept of printed values
abbrev pub with_kept : List Binding → Option (List Value) → State
with_kept bs o = record { locals = looked bs; printed = o }

-- a change of a local that isn't set
pub change_unset : (bs : List Binding) (kept : Option (List Value)) (x : List ℕ) (line : ℕ) (op : Value → Result Value Halt) → place_of bs x ≡ None → changed (with_kept bs kept) line x op ≡ Failed (fault Unset line)
change_unset bs kept x line op none = ap (change_of (with_kept bs kept) x line op) (not_set bs x none)

-- a change of a local's value where it stands
pub change_known : {A : Type 0} (bs : List Binding) (kept : Option (List Value)) (k : ℕ) (b n : Binding) (x : List ℕ) (line : ℕ) (op : Value → Result Value Halt) (r : Result A Stop) → place_of bs x ≡ Some k → b ≡ get_or bs k b → n.name.now ≡ b.name.now → MeetsBy (λ a. n.value) r (on_line line (op b.value)) → Changes r (with_kept (set bs k n) kept) (changed (with_kept bs kept) line x op)
change_known bs kept k b n x line op (Ok a) at is e h =
    ap (change_of (with_kept bs kept) x line op) (set_to bs k b x at is)
    ∙ ap (store (with_kept bs kept) x) h
    ∙ ap (λ s. Next (record { locals = s; printed = kept })) (sym (set_known bs k b n x n.value at is e refl))
change_known bs kept k b n x line op (Err (stop.Halted h)) at is e f =
    ap (change_of (with_kept bs kept) x line op) (set_to bs k b x at is)
    ∙ ap (store (with_kept bs kept) x) f
change_known bs kept k b n x line op (Err stop.NoMemory) at is e f = tt

-- the first value, where there is one, or else the second
abbrev pub or_value : Option Value → Option Value → Option Value
or_value None w = w
or_value (Some v) w = Some v

-- a lookup among the first bindings, and then in one more
looked_last : (t : Bool) (n : Binding) → value_in (if t then Some n else None) ≡ (if t then Some n.value else None)
looked_last true n = refl
looked_last false n = refl

looked_past : (t : Bool) (b : Binding) (o q : Option Binding) (w : Option Value) → value_in q ≡ or_value (value_in o) w → value_in (if t then Some b else q) ≡ or_value (value_in (if t then Some b else o)) w
looked_past true b o q w e = refl
looked_past false b o q w e = e

looked_end : (bs : List Binding) (n : Binding) (y : List ℕ) → looked (bs ++ n ∷ []) y ≡ or_value (looked bs y) (if same_bytes y n.name.now then Some n.value else None)
looked_end [] n y = looked_last (same_bytes y n.name.now) n
looked_end (b ∷ bs) n y = looked_past (same_bytes y b.name.now) b (find (is_of y) bs) (find (is_of y) (bs ++ n ∷ [])) _ (looked_end bs n y)

then_or : (o w : Option Value) (t : Bool) (v : Value) → or_value (or_value o (if t then Some v else None)) w ≡ or_value o (if t then Some v else w)
then_or (Some u) w t v = refl
then_or None w true v = refl
then_or None w false v = refl

no_values : (xs : List (List ℕ)) → bound xs [] ≡ nothing_set
no_values [] = refl
no_values (x ∷ xs) = refl

or_nothing : (o : Option Value) → or_value o None ≡ o
or_nothing None = refl
or_nothing (Some v) = refl

-- the values so far are bound, and the others will be
abbrev pub IsBoundSoFar : List (List ℕ) → List Binding → List Value → Type 0
IsBoundSoFar xs bs vs = (y : List ℕ) (ws : List Value) → or_value (looked bs y) (bound (drop (length bs) xs) ws y) ≡ bound xs (vs ++ ws) y

-- one more value is bound to the next name
pub bound_more : (xs : List (List ℕ)) (bs : List Binding) (n : Binding) (vs : List Value) (v : Value) → length bs < length xs → n.name.now ≡ get_or xs (length bs) n.name.now → n.value ≡ v → IsBoundSoFar xs bs vs → IsBoundSoFar xs (bs ++ n ∷ []) (vs ++ v ∷ [])
bound_more xs bs n vs v h is e so_far =
    λ y ws.
    let t = bound (drop (length bs + 1) xs) ws in
    let next : drop (length bs) xs ≡ n.name.now ∷ drop (length bs + 1) xs = drop_more xs (length bs) n.name.now h ∙ ap (λ z. z ∷ drop (length bs + 1) xs) (sym is) in
    let len : length (bs ++ n ∷ []) ≡ length bs + 1 = omega (arith, length-append bs (n ∷ [])) in
    ap (λ k. or_value (looked (bs ++ n ∷ []) y) (bound (drop k xs) ws y)) len
    ∙ ap (λ o. or_value o (t y)) (looked_end bs n y)
    ∙ then_or (looked bs y) (t y) (same_bytes y n.name.now) n.value
    ∙ ap (λ u. or_value (looked bs y) (if same_bytes y n.name.now then Some u else t y)) e
    ∙ ap (λ zs. or_value (looked bs y) (bound zs (v ∷ ws) y)) (sym next)
    ∙ so_far y (v ∷ ws)
    ∙ ap (λ us. bound xs us y) (sym (append_assoc vs (v ∷ []) ws))

-- no name is left for one more value
pub bound_past : (xs : List (List ℕ)) (bs : List Binding) (vs : List Value) (v : Value) → length xs ≤ length bs → IsBoundSoFar xs bs vs → IsBoundSoFar xs bs (vs ++ v ∷ [])
bound_past xs bs vs v h so_far =
    λ y ws.
    ap (λ zs. or_value (looked bs y) (bound zs ws y)) (drop_all (length bs) xs h)
    ∙ ap (λ zs. or_value (looked bs y) (bound zs (v ∷ ws) y)) (sym (drop_all (length bs) xs h))
    ∙ so_far y (v ∷ ws)
    ∙ ap (λ us. bound xs us y) (sym (append_assoc vs (v ∷ []) ws))

-- all values are bound
pub bound_all : (xs : List (List ℕ)) (bs : List Binding) (vs : List Value) → IsBoundSoFar xs bs vs → looked bs ≡ bound xs vs
bound_all xs bs vs so_far =
    λ i y.
    (sym (or_nothing (looked bs y))
    ∙ ap (λ t. or_value (looked bs y) (t y)) (sym (no_values (drop (length bs) xs)))
    ∙ so_far y []
    ∙ ap (λ us. bound xs us y) (append-nil vs)) i

-- what is read as it is stays as it is
pub map_same : {A : Type 0} (xs : List A) → map (λ x. x) xs ≡ xs
map_same [] = refl
map_same (x ∷ xs) = ap (λ ys. x ∷ ys) (map_same xs)
