-- Typed programs give values of the types of their results that fit, or faults.
use Rattle.std.proofs.Common.{◌≡◌, ℕ, zero, suc, ◌+◌, Bool, true, false, List, [], ◌∷◌, length, map, Option, Some, None, if◌then◌else◌, IsTrue, refl, ap, ◌∙◌}
use Rattle.std.specs.Prelude.{◌==◌, IfSome}
use Rattle.std.specs.declared.result.Result.{Result}
use Rattle.std.specs.declared.result.Result.TheVariants.{Err}
use Rattle.std.proofs.lemmas.Bool.{eq-eqb}
use Rattle.std.proofs.lemmas.List.{length-map}
use Rattle.mpy_tree.specs.declared.limits.Limits.{Limits}
use Rattle.mpy_tree.specs.declared.value.Value.{Value}
use Rattle.mpy_tree.specs.declared.outcome.Halted.{Halted}
use Rattle.mpy_tree.specs.declared.typing.Ty.{Ty}
use Rattle.mpy_tree.specs.declared.typing.Slot.TheVariants as slot
use Rattle.mpy_tree.specs.Syntax.{Routine}
use Rattle.mpy_tree.specs.Values.{same_bytes, stuck}
use Rattle.mpy_tree.specs.Expressions.{Calls}
use Rattle.mpy_tree.specs.Statements.{Ran, Next, Broke, Continued, Returned, Failed, run_block}
use Rattle.mpy_tree.specs.Running.{bound, given_by, done_with, done_by, found, entered, enter, calls_below}
use Rattle.mpy_tree.specs.SetTypes.{FactSet, Callee, callee, called_from}
use Rattle.mpy_tree.specs.Rules.{Slots, single}
use Rattle.typed_programs.specs.Keeping.{IsFor, EndsFor, is_for, are_for, AreFor, Gives, takes_call, KeepTypes, Agrees, EndsWell, result_slot}
use Rattle.typed_programs.proofs.FittingLists.{and_true}
use Rattle.typed_programs.proofs.Statements.{with_local_agrees, block_well}
use Rattle.typed_programs.proofs.Linked.{AreFineFrom}

module _ (l : Limits) where
  -- the parameters have arguments of their types
  pub bound_agrees : (S : Slots) (j : ℕ) (xs : List (List ℕ)) (vs : List Value) → AreFor l (map (λ x. S j (slot.Local x)) xs) vs → Agrees l S j (bound xs vs)
  bound_agrees S j [] vs h = λ y w e. absurd (cc)
  bound_agrees S j (x ∷ xs) [] h = absurd (cc)
  bound_agrees S j (x ∷ xs) (v ∷ vs) h =
      let k = and_true (is_for l (S j (slot.Local x)) v) (are_for l (map (λ z. S j (slot.Local z)) xs) vs) h in
      with_local_agrees l S j (bound xs vs) x v (bound_agrees S j xs vs k.1) k.0

  so_many : (os : List (Option Ty)) (vs : List Value) → AreFor l os vs → length vs ≡ length os
  so_many [] [] h = refl
  so_many [] (v ∷ vs) h = absurd (cc)
  so_many (o ∷ os) [] h = absurd (cc)
  so_many (o ∷ os) (v ∷ vs) h = ap suc (so_many os vs (and_true (is_for l o v) (are_for l os vs) h).1)

  given_well : (S : Slots) (n line : ℕ) (r : Ran) → EndsWell l S n r → Gives (IsFor l (S n slot.Result)) (given_by line r)
  given_well S n line (Next s) h = tt
  given_well S n line (Broke s) h = tt
  given_well S n line (Continued s) h = tt
  given_well S n line (Returned None s) h = tt
  given_well S n line (Returned (Some v) s) h = h
  given_well S n line (Failed f) h = h

  with_well : (o : Option Ty) (line : ℕ) (kept : Option (List Value)) (v : Option Value) → IfSome v (IsFor l o) → Gives (EndsFor l o) (done_with line kept v)
  with_well o line None None h = tt
  with_well o line None (Some v) h = h
  with_well o line (Some vs) v h = h

  done_well : (S : Slots) (n line : ℕ) (r : Ran) → EndsWell l S n r → Gives (EndsFor l (S n slot.Result)) (done_by line r)
  done_well S n line (Next s) h = with_well (S n slot.Result) line s.printed None tt
  done_well S n line (Broke s) h = with_well (S n slot.Result) line s.printed None tt
  done_well S n line (Continued s) h = with_well (S n slot.Result) line s.printed None tt
  done_well S n line (Returned v s) h = with_well (S n slot.Result) line s.printed v h
  done_well S n line (Failed f) h = h

  taken : {A : Type 0} (P : A → Type 0) (b : Bool) (r : Result A Halted) (line : ℕ) → b ≡ true → Gives P r → Gives P (if b then r else Err (stuck line))
  taken P true r line e h = h
  taken P false r line e h = absurd (cc)

  same_length : (vs : List Value) (xs : List (List ℕ)) → length vs ≡ length xs → (length vs == length xs) ≡ true
  same_length vs xs e = eq-eqb (length vs) (length xs) e

  module _ (F : FactSet) (p : List Routine) where
    -- What a function that is entered gives for its result, where its end says so of each body that ends well.
    module _ {A : Type 0} (W : Option Ty → A → Type 0) (ends : ℕ → Ran → Result A Halted) (kept : Option (List Value)) (well : (S : Slots) (n line : ℕ) (r : Ran) → EndsWell l S n r → Gives (W (S n slot.Result)) (ends line r)) (calls : Calls) (c : KeepTypes (single F) l p calls) where
      entered_at : (b : Bool) (r : Routine) (n : ℕ) (o : Option Callee) (q : Option Routine) (vs : List Value) (line : ℕ) → (IsTrue (takes_call (single F) l (Some (callee n r)) vs) → Gives (W (single F n slot.Result)) (enter ends kept l calls (Some r) vs line)) → (IsTrue (takes_call (single F) l o vs) → Gives (W (result_slot (single F) o)) (enter ends kept l calls q vs line)) → IsTrue (takes_call (single F) l (if b then Some (callee n r) else o) vs) → Gives (W (result_slot (single F) (if b then Some (callee n r) else o))) (enter ends kept l calls (if b then Some r else q) vs line)
      entered_at true r n o q vs line h k a = h a
      entered_at false r n o q vs line h k a = k a

      -- a function that is there, among those from the number n on
      enter_gives : (rs : List Routine) (n : ℕ) → AreFineFrom F p n rs → (f : List ℕ) (vs : List Value) (line : ℕ) → IsTrue (takes_call (single F) l (called_from rs f n) vs) → Gives (W (result_slot (single F) (called_from rs f n))) (enter ends kept l calls (found rs f) vs line)
      enter_gives [] n h f vs line a = absurd (cc)
      enter_gives (r ∷ rs) n h f vs line a =
          entered_at (same_bytes f r.name) r n (called_from rs f (n + 1)) (found rs f) vs line
          (λ m. taken (W (single F n slot.Result)) (length vs == length r.params) (entered ends kept l calls r vs) line
          (same_length vs r.params (so_many (map (λ x. single F n (slot.Local x)) r.params) vs m ∙ length-map r.params (λ x. single F n (slot.Local x))))
          (well (single F) n r.line (run_block l calls r.body (record { locals = bound r.params vs; printed = kept }))
          (block_well l F p n calls c r.body h.0 (record { locals = bound r.params vs; printed = kept }) (bound_agrees (single F) n r.params vs m))))
          (enter_gives rs (n + 1) h.1 f vs line) a

    pub call_gives : (calls : Calls) → KeepTypes (single F) l p calls → AreFineFrom F p 0 p → (f : List ℕ) (vs : List Value) (line : ℕ) → IsTrue (takes_call (single F) l (called_from p f 0) vs) → Gives (IsFor l (result_slot (single F) (called_from p f 0))) (enter given_by None l calls (found p f) vs line)
    call_gives calls c h = enter_gives (IsFor l) given_by None given_well calls c p 0 h

    pub run_gives : (kept : Option (List Value)) (calls : Calls) → KeepTypes (single F) l p calls → AreFineFrom F p 0 p → (f : List ℕ) (vs : List Value) (line : ℕ) → IsTrue (takes_call (single F) l (called_from p f 0) vs) → Gives (EndsFor l (result_slot (single F) (called_from p f 0))) (enter done_by kept l calls (found p f) vs line)
    run_gives kept calls c h = enter_gives (EndsFor l) done_by kept done_well calls c p 0 h

    -- calls of typed functions, at each depth
    pub calls_keep : AreFineFrom F p 0 p → (d : ℕ) → KeepTypes (single F) l p (calls_below l p d)
    calls_keep h zero f vs line a = tt
    calls_keep h (suc d) f vs line a = call_gives (calls_below l p d) (calls_keep h d) h f vs line a
