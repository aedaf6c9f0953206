-- Calls of functions: their types, and what their outcomes read as.
use Rattle.std.proofs.Common.{◌≡◌, ◌<◌, ℕ, Bool, true, false, List, [], ◌∷◌, length, arith, refl, sym, ap, ◌∙◌, subst, Option, Some, None, is_some}
use Rattle.std.specs.Prelude.{◌==◌, if◌then◌else◌}
use Rattle.std.proofs.lemmas.Bool.Decides.{nat_tests}
use Rattle.std.proofs.lemmas.List.Elements.{All-head, All-tail}
use Rattle.std.specs.declared.result.Result.{Result}
use Rattle.mpy_tree.specs.declared.builtins.Builtin.{Builtin}
use Rattle.mpy_tree.specs.declared.limits.Limits.{Limits}
use Rattle.mpy_tree.specs.declared.outcome.Halted.{Halted}
use Rattle.mpy_tree.specs.declared.typing.Slot.{Slot}
use Rattle.mpy_tree.specs.declared.typing.Slot.TheVariants as slot
use Rattle.mpy_tree.specs.declared.typing.Ty.{Ty}
use Rattle.mpy_tree.specs.declared.value.Value.{Value}
use Rattle.mpy_tree.specs.Builtins.{builtin_of}
use Rattle.mpy_tree.specs.Expressions as meaning
use Rattle.mpy_tree.specs.Expressions.{Calls, value_of}
use Rattle.mpy_tree.specs.Rules.{Slots, call_type, called_type, callee_type}
use Rattle.mpy_tree.specs.SetTypes.{Callee, called}
use Rattle.mpy_tree.specs.Trees as kind
use Rattle.mpy_tree.specs.Trees.{Kind}
use Rattle.mpy_tree.specs.Values.{◌>>=◌, Locals}
use Rattle.bit_words.specs.Logic.{Keeps}
use Rattle.choice_tree.specs.Typing.{node_type}
use Rattle.choice_tree.specs.WeightedTrees.{Weighted, plainly, pick, children}
use Rattle.sym_values.specs.declared.value.SymOutcome.{SymOutcome}
use Rattle.sym_values.specs.Later.{outcome_later}
use Rattle.sym_values.specs.Reading.{OutcomeReads}
use Rattle.sym_nodes.specs.declared.env.Env.{Env}
use Rattle.sym_nodes.specs.Environments.{scope_of, slot_type}
use Rattle.sym_nodes.specs.Nodes.{all_of}
use Rattle.sym_nodes.specs.Operands.{ArePartsIn, IsPartIn, PartsRead}
use Rattle.sym_nodes.specs.Plain.{AllReadAsPlain, ReadsAsPlain, kind_of, root_type}
use Rattle.sym_nodes.proofs.Members.{node_plain}
use Rattle.sym_nodes.proofs.Scopes.{callees_alike, node_alike}
use Rattle.sym_nodes.proofs.TreeTypes.{node_root}
use Rattle.sym_expr.specs.Giving.{call_result, function_at}
use Rattle.sym_expr.specs.Signatures.{Signatures, given_type, scope_at}

itself : (n : ℕ) → n == n ≡ true
itself n = grind (arith, nat_tests)

not_last : (i n : ℕ) → i < n → i == n ≡ false
not_last i n h = grind (arith, nat_tests)

-- the slots of an expression's own function, and those of the others
module _ {B : Type 0} (c : Signatures) (env : Env B) where
  pub own_slot : (x : Slot) → (scope_at c env).slots (length c.program) x ≡ slot_type env.names env.values x
  own_slot x = ap (λ (b : Bool). if b then slot_type env.names env.values x else c.slots (length c.program) x) (itself (length c.program))

  pub other_slot : (i : ℕ) (x : Slot) → i < length c.program → (scope_at c env).slots i x ≡ c.slots i x
  other_slot i x h = ap (λ (b : Bool). if b then slot_type env.names env.values x else c.slots i x) (not_last i (length c.program) h)

-- a call of a function of the program
pub record IsCall (w : Weighted) (f : List ℕ) : Type 0 where
  pub kind : Some (kind.Call f) ≡ kind_of w
  pub own : builtin_of f ≡ None

pub is_call : (w : Weighted) (f : List ℕ) → function_at w ≡ Some f → IsCall w f
is_call (plainly (kind.Call x) ws) f e = named (builtin_of x) refl e
  where
    named : (b : Option Builtin) → builtin_of x ≡ b → (if is_some b then None else Some x) ≡ Some f → IsCall (plainly (kind.Call x) ws) f
    named None is h =
        let same : x ≡ f = cc in
        record { kind = ap (λ (y : List ℕ). Some (kind.Call y)) (sym same); own = ap builtin_of (sym same) ∙ is }
    named (Some b) is h = absurd cc
is_call (plainly k ws) f e = absurd cc
is_call (pick number base os) f e = absurd cc

builtin_alike : (S R : Slots) (f : List ℕ) (b : Option Builtin) (g d : Option Callee) (os : List (Option Ty))
    → (if is_some b then None else Some f) ≡ None → called_type S b g os ≡ called_type R b d os
builtin_alike S R f (Some b) g d os e = refl
builtin_alike S R f None g d os e = absurd cc

-- where none is called the functions don't count
pub no_call_typed : {B : Type 0} (c : Signatures) (env : Env B) (w : Weighted) (os : List (Option Ty)) → function_at w ≡ None
    → root_type (scope_at c env) w os ≡ root_type (scope_of env) w os
no_call_typed c env (pick number base ms) os e = refl
no_call_typed c env (plainly k ws) os e =
    node_alike (scope_at c env) (scope_of env) k os (λ x. own_slot c env (slot.Local x)) (λ f is.
    builtin_alike (scope_at c env).slots (scope_of env).slots f (builtin_of f) (called c.program f) (called [] f) os
    (ap (λ (j : Kind). function_at (plainly j ws)) (sym is) ∙ e))

own_call : (S : Slots) (l : Option Ty) (b : Option Builtin) (g : Option Callee) (os : List (Option Ty)) (t : Ty) → b ≡ None
    → call_type S l b g os ≡ Some t → callee_type S g os ≡ Some t
own_call S None None g os t is e = e
own_call S None (Some b) g os t is e = absurd cc
own_call S (Some u) b g os t is e = absurd cc

-- a call has the type of what its function gives
pub call_typed : {B : Type 0} (c : Signatures) (env : Env B) (w : Weighted) (f : List ℕ) (os : List (Option Ty)) (t : Ty) → IsCall w f
    → root_type (scope_at c env) w os ≡ Some t → given_type c f os ≡ Some t
call_typed c env w f os t h e =
    let σ = scope_at c env in
    let node : node_type σ (kind.Call f) os ≡ Some t = sym (node_root σ (kind.Call f) w os h.kind) ∙ e in
    sym (callees_alike σ.slots c.slots c.program f os (λ i x k. other_slot c env i x k))
    ∙ own_call σ.slots (σ.slots σ.number (slot.Local f)) (builtin_of f) (called c.program f) os t h.own node

-- parts read as before
module _ {S B : Type 0} {owns : S → B → Type 0} {reads : S → List Bool → B → Bool} where
  pub parts_read_later : {s t : S} (l : Limits) → Keeps owns reads s t → (vs : List Bool) (os : List (SymOutcome B)) (rs : List (Result Value Halted))
      → ArePartsIn owns s l os → PartsRead (reads s vs) os rs → PartsRead (reads t vs) os rs
  parts_read_later l p vs [] [] h k = k
  parts_read_later l p vs [] (r ∷ rs) h k = absurd k
  parts_read_later l p vs (o ∷ os) [] h k = absurd k
  parts_read_later {s} l p vs (o ∷ os) (r ∷ rs) h k = (
    outcome_later o p (All-head (IsPartIn owns s l) o os h.each) vs r k.0,
    parts_read_later l p vs os rs (record { each = All-tail (IsPartIn owns s l) o os h.each }) k.1,
  )

-- the outcome of a call reads as what the function gives on the values of the arguments
module _ {B : Type 0} (rd rd' : B → Bool) (l : Limits) (calls : Calls) (s : Locals) (line : ℕ) (m : ℕ → ℕ) where
  pub call_plain : (f : List ℕ) (w : Weighted) (os : List (SymOutcome B)) (o : SymOutcome B) → IsCall w f
      → ((rs : List (Result Value Halted)) → PartsRead rd os rs → OutcomeReads rd' o (call_result calls f line rs))
      → AllReadAsPlain rd (value_of l calls s line) m os (children w) → ReadsAsPlain rd' (value_of l calls s line) m o w
  call_plain f w os o h k all =
      let node = λ (rs : List (Result Value Halted)). ap (λ (b : Option Builtin). all_of rs >>= λ vs. meaning.called l calls b f vs line) h.own in
      node_plain rd rd' l calls s line m (kind.Call f) w os o h.kind
      (λ rs p. subst (λ (r : Result Value Halted). OutcomeReads rd' o r) (sym (node rs)) (k rs p)) all
