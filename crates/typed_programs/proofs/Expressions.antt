-- Typed expressions give values of their type that fit, or a fault.
use Rattle.std.proofs.Common.{◌≡◌, ℕ, Bool, true, false, not, ◌&&◌, List, [], ◌∷◌, map, Option, Some, None, if◌then◌else◌, IsTrue, pos, refl, sym, ap, ◌∙◌, subst}
use Rattle.std.specs.Prelude.{is_some, length}
use Rattle.std.specs.List.{list_all}
use Rattle.std.specs.declared.result.Result.{Result}
use Rattle.std.specs.declared.result.Result.TheVariants.{Ok, Err}
use Rattle.mpy_tree.specs.declared.limits.Limits.{Limits}
use Rattle.mpy_tree.specs.declared.value.Value.{Value}
use Rattle.mpy_tree.specs.declared.value.Value.TheVariants as value
use Rattle.mpy_tree.specs.declared.builtins.Builtin.{Builtin}
use Rattle.mpy_tree.specs.declared.builtins.Builtin.TheVariants.{Len, Abs, Min, Max, Range}
use Rattle.mpy_tree.specs.declared.outcome.Halt.{Halt}
use Rattle.mpy_tree.specs.declared.outcome.Halted.{Halted}
use Rattle.mpy_tree.specs.declared.typing.Ty.{Ty}
use Rattle.mpy_tree.specs.declared.typing.Ty.TheVariants as ty
use Rattle.mpy_tree.specs.declared.typing.Slot.TheVariants as slot
use Rattle.mpy_tree.specs.Syntax.{Term, Terms, MaybeTerm, no_terms, term_and, no_term, a_term, Routine}
use Rattle.mpy_tree.specs.Syntax as ast
use Rattle.mpy_tree.specs.Builtins.{builtin_of, takes}
use Rattle.mpy_tree.specs.Values.{◌>>=◌, on_line, Locals, set_or_fault}
use Rattle.mpy_tree.specs.Operations.{holds, number, text_within, negative, arith, compare, truth, index}
use Rattle.mpy_tree.specs.Expressions.{Calls, value_of, values_of, maybe_value_of, both, either, list_of, slice_of, apply, builtin, called as called_by}
use Rattle.mpy_tree.specs.SetTypes.{Callee, called, builtin_gives}
use Rattle.mpy_tree.specs.Options.{◌>>=◌ as ◌>?◌}
use Rattle.mpy_tree.specs.Rules.{Slots, type_in, all_types, both_are, choice_type, negative_type, arith_type, compare_type, index_type, same_type, slice_type, is_type, all_numbers, all_sequences, end_types, are_operands, is_argument, are_arguments, callee_type, called_type, call_type}
use Rattle.mpy_tree.specs.Fitting.{type_of}
use Rattle.typed_programs.specs.Keeping.{IsOf, IsFor, is_for, are_for, AreFor, Gives, takes_call, KeepTypes, result_slot, Agrees}
use Rattle.typed_programs.proofs.FittingLists.{and_true, and_both}
use Rattle.typed_programs.proofs.Operators.{Fits, Yields, same_is, has_type, that_fits, some_is, number_yields, text_yields, negative_yields, arith_yields, compare_yields, index_yields}
use Rattle.typed_programs.proofs.Arguments.{if_given, is_type_some, for_type, numbers_of, list_of_yields, builtin_yields, IsEnd, slice_of_yields}

pub truths : (a b t : Ty) → both_are ty.Bool a b ≡ Some t → (a ≡ ty.Bool) × (b ≡ ty.Bool) × (t ≡ ty.Bool)
truths ty.Bool ty.Bool t e = (refl, refl, cc)
truths _ _ t e = absurd (cc)

pub first_of : (a b t : Ty) (c : Bool) → same_type a b ≡ c → (if c then Some a else None) ≡ Some t → (a ≡ t) × (b ≡ t)
first_of a b t true k e = let f : a ≡ b = same_is a b k in (cc, cc)
first_of a b t false k e = absurd (cc)

pub if_some : (b : Bool) (o : Option Ty) (t : Ty) → (if b then o else None) ≡ Some t → (b ≡ true) × (o ≡ Some t)
if_some true o t e = (refl, e)
if_some false o t e = absurd (cc)

-- operands of a type each
numbers_some : (os : List (Option Ty)) → all_numbers os ≡ true → list_all is_some os ≡ true
numbers_some [] e = refl
numbers_some (None ∷ os) e = absurd (cc)
numbers_some (Some ty.Int ∷ os) e = numbers_some os e
numbers_some (Some ty.Bool ∷ os) e = absurd (cc)
numbers_some (Some ty.List ∷ os) e = absurd (cc)
numbers_some (Some ty.Text ∷ os) e = absurd (cc)

sequences_some : (os : List (Option Ty)) → all_sequences os ≡ true → list_all is_some os ≡ true
sequences_some [] e = refl
sequences_some (None ∷ os) e = absurd (cc)
sequences_some (Some ty.Int ∷ os) e = absurd (cc)
sequences_some (Some ty.Bool ∷ os) e = absurd (cc)
sequences_some (Some ty.List ∷ os) e = sequences_some os e
sequences_some (Some ty.Text ∷ os) e = sequences_some os e

operands_some : (b : Builtin) (os : List (Option Ty)) → are_operands b os ≡ true → list_all is_some os ≡ true
operands_some Len os e = sequences_some os e
operands_some Abs os e = numbers_some os e
operands_some Min os e = numbers_some os e
operands_some Max os e = numbers_some os e
operands_some Range os e = numbers_some os e

argument_some : (s o : Option Ty) (os : List (Option Ty)) → is_argument s o ≡ true → list_all is_some os ≡ true → list_all is_some (o ∷ os) ≡ true
argument_some None o os e h = absurd (cc)
argument_some (Some u) None os e h = absurd (cc)
argument_some (Some u) (Some t) os e h = h

module _ (S : Slots) where
  pub not_local : (o : Option Ty) (b : Option Builtin) (g : Option Callee) (os : List (Option Ty)) (t : Ty) → call_type S o b g os ≡ Some t → called_type S b g os ≡ Some t
  not_local None b g os t e = e
  not_local (Some u) b g os t e = absurd (cc)

  arguments_some : (j : ℕ) (xs : List (List ℕ)) (os : List (Option Ty)) → are_arguments S j xs os ≡ true → list_all is_some os ≡ true
  arguments_some j [] [] e = refl
  arguments_some j [] (o ∷ os) e = absurd (cc)
  arguments_some j (x ∷ xs) [] e = absurd (cc)
  arguments_some j (x ∷ xs) (o ∷ os) e =
      let k = and_true (is_argument (S j (slot.Local x)) o) (are_arguments S j xs os) e in
      argument_some (S j (slot.Local x)) o os k.0 (arguments_some j xs os k.1)

  called_some : (b : Option Builtin) (g : Option Callee) (os : List (Option Ty)) (t : Ty) → called_type S b g os ≡ Some t → list_all is_some os ≡ true
  called_some (Some b) g os t e =
      let k = if_given (takes b (length os) && are_operands b os) (builtin_gives b) t e in
      operands_some b os (and_true (takes b (length os)) (are_operands b os) k.0).1
  called_some None None os t e = absurd (cc)
  called_some None (Some g) os t e = arguments_some g.number g.routine.params os (if_some (are_arguments S g.number g.routine.params os) (S g.number slot.Result) t e).0

module _ (l : Limits) (line : ℕ) where
  abbrev pub GivesOf : Ty → Result Value Halted → Type 0
  GivesOf t r = Gives (IsOf l t) r

  -- an operation in a statement
  pub at_line : (t : Ty) (r : Result Value Halt) → Yields l t r → GivesOf t (on_line line r)
  at_line t (Ok v) h = h
  at_line t (Err k) h = h

  -- an operand, and then the operation
  unary : (o : Option Ty) (r : Result Value Halted) → ((t : Ty) → o ≡ Some t → GivesOf t r) → (f : Ty → Option Ty) (g : Value → Result Value Halted) → ((v : Value) (t : Ty) → Fits l v → f (type_of v) ≡ Some t → GivesOf t (g v)) → (t : Ty) → (o >? f) ≡ Some t → GivesOf t (r >>= g)
  unary None r h f g k t e = absurd (cc)
  unary (Some a) (Err x) h f g k t e = h a refl
  unary (Some a) (Ok v) h f g k t e = k v t (that_fits l a v (h a refl)) (ap f (has_type l a v (h a refl)) ∙ e)

  binary : (o q : Option Ty) (r z : Result Value Halted) → ((t : Ty) → o ≡ Some t → GivesOf t r) → ((t : Ty) → q ≡ Some t → GivesOf t z) → (f : Ty → Ty → Option Ty) (g : Value → Value → Result Value Halted) → ((v w : Value) (t : Ty) → Fits l v → Fits l w → f (type_of v) (type_of w) ≡ Some t → GivesOf t (g v w)) → (t : Ty) → (o >? λ a. q >? λ b. f a b) ≡ Some t → GivesOf t (r >>= λ v. z >>= λ w. g v w)
  binary None q r z h k f g m t e = absurd (cc)
  binary (Some a) None r z h k f g m t e = absurd (cc)
  binary (Some a) (Some b) (Err x) z h k f g m t e = h a refl
  binary (Some a) (Some b) (Ok v) (Err x) h k f g m t e = k b refl
  binary (Some a) (Some b) (Ok v) (Ok w) h k f g m t e =
      m v w t (that_fits l a v (h a refl)) (that_fits l b w (k b refl))
      (ap (λ u. f u (type_of w)) (has_type l a v (h a refl)) ∙ ap (f a) (has_type l b w (k b refl)) ∙ e)

  picked : (c : Bool) (t : Ty) (r z : Result Value Halted) → GivesOf t r → GivesOf t z → GivesOf t (if c then r else z)
  picked true t r z h k = h
  picked false t r z h k = k

  -- a conditional
  chosen : (o q w : Option Ty) (r z y : Result Value Halted) → ((t : Ty) → o ≡ Some t → GivesOf t r) → ((t : Ty) → q ≡ Some t → GivesOf t z) → ((t : Ty) → w ≡ Some t → GivesOf t y) → (t : Ty) → (o >? λ a. q >? λ b. w >? λ c. choice_type b c) ≡ Some t → GivesOf t (r >>= λ v. if holds v then z else y)
  chosen None q w r z y h k m t e = absurd (cc)
  chosen (Some a) None w r z y h k m t e = absurd (cc)
  chosen (Some a) (Some b) None r z y h k m t e = absurd (cc)
  chosen (Some a) (Some b) (Some c) (Err x) z y h k m t e = h a refl
  chosen (Some a) (Some b) (Some c) (Ok v) z y h k m t e =
      let f : (b ≡ t) × (c ≡ t) = first_of b c t (same_type b c) refl e in
      picked (holds v) t z y (k t (ap Some f.0)) (m t (ap Some f.1))

  left_side : (v : Value) (z : Result Value Halted) → IsOf l ty.Bool v → GivesOf ty.Bool z → GivesOf ty.Bool (both v z line) × GivesOf ty.Bool (either v z line)
  left_side (value.Bool true) z e h = (h, refl)
  left_side (value.Bool false) z e h = (refl, h)
  left_side (value.Int _) z e h = absurd (cc)
  left_side (value.List _) z e h = absurd (cc)
  left_side (value.Text _) z e h = absurd (cc)

  -- `and` and `or`
  shorts : (o q : Option Ty) (r z : Result Value Halted) → ((t : Ty) → o ≡ Some t → GivesOf t r) → ((t : Ty) → q ≡ Some t → GivesOf t z) → (t : Ty) → (o >? λ a. q >? λ b. both_are ty.Bool a b) ≡ Some t → GivesOf t (r >>= λ v. both v z line) × GivesOf t (r >>= λ v. either v z line)
  shorts None q r z h k t e = absurd (cc)
  shorts (Some a) None r z h k t e = absurd (cc)
  shorts (Some a) (Some b) (Err x) z h k t e = (h a refl, h a refl)
  shorts (Some a) (Some b) (Ok v) z h k t e =
      let f = truths a b t e in
      let P : Ty → Type 0 = λ u. GivesOf u (both v z line) × GivesOf u (either v z line) in
      let Q : Ty → Type 0 = λ u. IsOf l u v in
      subst P (sym f.2) (left_side v z (subst Q f.0 (h a refl)) (k ty.Bool (ap Some f.1)))

  -- values for these slots
  one_more : (o : Option Ty) (os : List (Option Ty)) (r : Result Value Halted) (z : Result (List Value) Halted) → ((t : Ty) → o ≡ Some t → GivesOf t r) → (list_all is_some os ≡ true → Gives (AreFor l os) z) → list_all is_some (o ∷ os) ≡ true → Gives (AreFor l (o ∷ os)) (r >>= λ v. z >>= λ vs. Ok (v ∷ vs))
  one_more None os r z h k e = absurd (cc)
  one_more (Some a) os (Err x) z h k e = h a refl
  one_more (Some a) os (Ok v) (Err x) h k e = k e
  one_more (Some a) os (Ok v) (Ok vs) h k e = and_both (is_for l (Some a) v) (are_for l os vs) (h a refl) (k e)

  -- an operation on what was computed
  pub after : {A B : Type 0} (P : A → Type 0) (Q : B → Type 0) (r : Result A Halted) (g : A → Result B Halted) → Gives P r → ((a : A) → P a → Gives Q (g a)) → Gives Q (r >>= g)
  after P Q (Err x) g h k = h
  after P Q (Ok a) g h k = k a h

  end_given : (o : Option Ty) (r : Result Value Halted) → ((t : Ty) → o ≡ Some t → GivesOf t r) → all_numbers (o ∷ []) ≡ true → Gives (IsEnd l) (r >>= λ v. Ok (Some v))
  end_given o (Ok v) h e = h ty.Int (is_type_some ty.Int o (and_true (is_type ty.Int o) true e).0)
  end_given o (Err x) h e = h ty.Int (is_type_some ty.Int o (and_true (is_type ty.Int o) true e).0)

  sliced_at : (v : Value) (x y : Result (Option Value) Halted) → Fits l v → Gives (IsEnd l) x → Gives (IsEnd l) y → (t : Ty) → slice_type (type_of v) ≡ Some t → GivesOf t (x >>= λ i. y >>= λ j. on_line line (slice_of v i j))
  sliced_at v (Err f) y q h k t e = h
  sliced_at v (Ok i) (Err f) q h k t e = k
  sliced_at v (Ok i) (Ok j) q h k t e = at_line t (slice_of v i j) (slice_of_yields l v t i j q h k e)

  sliced : (o : Option Ty) (a b : Bool) (r : Result Value Halted) (x y : Result (Option Value) Halted) → ((t : Ty) → o ≡ Some t → GivesOf t r) → (a ≡ true → Gives (IsEnd l) x) → (b ≡ true → Gives (IsEnd l) y) → (t : Ty) → (o >? λ u. if a && b then slice_type u else None) ≡ Some t → GivesOf t (r >>= λ v. x >>= λ i. y >>= λ j. on_line line (slice_of v i j))
  sliced None a b r x y h k m t e = absurd (cc)
  sliced (Some u) a b (Err f) x y h k m t e = h u refl
  sliced (Some u) a b (Ok v) x y h k m t e =
      let f = if_some (a && b) (slice_type u) t e in
      let g = and_true a b f.0 in
      sliced_at v x y (that_fits l u v (h u refl)) (k g.0) (m g.1) t (ap slice_type (has_type l u v (h u refl)) ∙ f.1)

module _ (l : Limits) (S : Slots) where
  -- a parameter gets an argument of its type
  argument_for : (q o : Option Ty) (v : Value) → IsFor l o v → is_argument q o ≡ true → IsFor l q v
  argument_for None o v h e = absurd (cc)
  argument_for (Some t) o v h e = for_type l o v t (is_type_some t o e) h

  arguments_for : (j : ℕ) (xs : List (List ℕ)) (os : List (Option Ty)) (vs : List Value) → AreFor l os vs → are_arguments S j xs os ≡ true → AreFor l (map (λ x. S j (slot.Local x)) xs) vs
  arguments_for j [] [] vs h e = h
  arguments_for j [] (o ∷ os) vs h e = absurd (cc)
  arguments_for j (x ∷ xs) [] vs h e = absurd (cc)
  arguments_for j (x ∷ xs) (o ∷ os) [] h e = absurd (cc)
  arguments_for j (x ∷ xs) (o ∷ os) (v ∷ vs) h e =
      let k = and_true (is_argument (S j (slot.Local x)) o) (are_arguments S j xs os) e in
      let m = and_true (is_for l o v) (are_for l os vs) h in
      and_both (is_for l (S j (slot.Local x)) v) (are_for l (map (λ z. S j (slot.Local z)) xs) vs) (argument_for (S j (slot.Local x)) o v m.0 k.0) (arguments_for j xs os vs m.1 k.1)

  callee_for : (g : Option Callee) (os : List (Option Ty)) (vs : List Value) (t : Ty) → AreFor l os vs → callee_type S g os ≡ Some t → IsTrue (takes_call S l g vs) × (result_slot S g ≡ Some t)
  callee_for None os vs t h e = absurd (cc)
  callee_for (Some g) os vs t h e =
      let k = if_some (are_arguments S g.number g.routine.params os) (S g.number slot.Result) t e in
      (arguments_for g.number g.routine.params os vs h k.0, k.1)

  module _ (p : List Routine) (calls : Calls) (c : KeepTypes S l p calls) (line : ℕ) where
    call_gives : (b : Option Builtin) (f : List ℕ) (os : List (Option Ty)) (vs : List Value) (t : Ty) → AreFor l os vs → called_type S b (called p f) os ≡ Some t → GivesOf l line t (called_by l calls b f vs line)
    call_gives (Some b) f os vs t h e = at_line l line t (builtin l b vs) (builtin_yields l b os vs t h e)
    call_gives None f os vs t h e =
        let k = callee_for (called p f) os vs t h e in
        let P : Option Ty → Type 0 = λ o. Gives (IsFor l o) (calls f vs line) in
        subst P k.1 (c f vs line k.0)

    module _ (i : ℕ) (s : Locals) (a : Agrees l S i s) where
      local_at : (x : List ℕ) (t : Ty) → S i (slot.Local x) ≡ Some t → (o : Option Value) → s x ≡ o → GivesOf l line t (on_line line (set_or_fault o))
      local_at x t k None e = tt
      local_at x t k (Some v) e = for_type l (S i (slot.Local x)) v t k (a x v e)

      pub local_gives : (x : List ℕ) (t : Ty) → S i (slot.Local x) ≡ Some t → GivesOf l line t (on_line line (set_or_fault (s x)))
      local_gives x t k = local_at x t k (s x) refl

      abbrev type : Term → Option Ty
      type = type_in S p i

      abbrev given : Term → Result Value Halted
      given = value_of l calls s line

      mutual
        pub gives : (e : Term) (t : Ty) → type e ≡ Some t → GivesOf l line t (given e)
        gives (ast.Int n) t e = at_line l line t (number l (pos n)) (some_is l ty.Int t (number l (pos n)) e (number_yields l (pos n)))
        gives (ast.Bool b) t e = some_is l ty.Bool t (Ok (value.Bool b)) e refl
        gives (ast.Text cs) t e = at_line l line t (text_within l cs) (some_is l ty.Text t (text_within l cs) e (text_yields l cs))
        gives (ast.Name x) t e = local_gives x t e
        gives (ast.Neg b) t e = unary l line (type b) (given b) (gives b) negative_type (λ v. on_line line (negative l v)) (λ v u f h. at_line l line u (negative l v) (negative_yields l v u h)) t e
        gives (ast.Not b) t e = unary l line (type b) (given b) (gives b) (λ u. Some ty.Bool) (λ v. Ok (value.Bool (not (holds v)))) (λ v u f h. some_is l ty.Bool u (Ok (value.Bool (not (holds v)))) h refl) t e
        gives (ast.Arith op b d) t e = binary l line (type b) (type d) (given b) (given d) (gives b) (gives d) (arith_type op) (λ v w. on_line line (arith l op v w)) (λ v w u f g h. at_line l line u (arith l op v w) (arith_yields l op v w u f g h)) t e
        gives (ast.Cmp op b d) t e = binary l line (type b) (type d) (given b) (given d) (gives b) (gives d) (compare_type op) (λ v w. on_line line (truth (compare op v w))) (λ v w u f g h. at_line l line u (truth (compare op v w)) (compare_yields l op v w u h)) t e
        gives (ast.Index b d) t e = binary l line (type b) (type d) (given b) (given d) (gives b) (gives d) index_type (λ v w. on_line line (index v w)) (λ v w u f g h. at_line l line u (index v w) (index_yields l v w u f h)) t e
        gives (ast.Cond b d f) t e = chosen l line (type b) (type d) (type f) (given b) (given d) (given f) (gives b) (gives d) (gives f) t e
        gives (ast.And b d) t e = (shorts l line (type b) (type d) (given b) (given d) (gives b) (gives d) t e).0
        gives (ast.Or b d) t e = (shorts l line (type b) (type d) (given b) (given d) (gives b) (gives d) t e).1
        gives (ast.List es) t e =
            let os = all_types S p i es in
            let f = if_given (all_numbers os) ty.List t e in
            let P : Ty → Type 0 = λ u. GivesOf l line u (given (ast.List es)) in
            subst P f.1 (after l line (AreFor l os) (IsOf l ty.List) (values_of l calls s line es) (λ vs. on_line line (list_of l vs)) (all_give es (numbers_some os f.0))
            (λ vs h. at_line l line ty.List (list_of l vs) (list_of_yields l vs (numbers_of l os vs h f.0).0)))
        gives (ast.Slice b from to) t e = sliced l line (type b) (all_numbers (end_types S p i from)) (all_numbers (end_types S p i to)) (given b) (maybe_value_of l calls s line from) (maybe_value_of l calls s line to) (gives b) (end_gives from) (end_gives to) t e
        gives (ast.Call f es) t e =
            let os = all_types S p i es in
            let k : called_type S (builtin_of f) (called p f) os ≡ Some t = not_local S (S i (slot.Local f)) (builtin_of f) (called p f) os t e in
            after l line (AreFor l os) (IsOf l t) (values_of l calls s line es) (λ vs. apply l calls f vs line) (all_give es (called_some S (builtin_of f) (called p f) os t k))
            (λ vs h. call_gives (builtin_of f) f os vs t h k)

        all_give : (es : Terms) → list_all is_some (all_types S p i es) ≡ true → Gives (AreFor l (all_types S p i es)) (values_of l calls s line es)
        all_give no_terms e = refl
        all_give (term_and b es) e = one_more l line (type b) (all_types S p i es) (given b) (values_of l calls s line es) (gives b) (all_give es) e

        end_gives : (m : MaybeTerm) → all_numbers (end_types S p i m) ≡ true → Gives (IsEnd l) (maybe_value_of l calls s line m)
        end_gives no_term e = tt
        end_gives (a_term b) e = end_given l line (type b) (given b) (gives b) e
