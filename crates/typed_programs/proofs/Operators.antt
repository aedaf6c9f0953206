-- Operations on operands of the types that they take, which fit: never stuck, and what they give fits.
use Rattle.std.proofs.Common.{◌≡◌, ℕ, zero, suc, ◌-◌, ◌^◌, Bool, true, false, List, [], ◌∷◌, ◌++◌, length, Option, Some, None, if◌then◌else◌, cond, ℤ, pos, negsuc, refl, sym, ap, ◌∙◌, subst, arith}
use Rattle.std.specs.Prelude.{⊤, MatchResult, nat_le, slice_get, slice_set, nat_abs, int_lt}
use Rattle.std.specs.List.{list_all}
use Rattle.std.proofs.lemmas.Bool.{lt-ltb}
use Rattle.std.proofs.lemmas.Nat.{pow_pos}
use Rattle.std.specs.declared.result.Result.{Result}
use Rattle.std.specs.declared.result.Result.TheVariants.{Ok, Err}
use Rattle.mpy_tree.specs.declared.limits.Limits.{Limits}
use Rattle.mpy_tree.specs.declared.value.Value.{Value}
use Rattle.mpy_tree.specs.declared.value.Value.TheVariants as value
use Rattle.mpy_tree.specs.declared.operators.ArithOp.{ArithOp}
use Rattle.mpy_tree.specs.declared.operators.ArithOp.TheVariants.{Add, Sub, Mul, Floor, Rem, Power}
use Rattle.mpy_tree.specs.declared.operators.CmpOp.{CmpOp}
use Rattle.mpy_tree.specs.declared.operators.CmpOp.TheVariants.{Eq, Ne, Lt, Le, Gt, Ge, Member, NotMember}
use Rattle.mpy_tree.specs.declared.outcome.FaultKind.TheVariants as fault
use Rattle.mpy_tree.specs.declared.outcome.Halt.{Halt}
use Rattle.mpy_tree.specs.declared.outcome.Halt.TheVariants.{Fault}
use Rattle.mpy_tree.specs.declared.typing.Ty.{Ty}
use Rattle.mpy_tree.specs.declared.typing.Ty.TheVariants as ty
use Rattle.mpy_tree.specs.Values.{◌>>=◌}
use Rattle.mpy_tree.specs.Operations.{number, fits, list_within, text_within, is_zero, quotient, remainder, power, copy_count, sum, product, on_numbers, arith as operated, negative, absolute, compare, equal, ordered, member, opposite, truth, index, element, element_or_fault, index_in, range, range_count, progression, replaced, put, append, least, greatest, cut, slice}
use Rattle.mpy_tree.specs.Rules.{same_type, sum_type, product_type, arith_type, both_are, negative_type, compare_type, equal_type, order_type, member_type, index_type, member_of, slice_type}
use Rattle.mpy_tree.specs.Fitting.{type_of, value_fits}
use Rattle.typed_programs.specs.Keeping.{IsFault, IsOf}
use Rattle.typed_programs.proofs.FittingLists.{and_true, and_both, joined_pass, copies_pass, changed_pass, cut_passes, no_longer, cut_no_longer, changed_no_longer}
use Rattle.typed_programs.proofs.Ranges.{numbers_fit, progression_length}

pub same_is : (t u : Ty) → same_type t u ≡ true → t ≡ u
same_is ty.Int ty.Int e = refl
same_is ty.Bool ty.Bool e = refl
same_is ty.List ty.List e = refl
same_is ty.Text ty.Text e = refl
same_is _ _ e = absurd (cc)

same_self : (t : Ty) → same_type t t ≡ true
same_self ty.Int = refl
same_self ty.Bool = refl
same_self ty.List = refl
same_self ty.Text = refl

of_equal : (b : Bool) (t : Ty) → (if b then Some ty.Bool else None) ≡ Some t → ty.Bool ≡ t
of_equal true t e = cc
of_equal false t e = absurd (cc)

of_order : (a b t : Ty) → order_type a b ≡ Some t → ty.Bool ≡ t
of_order ty.Int ty.Int t e = cc
of_order _ _ t e = absurd (cc)

of_member : (a b t : Ty) → member_type a b ≡ Some t → ty.Bool ≡ t
of_member ty.Int ty.List t e = cc
of_member ty.Text ty.Text t e = cc
of_member _ _ t e = absurd (cc)

-- comparisons give a truth
pub truth_is : (a b t : Ty) (op : CmpOp) → compare_type op a b ≡ Some t → ty.Bool ≡ t
truth_is a b t Eq e = of_equal (same_type a b) t e
truth_is a b t Ne e = of_equal (same_type a b) t e
truth_is a b t Lt e = of_order a b t e
truth_is a b t Le e = of_order a b t e
truth_is a b t Gt e = of_order a b t e
truth_is a b t Ge e = of_order a b t e
truth_is a b t Member e = of_member a b t e
truth_is a b t NotMember e = of_member a b t e

module _ (l : Limits) where
  abbrev pub Fits : Value → Type 0
  Fits v = value_fits l v ≡ true

  pub has_type : (t : Ty) (v : Value) → IsOf l t v → type_of v ≡ t
  has_type t v h = sym (same_is t (type_of v) (and_true (same_type t (type_of v)) (value_fits l v) h).0)

  pub that_fits : (t : Ty) (v : Value) → IsOf l t v → Fits v
  that_fits t v h = (and_true (same_type t (type_of v)) (value_fits l v) h).1

  -- an operation gives a value of the type that fits, or a fault
  abbrev pub Yields : Ty → Result Value Halt → Type 0
  Yields t r = MatchResult r (IsOf l t) IsFault

  -- the one type that a rule gives
  pub some_is : (a b : Ty) (r : Result Value Halt) → Some a ≡ Some b → Yields a r → Yields b r
  some_is a b r e h = let e' : a ≡ b = cc in let P : Ty → Type 0 = λ t. Yields t r in subst P e' h

  either_yields : (b : Bool) (v : Value) (h : Halt) (t : Ty) → (b ≡ true → IsOf l t v) → IsFault h → Yields t (if b then Ok v else Err h)
  either_yields true v h t f g = f refl
  either_yields false v h t f g = g

  pub number_yields : (z : ℤ) → Yields ty.Int (number l z)
  number_yields z = either_yields (fits l z) (value.Int z) (Fault fault.Overflow) ty.Int (λ e. e) tt

  pub list_yields : (zs : List ℤ) → list_all (fits l) zs ≡ true → Yields ty.List (list_within l zs)
  list_yields zs h = either_yields (nat_le (length zs) l.cap) (value.List zs) (Fault fault.Length) ty.List (λ e. and_both (nat_le (length zs) l.cap) (list_all (fits l) zs) e h) tt

  pub text_yields : (cs : List ℕ) → Yields ty.Text (text_within l cs)
  text_yields cs = either_yields (nat_le (length cs) l.cap) (value.Text cs) (Fault fault.Length) ty.Text (λ e. e) tt

  guarded : (b : Bool) (k : Halt) (t : Ty) (r : Result Value Halt) → IsFault k → (b ≡ false → Yields t r) → Yields t (if b then Err k else r)
  guarded true k t r h g = h
  guarded false k t r h g = g refl

  -- a list that fits is within the cap, and its numbers fit
  pub list_fits : (zs : List ℤ) → Fits (value.List zs) → (nat_le (length zs) l.cap ≡ true) × (list_all (fits l) zs ≡ true)
  list_fits zs h = and_true (nat_le (length zs) l.cap) (list_all (fits l) zs) h

  sum_yields : (v w : Value) (t : Ty) → Fits v → Fits w → sum_type (type_of v) (type_of w) ≡ Some t → Yields t (sum l v w)
  sum_yields (value.Int a) (value.Int b) t f g e = some_is _ _ _ e (number_yields _)
  sum_yields (value.List a) (value.List b) t f g e = some_is _ _ _ e (list_yields _ (joined_pass (fits l) a b (list_fits a f).1 (list_fits b g).1))
  sum_yields (value.Text a) (value.Text b) t f g e = some_is _ _ _ e (text_yields _)
  sum_yields v w t f g e = absurd (cc)

  product_yields : (v w : Value) (t : Ty) → Fits v → product_type (type_of v) (type_of w) ≡ Some t → Yields t (product l v w)
  product_yields (value.Int a) (value.Int b) t f e = some_is _ _ _ e (number_yields _)
  product_yields (value.List a) (value.Int b) t f e = some_is _ _ _ e (list_yields _ (copies_pass (fits l) (copy_count b) a (list_fits a f).1))
  product_yields (value.Text a) (value.Int b) t f e = some_is _ _ _ e (text_yields _)
  product_yields v w t f e = absurd (cc)

  numbers_yield : (f : ℤ → ℤ → Result Value Halt) → ((a b : ℤ) → Yields ty.Int (f a b)) → (v w : Value) (t : Ty) → both_are ty.Int (type_of v) (type_of w) ≡ Some t → Yields t (on_numbers f v w)
  numbers_yield f h (value.Int a) (value.Int b) t e = some_is _ _ _ e (h a b)
  numbers_yield f h v w t e = absurd (cc)

  power_yields : (a b : ℤ) → Yields ty.Int (power l a b)
  power_yields a (pos n) = number_yields _
  power_yields a (negsuc n) = tt

  pub arith_yields : (op : ArithOp) (v w : Value) (t : Ty) → Fits v → Fits w → arith_type op (type_of v) (type_of w) ≡ Some t → Yields t (operated l op v w)
  arith_yields Add v w t f g e = sum_yields v w t f g e
  arith_yields Sub v w t f g e = numbers_yield _ (λ a b. number_yields _) v w t e
  arith_yields Mul v w t f g e = product_yields v w t f e
  arith_yields Floor v w t f g e = numbers_yield (quotient l) (λ a b. guarded (is_zero b) (Fault fault.Divisor) ty.Int _ tt (λ k. number_yields _)) v w t e
  arith_yields Rem v w t f g e = numbers_yield (remainder l) (λ a b. guarded (is_zero b) (Fault fault.Divisor) ty.Int _ tt (λ k. number_yields _)) v w t e
  arith_yields Power v w t f g e = numbers_yield (power l) power_yields v w t e

  pub negative_yields : (v : Value) (t : Ty) → negative_type (type_of v) ≡ Some t → Yields t (negative l v)
  negative_yields (value.Int a) t e = some_is _ _ _ e (number_yields _)
  negative_yields v t e = absurd (cc)

  -- comparisons
  abbrev IsAnswer : Result Bool Halt → Type 0
  IsAnswer r = MatchResult r (λ b. ⊤) IsFault

  equal_answers : (v w : Value) (t : Ty) → equal_type (type_of v) (type_of w) ≡ Some t → IsAnswer (equal v w)
  equal_answers (value.Int a) (value.Int b) t e = tt
  equal_answers (value.Bool a) (value.Bool b) t e = tt
  equal_answers (value.List a) (value.List b) t e = tt
  equal_answers (value.Text a) (value.Text b) t e = tt
  equal_answers v w t e = absurd (cc)

  order_answers : (f : ℤ → ℤ → Bool) (v w : Value) (t : Ty) → order_type (type_of v) (type_of w) ≡ Some t → IsAnswer (ordered f v w) × IsAnswer (ordered f w v)
  order_answers f (value.Int a) (value.Int b) t e = (tt, tt)
  order_answers f v w t e = absurd (cc)

  member_answers : (v w : Value) (t : Ty) → member_type (type_of v) (type_of w) ≡ Some t → IsAnswer (member v w)
  member_answers (value.Int a) (value.List b) t e = tt
  member_answers (value.Text a) (value.Text b) t e = tt
  member_answers v w t e = absurd (cc)

  opposite_answers : (r : Result Bool Halt) → IsAnswer r → IsAnswer (opposite r)
  opposite_answers (Ok b) h = tt
  opposite_answers (Err k) h = h

  compare_answers : (op : CmpOp) (v w : Value) (t : Ty) → compare_type op (type_of v) (type_of w) ≡ Some t → IsAnswer (compare op v w)
  compare_answers Eq v w t e = equal_answers v w t e
  compare_answers Ne v w t e = opposite_answers (equal v w) (equal_answers v w t e)
  compare_answers Lt v w t e = (order_answers _ v w t e).0
  compare_answers Le v w t e = (order_answers _ v w t e).0
  compare_answers Gt v w t e = (order_answers _ v w t e).1
  compare_answers Ge v w t e = (order_answers _ v w t e).1
  compare_answers Member v w t e = member_answers v w t e
  compare_answers NotMember v w t e = opposite_answers (member v w) (member_answers v w t e)

  truth_yields : (r : Result Bool Halt) → IsAnswer r → Yields ty.Bool (truth r)
  truth_yields (Ok b) h = refl
  truth_yields (Err k) h = h

  pub compare_yields : (op : CmpOp) (v w : Value) (t : Ty) → compare_type op (type_of v) (type_of w) ≡ Some t → Yields t (truth (compare op v w))
  compare_yields op v w t e = some_is ty.Bool t _ (ap Some (truth_is (type_of v) (type_of w) t op e)) (truth_yields (compare op v w) (compare_answers op v w t e))

  -- an element, or Index
  number_at : (zs : List ℤ) (k : ℕ) → list_all (fits l) zs ≡ true → Yields ty.Int (element_or_fault (slice_get zs k) >>= λ z. Ok (value.Int z))
  number_at [] k h = tt
  number_at (z ∷ zs) zero h = (and_true (fits l z) (list_all (fits l) zs) h).0
  number_at (z ∷ zs) (suc k) h = number_at zs k (and_true (fits l z) (list_all (fits l) zs) h).1

  character_at : (o : Option ℕ) → nat_le 1 l.cap ≡ true → Yields ty.Text (element_or_fault o >>= λ c. Ok (value.Text (c ∷ [])))
  character_at None h = tt
  character_at (Some c) h = h

  -- a text that has characters may have one
  pub one_fits : (c : ℕ) (cs : List ℕ) → nat_le (length (c ∷ cs)) l.cap ≡ true → nat_le 1 l.cap ≡ true
  one_fits c cs h = no_longer 1 (length (c ∷ cs)) l.cap (omega arith) h

  character_of : (cs : List ℕ) (k : ℕ) → nat_le (length cs) l.cap ≡ true → Yields ty.Text (element_or_fault (slice_get cs k) >>= λ c. Ok (value.Text (c ∷ [])))
  character_of [] k h = tt
  character_of (c ∷ cs) k h = character_at (slice_get (c ∷ cs) k) (one_fits c cs h)

  numbers_at : (zs : List ℤ) (o : Option ℕ) → list_all (fits l) zs ≡ true → Yields ty.Int (element o zs >>= λ z. Ok (value.Int z))
  numbers_at zs None h = tt
  numbers_at zs (Some k) h = number_at zs k h

  characters_of : (cs : List ℕ) (o : Option ℕ) → nat_le (length cs) l.cap ≡ true → Yields ty.Text (element o cs >>= λ c. Ok (value.Text (c ∷ [])))
  characters_of cs None h = tt
  characters_of cs (Some k) h = character_of cs k h

  nothing_indexed : (u t : Ty) → member_of u ≡ None → (w : Ty) → index_type u w ≡ Some t → ⊥
  nothing_indexed u t k ty.Int e = let f : None ≡ Some t = sym k ∙ e in cc
  nothing_indexed u t k ty.Bool e = cc
  nothing_indexed u t k ty.List e = cc
  nothing_indexed u t k ty.Text e = cc

  pub index_yields : (v w : Value) (t : Ty) → Fits v → index_type (type_of v) (type_of w) ≡ Some t → Yields t (index v w)
  index_yields (value.List a) (value.Int b) t f e = some_is _ _ _ e (numbers_at a (index_in b (length a)) (list_fits a f).1)
  index_yields (value.Text a) (value.Int b) t f e = some_is _ _ _ e (characters_of a (index_in b (length a)) f)
  index_yields (value.Int a) w t f e = absurd (nothing_indexed ty.Int t refl (type_of w) e)
  index_yields (value.Bool a) w t f e = absurd (nothing_indexed ty.Bool t refl (type_of w) e)
  index_yields v w t f e = absurd (cc)

  pub slice_yields : (v : Value) (t : Ty) (a b : Option ℤ) → Fits v → slice_type (type_of v) ≡ Some t → Yields t (slice v a b)
  slice_yields (value.List zs) t a b f e =
      let k = list_fits zs f in
      some_is ty.List t (slice (value.List zs) a b) e
      (and_both (nat_le (length (cut zs a b)) l.cap) (list_all (fits l) (cut zs a b)) (no_longer (length (cut zs a b)) (length zs) l.cap (cut_no_longer zs a b) k.0) (cut_passes (fits l) zs a b k.1))
  slice_yields (value.Text cs) t a b f e = some_is ty.Text t (slice (value.Text cs) a b) e (no_longer (length (cut cs a b)) (length cs) l.cap (cut_no_longer cs a b) f)
  slice_yields (value.Int z) t a b f e = absurd (cc)
  slice_yields (value.Bool z) t a b f e = absurd (cc)

  -- the builtins
  least_of : (b : Bool) (x y : ℤ) → fits l x ≡ true → fits l y ≡ true → fits l (cond b x y) ≡ true
  least_of true x y f g = f
  least_of false x y f g = g

  pub least_yields : (v w : Value) → IsOf l ty.Int v → IsOf l ty.Int w → Yields ty.Int (least v w)
  least_yields (value.Int a) (value.Int b) f g = least_of (int_lt b a) b a g f
  least_yields v w f g = absurd (cc)

  pub greatest_yields : (v w : Value) → IsOf l ty.Int v → IsOf l ty.Int w → Yields ty.Int (greatest v w)
  greatest_yields (value.Int a) (value.Int b) f g = least_of _ _ _ f g
  greatest_yields v w f g = absurd (cc)

  pub absolute_yields : (v : Value) → IsOf l ty.Int v → Yields ty.Int (absolute l v)
  absolute_yields (value.Int a) f = number_yields (pos (nat_abs a))
  absolute_yields v f = absurd (cc)

  stepped : (c : ℤ) → is_zero c ≡ false → c ≡ pos 0 → ⊥
  stepped c e f = let k : true ≡ false = ap is_zero (sym f) ∙ e in cc

  pub range_yields : (a b c : ℤ) → fits l a ≡ true → fits l b ≡ true → Yields ty.List (range l a b c)
  range_yields a b c f g =
      let n = range_count a b c in
      guarded (is_zero c) (Fault fault.Step) ty.List (if nat_le n l.cap then Ok (value.List (progression a c n)) else Err (Fault fault.Length)) tt
      (λ k. either_yields (nat_le n l.cap) (value.List (progression a c n)) (Fault fault.Length) ty.List
      (λ e. and_both (nat_le (length (progression a c n)) l.cap) (list_all (fits l) (progression a c n)) (ap (λ m. nat_le m l.cap) (progression_length a c n) ∙ e) (numbers_fit l.width a b c (stepped c k) f g)) tt)

  pub zero_fits : fits l (pos 0) ≡ true
  zero_fits = lt-ltb 0 (2 ^ (l.width - 1)) (pow_pos (l.width - 1))

  -- lists that are changed in place
  replaced_yields : (zs : List ℤ) (z : ℤ) (o : Option ℕ) → Fits (value.List zs) → fits l z ≡ true → Yields ty.List (replaced zs (value.Int z) o)
  replaced_yields zs z None f g = tt
  replaced_yields zs z (Some k) f g =
      let h = list_fits zs f in
      and_both (nat_le (length (slice_set zs k z)) l.cap) (list_all (fits l) (slice_set zs k z))
      (no_longer (length (slice_set zs k z)) (length zs) l.cap (changed_no_longer zs k z) h.0) (changed_pass (fits l) zs k z h.1 g)

  pub put_yields : (v k w : Value) → IsOf l ty.List v → IsOf l ty.Int k → IsOf l ty.Int w → Yields ty.List (put v k w)
  put_yields (value.List zs) (value.Int n) (value.Int z) f g h = replaced_yields zs z (index_in n (length zs)) f h
  put_yields v k w f g h = absurd (cc)

  pub append_yields : (v w : Value) → IsOf l ty.List v → IsOf l ty.Int w → Yields ty.List (append l v w)
  append_yields (value.List zs) (value.Int z) f g = list_yields (zs ++ z ∷ []) (joined_pass (fits l) zs (z ∷ []) (list_fits zs f).1 (and_both (fits l z) true g refl))
  append_yields v w f g = absurd (cc)
