-- The state at the start of a body.
use Rattle.std.proofs.Common.{◌≡◌, ℕ, zero, suc, Bool, true, false, cond, List, [], ◌∷◌, ◌++◌}
use Rattle.std.proofs.Common.{length, map, replicate, Some, None, refl, ap, ◌∙◌, arith}
use Rattle.std.specs.Prelude.{◌&&◌}
use Rattle.std.proofs.Math.Path.{fun_ext}
use Rattle.std.proofs.lemmas.Bool.{and_from}
use Rattle.std.proofs.lemmas.List.{map-append}
use Rattle.mpy_tree.specs.declared.value.Value.{Value}
use Rattle.mpy_tree.specs.Values.{State, same_bytes}
use Rattle.mpy_tree.specs.Running.{bound}
use Rattle.mpy_tree.specs.declared.limits.Limits.{Limits}
use Rattle.bit_words.specs.Logic.{OwnsAll}
use Rattle.bit_words.specs.Later.{owns_both, owns_first, owns_second}
use Rattle.sym_values.specs.declared.value.SymValue.{SymValue}
use Rattle.sym_values.specs.declared.value.SymValue.TheVariants as sym
use Rattle.sym_values.specs.Forms.{IntForm, bits_of, forms_of, values_bits}
use Rattle.sym_values.specs.Printed.{print_width}
use Rattle.sym_values.specs.Reading.{Reading, map_bits, read, spelled}
use Rattle.sym_paths.specs.declared.slots.Slots.{Slots}
use Rattle.sym_paths.specs.Slots.{print_forms}
use Rattle.sym_paths.specs.Paths.{Way, state_in, are_proper, arrival, gone_way, reached}
use Rattle.sym_paths.specs.Paths.{ReadAs, kept_on, kept_proper, printed_in}
use Rattle.sym_paths.proofs.Arrivals.{same_arrival, same_state}

-- no local is set
unset : (names : List (List ℕ)) (values : List (SymValue Bool)) (m : ℕ) (y : List ℕ)
    → state_in names values (replicate m false) y ≡ None
unset [] values m y = refl
unset (n ∷ ns) [] m y = refl
unset (n ∷ ns) (v ∷ vs) zero y = refl
unset (n ∷ ns) (v ∷ vs) (suc m) y =
    elim (same_bytes y n) as (λ (b : Bool).
    cond b None (state_in ns vs (replicate m false) y) ≡ None) [
      | true ↦ refl
      | false ↦ unset ns vs m y
    ]

-- the parameters have their arguments, and no other local is set
bound_at : {B : Type 0} (rd : B → Bool) (params others : List (List ℕ)) (args : List (SymValue B))
    (rest : List (SymValue Bool)) (values : List Value) (n m : ℕ) (y : List ℕ)
    → length params ≡ length args → n ≡ length args → ReadAs rd args values
    → state_in (params ++ others) (map (map_bits rd) args ++ rest)
    (replicate n true ++ replicate m false) y
    ≡ bound params values y
bound_at rd [] others [] rest values zero m y p q h = unset others rest m y
bound_at rd [] others [] rest values (suc n) m y p q h = absurd (omega (arith, q))
bound_at rd [] others (a ∷ more) rest values n m y p q h = absurd (omega (arith, p))
bound_at rd (x ∷ xs) others [] rest values n m y p q h = absurd (omega (arith, p))
bound_at rd (x ∷ xs) others (a ∷ more) rest [] n m y p q h = absurd h
bound_at rd (x ∷ xs) others (a ∷ more) rest (v ∷ vs) zero m y p q h = absurd (omega (arith, q))
bound_at rd (x ∷ xs) others (a ∷ more) rest (v ∷ vs) (suc n) m y p q h =
    let later : state_in (xs ++ others) (map (map_bits rd) more ++ rest)
    (replicate n true ++ replicate m false) y
    ≡ bound xs vs y =
    bound_at rd xs others more rest vs n m y (omega (arith, p)) (omega (arith, q)) h.1 in
    let now : Some (read rd a).value ≡ Some v = ap (λ (r : Reading). Some r.value) h.0 in
    ap (cond (same_bytes y x) (Some (read rd a).value)) later
    ∙ ap (λ o. cond (same_bytes y x) o (bound xs vs y)) now

pub bound_is : {B : Type 0} (rd : B → Bool) (params others : List (List ℕ))
    (args : List (SymValue B)) (rest : List (SymValue Bool)) (values : List Value) (n m : ℕ)
    → length params ≡ length args → n ≡ length args → ReadAs rd args values
    → state_in (params ++ others) (map (map_bits rd) args ++ rest)
    (replicate n true ++ replicate m false)
    ≡ bound params values
bound_is rd params others args rest values n m p q h =
    fun_ext (λ y. bound_at rd params others args rest values n m y p q h)

-- values that are read are proper
pub read_proper : {B : Type 0} (rd : B → Bool) (args : List (SymValue B)) (values : List Value)
    → ReadAs rd args values → are_proper (map (map_bits rd) args) ≡ true
read_proper rd [] values h = refl
read_proper rd (a ∷ more) [] h = absurd h
read_proper rd (a ∷ more) (v ∷ vs) h =
    and_from (read rd a).proper (are_proper (map (map_bits rd) more))
    (ap (λ (r : Reading). r.proper) h.0) (read_proper rd more vs h.1)

-- a proper value more at the end
pub proper_push : (vs : List (SymValue Bool)) (v : SymValue Bool) → (spelled v).proper ≡ true
    → are_proper (vs ++ v ∷ []) ≡ are_proper vs
proper_push [] v e = ap (λ b. b && true) e
proper_push (w ∷ ws) v e = ap (λ b. (spelled w).proper && b) (proper_push ws v e)

-- proper values more at the end
proper_append : (vs ws : List (SymValue Bool)) → are_proper ws ≡ true
    → are_proper (vs ++ ws) ≡ are_proper vs
proper_append [] ws e = e
proper_append (v ∷ vs) ws e = ap (λ b. (spelled v).proper && b) (proper_append vs ws e)

-- numbers are proper, and so is what is kept of printed values as it stands
words_proper : {B : Type 0} (rd : B → Bool) (width n : ℕ) (xs : List (SymValue B))
    → forms_of xs ≡ replicate n (IntForm width) → are_proper (map (map_bits rd) xs) ≡ true
words_proper rd width n [] e = refl
words_proper rd width zero (x ∷ xs) e = absurd cc
words_proper rd width (suc n) (sym.Int w ∷ xs) e =
    let rest : forms_of xs ≡ replicate n (IntForm width) = cc in words_proper rd width n xs rest
words_proper rd width (suc n) (sym.Bool b ∷ xs) e = absurd cc
words_proper rd width (suc n) (sym.List len items ∷ xs) e = absurd cc
words_proper rd width (suc n) (sym.Text len items ∷ xs) e = absurd cc

forms_proper : {B : Type 0} (rd : B → Bool) (l : Limits) (n : ℕ) (xs : List (SymValue B))
    → forms_of xs ≡ print_forms l n → are_proper (map (map_bits rd) xs) ≡ true
forms_proper rd l n [] e = refl
forms_proper rd l zero (x ∷ xs) e = absurd cc
forms_proper rd l (suc n) (sym.Int w ∷ xs) e =
    let rest : forms_of xs ≡ replicate (suc n) (IntForm (print_width l)) = cc in
    words_proper rd (print_width l) (suc n) xs rest
forms_proper rd l (suc n) (sym.Bool b ∷ xs) e = absurd cc
forms_proper rd l (suc n) (sym.List len items ∷ xs) e = absurd cc
forms_proper rd l (suc n) (sym.Text len items ∷ xs) e = absurd cc

pub proper_behind : {B : Type 0} (rd : B → Bool) (l : Limits) (n : ℕ) (xs kept : List (SymValue B))
    → forms_of kept ≡ print_forms l n
    → are_proper (map (map_bits rd) (xs ++ kept)) ≡ are_proper (map (map_bits rd) xs)
proper_behind rd l n xs kept e =
    ap are_proper (map-append (map_bits rd) xs kept)
    ∙ proper_append (map (map_bits rd) xs) (map (map_bits rd) kept) (forms_proper rd l n kept e)

module _ {S B : Type 0} {owns : S → B → Type 0} where
  pub owns_behind : {s : S} (xs ys : List (SymValue B)) → OwnsAll owns s (values_bits xs)
      → OwnsAll owns s (values_bits ys) → OwnsAll owns s (values_bits (xs ++ ys))
  owns_behind [] ys h k = k
  owns_behind (x ∷ xs) ys h k = owns_both (owns_first (bits_of x) (values_bits xs) h)
      (owns_behind xs ys (owns_second (bits_of x) (values_bits xs) h) k)

-- where a way leads that is gone
pub gone_to : (slots : Slots) (w : Way) (s : State) → w.gone ≡ true
    → are_proper w.values ≡ true → kept_proper slots.limits (kept_on slots w) ≡ true
    → state_in slots.names w.values w.set ≡ s.locals
    → printed_in slots.limits (kept_on slots w) ≡ s.printed
    → gone_way slots (w ∷ []) ≡ reached (Some s)
gone_to slots w s e p q l k =
    ap (λ b. cond b (Some (arrival slots w)) None) e
    ∙ ap Some (same_arrival
    (and_from (are_proper w.values) (kept_proper slots.limits (kept_on slots w)) p q)
    (same_state l k))
