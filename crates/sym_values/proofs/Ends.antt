-- Whether runs end alike: equal values, and printed values that are equal as far as they go.
use Rattle.std.proofs.Common.{◌≡◌, ℕ, zero, suc, ◌+◌, ◌≤◌, ◌<◌, Bool, true, false, not, List, [], ◌∷◌, Some, None, ◌++◌, length, map, take, refl, sym, ap, ◌∙◌, subst, arith, inl, inr, below_more}
use Rattle.std.specs.Prelude.{◌≢◌, ◌↔◌, ◌&&◌, ◌||◌, Option, IsTrue, nat_eq, nat_lt, option_map, slice_get}
use Rattle.std.specs.Bool.{Decides}
use Rattle.std.specs.Cmp.{unsigned_Decides}
use Rattle.std.specs.Cmp.Lexicographic.{pointwise}
use Rattle.std.specs.Cmp.Rules.{signed_items}
use Rattle.std.specs.declared.result.Result.TheVariants.{Ok}
use Rattle.std.proofs.lemmas.Bool.{and_from, and_parts, cases_lt}
use Rattle.std.proofs.lemmas.Bool.Decides.{Decides-int_eq, nat_tests}
use Rattle.std.proofs.lemmas.Option.{get_or_from_slice_get, same_Some, slice_get_cases, slice_get_past, slice_get_within}
use Rattle.std.proofs.lemmas.Slice.Eq.{slice_eq-Decides}
use Rattle.mpy_tree.specs.declared.limits.Limits.{Limits}
use Rattle.mpy_tree.specs.declared.typing.Ty.{Ty}
use Rattle.mpy_tree.specs.declared.typing.Ty.TheVariants as ty
use Rattle.mpy_tree.specs.declared.value.Value.{Value}
use Rattle.mpy_tree.specs.declared.value.Value.TheVariants as val
use Rattle.mpy_tree.specs.Fitting.{type_of}
use Rattle.mpy_tree.specs.Operations.{equal, same_truth}
use Rattle.mpy_tree.specs.Running.{Done}
use Rattle.bit_words.specs.Later.{owns_first, owns_second}
use Rattle.bit_words.specs.Words.{nat_of}
use Rattle.sym_values.specs.declared.done.PrintSlot.{PrintSlot}
use Rattle.sym_values.specs.declared.done.SymDone.{SymDone}
use Rattle.sym_values.specs.declared.value.SymValue.{SymValue}
use Rattle.sym_values.specs.Forms.{Form}
use Rattle.sym_values.specs.Owned.{owns_one}
use Rattle.sym_values.specs.Printed.{IsDoneIn, IsSlotIn, ValueReads, kind_of, print_width, slot_read, type_of_kind, value_within}
use Rattle.sym_values.specs.Reading.{Reading, read, spelled, sure}

-- ---- tests

or_none : (b : Bool) → (b || false) ≡ b
or_none true = refl
or_none false = refl

-- a test that is another
pub as_another : {P : Type 0} (a b : Bool) → a ≡ b → IsTrue b ↔ P → IsTrue a ↔ P
as_another a b e h = (λ k. h.0 (sym e ∙ k), λ k. e ∙ h.1 k)

pub and_decides : {P Q : Type 0} (a b r : Bool) → IsTrue a ↔ P → (P → IsTrue b ↔ Q) → r ≡ (a && b) → IsTrue r ↔ (P × Q)
and_decides a b r f g e = (
  λ h. let k = and_parts a b (sym e ∙ h) in let p = f.0 k.0 in (p, (g p).0 k.1),
  λ h. e ∙ and_from a b (f.1 h.0) ((g h.0).1 h.1),
)

pub number_decides : (b : Bool) (m n : ℕ) → b ≡ nat_eq m n → IsTrue b ↔ (m ≡ n)
number_decides b m n e = as_another b (nat_eq m n) e (unsigned_Decides m n)

-- ---- equal values

truth_decides : (a b : Bool) → Decides (same_truth a b) (a ≡ b)
truth_decides true true = (λ h. refl, λ h. refl)
truth_decides true false = (λ h. absurd cc, λ h. absurd cc)
truth_decides false true = (λ h. absurd cc, λ h. absurd cc)
truth_decides false false = (λ h. refl, λ h. refl)

through : {P Q : Type 0} (b c : Bool) → b ≡ c → Decides c P → (P → Q) → (Q → P) → IsTrue b ↔ Q
through b c e d f g = (λ h. f (d.0 (sym e ∙ h)), λ h. e ∙ d.1 (g h))

pub equal_decides : (b : Bool) (v w : Value) → Ok b ≡ equal v w → IsTrue b ↔ (v ≡ w)
equal_decides b (val.Int m) (val.Int n) e = through b _ (cc) (Decides-int_eq m n) (λ h. ap val.Int h) (λ h. cc)
equal_decides b (val.Bool p) (val.Bool q) e = through b _ (cc) (truth_decides p q) (λ h. ap val.Bool h) (λ h. cc)
equal_decides b (val.List ms) (val.List ns) e = through b _ (cc) (signed_items ms ns) (λ h. ap val.List h) (λ h. cc)
equal_decides b (val.Text cs) (val.Text ds) e = through b _ (cc) (slice_eq-Decides unsigned_Decides cs ds (pointwise nat_eq cs ds) refl) (λ h. ap val.Text h) (λ h. cc)
equal_decides b v w e = absurd cc

pub equal_where : (test same r : Bool) (v w : Value) → test ≡ true → Ok same ≡ equal v w → r ≡ (test && same) → IsTrue r ↔ (v ≡ w)
equal_where test same r v w t e h = as_another r same (h ∙ ap (λ b. b && same) t) (equal_decides same v w e)

-- ---- the type of a printed value

pub spelled_type : (l : Limits) (t : Ty) (bs : List Bool) (v : Value) → spelled (value_within l t bs) ≡ sure v → type_of v ≡ t
spelled_type l ty.Int bs v e = sym (ap (λ (r : Reading). type_of r.value) e)
spelled_type l ty.Bool bs v e = sym (ap (λ (r : Reading). type_of r.value) e)
spelled_type l ty.List bs v e = sym (ap (λ (r : Reading). type_of r.value) e)
spelled_type l ty.Text bs v e = sym (ap (λ (r : Reading). type_of r.value) e)

pub kind_there : (k : ℕ) → k < 4 → kind_of (type_of_kind k) ≡ k
kind_there zero h = refl
kind_there (suc zero) h = refl
kind_there (suc (suc zero)) h = refl
kind_there (suc (suc (suc zero))) h = refl
kind_there (suc (suc (suc (suc n)))) h = absurd (omega arith)

-- two numbers of types are one where the types are
pub kinds_alike : (j k : ℕ) → j < 4 → k < 4 → type_of_kind j ≡ type_of_kind k → j ≡ k
kinds_alike j k h i e = sym (kind_there j h) ∙ ap kind_of e ∙ kind_there k i

pub slots_alike : {B : Type 0} (l : Limits) (rd : B → Bool) (a b : PrintSlot B) (one same r : Bool) (v w : Value) → nat_of (map rd a.kind) < 4 → nat_of (map rd b.kind) < 4
    → one ≡ nat_eq (nat_of (map rd a.kind)) (nat_of (map rd b.kind))
    → (spelled (value_within l (type_of_kind (nat_of (map rd a.kind))) (map rd b.bits)) ≡ sure w → IsTrue same ↔ (v ≡ w))
    → r ≡ (one && same) → slot_read l rd a ≡ sure v → slot_read l rd b ≡ sure w → IsTrue r ↔ (v ≡ w)
slots_alike l rd a b one same r v w p q e f g h k =
    let j = nat_of (map rd a.kind) in
    let i = nat_of (map rd b.kind) in
    let alike = λ (u : j ≡ i). f (ap (λ n. spelled (value_within l (type_of_kind n) (map rd b.bits))) u ∙ k) in
    let both : IsTrue r ↔ ((j ≡ i) × (v ≡ w)) = and_decides one same r (number_decides one j i e) alike g in
    let left = spelled_type l (type_of_kind j) (map rd a.bits) v h in
    let right = spelled_type l (type_of_kind i) (map rd b.bits) w k in
    (λ u. (both.0 u).1, λ u. both.1 (kinds_alike j i p q (sym left ∙ ap type_of u ∙ right), u))

-- one type more
pub none_more : (same here new : Bool) (k i : ℕ) → (i ≤ k → same ≡ false) → (k ≢ i → here ≡ false) → new ≡ (same || here) → i + 1 ≤ k → new ≡ false
none_more same here new k i f g e h =
    let not_before : same ≡ false = f (omega arith) in
    let not_here : here ≡ false = g (λ p. absurd (omega arith)) in
    e ∙ ap (λ b. b || here) not_before ∙ not_here

pub found_more : {P : Type 0} (same here new : Bool) (k i : ℕ) → (i ≤ k → same ≡ false) → (k < i → IsTrue same ↔ P) → (k ≢ i → here ≡ false) → (k ≡ i → IsTrue here ↔ P) → new ≡ (same || here)
    → k < i + 1 → IsTrue new ↔ P
found_more {P} same here new k i f p g q e h =
    elim (cases_lt k i) [
      | inl l ↦ as_another new same (e ∙ ap (λ b. same || b) (g (λ r. absurd (omega arith))) ∙ or_none same) (p l)
      | inr l ↦ let here_is : k ≡ i = omega arith in as_another new here (e ∙ ap (λ b. b || here) (f (omega arith))) (q here_is)
    ]

-- ---- printed values

-- each belongs to a state with its end
pub slot_in : {S B : Type 0} {owns : S → B → Type 0} {s : S} {l : Limits} {f : Option Form} {d : SymDone B} (i : ℕ) (x : PrintSlot B) → IsDoneIn owns s l f d → slice_get d.slots i ≡ Some x → IsSlotIn owns s l x
slot_in {S} {B} {owns} {s} {l} {f} {d} i x h e =
    let all = owns_one (λ (y : PrintSlot B). y.kind ++ y.bits) d.slots i x h.owned_slots e in
    let wide = subst (λ (y : PrintSlot B). (length y.kind ≡ 2) × (2 + length y.bits ≡ print_width l)) (get_or_from_slice_get d.slots i x x e) (h.widths i x (slice_get_within d.slots i x e)) in
    record { owned_kind = owns_first x.kind x.bits all; owned_bits = owns_second x.kind x.bits all; kind = wide.0; bits = wide.1 }

-- a length that doesn't reach a place, and one that does
pub past_is : (past here r : Bool) (n place : ℕ) → past ≡ nat_lt n (place + 1) → r ≡ (past || here) → n ≤ place → r ≡ true
past_is past here r n place e h l = let p : nat_lt n (place + 1) ≡ true = grind (arith, nat_tests) in h ∙ ap (λ b. b || here) (e ∙ p)

pub here_is : (past here r : Bool) (n place : ℕ) → past ≡ nat_lt n (place + 1) → r ≡ (past || here) → place < n → r ≡ here
here_is past here r n place e h l = let p : nat_lt n (place + 1) ≡ false = grind (arith, nat_tests) in h ∙ ap (λ b. b || here) (e ∙ p)

-- lists of one length with the same elements as far as a place
abbrev pub AlikeBelow : {A : Type 0} → List A → List A → ℕ → Type 0
AlikeBelow xs ys i = (length xs ≡ length ys) × ((k : ℕ) → k < i → slice_get xs k ≡ slice_get ys k)

pub alike_first : {A : Type 0} (b : Bool) (m n : ℕ) (xs ys : List A) → b ≡ nat_eq m n → m ≡ length xs → n ≡ length ys → IsTrue b ↔ AlikeBelow xs ys 0
alike_first b m n xs ys e p q =
    let same = number_decides b m n e in
    (λ h. (sym p ∙ same.0 h ∙ q, λ k l. absurd (omega arith)), λ h. same.1 (p ∙ h.0 ∙ sym q))

pub alike_more : {A : Type 0} (same here new : Bool) (i : ℕ) (xs ys : List A) → IsTrue same ↔ AlikeBelow xs ys i → (length xs ≡ length ys → IsTrue here ↔ (slice_get xs i ≡ slice_get ys i)) → new ≡ (same && here)
    → IsTrue new ↔ AlikeBelow xs ys (i + 1)
alike_more same here new i xs ys f g e =
    let both = and_decides same here new f (λ p. g p.0) e in (
      λ h. let k = both.0 h in (k.0.0, below_more _ _ k.0.1 k.1),
      λ h. both.1 ((h.0, λ k l. h.1 k (omega arith)), h.1 i (omega arith)),
    )

alike_lists : {A : Type 0} (n : ℕ) (xs ys : List A) → length xs ≡ length ys → length xs ≤ n → ((k : ℕ) → k < n → slice_get xs k ≡ slice_get ys k) → xs ≡ ys
alike_lists n [] [] e h f = refl
alike_lists n [] (y ∷ ys) e h f = absurd (omega arith)
alike_lists n (x ∷ xs) [] e h f = absurd (omega arith)
alike_lists zero (x ∷ xs) (y ∷ ys) e h f = absurd (omega arith)
alike_lists (suc n) (x ∷ xs) (y ∷ ys) e h f =
    let head : Some x ≡ Some y = f 0 (omega arith) in
    let tail : xs ≡ ys = alike_lists n xs ys (omega arith) (omega arith) (λ k l. f (suc k) (omega arith)) in
    cc

pub alike_whole : {A : Type 0} (b : Bool) (n : ℕ) (xs ys : List A) → length xs ≤ n → IsTrue b ↔ AlikeBelow xs ys n → IsTrue b ↔ (xs ≡ ys)
alike_whole {A} b n xs ys h f =
    (λ k. let p = f.0 k in alike_lists n xs ys p.0 h p.1, λ e. f.1 (ap length e, λ k l. ap (λ (zs : List A). slice_get zs k) e))

-- the elements at a place, which a length may not reach
pub alike_at : (here : Bool) (n i : ℕ) (xs ys : List Value) → n ≡ length xs → (n ≤ i → here ≡ true) → ((v w : Value) → i < n → slice_get xs i ≡ Some v → slice_get ys i ≡ Some w → IsTrue here ↔ (v ≡ w))
    → length xs ≡ length ys → IsTrue here ↔ (slice_get xs i ≡ slice_get ys i)
alike_at here n i xs ys many past f e =
    elim (slice_get_cases xs i).1 [
      | inl p ↦ elim (slice_get_cases ys i).1 [
        | inl q ↦ let d = f p.0 q.0 (omega arith) p.2 q.2 in
            (λ h. p.2 ∙ ap Some (d.0 h) ∙ sym q.2, λ h. d.1 (same_Some p.0 q.0 (sym p.2 ∙ h ∙ q.2)))
        | inr q ↦ absurd (omega arith)
      ]
      | inr p ↦ (λ h. p.1 ∙ sym (slice_get_past ys i (omega arith)), λ h. past (omega arith))
    ]

-- what stands at a place of a list that is read
pub read_at : {A R V : Type 0} (f : A → R) (h : V → R) (n : ℕ) (xs : List A) (ps : List V) (i : ℕ) (x : A) (v : V) → map f (take n xs) ≡ map h ps → slice_get xs i ≡ Some x → slice_get ps i ≡ Some v → f x ≡ h v
read_at f h n xs [] i x v e p q = absurd cc
read_at f h zero xs (u ∷ ps) i x v e p q = absurd cc
read_at f h (suc n) [] (u ∷ ps) i x v e p q = absurd cc
read_at f h (suc n) (y ∷ xs) (u ∷ ps) zero x v e p q = cc
read_at f h (suc n) (y ∷ xs) (u ∷ ps) (suc i) x v e p q = let tail : map f (take n xs) ≡ map h ps = cc in read_at f h n xs ps i x v tail p q

-- no more is read than there is
pub read_within : {A R V : Type 0} (f : A → R) (h : V → R) (n : ℕ) (xs : List A) (ps : List V) → map f (take n xs) ≡ map h ps → length ps ≤ length xs
read_within f h n xs [] e = omega arith
read_within f h zero xs (u ∷ ps) e = absurd cc
read_within f h (suc n) [] (u ∷ ps) e = absurd cc
read_within f h (suc n) (y ∷ xs) (u ∷ ps) e = let tail : map f (take n xs) ≡ map h ps = cc in let rest = read_within f h n xs ps tail in omega arith

-- ---- the value of a run

-- both without one, where there is none
pub no_values : {B : Type 0} (rd : B → Bool) (a b : SymDone B) (v w : Option Value) → a.value ≡ None → b.value ≡ None → ValueReads rd a v → ValueReads rd b w → v ≡ w
no_values rd a b None None e f h k = refl
no_values rd a b None (Some q) e f h k = let r : option_map (read rd) None ≡ Some (sure q) = ap (option_map (read rd)) (sym f) ∙ k.1 in absurd cc
no_values rd a b (Some p) w e f h k = let r : option_map (read rd) None ≡ Some (sure p) = ap (option_map (read rd)) (sym e) ∙ h.1 in absurd cc

pub values_alike : {B : Type 0} (rd : B → Bool) (a b : SymDone B) (x y : SymValue B) (same r : Bool) (v w : Option Value) → a.value ≡ Some x → b.value ≡ Some y
    → ((p q : Value) → read rd x ≡ sure p → read rd y ≡ sure q → Ok same ≡ equal p q)
    → r ≡ (((rd a.has && rd b.has) && same) || (not (rd a.has) && not (rd b.has))) → ValueReads rd a v → ValueReads rd b w → IsTrue r ↔ (v ≡ w)
values_alike rd a b x y same r None None e f g i h k = (λ j. refl, λ j. rw (h, k) at i)
values_alike rd a b x y same r None (Some q) e f g i h k = let no : r ≡ false = rw (h, k.0) at i in (λ j. absurd cc, λ j. absurd cc)
values_alike rd a b x y same r (Some p) None e f g i h k = let no : r ≡ false = rw (h.0, k) at i in (λ j. absurd cc, λ j. absurd cc)
values_alike rd a b x y same r (Some p) (Some q) e f g i h k =
    let left : Some (read rd x) ≡ Some (sure p) = ap (option_map (read rd)) (sym e) ∙ h.1 in
    let right : Some (read rd y) ≡ Some (sure q) = ap (option_map (read rd)) (sym f) ∙ k.1 in
    let alike = equal_decides same p q (g p q (same_Some _ _ left) (same_Some _ _ right)) in
    let is : r ≡ (same || false) = rw (h.0, k.0) at i in
    let whole = as_another r same (is ∙ or_none same) alike in
    (λ j. ap Some (whole.0 j), λ j. whole.1 (same_Some p q j))

pub done_alike : (x y : Done) → x.value ≡ y.value → x.printed ≡ y.printed → x ≡ y
done_alike x y e f =
    let one : x ≡ record { value = y.value; printed = x.printed } = ap (λ (v : Option Value). let d : Done = record { value = v; printed = x.printed } in d) e in
    let two : record { value = y.value; printed = x.printed } ≡ y = ap (λ (ps : List Value). let d : Done = record { value = y.value; printed = ps } in d) f in
    one ∙ two
