-- The end of a run as it is told: the value, and the printed values from their words.
use Rattle.std.proofs.Common.{◌≡◌, ◌+◌, ℕ, zero, suc, Bool, true, false, cond, List, [], ◌∷◌, ◌++◌}
use Rattle.std.proofs.Common.{map, take, drop, length, Option, Some, None, refl, sym, ap, ◌∙◌}
use Rattle.std.proofs.Common.{arith, replicate, subst}
use Rattle.std.specs.Prelude.{⊤, not, option_map, IsSome}
use Rattle.std.specs.List.{All, list_all}
use Rattle.std.proofs.lemmas.Bool.{and_parts}
use Rattle.std.proofs.lemmas.List.{length-append, length-map, map-append}
use Rattle.std.proofs.lemmas.List.Elements.{All-cons, All-head, All-nil, All-tail}
use Rattle.std.proofs.Math.Seq.{drop-append_seam, take-append_seam}
use Rattle.mpy_tree.specs.declared.limits.Limits.{Limits}
use Rattle.mpy_tree.specs.declared.value.Value.{Value}
use Rattle.mpy_tree.specs.Running.{done_by, done_with, given_by}
use Rattle.mpy_tree.specs.Statements.{Ran, Next, Broke, Continued, Returned, Failed}
use Rattle.mpy_tree.specs.Values.{State}
use Rattle.bit_words.specs.Later.{owns_both, owns_first, owns_second}
use Rattle.bit_words.specs.Logic.{OwnsAll}
use Rattle.bit_words.specs.Words.{nat_of}
use Rattle.sym_values.specs.declared.done.PrintSlot.{PrintSlot}
use Rattle.sym_values.specs.declared.done.SymDone.{SymDone}
use Rattle.sym_values.specs.declared.value.SymValue.{SymValue}
use Rattle.sym_values.specs.declared.value.SymValue.TheVariants as sym
use Rattle.sym_values.specs.Forms.{IntForm, form_of, forms_of, values_bits}
use Rattle.sym_values.specs.Printed.{DoneReads, ValueReads, slot_read, type_of_kind, value_within}
use Rattle.sym_values.specs.Printed.{word_spelled, print_width, slots_bits, HaveWidths}
use Rattle.sym_values.specs.Reading.{Reading, IsOutcome, map_bits, read, spelled, sure}
use Rattle.sym_paths.specs.declared.done.Ended.{Ended}
use Rattle.sym_paths.specs.declared.path.Given.{Given}
use Rattle.sym_paths.specs.declared.path.Out.{Out}
use Rattle.sym_paths.specs.declared.path.Path.{Path}
use Rattle.sym_paths.specs.declared.slots.Slots.{Slots}
use Rattle.sym_paths.specs.Endings.{Seen, see, seen_of, HoldsOut}
use Rattle.sym_paths.specs.Ends.{end_seen, met, value_if, IsMaybeBy}
use Rattle.sym_paths.specs.Paths.{Arrival, Return, arrival, first_handed}
use Rattle.sym_paths.specs.Paths.{gone_way, handed, kept_proper, number_fits, printed_in, reached}
use Rattle.sym_paths.specs.Paths.{return_of, way, ways, word_in, words_kept, EachGiven, EachPath}
use Rattle.sym_paths.specs.Paths.{HoldsGiven}
use Rattle.sym_paths.specs.Slots.{print_forms, result_form, slot_forms}
use Rattle.sym_paths.specs.Storing.{the_return}
use Rattle.sym_paths.proofs.Kept.{as_many}
use Rattle.sym_paths.proofs.Keeping.{keeps_none}
use Rattle.sym_paths.proofs.Arrivals.{the_arrival}

-- Printed values from their words.
pub word_read : {B : Type 0} (l : Limits) (rd : B → Bool) (s : PrintSlot B) → length s.kind ≡ 2
    → slot_read l rd s ≡ word_spelled l (map rd (s.kind ++ s.bits))
word_read l rd s e =
    let kind = map rd s.kind in
    let bits = map rd s.bits in
    let long : 2 ≡ length kind = sym (length-map s.kind rd ∙ e) in
    let both : map rd (s.kind ++ s.bits) ≡ kind ++ bits = map-append rd s.kind s.bits in
    let first : take 2 (kind ++ bits) ≡ kind =
    ap (λ (n : ℕ). take n (kind ++ bits)) long ∙ take-append_seam kind bits in
    let rest : drop 2 (kind ++ bits) ≡ bits =
    ap (λ (n : ℕ). drop n (kind ++ bits)) long ∙ drop-append_seam kind bits in
    ap (λ w. spelled (value_within l (type_of_kind (nat_of w)) bits)) (sym first)
    ∙ ap (λ w. spelled (value_within l (type_of_kind (nat_of (take 2 (kind ++ bits)))) w))
    (sym rest)
    ∙ ap (word_spelled l) (sym both)

abbrev pub slot_word : {B : Type 0} → PrintSlot B → SymValue B
slot_word s = sym.Int (s.kind ++ s.bits)

words_read : {B : Type 0} (l : Limits) (rd : B → Bool) (ss : List (PrintSlot B)) (n : ℕ)
    → All (λ (s : PrintSlot B). length s.kind ≡ 2) ss
    → map (slot_read l rd) (take n ss)
    ≡ map (word_spelled l) (map word_in (take n (map (map_bits rd) (map slot_word ss))))
words_read l rd ss zero h = refl
words_read l rd [] (suc n) h = refl
words_read {B} l rd (s ∷ ss) (suc n) h =
    let two = λ (s : PrintSlot B). length s.kind ≡ 2 in
    let one = word_read l rd s (All-head two s ss h) in
    let rest = words_read l rd ss n (All-tail two s ss h) in
    let others = map (word_spelled l)
    (map word_in (take n (map (map_bits rd) (map slot_word ss)))) in
    ap (λ (r : Reading). r ∷ map (slot_read l rd) (take n ss)) one
    ∙ ap (λ (rs : List Reading). word_spelled l (map rd (s.kind ++ s.bits)) ∷ rs) rest

abbrev the_reading : Bool → Value → Reading
the_reading b v = record { proper = b; value = v }

sure_of : (r : Reading) → r.proper ≡ true → r ≡ sure r.value
sure_of r e = ap (λ (b : Bool). the_reading b r.value) e

all_sure : (l : Limits) (ws : List (List Bool))
    → list_all (λ w. (word_spelled l w).proper) ws ≡ true
    → map (word_spelled l) ws ≡ map sure (map (λ w. (word_spelled l w).value) ws)
all_sure l [] h = refl
all_sure l (w ∷ ws) h =
    let p = λ (u : List Bool). (word_spelled l u).proper in
    let parts = and_parts (p w) (list_all p ws) h in
    let rest = all_sure l ws parts.1 in
    ap (λ (r : Reading). r ∷ map (word_spelled l) ws) (sure_of (word_spelled l w) parts.0)
    ∙ ap (λ (rs : List Reading). sure (word_spelled l w).value ∷ rs) rest

-- the printed values as they are told
slots_read : {B : Type 0} (l : Limits) (rd : B → Bool) (len : List B) (ss : List (PrintSlot B))
    (ps : List (SymValue B)) → ps ≡ sym.Int len ∷ map slot_word ss
    → All (λ (s : PrintSlot B). length s.kind ≡ 2) ss
    → kept_proper l (map (map_bits rd) ps) ≡ true
    → (vs : List Value)
    × (printed_in l (map (map_bits rd) ps) ≡ Some vs)
    × (nat_of (map rd len) ≡ length vs)
    × (map (slot_read l rd) (take (nat_of (map rd len)) ss) ≡ map sure vs)
slots_read l rd len ss ps e h proper =
    let ks = map (map_bits rd) (sym.Int len ∷ map slot_word ss) in
    let same : map (map_bits rd) ps ≡ ks = ap (map (map_bits rd)) e in
    let fine : kept_proper l ks ≡ true = ap (kept_proper l) (sym same) ∙ proper in
    let sures = λ (w : List Bool). (word_spelled l w).proper in
    let parts = and_parts (number_fits ks) (list_all sures (words_kept ks)) fine in (
      map (λ w. (word_spelled l w).value) (words_kept ks),
      ap (printed_in l) same,
      as_many (sym.Int (map rd len)) (map (map_bits rd) (map slot_word ss)) parts.0
          ∙ sym (length-map (words_kept ks) (λ w. (word_spelled l w).value)),
      words_read l rd ss (nat_of (map rd len)) h ∙ all_sure l (words_kept ks) parts.1,
    )

-- An end that is met, as it is told.
met_is : (b : Bool) (r s : Return) → cond b (Some r) None ≡ Some s → (b ≡ true) × (r ≡ s)
met_is true r s e = (refl, cc)
met_is false r s e = cc

unmet : (b : Bool) (r : Return) → cond b (Some r) None ≡ None → b ≡ false
unmet false r e = refl
unmet true r e = cc

abbrev reads_value : {B : Type 0} → (B → Bool) → Bool → Option (SymValue B) → Option Value → Type 0
reads_value rd h w None = h ≡ false
reads_value rd h w (Some v) = (h ≡ true) × (option_map (read rd) w ≡ Some (sure v))

value_is : {B : Type 0} (rd : B → Bool) (h : Bool) (v w : Option (SymValue B)) (u : Option Value)
    → (h ≡ true → IsSome v) → (IsSome v → w ≡ v)
    → value_if h (option_map (map_bits rd) v) ≡ option_map sure u → reads_value rd h w u
value_is rd true None w None some same e = absurd (bad (some refl))
  where
    bad : false ≡ true → ⊥
    bad h = cc
value_is rd true (Some x) w None some same e = cc
value_is rd false v w None some same e = refl
value_is rd true None w (Some u) some same e = cc
value_is rd true (Some x) w (Some u) some same e = (refl, ap (option_map (read rd)) (same refl) ∙ e)
value_is rd false v w (Some u) some same e = cc

-- what is told of an end is what is met
module _ {B : Type 0} (l : Limits) (rd : B → Bool) (e : Ended B) (d : SymDone B)
    (has : d.has ≡ e.has) (fault : rd d.fault ≡ not (rd e.bit))
    (some : rd e.has ≡ true → IsSome e.value) (value : IsSome e.value → d.value ≡ e.value)
    (words : e.printed ≡ sym.Int d.len ∷ map slot_word d.slots)
    (kinds : All (λ (s : PrintSlot B). length s.kind ≡ 2) d.slots) where
  with_has : (v : Option Value) → reads_value rd (rd e.has) d.value v → ValueReads rd d v
  with_has None h = ap rd has ∙ h
  with_has (Some v) h = (ap rd has ∙ h.0, h.1)

  told : (v : Option Value) (line : ℕ) (ps : Option (List Value))
      → met l rd e ≡ Some (the_return (option_map sure v) true ps)
      → DoneReads l rd d (done_with line ps v)
  told v line ps h =
      let both = met_is (rd e.bit) _ _ h in
      let ks = map (map_bits rd) e.printed in
      let proper : kept_proper l ks ≡ true = ap (λ (r : Return). r.proper) both.1 in
      let there : printed_in l ks ≡ ps = ap (λ (r : Return). r.printed) both.1 in
      let slots = slots_read l rd d.len d.slots e.printed words kinds proper in
      let one : reads_value rd (rd e.has) d.value v =
      value_is rd (rd e.has) e.value d.value v some value (ap (λ (r : Return). r.value) both.1) in
      subst (λ (o : Option (List Value)). DoneReads l rd d (done_with line o v))
      (sym slots.1 ∙ there)
      (fault ∙ ap not both.0, with_has v one, slots.2, slots.3)

  pub done_reads : (run : Ran) (line : ℕ) → met l rd e ≡ end_seen run
      → DoneReads l rd d (done_by line run)
  done_reads (Next s) line h = told None line s.printed h
  done_reads (Broke s) line h = told None line s.printed h
  done_reads (Continued s) line h = told None line s.printed h
  done_reads (Returned v s) line h = told v line s.printed h
  done_reads (Failed i) line h = fault ∙ ap not (unmet (rd e.bit) _ h)

-- A run that keeps nothing.
module _ {S B : Type 0} (owns : S → B → Type 0) (s : S) (rd : B → Bool) (c : Slots)
    (dropped : c.prints ≡ 0) where
  no_forms : print_forms c.limits c.prints ≡ []
  no_forms = ap (print_forms c.limits) dropped

  first_or : (b : Bool) (a : Arrival) (o : Option Arrival) (t : State)
      → cond b (Some a) o ≡ reached (Some t) → a.state.printed ≡ None
      → (o ≡ reached (Some t) → t.printed ≡ None) → t.printed ≡ None
  first_or false a o t e h k = k e
  first_or true a o t e h k =
      let i : a ≡ the_arrival true t = cc in
      sym (ap (λ (j : Arrival). j.state.printed) i) ∙ h

  nothing_on : (ps : List (Path B)) → EachPath owns s (slot_forms c) ps → (t : State)
      → gone_way c (ways rd ps) ≡ reached (Some t) → t.printed ≡ None
  nothing_on [] h t e = cc
  nothing_on (p ∷ ps) h t e =
      first_or (rd p.bit) (arrival c (way rd p)) (gone_way c (ways rd ps)) t e
      (keeps_none c p rd h.0 dropped) (nothing_on ps h.1 t)

  nothing_with : (x : Given B) → HoldsGiven owns s c x
      → printed_in c.limits (map (map_bits rd) x.printed) ≡ None
  nothing_with x h =
      ap (λ ps. printed_in c.limits (map (map_bits rd) ps)) (empty x.printed (h.kept ∙ no_forms))
    where
      empty : (ps : List (SymValue B)) → forms_of ps ≡ [] → ps ≡ []
      empty [] e = refl
      empty (q ∷ qs) e = cc

  first_made : (b : Bool) (a : Return) (o : Option Return) (r : Return)
      → cond b (Some a) o ≡ Some r → a.printed ≡ None
      → (o ≡ Some r → r.printed ≡ None) → r.printed ≡ None
  first_made false a o r e h k = k e
  first_made true a o r e h k =
      let i : a ≡ r = cc in
      sym (ap (λ (j : Return). j.printed) i) ∙ h

  nothing_returned : (xs : List (Given B)) → EachGiven owns s c xs → (r : Return)
      → first_handed c.limits (map (handed rd) xs) ≡ Some r → r.printed ≡ None
  nothing_returned [] h r e = cc
  nothing_returned (x ∷ xs) h r e =
      first_made (rd x.bit) (return_of c.limits (handed rd x))
      (first_handed c.limits (map (handed rd) xs)) r e (nothing_with x h.0)
      (nothing_returned xs h.1 r)

-- the state in which a run ends keeps nothing
abbrev pub KeepsNothing : Ran → Type 0
KeepsNothing (Next s) = s.printed ≡ None
KeepsNothing (Broke s) = s.printed ≡ None
KeepsNothing (Continued s) = s.printed ≡ None
KeepsNothing (Returned v s) = s.printed ≡ None
KeepsNothing (Failed h) = ⊤

pub nothing_run : {S B : Type 0} (owns : S → B → Type 0) (s : S) (rd : B → Bool) (c : Slots)
    (out : Out B) → c.prints ≡ 0 → HoldsOut owns s c out → (run : Ran)
    → see rd c out ≡ seen_of run → KeepsNothing run
nothing_run owns s rd c out z h (Next t) e =
    nothing_on owns s rd c z out.next h.next.each t (ap (λ (i : Seen). i.next) e)
nothing_run owns s rd c out z h (Broke t) e =
    nothing_on owns s rd c z out.broke h.broke.each t (ap (λ (i : Seen). i.broke) e)
nothing_run owns s rd c out z h (Continued t) e =
    nothing_on owns s rd c z out.continued h.continued.each t (ap (λ (i : Seen). i.continued) e)
nothing_run owns s rd c out z h (Returned v t) e =
    nothing_returned owns s rd c z out.returned h.returned.each
    (the_return (option_map sure v) true t.printed) (ap (λ (i : Seen). i.returned) e)
nothing_run owns s rd c out z h (Failed i) e = tt

none_taken : {A C : Type 0} (f : A → C) (n : ℕ) → map f (take n []) ≡ []
none_taken f zero = refl
none_taken f (suc n) = refl

-- such a run ends as a call does
module _ {B : Type 0} (l : Limits) (rd : B → Bool) (d : SymDone B) (x : SymValue B)
    (has : rd d.has ≡ true) (value : d.value ≡ Some x) (slots : d.slots ≡ [])
    (len : nat_of (map rd d.len) ≡ 0) where
  pub done_alone : (run : Ran) (line : ℕ) → KeepsNothing run
      → IsOutcome (rd d.fault) (read rd x) (given_by line run)
      → DoneReads l rd d (done_by line run)
  done_alone (Next s) line k h =
      subst (λ (o : Option (List Value)). DoneReads l rd d (done_with line o None)) (sym k) h
  done_alone (Broke s) line k h =
      subst (λ (o : Option (List Value)). DoneReads l rd d (done_with line o None)) (sym k) h
  done_alone (Continued s) line k h =
      subst (λ (o : Option (List Value)). DoneReads l rd d (done_with line o None)) (sym k) h
  done_alone (Returned None s) line k h =
      subst (λ (o : Option (List Value)). DoneReads l rd d (done_with line o None)) (sym k) h
  done_alone (Returned (Some v) s) line k h =
      let count = nat_of (map rd d.len) in
      subst (λ (o : Option (List Value)). DoneReads l rd d (done_with line o (Some v))) (sym k) (
        h.0,
        (has, ap (option_map (read rd)) value ∙ ap Some h.1),
        len,
        ap (λ (ss : List (PrintSlot B)). map (slot_read l rd) (take count ss)) slots
            ∙ none_taken (slot_read l rd) count,
      )
  done_alone (Failed i) line k h = h

-- what is kept, as it is told
pub slots_owned : {S B : Type 0} {owns : S → B → Type 0} {s : S} (ss : List (PrintSlot B))
    → OwnsAll owns s (values_bits (map slot_word ss)) → OwnsAll owns s (slots_bits ss)
slots_owned [] h = h
slots_owned (x ∷ ss) h =
    owns_both (owns_first (x.kind ++ x.bits) (values_bits (map slot_word ss)) h)
    (slots_owned ss (owns_second (x.kind ++ x.bits) (values_bits (map slot_word ss)) h))

abbrev HasWidths : {B : Type 0} → Limits → PrintSlot B → Type 0
HasWidths l s = (length s.kind ≡ 2) × (2 + length s.bits ≡ print_width l)

pub slots_wide : {B : Type 0} (l : Limits) (n : ℕ) (ss : List (PrintSlot B))
    → All (λ (s : PrintSlot B). length s.kind ≡ 2) ss
    → forms_of (map slot_word ss) ≡ replicate n (IntForm (print_width l)) → HaveWidths l ss
slots_wide l n [] h e = All-nil (HasWidths l)
slots_wide l zero (x ∷ ss) h e = cc
slots_wide {B} l (suc n) (x ∷ ss) h e =
    let two = λ (s : PrintSlot B). length s.kind ≡ 2 in
    let kind = All-head two x ss h in
    let one : length (x.kind ++ x.bits) ≡ print_width l = cc in
    let both = length-append x.kind x.bits in
    let rest : forms_of (map slot_word ss) ≡ replicate n (IntForm (print_width l)) = cc in
    let first : HasWidths l x = (kind, omega (arith, kind, one, both)) in
    All-cons (HasWidths l) x ss first (slots_wide l n ss (All-tail two x ss h) rest)

pub maybe_form : {B : Type 0} (c : Slots) (v : Option (SymValue B)) → IsMaybeBy c v → IsSome v
    → option_map form_of v ≡ result_form c
maybe_form c (Some v) h k = h
maybe_form c None h k = cc

pub some_is : {A : Type 0} (o : Option A) → IsSome o → (x : A) × (o ≡ Some x)
some_is (Some x) h = (x, refl)
some_is None h = cc
