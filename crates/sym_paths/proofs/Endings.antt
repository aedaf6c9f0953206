-- Ends of a call and of a run, of which the first that is met counts.
use Rattle.std.proofs.Common.{◌≡◌, ℕ, Bool, true, false, cond, List, [], ◌∷◌, ◌++◌}
use Rattle.std.proofs.Common.{map, Option, Some, None, refl, sym, ap, ◌∙◌, subst}
use Rattle.std.specs.Prelude.{◌==◌, ◌||◌, not, is_some, option_map, option_to_list}
use Rattle.std.specs.Prelude.{IsSome}
use Rattle.std.proofs.lemmas.Bool.{and_parts, both_ways}
use Rattle.std.proofs.lemmas.List.{map-append}
use Rattle.mpy_tree.specs.declared.limits.Limits.{Limits}
use Rattle.mpy_tree.specs.declared.typing.Ty.{Ty}
use Rattle.mpy_tree.specs.declared.value.Value.{Value}
use Rattle.mpy_tree.specs.Running.{given_by}
use Rattle.mpy_tree.specs.Statements.{Ran, Next, Broke, Continued, Returned, Failed}
use Rattle.mpy_tree.specs.Values.{State}
use Rattle.bit_words.specs.Later.{owned_later, owns_first}
use Rattle.bit_words.specs.Logic.{Keeps, OwnsAll}
use Rattle.sym_values.specs.declared.value.SymValue.{SymValue}
use Rattle.sym_values.specs.declared.value.SymValue.TheVariants as sym
use Rattle.sym_values.specs.Forms.{Form, bits_of, form_for, form_of, values_bits}
use Rattle.sym_values.specs.Later.{values_later}
use Rattle.sym_values.specs.Reading.{Reading, IsOutcome, map_bits, read, spelled, sure}
use Rattle.sym_paths.specs.declared.done.Ended.{Ended}
use Rattle.sym_paths.specs.declared.finish.Returned.{Returned as ReturnedValue}
use Rattle.sym_paths.specs.declared.path.Given.{Given}
use Rattle.sym_paths.specs.declared.path.Path.{Path}
use Rattle.sym_paths.specs.declared.slots.Slots.{Slots}
use Rattle.sym_paths.specs.Endings.{Seen, or_other, seen_of}
use Rattle.sym_paths.specs.Ends.{end_of, end_seen, first_end, gives, met, value_if}
use Rattle.sym_paths.specs.Ends.{HoldsEnded, HoldsReturned, IsMaybeBy}
use Rattle.sym_paths.specs.Later.{given_bit, given_value, maybe_later}
use Rattle.sym_paths.specs.Paths.{Arrival, Handed, Return, Way, are_proper, arrival, first_handed}
use Rattle.sym_paths.specs.Paths.{gone_way, handed, kept_on, kept_proper, printed_in, reached}
use Rattle.sym_paths.specs.Paths.{return_of, way, ways}
use Rattle.sym_paths.specs.Paths.{HoldsGiven, IsGivenBy}
use Rattle.sym_paths.specs.Slots.{result_form}
use Rattle.sym_paths.specs.Storing.{the_return}
use Rattle.sym_paths.specs.Sights.{or_assoc}
use Rattle.sym_paths.proofs.Gathers.{handed_both}
use Rattle.sym_paths.proofs.Kept.{kept_later}
use Rattle.sym_paths.proofs.Arrivals.{the_arrival}

or_cond : {A : Type 0} (b : Bool) (a : A) (o : Option A) → or_other (cond b (Some a) None) o
    ≡ cond b (Some a) o
or_cond true a o = refl
or_cond false a o = refl

-- The value of the first return that is made, or else what is given for that.
abbrev pub value_or : List Handed → Option Reading → Option Reading
value_or [] o = o
value_or (x ∷ xs) o = cond x.gone (option_map spelled x.value) (value_or xs o)

value_last : (xs : List Handed) (x : Handed) (o : Option Reading)
    → value_or (xs ++ x ∷ []) o ≡ value_or xs (value_or (x ∷ []) o)
value_last [] x o = refl
value_last (y ∷ xs) x o = ap (cond y.gone (option_map spelled y.value)) (value_last xs x o)

abbrev pub value_given : Option Return → Option Reading
value_given None = None
value_given (Some r) = r.value

pub value_first : (l : Limits) (xs : List Handed) → value_or xs None
    ≡ value_given (first_handed l xs)
value_first l [] = refl
value_first l (x ∷ xs) =
    elim x.gone as (λ (b : Bool). cond b (option_map spelled x.value) (value_or xs None)
    ≡ value_given (cond b (Some (return_of l x)) (first_handed l xs))) [
      | true ↦ refl
      | false ↦ value_first l xs
    ]

-- a return before a value
given_or : {B : Type 0} (rd : B → Bool) (x : Given B) (w : ReturnedValue B) (o : Option Reading)
    → w.bit ≡ x.bit → Some w.value ≡ x.value → or_other (gives rd w) o
    ≡ value_or (handed rd x ∷ []) o
given_or rd x w o p q =
    or_cond (rd w.bit) (read rd w.value) o
    ∙ ap (λ b. cond (rd b) (Some (read rd w.value)) o) p
    ∙ ap (λ v. cond (rd x.bit) (option_map spelled (option_map (map_bits rd) v)) o) q

-- the value that stands for the last return and for the value behind it
value_step : {B : Type 0} (rd : B → Bool) (xs : List (Given B)) (x : Given B)
    (w : ReturnedValue B) (o : Option Reading) → w.bit ≡ x.bit → Some w.value ≡ x.value
    → value_or (map (handed rd) xs) (or_other (gives rd w) o)
    ≡ value_or (map (handed rd) (xs ++ x ∷ [])) o
value_step rd xs x w o p q =
    ap (value_or (map (handed rd) xs)) (given_or rd x w o p q)
    ∙ sym (value_last (map (handed rd) xs) (handed rd x) o)
    ∙ ap (λ hs. value_or hs o) (sym (map-append (handed rd) xs (x ∷ [])))

pub value_kept : {B : Type 0} (old new : B → Bool) (left all : List (Given B)) (x : Given B)
    (w : ReturnedValue B) (last : Option Reading) {joined before : Option Reading}
    → joined ≡ or_other (gives old w) last → map (handed new) left ≡ map (handed old) left
    → all ≡ left ++ x ∷ [] → w.bit ≡ x.bit → Some w.value ≡ x.value
    → value_or (map (handed old) all) last ≡ before
    → value_or (map (handed new) left) joined ≡ before
value_kept old new left all x w last {joined} {before} j h split p q k =
    ap (value_or (map (handed new) left)) j
    ∙ ap (λ hs. value_or hs (or_other (gives old w) last)) h
    ∙ value_step old left x w last p q
    ∙ ap (λ xs. value_or (map (handed old) xs) last) (sym split) ∙ k

-- one of two values that are returned
pub joined_gives : (a b : Bool) (c : Bool) (x y z : SymValue Bool) → c ≡ (a || b)
    → z ≡ cond a x y → cond c (Some (spelled z)) None
    ≡ or_other (cond a (Some (spelled x)) None) (cond b (Some (spelled y)) None)
joined_gives true b c x y z p q =
    ap (λ i. cond i (Some (spelled z)) None) p ∙ ap (λ v. Some (spelled v)) q
joined_gives false b c x y z p q =
    ap (λ i. cond i (Some (spelled z)) None) p ∙ ap (λ v. cond b (Some (spelled v)) None) q

-- a return of a body that keeps nothing has a value, of the result's form
pub given_some : {B : Type 0} (c : Slots) (v : Option (SymValue B)) → c.prints ≡ 0 → IsGivenBy c v
    → IsSome v
given_some c (Some v) z h = refl
given_some c None z h = absurd (both_ways (c.prints == 0) h (ap (λ (n : ℕ). n == 0) z))

pub returned_held : {S B : Type 0} {owns : S → B → Type 0} {s : S} (c : Slots) (t : Ty)
    (x : Given B) (w : ReturnedValue B) → c.result ≡ Some t → w.bit ≡ x.bit
    → Some w.value ≡ x.value → HoldsGiven owns s c x
    → HoldsReturned owns s (form_for c.limits t) w
returned_held {S} {B} {owns} {s} c t x w r p q h =
    let owned : OwnsAll owns s (values_bits (option_to_list (Some w.value))) =
    subst (λ (v : Option (SymValue B)). OwnsAll owns s (values_bits (option_to_list v))) (sym q)
    (given_value h) in
    let is : Some (form_of w.value) ≡ result_form c =
    subst (λ (v : Option (SymValue B)). IsGivenBy c v) (sym q) h.form_is in
    let form : Some (form_of w.value) ≡ Some (form_for c.limits t) =
    is ∙ ap (option_map (form_for c.limits)) r in
    record {
      bit = subst (owns s) (sym p) (given_bit h);
      value = record { owned = owns_first (bits_of w.value) [] owned; form = cc };
    }

pub as_itself : {S B : Type 0} {owns : S → B → Type 0} {s : S} {f h : Form} {w : ReturnedValue B}
    → HoldsReturned owns s f w → f ≡ h → HoldsReturned owns s h w
as_itself k e = record {
  bit = k.bit;
  value = record { owned = k.value.owned; form = k.value.form ∙ e };
}

pub same_type : {t u : Ty} → Some t ≡ Some u → t ≡ u
same_type e = cc

unmade : (b : Bool) (r : Reading) → cond b (Some r) None ≡ None → not b ≡ true
unmade false r e = refl
unmade true r e = cc

made : (b : Bool) (r s : Reading) → cond b (Some r) None ≡ Some s → (not b ≡ false) × (r ≡ s)
made true r s e = (refl, cc)
made false r s e = cc

-- a call gives what its body returns
pub finish_is : (b : Bool) (r : Reading) (run : Ran) (line : ℕ)
    → cond b (Some r) None ≡ value_given (seen_of run).returned
    → IsOutcome (not b) r (given_by line run)
finish_is b r (Next s) line e = unmade b r e
finish_is b r (Broke s) line e = unmade b r e
finish_is b r (Continued s) line e = unmade b r e
finish_is b r (Returned None s) line e = unmade b r e
finish_is b r (Returned (Some v) s) line e = made b r (sure v) e
finish_is b r (Failed h) line e = unmade b r e

-- What is seen of an end, by its parts.
abbrev pub met_by : Limits → Bool → Bool → Option (SymValue Bool) → List (SymValue Bool)
    → Option Return
met_by l b h v ps = cond b (Some (the_return (value_if h v) (kept_proper l ps) (printed_in l ps)))
    None

same_value : (h k : Bool) (v w : Option (SymValue Bool)) → h ≡ k → (k ≡ true → v ≡ w)
    → value_if h v ≡ value_if k w
same_value h true v w e f = ap (λ (b : Bool). value_if b v) e ∙ ap (option_map spelled) (f refl)
same_value h false v w e f = ap (λ (b : Bool). value_if b v) e

pub same_met : (l : Limits) (a b h k : Bool) (v w : Option (SymValue Bool))
    (ps qs : List (SymValue Bool)) → a ≡ b → h ≡ k → (k ≡ true → v ≡ w) → ps ≡ qs
    → met_by l a h v ps ≡ met_by l b k w qs
same_met l a b h k v w ps qs p q f e =
    ap (λ (i : Bool). met_by l i h v ps) p
    ∙ ap (λ (i : Option Reading). cond b (Some (the_return i (kept_proper l ps) (printed_in l ps)))
    None) (same_value h k v w q f)
    ∙ ap (λ (i : List (SymValue Bool)). met_by l b k w i) e

pub not_met : {B : Type 0} (l : Limits) (rd : B → Bool) (e : Ended B) → rd e.bit ≡ false
    → met l rd e ≡ None
not_met l rd e h =
    let ps = map (map_bits rd) e.printed in
    let value = value_if (rd e.has) (option_map (map_bits rd) e.value) in
    ap (λ (b : Bool). cond b (Some (the_return value (kept_proper l ps) (printed_in l ps))) None) h

-- one of two ends
pub joined_met : (l : Limits) (a b c : Bool) (h k m : Bool) (v w u : Option (SymValue Bool))
    (ps qs rs : List (SymValue Bool)) → c ≡ (a || b) → m ≡ cond a h k → rs ≡ cond a ps qs
    → (a ≡ true → h ≡ true → u ≡ v) → (a ≡ false → k ≡ true → u ≡ w)
    → met_by l c m u rs ≡ or_other (met_by l a h v ps) (met_by l b k w qs)
joined_met l true b c h k m v w u ps qs rs p q e f g =
    same_met l c true m h u v rs ps p q (f refl) e
joined_met l false b c h k m v w u ps qs rs p q e f g =
    same_met l c b m k u w rs qs p q (g refl) e

-- ends in a later state
module _ {S B : Type 0} {owns : S → B → Type 0} {reads : S → List Bool → B → Bool} {s t : S}
    (k : Keeps owns reads s t) where
  pub ended_later : {c : Slots} {e : Ended B} → HoldsEnded owns reads s c e
      → HoldsEnded owns reads t c e
  ended_later h = record {
    bit = k.kept _ h.bit;
    has = k.kept _ h.has;
    value = owned_later k h.value;
    form_is = h.form_is;
    kept = kept_later k h.kept;
    some = λ vs e. h.some vs (sym (k.same _ h.has vs) ∙ e);
  }

  pub met_later : {c : Slots} (l : Limits) (e : Ended B) → HoldsEnded owns reads s c e
      → (vs : List Bool) → met l (reads t vs) e ≡ met l (reads s vs) e
  met_later l e h vs =
      same_met l _ _ _ _ _ _ _ _ (k.same _ h.bit vs) (k.same _ h.has vs)
      (λ i. maybe_later k e.value h.value vs) (values_later k e.printed h.kept.owned vs)

-- where the joined end has a value there is one
pub some_from : {A B C : Type 0} (f : A → C) (g : B → C) (x : Option A) (y : Option B)
    → option_map f x ≡ option_map g y → IsSome y → IsSome x
some_from f g (Some x) y e h = refl
some_from f g None (Some y) e h = cc
some_from f g None None e h = h

pub some_chosen : (a h k : Bool) {P : Type 0} → cond a h k ≡ true → (a ≡ true → h ≡ true → P)
    → (a ≡ false → k ≡ true → P) → P
some_chosen true h k e f g = f refl e
some_chosen false h k e f g = g refl e

-- an end by a `return`
pub value_of_return : {B : Type 0} (rd : B → Bool) (h : Bool) (v : Option (SymValue B))
    → h ≡ is_some v
    → value_if h (option_map (map_bits rd) v) ≡ option_map spelled (option_map (map_bits rd) v)
value_of_return rd h None e = ap (λ (b : Bool). value_if b None) e
value_of_return rd h (Some v) e = ap (λ (b : Bool). value_if b (Some (map_bits rd v))) e

pub maybe_given : {B : Type 0} (c : Slots) (v : Option (SymValue B)) → IsGivenBy c v
    → IsMaybeBy c v
maybe_given c None h = tt
maybe_given c (Some v) h = h

pub end_append : (c : Slots) (xs ys : List Way)
    → first_end c (xs ++ ys) ≡ or_other (first_end c xs) (first_end c ys)
end_append c [] ys = refl
end_append c (x ∷ xs) ys =
    elim x.gone as (λ (b : Bool). cond b (Some (end_of c x)) (first_end c (xs ++ ys))
    ≡ or_other (cond b (Some (end_of c x)) (first_end c xs)) (first_end c ys)) [
      | true ↦ refl
      | false ↦ end_append c xs ys
    ]

-- the end that stands for the last path and for the end behind it
end_step : {B : Type 0} (c : Slots) (rd : B → Bool) (xs : List (Path B)) (x : Path B)
    (e o : Option Return) → e ≡ or_other (first_end c (way rd x ∷ [])) o
    → or_other (first_end c (ways rd xs)) e ≡ or_other (first_end c (ways rd (xs ++ x ∷ []))) o
end_step c rd xs x e o h =
    let front = first_end c (ways rd xs) in
    let last = first_end c (way rd x ∷ []) in
    ap (or_other front) h ∙ sym (or_assoc front last o)
    ∙ ap (λ (i : Option Return). or_other i o) (sym (end_append c (ways rd xs) (way rd x ∷ [])))
    ∙ ap (λ (ws : List Way). or_other (first_end c ws) o) (sym (map-append (way rd) xs (x ∷ [])))

pub end_kept : {B : Type 0} (c : Slots) (old new : B → Bool) (left all : List (Path B))
    (x : Path B) (last : Option Return) {e joined before : Option Return} → joined ≡ or_other e last
    → e ≡ first_end c (way old x ∷ []) → ways new left ≡ ways old left → all ≡ left ++ x ∷ []
    → or_other (first_end c (ways old all)) last ≡ before
    → or_other (first_end c (ways new left)) joined ≡ before
end_kept c old new left all x last {e} {joined} {before} j h same split k =
    ap (λ (ws : List Way). or_other (first_end c ws) joined) same
    ∙ end_step c old left x joined last (j ∙ ap (λ (o : Option Return). or_other o last) h)
    ∙ ap (λ ps. or_other (first_end c (ways old ps)) last) (sym split) ∙ k

-- and for the last return
return_step : {B : Type 0} (l : Limits) (rd : B → Bool) (xs : List (Given B)) (x : Given B)
    (e o : Option Return) → e ≡ or_other (first_handed l (handed rd x ∷ [])) o
    → or_other (first_handed l (map (handed rd) xs)) e
    ≡ or_other (first_handed l (map (handed rd) (xs ++ x ∷ []))) o
return_step l rd xs x e o h =
    let front = first_handed l (map (handed rd) xs) in
    let last = first_handed l (handed rd x ∷ []) in
    ap (or_other front) h ∙ sym (or_assoc front last o)
    ∙ ap (λ (i : Option Return). or_other i o) (sym (handed_both l rd xs (x ∷ [])))

pub return_kept : {B : Type 0} (l : Limits) (old new : B → Bool) (left all : List (Given B))
    (x : Given B) (last : Option Return) {e joined before : Option Return}
    → joined ≡ or_other e last
    → e ≡ first_handed l (handed old x ∷ [])
    → map (handed new) left ≡ map (handed old) left → all ≡ left ++ x ∷ []
    → or_other (first_handed l (map (handed old) all)) last ≡ before
    → or_other (first_handed l (map (handed new) left)) joined ≡ before
return_kept l old new left all x last {e} {joined} {before} j h same split k =
    ap (λ (hs : List Handed). or_other (first_handed l hs) joined) same
    ∙ return_step l old left x joined last (j ∙ ap (λ (o : Option Return). or_other o last) h)
    ∙ ap (λ xs. or_other (first_handed l (map (handed old) xs)) last) (sym split) ∙ k

-- What is seen of the ways that lead out of a body, as ends of the run.
abbrev end_at : Option State → Option Return
end_at None = None
end_at (Some s) = Some (the_return None true s.printed)

end_by_way : (b : Bool) (c : Slots) (w : Way) (ws : List Way) (o : Option State)
    → (gone_way c ws ≡ reached o → first_end c ws ≡ end_at o)
    → cond b (Some (arrival c w)) (gone_way c ws) ≡ reached o
    → cond b (Some (end_of c w)) (first_end c ws) ≡ end_at o
end_by_way false c w ws o h e = h e
end_by_way true c w ws None h e = cc
end_by_way true c w ws (Some s) h e =
    let i : arrival c w ≡ the_arrival true s = cc in
    let proper = ap (λ (a : Arrival). a.proper) i in
    let kept = (and_parts (are_proper w.values) (kept_proper c.limits (kept_on c w)) proper).1 in
    let there = ap (λ (a : Arrival). a.state.printed) i in
    ap (λ (q : Bool). Some (the_return None q (printed_in c.limits (kept_on c w)))) kept
    ∙ ap (λ (q : Option (List Value)). Some (the_return None true q)) there

ends_at : (c : Slots) (ws : List Way) (o : Option State) → gone_way c ws ≡ reached o
    → first_end c ws ≡ end_at o
ends_at c [] None e = refl
ends_at c [] (Some s) e = cc
ends_at c (w ∷ ws) o e = end_by_way w.gone c w ws o (ends_at c ws o) e

abbrev pub the_seen : Option Arrival → Option Arrival → Option Arrival → Option Return → Seen
the_seen a b c d = record { next = a; broke = b; continued = c; returned = d }

first_of : {a b c d e f g h : Option Return} → a ≡ e → b ≡ f → c ≡ g → d ≡ h
    → or_other a (or_other b (or_other c (or_other d None)))
    ≡ or_other e (or_other f (or_other g (or_other h None)))
first_of {a} {b} {c} {d} {e} {f} {g} {h} p q r s = cc

pub body_end : (c : Slots) (x y z : List Way) (d : Option Return) (run : Ran)
    → the_seen (gone_way c x) (gone_way c y) (gone_way c z) d ≡ seen_of run
    → or_other (first_end c x) (or_other (first_end c y) (or_other (first_end c z)
    (or_other d None)))
    ≡ end_seen run
body_end c x y z d run e =
    by_run run
    (ap (λ (s : Seen). s.next) e) (ap (λ (s : Seen). s.broke) e)
    (ap (λ (s : Seen). s.continued) e) (ap (λ (s : Seen). s.returned) e)
  where
    by_run : (run : Ran) → gone_way c x ≡ (seen_of run).next → gone_way c y ≡ (seen_of run).broke
        → gone_way c z ≡ (seen_of run).continued → d ≡ (seen_of run).returned
        → or_other (first_end c x) (or_other (first_end c y) (or_other (first_end c z)
        (or_other d None)))
        ≡ end_seen run
    by_run (Next s) p q r t = first_of (ends_at c x (Some s) p) (ends_at c y None q)
        (ends_at c z None r) t
    by_run (Broke s) p q r t = first_of (ends_at c x None p) (ends_at c y (Some s) q)
        (ends_at c z None r) t
    by_run (Continued s) p q r t = first_of (ends_at c x None p) (ends_at c y None q)
        (ends_at c z (Some s) r) t
    by_run (Returned v s) p q r t = first_of (ends_at c x None p) (ends_at c y None q)
        (ends_at c z None r) t
    by_run (Failed h) p q r t = first_of (ends_at c x None p) (ends_at c y None q)
        (ends_at c z None r) t

-- ends that are joined one after another
pub ends_in_turn : {r m n o p a b c e f g : Option Return} (d : Option Return) → r ≡ or_other a m
    → m ≡ or_other b n → n ≡ or_other c o → o ≡ or_other d p → p ≡ None
    → a ≡ e → b ≡ f → c ≡ g → r ≡ or_other e (or_other f (or_other g (or_other d None)))
ends_in_turn {r} {m} {n} {o} {p} {a} {b} {c} {e} {f} {g} d h i j k z x y w = cc
