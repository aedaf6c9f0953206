-- The value at a place of the order.
use Rattle.std.proofs.Common.{◌≡◌, ℕ, zero, suc, ◌+◌, ◌-◌, ◌*◌, ◌^◌, ◌/◌, ◌%◌, ◌<◌, ◌≤◌, min, inl, inr, List, [], ◌∷◌, ◌++◌, map, length, replicate, drop, get_or, Some, ℤ, pos, ◌+ℤ◌, sym, ap, ◌∙◌, subst, arith}
use Rattle.std.specs.List.{AllZip, Contains, flat_map, slice_get}
use Rattle.std.specs.Option.{option_map}
use Rattle.std.proofs.lemmas.Bool.{cases_lt}
use Rattle.std.proofs.lemmas.List.{drop_more}
use Rattle.std.proofs.lemmas.List.Elements.{All-cons, All-contains, All-nil}
use Rattle.std.proofs.lemmas.Option.{get_or_from_slice_get, slice_get-map, slice_get_within}
use Rattle.mpy_tree.specs.Operations.{below}
use Rattle.mpy_tree.specs.Printable.{ArePrintable}
use Rattle.mpy_tree.specs.declared.value.Value.{Value}
use Rattle.mpy_tree.specs.declared.value.Value.TheVariants as value
use Rattle.bounds_reader.specs.declared.params.Param.{Param}
use Rattle.bounds_reader.specs.declared.params.Param.TheVariants as param
use Rattle.input_space.specs.Counts.{lists_count}
use Rattle.input_space.specs.Inputs.{inputs, lists_over, numbers, span, tuples, values_of}
use Rattle.input_space.proofs.Blocks.{Leads, Splits, get_left, get_right, leads_first, leads_next, leads_last, length_powers, length_tuples, splits}
use Rattle.input_space.proofs.Membership.{Contains-from_tuples}
use Rattle.input_space.proofs.Totals.{count_within, length_below, length_lists_below, length_numbers, of_length, one_length_more}

get_below : (n k : ℕ) → k < n → slice_get (below n) k ≡ Some k
get_below zero k h = absurd (omega arith)
get_below (suc n) k h =
    elim (cases_lt k n) [
      | inl a ↦ get_left (below n) (n ∷ []) k (omega (arith, length_below n)) ∙ get_below n k a
      | inr b ↦
          let e : k ≡ length (below n) + 0 = omega (arith, length_below n) in
          let f : n ≡ k = omega arith in
          ap (slice_get (below n ++ n ∷ [])) e ∙ get_right (below n) (n ∷ []) 0 ∙ ap Some f
    ]

-- the number at a place
pub get_number : (low high : ℤ) (k : ℕ) → k < span low high → slice_get (numbers low high) k ≡ Some (low +ℤ pos k)
get_number low high k h =
    slice_get-map (λ j. low +ℤ pos j) (below (span low high)) k
    ∙ ap (option_map (λ j. low +ℤ pos j)) (get_below (span low high) k h)

-- the list at a place: those of its length come after the shorter ones
pub get_list : {A : Type 0} (xs : List A) (least k n j : ℕ) → k < n → j < length xs ^ (least + k) → slice_get (flat_map (of_length xs least) (below n)) (lists_count (length xs) least k + j) ≡ slice_get (of_length xs least k) j
get_list xs least k zero j h g = absurd (omega arith)
get_list xs least k (suc n) j h g =
    let here = lists_count (length xs) least k + j in
    let front = flat_map (of_length xs least) (below n) in
    elim (cases_lt k n) [
      | inl a ↦
          let l : here < length front = omega (arith, length_lists_below xs least n, count_within (length xs) least k n a) in
          ap (λ zs. slice_get zs here) (one_length_more xs least n)
          ∙ get_left front (of_length xs least n) here l
          ∙ get_list xs least k n j a g
      | inr b ↦
          let e : k ≡ n = omega arith in
          let at : lists_count (length xs) least n + j ≡ length front + j = omega (arith, length_lists_below xs least n) in
          subst (λ m. slice_get (flat_map (of_length xs least) (below (suc n))) (lists_count (length xs) least m + j) ≡ slice_get (of_length xs least m) j) (sym e)
          (ap (λ zs. slice_get zs (lists_count (length xs) least n + j)) (one_length_more xs least n)
          ∙ ap (slice_get (front ++ of_length xs least n)) at
          ∙ get_right front (of_length xs least n) j)
    ]

-- the rest of a place that lies among the lists of n lengths, but not of those but the last
pub rest_below : (base least k last n i rest : ℕ) → last ≡ n - 1 → k ≡ last → i < lists_count base least n → i ≡ lists_count base least k + rest → rest < base ^ (least + last)
rest_below base least k last zero i rest e f h g = absurd (omega arith)
rest_below base least k last (suc n) i rest e f h g =
    let same : last ≡ n = omega arith in
    let m : i ≡ lists_count base least n + rest = subst (λ m. i ≡ lists_count base least m + rest) (f ∙ same) g in
    subst (λ m. rest < base ^ (least + m)) (sym same) (omega arith)

-- lists of elements of xs, the first of which are found

pub elements_first : {A : Type 0} (m : ℕ) (xs : List A) (len left base i : ℕ) → base ≡ length xs → left ≡ len → i < base ^ len → base ^ len < m → Leads m (tuples (replicate len xs)) i [] (tuples (replicate left xs)) i
elements_first m xs len left base i b e h few =
    let n : length (tuples (replicate len xs)) ≡ base ^ len = length_powers len xs ∙ ap (λ k. k ^ len) (sym b) in
    subst (λ k. Leads m (tuples (replicate len xs)) i [] (tuples (replicate k xs)) i) (sym e)
    (leads_first m (tuples (replicate len xs)) i (omega (arith, n)) (omega (arith, n)))

pub record HasMore (m base left j : ℕ) : Type 0 where
  pub within : j < base ^ left
  pub few : base ^ left < m

pub elements_left : {A : Type 0} (m : ℕ) (all : List (List A)) (i : ℕ) (found xs : List A) (left base j : ℕ) → base ≡ length xs → Leads m all i found (tuples (replicate left xs)) j → HasMore m base left j
elements_left m all i found xs left base j b h =
    let n : length (tuples (replicate left xs)) ≡ base ^ left = length_powers left xs ∙ ap (λ k. k ^ left) (sym b) in
    record { within = omega (arith, n, h.within); few = omega (arith, n, h.few) }

pub elements_next : {A : Type 0} (m : ℕ) (all : List (List A)) (i : ℕ) (found xs : List A) (left fewer n base j k next : ℕ) (x : A) → left ≡ suc n → fewer ≡ n → base ≡ length xs → Leads m all i found (tuples (replicate left xs)) j → slice_get xs k ≡ Some x → next < base ^ fewer → j ≡ k * base ^ fewer + next → Leads m all i (found ++ x ∷ []) (tuples (replicate n xs)) next
elements_next m all i found xs left fewer n base j k next x e f b h at l place =
    let rest : base ^ fewer ≡ length (tuples (replicate n xs)) = ap (λ a. base ^ a) f ∙ ap (λ a. a ^ n) b ∙ sym (length_powers n xs) in
    leads_next m all i found xs (replicate n xs) j k next x
    (subst (λ a. Leads m all i found (tuples (replicate a xs)) j) e h) at
    (subst (λ a. next < a) rest l) (subst (λ a. j ≡ k * a + next) rest place)

pub elements_last : {A : Type 0} (m : ℕ) (all : List (List A)) (i : ℕ) (found xs : List A) (left j : ℕ) → left ≡ 0 → Leads m all i found (tuples (replicate left xs)) j → slice_get all i ≡ Some found
elements_last m all i found xs left j e h =
    leads_last m all i found j (subst (λ k. Leads m all i found (tuples (replicate k xs)) j) e h)

-- The value of a parameter at a place: a list's number is that of the shorter lists and its number
-- among those of its length.

pub value_int : (p : Param) (low high : ℤ) (i : ℕ) (z : ℤ) → p ≡ param.Int low high → slice_get (numbers low high) i ≡ Some z → slice_get (values_of p) i ≡ Some (value.Int z)
value_int p low high i z e h = rw e (slice_get-map value.Int (numbers low high) i ∙ ap (option_map value.Int) h)

-- there are no more lists of one length than of all
pub length_few : (m base least more n : ℕ) → more < n → lists_count base least n < m → base ^ (least + more) < m
length_few m base least more n h few = omega (arith, count_within base least more n h)

record StandsAt (base least most i more rest : ℕ) : Type 0 where
  pub length : more < suc most - least
  pub place : i ≡ lists_count base least more + rest
  pub below : rest < base ^ (least + more)

get_lists : {A : Type 0} (xs : List A) (least most base i more rest len : ℕ) (ys : List A) → base ≡ length xs → len ≡ least + more → StandsAt base least most i more rest → slice_get (tuples (replicate len xs)) rest ≡ Some ys → slice_get (lists_over least most xs) i ≡ Some ys
get_lists xs least most base i more rest len ys b l h at =
    let place : i ≡ lists_count (length xs) least more + rest = subst (λ k. i ≡ lists_count k least more + rest) b h.place in
    ap (slice_get (lists_over least most xs)) place
    ∙ get_list xs least more (suc most - least) rest h.length (subst (λ k. rest < k ^ (least + more)) b h.below)
    ∙ subst (λ k. slice_get (tuples (replicate k xs)) rest ≡ Some ys) l at

pub value_list : (p : Param) (least most : ℕ) (low high : ℤ) (base i more rest len : ℕ) (zs : List ℤ) → p ≡ param.List least most low high → base ≡ span low high → len ≡ least + more → more < suc most - least → i ≡ lists_count base least more + rest → rest < base ^ (least + more) → slice_get (tuples (replicate len (numbers low high))) rest ≡ Some zs → slice_get (values_of p) i ≡ Some (value.List zs)
value_list p least most low high base i more rest len zs e b l h place low_rest at =
    let xs = numbers low high in
    rw e
    (slice_get-map value.List (lists_over least most xs) i
    ∙ ap (option_map value.List) (get_lists xs least most base i more rest len zs (b ∙ sym (length_numbers low high)) l (record { length = h; place = place; below = low_rest }) at))

pub value_text : (p : Param) (least most : ℕ) (alphabet : List ℕ) (base i more rest len : ℕ) (cs : List ℕ) → p ≡ param.Text least most alphabet → base ≡ length alphabet → len ≡ least + more → more < suc most - least → i ≡ lists_count base least more + rest → rest < base ^ (least + more) → slice_get (tuples (replicate len alphabet)) rest ≡ Some cs → slice_get (values_of p) i ≡ Some (value.Text cs)
value_text p least most alphabet base i more rest len cs e b l h place low_rest at =
    rw e
    (slice_get-map value.Text (lists_over least most alphabet) i
    ∙ ap (option_map value.Text) (get_lists alphabet least most base i more rest len cs b l (record { length = h; place = place; below = low_rest }) at))

abbrev IsPrintableByte : ℕ → Type 0
IsPrintableByte c = (32 ≤ c) × (c ≤ 126)

-- the characters of a text over an alphabet are those of the alphabet
all_printable : (n : ℕ) (alphabet cs : List ℕ) → ArePrintable alphabet → AllZip Contains (replicate n alphabet) cs → ArePrintable cs
all_printable zero alphabet [] p h = All-nil IsPrintableByte
all_printable zero alphabet (c ∷ cs) p h = absurd h
all_printable (suc n) alphabet [] p h = absurd h
all_printable (suc n) alphabet (c ∷ cs) p h =
    All-cons IsPrintableByte c cs (All-contains IsPrintableByte alphabet c p h.0) (all_printable n alphabet cs p h.1)

pub text_printable : (n i : ℕ) (alphabet cs : List ℕ) → ArePrintable alphabet → slice_get (tuples (replicate n alphabet)) i ≡ Some cs → ArePrintable cs
text_printable n i alphabet cs p h =
    let all = tuples (replicate n alphabet) in
    all_printable n alphabet cs p
    (Contains-from_tuples (replicate n alphabet) cs (i, slice_get_within all i cs h, get_or_from_slice_get all i cs cs h))

-- inputs whose first k values are found, and the value of the next parameter
module _ (m : ℕ) (all : List (List Value)) (i : ℕ) (found : List Value) (ps : List Param) (k j size : ℕ) (p : Param) (h : k < length ps) (e : p ≡ get_or ps k p) (g : Leads m all i found (inputs (drop k ps)) j) (s : size ≡ min (length (inputs (drop (k + 1) ps))) m) where
  begun : Leads m all i found (inputs (p ∷ drop (k + 1) ps)) j
  begun =
      let here : drop k ps ≡ p ∷ drop (k + 1) ps = drop_more ps k p h ∙ ap (λ q. q ∷ drop (k + 1) ps) (sym e) in
      subst (λ qs. Leads m all i found (inputs qs) j) here g

  pub value_place : Splits m (length (values_of p)) (length (inputs (drop (k + 1) ps))) j size
  value_place =
      let product : length (inputs (p ∷ drop (k + 1) ps)) ≡ length (values_of p) * length (inputs (drop (k + 1) ps)) = length_tuples (values_of p) (map values_of (drop (k + 1) ps)) in
      splits m (length (values_of p)) (length (inputs (drop (k + 1) ps))) j size (subst (λ n. j < n) product begun.within) (subst (λ n. n < m) product begun.few) s

  pub value_next : (v : Value) → slice_get (values_of p) (j / size) ≡ Some v → Leads m all i (found ++ v ∷ []) (inputs (drop (k + 1) ps)) (j % size)
  value_next v at =
      leads_next m all i found (values_of p) (map values_of (drop (k + 1) ps)) j (j / size) (j % size) v begun at value_place.rest value_place.place
