-- What later states of a logic leave of paths, of returns and of the ways out of a body:
-- they belong to them, and read there as before.
use Rattle.std.specs.Prelude.{◌≡◌, Bool, List, [], ◌∷◌, ◌++◌, length, map, refl}
use Rattle.std.specs.Prelude.{Option, Some, None, option_map, option_to_list}
use Rattle.std.proofs.Common.{ap}
use Rattle.std.proofs.lemmas.List.Elements.{All-cons, All-head, All-tail}
use Rattle.bit_words.specs.Logic.{Keeps, OwnsAll}
use Rattle.bit_words.specs.Later.{owned_later, read_later, owns_both, owns_first, owns_second}
use Rattle.sym_values.specs.declared.value.SymValue.{SymValue}
use Rattle.sym_values.specs.Forms.{Form, bits_of, forms_of, values_bits}
use Rattle.sym_values.specs.Later.{value_later, values_later}
use Rattle.sym_values.specs.Reading.{map_bits}
use Rattle.sym_paths.specs.declared.slots.Slots.{Slots}
use Rattle.sym_paths.specs.declared.path.Path.{Path}
use Rattle.sym_paths.specs.declared.path.Given.{Given}
use Rattle.sym_paths.specs.declared.path.Out.{Out}
use Rattle.sym_paths.specs.Slots.{print_forms}
use Rattle.sym_paths.specs.Paths.{way, ways, handed, HoldsPath, EachPath, HoldsPaths}
use Rattle.sym_paths.specs.Paths.{IsGivenBy, HoldsGiven, EachGiven, HoldsAllGiven}
use Rattle.sym_paths.specs.Endings.{HoldsOut, see}

-- the bits of a value, where there is one
abbrev pub maybe_bits : {B : Type 0} → Option (SymValue B) → List B
maybe_bits v = values_bits (option_to_list v)

-- the parts of a path, and of a return
module _ {S B : Type 0} {owns : S → B → Type 0} where
  head_owned : {s : S} (x : B) (w : List B) → OwnsAll owns s (x ∷ w) → owns s x
  head_owned {s} x w h = All-head (owns s) x w h.each

  tail_owned : {s : S} (x : B) (w : List B) → OwnsAll owns s (x ∷ w) → OwnsAll owns s w
  tail_owned {s} x w h = record { each = All-tail (owns s) x w h.each }

  cons_owned : {s : S} (x : B) (w : List B) → owns s x → OwnsAll owns s w → OwnsAll owns s (x ∷ w)
  cons_owned {s} x w b h = record { each = All-cons (owns s) x w b h.each }

  pub path_bit : {s : S} {fs : List Form} {p : Path B} → HoldsPath owns s fs p → owns s p.bit
  path_bit {s} {fs} {p} h = head_owned p.bit (values_bits p.values ++ p.set) h.owned

  pub path_values : {s : S} {fs : List Form} {p : Path B} → HoldsPath owns s fs p
      → OwnsAll owns s (values_bits p.values)
  path_values {s} {fs} {p} h = owns_first (values_bits p.values) p.set
      (tail_owned p.bit (values_bits p.values ++ p.set) h.owned)

  pub path_set : {s : S} {fs : List Form} {p : Path B} → HoldsPath owns s fs p
      → OwnsAll owns s p.set
  path_set {s} {fs} {p} h = owns_second (values_bits p.values) p.set
      (tail_owned p.bit (values_bits p.values ++ p.set) h.owned)

  pub holds_path : {s : S} {fs : List Form} (p : Path B) → owns s p.bit
      → OwnsAll owns s (values_bits p.values) → OwnsAll owns s p.set
      → forms_of p.values ≡ fs → length p.set ≡ length fs → HoldsPath owns s fs p
  holds_path p b v w f l = record {
    owned = cons_owned p.bit (values_bits p.values ++ p.set) b (owns_both v w);
    forms_are = f;
    long = l;
  }

  pub given_bit : {s : S} {c : Slots} {x : Given B} → HoldsGiven owns s c x → owns s x.bit
  given_bit {s} {c} {x} h =
      head_owned x.bit (maybe_bits x.value ++ values_bits x.printed) h.owned

  pub given_value : {s : S} {c : Slots} {x : Given B} → HoldsGiven owns s c x
      → OwnsAll owns s (maybe_bits x.value)
  given_value {s} {c} {x} h = owns_first (maybe_bits x.value) (values_bits x.printed)
      (tail_owned x.bit (maybe_bits x.value ++ values_bits x.printed) h.owned)

  pub given_printed : {s : S} {c : Slots} {x : Given B} → HoldsGiven owns s c x
      → OwnsAll owns s (values_bits x.printed)
  given_printed {s} {c} {x} h = owns_second (maybe_bits x.value) (values_bits x.printed)
      (tail_owned x.bit (maybe_bits x.value ++ values_bits x.printed) h.owned)

  pub holds_given : {s : S} {c : Slots} (x : Given B) → owns s x.bit
      → OwnsAll owns s (maybe_bits x.value) → OwnsAll owns s (values_bits x.printed)
      → IsGivenBy c x.value → forms_of x.printed ≡ print_forms c.limits c.prints
      → HoldsGiven owns s c x
  holds_given x b v p e k = record {
    owned = cons_owned x.bit (maybe_bits x.value ++ values_bits x.printed) b (owns_both v p);
    form_is = e;
    kept = k;
  }

module _ {S B : Type 0} {owns : S → B → Type 0} {reads : S → List Bool → B → Bool} where
  -- what is held
  pub path_later : {s t : S} {fs : List Form} {p : Path B} → Keeps owns reads s t
      → HoldsPath owns s fs p → HoldsPath owns t fs p
  path_later k h = record {
    owned = owned_later k h.owned;
    forms_are = h.forms_are;
    long = h.long;
  }

  each_path_later : {s t : S} (fs : List Form) → Keeps owns reads s t → (ps : List (Path B))
      → EachPath owns s fs ps → EachPath owns t fs ps
  each_path_later fs k [] h = tt
  each_path_later fs k (p ∷ ps) h = (path_later k h.0, each_path_later fs k ps h.1)

  pub paths_later : {s t : S} {fs : List Form} {ps : List (Path B)} → Keeps owns reads s t
      → HoldsPaths owns s fs ps → HoldsPaths owns t fs ps
  paths_later {s} {t} {fs} {ps} k h = record { each = each_path_later fs k ps h.each }

  pub given_later : {s t : S} {c : Slots} {x : Given B} → Keeps owns reads s t
      → HoldsGiven owns s c x → HoldsGiven owns t c x
  given_later k h = record {
    owned = owned_later k h.owned;
    form_is = h.form_is;
    kept = h.kept;
  }

  each_given_later : {s t : S} (c : Slots) → Keeps owns reads s t → (xs : List (Given B))
      → EachGiven owns s c xs → EachGiven owns t c xs
  each_given_later c k [] h = tt
  each_given_later c k (x ∷ xs) h = (given_later k h.0, each_given_later c k xs h.1)

  pub all_given_later : {s t : S} {c : Slots} {xs : List (Given B)} → Keeps owns reads s t
      → HoldsAllGiven owns s c xs → HoldsAllGiven owns t c xs
  all_given_later {s} {t} {c} {xs} k h = record { each = each_given_later c k xs h.each }

  pub out_later : {s t : S} {c : Slots} {out : Out B} → Keeps owns reads s t
      → HoldsOut owns s c out → HoldsOut owns t c out
  out_later k h = record {
    next = paths_later k h.next;
    broke = paths_later k h.broke;
    continued = paths_later k h.continued;
    returned = all_given_later k h.returned;
  }

  -- what it reads as
  pub way_later : {s t : S} {fs : List Form} {p : Path B} → Keeps owns reads s t
      → HoldsPath owns s fs p → (vs : List Bool) → way (reads t vs) p ≡ way (reads s vs) p
  way_later {s} {t} {fs} {p} k h vs =
      let a : reads t vs p.bit ≡ reads s vs p.bit = k.same _ (path_bit h) vs in
      let b : map (map_bits (reads t vs)) p.values ≡ map (map_bits (reads s vs)) p.values =
      values_later k p.values (path_values h) vs in
      let c : map (reads t vs) p.set ≡ map (reads s vs) p.set = read_later k (path_set h) vs in
      cc

  each_way_later : {s t : S} (fs : List Form) → Keeps owns reads s t → (ps : List (Path B))
      → EachPath owns s fs ps → (vs : List Bool) → ways (reads t vs) ps ≡ ways (reads s vs) ps
  each_way_later fs k [] h vs = refl
  each_way_later {s} {t} fs k (p ∷ ps) h vs =
      let a : way (reads t vs) p ≡ way (reads s vs) p = way_later k h.0 vs in
      let b : ways (reads t vs) ps ≡ ways (reads s vs) ps = each_way_later fs k ps h.1 vs in
      cc

  pub ways_later : {s t : S} {fs : List Form} {ps : List (Path B)} → Keeps owns reads s t
      → HoldsPaths owns s fs ps → (vs : List Bool) → ways (reads t vs) ps ≡ ways (reads s vs) ps
  ways_later {s} {t} {fs} {ps} k h vs = each_way_later fs k ps h.each vs

  -- a value, where there is one
  pub maybe_later : {s t : S} → Keeps owns reads s t → (v : Option (SymValue B))
      → OwnsAll owns s (maybe_bits v) → (vs : List Bool)
      → option_map (map_bits (reads t vs)) v ≡ option_map (map_bits (reads s vs)) v
  maybe_later k None h vs = refl
  maybe_later k (Some x) h vs = ap Some (value_later k x (owns_first (bits_of x) [] h) vs)

  pub handed_later : {s t : S} {c : Slots} {x : Given B} → Keeps owns reads s t
      → HoldsGiven owns s c x → (vs : List Bool) → handed (reads t vs) x ≡ handed (reads s vs) x
  handed_later {s} {t} {c} {x} k h vs =
      let a : reads t vs x.bit ≡ reads s vs x.bit = k.same _ (given_bit h) vs in
      let b : option_map (map_bits (reads t vs)) x.value
      ≡ option_map (map_bits (reads s vs)) x.value = maybe_later k x.value (given_value h) vs in
      let p : map (map_bits (reads t vs)) x.printed ≡ map (map_bits (reads s vs)) x.printed =
      values_later k x.printed (given_printed h) vs in
      cc

  each_handed_later : {s t : S} (c : Slots) → Keeps owns reads s t → (xs : List (Given B))
      → EachGiven owns s c xs → (vs : List Bool)
      → map (handed (reads t vs)) xs ≡ map (handed (reads s vs)) xs
  each_handed_later c k [] h vs = refl
  each_handed_later {s} {t} c k (x ∷ xs) h vs =
      let a : handed (reads t vs) x ≡ handed (reads s vs) x = handed_later k h.0 vs in
      let b : map (handed (reads t vs)) xs ≡ map (handed (reads s vs)) xs =
      each_handed_later c k xs h.1 vs in
      cc

  pub all_handed_later : {s t : S} {c : Slots} {xs : List (Given B)} → Keeps owns reads s t
      → HoldsAllGiven owns s c xs → (vs : List Bool)
      → map (handed (reads t vs)) xs ≡ map (handed (reads s vs)) xs
  all_handed_later {s} {t} {c} {xs} k h vs = each_handed_later c k xs h.each vs

  pub see_later : {s t : S} {c : Slots} {out : Out B} → Keeps owns reads s t
      → HoldsOut owns s c out → (vs : List Bool) → see (reads t vs) c out ≡ see (reads s vs) c out
  see_later {s} {t} {c} {out} k h vs =
      let a : ways (reads t vs) out.next ≡ ways (reads s vs) out.next = ways_later k h.next vs in
      let b : ways (reads t vs) out.broke ≡ ways (reads s vs) out.broke =
      ways_later k h.broke vs in
      let d : ways (reads t vs) out.continued ≡ ways (reads s vs) out.continued =
      ways_later k h.continued vs in
      let e : map (handed (reads t vs)) out.returned ≡ map (handed (reads s vs)) out.returned =
      all_handed_later k h.returned vs in
      cc
