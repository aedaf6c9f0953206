-- What later states of a logic leave of printed values and of the ends of runs: they belong to
-- them, and read there as before.
use Rattle.std.specs.Prelude.{◌≡◌, Bool, List, [], ◌∷◌, ◌++◌, map, take, Option, Some, None}
use Rattle.std.specs.Prelude.{option_map, option_to_list, refl}
use Rattle.std.proofs.Common.{◌∙◌, ap, sym}
use Rattle.std.proofs.lemmas.List.{take-map}
use Rattle.std.specs.declared.result.Result.{Result}
use Rattle.std.specs.declared.result.Result.TheVariants.{Ok, Err}
use Rattle.mpy_tree.specs.declared.limits.Limits.{Limits}
use Rattle.mpy_tree.specs.declared.value.Value.{Value}
use Rattle.mpy_tree.specs.Running.{Done}
use Rattle.bit_words.specs.Later.{nat_later, owned_later, owns_first, owns_second, read_later}
use Rattle.bit_words.specs.Logic.{Keeps, OwnsAll}
use Rattle.bit_words.specs.Words.{nat_of}
use Rattle.sym_values.specs.declared.done.PrintSlot.{PrintSlot}
use Rattle.sym_values.specs.declared.done.SymDone.{SymDone}
use Rattle.sym_values.specs.declared.value.SymValue.{SymValue}
use Rattle.sym_values.specs.Forms.{Form, bits_of, gathered}
use Rattle.sym_values.specs.Later.{value_later}
use Rattle.sym_values.specs.Printed.{DoneReads, IsDoneIn, IsSlotIn, ValueReads, slot_read}
use Rattle.sym_values.specs.Printed.{slots_bits}
use Rattle.sym_values.specs.Reading.{read, spelled}

module _ {S B : Type 0} {owns : S → B → Type 0} {reads : S → List Bool → B → Bool} where
  -- printed values
  pub slot_in_later : {s t : S} {l : Limits} {x : PrintSlot B} → Keeps owns reads s t
      → IsSlotIn owns s l x → IsSlotIn owns t l x
  slot_in_later p h = record {
    owned_kind = owned_later p h.owned_kind;
    owned_bits = owned_later p h.owned_bits;
    kind = h.kind;
    bits = h.bits;
  }

  pub slot_later : {s t : S} → Keeps owns reads s t → (l : Limits) (x : PrintSlot B)
      → OwnsAll owns s (x.kind ++ x.bits) → (vs : List Bool)
      → slot_read l (reads t vs) x ≡ slot_read l (reads s vs) x
  slot_later {s} {t} p l x h vs =
      let kind : map (reads t vs) x.kind ≡ map (reads s vs) x.kind =
      read_later p (owns_first x.kind x.bits h) vs in
      let bits : map (reads t vs) x.bits ≡ map (reads s vs) x.bits =
      read_later p (owns_second x.kind x.bits h) vs in
      rw (kind, bits) refl

  slots_later : {s t : S} → Keeps owns reads s t → (l : Limits) (xs : List (PrintSlot B))
      → OwnsAll owns s (slots_bits xs) → (vs : List Bool)
      → map (slot_read l (reads t vs)) xs ≡ map (slot_read l (reads s vs)) xs
  slots_later p l [] h vs = refl
  slots_later {s} {t} p l (x ∷ xs) h vs =
      let head : slot_read l (reads t vs) x ≡ slot_read l (reads s vs) x =
      slot_later p l x (owns_first (x.kind ++ x.bits) (slots_bits xs) h) vs in
      let tail : map (slot_read l (reads t vs)) xs ≡ map (slot_read l (reads s vs)) xs =
      slots_later p l xs (owns_second (x.kind ++ x.bits) (slots_bits xs) h) vs in
      cc

  -- how a run ends
  pub done_in_later : {s t : S} {l : Limits} {f : Option Form} {d : SymDone B}
      → Keeps owns reads s t → IsDoneIn owns s l f d → IsDoneIn owns t l f d
  done_in_later p h = record {
    owned = owned_later p h.owned;
    owned_has = p.kept _ h.owned_has;
    owned_fault = p.kept _ h.owned_fault;
    owned_len = owned_later p h.owned_len;
    owned_slots = owned_later p h.owned_slots;
    form = h.form;
    long = h.long;
    many = h.many;
    widths = h.widths;
  }

  maybe_later : {s t : S} → Keeps owns reads s t → (o : Option (SymValue B))
      → OwnsAll owns s (gathered bits_of (option_to_list o)) → (vs : List Bool)
      → option_map (read (reads t vs)) o ≡ option_map (read (reads s vs)) o
  maybe_later p None h vs = refl
  maybe_later p (Some x) h vs =
      ap (λ y. Some (spelled y)) (value_later p x (owns_first (bits_of x) [] h) vs)

  value_reads_later : {s t : S} {l : Limits} {f : Option Form} (d : SymDone B)
      → Keeps owns reads s t → IsDoneIn owns s l f d → (vs : List Bool) (v : Option Value)
      → ValueReads (reads s vs) d v → ValueReads (reads t vs) d v
  value_reads_later d p h vs None k = p.same _ h.owned_has vs ∙ k
  value_reads_later d p h vs (Some v) k =
      (p.same _ h.owned_has vs ∙ k.0, maybe_later p d.value h.owned vs ∙ k.1)

  pub done_later : {s t : S} {l : Limits} {f : Option Form} (d : SymDone B) → Keeps owns reads s t
      → IsDoneIn owns s l f d → (vs : List Bool) {E : Type 0} (r : Result Done E)
      → DoneReads l (reads s vs) d r → DoneReads l (reads t vs) d r
  done_later {s} {t} {l} d p h vs (Ok r) k =
      let many = nat_later p h.owned_len vs in
      let n = nat_of (map (reads s vs) d.len) in
      let all = slots_later p l d.slots h.owned_slots vs in
      let slots : map (slot_read l (reads t vs)) (take n d.slots)
      ≡ map (slot_read l (reads s vs)) (take n d.slots) =
      sym (take-map (slot_read l (reads t vs)) n d.slots) ∙ ap (take n) all
      ∙ take-map (slot_read l (reads s vs)) n d.slots in (
        p.same _ h.owned_fault vs ∙ k.0,
        value_reads_later d p h vs r.value k.1,
        many ∙ k.2,
        ap (λ m. map (slot_read l (reads t vs)) (take m d.slots)) many ∙ slots ∙ k.3,
      )
  done_later d p h vs (Err e) k = p.same _ h.owned_fault vs ∙ k
