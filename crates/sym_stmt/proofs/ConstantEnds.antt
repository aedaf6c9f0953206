-- Printed values and ends of constant bits.
use Rattle.std.proofs.Common.{◌≡◌, ◌∙◌, ◌+◌, ◌++◌, Bool, List, [], ◌∷◌, ap, subst}
use Rattle.std.proofs.Common.{length, length-append, map, sym, refl}
use Rattle.std.proofs.Common.{Option, Some, None, is_some}
use Rattle.std.specs.Prelude.{option_map}
use Rattle.std.specs.List.{All}
use Rattle.std.proofs.lemmas.List.Elements.{All-nil, All-push}
use Rattle.mpy_tree.specs.declared.limits.Limits.{Limits}
use Rattle.mpy_tree.specs.declared.value.Value.{Value}
use Rattle.bit_words.specs.Logic.{OwnsAll}
use Rattle.bit_words.specs.Later.{owns_both, owns_first, owns_second}
use Rattle.bit_words.proofs.Kept.{owns_none}
use Rattle.sym_values.specs.declared.done.PrintSlot.{PrintSlot}
use Rattle.sym_values.specs.declared.done.SymDone.{SymDone}
use Rattle.sym_values.specs.declared.value.SymValue.TheVariants as sym
use Rattle.sym_values.specs.Owned.{owns_one_more}
use Rattle.sym_values.specs.Printed.{IsSlotIn, ValueReads, print_width, slot_read, word_spelled}
use Rattle.sym_values.specs.Reading.{Reading, read, sure}
use Rattle.sym_paths.proofs.Telling.{word_read}
use Rattle.sym_stmt.specs.ConstantEnds.{AreSlotsIn}

-- the widths of a printed value
abbrev HasWidths : {B : Type 0} → Limits → PrintSlot B → Type 0
HasWidths l s = (length s.kind ≡ 2) × (2 + length s.bits ≡ print_width l)

module _ {S B : Type 0} {owns : S → B → Type 0} {s : S} {l : Limits} where
  pub no_slots : AreSlotsIn owns s l []
  no_slots = record { owned = owns_none; widths = All-nil (HasWidths l) }

  -- one printed value more
  pub more_slots : (xs ys : List (PrintSlot B)) (x : PrintSlot B) → AreSlotsIn owns s l xs
      → IsSlotIn owns s l x → ys ≡ xs ++ x ∷ [] → AreSlotsIn owns s l ys
  more_slots xs ys x h k e = record {
    owned = owns_one_more (λ (y : PrintSlot B). y.kind ++ y.bits) xs ys x h.owned
        (owns_both k.owned_kind k.owned_bits) e;
    widths = subst (All (HasWidths l)) (sym e)
        (All-push (HasWidths l) xs x h.widths (k.kind, k.bits));
  }

  -- a printed value of a word
  pub slot_of_word : (w : List B) (x : PrintSlot B) → OwnsAll owns s w → length w ≡ print_width l
      → sym.Int w ≡ sym.Int (x.kind ++ x.bits) → length x.kind ≡ 2 → IsSlotIn owns s l x
  slot_of_word w x h long e two =
      let word : w ≡ x.kind ++ x.bits = cc in
      let all = subst (OwnsAll owns s) word h in
      let lengths = sym (length-append x.kind x.bits) ∙ ap length (sym word) ∙ long in
      record {
        owned_kind = owns_first x.kind x.bits all;
        owned_bits = owns_second x.kind x.bits all;
        kind = two;
        bits = ap (λ n. n + length x.bits) (sym two) ∙ lengths;
      }

-- which reads as the word does
pub slot_reads : {B : Type 0} (l : Limits) (rd : B → Bool) (w : List B) (x : PrintSlot B)
    (r : Reading) → sym.Int w ≡ sym.Int (x.kind ++ x.bits) → length x.kind ≡ 2
    → word_spelled l (map rd w) ≡ r → slot_read l rd x ≡ r
slot_reads l rd w x r e two spelled =
    let word : w ≡ x.kind ++ x.bits = cc in
    word_read l rd x two ∙ ap (λ v. word_spelled l (map rd v)) (sym word) ∙ spelled

-- whether there is a value, and which it is
pub value_there : {B : Type 0} (rd : B → Bool) (d : SymDone B) (v : Option Value)
    → rd d.has ≡ is_some v
    → ((u : Value) → v ≡ Some u → option_map (read rd) d.value ≡ Some (sure u))
    → ValueReads rd d v
value_there rd d None e f = e
value_there rd d (Some u) e f = (e, f u refl)
