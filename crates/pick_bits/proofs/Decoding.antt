-- Members that truth values spell, pick by pick.
use Rattle.std.proofs.Common.{◌≡◌, ◌∙◌, ℕ, zero, suc, ◌+◌, ◌<◌, ◌≤◌, Bool, true, false, List, []}
use Rattle.std.proofs.Common.{◌∷◌, ◌++◌}
use Rattle.std.proofs.Common.{append_assoc, Some, None, refl, sym, ap}
use Rattle.std.specs.Prelude.{Option, option_map, if◌then◌else◌, nat_lt}
use Rattle.std.proofs.lemmas.Bool.{le-ltb, lt-ltb}
use Rattle.mpy_tree.specs.Options.{◌>>=◌}
use Rattle.bit_words.specs.Later.{values_from}
use Rattle.bit_words.specs.Words.{nat_of}
use Rattle.choice_tree.specs.declared.selection.Choice.{Choice}
use Rattle.selection_numbers.specs.Numbers.{and_member}
use Rattle.pick_bits.specs.MemberWords.{chosen_from}
use Rattle.input_space.specs.SelectionBits.{member, member_bits, members_at}

given : (b : Bool) (i : ℕ) → b ≡ true → (if b then Some i else None) ≡ Some i
given true i e = refl
given false i e = absurd cc

not_given : (b : Bool) (i : ℕ) → b ≡ false → (if b then Some i else None) ≡ None
not_given true i e = absurd cc
not_given false i e = refl

is_member : (n k : ℕ) → k < n → member n k ≡ Some k
is_member n k h = given (nat_lt k n) k (lt-ltb k n h)

no_member : (n k : ℕ) → n ≤ k → member n k ≡ None
no_member n k h = not_given (nat_lt k n) k (le-ltb k n h)

put_first : (p i : ℕ) (s : List Choice) → and_member p i s ≡ and_member p i [] ++ s
put_first p zero s = refl
put_first p (suc i) s = refl

put_more : (now more : List Choice) (p k : ℕ) (o : Option (List ℕ))
    → more ≡ now ++ and_member p k []
    → option_map (λ is. now ++ chosen_from p is) (option_map (λ rest. k ∷ rest) o)
    ≡ option_map (λ is. more ++ chosen_from (suc p) is) o
put_more now more p k None e = refl
put_more now more p k (Some is) e =
    let rest : List Choice = chosen_from (suc p) is in
    ap Some
    (ap (λ s. now ++ s) (put_first p k rest) ∙ sym (append_assoc now (and_member p k []) rest)
    ∙ ap (λ s. s ++ rest) (sym e))

module _ (vs : List Bool) (left rest : List ℕ) (n place k : ℕ) (next : left ≡ n ∷ rest)
    (spelled : k ≡ nat_of (values_from vs place (member_bits n))) where
  read_first : (o : Option ℕ) → member n k ≡ o
      → members_at left vs place
      ≡ (o >>= λ i. option_map (λ is. i ∷ is) (members_at rest vs (place + member_bits n)))
  read_first o e =
      ap (λ ns. members_at ns vs place) next
      ∙ ap (λ q. q >>= λ i. option_map (λ is. i ∷ is) (members_at rest vs (place + member_bits n)))
      (ap (member n) (sym spelled) ∙ e)

  -- no member, and one more
  pub none_left : n ≤ k → members_at left vs place ≡ None
  none_left h = read_first None (no_member n k h)

  pub one_less : (p q after : ℕ) (now more : List Choice) → k < n → q ≡ suc p
      → after ≡ place + member_bits n
      → more ≡ now ++ and_member p k []
      → option_map (λ is. now ++ chosen_from p is) (members_at left vs place)
      ≡ option_map (λ is. more ++ chosen_from q is) (members_at rest vs after)
  one_less p q after now more h step at put =
      ap (option_map (λ is. now ++ chosen_from p is)) (read_first (Some k) (is_member n k h))
      ∙ put_more now more p k (members_at rest vs (place + member_bits n)) put
      ∙ ap (λ r. option_map (λ is. more ++ chosen_from r is)
      (members_at rest vs (place + member_bits n))) (sym step)
      ∙ ap (λ a. option_map (λ is. more ++ chosen_from q is) (members_at rest vs a)) (sym at)
