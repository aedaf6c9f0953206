-- What further types of one slot change.
use Rattle.std.proofs.Common.{◌≡◌, ℕ, ◌+◌, ◌<◌, ◌≤◌, Bool, true, false, if◌then◌else◌, List, [], ◌∷◌, ◌⊎◌, inl, inr, get_or, length, IsTrue, zero, suc, refl, sym, ◌∙◌, ap, subst, arith}
use Rattle.std.specs.Prelude.{slice_set}
use Rattle.std.proofs.lemmas.List.{get_or-set_same, get_or-set_other, length-set, length-map, take_all}
use Rattle.std.proofs.lemmas.List.Elements.{All-more}
use Rattle.mpy_tree.specs.declared.typing.TypeSet.{TypeSet}
use Rattle.mpy_tree.specs.declared.typing.Ty.{Ty}
use Rattle.mpy_tree.specs.declared.typing.Ty.TheVariants as ty
use Rattle.mpy_tree.specs.TypeSets.{no_types, join, has, IsWithin}
use Rattle.mpy_types.specs.declared.inflow.Source.{Source}
use Rattle.mpy_types.specs.declared.inflow.Source.TheVariants as source
use Rattle.mpy_types.specs.declared.inflow.Via.{Via}
use Rattle.mpy_types.specs.declared.inflow.Via.TheVariants.{Whole, Members, Texts}
use Rattle.mpy_types.specs.declared.inflow.Inflow.{Inflow}
use Rattle.mpy_types.specs.Inflows.{through}
use Rattle.mpy_types.specs.Tables.{type_at}
use Rattle.mpy_types.specs.Passes.{types_from, Holds, AllHold, IsBelow, absent, lacking, IsStep, IsPass, AreLeast, are_none}
use Rattle.mpy_types.proofs.SetLaws.{join_below, members_within, absent_less}

-- more types of slots give a source more types
through_within : (via : Via) (s t : TypeSet) → IsWithin s t → IsWithin (through via s) (through via t)
through_within Whole s t h = h
through_within Members s t h = members_within s t h
through_within Texts s t h = members_within _ _ (members_within s t h)

pub from_within : (v w : List TypeSet) → ((k : ℕ) → IsWithin (type_at v k) (type_at w k)) → (s : Source) → IsWithin (types_from v s) (types_from w s)
from_within v w h (source.Fixed t) = λ a k. k
from_within v w h (source.Slot via k) = through_within via _ _ (h k)

-- a list with another set at one place
set_here : (v : List TypeSet) (k j : ℕ) (t : TypeSet) → k < length v → j ≡ k → type_at (slice_set v k t) j ≡ t
set_here v k j t h e = ap (type_at (slice_set v k t)) e ∙ get_or-set_same v k t no_types h

set_there : (v : List TypeSet) (k j : ℕ) (t : TypeSet) → (j ≡ k → ⊥) → type_at (slice_set v k t) j ≡ type_at v j
set_there v k j t n = get_or-set_other v k j t no_types n

here_or_there : (j k : ℕ) → (j ≡ k) ⊎ (j ≡ k → ⊥)
here_or_there zero zero = inl refl
here_or_there zero (suc k) = inr (λ e. omega arith)
here_or_there (suc j) zero = inr (λ e. omega arith)
here_or_there (suc j) (suc k) = elim (here_or_there j k) [ inl e ↦ inl (ap suc e) | inr n ↦ inr (λ e. n (omega arith)) ]

-- types that a larger list has there leave the list below it
raised_below : (v u : List TypeSet) (k : ℕ) (t : TypeSet) → k < length v → IsBelow v u → IsWithin t (type_at u k) → IsBelow (slice_set v k (join (type_at v k) t)) u
raised_below v u k t l h m = record {
  many = h.many ∙ sym (length-set v k (join (type_at v k) t));
  each = λ j. elim (here_or_there j k) [
    | inl e ↦ (let P : TypeSet → Type 0 = λ s. IsWithin s (type_at u j) in
        let Q : ℕ → Type 0 = λ n. IsWithin (join (type_at v k) t) (type_at u n) in
        subst P (sym (set_here v k j (join (type_at v k) t) l e)) (subst Q (sym e) (join_below (type_at v k) t (type_at u k) (h.each k) m)))
    | inr n ↦ (let P : TypeSet → Type 0 = λ s. IsWithin s (type_at u j) in subst P (sym (set_there v k j (join (type_at v k) t) n)) (h.each j))
  ];
}

-- new types at a slot
lacking_set : (v : List TypeSet) (k : ℕ) (t : TypeSet) → k < length v → absent t < absent (type_at v k) → lacking (slice_set v k t) < lacking v
lacking_set [] k t l h = absurd (omega arith)
lacking_set (s ∷ ss) zero t l h = omega arith
lacking_set (s ∷ ss) (suc k) t l h =
    let a : lacking (slice_set ss k t) < lacking ss = lacking_set ss k t (omega arith) h in
    omega arith

module _ (v w x : List TypeSet) (fs : List Inflow) (n : ℕ) (d : Inflow) (r : Bool) (l : n < length fs) (P : IsPass r v w fs n) where
  abbrev f : Inflow
  f = get_or fs n d

  no_more : (b : Bool) → IsPass b v w fs n → lacking w ≤ lacking v
  no_more true Q = let a : lacking w < lacking v = Q.fewer refl in omega arith
  no_more false Q = let a : lacking w ≡ lacking v = ap lacking (Q.same refl) in omega arith

  -- a step that gave types
  pub step_rises : IsStep true w x f → IsPass true v x fs (n + 1)
  step_rises s =
      let t = types_from w f.from in
      let m : lacking (slice_set w f.to (join (type_at w f.to) t)) < lacking w = lacking_set w f.to (join (type_at w f.to) t) s.0 (absent_less (type_at w f.to) t s.1) in
      let b : lacking w ≤ lacking v = no_more r P in
      let c : lacking x ≡ lacking (slice_set w f.to (join (type_at w f.to) t)) = ap lacking s.2 in
      record {
        below = λ u k q.
            let R : List TypeSet → Type 0 = λ y. IsBelow y u in
            let here : Holds u f = k n d l in
            let b : IsBelow w u = P.below u k q in
            let o : f.to < length u = (let z : length u ≡ length w = b.many in let y : f.to < length w = s.0 in omega arith) in
            subst R (sym s.2) (raised_below w u f.to t s.0 b (λ a h. here o a (from_within w u b.each f.from a h)));
        many = ap length s.2 ∙ length-set w f.to (join (type_at w f.to) t) ∙ P.many;
        same = λ h. absurd (cc);
        settled = λ h. absurd (cc);
        fewer = λ _. omega arith;
      }

  -- a step at a flow that held
  pub step_keeps : IsStep false w x f → IsPass r v x fs (n + 1)
  step_keeps s = record {
    below = λ u k q. let R : List TypeSet → Type 0 = λ y. IsBelow y u in subst R (sym s.1) (P.below u k q);
    many = ap length s.1 ∙ P.many;
    same = λ h. s.1 ∙ P.same h;
    settled = λ h.
        let Q : Inflow → Type 0 = λ g. Holds v g in
        let R : List TypeSet → Type 0 = λ y. Holds y f in
        All-more Q fs n d l (P.settled h) (subst R (P.same h) s.0);
    fewer = λ h.
        let a : lacking w < lacking v = P.fewer h in
        let c : lacking x ≡ lacking w = ap lacking s.1 in
        omega arith;
  }

  pub step_more : (b q : Bool) → IsStep b w x f → q ≡ (if b then true else r) → IsPass q v x fs (n + 1)
  step_more true q s h = let R : Bool → Type 0 = λ c. IsPass c v x fs (n + 1) in subst R (sym h) (step_rises s)
  step_more false q s h = let R : Bool → Type 0 = λ c. IsPass c v x fs (n + 1) in subst R (sym h) (step_keeps s)

pub if_so : (b q r : Bool) → b ≡ true → q ≡ true → q ≡ (if b then true else r)
if_so true q r h e = e
if_so false q r h e = absurd (cc)

pub if_not : (b q r : Bool) → b ≡ false → q ≡ r → q ≡ (if b then true else r)
if_not false q r h e = e
if_not true q r h e = absurd (cc)

none_at : {A : Type 0} (xs : List A) (k : ℕ) → type_at (are_none xs) k ≡ no_types
none_at [] k = refl
none_at (x ∷ xs) zero = refl
none_at (x ∷ xs) (suc k) = none_at xs k

no_type : (a : Ty) → IsTrue (has no_types a) → ⊥
no_type ty.Int h = absurd (cc)
no_type ty.Bool h = absurd (cc)
no_type ty.List h = absurd (cc)
no_type ty.Text h = absurd (cc)

nothing_within : (s t : TypeSet) → s ≡ no_types → IsWithin s t
nothing_within s t e =
    let P : TypeSet → Type 0 = λ z. IsWithin z t in
    subst P (sym e) (λ a h. absurd (no_type a h))

-- no types are below all
pub none_below : {A : Type 0} (xs : List A) (v u : List TypeSet) → v ≡ are_none xs → length u ≡ length xs → IsBelow v u
none_below xs v u e h =
    let P : List TypeSet → Type 0 = λ z. IsBelow z u in
    subst P (sym e) (record {
      many = h ∙ sym (length-map xs (λ x. no_types));
      each = λ k. nothing_within (type_at (are_none xs) k) (type_at u k) (none_at xs k);
    })

pub least_reached : (v w : List TypeSet) (n : ℕ) (fs : List Inflow) (r : Bool) → r ≡ false → IsPass r v w fs (length fs) → length v ≡ n → ((u : List TypeSet) → length u ≡ n → AllHold u fs → IsBelow v u) → AreLeast w n fs
least_reached v w n fs r e P m b =
    let Q : List TypeSet → Type 0 = λ z. AllHold z fs in
    let R : List Inflow → Type 0 = λ gs. AllHold v gs in
    record {
      many = P.many ∙ m;
      hold = subst Q (sym (P.same e)) (subst R (take_all (length fs) fs (omega arith)) (P.settled e));
      least = λ u h k. P.below u k (b u h k);
    }
