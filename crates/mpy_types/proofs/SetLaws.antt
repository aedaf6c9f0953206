-- Laws of sets of types.
use Rattle.std.proofs.Common.{◌≡◌, ◌<◌, ◌≤◌, Bool, true, false, not, ◌&&◌, ◌||◌, IsTrue, ◌⊎◌, inl, inr, refl, ap, arith}
use Rattle.mpy_tree.specs.declared.typing.Ty.TheVariants as ty
use Rattle.mpy_tree.specs.declared.typing.TypeSet.{TypeSet}
use Rattle.mpy_tree.specs.TypeSets.{no_types, join, members, IsWithin, within}
use Rattle.mpy_types.specs.Passes.{one_if_not, absent}

or_assoc : (a b c : Bool) → ((a || b) || c) ≡ (a || (b || c))
or_assoc true b c = refl
or_assoc false b c = refl

or_false : (a : Bool) → (a || false) ≡ a
or_false true = refl
or_false false = refl

pub join_assoc : (r s t : TypeSet) → join (join r s) t ≡ join r (join s t)
join_assoc r s t = λ i. record { int = or_assoc r.int s.int t.int i; bool = or_assoc r.bool s.bool t.bool i; list = or_assoc r.list s.list t.list i; text = or_assoc r.text s.text t.text i }

pub join_none : (s : TypeSet) → join s no_types ≡ s
join_none s = λ i. record { int = or_false s.int i; bool = or_false s.bool i; list = or_false s.list i; text = or_false s.text i }

or_grows : (a b c d : Bool) → (IsTrue a → IsTrue c) → (IsTrue b → IsTrue d) → IsTrue (a || b) → IsTrue (c || d)
or_grows true b c d f g h = ap (λ x. x || d) (f refl)
or_grows false true true d f g h = refl
or_grows false true false d f g h = g refl
or_grows false false c d f g h = absurd (cc)

pub join_within : (s t u w : TypeSet) → IsWithin s u → IsWithin t w → IsWithin (join s t) (join u w)
join_within s t u w f g ty.Int = or_grows s.int t.int u.int w.int (f ty.Int) (g ty.Int)
join_within s t u w f g ty.Bool = or_grows s.bool t.bool u.bool w.bool (f ty.Bool) (g ty.Bool)
join_within s t u w f g ty.List = or_grows s.list t.list u.list w.list (f ty.List) (g ty.List)
join_within s t u w f g ty.Text = or_grows s.text t.text u.text w.text (f ty.Text) (g ty.Text)

or_below : (a b c : Bool) → (IsTrue a → IsTrue c) → (IsTrue b → IsTrue c) → IsTrue (a || b) → IsTrue c
or_below true b c f g h = f refl
or_below false b c f g h = g h

-- two sets within a third are so together
pub join_below : (s t u : TypeSet) → IsWithin s u → IsWithin t u → IsWithin (join s t) u
join_below s t u f g ty.Int = or_below s.int t.int u.int (f ty.Int) (g ty.Int)
join_below s t u f g ty.Bool = or_below s.bool t.bool u.bool (f ty.Bool) (g ty.Bool)
join_below s t u f g ty.List = or_below s.list t.list u.list (f ty.List) (g ty.List)
join_below s t u f g ty.Text = or_below s.text t.text u.text (f ty.Text) (g ty.Text)

pub members_within : (s t : TypeSet) → IsWithin s t → IsWithin (members s) (members t)
members_within s t f ty.Int = f ty.List
members_within s t f ty.Bool = λ h. absurd (cc)
members_within s t f ty.List = λ h. absurd (cc)
members_within s t f ty.Text = f ty.Text

-- the test of inclusion
left : (a b : Bool) → IsTrue (a && b) → IsTrue a
left true b h = refl
left false b h = h

right : (a b : Bool) → IsTrue (a && b) → IsTrue b
right true b h = h
right false b h = absurd (cc)

follows : (a b : Bool) → IsTrue (not a || b) → IsTrue a → IsTrue b
follows true b h k = h
follows false b h k = absurd (cc)

pub within_sound : (s t : TypeSet) → IsTrue (within s t) → IsWithin s t
within_sound s t h ty.Int = follows s.int t.int (left _ (not s.bool || t.bool) (left _ (not s.list || t.list) (left _ (not s.text || t.text) h)))
within_sound s t h ty.Bool = follows s.bool t.bool (right (not s.int || t.int) _ (left _ (not s.list || t.list) (left _ (not s.text || t.text) h)))
within_sound s t h ty.List = follows s.list t.list (right ((not s.int || t.int) && (not s.bool || t.bool)) _ (left _ (not s.text || t.text) h))
within_sound s t h ty.Text = follows s.text t.text (right ((not s.int || t.int) && (not s.bool || t.bool) && (not s.list || t.list)) _ h)

-- further types make fewer absent
fewer : (a b : Bool) → one_if_not (a || b) ≤ one_if_not a
fewer true b = omega arith
fewer false true = omega arith
fewer false false = omega arith

one_less : (a b : Bool) → (not b || a) ≡ false → one_if_not (a || b) < one_if_not a
one_less true true h = absurd (cc)
one_less true false h = absurd (cc)
one_less false true h = omega arith
one_less false false h = absurd (cc)

and_false : (a b : Bool) → (a && b) ≡ false → (a ≡ false) ⊎ (b ≡ false)
and_false true b h = inr h
and_false false b h = inl refl

pub absent_join : (s t : TypeSet) → absent (join s t) ≤ absent s
absent_join s t =
    let a : one_if_not (s.int || t.int) ≤ one_if_not s.int = fewer s.int t.int in
    let b : one_if_not (s.bool || t.bool) ≤ one_if_not s.bool = fewer s.bool t.bool in
    let c : one_if_not (s.list || t.list) ≤ one_if_not s.list = fewer s.list t.list in
    let d : one_if_not (s.text || t.text) ≤ one_if_not s.text = fewer s.text t.text in
    omega arith

pub absent_less : (s t : TypeSet) → within t s ≡ false → absent (join s t) < absent s
absent_less s t h =
    let a : one_if_not (s.int || t.int) ≤ one_if_not s.int = fewer s.int t.int in
    let b : one_if_not (s.bool || t.bool) ≤ one_if_not s.bool = fewer s.bool t.bool in
    let c : one_if_not (s.list || t.list) ≤ one_if_not s.list = fewer s.list t.list in
    let d : one_if_not (s.text || t.text) ≤ one_if_not s.text = fewer s.text t.text in
    elim (and_false ((not t.int || s.int) && (not t.bool || s.bool) && (not t.list || s.list)) (not t.text || s.text) h) [
      | inl k ↦ elim (and_false ((not t.int || s.int) && (not t.bool || s.bool)) (not t.list || s.list) k) [
        | inl m ↦ elim (and_false (not t.int || s.int) (not t.bool || s.bool) m) [
          | inl n ↦ (let e : one_if_not (s.int || t.int) < one_if_not s.int = one_less s.int t.int n in omega arith)
          | inr n ↦ (let e : one_if_not (s.bool || t.bool) < one_if_not s.bool = one_less s.bool t.bool n in omega arith)
        ]
        | inr m ↦ (let e : one_if_not (s.list || t.list) < one_if_not s.list = one_less s.list t.list m in omega arith)
      ]
      | inr k ↦ (let e : one_if_not (s.text || t.text) < one_if_not s.text = one_less s.text t.text k in omega arith)
    ]

pub or_left : (a b : Bool) → IsTrue a → IsTrue (a || b)
or_left true b h = refl
or_left false b h = absurd (cc)

pub or_right : (a b : Bool) → IsTrue b → IsTrue (a || b)
or_right true b h = refl
or_right false b h = h
