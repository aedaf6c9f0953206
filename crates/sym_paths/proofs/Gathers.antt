-- What is seen of the ways out of a body that are gathered from its parts.
use Rattle.std.proofs.Common.{◌≡◌, Bool, cond, List, [], ◌∷◌, ◌++◌, map, sym, ap, ◌∙◌}
use Rattle.std.proofs.Common.{Option, Some, None}
use Rattle.std.proofs.lemmas.List.{map-append}
use Rattle.mpy_tree.specs.Values.{State}
use Rattle.mpy_tree.specs.Statements.{Next}
use Rattle.mpy_tree.specs.declared.limits.Limits.{Limits}
use Rattle.sym_paths.specs.declared.slots.Slots.{Slots}
use Rattle.sym_paths.specs.declared.path.Path.{Path}
use Rattle.sym_paths.specs.declared.path.Given.{Given}
use Rattle.sym_paths.specs.declared.path.Out.{Out}
use Rattle.sym_paths.specs.Paths.{reached, way, ways, gone_way, handed, first_handed}
use Rattle.sym_paths.specs.Paths.{Return, return_of}
use Rattle.sym_paths.specs.Endings.{Seen, see, seen_from, or_other, and_seen, ended, turned}
use Rattle.sym_paths.specs.Sights.{handed_append, the_sight, same_sight, or_none, only_next}
use Rattle.sym_paths.proofs.Joins.{ways_both}

pub handed_both : (l : Limits) {B : Type 0} (rd : B → Bool) (xs ys : List (Given B))
    → first_handed l (map (handed rd) (xs ++ ys))
    ≡ or_other (first_handed l (map (handed rd) xs)) (first_handed l (map (handed rd) ys))
handed_both l rd xs ys =
    ap (first_handed l) (map-append (handed rd) xs ys)
    ∙ handed_append l (map (handed rd) xs) (map (handed rd) ys)

module _ (slots : Slots) {B : Type 0} (rd : B → Bool) where
  one_list : {xs ys : List (Path B)} → xs ≡ ys
      → gone_way slots (ways rd xs) ≡ gone_way slots (ways rd ys)
  one_list e = ap (λ l. gone_way slots (ways rd l)) e

  two_lists : {zs : List (Path B)} (xs ys : List (Path B)) → zs ≡ xs ++ ys
      → gone_way slots (ways rd zs)
      ≡ or_other (gone_way slots (ways rd xs)) (gone_way slots (ways rd ys))
  two_lists xs ys e = one_list e ∙ ways_both slots rd xs ys

  as_before : {zs : List (Path B)} (xs : List (Path B)) → zs ≡ xs
      → gone_way slots (ways rd zs) ≡ or_other (gone_way slots (ways rd xs)) None
  as_before xs e = one_list e ∙ sym (or_none (gone_way slots (ways rd xs)))

  -- the first return of several
  abbrev first_of : List (Given B) → Option Return
  first_of xs = first_handed slots.limits (map (handed rd) xs)

  values_both : {zs : List (Given B)} (xs ys : List (Given B)) → zs ≡ xs ++ ys
      → first_of zs ≡ or_other (first_of xs) (first_of ys)
  values_both xs ys e = ap first_of e ∙ handed_both slots.limits rd xs ys

  values_before : {zs : List (Given B)} (xs : List (Given B)) → zs ≡ xs
      → first_of zs ≡ or_other (first_of xs) None
  values_before xs e = ap first_of e ∙ sym (or_none (first_of xs))

  -- one return
  pub see_given : (out : Out B) (x : Given B) (b : Bool) (r : Return) → out.next ≡ []
      → out.broke ≡ [] → out.continued ≡ [] → out.returned ≡ x ∷ [] → rd x.bit ≡ b
      → return_of slots.limits (handed rd x) ≡ r
      → see rd slots out ≡ the_sight None None None (cond b (Some r) None)
  see_given out x b r p q s t e d =
      same_sight (one_list p) (one_list q) (one_list s)
      (ap first_of t
      ∙ ap (λ (i : Bool). cond i (Some (return_of slots.limits (handed rd x))) None) e
      ∙ ap (λ (i : Return). cond b (Some i) None) d)

  -- two parts
  pub see_both : (a b out : Out B) → out.next ≡ a.next ++ b.next → out.broke ≡ a.broke ++ b.broke
      → out.continued ≡ a.continued ++ b.continued → out.returned ≡ a.returned ++ b.returned
      → see rd slots out ≡ and_seen (see rd slots a) (see rd slots b)
  see_both a b out p q r s = same_sight
      (two_lists a.next b.next p)
      (two_lists a.broke b.broke q)
      (two_lists a.continued b.continued r)
      (values_both a.returned b.returned s)

  -- a part but for the way on, after what was seen before
  pub see_step : (a b out : Out B) (x y : Seen) → see rd slots a ≡ x → see rd slots b ≡ y
      → out.next ≡ a.next → out.broke ≡ a.broke ++ b.broke
      → out.continued ≡ a.continued ++ b.continued → out.returned ≡ a.returned ++ b.returned
      → see rd slots out ≡ and_seen x (ended y)
  see_step a b out x y u v p q r s =
      same_sight
      (as_before a.next p)
      (two_lists a.broke b.broke q)
      (two_lists a.continued b.continued r)
      (values_both a.returned b.returned s)
      ∙ ap (λ (z : Seen). and_seen z (ended (see rd slots b))) u
      ∙ ap (λ (z : Seen). and_seen x (ended z)) v

  -- a turn
  pub see_turn : (a b out : Out B) (x y : Seen) → see rd slots a ≡ x → see rd slots b ≡ y
      → out.next ≡ a.next ++ b.broke → out.broke ≡ a.broke → out.continued ≡ a.continued
      → out.returned ≡ a.returned ++ b.returned → see rd slots out ≡ and_seen x (turned y)
  see_turn a b out x y u v p q r s =
      same_sight
      (two_lists a.next b.broke p)
      (as_before a.broke q)
      (as_before a.continued r)
      (values_both a.returned b.returned s)
      ∙ ap (λ (z : Seen). and_seen z (turned (see rd slots b))) u
      ∙ ap (λ (z : Seen). and_seen x (turned z)) v

  -- a path on, after what was seen before
  pub see_next : (a out : Out B) (p : Path B) (o : Option State)
      → gone_way slots (way rd p ∷ []) ≡ reached o → out.next ≡ a.next ++ p ∷ []
      → out.broke ≡ a.broke → out.continued ≡ a.continued → out.returned ≡ a.returned
      → see rd slots out ≡ and_seen (see rd slots a) (seen_from o Next)
  see_next a out p o at e b c r =
      same_sight
      (two_lists a.next (p ∷ []) e ∙ ap (or_other (gone_way slots (ways rd a.next))) at)
      (as_before a.broke b)
      (as_before a.continued c)
      (values_before a.returned r)
      ∙ ap (and_seen (see rd slots a)) (only_next o)
