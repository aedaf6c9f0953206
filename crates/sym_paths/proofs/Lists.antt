-- Lists of paths and of returns that are held.
use Rattle.std.proofs.Common.{◌≡◌, List, [], ◌∷◌, ◌++◌, sym, subst}
use Rattle.sym_values.specs.Forms.{Form}
use Rattle.sym_paths.specs.declared.slots.Slots.{Slots}
use Rattle.sym_paths.specs.declared.path.Path.{Path}
use Rattle.sym_paths.specs.declared.path.Given.{Given}
use Rattle.sym_paths.specs.Paths.{HoldsPath, HoldsPaths, EachPath}
use Rattle.sym_paths.specs.Paths.{HoldsGiven, HoldsAllGiven, EachGiven}

module _ {S B : Type 0} (owns : S → B → Type 0) (s : S) where
  each_append : (fs : List Form) (xs ys : List (Path B)) → EachPath owns s fs xs
      → EachPath owns s fs ys → EachPath owns s fs (xs ++ ys)
  each_append fs [] ys h k = k
  each_append fs (x ∷ xs) ys h k = (h.0, each_append fs xs ys h.1 k)

  each_last : (fs : List Form) (xs : List (Path B)) (x : Path B)
      → EachPath owns s fs (xs ++ x ∷ []) → EachPath owns s fs xs × HoldsPath owns s fs x
  each_last fs [] x h = (tt, h.0)
  each_last fs (y ∷ xs) x h = let rest = each_last fs xs x h.1 in ((h.0, rest.0), rest.1)

  each_given_append : (c : Slots) (xs ys : List (Given B)) → EachGiven owns s c xs
      → EachGiven owns s c ys → EachGiven owns s c (xs ++ ys)
  each_given_append c [] ys h k = k
  each_given_append c (x ∷ xs) ys h k = (h.0, each_given_append c xs ys h.1 k)

  each_given_last : (c : Slots) (xs : List (Given B)) (x : Given B)
      → EachGiven owns s c (xs ++ x ∷ []) → EachGiven owns s c xs × HoldsGiven owns s c x
  each_given_last c [] x h = (tt, h.0)
  each_given_last c (y ∷ xs) x h =
      let rest = each_given_last c xs x h.1 in ((h.0, rest.0), rest.1)

module _ {S B : Type 0} {owns : S → B → Type 0} where
  pub holds_none : {s : S} {fs : List Form} → HoldsPaths owns s fs []
  holds_none = record { each = tt }

  pub holds_empty : {s : S} {fs : List Form} {ps : List (Path B)} → ps ≡ []
      → HoldsPaths owns s fs ps
  holds_empty {s} {fs} {ps} e = subst (HoldsPaths owns s fs) (sym e) holds_none

  pub holds_one : {s : S} {fs : List Form} {p : Path B} → HoldsPath owns s fs p
      → HoldsPaths owns s fs (p ∷ [])
  holds_one h = record { each = (h, tt) }

  pub holds_append : {s : S} {fs : List Form} {xs ys zs : List (Path B)}
      → HoldsPaths owns s fs xs → HoldsPaths owns s fs ys → zs ≡ xs ++ ys
      → HoldsPaths owns s fs zs
  holds_append {s} {fs} {xs} {ys} h k e = subst (HoldsPaths owns s fs) (sym e)
      (record { each = each_append owns s fs xs ys h.each k.each })

  pub holds_front : {s : S} {fs : List Form} {xs zs : List (Path B)} (x : Path B)
      → HoldsPaths owns s fs zs → zs ≡ xs ++ x ∷ [] → HoldsPaths owns s fs xs
  holds_front {s} {fs} {xs} x h e =
      let k : HoldsPaths owns s fs (xs ++ x ∷ []) = subst (HoldsPaths owns s fs) e h in
      record { each = (each_last owns s fs xs x k.each).0 }

  pub holds_last : {s : S} {fs : List Form} (xs : List (Path B)) {zs : List (Path B)} {x : Path B}
      → HoldsPaths owns s fs zs → zs ≡ xs ++ x ∷ [] → HoldsPath owns s fs x
  holds_last {s} {fs} xs {zs} {x} h e =
      let k : HoldsPaths owns s fs (xs ++ x ∷ []) = subst (HoldsPaths owns s fs) e h in
      (each_last owns s fs xs x k.each).1

  pub given_append : {s : S} {c : Slots} {xs ys zs : List (Given B)}
      → HoldsAllGiven owns s c xs → HoldsAllGiven owns s c ys → zs ≡ xs ++ ys
      → HoldsAllGiven owns s c zs
  given_append {s} {c} {xs} {ys} h k e = subst (HoldsAllGiven owns s c) (sym e)
      (record { each = each_given_append owns s c xs ys h.each k.each })

  pub given_front : {s : S} {c : Slots} {xs zs : List (Given B)} (x : Given B)
      → HoldsAllGiven owns s c zs → zs ≡ xs ++ x ∷ [] → HoldsAllGiven owns s c xs
  given_front {s} {c} {xs} x h e =
      let k : HoldsAllGiven owns s c (xs ++ x ∷ []) = subst (HoldsAllGiven owns s c) e h in
      record { each = (each_given_last owns s c xs x k.each).0 }

  pub given_last : {s : S} {c : Slots} (xs : List (Given B)) {zs : List (Given B)} {x : Given B}
      → HoldsAllGiven owns s c zs → zs ≡ xs ++ x ∷ [] → HoldsGiven owns s c x
  given_last {s} {c} xs {zs} {x} h e =
      let k : HoldsAllGiven owns s c (xs ++ x ∷ []) = subst (HoldsAllGiven owns s c) e h in
      (each_given_last owns s c xs x k.each).1

  pub given_one : {s : S} {c : Slots} {x : Given B} → HoldsGiven owns s c x
      → HoldsAllGiven owns s c (x ∷ [])
  given_one h = record { each = (h, tt) }

  pub given_only : {s : S} {c : Slots} (x : Given B) {xs : List (Given B)} → xs ≡ x ∷ []
      → HoldsGiven owns s c x → HoldsAllGiven owns s c xs
  given_only {s} {c} x e h = subst (HoldsAllGiven owns s c) (sym e) (given_one h)

  pub given_nothing : {s : S} {c : Slots} {xs : List (Given B)} → xs ≡ []
      → HoldsAllGiven owns s c xs
  given_nothing {s} {c} e = subst (HoldsAllGiven owns s c) (sym e) (record { each = tt })
