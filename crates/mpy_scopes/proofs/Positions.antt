-- Places of names in lists.
use Rattle.std.proofs.Common.{◌≡◌, ℕ, ◌+◌, ◌<◌, Bool, true, false, ◌||◌, List, [], ◌∷◌, ◌++◌, length, map, Option, Some, None, cond, if◌then◌else◌, IsTrue, refl, sym, ap, subst, ◌∙◌, arith, suc}
use Rattle.std.specs.Option.{option_map, is_some, IfSome}
use Rattle.std.proofs.lemmas.List.{length-map}
use denote.Ref.{Bor}
use Rattle.mpy_tree.specs.declared.names.Name.{Name}
use Rattle.mpy_scopes.specs.Seen.{name_of}
use lib.Pointwise.{bytes_decides}
use Rattle.mpy_tree.specs.Values.{same_bytes}
use Rattle.std.specs.List.{filter, flat_map}
use Rattle.mpy_tree.specs.Syntax.{Routine}
use Rattle.mpy_tree.specs.Sites.{Site, sites}
use Rattle.mpy_tree.specs.Locals.{is_among, and_new, locals, site_assigned, site_names}
use Rattle.mpy_scopes.specs.Numbers.{position}

some_more : (o : Option ℕ) → is_some (option_map (λ k. k + 1) o) ≡ is_some o
some_more None = refl
some_more (Some k) = refl

among_or : (b : Bool) (o : Option ℕ) (r : Bool) → r ≡ is_some o → (b || r) ≡ is_some (if b then Some 0 else option_map (λ k. k + 1) o)
among_or true o r e = refl
among_or false o r e = e ∙ sym (some_more o)

pub among_at : (xs : List (List ℕ)) (x : List ℕ) → is_among xs x ≡ is_some (position x xs)
among_at [] x = refl
among_at (y ∷ ys) x = among_or (same_bytes x y) (position x ys) (is_among ys x) (among_at ys x)

none_of : (o : Option ℕ) → is_some o ≡ false → o ≡ None
none_of None e = refl
none_of (Some k) e = absurd (cc)

-- a name that is not among others has no place
pub no_place : (xs : List (List ℕ)) (x : List ℕ) → is_among xs x ≡ false → position x xs ≡ None
no_place xs x e = none_of (position x xs) (sym (among_at xs x) ∙ e)

one_on : (b : Bool) (o p : Option ℕ) (n : ℕ) → (o ≡ None → p ≡ Some n) → (if b then Some 0 else option_map (λ k. k + 1) o) ≡ None → (if b then Some 0 else option_map (λ k. k + 1) p) ≡ Some (suc n)
one_on true o p n f e = absurd (cc)
one_on false (Some k) p n f e = absurd (cc)
one_on false None p n f e = let h : p ≡ Some n = f refl in ap (option_map (λ k. k + 1)) h ∙ (let m : n + 1 ≡ suc n = omega arith in ap Some m)

end_here : (xs : List (List ℕ)) (x : List ℕ) → position x xs ≡ None → position x (xs ++ x ∷ []) ≡ Some (length xs)
end_here [] x e = ap (λ b. if b then Some 0 else None) ((bytes_decides x x).1 refl)
end_here (y ∷ ys) x e = one_on (same_bytes x y) (position x ys) (position x (ys ++ x ∷ [])) (length ys) (end_here ys x) e

end_past : (xs : List (List ℕ)) (x q : List ℕ) → same_bytes q x ≡ false → position q (xs ++ x ∷ []) ≡ position q xs
end_past [] x q e = ap (λ b. if b then Some 0 else None) e
end_past (y ∷ ys) x q e = ap (λ o. if same_bytes q y then Some 0 else option_map (λ k. k + 1) o) (end_past ys x q e)

same_back : (x q : List ℕ) (b : Bool) → same_bytes q x ≡ b → same_bytes x q ≡ false → same_bytes q x ≡ false
same_back x q false e h = e
same_back x q true e h =
    let m : q ≡ x = (bytes_decides q x).0 e in
    let n : true ≡ false = sym ((bytes_decides x x).1 refl) ∙ ap (same_bytes x) (sym m) ∙ h in
    absurd (cc)

end_if : (xs : List (List ℕ)) (x q : List ℕ) (b : Bool) → same_bytes x q ≡ b → position x xs ≡ None → cond b (Some (length xs)) (position q xs) ≡ position q (xs ++ x ∷ [])
end_if xs x q true e h =
    let m : x ≡ q = (bytes_decides x q).0 e in
    sym (end_here xs x h) ∙ ap (λ y. position y (xs ++ x ∷ [])) m
end_if xs x q false e h = sym (end_past xs x q (same_back x q (same_bytes q x) refl e))

-- a name more
pub place_more : (xs ys : List (List ℕ)) (x y q : List ℕ) (k : ℕ) (o r : Option ℕ) → r ≡ cond (same_bytes y q) (Some k) o → y ≡ x → k ≡ length xs → o ≡ position q xs → position x xs ≡ None → ys ≡ xs ++ x ∷ [] → r ≡ position q ys
place_more xs ys x y q k o r e ey ek eo h es =
    e
    ∙ ap (λ z. cond (same_bytes z q) (Some k) o) ey
    ∙ ap (λ n. cond (same_bytes x q) (Some n) o) ek
    ∙ ap (λ p. cond (same_bytes x q) (Some (length xs)) p) eo
    ∙ end_if xs x q (same_bytes x q) refl h
    ∙ ap (position q) (sym es)

within_more : (b : Bool) (o : Option ℕ) (n : ℕ) → IfSome o (λ k. k < n) → IfSome (if b then Some 0 else option_map (λ k. k + 1) o) (λ k. k < suc n)
within_more true o n h = omega arith
within_more false None n h = tt
within_more false (Some k) n h = omega arith

within_all : (xs : List (List ℕ)) (x : List ℕ) → IfSome (position x xs) (λ k. k < length xs)
within_all [] x = tt
within_all (y ∷ ys) x = within_more (same_bytes x y) (position x ys) (length ys) (within_all ys x)

-- a place is below the number of names
pub place_within : (xs : List (Bor Name)) (x : List ℕ) → IfSome (position x (map name_of xs)) (λ k. k < length xs)
place_within xs x =
    let P : ℕ → Type 0 = λ n. IfSome (position x (map name_of xs)) (λ k. k < n) in
    subst P (length-map xs name_of) (within_all (map name_of xs) x)

either_same : (a b r : Bool) → (IsTrue r → IsTrue a) → (a || b) ≡ (a || (r || b))
either_same true b r f = refl
either_same false b true f = absurd (let h : false ≡ true = f refl in cc)
either_same false b false f = refl

or_end : (a b : Bool) → ((a || (b || false))) ≡ (a || b)
or_end true b = refl
or_end false true = refl
or_end false false = refl

or_thrice : (a b c : Bool) → ((a || b) || c) ≡ (a || (b || c))
or_thrice true b c = refl
or_thrice false b c = refl

among_both : (xs ys : List (List ℕ)) (x : List ℕ) → is_among (xs ++ ys) x ≡ (is_among xs x || is_among ys x)
among_both [] ys x = refl
among_both (y ∷ xs) ys x = ap (λ r. same_bytes x y || r) (among_both xs ys x) ∙ sym (or_thrice (same_bytes x y) (is_among xs x) (is_among ys x))

with_one : (seen : List (List ℕ)) (x y : List ℕ) (r : Bool) (b : Bool) → is_among seen y ≡ b → (is_among (if b then seen else seen ++ y ∷ []) x || r) ≡ (is_among seen x || (same_bytes x y || r))
with_one seen x y r true e = either_same (is_among seen x) r (same_bytes x y) (λ h. ap (is_among seen) ((bytes_decides x y).0 h) ∙ e)
with_one seen x y r false e = ap (λ b. b || r) (among_both seen (y ∷ []) x ∙ or_end (is_among seen x) (same_bytes x y)) ∙ or_thrice (is_among seen x) (same_bytes x y) r

or_false : (a : Bool) → a ≡ (a || false)
or_false true = refl
or_false false = refl

among_new : (seen xs : List (List ℕ)) (x : List ℕ) → is_among (and_new seen xs) x ≡ (is_among seen x || is_among xs x)
among_new seen [] x = or_false (is_among seen x)
among_new seen (y ∷ ys) x = among_new (if is_among seen y then seen else seen ++ y ∷ []) ys x ∙ with_one seen x y (is_among ys x) (is_among seen y) refl

new_both : (seen xs ys : List (List ℕ)) → and_new seen (xs ++ ys) ≡ and_new (and_new seen xs) ys
new_both seen [] ys = refl
new_both seen (x ∷ xs) ys = new_both (if is_among seen x then seen else seen ++ x ∷ []) xs ys

-- the locals, put together of names that stand once
pub locals_of : (r : Routine) (ss : List Site) (found once names result : List (List ℕ)) → ss ≡ sites r.body → found ≡ and_new [] (flat_map site_assigned ss) → once ≡ and_new [] r.params → names ≡ flat_map site_names ss → result ≡ and_new once (filter (is_among found) names) → result ≡ locals r
locals_of r ss found once names result es ef eo en er =
    let same : is_among (and_new [] (flat_map site_assigned ss)) ≡ is_among (flat_map site_assigned ss) = λ i x. among_new [] (flat_map site_assigned ss) x i in
    er
    ∙ ap (λ s. and_new s (filter (is_among found) names)) eo
    ∙ ap (λ s. and_new (and_new [] r.params) (filter (is_among s) names)) ef
    ∙ ap (λ t. and_new (and_new [] r.params) (filter t names)) same
    ∙ ap (λ ns. and_new (and_new [] r.params) (filter (is_among (flat_map site_assigned ss)) ns)) en
    ∙ sym (new_both [] r.params (filter (is_among (flat_map site_assigned ss)) (flat_map site_names ss)))
    ∙ ap (λ ts. and_new [] (r.params ++ filter (is_among (flat_map site_assigned ts)) (flat_map site_names ts))) es
