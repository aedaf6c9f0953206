-- Elements read one after another.
use Rattle.std.proofs.Common.{◌≡◌, List, [], ◌∷◌, ◌++◌, map, Option, Some, None, refl, ap, sym}
use Rattle.mpy_expressions.specs.declared.terminals.Terminal.{Terminal}
use Rattle.mpy_tree.specs.Options.{◌>>=◌}

-- with one element more
pub map-push : {E T : Type 0} (plain : E → T) (xs : List E) (e : E) → map plain (xs ++ (e ∷ [])) ≡ map plain xs ++ (plain e ∷ [])
map-push plain [] e = refl
map-push plain (x ∷ xs) e = ap (λ l. plain x ∷ l) (map-push plain xs e)

pub ahead-push : {E T : Type 0} (plain : E → T) (xs : List E) (e : E) (es : List T) → map plain (xs ++ (e ∷ [])) ++ es ≡ map plain xs ++ (plain e ∷ es)
ahead-push plain [] e es = refl
ahead-push plain (x ∷ xs) e es = ap (λ l. plain x ∷ l) (ahead-push plain xs e es)

-- an element before others, and elements before others
abbrev pub with_first : {X T : Type 0} → T → List T × List (Terminal X) → List T × List (Terminal X)
with_first e es = (e ∷ es.0, es.1)

abbrev pub with_ahead : {X T : Type 0} → List T → List T × List (Terminal X) → List T × List (Terminal X)
with_ahead xs es = (xs ++ es.0, es.1)

pub pushed : {E X T : Type 0} (plain : E → T) (o : Option (List T × List (Terminal X))) (xs : List E) (e : E) → ((o >>= λ es. Some (with_first (plain e) es)) >>= λ es. Some (with_ahead (map plain xs) es)) ≡ (o >>= λ es. Some (with_ahead (map plain (xs ++ (e ∷ []))) es))
pushed plain None xs e = refl
pushed plain (Some x) xs e = ap (λ es. Some (es, x.1)) (sym (ahead-push plain xs e x.0))
