-- Ways that are joined, narrowed and divided.
use Rattle.std.proofs.Common.{◌≡◌, Bool, true, false, cond, List, [], ◌∷◌, ◌++◌, refl, sym}
use Rattle.std.proofs.Common.{Option, Some, None, ap, ◌∙◌}
use Rattle.std.specs.Prelude.{◌||◌, ◌&&◌, not}
use Rattle.std.proofs.lemmas.List.{map-append}
use Rattle.sym_values.specs.declared.value.SymValue.{SymValue}
use Rattle.sym_paths.specs.declared.path.Path.{Path}
use Rattle.sym_paths.specs.declared.slots.Slots.{Slots}
use Rattle.sym_paths.specs.Paths.{Way, arrival, way, ways, gone_way}
use Rattle.sym_paths.specs.Endings.{or_other}
use Rattle.sym_paths.specs.Sights.{gone_append, or_assoc}

abbrev pub the_way : Bool → List (SymValue Bool) → List Bool → Way
the_way b v s = record { gone = b; values = v; set = s }

pub same_way : {a b : Bool} {v w : List (SymValue Bool)} {x y : List Bool} → a ≡ b → v ≡ w → x ≡ y
    → the_way a v x ≡ the_way b w y
same_way {a} {b} {v} {w} {x} {y} p q r = cc

-- a way that is gone where one of two is
either_way : (slots : Slots) (x y : Way)
    → gone_way slots
    (the_way (x.gone || y.gone) (cond x.gone x.values y.values) (cond x.gone x.set y.set) ∷ [])
    ≡ gone_way slots (x ∷ y ∷ [])
either_way slots x y =
    elim x.gone as (λ (b : Bool). gone_way slots
    (the_way (b || y.gone) (cond b x.values y.values) (cond b x.set y.set) ∷ [])
    ≡ cond b (Some (arrival slots x)) (gone_way slots (y ∷ []))) [
      | true ↦ refl
      | false ↦ refl
    ]

pub joined_way : (slots : Slots) (x y w : Way) → w.gone ≡ (x.gone || y.gone)
    → w.values ≡ cond x.gone x.values y.values → w.set ≡ cond x.gone x.set y.set
    → gone_way slots (w ∷ []) ≡ gone_way slots (x ∷ y ∷ [])
joined_way slots x y w a b c =
    ap (λ (v : Way). gone_way slots (v ∷ [])) (same_way a b c) ∙ either_way slots x y

-- paths after others
pub ways_both : (slots : Slots) {B : Type 0} (rd : B → Bool) (xs ys : List (Path B))
    → gone_way slots (ways rd (xs ++ ys))
    ≡ or_other (gone_way slots (ways rd xs)) (gone_way slots (ways rd ys))
ways_both slots rd xs ys =
    ap (gone_way slots) (map-append (way rd) xs ys) ∙ gone_append slots (ways rd xs) (ways rd ys)

-- the path that stands for the last two
pub ways_last : (slots : Slots) {B : Type 0} (rd : B → Bool) (xs : List (Path B))
    (x y z : Path B)
    → gone_way slots (way rd z ∷ []) ≡ gone_way slots (way rd x ∷ way rd y ∷ [])
    → gone_way slots (ways rd (xs ++ z ∷ []))
    ≡ gone_way slots (ways rd ((xs ++ x ∷ []) ++ y ∷ []))
ways_last slots rd xs x y z e =
    let front = gone_way slots (ways rd xs) in
    let one = gone_way slots (way rd x ∷ []) in
    let two = gone_way slots (way rd y ∷ []) in
    let a : gone_way slots (ways rd ((xs ++ x ∷ []) ++ y ∷ []))
    ≡ or_other (gone_way slots (ways rd (xs ++ x ∷ []))) two =
    ways_both slots rd (xs ++ x ∷ []) (y ∷ []) in
    let b : gone_way slots (ways rd (xs ++ x ∷ [])) ≡ or_other front one =
    ways_both slots rd xs (x ∷ []) in
    let c : gone_way slots (way rd x ∷ way rd y ∷ []) ≡ or_other one two =
    gone_append slots (way rd x ∷ []) (way rd y ∷ []) in
    ways_both slots rd xs (z ∷ [])
    ∙ ap (or_other front) (e ∙ c)
    ∙ sym (or_assoc front one two)
    ∙ sym (a ∙ ap (λ o. or_other o two) b)

-- a conjunction with a bit that is known
pub and_true : (a b : Bool) → b ≡ true → a ≡ (a && b)
and_true true b e = sym e
and_true false b e = refl

pub and_false : (a b : Bool) → b ≡ false → b ≡ (a && b)
and_false true b e = refl
and_false false b e = e

pub ruleset known_bits = (and_true, and_false)

-- a way, where a bit holds besides
by_bits : {A : Type 0} (g t : Bool) (o : Option A)
    → cond (g && t) o None ≡ cond t (cond g o None) None
by_bits true true o = refl
by_bits true false o = refl
by_bits false true o = refl
by_bits false false o = refl

by_other : {A : Type 0} (g t : Bool) (o : Option A)
    → cond (g && not t) o None ≡ cond t None (cond g o None)
by_other true true o = refl
by_other true false o = refl
by_other false true o = refl
by_other false false o = refl

pub also_way : (slots : Slots) (x w : Way) (t : Bool) → w.gone ≡ (x.gone && t)
    → w.values ≡ x.values → w.set ≡ x.set
    → gone_way slots (w ∷ []) ≡ cond t (gone_way slots (x ∷ [])) None
also_way slots x w t a b c =
    ap (λ (v : Way). gone_way slots (v ∷ [])) (same_way a b c)
    ∙ by_bits x.gone t (Some (arrival slots x))

-- the two sides of a test, by the bits with which they are taken
pub yes_side : {A : Type 0} (a : Option A) (bit g t : Bool) (o : Option A)
    → a ≡ cond bit o None → bit ≡ (g && t) → a ≡ cond t (cond g o None) None
yes_side a bit g t o e h = e ∙ ap (λ b. cond b o None) h ∙ by_bits g t o

pub no_side : {A : Type 0} (a : Option A) (bit g t u : Bool) (o : Option A)
    → a ≡ cond bit o None → bit ≡ (g && u) → u ≡ not t → a ≡ cond t None (cond g o None)
no_side a bit g t u o e h k =
    e ∙ ap (λ b. cond b o None) (h ∙ ap (λ b. g && b) k) ∙ by_other g t o

-- and where there is no fault besides
neither : {A : Type 0} (t : Bool) → cond {A = Option A} t None None ≡ None
neither true = refl
neither false = refl

pub yes_fine : {A : Type 0} (f t u : Bool) (a b o : Option A) → u ≡ not f → b ≡ cond u o None
    → a ≡ cond t b None → a ≡ cond f None (cond t o None)
yes_fine true t u a b o k h e =
    e ∙ ap (λ i. cond t i None) (h ∙ ap (λ i. cond i o None) k) ∙ neither t
yes_fine false t u a b o k h e = e ∙ ap (λ i. cond t i None) (h ∙ ap (λ i. cond i o None) k)

pub no_fine : {A : Type 0} (f t u : Bool) (a b o : Option A) → u ≡ not f → b ≡ cond u o None
    → a ≡ cond t None b → a ≡ cond f None (cond t None o)
no_fine true t u a b o k h e =
    e ∙ ap (λ i. cond t None i) (h ∙ ap (λ i. cond i o None) k) ∙ neither t
no_fine false t u a b o k h e = e ∙ ap (λ i. cond t None i) (h ∙ ap (λ i. cond i o None) k)
