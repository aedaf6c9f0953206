-- Each resolution has the type of one in which every ?$m is the first local.
use Rattle.std.proofs.Common.{◌≡◌, ℕ, zero, suc, ◌+◌, ◌-◌, ◌*◌, ◌/◌, ◌%◌, ◌<◌, ◌≤◌, Bool, true}
use Rattle.std.proofs.Common.{false, if◌then◌else◌, nat_lt, List, [], ◌∷◌, length, take}
use Rattle.std.proofs.Common.{slice_get, Option, Some, None, refl, sym, ap, ◌∙◌, arith}
use Rattle.std.specs.Prelude.{filter}
use Rattle.std.proofs.Math.Nat.{mul_assoc}
use Rattle.std.proofs.lemmas.List.{append-nil}
use Rattle.std.proofs.lemmas.Nat.{div-mul-add, mod-mul-add, mod_below}
use Rattle.std.proofs.lemmas.Bool.Decides.{nat_tests}
use Rattle.mpy_tree.specs.declared.typing.Ty.{Ty}
use Rattle.mpy_tree.specs.Trees as kind
use Rattle.mpy_tree.specs.Trees.{Kind, Tree, node, leaf}
use Rattle.choice_tree.specs.declared.rules.Meta.{Meta}
use Rattle.choice_tree.specs.Templates.{NodeTemplate, exactly, one_arith, one_comparison}
use Rattle.choice_tree.specs.Templates.{some_arith}
use Rattle.choice_tree.specs.Templates.{some_comparison, Template, Templates, made, hole, one_of}
use Rattle.choice_tree.specs.Templates.{some_local, no_templates, template_and}
use Rattle.choice_tree.specs.Typing.{Scope, locals_of, node_type, same_type, type_of}
use Rattle.choice_tree.specs.Typing.{types_of}
use Rattle.choice_tree.specs.Matching.{Bindings, Bound, a_term, an_operator}
use Rattle.choice_tree.specs.Drafts.{Draft, Drafts, bound_term, draft_and, filled, filled_all}
use Rattle.choice_tree.specs.Drafts.{locals_like, same_meta, term_in}
use Rattle.choice_tree.proofs.Types.{same_type_is}
use Rattle.eml_match.specs.Resolutions.{Locals, count, count_all, count_each, kind_at, kind_count}
use Rattle.eml_match.specs.Resolutions.{bound_locals, locals_for}
use Rattle.eml_match.specs.Resolutions.{of_kind, of_local, resolution, resolution_all}
use Rattle.eml_match.specs.Resolutions.{resolution_of}
use Rattle.eml_instances.specs.Substitutions.{locals_kept}
use Rattle.eml_instances.proofs.Digits.{right_some, quotient_below}

-- the locals that ?$m may be have one type
abbrev pub OneType : Scope → Locals → Type 0
OneType σ L =
    (m : Meta) (i j : ℕ) (x y : List ℕ) → slice_get (L m) i ≡ Some x → slice_get (L m) j ≡ Some y
    → type_of σ (leaf (kind.Name x)) ≡ type_of σ (leaf (kind.Name y))

like_type : (σ : Scope) (t : Tree) (xs : List (List ℕ)) (i : ℕ) (x : List ℕ)
    → slice_get (filter (λ x. same_type (type_of σ (leaf (kind.Name x))) (type_of σ t)) xs) i ≡
    Some x
    → type_of σ (leaf (kind.Name x)) ≡ type_of σ t
like_type σ t [] i x h = cc
like_type σ t (y ∷ ys) i x h =
    by_test (same_type (type_of σ (leaf (kind.Name y))) (type_of σ t)) refl i h
    (λ j g. like_type σ t ys j x g)
  where
    f : List ℕ → Bool
    f z = same_type (type_of σ (leaf (kind.Name z))) (type_of σ t)

    by_test : (b : Bool) → f y ≡ b → (i : ℕ)
        → slice_get (if f y then y ∷ filter f ys else filter f ys) i ≡ Some x
        → ((j : ℕ) → slice_get (filter f ys) j ≡ Some x
        → type_of σ (leaf (kind.Name x)) ≡ type_of σ t)
        → type_of σ (leaf (kind.Name x)) ≡ type_of σ t
    by_test false b i h rest = rest i (rw b at h)
    by_test true b (suc i) h rest = rest i (rw b at h)
    by_test true b zero h rest =
        let e : y ≡ x = (let g : slice_get (y ∷ filter f ys) 0 ≡ Some x = rw b at h in cc) in
        ap (λ z. type_of σ (leaf (kind.Name z))) (sym e)
        ∙ same_type_is (type_of σ (leaf (kind.Name y))) (type_of σ t) b

term_once : (x : Bound) → length (term_in x) ≤ 1
term_once (a_term t) = omega arith
term_once (an_operator k) = omega arith

either_once : (e : Bool) (xs ys : List Tree) → length xs ≤ 1 → length ys ≤ 1
    → length (if e then xs else ys) ≤ 1
either_once true xs ys h k = h
either_once false xs ys h k = k

bound_once : (β : Bindings) (m : Meta) → length (bound_term β m) ≤ 1
bound_once [] m = omega arith
bound_once (b ∷ bs) m =
    either_once (same_meta b.meta m) (term_in b.bound) (bound_term bs m) (term_once b.bound)
    (bound_once bs m)

of_one_term : (σ : Scope) (ts : List Tree) (i j : ℕ) (x y : List ℕ) → length ts ≤ 1
    → slice_get (bound_locals σ ts) i ≡ Some x → slice_get (bound_locals σ ts) j ≡ Some y
    → type_of σ (leaf (kind.Name x)) ≡ type_of σ (leaf (kind.Name y))
of_one_term σ [] i j x y h a b = cc
of_one_term σ (t ∷ []) i j x y h a b =
    let own = append-nil (locals_like σ t) in
    let ls = locals_of σ.program σ.number in
    like_type σ t ls i x (ap (λ xs. slice_get xs i) (sym own) ∙ a)
    ∙ sym (like_type σ t ls j y (ap (λ xs. slice_get xs j) (sym own) ∙ b))
of_one_term σ (t ∷ u ∷ ts) i j x y h a b = absurd (omega arith)

pub one_type : (σ : Scope) (β : Bindings) → OneType σ (locals_for σ β)
one_type σ β = λ m i j x y a b. of_one_term σ (bound_term β m) i j x y (bound_once β m) a b

-- one of a type, with first locals alone
pub record Like (p : Template) (σ : Scope) (L : Locals) (β : Bindings) (o : Option Ty)
    : Type 0 where
  pub number : ℕ
  pub within : number < count p (locals_kept false L) β
  pub same : o ≡ type_of σ (filled (resolution p (locals_kept false L) β number))

record LikeAll (ps : Templates) (σ : Scope) (L : Locals) (β : Bindings) (os : List (Option Ty))
    : Type 0 where
  pub number : ℕ
  pub within : number < count_all ps (locals_kept false L) β
  pub same : os ≡ types_of σ (filled_all (resolution_all ps (locals_kept false L) β number))

record LikeEach (ps : Templates) (σ : Scope) (L : Locals) (β : Bindings) (o : Option Ty)
    : Type 0 where
  pub number : ℕ
  pub within : number < count_each ps (locals_kept false L) β
  pub same : o ≡ type_of σ (filled (resolution_of ps (locals_kept false L) β number))

joined_below : (a c i n : ℕ) → a < c → i < n → a * n + i < c * n
joined_below a zero i n h k = absurd (omega arith)
joined_below zero (suc c) i n h k =
    let x : suc c * n ≡ c * n + n = grind arith in
    let y : 0 * n ≡ 0 = grind arith in omega (arith, x, y, k)
joined_below (suc a) (suc c) i n h k =
    let x : suc c * n ≡ c * n + n = grind arith in
    let y : suc a * n ≡ a * n + n = grind arith in
    let r = joined_below a c i n (omega arith) k in omega (arith, x, y, r)

-- two digits, put together
both_like : (p q : Template) (ps : Templates) (σ : Scope) (L : Locals) (β : Bindings)
    (o : Option Ty) (os : List (Option Ty)) → Like p σ L β o → LikeAll (template_and q ps) σ L β os
    → LikeAll (template_and p (template_and q ps)) σ L β (o ∷ os)
both_like p q ps σ L β o os a b =
    let K = locals_kept false L in
    let n = count_all (template_and q ps) K β in
    let r = a.number * n + b.number in
    let high : r / n ≡ a.number = div-mul-add a.number n b.number b.within in
    let low : r % n ≡ b.number = mod-mul-add a.number n b.number b.within in
    record {
      number = r;
      within = joined_below a.number (count p K β) b.number n a.within b.within;
      same = (λ i. a.same i ∷ b.same i)
          ∙ (λ i. type_of σ (filled (resolution p K β (sym high i)))
          ∷ types_of σ (filled_all (resolution_all (template_and q ps) K β (sym low i))));
    }

-- the type of a node of a kind that may be missing
of_one_type : (σ : Scope) (k : Option Kind) (d e : Draft) (ds es : Drafts)
    → type_of σ (filled d) ≡ type_of σ (filled e)
    → types_of σ (filled_all ds) ≡ types_of σ (filled_all es)
    → type_of σ (filled (of_kind k (draft_and d ds))) ≡ type_of σ (filled (of_kind k (draft_and e
    es)))
of_one_type σ None d e ds es h g = refl
of_one_type σ (Some k) d e ds es h g = λ i. node_type σ k (h i ∷ g i)

-- three digits: of the first part, of the kind, and of the other parts
three_like : (k : NodeTemplate) (p : Template) (ps : Templates) (σ : Scope) (L : Locals)
    (β : Bindings) (a i j : ℕ) (d : Draft) (ds : Drafts)
    → a < count p (locals_kept false L) β → i < kind_count β k
    → j < count_all ps (locals_kept false L) β
    → (r : ℕ) × (r < count p (locals_kept false L) β
    * (kind_count β k * count_all ps (locals_kept false L) β))
    × (r / count_all ps (locals_kept false L) β % kind_count β k ≡ i)
    × (r / count_all ps (locals_kept false L) β / kind_count β k ≡ a)
    × (r % count_all ps (locals_kept false L) β ≡ j)
three_like k p ps σ L β a i j d ds ha hi hj =
    let n = count_all ps (locals_kept false L) β in
    let m = kind_count β k in
    let c = count p (locals_kept false L) β in
    let s = a * m + i in
    let r = s * n + j in
    let outer : s < c * m = joined_below a c i m ha hi in
    let high : r / n ≡ s = div-mul-add s n j hj in (
      r,
      (let e : (c * m) * n ≡ c * (m * n) = mul_assoc c m n in
          let w = joined_below s (c * m) j n outer hj in omega (arith, e, w)),
      ap (λ x. x % m) high ∙ mod-mul-add a m i hi,
      ap (λ x. x / m) high ∙ div-mul-add a m i hi,
      mod-mul-add s n j hj,
    )

kinds_like : (k : NodeTemplate) (p : Template) (ps : Templates) (σ : Scope) (L : Locals)
    (β : Bindings) (i : ℕ) (d : Draft) (ds : Drafts) → i < kind_count β k
    → (a : Like p σ L β (type_of σ (filled d))) → (b : LikeAll ps σ L β (types_of σ (filled_all
    ds)))
    → (r : ℕ) × (r < count p (locals_kept false L) β
    * (kind_count β k * count_all ps (locals_kept false L) β))
    × (type_of σ (filled (of_kind (kind_at β k i) (draft_and d ds)))
    ≡ type_of σ (filled (of_kind
    (kind_at β k (r / count_all ps (locals_kept false L) β % kind_count β k))
    (draft_and (resolution p (locals_kept false L) β
    (r / count_all ps (locals_kept false L) β / kind_count β k))
    (resolution_all ps (locals_kept false L) β (r % count_all ps (locals_kept false L) β))))))
kinds_like k p ps σ L β i d ds h a b =
    let K = locals_kept false L in
    let t = three_like k p ps σ L β a.number i b.number d ds a.within h b.within in
    let e = resolution p K β a.number in
    let es = resolution_all ps K β b.number in (
      t.0,
      t.1,
      of_one_type σ (kind_at β k i) d e ds es a.same b.same
          ∙ (λ x. type_of σ (filled (of_kind (kind_at β k (sym t.2 x))
          (draft_and (resolution p K β (sym t.3 x)) (resolution_all ps K β (sym t.4 x)))))),
    )

local_like : (σ : Scope) (xs : List (List ℕ)) (r : ℕ)
    → ((i j : ℕ) (x y : List ℕ) → slice_get xs i ≡ Some x → slice_get xs j ≡ Some y
    → type_of σ (leaf (kind.Name x)) ≡ type_of σ (leaf (kind.Name y)))
    → r < length xs
    → (0 < length (take 1 xs))
    × (type_of σ (filled (of_local (slice_get xs r)))
    ≡ type_of σ (filled (of_local (slice_get (take 1 xs) 0))))
local_like σ [] r h below = absurd (omega arith)
local_like σ (x ∷ xs) r h below =
    let f = found (x ∷ xs) r below in (
      omega arith,
      ap (λ o. type_of σ (filled (of_local o))) f.1 ∙ h r 0 f.0 x f.1 refl,
    )
  where
    found : (ys : List (List ℕ)) (i : ℕ) → i < length ys → (y : List ℕ) × (slice_get ys i ≡ Some y)
    found [] i h = absurd (omega arith)
    found (y ∷ ys) zero h = (y, refl)
    found (y ∷ ys) (suc i) h = found ys i (omega arith)

-- of a set: in its first element, or behind it
first_like : (p : Template) (ps : Templates) (σ : Scope) (L : Locals) (β : Bindings)
    (o : Option Ty) → Like p σ L β o → LikeEach (template_and p ps) σ L β o
first_like p ps σ L β o a =
    let K = locals_kept false L in
    let w = a.within in
    let test : nat_lt a.number (count p K β) ≡ true = grind (arith, nat_tests) in
    record {
      number = a.number;
      within = omega (arith, w);
      same = a.same ∙ (λ i. type_of σ (filled (if sym test i then resolution p K β a.number
          else resolution_of ps K β (a.number - count p K β))));
    }

later_like : (p : Template) (ps : Templates) (σ : Scope) (L : Locals) (β : Bindings)
    (o : Option Ty) → LikeEach ps σ L β o → LikeEach (template_and p ps) σ L β o
later_like p ps σ L β o a =
    let K = locals_kept false L in
    let c = count p K β in
    let r = c + a.number in
    let w = a.within in
    let test : nat_lt r c ≡ false = grind (arith, nat_tests) in
    let back : r - c ≡ a.number = omega arith in
    record {
      number = r;
      within = omega (arith, w);
      same = a.same
          ∙ (λ i. type_of σ (filled (resolution_of ps K β (sym back i))))
          ∙ (λ i. type_of σ (filled (if sym test i then resolution p K β r
          else resolution_of ps K β (r - c))));
    }

in_set : (p : Template) (ps : Templates) (σ : Scope) (L : Locals) (β : Bindings) (r : ℕ)
    → r < count p L β + count_each ps L β
    → ((s : ℕ) → s < count p L β → Like p σ L β (type_of σ (filled (resolution p L β s))))
    → ((s : ℕ) → s < count_each ps L β
    → LikeEach ps σ L β (type_of σ (filled (resolution_of ps L β s))))
    → LikeEach (template_and p ps) σ L β
    (type_of σ (filled (resolution_of (template_and p ps) L β r)))
in_set p ps σ L β r h first later = by_test (nat_lt r (count p L β)) refl
  where
    by_test : (b : Bool) → nat_lt r (count p L β) ≡ b
        → LikeEach (template_and p ps) σ L β
        (type_of σ (filled (resolution_of (template_and p ps) L β r)))
    by_test true t =
        let below : r < count p L β = grind (arith, nat_tests) in
        rw t (first_like p ps σ L β (type_of σ (filled (resolution p L β r))) (first r below))
    by_test false t =
        let above : count p L β ≤ r = grind (arith, nat_tests) in
        rw t (later_like p ps σ L β
        (type_of σ (filled (resolution_of ps L β (r - count p L β))))
        (later (r - count p L β) (omega (arith, h))))

positive_parts : (a b r : ℕ) → r < a * b → (r / b < a) × (r % b < b)
positive_parts a b r h = (quotient_below r a b h, mod_below r b (right_some a b r h))

three_parts : (a k n r : ℕ) → r < a * (k * n)
    → (r / n / k < a) × (r / n % k < k) × (r % n < n)
three_parts a k n r h =
    let e : a * (k * n) ≡ (a * k) * n = sym (mul_assoc a k n) in
    let x = positive_parts (a * k) n r (omega (arith, e, h)) in
    let y = positive_parts a k (r / n) x.0 in (y.0, y.1, x.1)

mutual
  pub like : (p : Template) (σ : Scope) (L : Locals) (β : Bindings) (r : ℕ) → OneType σ L
      → r < count p L β → Like p σ L β (type_of σ (filled (resolution p L β r)))
  like (made (exactly k) ps) σ L β r t h =
      let a = like_all ps σ L β r t h in
      record { number = a.number; within = a.within; same = ap (node_type σ k) a.same }
  like (made (one_arith ops) no_templates) σ L β r t h =
      record { number = r; within = h; same = refl }
  like (made (one_comparison ops) no_templates) σ L β r t h =
      record { number = r; within = h; same = refl }
  like (made (some_arith m) no_templates) σ L β r t h =
      record { number = r; within = h; same = refl }
  like (made (some_comparison m) no_templates) σ L β r t h =
      record { number = r; within = h; same = refl }
  like (made (one_arith ops) (template_and p ps)) σ L β r t h =
      let k = one_arith ops in
      let n = count_all ps L β in
      let d = three_parts (count p L β) (kind_count β k) n r h in
      let x = kinds_like k p ps σ L β (r / n % kind_count β k)
      (resolution p L β (r / n / kind_count β k)) (resolution_all ps L β (r % n)) d.1
      (like p σ L β (r / n / kind_count β k) t d.0) (like_all ps σ L β (r % n) t d.2) in
      record { number = x.0; within = x.1; same = x.2 }
  like (made (one_comparison ops) (template_and p ps)) σ L β r t h =
      let k = one_comparison ops in
      let n = count_all ps L β in
      let d = three_parts (count p L β) (kind_count β k) n r h in
      let x = kinds_like k p ps σ L β (r / n % kind_count β k)
      (resolution p L β (r / n / kind_count β k)) (resolution_all ps L β (r % n)) d.1
      (like p σ L β (r / n / kind_count β k) t d.0) (like_all ps σ L β (r % n) t d.2) in
      record { number = x.0; within = x.1; same = x.2 }
  like (made (some_arith m) (template_and p ps)) σ L β r t h =
      let k = some_arith m in
      let n = count_all ps L β in
      let d = three_parts (count p L β) (kind_count β k) n r h in
      let x = kinds_like k p ps σ L β (r / n % kind_count β k)
      (resolution p L β (r / n / kind_count β k)) (resolution_all ps L β (r % n)) d.1
      (like p σ L β (r / n / kind_count β k) t d.0) (like_all ps σ L β (r % n) t d.2) in
      record { number = x.0; within = x.1; same = x.2 }
  like (made (some_comparison m) (template_and p ps)) σ L β r t h =
      let k = some_comparison m in
      let n = count_all ps L β in
      let d = three_parts (count p L β) (kind_count β k) n r h in
      let x = kinds_like k p ps σ L β (r / n % kind_count β k)
      (resolution p L β (r / n / kind_count β k)) (resolution_all ps L β (r % n)) d.1
      (like p σ L β (r / n / kind_count β k) t d.0) (like_all ps σ L β (r % n) t d.2) in
      record { number = x.0; within = x.1; same = x.2 }
  like (hole m) σ L β r t h = record { number = r; within = h; same = refl }
  like (one_of ps) σ L β r t h =
      let a = like_each ps σ L β r t h in
      record { number = a.number; within = a.within; same = a.same }
  like (some_local m) σ L β r t h =
      let x = local_like σ (L m) r (t m) h in
      record { number = 0; within = x.0; same = x.1 }

  like_all : (ps : Templates) (σ : Scope) (L : Locals) (β : Bindings) (r : ℕ) → OneType σ L
      → r < count_all ps L β
      → LikeAll ps σ L β (types_of σ (filled_all (resolution_all ps L β r)))
  like_all no_templates σ L β r t h = record { number = r; within = h; same = refl }
  like_all (template_and p no_templates) σ L β r t h =
      let a = like p σ L β r t h in
      record { number = a.number; within = a.within; same = ap (λ o. o ∷ []) a.same }
  like_all (template_and p (template_and q ps)) σ L β r t h =
      let n = count_all (template_and q ps) L β in
      let d = positive_parts (count p L β) n r h in
      both_like p q ps σ L β (type_of σ (filled (resolution p L β (r / n))))
      (types_of σ (filled_all (resolution_all (template_and q ps) L β (r % n))))
      (like p σ L β (r / n) t d.0) (like_all (template_and q ps) σ L β (r % n) t d.1)

  like_each : (ps : Templates) (σ : Scope) (L : Locals) (β : Bindings) (r : ℕ) → OneType σ L
      → r < count_each ps L β
      → LikeEach ps σ L β (type_of σ (filled (resolution_of ps L β r)))
  like_each no_templates σ L β r t h = absurd (omega arith)
  like_each (template_and p ps) σ L β r t h =
      in_set p ps σ L β r h (λ s below. like p σ L β s t below)
      (λ s below. like_each ps σ L β s t below)
