-- Typed statements keep the types of locals.
use Rattle.std.proofs.Common.{◌≡◌, ℕ, zero, suc, Bool, true, false, ◌&&◌, List, [], ◌∷◌, ◌++◌, Option, Some, None, if◌then◌else◌, IsTrue, ℤ, refl, sym, ap, ◌∙◌, subst}
use Rattle.std.specs.Prelude.{is_some, length, nat_le, nat_lt}
use Rattle.std.specs.List.{All, list_all}
use Rattle.std.specs.declared.result.Result.{Result}
use Rattle.std.specs.declared.result.Result.TheVariants.{Ok, Err}
use lib.Pointwise.{bytes_decides}
use Rattle.mpy_tree.specs.declared.limits.Limits.{Limits}
use Rattle.mpy_tree.specs.declared.value.Value.{Value}
use Rattle.mpy_tree.specs.declared.value.Value.TheVariants as value
use Rattle.mpy_tree.specs.declared.operators.ArithOp.{ArithOp}
use Rattle.mpy_tree.specs.declared.operators.ArithOp.TheVariants.{Add, Sub, Mul, Floor, Rem, Power}
use Rattle.mpy_tree.specs.declared.outcome.Halted.{Halted}
use Rattle.mpy_tree.specs.declared.typing.Ty.{Ty}
use Rattle.mpy_tree.specs.declared.typing.Ty.TheVariants as ty
use Rattle.mpy_tree.specs.declared.typing.Slot.TheVariants as slot
use Rattle.mpy_tree.specs.Syntax.{Term, no_term, a_term, at, Action, Block, end, step, MaybeBlock, no_block, a_block, arm, Branches, no_arms, arm_and, Routine}
use Rattle.mpy_tree.specs.Syntax as ast
use Rattle.mpy_tree.specs.Values.{◌>>=◌, Locals, State, assign, with_local, same_bytes, fault, on_line}
use Rattle.mpy_tree.specs.declared.outcome.FaultKind.TheVariants.{Length}
use Rattle.mpy_tree.specs.Operations.{fits, arith, holds, index, put, append, members as members_of_value, numbers, characters}
use Rattle.mpy_tree.specs.Expressions.{Calls}
use Rattle.mpy_tree.specs.Statements.{Ran, Next, Broke, Continued, Returned, Failed, given, then_on, then_turn, store, tested, while_turns, for_turns, printed, kept_in, ended_by, value_at, local_at, set_by, set_at, set_at_by, run_block, run_action, run_arms, run_else}
use Rattle.mpy_tree.specs.TypeSets.{just, members, IsWithin}
use Rattle.mpy_tree.specs.SetTypes.{FactSet, types_in}
use Rattle.mpy_tree.specs.Sites.{Site, does, sites, inside, in_arms, in_last}
use Rattle.mpy_tree.specs.Flows.{site_flows}
use Rattle.mpy_tree.specs.Rules.{Slots, single, type_in, site_obeys, augment_obeys, put_obeys, is_sequence, is_type, member_of, arith_type, index_type}
use Rattle.mpy_tree.specs.Fitting.{type_of}
use Rattle.mpy_types.proofs.Every.{Every, every_of}
use Rattle.typed_programs.specs.Keeping.{IsFault, IsOf, IsFor, Gives, KeepTypes, Agrees, EndsWell, Settles, IsTyped}
use Rattle.typed_programs.proofs.FittingLists.{and_true}
use Rattle.typed_programs.proofs.Operators.{Fits, has_type, that_fits, arith_yields, index_yields, put_yields, append_yields, list_fits, one_fits}
use Rattle.typed_programs.proofs.Arguments.{is_type_some}
use Rattle.typed_programs.proofs.Expressions.{at_line, after, gives, local_gives}
use Rattle.typed_programs.proofs.OneType.{types_are, member_just, some_type, settled}

-- the types of x op= e
augment_types : (op : ArithOp) (o q : Option Ty) → augment_obeys op o q ≡ true → (t : Ty) × (u : Ty) × (o ≡ Some t) × (q ≡ Some u) × (arith_type op t u ≡ Some t)
augment_types op None q h = absurd (cc)
augment_types op (Some t) None h = absurd (cc)
augment_types op (Some t) (Some u) h = (t, u, refl, refl, is_type_some t (arith_type op t u) h)

sequence_types : (o : Option Ty) → is_sequence o ≡ true → (t : Ty) × (m : Ty) × (o ≡ Some t) × (member_of t ≡ Some m)
sequence_types None h = absurd (cc)
sequence_types (Some ty.Int) h = absurd (cc)
sequence_types (Some ty.Bool) h = absurd (cc)
sequence_types (Some ty.List) h = (ty.List, ty.Int, refl, refl)
sequence_types (Some ty.Text) h = (ty.Text, ty.Text, refl, refl)

numbers_operate : (op : ArithOp) → arith_type op ty.Int ty.Int ≡ Some ty.Int
numbers_operate Add = refl
numbers_operate Sub = refl
numbers_operate Mul = refl
numbers_operate Floor = refl
numbers_operate Rem = refl
numbers_operate Power = refl

pub every_left : {A : Type 0} (P : A → Type 0) (xs ys : List A) → Every P (xs ++ ys) → Every P xs
every_left P [] ys h = tt
every_left P (x ∷ xs) ys h = (h.0, every_left P xs ys h.1)

pub every_right : {A : Type 0} (P : A → Type 0) (xs ys : List A) → Every P (xs ++ ys) → Every P ys
every_right P [] ys h = h
every_right P (x ∷ xs) ys h = every_right P xs ys h.1

module _ (l : Limits) where
  pub for_slot : (o : Option Ty) (v : Value) (t : Ty) → o ≡ Some t → IsOf l t v → IsFor l o v
  for_slot o v t e h = let P : Option Ty → Type 0 = λ q. IsFor l q v in subst P (sym e) h

  operated_gives : (line : ℕ) (op : ArithOp) (v w : Value) (t u r : Ty) → IsOf l t v → IsOf l u w → arith_type op t u ≡ Some r → Gives (IsOf l r) (on_line line (arith l op v w))
  operated_gives line op v w t u r f g h =
      at_line l line r (arith l op v w)
      (arith_yields l op v w r (that_fits l t v f) (that_fits l u w g) (ap (λ z. arith_type op z (type_of w)) (has_type l t v f) ∙ ap (arith_type op t) (has_type l u w g) ∙ h))

  element_gives : (line : ℕ) (v k : Value) → IsOf l ty.List v → IsOf l ty.Int k → Gives (IsOf l ty.Int) (on_line line (index v k))
  element_gives line v k f g =
      at_line l line ty.Int (index v k)
      (index_yields l v k ty.Int (that_fits l ty.List v f) (ap (λ z. index_type z (type_of k)) (has_type l ty.List v f) ∙ ap (index_type ty.List) (has_type l ty.Int k g)))

  -- the members of what a `for` goes over
  numbers_for : (o : Option Ty) → o ≡ Some ty.Int → (zs : List ℤ) → list_all (fits l) zs ≡ true → Every (IsFor l o) (numbers zs)
  numbers_for o h [] f = tt
  numbers_for o h (z ∷ zs) f =
      let k = and_true (fits l z) (list_all (fits l) zs) f in
      (for_slot o (value.Int z) ty.Int h k.0, numbers_for o h zs k.1)

  characters_for : (o : Option Ty) → o ≡ Some ty.Text → nat_le 1 l.cap ≡ true → (cs : List ℕ) → Every (IsFor l o) (characters cs)
  characters_for o h f [] = tt
  characters_for o h f (c ∷ cs) = (for_slot o (value.Text (c ∷ [])) ty.Text h f, characters_for o h f cs)

  text_members : (o : Option Ty) → o ≡ Some ty.Text → (cs : List ℕ) → Fits l (value.Text cs) → Every (IsFor l o) (characters cs)
  text_members o h [] f = tt
  text_members o h (c ∷ cs) f = characters_for o h (one_fits l c cs f) (c ∷ cs)

  members_are : (line : ℕ) (v : Value) (o : Option Ty) (m : Ty) → Fits l v → member_of (type_of v) ≡ Some m → o ≡ Some m → Gives (Every (IsFor l o)) (on_line line (members_of_value v))
  members_are line (value.Int z) o m f e h = absurd (cc)
  members_are line (value.Bool z) o m f e h = absurd (cc)
  members_are line (value.List zs) o m f e h = numbers_for o (h ∙ sym e) zs (list_fits l zs f).1
  members_are line (value.Text cs) o m f e h = text_members o (h ∙ sym e) cs f

  module _ (S : Slots) (i : ℕ) where
    abbrev Well : Ran → Type 0
    Well = EndsWell l S i

    abbrev AgreesWith : State → Type 0
    AgreesWith s = Agrees l S i s.locals

    -- a local gets a value of its type
    assigned_at : (s : Locals) (x y : List ℕ) (v w : Value) (b : Bool) → Agrees l S i s → IsFor l (S i (slot.Local x)) v → same_bytes y x ≡ b → (if b then Some v else s y) ≡ Some w → IsFor l (S i (slot.Local y)) w
    assigned_at s x y v w true a h e k =
        let same : y ≡ x = (bytes_decides y x).0 e in
        let is : v ≡ w = cc in
        let P : List ℕ → Type 0 = λ z. IsFor l (S i (slot.Local z)) w in
        let Q : Value → Type 0 = λ u. IsFor l (S i (slot.Local x)) u in
        subst P (sym same) (subst Q is h)
    assigned_at s x y v w false a h e k = a y w k

    pub with_local_agrees : (s : Locals) (x : List ℕ) (v : Value) → Agrees l S i s → IsFor l (S i (slot.Local x)) v → Agrees l S i (with_local s x v)
    with_local_agrees s x v a h y w k = assigned_at s x y v w (same_bytes y x) a h refl k

    assign_agrees : (s : State) (x : List ℕ) (v : Value) → AgreesWith s → IsFor l (S i (slot.Local x)) v → AgreesWith (assign s x v)
    assign_agrees s x v a h = with_local_agrees s.locals x v a h

    store_well : (s : State) (x : List ℕ) (r : Result Value Halted) (t : Ty) → AgreesWith s → S i (slot.Local x) ≡ Some t → Gives (IsOf l t) r → Well (store s x r)
    store_well s x (Ok v) t a e h = assign_agrees s x v a (for_slot (S i (slot.Local x)) v t e h)
    store_well s x (Err k) t a e h = h

    returned_well : (s : State) (r : Result Value Halted) (t : Ty) → S i slot.Result ≡ Some t → Gives (IsOf l t) r → Well (given r (λ v. Returned (Some v) s))
    returned_well s (Ok v) t e h = for_slot (S i slot.Result) v t e h
    returned_well s (Err k) t e h = h

    -- what is printed, and a `return` alone
    behind_well : (b : Bool) (s : State) (h : Halted) → IsFault h.halt → AgreesWith s → Well (if b then Next s else Failed h)
    behind_well true s h f a = a
    behind_well false s h f a = f

    kept_well : (most line : ℕ) (s : State) (o : Option (List Value)) (v : Value) → AgreesWith s → Well (kept_in most line s o v)
    kept_well most line s None v a = a
    kept_well most line s (Some vs) v a = behind_well (nat_lt (length vs) most) (record { locals = s.locals; printed = Some (vs ++ v ∷ []) }) (fault Length line) tt a

    ended_well : (line : ℕ) (s : State) (o : Option (List Value)) → Well (ended_by line s o)
    ended_well line s None = tt
    ended_well line s (Some vs) = tt

    -- statements one after another, and turns
    then_well : (r : Ran) (k : State → Ran) → Well r → ((s : State) → AgreesWith s → Well (k s)) → Well (then_on r k)
    then_well (Next s) k h m = m s h
    then_well (Broke s) k h m = h
    then_well (Continued s) k h m = h
    then_well (Returned v s) k h m = h
    then_well (Failed f) k h m = h

    turn_well : (r : Ran) (k : State → Ran) → Well r → ((s : State) → AgreesWith s → Well (k s)) → Well (then_turn r k)
    turn_well (Next s) k h m = m s h
    turn_well (Broke s) k h m = h
    turn_well (Continued s) k h m = m s h
    turn_well (Returned v s) k h m = h
    turn_well (Failed f) k h m = h

    given_well : {A : Type 0} (P : A → Type 0) (r : Result A Halted) (k : A → Ran) → Gives P r → ((v : A) → P v → Well (k v)) → Well (given r k)
    given_well P (Ok v) k h m = m v h
    given_well P (Err f) k h m = h

    picked_well : (b : Bool) (r z : Ran) → Well r → Well z → Well (if b then r else z)
    picked_well true r z h k = h
    picked_well false r z h k = k

    tested_well : (P : Value → Type 0) (r : Result Value Halted) (o q : Ran) → Gives P r → Well o → Well q → Well (tested r o q)
    tested_well P (Ok v) o q h k m = picked_well (holds v) o q k m
    tested_well P (Err f) o q h k m = h

    -- a `while`, and a `for`
    while_well : (n : ℕ) (P : Value → Type 0) (test : State → Result Value Halted) (body : State → Ran) (line : ℕ) → ((s : State) → AgreesWith s → Gives P (test s)) → ((s : State) → AgreesWith s → Well (body s)) → (s : State) → AgreesWith s → Well (while_turns n test body line s)
    while_well zero P test body line h k s a = tested_well P (test s) _ _ (h s a) tt a
    while_well (suc n) P test body line h k s a =
        tested_well P (test s) _ _ (h s a)
        (turn_well (body s) (while_turns n test body line) (k s a) (while_well n P test body line h k)) a

    for_well : (vs : List Value) (n : ℕ) (x : List ℕ) (body : State → Ran) (line : ℕ) → Every (IsFor l (S i (slot.Local x))) vs → ((s : State) → AgreesWith s → Well (body s)) → (s : State) → AgreesWith s → Well (for_turns vs n x body line s)
    for_well [] n x body line h k s a = a
    for_well (v ∷ vs) zero x body line h k s a = tt
    for_well (v ∷ vs) (suc n) x body line h k s a =
        turn_well (body (assign s x v)) (for_turns vs n x body line) (k (assign s x v) (assign_agrees s x v a h.0)) (for_well vs n x body line h.1 k)

-- a statement obeys its rule, and what flows from it settles the type of its slot
abbrev pub IsFine : FactSet → List Routine → ℕ → Site → Type 0
IsFine F p i s = IsTrue (site_obeys (single F) p i s) × Every (Settles F p) (site_flows i s)

all_fine : (F : FactSet) (p : List Routine) (i : ℕ) (ss : List Site) → Every (IsTyped F p i) ss → Every (IsFine F p i) ss
all_fine F p i [] h = tt
all_fine F p i (s ∷ ss) h = ((h.0.0, every_of (Settles F p) (site_flows i s) h.0.1), all_fine F p i ss h.1)

module _ (l : Limits) (F : FactSet) (p : List Routine) (i : ℕ) (calls : Calls) (c : KeepTypes (single F) l p calls) where
  abbrev S : Slots
  S = single F

  -- what an expression and a local give in a statement
  value_gives : (s : State) (line : ℕ) → Agrees l S i s.locals → (e : Term) (t : Ty) → type_in S p i e ≡ Some t → Gives (IsOf l t) (value_at l calls s line e)
  value_gives s line a e t k = gives l S p calls c line i s.locals a e t k

  local_gives_at : (s : State) (line : ℕ) → Agrees l S i s.locals → (x : List ℕ) (t : Ty) → S i (slot.Local x) ≡ Some t → Gives (IsOf l t) (local_at l calls s line x)
  local_gives_at s line a x t k = local_gives l S p calls c line i s.locals a x t k

  -- x = e
  set_well : (s : State) (line : ℕ) (x : List ℕ) (e : Term) → Agrees l S i s.locals → IsTrue (is_some (type_in S p i e)) → IsWithin (types_in F p i e) (F i (slot.Local x)) × IsTrue (is_some (S i (slot.Local x))) → EndsWell l S i (store s x (value_at l calls s line e))
  set_well s line x e a h k =
      let t = some_type (type_in S p i e) h in
      store_well l S i s x (value_at l calls s line e) t.0 a
      (settled (types_in F p i e) (F i (slot.Local x)) t.0 (types_are F p i e t.0 t.1) k.0 k.1) (value_gives s line a e t.0 t.1)

  -- x op= e
  augment_well : (s : State) (line : ℕ) (x : List ℕ) (op : ArithOp) (e : Term) → Agrees l S i s.locals → augment_obeys op (S i (slot.Local x)) (type_in S p i e) ≡ true → EndsWell l S i (store s x (set_by l calls s line x (arith l op) e))
  augment_well s line x op e a h =
      let k = augment_types op (S i (slot.Local x)) (type_in S p i e) h in
      store_well l S i s x (set_by l calls s line x (arith l op) e) k.0 a k.2
      (after l line (IsOf l k.0) (IsOf l k.0) (local_at l calls s line x) _ (local_gives_at s line a x k.0 k.2)
      (λ v m. after l line (IsOf l k.1) (IsOf l k.0) (value_at l calls s line e) _ (value_gives s line a e k.1 k.3)
      (λ w n. operated_gives l line op v w k.0 k.1 k.0 m n k.4)))

  -- print(e)
  print_well : (s : State) (line : ℕ) (e : Term) → Agrees l S i s.locals → IsTrue (is_some (type_in S p i e)) → EndsWell l S i (given (value_at l calls s line e) (printed l.prints line s))
  print_well s line e a h =
      let t = some_type (type_in S p i e) h in
      given_well l S i (IsOf l t.0) (value_at l calls s line e) (printed l.prints line s) (value_gives s line a e t.0 t.1) (λ v f. kept_well l S i l.prints line s s.printed v a)

  -- return e
  give_well : (s : State) (line : ℕ) (e : Term) → Agrees l S i s.locals → IsTrue (is_some (type_in S p i e)) → IsWithin (types_in F p i e) (F i slot.Result) × IsTrue (is_some (S i slot.Result)) → EndsWell l S i (given (value_at l calls s line e) (λ v. Returned (Some v) s))
  give_well s line e a h k =
      let t = some_type (type_in S p i e) h in
      returned_well l S i s (value_at l calls s line e) t.0
      (settled (types_in F p i e) (F i slot.Result) t.0 (types_are F p i e t.0 t.1) k.0 k.1) (value_gives s line a e t.0 t.1)

  -- the types of x[k] = e
  put_types : (x : List ℕ) (k e : Term) → put_obeys S p i x k e ≡ true → (S i (slot.Local x) ≡ Some ty.List) × (type_in S p i k ≡ Some ty.Int) × (type_in S p i e ≡ Some ty.Int)
  put_types x k e h =
      let ks = is_type ty.Int (type_in S p i k) in
      let es = is_type ty.Int (type_in S p i e) in
      let m = and_true (is_type ty.List (S i (slot.Local x)) && ks) es h in
      let n = and_true (is_type ty.List (S i (slot.Local x))) ks m.0 in
      (is_type_some ty.List (S i (slot.Local x)) n.0, is_type_some ty.Int (type_in S p i k) n.1, is_type_some ty.Int (type_in S p i e) m.1)

  put_gives : (line : ℕ) (v k w : Value) → IsOf l ty.List v → IsOf l ty.Int k → IsOf l ty.Int w → Gives (IsOf l ty.List) (on_line line (put v k w))
  put_gives line v k w f g h = at_line l line ty.List (put v k w) (put_yields l v k w f g h)

  set_at_well : (s : State) (line : ℕ) (x : List ℕ) (k e : Term) → Agrees l S i s.locals → put_obeys S p i x k e ≡ true → EndsWell l S i (store s x (set_at l calls s line x k e))
  set_at_well s line x k e a h =
      let m = put_types x k e h in
      store_well l S i s x (set_at l calls s line x k e) ty.List a m.0
      (after l line (IsOf l ty.Int) (IsOf l ty.List) (value_at l calls s line e) _ (value_gives s line a e ty.Int m.2)
      (λ w f. after l line (IsOf l ty.List) (IsOf l ty.List) (local_at l calls s line x) _ (local_gives_at s line a x ty.List m.0)
      (λ v g. after l line (IsOf l ty.Int) (IsOf l ty.List) (value_at l calls s line k) _ (value_gives s line a k ty.Int m.1)
      (λ j n. put_gives line v j w g n f))))

  set_at_by_well : (s : State) (line : ℕ) (x : List ℕ) (k : Term) (op : ArithOp) (e : Term) → Agrees l S i s.locals → put_obeys S p i x k e ≡ true → EndsWell l S i (store s x (set_at_by l calls s line x k (arith l op) e))
  set_at_by_well s line x k op e a h =
      let m = put_types x k e h in
      store_well l S i s x (set_at_by l calls s line x k (arith l op) e) ty.List a m.0
      (after l line (IsOf l ty.List) (IsOf l ty.List) (local_at l calls s line x) _ (local_gives_at s line a x ty.List m.0)
      (λ v g. after l line (IsOf l ty.Int) (IsOf l ty.List) (value_at l calls s line k) _ (value_gives s line a k ty.Int m.1)
      (λ j n. after l line (IsOf l ty.Int) (IsOf l ty.List) (on_line line (index v j)) _ (element_gives l line v j g n)
      (λ old q. after l line (IsOf l ty.Int) (IsOf l ty.List) (value_at l calls s line e) _ (value_gives s line a e ty.Int m.2)
      (λ w r. after l line (IsOf l ty.Int) (IsOf l ty.List) (on_line line (arith l op old w)) _ (operated_gives l line op old w ty.Int ty.Int ty.Int q r (numbers_operate op))
      (λ new z. put_gives line v j new g n z))))))

  append_well : (s : State) (line : ℕ) (x : List ℕ) (e : Term) → Agrees l S i s.locals → (is_type ty.List (S i (slot.Local x)) && is_type ty.Int (type_in S p i e)) ≡ true → EndsWell l S i (store s x (set_by l calls s line x (append l) e))
  append_well s line x e a h =
      let n = and_true (is_type ty.List (S i (slot.Local x))) (is_type ty.Int (type_in S p i e)) h in
      let m = is_type_some ty.List (S i (slot.Local x)) n.0 in
      store_well l S i s x (set_by l calls s line x (append l) e) ty.List a m
      (after l line (IsOf l ty.List) (IsOf l ty.List) (local_at l calls s line x) _ (local_gives_at s line a x ty.List m)
      (λ v g. after l line (IsOf l ty.Int) (IsOf l ty.List) (value_at l calls s line e) _ (value_gives s line a e ty.Int (is_type_some ty.Int (type_in S p i e) n.1))
      (λ w r. at_line l line ty.List (append l v w) (append_yields l v w g r))))

  each_well : (s : State) (line : ℕ) (x : List ℕ) (e : Term) (body : State → Ran) → Agrees l S i s.locals → is_sequence (type_in S p i e) ≡ true → IsWithin (members (types_in F p i e)) (F i (slot.Local x)) × IsTrue (is_some (S i (slot.Local x))) → ((s : State) → Agrees l S i s.locals → EndsWell l S i (body s)) → EndsWell l S i (given (value_at l calls s line e >>= λ v. on_line line (members_of_value v)) (λ vs. for_turns vs l.turns x body line s))
  each_well s line x e body a h k b =
      let t = sequence_types (type_in S p i e) h in
      let m : members (types_in F p i e) ≡ just t.1 = ap members (types_are F p i e t.0 t.2) ∙ member_just t.0 t.1 t.3 in
      let o : S i (slot.Local x) ≡ Some t.1 = settled (members (types_in F p i e)) (F i (slot.Local x)) t.1 m k.0 k.1 in
      given_well l S i (Every (IsFor l (S i (slot.Local x)))) (value_at l calls s line e >>= λ v. on_line line (members_of_value v)) (λ vs. for_turns vs l.turns x body line s)
      (after l line (IsOf l t.0) (Every (IsFor l (S i (slot.Local x)))) (value_at l calls s line e) (λ v. on_line line (members_of_value v)) (value_gives s line a e t.0 t.2)
      (λ v q. members_are l line v (S i (slot.Local x)) t.1 (that_fits l t.0 v q) (ap member_of (has_type l t.0 v q) ∙ t.3) o))
      (λ vs q. for_well l S i vs l.turns x body line q b s a)

  mutual
    -- a typed body, from a state with values of the types, ends in such a state or with a value of the result's type
    pub block_well : (b : Block) → Every (IsFine F p i) (sites b) → (s : State) → Agrees l S i s.locals → EndsWell l S i (run_block l calls b s)
    block_well end h s a = a
    block_well (step (at line act) rest) h s a =
        then_well l S i (run_action l calls act line s) (run_block l calls rest) (action_well act line h.0 (every_left (IsFine F p i) (inside act) (sites rest) h.1) s a)
        (block_well rest (every_right (IsFine F p i) (inside act) (sites rest) h.1))

    action_well : (act : Action) (line : ℕ) → IsFine F p i (does line act) → Every (IsFine F p i) (inside act) → (s : State) → Agrees l S i s.locals → EndsWell l S i (run_action l calls act line s)
    action_well (ast.Assign x e) line f h s a = set_well s line x e a f.0 f.1.0
    action_well (ast.Augment x op e) line f h s a = augment_well s line x op e a f.0
    action_well (ast.Put x k e) line f h s a = set_at_well s line x k e a f.0
    action_well (ast.AugmentAt x k op e) line f h s a = set_at_by_well s line x k op e a f.0
    action_well (ast.Append x e) line f h s a = append_well s line x e a f.0
    action_well (ast.Print e) line f h s a = print_well s line e a f.0
    action_well (ast.Return no_term) line f h s a = ended_well l S i line s s.printed
    action_well (ast.Return (a_term e)) line f h s a = give_well s line e a f.0 f.1.0
    action_well ast.Pass line f h s a = a
    action_well ast.Break line f h s a = a
    action_well ast.Continue line f h s a = a
    action_well (ast.If arms last) line f h s a =
        arms_well arms (every_left (IsFine F p i) (in_arms arms) (in_last last) h) (run_else l calls last s) s a (last_well last (every_right (IsFine F p i) (in_arms arms) (in_last last) h) s a)
    action_well (ast.While e body) line f h s a =
        let t = some_type (type_in S p i e) f.0 in
        while_well l S i l.turns (IsOf l t.0) (λ z. value_at l calls z line e) (run_block l calls body) line (λ z b. value_gives z line b e t.0 t.1) (block_well body h) s a
    action_well (ast.For x e body) line f h s a = each_well s line x e (run_block l calls body) a f.0 f.1.0 (block_well body h)

    arms_well : (arms : Branches) → Every (IsFine F p i) (in_arms arms) → (other : Ran) (s : State) → Agrees l S i s.locals → EndsWell l S i other → EndsWell l S i (run_arms l calls arms other s)
    arms_well no_arms h other s a m = m
    arms_well (arm_and (arm line e body) rest) h other s a m =
        let t = some_type (type_in S p i e) h.0.0 in
        tested_well l S i (IsOf l t.0) (value_at l calls s line e) (run_block l calls body s) (run_arms l calls rest other s) (value_gives s line a e t.0 t.1)
        (block_well body (every_left (IsFine F p i) (sites body) (in_arms rest) h.1) s a)
        (arms_well rest (every_right (IsFine F p i) (sites body) (in_arms rest) h.1) other s a m)

    last_well : (last : MaybeBlock) → Every (IsFine F p i) (in_last last) → (s : State) → Agrees l S i s.locals → EndsWell l S i (run_else l calls last s)
    last_well no_block h s a = a
    last_well (a_block body) h s a = block_well body h s a

  -- the same of a body each of whose statements is typed
  pub body_well : (b : Block) → All (IsTyped F p i) (sites b) → (s : State) → Agrees l S i s.locals → EndsWell l S i (run_block l calls b s)
  body_well b h s a = block_well b (all_fine F p i (sites b) (every_of (IsTyped F p i) (sites b) h)) s a
