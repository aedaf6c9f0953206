-- What holds of a request that was read: its programs can be compared on all inputs.
use Rattle.std.proofs.Common.{◌≡◌, ◌∙◌, ℕ, zero, suc, ◌<◌, List, [], ◌∷◌, Option, Some, None, refl, inl, inr, sym, ap, subst, map, length, arith, Vec}
use Rattle.std.specs.declared.alloc.Global.{Global}
use Rattle.std.specs.List.{All}
use Rattle.std.proofs.lemmas.List.{length-map}
use Rattle.std.proofs.lemmas.Bool.{cases_lt}
use Rattle.std.proofs.lemmas.List.Elements.{All-cons, All-nil}
use Rattle.mpy_tree.specs.Entries.{Entry}
use Rattle.bounds_reader.specs.declared.bounds.Bounds.{Bounds}
use Rattle.input_space.specs.Inputs.{inputs}
use Rattle.input_space.specs.Tasks.{entry_at, result_type}
use Rattle.mpy_tree.specs.declared.typing.Ty.{Ty}
use Rattle.mpy_tree.specs.declared.typing.Ty.TheVariants as ty
use Rattle.task_read.specs.Sources.{Typed}
use Rattle.mpy_tree.specs.declared.value.Value.{Value}
use Rattle.mpy_tree.specs.Syntax.{Routine}
use Rattle.source_files.specs.Views.{texts_of}
use Rattle.task_read.specs.TypedPrograms.{IsTypedProgram}
use Rattle.test_picker.specs.declared.typed_list.Typed as code_typed
use Rattle.test_picker.specs.Choosing.{Chooses, none, more}
use Rattle.test_picker.specs.Programs.{GiveOneType, IsTypedFor, program_of}
use Rattle.pick_command.specs.Decisions.{Request, first_place, parts_step, programs_step, request_step, types_step}
use Rattle.pick_command.specs.Requests.{request_of, typed_of}
use Rattle.pick_command.specs.Weights.{AreTooLarge, most_counted}
use Rattle.pick_command.specs.declared.request.Request as code_request
use Rattle.pick_command.proofs.EntryWeights.{many_inputs}

-- TYPES

type_number : Option Ty → ℕ
type_number None = 0
type_number (Some ty.Int) = 1
type_number (Some ty.Bool) = 2
type_number (Some ty.List) = 3
type_number (Some ty.Text) = 4

type_of_number : ℕ → Option Ty
type_of_number zero = None
type_of_number (suc zero) = Some ty.Int
type_of_number (suc (suc zero)) = Some ty.Bool
type_of_number (suc (suc (suc zero))) = Some ty.List
type_of_number (suc (suc (suc (suc n)))) = Some ty.Text

by_number : (t : Option Ty) → type_of_number (type_number t) ≡ t
unfolding type_number type_of_number
by_number None = refl
by_number (Some ty.Int) = refl
by_number (Some ty.Bool) = refl
by_number (Some ty.List) = refl
by_number (Some ty.Text) = refl

-- types that can't differ are one
same_type : (a b : Option Ty) → ((a ≡ b → ⊥) → ⊥) → a ≡ b
same_type a b one = elim (cases_lt (type_number a) (type_number b)) [
  | inl less ↦ absurd (one (λ same. let numbers = ap type_number same in omega (arith, less, numbers)))
  | inr at_least ↦ elim (cases_lt (type_number b) (type_number a)) [
    | inl less ↦ absurd (one (λ same. let numbers = ap type_number same in omega (arith, less, numbers)))
    | inr other ↦ (
        let numbers : type_number a ≡ type_number b = omega (arith, at_least, other) in
        sym (by_number a) ∙ ap type_of_number numbers ∙ by_number b)
  ]
]

-- PROGRAMS

-- the programs are spelled by texts
record AreSpelled (k : Request) : Type 0 where
  text : List ℕ
  reference : IsTypedProgram text (entry_at k.bounds) k.reference.program k.reference.types
  texts : List (List ℕ)
  others : (programs_step first_place texts (entry_at k.bounds)).gives k.submissions

are_spelled : (texts : List (List ℕ)) (k : Request) → (parts_step texts).gives k → AreSpelled k
are_spelled [] k h = absurd h
are_spelled (a ∷ []) k h = absurd h
are_spelled (a ∷ text ∷ texts) k h =
    subst AreSpelled (sym h.second.second.second)
    (record { text = text; reference = h.second.given; texts = texts; others = h.second.second.given })

all_typed : (b : Bounds) (n : ℕ) (texts : List (List ℕ)) (ps : List code_typed.Typed)
    → (programs_step n texts (entry_at b)).gives (map typed_of ps) → All (IsTypedFor b) ps
all_typed b n texts [] h = All-nil (IsTypedFor b)
all_typed b n [] (p ∷ ps) h = absurd (cc)
all_typed b n (text ∷ texts) (p ∷ ps) h =
    let first : typed_of p ≡ h.first = cc h.second.second in
    let rest : map typed_of ps ≡ h.second.first = cc h.second.second in
    let here : IsTypedProgram text (entry_at b) (typed_of p).program (typed_of p).types =
    subst (λ q. IsTypedProgram text (entry_at b) q.program q.types) (sym first) h.given in
    All-cons (IsTypedFor b) p ps here.typing
    (all_typed b (suc n) texts ps (subst (programs_step (suc n) texts (entry_at b)).gives (sym rest) h.second.given))

all_one_type : (b : Bounds) (r : code_typed.Typed) (n : ℕ) (ps : List code_typed.Typed) (u : Unit)
    → (types_step b (typed_of r) n (map typed_of ps)).gives u → All (GiveOneType b r) ps
all_one_type b r n [] u h = All-nil (GiveOneType b r)
all_one_type b r n (p ∷ ps) u h =
    All-cons (GiveOneType b r) p ps
    (same_type (result_type b (typed_of p).program (typed_of p).types) (result_type b (typed_of r).program (typed_of r).types) h.given)
    (all_one_type b r (suc n) ps u h.second)

few_inputs : (k : Request) → AreSpelled k → (AreTooLarge k.bounds (k.reference ∷ k.submissions) → ⊥)
    → length (inputs k.bounds.params) < most_counted
few_inputs k spelled small = elim (cases_lt (length (inputs k.bounds.params)) most_counted) [
  | inl few ↦ few
  | inr many ↦ absurd (small (many_inputs k.bounds spelled.text k.reference k.submissions spelled.reference many))
]

-- the programs of a request can be compared on all inputs
pub record AreAsked (b : Bounds) (r : code_typed.Typed) (ps : List code_typed.Typed) : Type 0 where
  pub reference : IsTypedFor b r
  pub others : All (IsTypedFor b) ps
  pub one_type : All (GiveOneType b r) ps
  pub counted : length (inputs b.params) < most_counted

-- a request that was read, apart
record IsRead (texts : List (List ℕ)) (k : Request) : Type 0 where
  spelled : (parts_step texts).gives k
  unit : Unit
  same : (types_step k.bounds k.reference first_place k.submissions).gives unit
  small : AreTooLarge k.bounds (k.reference ∷ k.submissions) → ⊥

is_read : (texts : List (List ℕ)) (k : Request) → (request_step texts).gives k → IsRead texts k
is_read texts k h =
    subst (IsRead texts) (sym h.second.second.second)
    (record { spelled = h.given; unit = h.second.first; same = h.second.given; small = h.second.second.given })

pub are_asked : (texts : List (List ℕ)) (k : code_request.Request) → (request_step texts).gives (request_of k)
    → AreAsked k.bounds k.reference k.submissions
are_asked texts k h =
    let read = is_read texts (request_of k) h in
    let spelled = are_spelled texts (request_of k) read.spelled in
    record {
      reference = spelled.reference.typing;
      others = all_typed k.bounds first_place spelled.texts k.submissions spelled.others;
      one_type = all_one_type k.bounds k.reference first_place k.submissions read.unit read.same;
      counted = few_inputs (request_of k) spelled read.small;
    }

-- HOW MANY THEY ARE

programs_many : (n : ℕ) (texts : List (List ℕ)) (e : Entry) (ps : List Typed)
    → (programs_step n texts e).gives ps → length ps ≡ length texts
programs_many n [] e ps h = ap length h
programs_many n (text ∷ texts) e ps h =
    let rest = programs_many (suc n) texts e h.second.first h.second.given in
    ap length h.second.second ∙ ap suc rest

parts_many : (texts : List (List ℕ)) (k : Request) → (parts_step texts).gives k
    → length texts ≡ suc (suc (length k.submissions))
parts_many [] k h = absurd h
parts_many (a ∷ []) k h = absurd h
parts_many (a ∷ text ∷ texts) k h =
    let many = programs_many first_place texts (entry_at h.first) h.second.second.first h.second.second.given in
    ap (λ n. suc (suc n)) (sym many)
    ∙ ap (λ q. suc (suc (length q.submissions))) (sym h.second.second.second)

pub few_submissions : (xs : List (Vec ℕ Global)) (k : code_request.Request)
    → (parts_step (texts_of xs)).gives (request_of k)
    → length xs ≡ suc (suc (length k.submissions))
few_submissions xs k h =
    let all = parts_many (texts_of xs) (request_of k) h in
    let texts = length-map xs (λ v. v.items) in
    let programs = length-map k.submissions typed_of in
    omega (arith, all, texts, programs)

pub asked_many : (xs : List (Vec ℕ Global)) (k : code_request.Request)
    → (request_step (texts_of xs)).gives (request_of k)
    → length xs ≡ suc (suc (length k.submissions))
asked_many xs k h = few_submissions xs k (is_read (texts_of xs) (request_of k) h).spelled

-- the programs, in both views
pub programs_are : (ps : List code_typed.Typed)
    → map program_of ps ≡ map (λ (p : Typed). p.program) (map typed_of ps)
programs_are [] = refl
programs_are (p ∷ ps) = ap (λ z. program_of p ∷ z) (programs_are ps)

-- one mark for each program
pub marks_many : (b : Bounds) (r : List Routine) (cases : List (List Value))
    (ps : List (List Routine)) (end : List (List Value)) (marks : List ℕ)
    → Chooses b r cases ps end marks → length marks ≡ length ps
marks_many b r cases ps end marks (none _) = refl
marks_many b r cases ps end marks (more _ next _ p qs m ms adds rest) =
    ap suc (marks_many b r next qs end ms rest)
