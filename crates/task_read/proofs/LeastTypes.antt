-- Each program that is entered so has a least set of facts.
use Rattle.std.proofs.Common.{◌≡◌, ℕ, zero, suc, ◌+◌, ◌<◌, ◌≤◌, Bool, true, false, List, length, take, get_or, refl, ◌∙◌, subst, arith, inl, inr}
use Rattle.std.specs.Prelude.{slice_set, if◌then◌else◌}
use Rattle.std.specs.List.{flat_map}
use Rattle.std.proofs.lemmas.Bool.{cases_lt}
use Rattle.std.proofs.lemmas.List.{length-map}
use Rattle.mpy_tree.specs.declared.typing.TypeSet.{TypeSet}
use Rattle.mpy_tree.specs.Entries.{Entry}
use Rattle.mpy_tree.specs.Syntax.{Routine}
use Rattle.mpy_tree.specs.TypeSets.{join, no_types, within}
use Rattle.mpy_tree.specs.SetTypes.{FactSet}
use Rattle.mpy_tree.specs.Flows.{IsLeast, flows}
use Rattle.mpy_tree.specs.Faults.{slots}
use Rattle.mpy_types.specs.declared.inflow.Inflow.{Inflow}
use Rattle.mpy_types.specs.declared.inflow.Source.TheVariants as source
use Rattle.mpy_types.specs.Inflows.{flow_inflows, inflow}
use Rattle.mpy_types.specs.Tables.{facts_by, type_at}
use Rattle.mpy_types.specs.Passes.{AllHold, AreLeast, Holds, IsBelow, IsPass, IsStep, are_none, lacking, types_from}
use Rattle.mpy_types.proofs.Every.{all_of}
use Rattle.mpy_types.proofs.Linked.{least_facts}
use Rattle.mpy_types.proofs.Raising.{least_reached, none_below, step_more}
use Rattle.mpy_types.proofs.SetLaws.{within_sound}

abbrev SomeStep : List TypeSet → Inflow → Type 0
SomeStep v f = (risen : Bool) × (w : List TypeSet) × IsStep risen v w f

a_step : (v : List TypeSet) (f : Inflow) → SomeStep v f
a_step v f = elim (cases_lt f.to (length v)) [
  | inl there ↦ by_test (within (types_from v f.from) (type_at v f.to)) refl there
  | inr beyond ↦ (false, v, (λ l. absurd (omega arith), refl))
]
  where
    by_test : (t : Bool) → within (types_from v f.from) (type_at v f.to) ≡ t → f.to < length v → SomeStep v f
    by_test true e l = (false, v, (λ m. within_sound (types_from v f.from) (type_at v f.to) e, refl))
    by_test false e l = (true, slice_set v f.to (join (type_at v f.to) (types_from v f.from)), (l, e, refl))

abbrev SomePass : List TypeSet → List Inflow → ℕ → Type 0
SomePass v fs n = (risen : Bool) × (w : List TypeSet) × IsPass risen v w fs n

a_pass : (v : List TypeSet) (fs : List Inflow) (n : ℕ) → n ≤ length fs → SomePass v fs n
a_pass v fs zero few = (
  false,
  v,
  record { below = λ u k q. q; many = refl; same = λ h. refl; settled = λ h. all_of (Holds v) (take 0 fs) tt; fewer = λ h. absurd cc },
)
a_pass v fs (suc n) few =
    let before = a_pass v fs n (omega arith) in
    let d = inflow 0 (source.Fixed no_types) in
    let step = a_step before.1 (get_or fs n d) in
    let risen = if step.0 then true else before.0 in
    let next : n + 1 ≡ suc n = omega arith in
    (risen, step.1, subst (IsPass risen v step.1 fs) next (step_more v before.1 step.1 fs n d before.0 (omega arith) before.2 step.0 risen step.2 refl))

abbrev SomeLeast : ℕ → List Inflow → Type 0
SomeLeast n fs = (w : List TypeSet) × AreLeast w n fs

-- below all sets by which the flows hold
abbrev AreBelow : ℕ → List Inflow → List TypeSet → Type 0
AreBelow n fs v = (u : List TypeSet) → length u ≡ n → AllHold u fs → IsBelow v u

after_pass : (n : ℕ) (v : List TypeSet) (fs : List Inflow) → length v ≡ n → AreBelow n fs v
    → ((w : List TypeSet) → lacking w < lacking v → length w ≡ n → AreBelow n fs w → SomeLeast n fs) → SomePass v fs (length fs) → SomeLeast n fs
after_pass n v fs many below more (false, w, pass) = (w, least_reached v w n fs false refl pass many below)
after_pass n v fs many below more (true, w, pass) = more w (pass.fewer refl) (pass.many ∙ many) (λ u h k. pass.below u k (below u h k))

-- passes until no type is new
passes : (fuel n : ℕ) (v : List TypeSet) (fs : List Inflow) → lacking v ≤ fuel → length v ≡ n → AreBelow n fs v → SomeLeast n fs
passes zero n v fs few many below =
    after_pass n v fs many below (λ w less m b. absurd (omega (arith, less, few))) (a_pass v fs (length fs) (omega arith))
passes (suc fuel) n v fs few many below =
    after_pass n v fs many below (λ w less m b. passes fuel n w fs (omega (arith, less, few)) m b) (a_pass v fs (length fs) (omega arith))

pub some_least : (p : List Routine) (e : Entry) → (F : FactSet) × IsLeast F p e
some_least p e =
    let none = are_none (slots p) in
    let fs = flat_map (flow_inflows p) (flows p e) in
    let least = passes (lacking none) (length (slots p)) none fs (omega arith) (length-map (slots p) (λ x. no_types)) (λ u h k. none_below (slots p) none u refl h) in
    (facts_by p least.0, least_facts least.0 p e (length (slots p)) fs least.1 refl refl)
