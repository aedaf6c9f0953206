-- The last question of a search that is left unfinished isn't refuted.
use Rattle.std.proofs.Common.{◌≡◌, ℕ, ◌-◌, List, [], ◌∷◌, ◌++◌, Some, ap, refl}
use Rattle.cegis_loop.specs.Space.{Space}
use Rattle.cegis_loop.specs.State.{Question, First, Low, Fail, Told, Refuted, Open}
use Rattle.cegis_loop.specs.Order.{Asks, first_refuted, first_open, first_left, low_refuted}
use Rattle.cegis_loop.specs.Order.{any_refuted, low_open, low_left, fail_refuted, fail_open}
use Rattle.cegis_loop.specs.Order.{fail_left, Due, End, NoInput, NoChoice, Settled, Unfinished}
use Rattle.cegis_loop.specs.Order.{IsWholeSearch, left, closing_left}

-- the questions end with one that isn't refuted
pub record EndWithOpen {C : Type 0} (asked : List (Told C)) : Type 0 where
  pub front : List (Told C)
  pub last : Question C
  pub all : asked ≡ front ++ Open last ∷ []

abbrev EndsOpen : {C : Type 0} → List (Told C) → End C → Type 0
EndsOpen asked NoInput = Unit {0}
EndsOpen asked NoChoice = Unit {0}
EndsOpen asked (Settled c cases) = Unit {0}
EndsOpen asked Unfinished = EndWithOpen asked

-- one question more in front
on : {C : Type 0} (t : Told C) (asked : List (Told C)) (end : End C) → EndsOpen asked end → EndsOpen (t ∷ asked) end
on t asked NoInput h = tt
on t asked NoChoice h = tt
on t asked (Settled c cases) h = tt
on t asked Unfinished h = record { front = t ∷ h.front; last = h.last; all = ap (λ ts. t ∷ ts) h.all }

alone : {C : Type 0} (q : Question C) → EndWithOpen (Open q ∷ [])
alone q = record { front = []; last = q; all = refl }

ends_open : {C I : Type 0} {s : Space C I} {due : Due C} {ruled : ℕ} {before later : List I} {asked : List (Told C)} {end : End C}
    → Asks s due ruled before later asked end → EndsOpen asked end
ends_open first_refuted = tt
ends_open (first_open {rest = rest} {end = end} m h) = on (Open First) rest end (ends_open h)
ends_open first_left = alone First
ends_open (low_refuted {k = k} {cases = n} {rest = rest} {end = end} many h) = on (Refuted (Low (Some k) n)) rest end (ends_open h)
ends_open (any_refuted many) = tt
ends_open (low_open {bound = bound} {cases = n} {rest = rest} {end = end} many low h) = on (Open (Low bound n)) rest end (ends_open h)
ends_open (low_left {bound = bound} {cases = n} many) = alone (Low bound n)
ends_open fail_refuted = tt
ends_open (fail_open {c = c} {rest = rest} {end = end} f h) = on (Open (Fail c)) rest end (ends_open h)
ends_open (fail_left {c = c}) = alone (Fail c)

pub left_open : {C I : Type 0} {s : Space C I} {kept : List I} {asked : List (Told C)} → IsWholeSearch s kept asked Unfinished → EndWithOpen asked
left_open (left h) = ends_open h
left_open {s = s} (closing_left {asked = part} {c = c} {all = all} needs many whole) =
    record { front = part; last = Low (Some (s.cost c - 1)) all; all = whole }
