-- Each entry of a file that wasn't read was counted as a fault, and nothing else.
use Rattle.std.proofs.Common.{◌≡◌, ◌≢◌, ◌⊎◌, ℕ, ◌+◌, ◌-◌, ◌^◌, ◌<◌, ◌≤◌, ◌==◌, Bool, true, false, cond, List, [], ◌∷◌, length, refl, ap, sym, subst, ◌∙◌, inl, inr, arith}
use Rattle.std.proofs.lemmas.Bool.{cases_lt}
use Rattle.std.proofs.lemmas.List.Sums.{sum_by-cons}
use Rattle.grade_io.specs.Devices.{ShelfState, Rose}
use Rattle.grade_io.specs.Status.{number_of}
use Rattle.grade_io.specs.declared.status.Status.{Status}
use Rattle.grade_io.specs.declared.status.Status.TheVariants as status
use Rattle.class_text.specs.Entries.{Entry, count_of}
use Rattle.class_run.specs.Classes.{Class, Got, Unread, TooLong, Bytes, Shared, Tells}
use Rattle.class_run.specs.Listed.{AreEntries, FaultsIn, Gave}
use Rattle.class_run.specs.Outcomes.{RoseBy}

-- an entry of a file that wasn't read, and any other
abbrev IsOneOrNone : Entry → ℕ → ℕ → Type 0
IsOneOrNone x before now = ((x.status ≡ status.ReadFailed) × Rose before now) ⊎ ((x.status ≢ status.ReadFailed) × (now ≡ before))

other_number : (s : Status) → s ≢ status.ReadFailed → (number_of s == 5) ≡ false
other_number status.Correct differ = refl
other_number status.Corrected differ = refl
other_number status.NoCorrection differ = refl
other_number status.Spent differ = refl
other_number status.Refused differ = refl
other_number status.ReadFailed differ = absurd (differ refl)
other_number status.WriteFailed differ = refl
other_number status.NoMemory differ = refl
other_number status.Usage differ = refl
other_number status.StoreFailed differ = refl
other_number status.Rejected differ = refl

counted : (x : Entry) (xs : List Entry) (b : Bool) → (number_of x.status == 5) ≡ b → count_of status.ReadFailed (x ∷ xs) ≡ cond b 1 0 + count_of status.ReadFailed xs
counted x xs b e = sum_by-cons (λ y. cond (number_of y.status == 5) 1 0) x xs ∙ ap (λ y. cond y 1 0 + count_of status.ReadFailed xs) e

full_or_not : (n : ℕ) → (2 ^ 64 - 1 ≤ n) ⊎ (n < 2 ^ 64 - 1)
full_or_not n = elim (cases_lt n (2 ^ 64 - 1)) [
  | inl room ↦ inr room
  | inr full ↦ inl full
]

rose_or_last : (before now after n m : ℕ) → m ≡ 1 + n → Rose before now → now + n ≤ after → RoseBy m before after
rose_or_last before now after n m more rose rest =
    elim (full_or_not now) [
      | inl full ↦ inr (omega (arith, full, rest))
      | inr room ↦ inl (omega (arith, more, rose, rest, room))
    ]

refused : (s : Status) → s ≡ status.Refused → s ≢ status.ReadFailed
refused s is unread = cc

step : (x : Entry) (xs : List Entry) (before now after : ℕ) → IsOneOrNone x before now → RoseBy (count_of status.ReadFailed xs) now after
    → RoseBy (count_of status.ReadFailed (x ∷ xs)) before after
step x xs before now after (inl one) (inr last) = inr last
step x xs before now after (inr none) (inr last) = inr last
step x xs before now after (inl one) (inl rest) =
    let rose = one.1 in
    let more : count_of status.ReadFailed (x ∷ xs) ≡ 1 + count_of status.ReadFailed xs = counted x xs true (ap (λ s. number_of s == 5) one.0) in
    rose_or_last before now after (count_of status.ReadFailed xs) (count_of status.ReadFailed (x ∷ xs)) more rose rest
step x xs before now after (inr none) (inl rest) =
    let same : count_of status.ReadFailed (x ∷ xs) ≡ 0 + count_of status.ReadFailed xs = counted x xs false (other_number x.status none.0) in
    inl (omega (arith, same, none.1, rest))

is_one_or_none : (c : Class) (t : Shared) (first : ShelfState) (name : List ℕ) (x : Entry) (before now : ShelfState) (got : Got) → Gave first name got before now → Tells c t name got x
    → IsOneOrNone x before.faults now.faults
is_one_or_none c t first name x before now Unread gave tells = inl (tells.status_is, gave)
is_one_or_none c t first name x before now TooLong gave tells = inr (refused x.status tells.status_is, gave.still)
is_one_or_none c t first name x before now (Bytes text) gave tells = inr (tells.0, gave.still)

pub rose_by : (c : Class) (t : Shared) (first : ShelfState) (ns : List (List ℕ)) (xs : List Entry) (before after : ShelfState) → AreEntries c t first ns xs before after
    → RoseBy (count_of status.ReadFailed xs) before.faults after.faults
rose_by c t first [] [] before after same = let still : after.faults ≡ before.faults = ap (λ (s : ShelfState). s.faults) same in inl (omega arith)
rose_by c t first [] (x ∷ xs) before after so = absurd so
rose_by c t first (n ∷ ns) [] before after so = absurd so
rose_by c t first (n ∷ ns) (x ∷ xs) before after so =
    step x xs before.faults so.0.faults after.faults (is_one_or_none c t first n x before so.0 so.1.0.got so.1.0.gave so.1.0.tells)
    (rose_by c t first ns xs so.0 after so.1.1)

-- FAULTS BEHIND FETCHES

rose_on : (a b c : ℕ) → Rose a b → Rose b c → Rose a c
rose_on a b c one two = omega (arith, one, two)

-- faults are counted in fetches and in others behind them
pub joined : (k m n : ℕ) (a b c : ShelfState) → 0 < k → FaultsIn m a b → FaultsIn n b c → FaultsIn k a c
joined k m n a b c some (inl still) (inl also) = inl (also ∙ still)
joined k m n a b c some (inl still) (inr rose) = inr (some, subst (λ x. Rose x c.faults) still rose.1)
joined k m n a b c some (inr rose) (inl still) = inr (some, subst (λ x. Rose a.faults x) (sym still) rose.1)
joined k m n a b c some (inr rose) (inr more) = inr (some, rose_on a.faults b.faults c.faults rose.1 more.1)

pub unchanged : (m n : ℕ) (a b c : ShelfState) → m ≡ n → FaultsIn m a b → c.faults ≡ b.faults → FaultsIn n a c
unchanged m n a b c same (inl still) also = inl (also ∙ still)
unchanged m n a b c same (inr rose) also = inr (omega (arith, same, rose.0), subst (λ x. Rose a.faults x) (sym also) rose.1)

one_fault : (x : Entry) (before now : ShelfState) → IsOneOrNone x before.faults now.faults → FaultsIn 1 before now
one_fault x before now (inl one) = inr (omega arith, one.1)
one_fault x before now (inr none) = inl none.1

pub faults_in : (c : Class) (t : Shared) (first : ShelfState) (ns : List (List ℕ)) (xs : List Entry) (before after : ShelfState) → AreEntries c t first ns xs before after
    → FaultsIn (length ns) before after
faults_in c t first [] [] before after same = inl (ap (λ (s : ShelfState). s.faults) same)
faults_in c t first [] (x ∷ xs) before after so = absurd so
faults_in c t first (n ∷ ns) [] before after so = absurd so
faults_in c t first (n ∷ ns) (x ∷ xs) before after so =
    joined (length (n ∷ ns)) 1 (length ns) before so.0 after (omega arith)
    (one_fault x before so.0 (is_one_or_none c t first n x before so.0 so.1.0.got so.1.0.gave so.1.0.tells))
    (faults_in c t first ns xs so.0 after so.1.1)
