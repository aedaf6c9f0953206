-- Words one after another, as many as a list may have items.
use Rattle.std.proofs.Common.{◌≡◌, ℕ, zero, suc, ◌+◌, ◌-◌, ◌*◌, ◌^◌, ◌<◌, ◌≤◌, Bool, true}
use Rattle.std.proofs.Common.{List, [], ◌∷◌, ◌++◌, length, map, take, replicate, Some, None, refl}
use Rattle.std.proofs.Common.{sym, ap, ◌∙◌, arith, length-append}
use Rattle.std.specs.Prelude.{nat_le, if◌then◌else◌}
use Rattle.std.specs.List.{flat_map, list_all}
use Rattle.std.proofs.lemmas.Bool.{le-leb}
use Rattle.std.proofs.lemmas.List.{length-replicate, take_at}
use Rattle.std.proofs.lemmas.List.Folds.{list_all-append}
use Rattle.bit_words.specs.Later.{values_from}
use Rattle.bit_words.specs.Words.{nat_of}
use Rattle.input_space.specs.ValueBits.{first, words_from}
use Rattle.input_space.proofs.Membership.{both, two}
use Rattle.coding_laws.proofs.Digits.{digits, length-digits, nat_digits}
use Rattle.coding_laws.proofs.Standing.{Stands, parts_stand, reads, rest_stands}

-- items, and others up to a number of them
abbrev pub padded : {A : Type 0} → ℕ → A → List A → List A
padded n d xs = xs ++ replicate (n - length xs) d

length-padded : {A : Type 0} (n : ℕ) (d : A) (xs : List A) → length xs ≤ n
    → length (padded n d xs) ≡ n
length-padded n d xs h =
    let a : length (padded n d xs) ≡ length xs + length (replicate (n - length xs) d) =
    length-append xs (replicate (n - length xs) d) in
    let b : length (replicate (n - length xs) d) ≡ n - length xs =
    length-replicate (n - length xs) d in
    omega arith

module _ {A : Type 0} (ok : A → Bool) (d : A) (one : ok d ≡ true) where
  all_alike : (n : ℕ) → list_all ok (replicate n d) ≡ true
  all_alike zero = refl
  all_alike (suc n) = two (ok d) (list_all ok (replicate n d)) one (all_alike n)

  all_padded : (n : ℕ) (xs : List A) → list_all ok xs ≡ true → list_all ok (padded n d xs) ≡ true
  all_padded n xs h =
      let more = replicate (n - length xs) d in
      list_all-append ok xs more
      ∙ two (list_all ok xs) (list_all ok more) h (all_alike (n - length xs))

first_padded : {A : Type 0} (n : ℕ) (d : A) (xs : List A)
    → first (length xs) (padded n d xs) ≡ Some xs
first_padded n d xs =
    let more = replicate (n - length xs) d in
    let a : length (xs ++ more) ≡ length xs + length more = length-append xs more in
    let enough : nat_le (length xs) (length (xs ++ more)) ≡ true =
    le-leb (length xs) (length (xs ++ more)) (omega arith) in
    let taken : take (length xs) (xs ++ more) ≡ xs = take_at xs more (length xs) refl in
    ap (λ b. if b then Some (take (length xs) (xs ++ more)) else None) enough ∙ ap Some taken

-- a list of items that are coded in words: its length, the words of the items, and others
abbrev pub coded_list : {A : Type 0} → (A → List Bool) → ℕ → A → List A → List Bool
coded_list code cap d xs = digits 5 (length xs) ++ flat_map code (padded cap d xs)

module _ {A : Type 0} (code : A → List Bool) (width : ℕ)
    (long : (x : A) → length (code x) ≡ width) where
  length-words : (xs : List A) → length (flat_map code xs) ≡ length xs * width
  length-words [] = omega arith
  length-words (x ∷ xs) =
      let a : length (code x ++ flat_map code xs) ≡ length (code x) + length (flat_map code xs) =
      length-append (code x) (flat_map code xs) in
      let b : length (code x) ≡ width = long x in
      let r : length (flat_map code xs) ≡ length xs * width = length-words xs in
      let m : suc (length xs) * width ≡ width + length xs * width = omega arith in
      omega (arith, a, b, r, m)

  pub length-coded_list : (cap : ℕ) (d : A) (xs : List A) → length xs ≤ cap
      → length (coded_list code cap d xs) ≡ 5 + cap * width
  length-coded_list cap d xs h =
      let a = length-append (digits 5 (length xs)) (flat_map code (padded cap d xs)) in
      let b = length-digits 5 (length xs) in
      let e = length-words (padded cap d xs) in
      let n = length-padded cap d xs h in
      a ∙ (λ i. b i + e i) ∙ (λ i. 5 + n i * width)

  module _ (read : List Bool → A) (ok : A → Bool)
      (back : (x : A) → ok x ≡ true → read (code x) ≡ x) where
    words_read : (vs : List Bool) (xs : List A) (start : ℕ) → list_all ok xs ≡ true
        → Stands vs start (flat_map code xs) → map read (words_from vs start width (length xs)) ≡ xs
    words_read vs [] start h s = refl
    words_read vs (x ∷ xs) start h s =
        let r = both (ok x) (list_all ok xs) h in
        let here = (parts_stand vs (code x) (flat_map code xs) start s).0 in
        let later = rest_stands vs (code x) (flat_map code xs) start width (long x) s in
        let one : read (values_from vs start width) ≡ x =
        ap read (reads vs (code x) start width (long x) here) ∙ back x r.0 in
        let others : map read (words_from vs (start + width) width (length xs)) ≡ xs =
        words_read vs xs (start + width) r.1 later in
        λ i. one i ∷ others i

    pub list_read : (vs : List Bool) (start cap : ℕ) (d : A) (xs : List A) → cap ≤ 16
        → length xs ≤ cap → ok d ≡ true → list_all ok xs ≡ true
        → Stands vs start (coded_list code cap d xs)
        → first (nat_of (values_from vs start 5)) (map read (words_from vs (start + 5) width cap))
        ≡ Some xs
    list_read vs start cap d xs low short one each s =
        let all = padded cap d xs in
        let front = digits 5 (length xs) in
        let five = length-digits 5 (length xs) in
        let here = (parts_stand vs front (flat_map code all) start s).0 in
        let later = rest_stands vs front (flat_map code all) start 5 five s in
        let small : length xs < 2 ^ 5 = omega arith in
        let many : nat_of (values_from vs start 5) ≡ length xs =
        ap nat_of (reads vs front start 5 five here)
        ∙ nat_digits 5 (length xs) small in
        let items : map read (words_from vs (start + 5) width cap) ≡ all =
        ap (λ n. map read (words_from vs (start + 5) width n)) (sym (length-padded cap d xs short))
        ∙ words_read vs all (start + 5) (all_padded ok d one cap xs each) later in
        (λ i. first (many i) (items i)) ∙ first_padded cap d xs
