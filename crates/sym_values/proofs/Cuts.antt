-- Words cut from a list of bits.
use Rattle.std.proofs.Common.{◌≡◌, ◌≤◌, ℕ, zero, suc, ◌+◌, ◌*◌, List, [], ◌∷◌, ◌++◌, Some, length, take, drop, refl, sym, ap, ◌∙◌, arith, append_assoc, length-append, length-drop}
use Rattle.std.specs.Prelude.{replicate, slice_get}
use Rattle.std.proofs.Math.Nat.{suc-mul, zero-mul}
use Rattle.std.proofs.Math.Seq.{take-add}
use Rattle.std.proofs.lemmas.List.{append-nil, drop-drop, drop_at, length-take-le, take_at}
use Rattle.sym_values.specs.Forms.{joined, lengths}
use Rattle.sym_values.specs.Printed.{cut}
use Rattle.sym_values.proofs.Held.{take_read}

module _ {A : Type 0} where
  -- one word more
  pub cut_more : (w n : ℕ) (bs : List A) → cut w (n + 1) bs ≡ cut w n bs ++ take w (drop (n * w) bs) ∷ []
  cut_more w zero bs = ap (λ k. take w (drop k bs) ∷ []) (sym (zero-mul w))
  cut_more w (suc n) bs =
      let rest : cut w (n + 1) (drop w bs) ≡ cut w n (drop w bs) ++ take w (drop (n * w) (drop w bs)) ∷ [] = cut_more w n (drop w bs) in
      let step : suc n + 1 ≡ suc (n + 1) = omega arith in
      let far : w + n * w ≡ suc n * w = omega (arith, suc-mul n w) in
      let place : drop (n * w) (drop w bs) ≡ drop (suc n * w) bs = drop-drop (n * w) w bs ∙ ap (λ k. drop k bs) far in
      rw step (ap (λ ws. take w bs ∷ ws) (rest ∙ ap (λ y. cut w n (drop w bs) ++ take w y ∷ []) place))

  -- the words of a front of a list
  pub cut_joined : (w n : ℕ) (bs : List A) → joined (cut w n bs) ≡ take (n * w) bs
  cut_joined w zero bs = ap (λ k. take k bs) (sym (zero-mul w))
  cut_joined w (suc n) bs =
      let far : w + n * w ≡ suc n * w = omega (arith, suc-mul n w) in
      ap (λ v. take w bs ++ v) (cut_joined w n (drop w bs)) ∙ sym (take-add w (n * w) bs) ∙ ap (λ k. take k bs) far

  pub cut_widths : (w n : ℕ) (bs : List A) → n * w ≤ length bs → lengths (cut w n bs) ≡ replicate n w
  cut_widths w zero bs h = refl
  cut_widths w (suc n) bs h =
      let far = suc-mul n w in
      let head : length (take w bs) ≡ w = length-take-le w bs (omega arith) in
      let tail : lengths (cut w n (drop w bs)) ≡ replicate n w = cut_widths w n (drop w bs) (omega (arith, length-drop w bs)) in
      cc

  -- words are cut from their bits, whatever follows these
  pub cut_back : (w n : ℕ) (ws : List (List A)) (rest : List A) → lengths ws ≡ replicate n w → cut w n (joined ws ++ rest) ≡ ws
  cut_back w zero [] rest e = refl
  cut_back w zero (v ∷ ws) rest e = absurd cc
  cut_back w (suc n) [] rest e = absurd cc
  cut_back w (suc n) (v ∷ ws) rest e =
      let long : length v ≡ w = cc in
      let more : lengths ws ≡ replicate n w = cc in
      let split : (v ++ joined ws) ++ rest ≡ v ++ (joined ws ++ rest) = append_assoc v (joined ws) rest in
      let head : take w ((v ++ joined ws) ++ rest) ≡ v = ap (take w) split ∙ take_at v (joined ws ++ rest) w long in
      let tail : drop w ((v ++ joined ws) ++ rest) ≡ joined ws ++ rest = ap (drop w) split ∙ drop_at v (joined ws ++ rest) w long in
      let others : cut w n (joined ws ++ rest) ≡ ws = cut_back w n ws rest more in
      cc

  pub joined_long : (w n : ℕ) (ws : List (List A)) → lengths ws ≡ replicate n w → length (joined ws) ≡ n * w
  joined_long w zero [] e = sym (zero-mul w)
  joined_long w zero (v ∷ ws) e = absurd cc
  joined_long w (suc n) [] e = absurd cc
  joined_long w (suc n) (v ∷ ws) e =
      let long : length v ≡ w = cc in
      let more : lengths ws ≡ replicate n w = cc in
      let rest = joined_long w n ws more in
      omega (arith, length-append v (joined ws), suc-mul n w)

  joined_push : (ws : List (List A)) (w : List A) → joined (ws ++ w ∷ []) ≡ joined ws ++ w
  joined_push [] w = append-nil w
  joined_push (v ∷ ws) w = ap (λ u. v ++ u) (joined_push ws w) ∙ sym (append_assoc v (joined ws) w)

  -- the bits of one word more
  pub joined_step : (start out out' : List A) (ws : List (List A)) (i : ℕ) (v w : List A) → slice_get ws i ≡ Some w → v ≡ w → out ≡ start ++ joined (take i ws) → out' ≡ out ++ v
      → out' ≡ start ++ joined (take (i + 1) ws)
  joined_step start out out' ws i v w at same before now =
      let more : joined (take (i + 1) ws) ≡ joined (take i ws) ++ w = ap joined (take_read ws i w at) ∙ joined_push (take i ws) w in
      now ∙ ap (λ u. u ++ v) before ∙ ap (λ u. (start ++ joined (take i ws)) ++ u) same ∙ append_assoc start (joined (take i ws)) w ∙ ap (λ u. start ++ u) (sym more)

  -- one word more behind a place
  pub cut_step : (w from i : ℕ) (bs : List A) (words words' : List (List A)) (v : List A) → words ≡ cut w i (drop from bs) → v ≡ take w (drop (from + i * w) bs) → words' ≡ words ++ v ∷ []
      → words' ≡ cut w (i + 1) (drop from bs)
  cut_step w from i bs words words' v before one now =
      now ∙ ap (λ u. u ++ v ∷ []) before ∙ ap (λ u. cut w i (drop from bs) ++ u ∷ []) (one ∙ ap (take w) (sym (drop-drop (i * w) from bs))) ∙ sym (cut_more w i (drop from bs))
