-- The names of a list that were read so far.
use Rattle.std.proofs.Common.{◌≡◌, ◌≢◌, ℕ, ◌+◌, ◌<◌, ◌≤◌, true, List, [], ◌∷◌, ◌++◌, length, map, length-append, append-nil, refl, sym, ap, ◌∙◌, arith}
use Rattle.std.specs.List.{list_all}
use Rattle.std.proofs.lemmas.List.{length-map, map-append}
use Rattle.step_lines.specs.Lines.{ended}
use Rattle.step_lines.proofs.Apart.{all_append, two}
use Rattle.class_text.specs.Listings.{Lists, StopsAt, is_name}
use Rattle.class_text.proofs.Forks.{ended_push}

pub record AreRead (text : List ℕ) (names : List (List ℕ)) (rest : List ℕ) : Type 0 where
  pub cut : text ≡ ended names ++ rest
  pub named : list_all is_name names ≡ true
  pub few : length names ≤ 256

pub all_read : (text : List ℕ) (names : List (List ℕ)) (rest : List ℕ) → AreRead text names rest → rest ≡ [] → Lists text names
all_read text names rest so none = record {
  written = so.cut ∙ ap (λ r. ended names ++ r) none ∙ append-nil (ended names);
  named = so.named;
  few = so.few;
}

pub read_more : {S : Type 0} (bytes : S → List ℕ) (text : List ℕ) (old new : List S) (s : S) (rest name more : List ℕ) → AreRead text (map bytes old) rest
    → new ≡ old ++ s ∷ [] → bytes s ≡ name → is_name name ≡ true → rest ≡ name ++ (10 ∷ more) → length old < 256 → AreRead text (map bytes new) more
read_more bytes text old new s rest name more so pushed is good e room =
    let names : map bytes new ≡ map bytes old ++ name ∷ [] = ap (map bytes) pushed ∙ map-append bytes old (s ∷ []) ∙ ap (λ n. map bytes old ++ n ∷ []) is in
    rw names
    (record {
      cut = so.cut ∙ ap (λ t. ended (map bytes old) ++ t) e ∙ ended_push (map bytes old) name more;
      named = all_append is_name (map bytes old) (name ∷ []) so.named (two (is_name name) true good refl);
      few = omega (arith, length-append (map bytes old) (name ∷ []), length-map old bytes, room);
    })

-- the list stops where no further name stands, or where there are too many
pub stops_here : {S : Type 0} (bytes : S → List ℕ) (text : List ℕ) (names : List S) (rest : List ℕ) (line : ℕ) → AreRead text (map bytes names) rest → rest ≢ []
    → line ≡ length names + 1
    → ((name more : List ℕ) → is_name name ≡ true → rest ≡ name ++ (10 ∷ more) → length names ≡ 256) → StopsAt text line
stops_here bytes text names rest line so some is none = record {
  names = map bytes names;
  rest = rest;
  cut = so.cut;
  named = so.named;
  few = so.few;
  line_is = is ∙ ap (λ n. n + 1) (sym (length-map names bytes));
  some = some;
  no_more = λ name more good e. length-map names bytes ∙ none name more good e;
}
