-- The list of a class: the names of its files, each with byte 10 behind it.
use Rattle.std.specs.Prelude.{◌≡◌, ◌≢◌, ℕ, ◌+◌, ◌≤◌, Bool, true, ◌&&◌, nat_le}
use Rattle.std.specs.Prelude.{List, [], ◌∷◌, ◌++◌, length}
use Rattle.std.specs.List.{list_all}
use Rattle.step_lines.specs.Lines.{ended}

-- a visible byte of ASCII
abbrev pub is_name_byte : ℕ → Bool
is_name_byte c = nat_le 33 c && nat_le c 126

-- whether a name may be listed
abbrev pub is_name : List ℕ → Bool
is_name name =
    nat_le 1 (length name) && (nat_le (length name) 255 && list_all is_name_byte name)

-- the text lists these names
pub record Lists (text : List ℕ) (names : List (List ℕ)) : Type 0 where
  pub written : text ≡ ended names
  pub named : list_all is_name names ≡ true
  pub few : length names ≤ 256

-- The least line at which the text is no list: in front of it stand names, and there something else
-- than a further name with the end of its line, or a name too many.
pub record StopsAt (text : List ℕ) (line : ℕ) : Type 0 where
  pub names : List (List ℕ)
  pub rest : List ℕ
  pub cut : text ≡ ended names ++ rest
  pub named : list_all is_name names ≡ true
  pub few : length names ≤ 256
  pub line_is : line ≡ length names + 1
  pub some : rest ≢ []
  pub no_more : (name more : List ℕ) → is_name name ≡ true → rest ≡ name ++ (10 ∷ more)
      → length names ≡ 256
