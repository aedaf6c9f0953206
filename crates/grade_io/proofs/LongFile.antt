-- A file that is known to be too long, by its told bytes or by some.
use Rattle.std.proofs.Common.{◌≡◌, ◌+◌, ◌<◌, ℕ, List, length, replicate, Option, Some, None, arith, refl}
use Rattle.std.proofs.lemmas.Option.{same_Some}
use Rattle.std.proofs.lemmas.List.{length-replicate}

pub record LongFile (o : Option (List ℕ)) (most : ℕ) : Type 0 where
  pub bytes : List ℕ
  pub told : (file : List ℕ) → o ≡ Some file → bytes ≡ file
  pub long : most < length bytes

pub long_file : (o : Option (List ℕ)) (most : ℕ) → ((file : List ℕ) → o ≡ Some file → most < length file)
    → LongFile o most
long_file None most long = record {
  bytes = replicate (most + 1) 0;
  told = λ file e. cc;
  long = omega (arith, length-replicate {A = ℕ} (most + 1) 0);
}
long_file (Some xs) most long = record {
  bytes = xs;
  told = λ file e. same_Some xs file e;
  long = long xs refl;
}
