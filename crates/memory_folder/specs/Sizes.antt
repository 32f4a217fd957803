-- How many octets a file has, and when one may be made.
use Rattle.std.specs.Prelude.{◌≡◌, ℕ, ◌<◌, ◌^◌, ◌-◌, Bool, true, List, [], length}
use Rattle.std.proofs.Common.{arith, zero, suc}
use Rattle.std.proofs.lemmas.List.{length-take, take_all}
use Rattle.trau_files.specs.declared.trunk.claims.FileIdentity.{FileIdentity}
use Rattle.trau_files.specs.declared.trunk.bays.Access.{Access}
use Rattle.trau_files.specs.declared.trunk.bays.Access.TheVariants.{Reading, Writing}
use Rattle.trau_files.specs.Files.{options_for}
use Rattle.memory_folder.specs.Memory.{StoredFile, bounded, disk_of, octets_on}

-- no file has 2^63 octets
pub bounded_length : (octets : List ℕ) → length (bounded octets) < 2 ^ 63
unfolding bounded
bounded_length octets = omega (arith, length-take (2 ^ 63 - 1) octets)

-- a file with fewer has all its octets
pub bounded_is : (octets : List ℕ) → length octets < 2 ^ 63 → bounded octets ≡ octets
unfolding bounded
bounded_is octets small = take_all (2 ^ 63 - 1) octets (omega (arith, small))

pub bounded_none : bounded [] ≡ []
bounded_none = bounded_is [] (omega arith)

small_on : (files : List StoredFile) (device number : ℕ) → length (octets_on files device number) < 2 ^ 63
small_on files zero number = bounded_length _
small_on files (suc device) number = omega arith

pub is_small : (files : List StoredFile) (f : FileIdentity) → length ((disk_of files).octets f) < 2 ^ 63
is_small files f = small_on files f.device f.inode

-- options that make a file are those that may
pub may_make : (access : Access) (may : Bool) → (options_for access may).create ≡ true → may ≡ true
may_make Reading may is = let no : ⊥ = cc in absurd no
may_make Writing may is = is
