-- Lists of octets, split at an octet.
use Rattle.std.specs.Prelude.{◌≡◌, ℕ, List, ◌∷◌, ◌++◌, eqb, false}
use Rattle.std.specs.List.{All}

-- none of these octets is that one
abbrev pub Lacks : ℕ → List ℕ → Type 0
Lacks octet octets = All (λ b. eqb b octet ≡ false) octets

-- the octets are `front`, then this octet, which isn't in `front`, then `back`
pub record SplitsAt (octet : ℕ) (octets front back : List ℕ) : Type 0 where
  pub front_lacks : Lacks octet front
  pub whole : octets ≡ front ++ octet ∷ back
