-- Going through the places of a line (results of private functions).
use Rattle.std.specs.Prelude.{◌≡◌, ◌≤◌, ℕ, List, [], ◌∷◌, Option, Some, None}
use Rattle.trau_orders.specs.declared.expected.Expected.{Expected}
use Rattle.trau_orders.specs.declared.order.Order.{Order}
use Rattle.trau_orders.specs.Grammar.{words_of, IsLine}
use Rattle.trau_orders.specs.Reasons.{places_of, Admits}

-- the places from a word on; without one the line's end
abbrev pub places_left : Option (List ℕ) → List (Option (List ℕ))
places_left None = places_of []
places_left (Some rest) = places_of (words_of rest)

-- a word is passed; the line's end stays
abbrev pub Passes : List (Option (List ℕ)) → Option (List ℕ) → List (Option (List ℕ)) → Type 0
Passes old None new = (old ≡ None ∷ []) × (new ≡ None ∷ [])
Passes old (Some word) new = old ≡ Some word ∷ new

-- the next place is one that is expected, and is passed
pub record IsAdmitted (expected : Expected) (old new : List (Option (List ℕ))) : Type 0 where
  pub place : Option (List ℕ)
  pub admits : Admits expected place
  pub passes : Passes old place new

-- the next place isn't one that is expected
pub record IsRefused (expected : Expected) (left : List (Option (List ℕ))) (place : Option (List ℕ)) : Type 0 where
  pub after : List (Option (List ℕ))
  pub next : left ≡ place ∷ after
  pub other : Admits expected place → ⊥

-- the line is that of an order with this stamp, which isn't below `least`
pub record IsLineFrom (line : List ℕ) (least stamp : ℕ) : Type 0 where
  pub order : Order
  pub is : IsLine line order
  pub same : order.stamp ≡ stamp
  pub low : least ≤ stamp
