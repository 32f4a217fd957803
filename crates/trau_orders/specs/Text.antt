-- The grammar of a text of orders, line by line (this project's profile).
use Rattle.std.specs.Prelude.{ℕ, ◌+◌, ◌-◌, ◌<◌, ◌≤◌, ◌≡◌, ◌⊎◌, ◌==◌, if◌then◌else◌, List, [], ◌∷◌, length, take}
use Rattle.std.specs.List.{onto_first}
use Rattle.std.proofs.Common.{get_or}
use Rattle.trau_orders.specs.declared.order.Order.{Order}
use Rattle.trau_orders.specs.Grammar.{IsLine}

-- the lines of a text: each ends with an LF, which the last one may lack
unfoldable pub text_lines : List ℕ → List (List ℕ)
text_lines [] = []
text_lines (b ∷ bs) = if b == 10 then [] ∷ text_lines bs else onto_first b (text_lines bs)

-- a text within the limits: at most 1,048,576 octets and at most 65,536 lines
abbrev pub IsWithin : List ℕ → Type 0
IsWithin text = (length text ≤ 1048576) × (length (text_lines text) ≤ 65536)

-- a text beyond the limits
abbrev pub IsBeyond : List ℕ → Type 0
IsBeyond text = (1048576 < length text) ⊎ (65536 < length (text_lines text))

-- the lines spell these orders one for one, and no stamp is below the previous one
pub record AreLines (lines : List (List ℕ)) (orders : List Order) : Type 0 where
  pub one_each : length lines ≡ length orders
  pub spelled : (k : ℕ) (d : Order) → k < length orders → IsLine (get_or lines k []) (get_or orders k d)
  pub rising : (k : ℕ) (d : Order) → k + 1 < length orders → (get_or orders k d).stamp ≤ (get_or orders (k + 1) d).stamp

-- an order may follow these: its stamp isn't below the last one's
abbrev pub IsNoEarlier : List Order → Order → Type 0
IsNoEarlier orders order = (d : Order) → 0 < length orders → (get_or orders (length orders - 1) d).stamp ≤ order.stamp

-- line n, counted from 1, is the first that isn't in the grammar: the lines before it spell orders, and together with
-- it they don't
pub record IsFirstBad (lines : List (List ℕ)) (n : ℕ) : Type 0 where
  pub at_least : 1 ≤ n
  pub at_most : n ≤ length lines
  pub before : List Order
  pub good : AreLines (take (n - 1) lines) before
  pub bad : (orders : List Order) → AreLines (take n lines) orders → ⊥

-- lines spell at most one list of orders
abbrev pub SpellsOneList : Type 0
SpellsOneList = (lines : List (List ℕ)) (orders others : List Order) → AreLines lines orders → AreLines lines others → orders ≡ others

-- lines that spell orders have no bad line
abbrev pub GoodOrBad : Type 0
GoodOrBad = (lines : List (List ℕ)) (orders : List Order) (n : ℕ) → AreLines lines orders → IsFirstBad lines n → ⊥

-- lines have at most one first bad line
abbrev pub HasOneFirst : Type 0
HasOneFirst = (lines : List (List ℕ)) (m n : ℕ) → IsFirstBad lines m → IsFirstBad lines n → m ≡ n
