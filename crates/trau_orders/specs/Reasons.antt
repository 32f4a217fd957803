-- Why a line isn't that of an order: its first word that no order has there (this project's profile).
use Rattle.std.specs.Prelude.{◌≡◌, ℕ, ◌-◌, ◌<◌, ◌≤◌, ◌⊎◌, ◌↔◌, List, [], ◌∷◌, ◌++◌, Option, Some, None, if◌then◌else◌, ◌==◌, ◌&&◌, nat_le, nat_lt, slice_index, length, map, codes, decimal}
use Rattle.std.proofs.Common.{get_or}
use Rattle.call_number.specs.CallNumber.{IsCallNumber}
use Rattle.trau_orders.specs.declared.expected.Expected.{Expected}
use Rattle.trau_orders.specs.declared.expected.Expected.TheVariants as expected
use Rattle.trau_orders.specs.declared.expected.Verb.{Verb}
use Rattle.trau_orders.specs.declared.expected.Verb.TheVariants as verb
use Rattle.trau_orders.specs.declared.reason.Hint.{Hint}
use Rattle.trau_orders.specs.declared.reason.Hint.TheVariants.{OneSpace, NoComments, LfAlone, NoLeadingZeros}
use Rattle.trau_orders.specs.declared.order.DtxMode.{DtxMode}
use Rattle.trau_orders.specs.declared.order.Order.{Order}
use Rattle.trau_orders.specs.Grammar.{mode_word, words_for, words_of, IsInRange}
use Rattle.trau_orders.specs.Text.{text_lines, IsFirstBad}

abbrev pub verb_word : Verb → List ℕ
verb_word verb.Open = codes "open"
verb_word verb.Close = codes "close"
verb_word verb.Bridge = codes "bridge"
verb_word verb.Unbridge = codes "unbridge"
verb_word verb.Level = codes "level"
verb_word verb.Dtx = codes "dtx"

-- what the line of a verb has after its call
abbrev pub argument_of : Verb → Expected
argument_of verb.Open = expected.Law
argument_of verb.Close = expected.End
argument_of verb.Bridge = expected.Call
argument_of verb.Unbridge = expected.End
argument_of verb.Level = expected.Level
argument_of verb.Dtx = expected.Mode

-- the places of a line: one for each of its words, and one for its end
abbrev pub places_of : List (List ℕ) → List (Option (List ℕ))
places_of words = map Some words ++ None ∷ []

-- an empty line has no words
abbrev pub line_places : List ℕ → List (Option (List ℕ))
line_places [] = places_of []
line_places (b ∷ bs) = places_of (words_of (b ∷ bs))

-- what is expected admits this word, or the line's end
abbrev pub Admits : Expected → Option (List ℕ) → Type 0
Admits (expected.Stamp least) place = (n : ℕ) × (least ≤ n) × (n ≤ 4294967294) × (place ≡ Some (decimal n))
Admits expected.Verb place = (v : Verb) × (place ≡ Some (verb_word v))
Admits expected.Call place = (c : ℕ) × IsCallNumber c × (place ≡ Some (decimal c))
Admits expected.Law place = (place ≡ None) ⊎ (place ≡ Some (codes "mulaw"))
Admits expected.Level place = (n : ℕ) × (n ≤ 32767) × (place ≡ Some (decimal n))
Admits expected.Mode place = (m : DtxMode) × (place ≡ Some (mode_word m))
Admits expected.End place = place ≡ None

-- the line of an order whose stamp isn't below `least` begins with these places
pub record Begins (least : ℕ) (first : List (Option (List ℕ))) : Type 0 where
  pub order : Order
  pub low : least ≤ order.stamp
  pub high : order.stamp ≤ 4294967294
  pub in_range : IsInRange order.what
  pub rest : List (Option (List ℕ))
  pub whole : first ++ rest ≡ places_of (decimal order.stamp ∷ words_for order.what)

-- this place of a line is the first with which no order's line begins; what is expected is each word, and the end, with
-- which one does
pub record IsFirstWrong (least : ℕ) (line : List ℕ) (place : Option (List ℕ)) (what : Expected) : Type 0 where
  pub before : List (Option (List ℕ))
  pub after : List (Option (List ℕ))
  pub whole : line_places line ≡ before ++ place ∷ after
  pub good : Begins least before
  pub bad : Begins least (before ++ place ∷ []) → ⊥
  pub expected : (other : Option (List ℕ)) → Admits what other ↔ Begins least (before ++ other ∷ [])

-- `least` is the stamp of the last of these orders, or 0 if there is none
pub record IsLast (orders : List Order) (least : ℕ) : Type 0 where
  pub none : length orders ≡ 0 → least ≡ 0
  pub some : (d : Order) → 0 < length orders → (get_or orders (length orders - 1) d).stamp ≡ least

-- the first bad line of a text, and its first wrong place after the orders of the lines before it
pub record IsFirstFault (text : List ℕ) (n : ℕ) (place : Option (List ℕ)) (what : Expected) : Type 0 where
  pub line : IsFirstBad (text_lines text) n
  pub least : ℕ
  pub last : IsLast line.before least
  pub wrong : IsFirstWrong least (get_or (text_lines text) (n - 1) []) place what

-- what most often makes a word a wrong one: the first that holds of these. It is empty; it begins with `#`; it ends
-- with CR; it begins with 0, and another digit follows.
abbrev pub hint_of : List ℕ → Option Hint
hint_of word =
    if length word == 0 then Some OneSpace
    else if slice_index word 0 == 35 then Some NoComments
    else if slice_index word (length word - 1) == 13 then Some LfAlone
    else if slice_index word 0 == 48 && nat_lt 1 (length word) && nat_le 48 (slice_index word 1) && nat_le (slice_index word 1) 57 then Some NoLeadingZeros
    else None
