-- The grammar of one order's line (this project's profile).
use Rattle.std.specs.Prelude.{◌≡◌, ℕ, ◌≤◌, pos, ◌≤ℤ◌, List, [], ◌∷◌, codes, decimal, eqb, unsigned_abs}
use Rattle.std.specs.List.{join_with_byte, slice_split}
use Rattle.trau_alaw.specs.declared.Law.{Law}
use Rattle.trau_alaw.specs.declared.Law.TheVariants.{A, Mu}
use Rattle.call_number.specs.CallNumber.{IsCallNumber}
use Rattle.trau_orders.specs.declared.order.DtxMode.{DtxMode}
use Rattle.trau_orders.specs.declared.order.DtxMode.TheVariants.{On, Off, Uplink}
use Rattle.trau_orders.specs.declared.order.What.{What}
use Rattle.trau_orders.specs.declared.order.What.TheVariants.{OpenCall, CloseCall, Bridge, Unbridge, Level, Dtx}
use Rattle.trau_orders.specs.declared.order.Order.{Order}

-- the word of a mode
abbrev pub mode_word : DtxMode → List ℕ
mode_word On = codes "on"
mode_word Off = codes "off"
mode_word Uplink = codes "uplink"

-- the word of a law; A-law has none
abbrev pub law_words : Law → List (List ℕ)
law_words A = []
law_words Mu = codes "mulaw" ∷ []

-- the words for what is ordered; numbers in decimal digits
abbrev pub words_for : What → List (List ℕ)
words_for (OpenCall c law) = codes "open" ∷ decimal c ∷ law_words law
words_for (CloseCall c) = codes "close" ∷ decimal c ∷ []
words_for (Bridge a b) = codes "bridge" ∷ decimal a ∷ decimal b ∷ []
words_for (Unbridge c) = codes "unbridge" ∷ decimal c ∷ []
words_for (Level c v) = codes "level" ∷ decimal c ∷ decimal (unsigned_abs v) ∷ []
words_for (Dtx c m) = codes "dtx" ∷ decimal c ∷ mode_word m ∷ []

-- the numbers are in their ranges
abbrev pub IsInRange : What → Type 0
IsInRange (OpenCall c law) = IsCallNumber c
IsInRange (CloseCall c) = IsCallNumber c
IsInRange (Bridge a b) = IsCallNumber a × IsCallNumber b
IsInRange (Unbridge c) = IsCallNumber c
IsInRange (Level c v) = IsCallNumber c × (pos 0 ≤ℤ v) × (v ≤ℤ pos 32767)
IsInRange (Dtx c m) = IsCallNumber c

-- the line of an order, without an LF: its stamp and its words, with one space between words
unfoldable pub order_line : Order → List ℕ
order_line order = join_with_byte 32 (decimal order.stamp ∷ words_for order.what)

-- a line of the grammar, and its order
pub record IsLine (line : List ℕ) (order : Order) : Type 0 where
  pub stamp : order.stamp ≤ 4294967294
  pub in_range : IsInRange order.what
  pub spelled : line ≡ order_line order

-- the words of a line, split at each space; a word may be empty
abbrev pub words_of : List ℕ → List (List ℕ)
words_of line = slice_split (λ b. eqb b 32) line

-- the words for what is ordered, whose numbers are in their ranges
pub record AreWords (words : List (List ℕ)) (what : What) : Type 0 where
  pub in_range : IsInRange what
  pub spelled : words ≡ words_for what
