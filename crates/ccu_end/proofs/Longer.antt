-- The frames of one period more are found behind those before it.
use Rattle.std.proofs.Common.{◌≡◌, ℕ, ◌+◌, ◌≤◌, ◌<◌, true, false, List, [], ◌∷◌, ◌++◌, length, length-append, sym, ◌∙◌, inl, inr, arith}
use Rattle.std.proofs.lemmas.Bool.{cases_lt, le-leb, leb-true, and_parts, and_from, false_from_ne_true}
use Rattle.std.proofs.lemmas.List.{get_or_append_left}
use Rattle.trau_frame.specs.Match.{bit_in, is_match}
use Rattle.ccu_end.specs.Found.{FoundFrame, is_found_at, FoundFrom}
use Rattle.ccu_end.specs.Window.{index_of, NoneNext, AreNext, low_after}
use Rattle.ccu_end.proofs.Alike.{SameFrom, both_ways, match-carried, no_match-carried, read-carried}

-- ---- found or not, by the match

-- a match that fits is found, and what is found matches and fits
found-from : (bits : List ℕ) (q : ℕ) → q + 316 ≤ length bits → is_match (bit_in bits) q ≡ true → is_found_at bits q ≡ true
found-from bits q l m = and_from _ _ (le-leb _ _ l) m

found-parts : (bits : List ℕ) (q : ℕ) → is_found_at bits q ≡ true → (q + 316 ≤ length bits) × (is_match (bit_in bits) q ≡ true)
found-parts bits q t = let parts = and_parts _ _ t in (leb-true _ _ parts.0, parts.1)

-- where nothing matches nothing is found, and the other way round
pub not_found : (bits : List ℕ) (q : ℕ) → (q + 316 ≤ length bits → is_match (bit_in bits) q ≡ false) → is_found_at bits q ≡ false
not_found bits q h = false_from_ne_true _ (λ t. let parts = found-parts bits q t in both_ways _ parts.1 (h parts.0))

pub no_match : (bits : List ℕ) (q : ℕ) → q + 316 ≤ length bits → is_found_at bits q ≡ false → is_match (bit_in bits) q ≡ false
no_match bits q l f = false_from_ne_true _ (λ t. both_ways _ (found-from bits q l t) f)

-- ---- behind a line

-- bits stay as they are when others come behind them
same-longer : (line more : List ℕ) (q : ℕ) → q + 316 ≤ length line → SameFrom line q (line ++ more) q
same-longer line more q l = λ i h. sym (get_or_append_left line more 0 (q + i) (omega arith))

found-longer : (line more : List ℕ) (q : ℕ) → is_found_at line q ≡ true → is_found_at (line ++ more) q ≡ true
found-longer line more q t =
    let parts = found-parts line q t in
    let l = parts.0 in
    let long = length-append line more in
    found-from (line ++ more) q (omega arith) (match-carried line q (line ++ more) q (same-longer line more q l) parts.1)

pub none-longer : (line more : List ℕ) (q : ℕ) → q + 316 ≤ length line → is_found_at line q ≡ false → is_found_at (line ++ more) q ≡ false
none-longer line more q l f =
    not_found (line ++ more) q (λ h. no_match-carried line q (line ++ more) q (same-longer line more q l) (no_match line q l f))

-- nothing more is found in the line from `low` on
abbrev pub NoneLeft : List ℕ → ℕ → Type 0
NoneLeft line low = (q : ℕ) → low ≤ q → is_found_at line q ≡ false

-- no frame is left behind the last
pub none-left : (line : List ℕ) (low : ℕ) (fs : List FoundFrame) → FoundFrom line low fs → NoneLeft line (low_after low fs)
none-left line low [] h = h
none-left line low (f ∷ fs) h = none-left line (f.place + 316) fs h.4

-- the frames of a longer line are the earlier ones and those behind them
pub found-more : (line more : List ℕ) (low : ℕ) (fs gs : List FoundFrame) → FoundFrom line low fs → FoundFrom (line ++ more) (low_after low fs) gs →
    FoundFrom (line ++ more) low (fs ++ gs)
found-more line more low [] gs h n = n
found-more line more low (f ∷ fs) gs h n =
    let parts = found-parts line f.place h.2 in
    let l = parts.0 in (
      h.0,
      (λ q a b. none-longer line more q (omega arith) (h.1 q a b)),
      found-longer line more f.place h.2,
      h.3 ∙ read-carried line f.place (line ++ more) f.place (same-longer line more f.place l),
      found-more line more (f.place + 316) fs gs h.4 n,
    )

-- ---- by the window

-- the window has the bits of every place whose bit 315 is one of the last 320 bits
pub record Shows (window line : List ℕ) (base : ℕ) : Type 0 where
  pub long : length line ≡ base + 320
  pub each : (q : ℕ) → base ≤ q + 315 → q < base + 5 → SameFrom window (index_of base q) line q

-- what the window shows is what the line has
none-shown : (window line : List ℕ) (base low high : ℕ) → Shows window line base → high ≤ base + 5 → NoneNext window base low high →
    ((q : ℕ) → low ≤ q → q + 316 ≤ base → is_match (bit_in line) q ≡ false) → (q : ℕ) → low ≤ q → q < high → is_found_at line q ≡ false
none-shown window line base low high s l n before = λ q a b. not_found line q (λ h. elim (cases_lt base (q + 316)) [
  | inl new ↦
      no_match-carried window (index_of base q) line q (s.each q (omega arith) (omega arith)) (n q a (omega arith) b)
  | inr old ↦ before q a old
])

-- so the frames of the window are those of the line
pub found-shown : (window line : List ℕ) (base low : ℕ) (fs : List FoundFrame) → Shows window line base → AreNext window base low fs →
    ((q : ℕ) → low ≤ q → q + 316 ≤ base → is_match (bit_in line) q ≡ false) → FoundFrom line low fs
found-shown window line base low [] s n before = λ q a.
    let long = s.long in
    not_found line q (λ h.
    let e : is_found_at line q ≡ false = none-shown window line base low (base + 5) s (omega arith) n before q a (omega arith) in
    no_match line q h e)
found-shown window line base low (f ∷ fs) s n before =
    let here = n.0 in
    let long = s.long in
    let from = here.from in
    let ends = here.ends in
    let within = here.within in
    let same = s.each f.place ends within in (
      from,
      none-shown window line base low f.place s (omega arith) here.first before,
      found-from line f.place (omega arith) (match-carried window (index_of base f.place) line f.place same here.match),
      here.says ∙ read-carried window (index_of base f.place) line f.place same,
      found-shown window line base (f.place + 316) fs s n.1 (λ q a b. absurd (omega arith)),
    )
