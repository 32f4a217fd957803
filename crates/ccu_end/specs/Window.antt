-- The frames found in one period of a downlink, by the bits of the period before and of this one (the window).
use Rattle.std.specs.Prelude.{◌≡◌, ℕ, ◌+◌, ◌-◌, ◌≤◌, ◌<◌, true, false, List, [], ◌∷◌}
use Rattle.trau_frame.specs.Match.{bit_in, is_match, frame_at}
use Rattle.ccu_end.specs.Read.{down_frame_in}
use Rattle.ccu_end.specs.Found.{FoundFrame}

-- no place from `first` on and before `high` matches
abbrev pub NoMatch : List ℕ → ℕ → ℕ → Type 0
NoMatch bits first high = (q : ℕ) → first ≤ q → q < high → is_match (bit_in bits) q ≡ false

-- the index in the window of place p of the line; the window's second half begins at place `base`
abbrev pub index_of : ℕ → ℕ → ℕ
index_of base p = p + 320 - base

-- no place from `low` on and before `high` has a frame whose bit 315 is in the window's second half or later
abbrev pub NoneNext : List ℕ → ℕ → ℕ → ℕ → Type 0
NoneNext window base low high = (q : ℕ) → low ≤ q → base ≤ q + 315 → q < high → is_match (bit_in window) (index_of base q) ≡ false

-- the first frame from `low` on whose bit 315 is in the second half
pub record IsNext (window : List ℕ) (base low : ℕ) (f : FoundFrame) : Type 0 where
  pub from : low ≤ f.place
  pub ends : base ≤ f.place + 315
  pub within : f.place < base + 5
  pub first : NoneNext window base low f.place
  pub match : is_match (bit_in window) (index_of base f.place) ≡ true
  pub says : f.frame ≡ down_frame_in (frame_at (bit_in window) (index_of base f.place))

-- all such frames, in order
abbrev pub AreNext : List ℕ → ℕ → ℕ → List FoundFrame → Type 0
AreNext window base low [] = NoneNext window base low (base + 5)
AreNext window base low (f ∷ fs) = IsNext window base low f × AreNext window base (f.place + 316) fs

-- the place after the first 316 bits of the last of them; `low` if there is none
abbrev pub low_after : ℕ → List FoundFrame → ℕ
low_after low [] = low
low_after low (f ∷ fs) = low_after (f.place + 316) fs
