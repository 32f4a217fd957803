-- The first 316 bits from a place on say whether a frame stands there, and what it says.
use Rattle.std.proofs.Common.{◌≡◌, ℕ, ◌+◌, ◌*◌, ◌<◌, Bool, true, false, List, get_or, sym, ◌∙◌, arith}
use Rattle.std.proofs.lemmas.Bool.{false_from_ne_true}
use Rattle.trau_frame.specs.Match.{bit_in, is_match, frame_at}
use Rattle.trau_frame.proofs.Matches.{match_zeros, match_ones, match_from, get_or-frame_at}
use Rattle.ccu_end.specs.Read.{down_frame_in, Alike}
use Rattle.ccu_end.proofs.Reading.{read-alike}

-- the first 316 bits from p on in one list are those from q on in the other
abbrev pub SameFrom : List ℕ → ℕ → List ℕ → ℕ → Type 0
SameFrom a p b q = (i : ℕ) → i < 316 → get_or a (p + i) 0 ≡ get_or b (q + i) 0

-- the same bits the other way round
pub same-back : (a : List ℕ) (p : ℕ) (b : List ℕ) (q : ℕ) → SameFrom a p b q → SameFrom b q a p
same-back a p b q h = λ i l. sym (h i l)

-- a match, or none, goes with its bits
pub match-carried : (a : List ℕ) (p : ℕ) (b : List ℕ) (q : ℕ) → SameFrom a p b q → is_match (bit_in a) p ≡ true → is_match (bit_in b) q ≡ true
match-carried a p b q h m =
    match_from (bit_in b) q
    (λ i l. sym (h i (omega arith)) ∙ match_zeros (bit_in a) p m i l)
    (λ row l r. sym (h (16 * row) (omega arith)) ∙ match_ones (bit_in a) p m row l r)

-- no truth value is both
pub both_ways : (b : Bool) → b ≡ true → b ≡ false → ⊥
both_ways b t f = cc

pub no_match-carried : (a : List ℕ) (p : ℕ) (b : List ℕ) (q : ℕ) → SameFrom a p b q → is_match (bit_in a) p ≡ false → is_match (bit_in b) q ≡ false
no_match-carried a p b q h m =
    false_from_ne_true _ (λ t. both_ways (is_match (bit_in a) p) (match-carried b q a p (same-back a p b q h) t) m)

-- so do the frame, and what it says
pub alike-at : (a : List ℕ) (p : ℕ) (b : List ℕ) (q : ℕ) → SameFrom a p b q → Alike (frame_at (bit_in a) p) (frame_at (bit_in b) q)
alike-at a p b q h = λ i l.
    get_or-frame_at (bit_in a) p i 0 (omega arith) ∙ h i l ∙ sym (get_or-frame_at (bit_in b) q i 0 (omega arith))

pub read-carried : (a : List ℕ) (p : ℕ) (b : List ℕ) (q : ℕ) → SameFrom a p b q → down_frame_in (frame_at (bit_in a) p) ≡ down_frame_in (frame_at (bit_in b) q)
read-carried a p b q h = read-alike (frame_at (bit_in a) p) (frame_at (bit_in b) q) (alike-at a p b q h)
