-- What four channels gave, and what is merged of it, block by block.
use Rattle.std.proofs.Common.{◌≡◌, ℕ, ◌*◌, ◌<◌, ◌≤◌, List, [], ◌∷◌, length, refl, ap, arith}
use Rattle.std.specs.Io.KnownBytes.{IsAtEnd}
use Rattle.std.proofs.KnownBytes.{Appends-nil, Consumes-nil}
use Rattle.std.proofs.lemmas.List.Elements.{All-nil}
use Rattle.trau_io.specs.Lines.{LineState}
use Rattle.trau_io.specs.Transfer.{Gives}
use Rattle.trau_bits.specs.Bits.{bits_of}
use Rattle.trau_bits.proofs.BitList.{length-bits_of}
use Rattle.trau_submux.specs.Channels.{IsMerged, subchannel}
use Rattle.trau_submux.specs.Lines.{Gains}
use Rattle.trau_submux.proofs.Channels.{length-subchannel}

-- n whole blocks of each line are taken, and what they make is written
pub record MergeSoFar (ups ups' : ℕ → LineState) (out out' : LineState) (n octets : ℕ) : Type 0 where
  pub given : ℕ → List ℕ
  pub whole : (j : ℕ) → j < 4 → length (given j) ≡ 40 * n
  pub octets_are : octets ≡ 160 * n
  pub gives : (j : ℕ) → j < 4 → Gives (ups j) (ups' j) (given j)
  pub calm : (j : ℕ) → j < 4 → (ups' j).faults ≡ (ups j).faults
  pub sent : List ℕ
  pub merged : IsMerged sent given
  pub gained : Gains out out' sent

-- before the first block
pub at_start : (ups : ℕ → LineState) (out : LineState) → MergeSoFar ups ups out out 0 0
at_start ups out = record {
  given = λ j. [];
  whole = λ j below. refl;
  octets_are = refl;
  gives = λ j below. record { read = Consumes-nil (ups j).to_come; written = refl; later = omega arith };
  calm = λ j below. refl;
  sent = [];
  merged = record {
    are_octets = All-nil (λ octet. octet < 256);
    carries = λ j below. none (subchannel j []) (bits_of []) (length-subchannel j []) (length-bits_of []);
  };
  gained = record { written = Appends-nil out.written; to_come = refl; calm = refl };
}
  where
    none : (xs ys : List ℕ) → length xs ≡ 2 * 0 → length ys ≡ 8 * 0 → xs ≡ ys
    none [] [] e f = refl
    none [] (y ∷ ys) e f = absurd (omega (arith, f))
    none (x ∷ xs) ys e f = absurd (omega (arith, e))

-- octets that are merged of so many octets of each channel are four times as many
pub length-merged : (octets : List ℕ) (chans : ℕ → List ℕ) (m : ℕ) → length (chans 0) ≡ m → IsMerged octets chans → length octets ≡ 4 * m
length-merged octets chans m long merged = omega (arith, length-subchannel 0 octets, ap length (merged.carries 0 (omega arith)), length-bits_of (chans 0), long)

-- what a line gave of a block in which one of the four failed
pub record PieceHolds (ups ups' : ℕ → LineState) (failed j : ℕ) (list : List ℕ) : Type 0 where
  pub gives : Gives (ups j) (ups' j) list
  pub part : length list ≤ 40
  pub unread : failed < j → list ≡ []
  pub fewer : j ≡ failed → length list < 40
  pub ended : j < failed → length list < 40 → IsAtEnd (ups' j).to_come
  pub calm : (j ≡ failed → ⊥) → (ups' j).faults ≡ (ups j).faults

pub record Piece (ups ups' : ℕ → LineState) (failed j : ℕ) : Type 0 where
  pub list : List ℕ
  pub holds : j < 4 → PieceHolds ups ups' failed j list
