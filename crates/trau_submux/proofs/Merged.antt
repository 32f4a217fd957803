-- Octets of a slot that come one behind the other.
use Rattle.std.proofs.Common.{◌≡◌, ℕ, ◌*◌, ◌<◌, ◌≤◌, List, ◌++◌, length, take, drop, sym, ap, ◌∙◌, arith}
use Rattle.std.proofs.lemmas.List.{length-take-le, take-append-drop, take_at}
use Rattle.std.proofs.lemmas.List.Elements.{All-append, All-take}
use Rattle.trau_bits.specs.Bits.{bits_of}
use Rattle.trau_bits.proofs.BitList.{length-bits_of}
use Rattle.trau_bits.proofs.Joined.{bits_of-append}
use Rattle.trau_submux.specs.Channels.{IsMerged, subchannel}
use Rattle.trau_submux.proofs.Channels.{length-subchannel, subchannel-append}

pub merged-append : (a b : List ℕ) (f g : ℕ → List ℕ) → IsMerged a f → IsMerged b g → IsMerged (a ++ b) (λ j. f j ++ g j)
merged-append a b f g first second = record {
  are_octets = All-append (λ octet. octet < 256) a b first.are_octets second.are_octets;
  carries = λ j below. subchannel-append j a b ∙ ap (λ l. l ++ subchannel j b) (first.carries j below) ∙ ap (λ l. bits_of (f j) ++ l) (second.carries j below)
      ∙ sym (bits_of-append (f j) (g j));
}

-- the octets of a slot that so many octets of each channel make
pub merged-take : (slot : List ℕ) (chans : ℕ → List ℕ) (m : ℕ) → length slot ≡ 160 → m ≤ 40 → ((j : ℕ) → j < 4 → length (chans j) ≡ 40) → IsMerged slot chans →
    IsMerged (take (4 * m) slot) (λ j. take m (chans j))
merged-take slot chans m is most each whole = record {
  are_octets = All-take (λ octet. octet < 256) (4 * m) slot whole.are_octets;
  carries = λ j below.
      let front = take (4 * m) slot in
      let chan = chans j in
      let n : length front ≡ 4 * m = length-take-le (4 * m) slot (omega arith) in
      let k : length (take m chan) ≡ m = length-take-le m chan (omega (arith, each j below)) in
      sym (take_at (subchannel j front) (subchannel j (drop (4 * m) slot)) (8 * m) (omega (arith, n, length-subchannel j front)))
      ∙ ap (take (8 * m)) (sym (subchannel-append j front (drop (4 * m) slot)) ∙ ap (subchannel j) (take-append-drop (4 * m) slot) ∙ whole.carries j below
      ∙ ap bits_of (sym (take-append-drop m chan)) ∙ bits_of-append (take m chan) (drop m chan))
      ∙ take_at (bits_of (take m chan)) (bits_of (drop m chan)) (8 * m) (omega (arith, k, length-bits_of (take m chan)));
}
