-- Four channels, of which no more blocks are taken.
use Rattle.std.proofs.Common.{◌≡◌, inl, ℕ, ◌*◌, ◌<◌, List, get_or, sym, ap, ◌∙◌, arith}
use Rattle.std.proofs.lemmas.List.{take_all}
use Rattle.trau_io.specs.Lines.{LineState}
use Rattle.trau_bits.specs.Bits.{bits_of}
use Rattle.trau_submux.specs.declared.join.MergeEnd.TheVariants.{Done}
use Rattle.trau_submux.specs.Merges.{Merges}
use Rattle.trau_submux.proofs.Pieces.{MergeSoFar}

-- so many blocks were taken that no more are
pub at_last : (u0 u1 : ℕ → LineState) (o0 o1 : LineState) (call n octets : ℕ) (left : List ℕ) → MergeSoFar u0 u1 o0 o1 n octets → n ≡ 4294967295 →
    ((j : ℕ) → j < 4 → get_or left j 0 ≡ 0) → Merges u0 u1 o0 o1 call (Done octets left)
at_last u0 u1 o0 o1 call n octets left so_far last none = record {
  given = so_far.given;
  gives = so_far.gives;
  ends = record {
    used = 40 * n;
    read = record {
      fewest = record { least = λ j below. omega (arith, so_far.whole j below); one = 0; below = omega arith; is = sym (so_far.whole 0 (omega arith)) };
      few = omega (arith, last);
      last = inl (omega (arith, last), so_far.whole);
    };
    octets_are = omega (arith, so_far.octets_are);
    left_are = λ j below. omega (arith, none j below, so_far.whole j below);
    sent = so_far.sent;
    merged = record {
      are_octets = so_far.merged.are_octets;
      carries = λ j below. so_far.merged.carries j below
          ∙ ap bits_of (sym (take_all (40 * n) (so_far.given j) (omega (arith, so_far.whole j below))));
    };
    gained = so_far.gained;
    calm = so_far.calm;
  };
}
