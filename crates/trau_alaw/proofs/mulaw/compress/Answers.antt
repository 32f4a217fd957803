use Rattle.std.proofs.Common.{◌≡◌, ℕ, ◌+◌, ◌/◌, ◌%◌, ◌<◌, ◌≤◌, ℤ, pos, ◌<ℤ◌, ◌≤ℤ◌, bit_xor, arith}
use Rattle.std.proofs.lemmas.Int.{ints, to_z-of_z}
use Rattle.trau_alaw.specs.Companding.{magnitude, IsOnlyOctet}
use Rattle.trau_alaw.specs.Mulaw.{mulaw, mulaw_least, mulaw_end}
use Rattle.trau_alaw.proofs.Laid.{octet_of-only}
use Rattle.trau_alaw.proofs.MuSegments.{IsAtMu}
use Rattle.trau_alaw.proofs.MuOctets.{only_octet}
use Rattle.trau_alaw.proofs.mulaw.compress.Goals as goal
use Rattle.trau_alaw.proofs.mulaw.compress.Goals.{then-x-lt0, else-x-lt0}

-- the octet of segment and step, below a sign
signed : (x : ℤ) (sign rest size : ℕ) → size ≡ magnitude x → rest < 128 →
    mulaw_least (rest / 16) (rest % 16) ≤ size → size < mulaw_end (rest / 16) (rest % 16) →
    sign + rest < 256 → (sign + rest) % 128 ≡ rest →
    (x <ℤ pos 0 → 128 ≤ sign + rest) → (pos 0 ≤ℤ x → sign + rest < 128) →
    IsOnlyOctet mulaw x (bit_xor (sign + rest) 255)
signed x sign rest size m h l u b e low high =
    let a : IsAtMu (rest / 16) (rest % 16) size = record { at_least = l; within = u } in
    only_octet x (sign + rest) b (rw (e, ← m) a) low high

pub returns-clause-only : goal.returns-clause-only
returns-clause-only c =
    let f = c.ranges.x in
    let m = simp to_z-of_z at c.magnitude_of.ensures.value in
    let s = c.segment_and_step.ensures in
    elim c.if-x-lt0.branch [
      | then-x-lt0 w ↦
          let e : c.if-x-lt0.sign ≡ 128 = w.sign-is in
          signed c.args.x c.if-x-lt0.sign c.segment_and_step.result c.magnitude_of.result m s.below s.at_least s.within
          (omega arith) (omega arith) (λ l. omega arith) (λ l. absurd (omega (arith, ints)))
      | else-x-lt0 w ↦
          let e : c.if-x-lt0.sign ≡ 0 = w.sign-is in
          signed c.args.x c.if-x-lt0.sign c.segment_and_step.result c.magnitude_of.result m s.below s.at_least s.within
          (omega arith) (omega arith) (λ l. absurd (omega (arith, ints))) (λ l. omega arith)
    ]

pub returns-clause-value : goal.returns-clause-value
returns-clause-value c =
    octet_of-only mulaw c.args.x _ (returns-clause-only c)
